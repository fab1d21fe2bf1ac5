-- What a search knows of the transition that it is handed: its numbers, and its elements at their positions.
use mathlib.Core.Path.{◌≡◌, refl, sym, ap, ◌∙◌, subst}
use mathlib.Core.List.{List, [], ◌∷◌, map}
use Prim.Native.Nat.{ℕ, zero, suc, ◌+◌, ◌≤◌, ◌<◌}
use native.Mathlib.Omega.{arith}
use lib.ListN.{length, get_or, drop, length-map}
use Rattle.semantics.specs.Lists.{Every}
use Rattle.semantics.specs.Word.{payload, bits}
use Rattle.semantics.specs.Reading.{read, word}
use Rattle.semantics.specs.Net.{Arc, Element}
use Rattle.semantics.specs.ReadNet.{sort_of, read_element}
use Rattle.semantics.specs.Calls.{Situation}
use Rattle.semantics.proofs.Readers.{given}
use Rattle.semantics.proofs.Spans.{then-read}
use Rattle.net.proofs.Located.{At, transition-parts}
use Rattle.net.proofs.Placed.{word-here, variables-fit}
use Rattle.arrivals.specs.World.{World}
use Rattle.arrivals.proofs.Tries.{sound}

-- an element that was read: its sort is in the word at its position
pub record ElementRead (ws : List ℕ) (at : ℕ) (e : Element) : Type 0 where
  pub inside : at < length ws
  pub sort : e.sort ≡ sort_of (bits 8 9 (payload (get_or ws at 0))) (bits 0 7 (payload (get_or ws at 0)))

pub element-read : (ws : List ℕ) (at : ℕ) (e : Element) (next : ℕ) → read_element ws at ≡ read e next → ElementRead ws at e
unfolding read_element
element-read ws at e next h =
    then-read (word ws 0xA _ at) _ e next h λ p mid x y.
    let g = given (word-here ws 0xA _ at) x in
    let f : ◌≡◌ {A = Element} (record { position = at; sort = sort_of (bits 8 9 p) (bits 0 7 p) }) e = cc in
    record { inside = g.0.inside; sort = ap (λ (d : Element). d.sort) (sym f) ∙ ap (λ (q : ℕ). sort_of (bits 8 9 q) (bits 0 7 q)) g.0.same }

-- the element at a depth of the plan
pub record Next (ws elements : List ℕ) (plan : List Element) (depth : ℕ) : Type 0 where
  pub element : Element
  pub ahead : drop depth plan ≡ element ∷ drop (depth + 1) plan
  pub there : ElementRead ws (get_or elements depth 0) element

next-there : (ws : List ℕ) (es : List Element) → Every (At (read_element ws) (λ (e : Element). e.position)) es → (d : ℕ) → d < length es → Next ws (map (λ (e : Element). e.position) es) es d
next-there ws [] h d l = absurd (omega arith)
next-there ws (e ∷ es) h zero l = record { element = e; ahead = refl; there = element-read ws e.position e h.0.next h.0.reads }
next-there ws (e ∷ es) h (suc d) l =
    let n = next-there ws es h.1 d (omega arith) in
    let k : suc (d + 1) ≡ suc d + 1 = omega arith in
    record { element = n.element; ahead = n.ahead ∙ ap (λ (j : ℕ). n.element ∷ drop j (e ∷ es)) k; there = n.there }

module _ {ws ps : List ℕ} {position v : ℕ} {inputs conjuncts elements ms begins : List ℕ} {s : Situation} (W : World ws ps position v inputs conjuncts elements ms begins s) where
  pub few-variables : v ≤ 8
  few-variables = rw W.many (sound W).few-variables

  pub few-inputs : length inputs ≤ 8
  few-inputs = let l = ap length W.arcs ∙ length-map s.transition.inputs (λ (a : Arc). a.position) in let n = (sound W).few-inputs in omega arith

  pub ranges-fit : position + 1 + v ≤ length ws
  ranges-fit = rw W.many (variables-fit ws s.net.places position s.transition W.after W.there)

  pub as_many : length elements ≡ length s.transition.plan
  as_many = ap length W.plan ∙ length-map s.transition.plan (λ (e : Element). e.position)

  pub few_elements : length elements ≤ 8
  few_elements = let a = as_many in let n = (sound W).few_elements in omega arith

  pub next-element : (d : ℕ) → d < length elements → Next ws elements s.transition.plan d
  next-element d l =
      subst (λ (es : List ℕ). Next ws es s.transition.plan d) (sym W.plan)
      (next-there ws s.transition.plan (transition-parts ws s.net.places position s.transition W.after W.there).plan d (let a = as_many in omega arith))
