-- The arcs that leaves do not look up. Their words say that each takes one token, that its components are constants and lone variables, that no other input
-- arc has its place, and that an element matches it; so each is settled as semantics/proofs/Settled asks for it, and a leaf's binding is enabled exactly
-- where it is without those arcs.
use mathlib.Core.Path.{◌≡◌, refl, sym, ap, ◌∙◌, subst}
use mathlib.Core.Logic.{inl}
use mathlib.Core.List.{List, [], ◌∷◌, Memᴰ}
use mathlib.Core.Option.{some}
use Prim.Native.Nat.{ℕ, zero, suc, ◌+◌, ◌≤◌, ◌<◌}
use native.Mathlib.Omega.{arith}
use lib.IntN.{pos}
use lib.ListN.{length, get_or, get_elem?, drop}
use Rattle.semantics.specs.Lists.{Every}
use Rattle.semantics.specs.Word.{kind, payload, bits, signed}
use Rattle.semantics.specs.Expression.{Expression, constant, variable, binary, load}
use Rattle.semantics.specs.Reading.{read, several}
use Rattle.semantics.specs.Net.{Arc, Element, match}
use Rattle.semantics.specs.ReadNet.{sort_of, read_expression}
use Rattle.semantics.specs.Tries.{Partial}
use Rattle.semantics.specs.Calls.{Situation}
use Rattle.semantics.proofs.Spans.{several_split}
use Rattle.semantics.proofs.Spared.{Lone}
use Rattle.expression.proofs.Spelled.{HeadWord, head_of_tree}
use Rattle.expression.proofs.Laws.{first_word, variable-alone, constant-alone}
use Rattle.net.specs.Places.{width_at, places_at}
use Rattle.net.proofs.Placed.{places-length, width_at_lem}
use Rattle.net.proofs.Standing.{place_of, ArcParts, arc-parts, inputs-stand}
use Rattle.spares.specs.Spare.{Within, Spares, Unspared}
use Rattle.spares.proofs.Sparing.{out_at}
use Rattle.arrivals.specs.World.{World}
use Rattle.arrivals.proofs.Tries.{arc-inside, arc-here}
use Rattle.search.specs.Search.{Settling}
use Rattle.search.proofs.Worlds.{next-element}

-- ── Words ──

-- the word 0x70000001 is the constant 1, and stands alone
one-read : (ws : List ℕ) (v at : ℕ) (e : Expression) (next : ℕ) → read_expression ws v at ≡ read e next → get_or ws at 0 ≡ 0x70000001 → (e ≡ constant (pos 1)) × (next ≡ at + 1)
one-read ws v at e next h w = let a = constant-alone ws v at h (ap kind w) in (a.0 ∙ ap (λ (u : ℕ). constant (signed (payload u))) w, a.1)

-- an expression that does not begin with an operator is one word
lone-first : (ws : List ℕ) (v at : ℕ) (e : Expression) (next : ℕ) → read_expression ws v at ≡ read e next → HeadWord (get_or ws at 0) (head_of_tree e) → (kind (get_or ws at 0) ≡ 9 → ⊥) → Lone e × (next ≡ at + 1)
lone-first ws v at (constant z) next h w n = (tt, (constant-alone ws v at h w.0).1)
lone-first ws v at (variable k) next h w n = (tt, (variable-alone ws v at h w.0).1)
lone-first ws v at (binary o x y) next h w n = absurd (n w)
lone-first ws v at (load x) next h w n = absurd (n w)

-- so do several
lone-read : (ws : List ℕ) (v n at : ℕ) (es : List Expression) (next : ℕ) → several n (read_expression ws v) at ≡ read es next → ((i : ℕ) → i < n → kind (get_or ws (at + i) 0) ≡ 9 → ⊥) → Every Lone es
unfolding several
lone-read ws v zero at es next h f = let e : read [] at ≡ read es next = h in let d : [] ≡ es = cc in subst (Every Lone) d tt
lone-read ws v (suc n) at es next h f =
    let t = several_split (read_expression ws v) n at es next h in
    let z : at + 0 ≡ at = omega arith in
    let o = lone-first ws v at t.first t.mid t.reads (first_word ws v at t.reads) (subst (λ (k : ℕ). kind (get_or ws k 0) ≡ 9 → ⊥) z (f zero (omega arith))) in
    let m = o.1 in
    subst (Every Lone) (sym t.whole) (o.0, lone-read ws v n t.mid t.others next t.rest (λ i l. let q : at + suc i ≡ t.mid + i = omega arith in subst (λ (k : ℕ). kind (get_or ws k 0) ≡ 9 → ⊥) q (f (suc i) (omega arith))))

-- an ELEMENT word of the sort 0 is a match
match-sort : (w j : ℕ) → w ≡ 0xA0000000 + j → j < 8 → sort_of (bits 8 9 (payload w)) (bits 0 7 (payload w)) ≡ match j
match-sort w j e h = let a : bits 8 9 (payload w) ≡ 0 = omega arith in let b : bits 0 7 (payload w) ≡ j = omega arith in rw (a, b)

-- ── Elements ──

dropped_member : {A : Type 0} (l : List A) (i : ℕ) (x : A) (r : List A) → drop i l ≡ x ∷ r → Memᴰ x l
dropped_member l zero x r e = subst (λ y. Memᴰ x y) (sym e) (Memᴰ.head refl)
dropped_member [] (suc i) x r e = let n : ◌≡◌ {A = ℕ} 0 (suc (length r)) = ap length e in absurd (omega arith)
dropped_member (y ∷ l) (suc i) x r e = Memᴰ.tail (dropped_member l i x r e)

module _ {ws ps : List ℕ} {position v : ℕ} {inputs conjuncts elements ms begins : List ℕ} {s : Situation} (W : World ws ps position v inputs conjuncts elements ms begins s) where
  reading : (k : ℕ) (a : Arc) → get_elem? s.transition.inputs k ≡ some a → ArcParts ws (places_at ws ps) v (get_or inputs k 0) a
  reading k a e = arc-parts ws (places_at ws ps) v (get_or inputs k 0) (arc-here W k a e).1

  -- the input arcs and the elements stand in the net
  pub all_within : Within ws ps inputs elements
  all_within = record { variables = v; arcs = inputs-stand ws s.net.places position s.transition W.after W.there v W.many ps W.placed W.arcs; plan = record { each = λ i h. (next-element W i h).there.inside } }

  -- ── An arc that is spared by its words ──

  module _ (k : ℕ) (a : Arc) (named : get_elem? s.transition.inputs k ≡ some a) (S : Spares ws ps inputs elements k) where
    takes_one : (a.coefficient ≡ constant (pos 1)) × ((reading k a named).mid ≡ get_or inputs k 0 + 1 + 1)
    takes_one = let r = reading k a named in one-read ws v (get_or inputs k 0 + 1) a.coefficient r.mid r.coefficient S.one

    lone : Every Lone a.components
    lone =
        let r = reading k a named in
        let p : place_of ws (get_or inputs k 0) < length ps = rw (places-length ws ps) at r.there in
        let m : (reading k a named).mid ≡ get_or inputs k 0 + 2 = takes_one.1 ∙ omega arith in
        lone-read ws v (width_at ws (get_or ps (place_of ws (get_or inputs k 0)) 0)) (get_or inputs k 0 + 2) a.components r.next (rw (width_at_lem ws ps (place_of ws (get_or inputs k 0)) p, m) at r.components) S.lone.each

    -- no other input arc is of its place
    others : (j : ℕ) (x : Arc) → get_elem? s.transition.inputs j ≡ some x → (j ≡ k → ⊥) → x.place ≡ a.place → ⊥
    others j x e n p =
        let r = reading k a named in
        let q = reading j x e in
        S.alone.others j (arc-inside W j x e) n (let r₀ = r.kind in let r₁ = r.place in let q₀ = q.kind in let q₁ = q.place in omega arith)

    -- an element of the plan matches it
    planned : k < 8 → (e : Element) × Memᴰ e s.transition.plan × (e.sort ≡ match k)
    planned h =
        let m = S.matched in
        let n = next-element W m.number m.inside in
        (n.element, dropped_member s.transition.plan m.number n.element (drop (m.number + 1) s.transition.plan) n.ahead, n.there.sort ∙ match-sort (get_or ws (get_or elements m.number 0) 0) k m.word h)

  -- ── What leaves look up ──

  pub settling : {tested : List ℕ} → length inputs ≤ 8 → Unspared ws ps inputs elements tested → (p : Partial) → Settling s inputs tested s.transition.plan p
  settling l U p = record {
    mask = U.mask;
    same = U.same;
    settled = record {
      each = λ j a n f.
          let z : j + 0 ≡ j = omega arith in
          let S : Spares ws ps inputs elements j = subst (Spares ws ps inputs elements) z (out_at (Spares ws ps inputs elements) 0 U.mask U.spares j f) in
          let i = arc-inside W j a n in
          record { one = (takes_one j a n S).0; lone = lone j a n S; only = others j a n S; found = inl (planned j a n S (omega arith)) };
    };
  }
