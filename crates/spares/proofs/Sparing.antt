-- The rules of sparing arcs: the components of an arc stand in the words behind its coefficient of one word, and what the loop over the arcs knows of
-- those that it has passed.
use mathlib.Core.Path.{◌≡◌, refl, sym, ap, ◌∙◌, subst}
use mathlib.Core.Bool.{Bool, true, false}
use mathlib.Core.List.{List, [], ◌∷◌, ◌++◌}
use mathlib.Core.Option.{some}
use Prim.Native.Nat.{ℕ, zero, suc, ◌+◌, ◌≤◌, ◌<◌}
use native.Mathlib.Omega.{arith}
use native.Mathlib.Numerals.{add-one}
use lib.ListN.{length, get_or, get_elem?, set, take, length-set, length-take, length-append}
use lib.Seq.{take-suc, take_all}
use Rattle.semantics.specs.Word.{kind, payload}
use Rattle.semantics.specs.Expression.{Expression}
use Rattle.semantics.specs.Reading.{read, several}
use Rattle.semantics.specs.ReadNet.{read_expression}
use Rattle.semantics.proofs.Members.{none-some, every-number}
use Rattle.semantics.proofs.Tests.{false_true}
use Rattle.semantics.proofs.Spans.{then-read}
use Rattle.semantics.proofs.Settled.{kept}
use Rattle.expression.proofs.Laws.{expression_short}
use Rattle.net.specs.Places.{width_at, places_at}
use Rattle.net.specs.Standing.{HasArc}
use Rattle.net.proofs.Loops.{take-set}
use Rattle.net.proofs.Standing.{place_of, coefficient-inside, behind-constant, parts, arc-inside, components-read}
use Rattle.spares.specs.Spare.{Inside, Within, Spares, SparesIf, LeftOut, IsRest}

-- ── An arc ──

-- so many expressions take as many words or more
several-long : (ws : List ℕ) (v n at : ℕ) (es : List Expression) (next : ℕ) → several n (read_expression ws v) at ≡ read es next → at ≤ length ws → at + n ≤ length ws
unfolding several
several-long ws v zero at es next h l = omega arith
several-long ws v (suc n) at es next h l =
    then-read (read_expression ws v at) _ es next h λ e mid r s.
    then-read (several n (read_expression ws v) mid) _ es next s λ es' end x y.
    let a = expression_short ws v at r in
    let k = a.later in
    let q = several-long ws v n mid es' end x a.in_words in
    omega arith

module _ {ws ps inputs elements : List ℕ} (w : Within ws ps inputs elements) where
  pub arc_at : (k : ℕ) → k < length inputs → HasArc ws ps w.variables (get_or inputs k 0)
  arc_at k h = every-number (HasArc ws ps w.variables) inputs k 0 w.arcs h

  pub inputs-inside : Inside ws inputs
  inputs-inside = record { each = λ i h. arc-inside (arc_at i h) }

  module _ {k : ℕ} (h : k < length inputs) where
    pub coefficient-there : get_or inputs k 0 + 1 < length ws
    coefficient-there = (coefficient-inside ws (places_at ws ps) w.variables (get_or inputs k 0) (arc_at k h).reads).0

    module _ {place : ℕ} (e : place ≡ payload (get_or ws (get_or inputs k 0) 0)) where
      -- the components stand behind a coefficient of one word
      pub components-there : {width : ℕ} → width ≡ payload (get_or ws (get_or ps place 0) 0) → get_or ws (get_or inputs k 0 + 1) 0 ≡ 0x70000001 → get_or inputs k 0 + 2 + width ≤ length ws
      components-there {width} g o =
          let p = parts (arc_at k h) in
          let n = behind-constant ws (places_at ws ps) w.variables (get_or inputs k 0) (arc_at k h).reads (ap kind o) in
          let s = expression_short ws w.variables (get_or inputs k 0 + 1) p.coefficient in
          let q = several-long ws w.variables (width_at ws (get_or ps (place_of ws (get_or inputs k 0)) 0)) p.mid (arc_at k h).arc.components p.next (components-read (arc_at k h)) s.in_words in
          let d : width ≡ width_at ws (get_or ps (place_of ws (get_or inputs k 0)) 0) = g ∙ ap (λ (i : ℕ). payload (get_or ws (get_or ps i 0) 0)) e in
          omega arith

-- ── The positions that were copied ──

-- one member more
module _ {A : Type 0} where
  kept_more : (bs : List Bool) (xs : List A) (x : A) → length bs ≡ length xs → kept (bs ++ (true ∷ [])) (xs ++ (x ∷ [])) ≡ kept bs xs ++ (x ∷ [])
  unfolding kept
  kept_more [] [] x e = refl
  kept_more [] (y ∷ xs) x e = absurd (omega arith)
  kept_more (b ∷ bs) [] x e = absurd (omega arith)
  kept_more (true ∷ bs) (y ∷ xs) x e = ap (λ (l : List A). y ∷ l) (kept_more bs xs x (omega arith))
  kept_more (false ∷ bs) (y ∷ xs) x e = kept_more bs xs x (omega arith)

  kept_less : (bs : List Bool) (xs : List A) (x : A) → length bs ≡ length xs → kept (bs ++ (false ∷ [])) (xs ++ (x ∷ [])) ≡ kept bs xs
  unfolding kept
  kept_less [] [] x e = refl
  kept_less [] (y ∷ xs) x e = absurd (omega arith)
  kept_less (b ∷ bs) [] x e = absurd (omega arith)
  kept_less (true ∷ bs) (y ∷ xs) x e = ap (λ (l : List A). y ∷ l) (kept_less bs xs x (omega arith))
  kept_less (false ∷ bs) (y ∷ xs) x e = kept_less bs xs x (omega arith)

module _ (P : ℕ → Type 0) where
  out_more : (i : ℕ) (bs : List Bool) → LeftOut P i bs → LeftOut P i (bs ++ (true ∷ []))
  out_more i [] h = tt
  out_more i (true ∷ bs) h = out_more (suc i) bs h
  out_more i (false ∷ bs) h = (h.0, out_more (suc i) bs h.1)

  out_less : (i : ℕ) (bs : List Bool) → LeftOut P i bs → P (length bs + i) → LeftOut P i (bs ++ (false ∷ []))
  out_less i [] h p = (subst P (omega arith) p, tt)
  out_less i (true ∷ bs) h p = out_less (suc i) bs h (subst P (omega arith) p)
  out_less i (false ∷ bs) h p = (h.0, out_less (suc i) bs h.1 (subst P (omega arith) p))

  pub out_at : (i : ℕ) (bs : List Bool) → LeftOut P i bs → (j : ℕ) → get_elem? bs j ≡ some false → P (j + i)
  out_at i [] h j e = none-some e
  out_at i (true ∷ bs) h zero e = false_true (cc)
  out_at i (false ∷ bs) h zero e = subst P (omega arith) h.0
  out_at i (true ∷ bs) h (suc j) e = subst P (omega arith) (out_at (suc i) bs h j e)
  out_at i (false ∷ bs) h (suc j) e = subst P (omega arith) (out_at (suc i) bs h.1 j e)

-- of the first j positions those that are not spared stand at the front
pub record Left (ws ps inputs elements rest : List ℕ) (n j : ℕ) : Type 0 where
  pub mask : List Bool
  pub wide : length mask ≡ j
  pub same : take n rest ≡ kept mask (take j inputs)
  pub spares : LeftOut (Spares ws ps inputs elements) 0 mask
  pub few : n ≤ j
  pub inside : j ≤ length inputs
  pub long : length rest ≡ 8

pub left-start : {ws ps inputs elements rest : List ℕ} → length rest ≡ 8 → Left ws ps inputs elements rest 0 0
unfolding kept
left-start l = record { mask = []; wide = refl; same = refl; spares = tt; few = omega arith; inside = omega arith; long = l }

module _ {ws ps inputs elements rest : List ℕ} {n j : ℕ} (L : Left ws ps inputs elements rest n j) (h : j < length inputs) where
  far : length L.mask ≡ length (take j inputs)
  far = let l = length-take j inputs in let w = L.wide in omega arith

  one_more : take (j + 1) inputs ≡ take j inputs ++ (get_or inputs j 0 ∷ [])
  one_more = ap (λ (i : ℕ). take i inputs) (add-one j) ∙ take-suc inputs j 0 h

  pub left_spared : {r : Bool} → SparesIf ws ps inputs elements j r → r ≡ true → Left ws ps inputs elements rest n (j + 1)
  left_spared s e = record {
    mask = L.mask ++ (false ∷ []);
    wide = let l = length-append L.mask (false ∷ []) in let w = L.wide in omega arith;
    same = L.same ∙ sym (ap (kept (L.mask ++ (false ∷ []))) one_more ∙ kept_less L.mask (take j inputs) (get_or inputs j 0) far);
    spares = out_less (Spares ws ps inputs elements) 0 L.mask L.spares (subst (Spares ws ps inputs elements) (let w = L.wide in omega arith) (s.told e));
    few = let f = L.few in omega arith;
    inside = omega arith;
    long = L.long;
  }

  pub left-room : length inputs ≤ 8 → n < 8
  left-room m = let f = L.few in omega arith

  pub left_turn : length inputs ≤ 8 → Left ws ps inputs elements (set rest n (get_or inputs j 0)) (n + 1) (j + 1)
  left_turn m = record {
    mask = L.mask ++ (true ∷ []);
    wide = let l = length-append L.mask (true ∷ []) in let w = L.wide in omega arith;
    same = take-set rest n (get_or inputs j 0) (let l = L.long in let r = left-room m in omega arith) ∙ ap (λ (r : List ℕ). r ++ (get_or inputs j 0 ∷ [])) L.same ∙ sym (ap (kept (L.mask ++ (true ∷ []))) one_more ∙ kept_more L.mask (take j inputs) (get_or inputs j 0) far);
    spares = out_more (Spares ws ps inputs elements) 0 L.mask L.spares;
    few = let f = L.few in omega arith;
    inside = omega arith;
    long = length-set rest n (get_or inputs j 0) ∙ L.long;
  }

pub left_end : {ws ps inputs elements rest : List ℕ} {n j : ℕ} → Left ws ps inputs elements rest n j → length inputs ≤ j → IsRest ws ps inputs elements rest n
left_end {inputs = inputs} {j = j} L h = record { full = L.long; few = let f = L.few in let i = L.inside in omega arith; unspared = record { mask = L.mask; same = L.same ∙ ap (kept L.mask) (take_all j inputs h); spares = L.spares } }
