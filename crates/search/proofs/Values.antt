-- A full binding in slots: the words are the VALUE words of its values, and lent to an expression they are its environment.
use mathlib.Core.Path.{◌≡◌, refl, ap, ◌∙◌, fun_ext}
use mathlib.Core.Logic.{◌⊎◌, inl, inr}
use mathlib.Core.Bool.{true, false, ◌&&◌}
use mathlib.Core.List.{List, [], ◌∷◌, map}
use mathlib.Core.Option.{some}
use Prim.Native.Nat.{ℕ, zero, suc, ◌%◌, ◌^◌}
use native.Mathlib.Omega.{arith}
use borrow.Author.Tests.{eqb-true, ltb-true}
use lib.Dec.{eqb}
use lib.IntN.{ℤ}
use lib.ListN.{length, take}
use Rattle.semantics.specs.Lists.{Every}
use Rattle.semantics.specs.Word.{kind, payload, only, signed, value_word}
use Rattle.semantics.specs.Expression.{bound}
use Rattle.semantics.specs.Tries.{partly}
use Rattle.semantics.proofs.Tests.{either, and_left, and_right}
use Rattle.semantics.proofs.Members.{none-some}
use Rattle.semantics.proofs.Words.{value_again}
use Rattle.evaluation.specs.Evaluate.{value_of, lent}
use Rattle.word.specs.Fields.{IsValue}
use Rattle.rows.specs.Rows.{values_of_words}
use Rattle.tries.specs.Partial.{partial_of}
use Rattle.tries.proofs.Slots.{slots_lent}

-- ── Words ──

-- a word that has a value is the VALUE word of it
value-word : (w : ℕ) (z : ℤ) → value_of w ≡ some z → (signed (w % 16384) ≡ z) × (value_word (signed (w % 16384)) ≡ w)
value-word w z e = by (either (eqb (kind w) 0xC && only 14 (payload w)))
  where
    by : ((eqb (kind w) 0xC && only 14 (payload w)) ≡ true) ⊎ ((eqb (kind w) 0xC && only 14 (payload w)) ≡ false) → (signed (w % 16384) ≡ z) × (value_word (signed (w % 16384)) ≡ w)
    by (inr h) = none-some (rw h at e)
    by (inl h) =
        let k = eqb-true (kind w) 0xC (and_left (eqb (kind w) 0xC) (only 14 (payload w)) h) in
        let l = ltb-true (payload w) (2 ^ 14) (and_right (eqb (kind w) 0xC) (only 14 (payload w)) h) in
        let p : w % 16384 ≡ payload w = omega arith in
        let f : some (signed (payload w)) ≡ some z = rw h at e in
        let g : signed (payload w) ≡ z = cc in
        (rw p g, rw p (value_again w k l))

pub slots_values : (bs : List ℕ) (zs : List ℤ) → map value_of bs ≡ map some zs → (values_of_words bs ≡ zs) × Every IsValue bs
slots_values [] [] e = (refl, tt)
slots_values [] (z ∷ zs) e = let l : ◌≡◌ {A = ℕ} 0 (suc (length (map (λ (y : ℤ). some y) zs))) = ap length e in absurd (omega arith)
slots_values (b ∷ bs) [] e = let l : ◌≡◌ {A = ℕ} (suc (length (map value_of bs))) 0 = ap length e in absurd (omega arith)
slots_values (b ∷ bs) (z ∷ zs) e =
    let h : value_of b ≡ some z = cc in
    let t : map value_of bs ≡ map some zs = cc in
    let v = value-word b z h in
    let r = slots_values bs zs t in
    (ap (λ (y : ℤ). y ∷ values_of_words bs) v.0 ∙ ap (λ (ys : List ℤ). z ∷ ys) r.0, (v.1, r.1))

-- ── Environments ──

full_at : (zs : List ℤ) (n : ℕ) → partly (map some zs) n ≡ bound zs n
full_at [] n = refl
full_at (z ∷ zs) zero = refl
full_at (z ∷ zs) (suc n) = full_at zs n

pub full-bound : (zs : List ℤ) → partly (map some zs) ≡ bound zs
full-bound zs = fun_ext (full_at zs)

pub full-lent : (v : ℕ) (b : List ℕ) (zs : List ℤ) → partial_of v b ≡ map some zs → lent (take v b) ≡ bound zs
full-lent v b zs e = slots_lent v b ∙ ap partly e ∙ full-bound zs
