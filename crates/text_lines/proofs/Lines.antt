-- Lines of values: what is left of a line after a field, and where the line ends.
-- Rests on Putting.
use mathlib.Core.Path.{subst}
use mathlib.Core.List.{List, [], ◌∷◌, map}
use Prim.Native.Nat.{ℕ, ◌+◌, ◌-◌, ◌%◌, ◌≤◌, ◌<◌}
use native.Mathlib.Numerals.{add-one}
use native.Mathlib.Omega.{arith}
use lib.ListN.{length, get_or, take, drop, drop_of_length-le}
use lib.Seq.{drop-cons, take_all}
use Rattle.semantics.specs.Word.{signed}
use Rattle.semantics.specs.Print.{signed_decimal, after_first, fields}
use Rattle.text.specs.Put.{Put}
use Rattle.text_lines.specs.Row.{row_text}
use Rattle.text.proofs.Putting.{put_then, Left, left_after, left_last}

-- the values of VALUE words from the number i on, and the line's end
abbrev pub later_text : List ℕ → ℕ → List ℕ
later_text row i = after_first (fields (map (λ w. signed (w % 16384)) (drop i row)))

module _ {b t c : List ℕ} {at mid i : ℕ} (row : List ℕ) where
  -- a space and a value are put
  pub later_again : {d e : List ℕ} {next last : ℕ} → i < length row → Left b at t c mid (later_text row i) → Put c mid (32 ∷ []) d next → Put d next (signed_decimal (signed (get_or row i 0 % 16384))) e last → Left b at t e last (later_text row (i + 1))
  unfolding after_first fields
  later_again h l p q = rw add-one (left_after (left_after (rw (drop-cons row i 0 h) at l) p) q)

  pub later-ends : {d : List ℕ} {end : ℕ} → length row ≤ i → Left b at t c mid (later_text row i) → Put c mid (10 ∷ []) d end → Put b at t d end
  unfolding after_first fields
  later-ends h l p = left_last (rw (drop_of_length-le row h) at l) p

module _ {b c : List ℕ} {at mid : ℕ} where
  pub row-none : (row : List ℕ) → length row < 1 → Put b at (10 ∷ []) c mid → Put b at (row_text row) c mid
  unfolding fields
  row-none [] h p = p
  row-none (w ∷ ws) h p = absurd (omega arith)

  pub row-some : {d : List ℕ} {end : ℕ} (row : List ℕ) → 1 ≤ length row → Put b at (signed_decimal (signed (get_or row 0 0 % 16384))) c mid → Put c mid (later_text (take (length row - 1) (drop 1 row)) 0) d end → Put b at (row_text row) d end
  unfolding fields
  row-some {d} {end} [] h p q = absurd (omega arith)
  row-some {d} {end} (w ∷ ws) h p q = put_then p (subst (λ (l : List ℕ). Put c mid (later_text l 0) d end) (take_all _ ws (omega arith)) q)
