-- The words of a menu read back: rows of VALUE words are the bindings that they were written from, since every value of an accepted net has
-- fourteen bits. The lines of rows are put row by row. Rests on semantics/proofs/{Words, Menu}, colours/proofs/Codes and text/proofs/Putting.
use mathlib.Core.Path.{◌≡◌, refl, ap, ◌∙◌, subst}
use mathlib.Core.Bool.{true}
use mathlib.Core.List.{List, [], ◌∷◌, ◌++◌, map, flat_map, append_assoc}
use Prim.Native.Nat.{ℕ, zero, suc, ◌+◌, ◌*◌, ◌-◌, ◌≤◌, ◌<◌}
use native.Mathlib.Nat.{suc-mul}
use native.Mathlib.Omega.{arith}
use lib.IntN.{ℤ}
use lib.Signed.{mag}
use lib.ListN.{length, take, drop, length-map}
use lib.Seq.{take_at, drop_at, drop-drop}
use Rattle.semantics.specs.Lists.{Every}
use Rattle.semantics.specs.Word.{Range, within, value_word}
use Rattle.semantics.specs.Net.{Place, Transition}
use Rattle.semantics.specs.Order.{in_ranges}
use Rattle.semantics.specs.Marking.{Counts}
use Rattle.semantics.specs.Run.{menu}
use Rattle.semantics.proofs.Tests.{false_true, and_left, and_right, Every-of}
use Rattle.semantics.proofs.Words.{within-mag}
use Rattle.semantics.proofs.Accepted.{Valued, SoundTransition}
use Rattle.semantics.proofs.Menu.{menu_members}
use Rattle.rows.specs.Rows.{values_of_words, rows_of}
use Rattle.colours.proofs.Codes.{value_back}
use Rattle.text.specs.Put.{Put}
use Rattle.text_lines.specs.Row.{row_text}
use Rattle.text.proofs.Putting.{Left, left_all, left_after, left-none}
use Rattle.offers.specs.Offers.{rows_text}

-- ── Values ──

-- as many values as a width says, each of fourteen bits
pub record Fit (w : ℕ) (b : List ℤ) : Type 0 where
  pub width : length b ≡ w
  pub values : Every (λ z. mag z < 8192) b

ranged-fit : (rs : List Range) (b : List ℤ) → Every Valued rs → in_ranges rs b ≡ true → Fit (length rs) b
unfolding in_ranges
ranged-fit [] [] v e = record { width = refl; values = tt }
ranged-fit [] (z ∷ zs) v e = false_true e
ranged-fit (r ∷ rs) [] v e = false_true e
ranged-fit (r ∷ rs) (z ∷ zs) v e =
    let f = ranged-fit rs zs v.1 (and_right (within r z) (in_ranges rs zs) e) in
    record { width = ap suc f.width; values = (within-mag r z v.0.low v.0.high (and_left (within r z) (in_ranges rs zs) e), f.values) }

-- so are the bindings of a menu
pub menu-fits : (table : List ℕ) (places : List Place) (t : Transition) (m : Counts) → SoundTransition places t → Every (Fit (length t.variables)) (menu table t m)
menu-fits table places t m s = Every-of (Fit (length t.variables)) (menu table t m) (λ b k. ranged-fit t.variables b s.valued ((menu_members table t m b).0 k).0)

values_back : (b : List ℤ) → Every (λ z. mag z < 8192) b → values_of_words (map value_word b) ≡ b
values_back [] e = refl
values_back (z ∷ zs) e = ap (λ (y : ℤ). y ∷ values_of_words (map value_word zs)) (value_back z e.0) ∙ ap (λ (ys : List ℤ). z ∷ ys) (values_back zs e.1)

-- ── Rows ──

pub rows_back : (w : ℕ) (bs : List (List ℤ)) (rest : List ℕ) → Every (Fit w) bs → rows_of w (length bs) (flat_map (map value_word) bs ++ rest) ≡ bs
unfolding rows_of flat_map
rows_back w [] rest e = refl
rows_back w (b ∷ bs) rest e =
    let l : length (map value_word b) ≡ w = length-map b value_word ∙ e.0.width in
    let more = flat_map (map value_word) bs ++ rest in
    rw (
      append_assoc (map value_word b) (flat_map (map value_word) bs) rest,
      take_at (map value_word b) more w l,
      drop_at (map value_word b) more w l,
      values_back b e.0.values,
      rows_back w bs rest e.1,
    ) refl

-- ── Lines ──

-- of the lines of n rows, those from a position of the words on are left
pub record LinesLeft (b : List ℕ) (at : ℕ) (ws : List ℕ) (w n : ℕ) (c : List ℕ) (mid from left : ℕ) : Type 0 where
  pub rest : Left b at (rows_text w n ws) c mid (rows_text w left (drop from ws))
  pub room : from + left * w ≤ length ws

module _ {b ws : List ℕ} {at w n : ℕ} where
  pub lines_all : n * w ≤ length ws → LinesLeft b at ws w n b at 0 n
  lines_all h = record { rest = left_all; room = omega arith }

  module _ {c : List ℕ} {mid from left : ℕ} (l : LinesLeft b at ws w n c mid from left) where
    pub lines_inside : 0 < left → from + w ≤ length ws
    lines_inside h = by left l.room h
      where
        by : (k : ℕ) → from + k * w ≤ length ws → 0 < k → from + w ≤ length ws
        by zero r p = absurd (omega arith)
        by (suc k) r p = omega (arith, suc-mul k w)

    pub lines_none : left ≡ 0 → Put b at (rows_text w n ws) c mid
    unfolding rows_of flat_map
    lines_none e = left-none (rw e at l.rest)

pub lines_again : {b ws c d : List ℕ} {at w n mid from end : ℕ} (left : ℕ) → LinesLeft b at ws w n c mid from left → 0 < left → Put c mid (row_text (take (from + w - from) (drop from ws))) d end → LinesLeft b at ws w n d end (from + w) (left - 1)
unfolding rows_of flat_map
lines_again zero l h p = absurd (omega arith)
lines_again {ws = ws} {c = c} {d = d} {w = w} {mid = mid} {from = from} {end = end} (suc k) l h p =
    let s = suc-mul k w in
    let r = l.room in
    let e : suc k - 1 ≡ k = omega arith in
    let g : from + w - from ≡ w = omega arith in
    rw e
    (record {
      rest = rw (← drop-drop w from ws) (left_after l.rest (subst (λ (j : ℕ). Put c mid (row_text (take j (drop from ws))) d end) g p));
      room = omega arith;
    })
