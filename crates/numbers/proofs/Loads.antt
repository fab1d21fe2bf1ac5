-- The house table: what `load_of` reads at a depth, and the table's two rules, each by one test that is computed over the whole table:
-- every load is 0 to 14, and a deeper cut never loads less.
use mathlib.Core.Path.{◌≡◌, refl, sym, ap, ◌∙◌}
use mathlib.Core.Bool.{Bool, true, false}
use mathlib.Core.Option.{none, some, map}
use Prim.Native.Nat.{ℕ, suc, ◌≤◌, ◌<◌}
use native.Mathlib.Omega.{arith}
use borrow.Author.Tests.{leb-true, le-leb, ltb-true, ltb-false}
use lib.Dec.{leb, ltb}
use lib.ListN.{get_or}
use lib.IntN.{ℤ, pos, negsuc}
use lib.Signed.{le_z}
use Rattle.semantics.specs.Expression.{load_of, house_table}
use Rattle.semantics.specs.Plan.{every_below}
use Rattle.semantics.proofs.Members.{none-some, past_elem, elem_number}
use Rattle.semantics.proofs.Partial.{every_below_at}

-- ── Reading ──

-- the load of a depth of the table, and none past it
pub load_at : (n : ℕ) → n < 16 → load_of house_table (pos n) ≡ some (pos (get_or house_table n 0))
unfolding load_of
load_at n h = ap (map pos) (elem_number house_table n 0 h)

pub load_past : (n : ℕ) → 16 ≤ n → load_of house_table (pos n) ≡ none
unfolding load_of
load_past n h = ap (map pos) (past_elem house_table n h)

-- a load is an entry of the table
pub record Loaded (z v : ℤ) : Type 0 where
  pub depth : ℕ
  pub reached : z ≡ pos depth
  pub inside : depth < 16
  pub entry : v ≡ pos (get_or house_table depth 0)

pub loaded : (z v : ℤ) → load_of house_table z ≡ some v → Loaded z v
unfolding load_of
loaded (pos n) v e = by (ltb n 16) refl
  where
    by : (t : Bool) → ltb n 16 ≡ t → Loaded (pos n) v
    by true h =
        let low = ltb-true n 16 h in
        let at = load_at n low in
        let same : v ≡ pos (get_or house_table n 0) = cc in
        record { depth = n; reached = refl; inside = low; entry = same }
    by false h = none-some (sym (load_past n (ltb-false n 16 h)) ∙ e)
loaded (negsuc n) v e = none-some e

-- ── Rules ──

-- no entry is above 14
pub entry_most : (n : ℕ) → n < 16 → get_or house_table n 0 ≤ 14
unfolding every_below
entry_most n h = leb-true (get_or house_table n 0) 14 (every_below_at 16 (λ k. leb (get_or house_table k 0) 14) refl n h)

-- no entry is above a later one
pub entry_rises : (k n : ℕ) → k ≤ n → n < 16 → get_or house_table k 0 ≤ get_or house_table n 0
unfolding every_below
entry_rises k n h g =
    leb-true (get_or house_table k 0) (get_or house_table n 0)
    (every_below_at (suc n) (λ j. leb (get_or house_table j 0) (get_or house_table n 0))
    (every_below_at 16 (λ m. every_below (suc m) (λ j. leb (get_or house_table j 0) (get_or house_table m 0))) refl n g) k (omega arith))

-- every load is 0 to 14
pub load_most : (z v : ℤ) → load_of house_table z ≡ some v → (n : ℕ) × (v ≡ pos n) × (n ≤ 14)
load_most z v e = let l = loaded z v e in (get_or house_table l.depth 0, l.entry, entry_most l.depth l.inside)

-- a deeper cut never loads less
pub load-rises : (x y v w : ℤ) → le_z x y ≡ true → load_of house_table x ≡ some v → load_of house_table y ≡ some w → le_z v w ≡ true
load-rises x y v w h e f =
    let l = loaded x v e in
    let m = loaded y w f in
    let deeper = leb-true l.depth m.depth (rw (l.reached, m.reached) at h) in
    rw (l.entry, m.entry) (le-leb (get_or house_table l.depth 0) (get_or house_table m.depth 0) (entry_rises l.depth m.depth deeper m.inside))
