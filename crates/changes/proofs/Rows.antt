-- The rules of the rows of a list of changes: those from one on are that row and those from the next on; and what the columns tell of a row.
use mathlib.Core.Path.{◌≡◌, refl}
use mathlib.Core.List.{List, ◌∷◌}
use Prim.Native.Nat.{ℕ, suc, ◌+◌, ◌-◌, ◌<◌}
use native.Mathlib.Numerals.{add-one}
use native.Mathlib.Omega.{arith}
use Rattle.arcs.specs.Keys.{key_place, key_colour}
use Rattle.patch.specs.Patch.{Change}
use lib.ListN.{get_or, get_or-map}
use Rattle.changes.specs.declared.change.Row.{Row}
use Rattle.changes.specs.Tables.{keys_told, ats_told, olds_told, counts_told, row_at, rows_from, listed}

-- the rows from i on
pub rows_next : (f : ℕ → Change) (i n : ℕ) → i < n → rows_from f i (n - i) ≡ f i ∷ rows_from f (i + 1) (n - (i + 1))
unfolding rows_from
rows_next f i n h = let s : n - i ≡ suc (n - (i + 1)) = omega arith in rw (s, add-one i)

-- ── The columns at a row ──

-- what stands behind the last row
abbrev pub no_row : Row
no_row = record { key = 0; at = 0; old = 0; count = 0 }

module _ (rs : List Row) (i : ℕ) where
  pub key_told : get_or (keys_told rs) i 0 ≡ (get_or rs i no_row).key
  key_told = get_or-map (λ (r : Row). r.key) rs i no_row

  pub at_told : get_or (ats_told rs) i 0 ≡ (get_or rs i no_row).at
  at_told = get_or-map (λ (r : Row). r.at) rs i no_row

  pub old_told : get_or (olds_told rs) i 0 ≡ (get_or rs i no_row).old
  old_told = get_or-map (λ (r : Row). r.old) rs i no_row

  pub count_told : get_or (counts_told rs) i 0 ≡ (get_or rs i no_row).count
  count_told = get_or-map (λ (r : Row). r.count) rs i no_row

-- the change that a row tells
abbrev pub told_by : List ℕ → List ℕ → Row → Change
told_by ws ps r = record { place = key_place r.key; colour = key_colour ws ps r.key; count = r.count; at = r.at; old = r.old }

-- the change in row i, and the first n
abbrev pub row_in : List ℕ → List ℕ → List Row → ℕ → Change
row_in ws ps rs = row_at ws ps (keys_told rs) (ats_told rs) (olds_told rs) (counts_told rs)

abbrev pub rows_in : List ℕ → List ℕ → List Row → ℕ → List Change
rows_in ws ps rs n = listed ws ps (keys_told rs) (ats_told rs) (olds_told rs) (counts_told rs) n

pub row_told : (ws ps : List ℕ) (rs : List Row) (i : ℕ) → row_in ws ps rs i ≡ told_by ws ps (get_or rs i no_row)
row_told ws ps rs i = rw (key_told rs i, at_told rs i, old_told rs i, count_told rs i) refl
