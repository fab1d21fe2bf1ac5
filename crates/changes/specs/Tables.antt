-- A list of changes, in tables: a row tells the key of a change, its count, and where its old entry is and how long.
-- Rests on arcs/specs/Keys and patch/specs/Patch.
use Rattle.std.specs.Prelude.{List, map, [], ◌∷◌, ℕ, zero, suc, ◌≤◌, ◌<◌, length, get_or}
use Rattle.arcs.specs.Keys.{key_place, key_colour}
use Rattle.patch.specs.Patch.{Change}
use Rattle.changes.specs.declared.change.Row.{Row}

-- the tables: the columns of the rows
abbrev pub keys_told : List Row → List ℕ
keys_told rs = map (λ r. r.key) rs

abbrev pub ats_told : List Row → List ℕ
ats_told rs = map (λ r. r.at) rs

abbrev pub olds_told : List Row → List ℕ
olds_told rs = map (λ r. r.old) rs

abbrev pub counts_told : List Row → List ℕ
counts_told rs = map (λ r. r.count) rs

-- the change in row i
abbrev pub row_at : List ℕ → List ℕ → List ℕ → List ℕ → List ℕ → List ℕ → ℕ → Change
row_at ws ps keys ats olds counts i = record { place = key_place (get_or keys i 0); colour = key_colour ws ps (get_or keys i 0); count = get_or counts i 0; at = get_or ats i 0; old = get_or olds i 0 }

-- n rows from i on
unfoldable pub rows_from : (ℕ → Change) → ℕ → ℕ → List Change
rows_from f i zero = []
rows_from f i (suc n) = f i ∷ rows_from f (suc i) n

-- the first n rows
abbrev pub listed : List ℕ → List ℕ → List ℕ → List ℕ → List ℕ → List ℕ → ℕ → List Change
listed ws ps keys ats olds counts n = rows_from (row_at ws ps keys ats olds counts) 0 n

-- they have a place and a count that can be written
pub record Tabled (ps keys counts : List ℕ) (n : ℕ) : Type 0 where
  pub few : n ≤ 16
  pub there : (i : ℕ) → i < n → key_place (get_or keys i 0) < length ps
  pub small : (i : ℕ) → i < n → get_or counts i 0 < 16384
