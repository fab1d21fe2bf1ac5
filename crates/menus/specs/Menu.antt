-- How many rows a menu has room for, and what listing the enabled bindings answers.
-- Rests on semantics/specs/{Run, Calls} and search/specs/{Scene, Search}.
use Rattle.std.specs.Prelude.{◌≡◌, cond, List, ℕ, ◌/◌, min, eqb, length, Result}
use Rattle.semantics.specs.declared.Listed.{Listed}
use Rattle.semantics.specs.declared.refusal.Refusal.{Refusal}
use Rattle.semantics.specs.Refusal.{most_bindings}
use Rattle.semantics.specs.Expression.{house_table}
use Rattle.semantics.specs.Run.{offer}
use Rattle.semantics.specs.Calls.{listed_by}
use Rattle.search.specs.Scene.{scene_of}
use Rattle.search.specs.Search.{menu_end}

-- "N over 16,383, or N × V words over the menu buffer": the rows of a width that so many words hold
abbrev pub most_rows : ℕ → ℕ → ℕ
most_rows room width = cond (eqb width 0) most_bindings (min (room / width) most_bindings)

-- the menu of the transition at a position, and the buffer after it
pub record IsListed (ws : List ℕ) (position : ℕ) (ms : List ℕ) (budget : ℕ) (buffer : List ℕ) (r : Result Listed Refusal) (after : List ℕ) : Type 0 where
  pub listed : menu_end r after ≡ listed_by buffer (offer house_table (scene_of ws position ms).net budget (length buffer) (scene_of ws position ms).transition (scene_of ws position ms).counts)
