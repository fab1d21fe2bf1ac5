-- Where the places of a marking begin, moved by the rows of a list of changes.
-- Rests on changes/specs/Tables, patch/specs/Patch, net/specs/Places and semantics/specs/Order.
use Rattle.std.specs.Prelude.{◌≡◌, cond, List, ℕ, ◌+◌, ◌≤◌, ltb, length, get_or}
use Rattle.semantics.specs.Refusal.{most_words}
use Rattle.semantics.specs.Order.{Rising}
use Rattle.net.specs.Places.{PlacesFit}
use Rattle.arcs.specs.Keys.{key_place}
use Rattle.patch.specs.Patch.{change_key, old_length, new_length, old_below, new_below}
use Rattle.changes.specs.Tables.{listed, Tabled}

-- the place of a row; behind the last 65, which is above every place and where the last one ends
abbrev pub row_place : List ℕ → ℕ → ℕ → ℕ
row_place keys n row = cond (ltb row n) (key_place (get_or keys row 0)) 65

-- the rows rise by key, and the beginnings of the net's places can be moved by them
pub record Movable (ws ps keys olds counts : List ℕ) (n : ℕ) (begins : List ℕ) : Type 0 where
  pub ats : List ℕ
  pub fits : PlacesFit ws ps
  pub tabled : Tabled ps keys counts n
  pub full : length begins ≡ 65
  pub rises : Rising change_key (listed ws ps keys ats olds counts n)
  pub old-short : old_length (listed ws ps keys ats olds counts n) ≤ 80
  pub new-short : new_length (listed ws ps keys ats olds counts n) ≤ 80
  pub low : (p : ℕ) → p ≤ length ps → get_or begins p 0 ≤ most_words
  pub enough : (p : ℕ) → p ≤ length ps → old_below p (listed ws ps keys ats olds counts n) ≤ get_or begins p 0 + new_below p (listed ws ps keys ats olds counts n)

-- they are moved
pub record IsMoved (ws ps keys olds counts : List ℕ) (n : ℕ) (begins begins' : List ℕ) : Type 0 where
  pub moves : (q : Movable ws ps keys olds counts n begins) (p : ℕ) → p ≤ length ps → get_or begins' p 0 + old_below p (listed ws ps keys q.ats olds counts n) ≡ get_or begins p 0 + new_below p (listed ws ps keys q.ats olds counts n)
