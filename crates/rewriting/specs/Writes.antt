-- The marking with the changes of a list made, written to a buffer.
-- Rests on changes/specs/Tables, patch/specs/Patch and net/specs/Places.
use Rattle.std.specs.Prelude.{◌≡◌, List, ◌++◌, ℕ, ◌≤◌, length, drop}
use Rattle.net.specs.Places.{PlacesFit}
use Rattle.patch.specs.Patch.{patched, InOrder}
use Rattle.changes.specs.Tables.{listed, Tabled}

-- the marking with the changes of n rows made has room
pub record Writable (ws ps ms keys ats olds counts : List ℕ) (n : ℕ) (buffer : List ℕ) : Type 0 where
  pub fits : PlacesFit ws ps
  pub tabled : Tabled ps keys counts n
  pub ordered : InOrder ms 0 (listed ws ps keys ats olds counts n)
  pub room : length (patched ms 0 (listed ws ps keys ats olds counts n)) ≤ length buffer

-- it is written, and words beyond it stay
pub record IsWritten (ws ps ms keys ats olds counts : List ℕ) (n : ℕ) (buffer : List ℕ) (r : ℕ) (rest : List ℕ) : Type 0 where
  pub words : rest ≡ patched ms 0 (listed ws ps keys ats olds counts n) ++ drop (length (patched ms 0 (listed ws ps keys ats olds counts n))) buffer
  pub size : r ≡ length (patched ms 0 (listed ws ps keys ats olds counts n))
