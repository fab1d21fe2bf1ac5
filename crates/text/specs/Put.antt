-- Text put into a buffer from a position on, as much of it as finds room.
-- Rests on semantics/specs/Print.
use Rattle.std.specs.Prelude.{◌≡◌, List, ℕ, suc, ◌+◌, ◌-◌, ◌^◌, ◌<◌, min, length}
use Rattle.std.proofs.lemmas.List.Edits.{sets}
use Rattle.semantics.specs.Print.{digits_in}

-- the bytes t are stored one after the other from a position on, and those past the buffer's end are lost; the position after those that found
-- room
pub record Put (before : List ℕ) (at : ℕ) (t : List ℕ) (after : List ℕ) (end : ℕ) : Type 0 where
  pub bytes : after ≡ sets before at t
  pub ends : end ≡ at + min (length t) (length before - at)

-- the digits of n are put, in as many rounds as are enough
pub record Digits (before : List ℕ) (at n : ℕ) (after : List ℕ) (end : ℕ) : Type 0 where
  pub put : (k : ℕ) → n < 10 ^ suc k → Put before at (digits_in (suc k) n) after end
