-- `patch::words::copy_words` meets its contract: the words copied so far are the first of the part.
use mathlib.Core.Path.{◌≡◌}
use Prim.Native.Nat.{◌-◌, ◌≤◌}
use lib.ListN.{length}
use lib.Seq.{slice, paste}
use Rattle.patch.proofs.words.copy_words.Given as goal

abbrev pub invariant-loop-j : goal.invariant-loop-j
invariant-loop-j l = (l.j ≤ l.n) × (length l.next ≡ length l.initial.next) × (l.next ≡ paste l.initial.next l.at (slice l.from l.to l.words) l.j)
