-- `run::run::fire_picks` meets its contract: the loop keeps what is so of the run so far, and each way out is a rule of `Running`.
use Prim.Native.Nat.{◌-◌}
use lib.ListN.{length}
use Rattle.run.proofs.Running.{Sofar}
use Rattle.run.proofs.run.fire_picks.Given as goal

abbrev pub invariant-loop-done : goal.invariant-loop-done
invariant-loop-done l =
    Sofar l.net l.budget l.initial.buffer l.m l.initial.spare l.initial.menu l.picks l.begins l.buffer l.spare l.menu l.done l.length

abbrev pub decreases-loop-done : goal.decreases-loop-done
decreases-loop-done l =
    length l.picks - l.done
