-- `printing::write_printed` meets its contract: the measure is the number of parts left, of which there are at most 64.
use Prim.Native.Nat.{◌-◌}
use Rattle.printed.specs.Texts.{parts}
use Rattle.printing.proofs.write_printed.Given as goal

abbrev pub invariant-loop-i : goal.invariant-loop-i
invariant-loop-i l = Unit {0}

abbrev pub decreases-loop-i : goal.decreases-loop-i
decreases-loop-i l = parts l.bytes - l.i
