-- `matches::colour::match_colour` meets its contract: the loop keeps `Agreeing`; where a component differs, the slots are what was kept of them.
use Rattle.net.specs.Places.{ranges_from}
use Rattle.matches.proofs.Agreeing.{Agreeing}
use Rattle.matches.proofs.colour.match_colour.Given as goal

abbrev pub invariant-loop-i : goal.invariant-loop-i
invariant-loop-i l = Agreeing (ranges_from l.net l.variables l.ranges) l.variables l.initial.slots l.marking l.at l.width l.parts l.i l.slots
