-- `arrivals::step::parts_at` meets its contract: the loop keeps `Parting`.
use Rattle.arrivals.proofs.Parting.{parting_start, parting_ends, parting_stops, parting_turn}
use Rattle.arrivals.proofs.step.parts_at.Goals as goal

pub loop-i-init : goal.loop-i-init
loop-i-init c = parting_start _ _ _ _ _ c.requires.parts_len

pub returns-in_default : goal.returns-in_default
returns-in_default c = parting_stops c.loop-i.invariant c.loop-i-test.true c.skip_expression.result c.skip_expression.ensures.0 c.in_default.is

pub loop-i-preserved : goal.loop-i-preserved
loop-i-preserved c = parting_turn c.loop-i.invariant c.loop-i-test.true c.skip_expression.result c.skip_expression.ensures.0 c.in-Ok.is c.requires.n_bound

pub returns : goal.returns
returns c = parting_ends c.loop-i.invariant c.loop-i-test.false
