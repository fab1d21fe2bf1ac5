-- `net::index::read_places` meets its contract: the loop of `Nets` over places.
use Rattle.net.proofs.Nets.{placed-start, placed_goes, netting}
use native.Mathlib.Omega.{arith}
use Rattle.net.proofs.index.read_places.Goals as goal

pub loop-i-init : goal.loop-i-init
loop-i-init c = placed-start _ _ _ _ _

pub returns-in_err-place : goal.returns-in_err-place
returns-in_err-place c = search netting

pub loop-i-preserved : goal.loop-i-preserved
loop-i-preserved c = placed_goes c.loop-i.invariant (omega arith) c.read_place.ensures (omega arith) (omega arith) c.in_ok-place.was

pub returns : goal.returns
returns c = search netting
