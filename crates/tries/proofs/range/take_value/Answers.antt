-- `tries::range::take_value` meets its contract: the slot is written with the 14 bits of the value, `written` of Ranging.
use mathlib.Core.Path.{ap}
use mathlib.Core.Option.{some}
use Prim.Native.Nat.{◌+◌, ◌/◌, ◌%◌}
use native.Mathlib.Omega.{arith}
use lib.ListN.{get_or}
use Rattle.tries.specs.Range.{value_at}
use Rattle.tries.proofs.Slots.{slots_set, tried_on}
use Rattle.tries.proofs.Ranging.{written}
use Rattle.tries.proofs.range.take_value.Goals as goal

pub returns : goal.returns
returns c =
    let a = c.args in
    let w = get_or a.net.now (a.ranges + a.n) 0 in
    let u = (w / 16384 % 16384 + a.i) % 16384 in
    tried_on (ap some (slots_set a.variables a.n (3221225472 + u) a.slots.now (value_at w a.i) c.requires.n_lt_variables.0 (written u (omega arith))))
