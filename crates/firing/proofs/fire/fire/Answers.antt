-- `firing::fire::fire` meets its contract: each return is a rule of `Calling`. The tables that are lent keep their length.
use Prim.Native.Nat.{◌+◌, ◌-◌}
use native.Mathlib.Omega.{arith}
use Rattle.std.proofs.lemmas.Result.{err_from_is_err_and}
use Rattle.testing.proofs.Testing.{variables-inside}
use Rattle.firing.proofs.Calling.{fire-refused, fire_unbound, fireable-lent, fire_answers}
use Rattle.firing.proofs.fire.fire.Goals as goal

pub returns-in_err-s : goal.returns-in_err-s
returns-in_err-s c =
    let p = err_from_is_err_and c.from_residual.result c.from_residual.ensures.1 in
    rw (p.1, p.2) (fire-refused _ _ _ _ _ _ c.in_err-s.ensures)

pub overflow_add-s : goal.overflow_add-s
overflow_add-s c = omega (arith, variables-inside c.in_ok-s.ensures)

pub read_binding-requires : goal.read_binding-requires
read_binding-requires c = variables-inside c.in_ok-s.ensures

pub returns-in_err-read_binding : goal.returns-in_err-read_binding
returns-in_err-read_binding c =
    let p = err_from_is_err_and c.from_residual-in_err-read_binding.result c.from_residual-in_err-read_binding.ensures.1 in
    rw (p.1, p.2) (fire_unbound c.in_ok-s.ensures c.args.binding.now c.read_binding.result c.read_binding.ensures c.args.next.now c.in_err-read_binding.was)

pub fire_arcs-requires-clause-fireable_at : goal.fire_arcs-requires-clause-fireable_at
fire_arcs-requires-clause-fireable_at c =
    let t = c.in_ok-s.s.transition in
    fireable-lent c.in_ok-s.ensures c.args.binding.now c.read_binding.result c.read_binding.ensures c.in_ok-read_binding.was (16 + t.conjuncts - 16) (8 + t.outputs - 8) (omega arith) (omega arith)

pub returns : goal.returns
returns c =
    let t = c.in_ok-s.s.transition in
    fire_answers c.in_ok-s.ensures c.args.binding.now c.read_binding.result c.read_binding.ensures c.in_ok-read_binding.was (16 + t.conjuncts - 16) (8 + t.outputs - 8) (omega arith) (omega arith) c.fire_arcs.ensures
