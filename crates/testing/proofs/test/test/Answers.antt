-- `testing::test::test` meets its contract: each return is a rule of `Testing`. The tables that are lent keep their length.
use Prim.Native.Nat.{◌+◌, ◌-◌}
use native.Mathlib.Omega.{arith}
use Rattle.std.proofs.lemmas.Result.{err_from_is_err_and}
use Rattle.testing.proofs.Testing.{variables-inside, test_conjuncts, test_inputs, test_refused, test_unbound, test_answers}
use Rattle.testing.proofs.test.test.Goals as goal

pub returns-in_err-s : goal.returns-in_err-s
returns-in_err-s c =
    let p = err_from_is_err_and c.from_residual.result c.from_residual.ensures.1 in
    rw (p.1, p.2) (test_refused _ _ _ _ _ c.in_err-s.ensures)

pub overflow_add-s : goal.overflow_add-s
overflow_add-s c = omega (arith, variables-inside c.in_ok-s.ensures)

pub read_binding-requires : goal.read_binding-requires
read_binding-requires c = variables-inside c.in_ok-s.ensures

pub returns-in_err-read_binding : goal.returns-in_err-read_binding
returns-in_err-read_binding c =
    let p = err_from_is_err_and c.from_residual-in_err-read_binding.result c.from_residual-in_err-read_binding.ensures.1 in
    rw (p.1, p.2) (test_unbound c.in_ok-s.ensures c.args.binding.now c.read_binding.result c.read_binding.ensures c.in_err-read_binding.was)

pub is_enabled-yes-requires-clause-every : goal.is_enabled-yes-requires-clause-every
is_enabled-yes-requires-clause-every c = test_conjuncts c.in_ok-s.ensures c.args.binding.now c.read_binding.result c.read_binding.ensures c.in_ok-read_binding.was (16 + c.in_ok-s.s.transition.conjuncts - 16) (omega arith)

pub is_enabled-yes-requires-clause-every_2 : goal.is_enabled-yes-requires-clause-every_2
is_enabled-yes-requires-clause-every_2 c = test_inputs c.in_ok-s.ensures c.args.binding.now c.read_binding.result c.read_binding.ensures c.in_ok-read_binding.was

pub returns : goal.returns
returns c = test_answers c.in_ok-s.ensures c.args.binding.now c.read_binding.result c.read_binding.ensures c.in_ok-read_binding.was (16 + c.in_ok-s.s.transition.conjuncts - 16) (omega arith) c.is_enabled-yes.ensures
