-- `solving::solve::solve_at` meets its contract: each answer by its rule in `Solving`.
use mathlib.Core.Path.{ap, refl}
use Prim.Native.Nat.{◌+◌, ◌≤◌}
use borrow.Author.Rules.{rules}
use Rattle.semantics.specs.Answer.{option_of}
use Rattle.word.proofs.Read.{read_back}
use Rattle.net.specs.Places.{ranges_from}
use Rattle.net.proofs.Standing.{left-stands, left-inside}
use Rattle.tries.proofs.Slots.{tried_not, tried_same}
use Rattle.solving.proofs.Solving.{slots_stand, behind-lone, left_unbound, left-value, left-none, left-ends}
use Rattle.solving.proofs.solve.solve_at.Goals as goal

pub overflow_add-at : goal.overflow_add-at
overflow_add-at c = let h : c.args.at + 2 ≤ 16384 = (left-inside c.requires.has_conjunct).1 in search rules

pub lone_at-requires : goal.lone_at-requires
lone_at-requires c = (c.requires.slots_len.0, (left-inside c.requires.has_conjunct).0)

pub bind_value-requires-clause-has_expression : goal.bind_value-requires-clause-has_expression
bind_value-requires-clause-has_expression c = behind-lone c.requires.has_conjunct c.args.slots.now c.in-Some.ensures

pub returns-in-Some : goal.returns-in-Some
returns-in-Some c =
    let a = c.args in
    tried_same c.bind_value.ensures (left_unbound c.requires.has_conjunct a.slots.now (ranges_from a.net.now a.variables a.ranges) c.in-Some.ensures refl)

pub overflow_add-at-2 : goal.overflow_add-at-2
overflow_add-at-2 c = let h : c.args.at + 2 ≤ 16384 = (left-inside c.requires.has_conjunct).1 in search rules

pub evaluate-left-requires : goal.evaluate-left-requires
evaluate-left-requires c = search (rules, slots_stand, left-stands)

pub returns-in_default-value : goal.returns-in_default-value
returns-in_default-value c =
    let a = c.args in
    tried_not (left-none c.requires.has_conjunct a.slots.now (ranges_from a.net.now a.variables a.ranges) c.in_default.ensures c.requires.slots_len.0 c.evaluate-left.ensures (ap option_of c.in_default-value.is))

pub bind_lone-requires-clause-at_in_bounds : goal.bind_lone-requires-clause-at_in_bounds
bind_lone-requires-clause-at_in_bounds c = left-ends c.requires.has_conjunct c.args.slots.now c.requires.slots_len.0 c.evaluate-left.ensures

pub returns : goal.returns
returns c =
    let a = c.args in
    let p = read_back c.in-Some-value.z (search rules) in
    tried_same (simp p at c.bind_lone.ensures) (left-value c.requires.has_conjunct a.slots.now (ranges_from a.net.now a.variables a.ranges) c.in_default.ensures c.requires.slots_len.0 c.evaluate-left.ensures (ap option_of c.in-Some-value.is) refl)
