-- `solving::solve::bind_value` meets its contract: a value or none, by `Solving`.
use mathlib.Core.Path.{ap}
use borrow.Author.Rules.{rules}
use Rattle.semantics.specs.Answer.{option_of}
use Rattle.word.proofs.Read.{read_back}
use Rattle.net.specs.Places.{ranges_from}
use Rattle.tries.proofs.Slots.{tried_not, tried_same}
use Rattle.solving.proofs.Solving.{bound-value, bound-none}
use Rattle.solving.proofs.solve.bind_value.Goals as goal

pub returns-in_default : goal.returns-in_default
returns-in_default c =
    let a = c.args in
    tried_not (bound-none a.net.now a.slots.now a.variables a.at c.requires.slots_len.0 c.evaluate.ensures (ranges_from a.net.now a.variables a.ranges) a.n (ap option_of c.in_default.is))

pub returns : goal.returns
returns c =
    let a = c.args in
    let p = read_back c.in-Some.z (search rules) in
    tried_same (simp p at c.bind_new.ensures) (bound-value a.net.now a.slots.now a.variables a.at c.requires.slots_len.0 c.evaluate.ensures (ranges_from a.net.now a.variables a.ranges) a.n (ap option_of c.in-Some.is))
