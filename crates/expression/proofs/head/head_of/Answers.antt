-- `expression::head::head_of` meets its contract. Each arm is a rule of `Heads`.
use Rattle.expression.proofs.Heads.{words}
use Rattle.expression.proofs.head.head_of.Goals as goal

pub returns-then-rest-lt16384 : goal.returns-then-rest-lt16384
returns-then-rest-lt16384 c = search words

pub returns-else-rest-lt16384 : goal.returns-else-rest-lt16384
returns-else-rest-lt16384 c = search words

pub returns-then-n-variables : goal.returns-then-n-variables
returns-then-n-variables c = search words

pub returns-else-n-variables : goal.returns-else-n-variables
returns-else-n-variables c = search words

pub returns-in-4 : goal.returns-in-4
returns-in-4 c = search words

pub returns-in-0-to-3 : goal.returns-in-0-to-3
returns-in-0-to-3 c = search words

pub returns-in_default-rest : goal.returns-in_default-rest
returns-in_default-rest c = search words

pub returns-in-0-to-6 : goal.returns-in-0-to-6
returns-in-0-to-6 c = search words
