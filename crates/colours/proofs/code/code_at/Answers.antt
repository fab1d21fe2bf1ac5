-- `colours::code::code_at` meets its contract: the digit of each word is put behind the code of the words before it.
use Rattle.colours.proofs.Codes.{code_none, code_one, code_two, code_three, code_four, code_all, code_room}
use native.Mathlib.Omega.{arith}
use Rattle.colours.proofs.code.code_at.Goals as goal

pub returns-then-n-eq0 : goal.returns-then-n-eq0
returns-then-n-eq0 c = code_all _ 0 _ c.if-n-eq0.true (code_none _ _)

pub returns-then-n-eq1 : goal.returns-then-n-eq1
returns-then-n-eq1 c = code_all _ 1 _ c.if-n-eq1.true (code_one _ _ c.with_digit-one.ensures)

pub with_digit-two-requires : goal.with_digit-two-requires
with_digit-two-requires c = code_room 1 _ (omega arith) (code_one c.args.words.now c.args.at c.with_digit-one.ensures).small

pub returns-then-n-eq2 : goal.returns-then-n-eq2
returns-then-n-eq2 c = code_all _ 2 _ c.if-n-eq2.true (code_two _ _ c.with_digit-one.ensures c.with_digit-two.ensures)

pub with_digit-three-requires : goal.with_digit-three-requires
with_digit-three-requires c = code_room 2 _ (omega arith) (code_two c.args.words.now c.args.at c.with_digit-one.ensures c.with_digit-two.ensures).small

pub returns-then-n-eq3 : goal.returns-then-n-eq3
returns-then-n-eq3 c = code_all _ 3 _ c.if-n-eq3.true (code_three _ _ c.with_digit-one.ensures c.with_digit-two.ensures c.with_digit-three.ensures)

pub with_digit-requires : goal.with_digit-requires
with_digit-requires c = code_room 3 _ (omega arith) (code_three c.args.words.now c.args.at c.with_digit-one.ensures c.with_digit-two.ensures c.with_digit-three.ensures).small

pub returns : goal.returns
returns c = code_all _ 4 _ (omega arith) (code_four _ _ c.with_digit-one.ensures c.with_digit-two.ensures c.with_digit-three.ensures c.with_digit.ensures)
