-- `colours::order::values_before` meets its contract: the loop of `Comparing` over words and words.
use mathlib.Core.Bool.{not}
use mathlib.Core.Path.{ap}
use Rattle.colours.proofs.Comparing.{words-start, words_more, words_turn, comparing}
use borrow.Author.Rules.{rules}
use Rattle.colours.proofs.order.values_before.Goals as goal

pub loop-i-init : goal.loop-i-init
loop-i-init c = words-start _ _ _ _

pub returns-then-less : goal.returns-then-less
returns-then-less c = search comparing

pub returns-then-not-equal : goal.returns-then-not-equal
returns-then-not-equal c =
    words_more c.loop-i.invariant c.loop-i-test.true (search rules) (search rules) c.less.ensures c.if-less.false c.equal.ensures (ap not c.if-not-equal.true)

pub loop-i-preserved : goal.loop-i-preserved
loop-i-preserved c =
    words_turn c.loop-i.invariant c.loop-i-test.true (search rules) (search rules) c.less.ensures c.if-less.false c.equal.ensures (ap not c.if-not-equal.false)

pub returns : goal.returns
returns c = search comparing
