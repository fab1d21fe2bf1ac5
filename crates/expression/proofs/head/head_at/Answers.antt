-- `expression::head::head_at` meets its contract. Each answer is a rule of `Heads`.
use Rattle.expression.proofs.Heads.{heads}
use Rattle.expression.proofs.head.head_at.Goals as goal

pub returns-then-words-at : goal.returns-then-words-at
returns-then-words-at c = search heads

pub returns-then-at-ge-MOST_WORDS : goal.returns-then-at-ge-MOST_WORDS
returns-then-at-ge-MOST_WORDS c = search heads

pub returns-then-left-eq0 : goal.returns-then-left-eq0
returns-then-left-eq0 c = search heads

pub returns : goal.returns
returns c = search heads
