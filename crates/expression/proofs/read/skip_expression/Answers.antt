-- `expression::read::skip_expression` meets its contract: a constant and a lone variable by their word, any other by `skip_any`.
use Rattle.expression.proofs.Skipping.{skipping-word}
use Rattle.expression.proofs.read.skip_expression.Goals as goal

pub returns-then-words-at : goal.returns-then-words-at
returns-then-words-at c = search skipping-word

pub returns-then-at-ge-MOST_WORDS : goal.returns-then-at-ge-MOST_WORDS
returns-then-at-ge-MOST_WORDS c = search skipping-word

pub returns-then-rest-lt16384 : goal.returns-then-rest-lt16384
returns-then-rest-lt16384 c = search skipping-word

pub returns-else-rest-lt16384 : goal.returns-else-rest-lt16384
returns-else-rest-lt16384 c = search skipping-word

pub returns-then-rest-variables : goal.returns-then-rest-variables
returns-then-rest-variables c = search skipping-word

pub returns-else-rest-variables : goal.returns-else-rest-variables
returns-else-rest-variables c = search skipping-word
