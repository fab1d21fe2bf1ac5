-- `word::bytes::words_of_bytes` meets its contract: the loop of `Copying`.
use Rattle.word.proofs.Copying.{filled_again}
use Rattle.word.proofs.bytes.words_of_bytes.Goals as goal

pub loop-i-preserved : goal.loop-i-preserved
loop-i-preserved c = filled_again c.loop-i.invariant c.loop-i-test.true c.word_of.ensures
