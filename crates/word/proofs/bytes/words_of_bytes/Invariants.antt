-- `word::bytes::words_of_bytes` meets its contract: the loop of `Copying`.
use Rattle.word.proofs.Copying.{Filled}
use Rattle.word.proofs.bytes.words_of_bytes.Given as goal

abbrev pub invariant-loop-i : goal.invariant-loop-i
invariant-loop-i l = Filled l.bytes l.initial.words l.n l.i l.words
