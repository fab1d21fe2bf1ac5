-- `byte_checks::buffer::words_in` meets its contract: the buffer has room for all words that any reader looks at.
use mathlib.Core.Path.{sym}
use native.Mathlib.Omega.{arith}
use lib.Seq.{length-take-le}
use Rattle.byte_checks.proofs.Words.{enough-words}
use Rattle.byte_checks.proofs.buffer.words_in.Goals as goal

pub slice_bounds-result-end : goal.slice_bounds-result-end
slice_bounds-result-end c = sym (length-take-le _ _ (omega arith))

pub returns : goal.returns
returns c = search enough-words
