-- `kinds::take::fits_transition` meets its contract: the fields in the order of the definition, each looked at where those before it fit.
use Rattle.word.proofs.Words.{bits-low}
use Rattle.kinds.proofs.Taking.{tests}
use Rattle.kinds.proofs.take.fits_transition.Goals as goal

pub returns-then-p-ge1048576 : goal.returns-then-p-ge1048576
returns-then-p-ge1048576 c = search tests

pub returns-then-p-gt8 : goal.returns-then-p-gt8
returns-then-p-gt8 c = rw bits-low (search tests)

pub returns-then-p-gt8-2 : goal.returns-then-p-gt8-2
returns-then-p-gt8-2 c = rw bits-low (search tests)

pub returns-then-p-gt8-3 : goal.returns-then-p-gt8-3
returns-then-p-gt8-3 c = rw bits-low (search tests)

pub returns-then-p-gt8-4 : goal.returns-then-p-gt8-4
returns-then-p-gt8-4 c = rw bits-low (search tests)

pub returns : goal.returns
returns c = rw bits-low (search tests)
