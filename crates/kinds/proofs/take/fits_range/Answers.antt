-- `kinds::take::fits_range` meets its contract.
use mathlib.Core.Path.{refl}
use Rattle.word.proofs.Read.{read_back}
use Rattle.word.proofs.Words.{bits-low}
use Rattle.kinds.proofs.take.fits_range.Goals as goal

pub returns : goal.returns
returns c =
    let low = c.signed in
    let high = c.signed-2 in
    rw (read_back low.result low.type_inv, read_back high.result high.type_inv, low.ensures.0, high.ensures.0, bits-low) refl
