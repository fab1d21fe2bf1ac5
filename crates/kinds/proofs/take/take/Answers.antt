-- `kinds::take::take` meets its contract: a law of Taking for each return.
use native.Mathlib.Omega.{arith}
use Rattle.kinds.proofs.Taking.{ends_early, too_long, other-kind, unfit, fit}
use Rattle.kinds.proofs.take.take.Goals as goal

pub returns-then-words-at : goal.returns-then-words-at
returns-then-words-at c = ends_early _ _ _ (omega arith)

pub returns-then-at-ge-MOST_WORDS : goal.returns-then-at-ge-MOST_WORDS
returns-then-at-ge-MOST_WORDS c = too_long _ _ _ (omega arith) (omega arith)

pub returns-then-kind-k : goal.returns-then-kind-k
returns-then-kind-k c = other-kind _ _ _ _ (omega arith) (omega arith) c.kind.ensures.0 c.if-kind-k.true

pub returns-then-fits_kind : goal.returns-then-fits_kind
returns-then-fits_kind c =
    fit _ _ _ _ (omega arith) (omega arith) c.kind.ensures.0 c.if-kind-k.false _ c.payload-p.ensures.0 _ c.fits_kind.ensures c.if-fits_kind.true

pub returns-else-fits_kind : goal.returns-else-fits_kind
returns-else-fits_kind c =
    unfit _ _ _ _ (omega arith) (omega arith) c.kind.ensures.0 c.if-kind-k.false _ c.payload-p.ensures.0 _ c.fits_kind.ensures c.if-fits_kind.false
