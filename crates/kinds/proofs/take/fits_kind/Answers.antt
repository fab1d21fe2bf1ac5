-- `kinds::take::fits_kind` meets its contract: each arm's test is that of its kind.
use mathlib.Core.Path.{refl}
use mathlib.Core.Logic.{⊎_elim}
use Rattle.kinds.specs.Taken.{fits_kind}
use Rattle.kinds.proofs.Taking.{tests}
use Rattle.kinds.proofs.take.fits_kind.Goals as goal

pub fits_net-requires : goal.fits_net-requires
fits_net-requires c = search tests

pub in_limits-requires : goal.in_limits-requires
in_limits-requires c = search tests

pub fits_range-requires : goal.fits_range-requires
fits_range-requires c = search tests

pub fits_transition-requires : goal.fits_transition-requires
fits_transition-requires c = search tests

pub returns-in-1 : goal.returns-in-1
unfolding fits_kind
returns-in-1 c = rw c.in-1.is c.fits_net.ensures

pub returns-in-2 : goal.returns-in-2
unfolding fits_kind
returns-in-2 c = rw c.in-2.is c.in_limits.ensures

pub returns-in-3 : goal.returns-in-3
unfolding fits_kind
returns-in-3 c = rw c.in-3.is c.fits_range.ensures

pub returns-in-4 : goal.returns-in-4
unfolding fits_kind
returns-in-4 c = rw c.in-4.is c.fits_transition.ensures

pub returns-in-6 : goal.returns-in-6
unfolding fits_kind
returns-in-6 c = rw c.in-6.is refl

pub returns-then-p-lt1024 : goal.returns-then-p-lt1024
unfolding fits_kind
returns-then-p-lt1024 c = rw c.in-10.is (search tests)

pub returns-else-p-lt1024 : goal.returns-else-p-lt1024
unfolding fits_kind
returns-else-p-lt1024 c = rw c.in-10.is (search tests)

pub returns-in_default : goal.returns-in_default
unfolding fits_kind
returns-in_default c = search tests

pub returns-in-0 : goal.returns-in-0
unfolding fits_kind
returns-in-0 c = ⊎_elim (λ e. rw e refl) (λ e. rw e refl) c.in-0.in-0-own.keys7

pub returns-in-0-2 : goal.returns-in-0-2
unfolding fits_kind
returns-in-0-2 c = search tests
