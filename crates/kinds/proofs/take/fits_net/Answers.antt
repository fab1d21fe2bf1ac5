-- `kinds::take::fits_net` meets its contract: the fields in the order of the definition, each looked at where those before it fit.
use mathlib.Core.Path.{refl, sym, ◌∙◌}
use native.Mathlib.Omega.{arith}
use borrow.Author.Tests.{lt-ltb, le-ltb}
use Rattle.word.proofs.Words.{bits-low}
use Rattle.kinds.proofs.take.fits_net.Goals as goal

pub returns-then-p-ge65536 : goal.returns-then-p-ge65536
returns-then-p-ge65536 c = rw (le-ltb c.args.p 65536 (omega arith)) refl

pub returns-then-not-in_limits : goal.returns-then-not-in_limits
returns-then-not-in_limits c = rw (lt-ltb c.args.p 65536 (omega arith), sym c.in_limits.ensures ∙ c.if-not-in_limits.true) refl

pub returns : goal.returns
returns c =
    rw (lt-ltb c.args.p 65536 (omega arith), sym c.in_limits.ensures ∙ c.if-not-in_limits.false, bits-low) c.in_limits-2.ensures
