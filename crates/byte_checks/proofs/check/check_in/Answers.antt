-- `byte_checks::check::check_in` meets its contract: its buffer holds all words that any reader looks at.
use Rattle.byte_checks.proofs.Words.{checked_alike}
use Rattle.byte_checks.proofs.check.check_in.Goals as goal

pub returns : goal.returns
returns c = search checked_alike
