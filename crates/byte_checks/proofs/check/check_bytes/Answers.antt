-- `byte_checks::check::check_bytes` meets its contract: a bad length is refused, and then the words are checked.
use Rattle.byte_checks.proofs.Words.{bytes-refused, bytes_checked}
use Rattle.byte_checks.proofs.check.check_bytes.Goals as goal

pub returns-then-net-ne0 : goal.returns-then-net-ne0
returns-then-net-ne0 c = search bytes-refused

pub returns-then-net-le4096 : goal.returns-then-net-le4096
returns-then-net-le4096 c = search bytes_checked

pub returns : goal.returns
returns c = search bytes_checked
