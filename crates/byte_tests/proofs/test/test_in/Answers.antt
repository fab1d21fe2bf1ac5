-- `byte_tests::test::test_in` meets its contract: its buffers hold all words that any reader looks at.
use Rattle.byte_tests.proofs.Words.{tested_alike}
use Rattle.byte_tests.proofs.test.test_in.Goals as goal

pub returns : goal.returns
returns c = search tested_alike
