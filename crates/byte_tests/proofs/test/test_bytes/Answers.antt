-- `byte_tests::test::test_bytes` meets its contract: bad lengths are refused in order, and then the words are tested.
use Rattle.byte_tests.proofs.Words.{test_refused-net, test_refused_marking, test_refused-binding, bytes-tested}
use Rattle.byte_tests.proofs.test.test_bytes.Goals as goal

pub returns-then-net-ne0 : goal.returns-then-net-ne0
returns-then-net-ne0 c = search test_refused-net

pub returns-then-marking-ne0 : goal.returns-then-marking-ne0
returns-then-marking-ne0 c = search test_refused_marking

pub returns-then-binding-ne0 : goal.returns-then-binding-ne0
returns-then-binding-ne0 c = search test_refused-binding

pub returns : goal.returns
returns c = search bytes-tested
