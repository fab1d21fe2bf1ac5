-- `byte_tests::test::test_words` meets its contract: small buffers are lent where all bytes are few.
use native.Mathlib.Omega.{arith}
use borrow.Author.Tests.{leb-true}
use Rattle.byte_tests.proofs.test.test_words.Goals as goal

pub test_in-requires : goal.test_in-requires
test_in-requires c = omega (arith, leb-true)
