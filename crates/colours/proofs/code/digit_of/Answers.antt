-- `colours::code::digit_of` meets its contract: `digit-signed`.
use Prim.Native.Nat.{◌%◌}
use Rattle.colours.proofs.Codes.{digit-signed}
use native.Mathlib.Omega.{arith}
use Rattle.colours.proofs.code.digit_of.Goals as goal

pub returns : goal.returns
returns c = (digit-signed (c.args.w % 16384) (omega arith), omega arith)
