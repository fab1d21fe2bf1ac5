-- `text::number::put_value` meets its contract: each half of the fourteen bits by its law.
use native.Mathlib.Omega.{arith}
use Prim.Native.Nat.{◌%◌, ◌<◌}
use Rattle.text.proofs.Putting.{put_then}
use Rattle.text.proofs.Digits.{value_negative}
use Rattle.text.proofs.number.put_value.Goals as goal

pub returns : goal.returns
returns c = let h : c.args.w % 16384 < 16384 = omega arith in rw (value_negative (c.args.w % 16384) c.if-u-lt8192.false h) (put_then c.put_byte-next.ensures c.put_decimal-2.ensures)
