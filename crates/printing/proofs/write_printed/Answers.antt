-- `printing::write_printed` meets its contract: the measure is the number of parts left, of which there are at most 64.
use Prim.Native.Nat.{suc, ◌<◌}
use native.Mathlib.Omega.{arith}
use borrow.Author.Rules.{rules}
use borrow.Author.Tests.{ltb-true}
use mathlib.Core.Path.{sym, ◌∙◌}
use Rattle.printed.specs.Texts.{parts}
use Rattle.printed.proofs.Whole.{parts-few}
use Rattle.printing.proofs.write_printed.Goals as goal

pub loop-i-init : goal.loop-i-init
loop-i-init c = tt

pub overflow_add-i : goal.overflow_add-i
overflow_add-i c = let h : suc c.loop-i.i < parts c.args.bytes.now = ltb-true _ _ (sym c.write_part.ensures ∙ c.loop-i-test.true) in let f = parts-few c.args.bytes.now in search rules

pub loop-i-smaller : goal.loop-i-smaller
loop-i-smaller c = let h : suc c.loop-i.i < parts c.args.bytes.now = ltb-true _ _ (sym c.write_part.ensures ∙ c.loop-i-test.true) in omega arith

pub loop-i-preserved : goal.loop-i-preserved
loop-i-preserved c = tt
