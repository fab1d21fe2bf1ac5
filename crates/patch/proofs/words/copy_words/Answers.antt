-- `patch::words::copy_words` meets its contract: the words copied so far are the first of the part.
use mathlib.Core.Path.{refl, ◌∙◌}
use Prim.Native.Nat.{◌+◌}
use lib.ListN.{get_or, length-set}
use lib.Seq.{slice, paste-zero}
use Rattle.patch.proofs.Writing.{copy_turn, copy_end}
use native.Mathlib.Omega.{arith}
use Rattle.patch.proofs.words.copy_words.Goals as goal

pub loop-j-init : goal.loop-j-init
loop-j-init c = (omega arith, refl, paste-zero c.args.next.now c.args.at (slice c.args.from c.args.to c.args.words.now))

pub loop-j-preserved : goal.loop-j-preserved
loop-j-preserved c =
    let lp = c.loop-j in
    (omega arith, length-set lp.next (c.args.at + lp.j) (get_or c.args.words.now (c.args.from + lp.j) 0) ∙ lp.invariant.1, copy_turn c.args.words.now c.args.next.now lp.next c.args.from c.args.to c.args.at lp.j lp.invariant.2 (omega arith) (omega arith) (omega arith))

pub shape_of-next : goal.shape_of-next
shape_of-next c = c.loop-j.invariant.1

pub returns : goal.returns
returns c =
    let lp = c.loop-j in
    copy_end c.args.words.now c.args.next.now lp.next c.args.from c.args.to c.args.at lp.j lp.invariant.2 (omega arith) (omega arith)
