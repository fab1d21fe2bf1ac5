-- `counts::find::find` meets its contract: the laws of `Found`, one for each return.
use mathlib.Core.Path.{sym, ap, ◌∙◌}
use Prim.Native.Nat.{◌+◌}
use native.Mathlib.Omega.{arith}
use borrow.Author.Tests.{lt-ltb}
use lib.ListN.{length, get_or}
use Rattle.colours.specs.Code.{coloured}
use Rattle.colours.proofs.Codes.{coloured-length, coded-before, coded-after}
use Rattle.counts.proofs.Found.{spot_backwards, spot_outside, spot_none, spot_there, spot_before, spot_after, rows_inside, floor_inside}
use Rattle.counts.proofs.find.find.Goals as goal

pub returns-then-to-from : goal.returns-then-to-from
returns-then-to-from c = spot_backwards (coloured-length c.args.n c.args.code) c.if-to-from.true

pub returns-then-words-to : goal.returns-then-words-to
returns-then-words-to c = spot_outside (coloured-length c.args.n c.args.code) c.if-words-to.true

pub returns-then-k-eq0 : goal.returns-then-k-eq0
returns-then-k-eq0 c = spot_none (coloured-length c.args.n c.args.code) c.entries-k.ensures c.if-k-eq0.true

pub floor-requires : goal.floor-requires
floor-requires c =
    let m = rows_inside (get_or c.args.begins.now c.args.place 0) (get_or c.args.begins.now (c.args.place + 1) 0) (c.args.n + 1) (length c.args.words.now) c.if-to-from.false c.if-words-to.false in
    record { k_nonzero = omega arith; n_in_bounds = rw c.entries-k.ensures m; n_bound = c.requires.n_bound }

pub overflow_mul-at : goal.overflow_mul-at
overflow_mul-at c = omega (arith, (floor_inside c.floor.ensures (get_or c.args.begins.now (c.args.place + 1) 0) c.entries-k.ensures c.if-to-from.false c.if-words-to.false))

pub overflow_add-at : goal.overflow_add-at
overflow_add-at c = omega (arith, (floor_inside c.floor.ensures (get_or c.args.begins.now (c.args.place + 1) 0) c.entries-k.ensures c.if-to-from.false c.if-words-to.false))

pub overflow_add-at-2 : goal.overflow_add-at-2
overflow_add-at-2 c = omega (arith, (floor_inside c.floor.ensures (get_or c.args.begins.now (c.args.place + 1) 0) c.entries-k.ensures c.if-to-from.false c.if-words-to.false))

pub code_at-here-requires : goal.code_at-here-requires
code_at-here-requires c = omega (arith, (floor_inside c.floor.ensures (get_or c.args.begins.now (c.args.place + 1) 0) c.entries-k.ensures c.if-to-from.false c.if-words-to.false))

pub offset_bounds-words-at : goal.offset_bounds-words-at
offset_bounds-words-at c = omega (arith, (floor_inside c.floor.ensures (get_or c.args.begins.now (c.args.place + 1) 0) c.entries-k.ensures c.if-to-from.false c.if-words-to.false))

pub bounds-words-at : goal.bounds-words-at
bounds-words-at c = omega (arith, (floor_inside c.floor.ensures (get_or c.args.begins.now (c.args.place + 1) 0) c.entries-k.ensures c.if-to-from.false c.if-words-to.false))

pub overflow_add-result : goal.overflow_add-result
overflow_add-result c = omega (arith, (floor_inside c.floor.ensures (get_or c.args.begins.now (c.args.place + 1) 0) c.entries-k.ensures c.if-to-from.false c.if-words-to.false))

pub returns-then-here-code : goal.returns-then-here-code
returns-then-here-code c =
    spot_there (coloured-length c.args.n c.args.code) c.entries-k.ensures c.floor.ensures (sym c.code_at-here.ensures.same ∙ ap (coloured c.args.n) c.if-here-code.true)

pub returns-then-here-code-2 : goal.returns-then-here-code-2
returns-then-here-code-2 c =
    spot_before (coloured-length c.args.n c.args.code) c.entries-k.ensures c.floor.ensures (sym (coded-before c.args.code c.code_at-here.ensures c.requires.n_bound.1) ∙ lt-ltb _ _ c.if-here-code-2.true)

pub returns : goal.returns
returns c =
    spot_after (coloured-length c.args.n c.args.code) c.entries-k.ensures c.floor.ensures (sym (coded-after c.args.code c.code_at-here.ensures c.requires.n_bound.1) ∙ lt-ltb c.args.code c.code_at-here.result (omega (arith, c.if-here-code-2.false, c.if-here-code.false)))
