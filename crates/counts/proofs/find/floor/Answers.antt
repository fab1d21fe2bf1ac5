-- `counts::find::floor` meets its contract: the bracket of `Ranked` is halved until it holds one entry.
use Prim.Native.Nat.{◌+◌, ◌-◌, ◌/◌}
use native.Mathlib.Omega.{arith}
use Rattle.counts.proofs.Ranked.{bracket_start, bracket_up, bracket_down, bracket_end, middle_room}
use Rattle.counts.proofs.find.floor.Goals as goal

pub loop-high-init : goal.loop-high-init
loop-high-init c = bracket_start _ _ _ _ _ c.requires.k_nonzero

pub loop-high-preserved-then-code-code_at : goal.loop-high-preserved-then-code-code_at
loop-high-preserved-then-code-code_at c =
    let l = c.loop-high in
    let t = c.loop-high-test.true in
    bracket_down c.args.code l.invariant (l.low + (l.high - l.low) / 2) (omega arith) (omega arith) c.code_at.ensures c.requires.n_bound.1 c.if-code-code_at.true

pub loop-high-preserved : goal.loop-high-preserved
loop-high-preserved c =
    let l = c.loop-high in
    let t = c.loop-high-test.true in
    bracket_up c.args.code l.invariant (l.low + (l.high - l.low) / 2) (omega arith) (omega arith) c.code_at.ensures c.requires.n_bound.1 c.if-code-code_at.false

pub returns : goal.returns
returns c = bracket_end c.loop-high.invariant c.loop-high-test.false

pub overflow_mul-mid : goal.overflow_mul-mid
overflow_mul-mid c = omega (arith, middle_room c.loop-high.invariant c.loop-high-test.true c.requires.n_in_bounds)

pub overflow_add-from : goal.overflow_add-from
overflow_add-from c = omega (arith, middle_room c.loop-high.invariant c.loop-high-test.true c.requires.n_in_bounds)

pub overflow_add-from-in-loop-high : goal.overflow_add-from-in-loop-high
overflow_add-from-in-loop-high c = omega (arith, middle_room c.loop-high.invariant c.loop-high-test.true c.requires.n_in_bounds)

pub code_at-requires : goal.code_at-requires
code_at-requires c = omega (arith, middle_room c.loop-high.invariant c.loop-high-test.true c.requires.n_in_bounds)
