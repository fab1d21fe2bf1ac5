-- `run::run::run` meets its contract: each return is a rule of `Calling`.
use native.Mathlib.Omega.{arith}
use Rattle.run.proofs.Calling.{run_unstarted, run_runnable, run_inside, run_ended}
use Rattle.run.proofs.run.run.Goals as goal

pub returns-in-Err : goal.returns-in-Err
returns-in-Err c =
    let a = c.args in
    run_unstarted a.net.now a.budget a.buffer.now a.m a.spare.now a.menu.now a.picks.now _ c.in-Err.ensures

pub fire_picks-ended-requires : goal.fire_picks-ended-requires
fire_picks-ended-requires c =
    let a = c.args in
    run_runnable a.net.now a.budget a.buffer.now a.m a.spare.now a.menu.now a.picks.now c.in-Ok.ensures c.at_most-places.ensures c.at_most-transitions.ensures

pub returns : goal.returns
returns c =
    let p = c.fire_picks-ended in
    let a = c.args in
    run_ended a.net.now a.budget a.buffer.now a.m a.spare.now a.menu.now a.picks.now c.in-Ok.ensures p.ensures p.auto.buffer (c.fill.ensures.after (λ y e. e)) p.auto.spare (c.fill-2.ensures.after (λ y e. e)) p.auto.menu (c.fill-3.ensures.after (λ y e. e))
