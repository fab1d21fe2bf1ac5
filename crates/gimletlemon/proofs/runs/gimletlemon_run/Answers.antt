-- `gimletlemon::runs::gimletlemon_run` meets its contract: what run answers is told, and the buffers are as run leaves them.
use mathlib.Core.Path.{ap}
use Rattle.semantics.specs.Answer.{Outcome}
use Rattle.semantics.specs.Calls.{RunEnd}
use Rattle.answers.specs.Told.{run_refusal}
use Rattle.gimletlemon.proofs.Telling.{passed_on}
use Rattle.gimletlemon.proofs.runs.gimletlemon_run.Goals as goal

pub returns : goal.returns
returns c =
    let e = c.run.ensures in
    let a = ap (λ (x : RunEnd). x.answer) e in
    record { position_after = passed_on run_refusal a c.tell_run.ensures.position_after; done_after = passed_on (λ (o : Outcome). o.done) a c.tell_run.ensures.done_after; length_after = passed_on (λ (o : Outcome). o.length) a c.tell_run.ensures.length_after; buffer_after = ap (λ (x : RunEnd). x.buffer) e; spare_after = ap (λ (x : RunEnd). x.spare) e; menu_after = ap (λ (x : RunEnd). x.menu) e }
