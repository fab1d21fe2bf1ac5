-- `gimletlemon::fire::gimletlemon_fire` meets its contract: what fire answers is told, and the buffer is as fire leaves it.
use mathlib.Core.Path.{ap}
use Rattle.semantics.specs.Answer.{fire_refusal, fire_length}
use Rattle.semantics.specs.Calls.{FireEnd}
use Rattle.gimletlemon.proofs.Telling.{passed_on}
use Rattle.gimletlemon.proofs.fire.gimletlemon_fire.Goals as goal

pub returns : goal.returns
returns c =
    let e = c.fire.ensures in
    let a = ap (λ (x : FireEnd). x.answer) e in
    record { position_after = passed_on fire_refusal a c.tell_fire.ensures.position_after; length_after = passed_on fire_length a c.tell_fire.ensures.length_after; next_after = ap (λ (x : FireEnd). x.buffer) e }
