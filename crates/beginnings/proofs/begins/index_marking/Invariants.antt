-- `beginnings::begins::index_marking` meets its contract: the turns of `Known`, place by place.
use Rattle.net.specs.Places.{places_at}
use Rattle.beginnings.proofs.Known.{Ready}
use Rattle.beginnings.proofs.begins.index_marking.Given as goal

abbrev pub invariant-loop-p : goal.invariant-loop-p
invariant-loop-p l = Ready (places_at l.net l.places) l.words l.begins l.p l.at
