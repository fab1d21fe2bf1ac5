-- `occurrence::enabled::taken` meets its contract: each return is a rule of `Covering`.
use mathlib.Core.Bool.{not}
use mathlib.Core.Path.{ap}
use Rattle.occurrence.proofs.Covering.{enabling, taken-covered}
use Rattle.occurrence.proofs.enabled.taken.Goals as goal

pub returns : goal.returns
returns c = taken-covered _ _ _ _ _ _ _ c.guard_holds.ensures (ap not c.if-not-guard_holds.false) c.gather-all.ensures.gathered c.if-not-all.false c.covers.ensures (ap not c.if-not-covers.false)

pub gather-all-requires : goal.gather-all-requires
gather-all-requires c = record { places_fit = search enabling; ats_len_bound = search enabling; keys_len = (search enabling, search enabling); every = search enabling; known = search enabling }

pub returns-then-not-all : goal.returns-then-not-all
returns-then-not-all c = search enabling

pub returns-then-not-covers : goal.returns-then-not-covers
returns-then-not-covers c = search enabling
