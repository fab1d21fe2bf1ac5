-- `matches::colour::match_colour` meets its contract: the loop keeps `Agreeing`; where a component differs, the slots are what was kept of them.
use mathlib.Core.Path.{sym, ap, ◌∙◌}
use Prim.Native.Nat.{ℕ}
use lib.ListN.{take}
use Rattle.tries.proofs.Slots.{tried_back}
use Rattle.matches.proofs.Agreeing.{held_same, agreeing}
use Rattle.matches.proofs.colour.match_colour.Goals as goal
use Rattle.matches.proofs.colour.match_colour.Goals.{in-Agrees, in-Takes}

pub returns-in-Differs : goal.returns-in-Differs
returns-in-Differs c =
    tried_back (search agreeing)
    (c.restore.ensures ∙ ap (λ (n : ℕ). take n c.args.saved.now) (c.loop-i.invariant.full ∙ sym c.requires.slots_len.0) ∙ c.requires.saved.front)

pub loop-i-preserved : goal.loop-i-preserved
loop-i-preserved c =
    elim c.match-meet_part.branch [
      | in-Agrees v ↦ held_same v.slots-is (search agreeing)
      | in-Takes v ↦ held_same v.slots-is (search agreeing)
    ]

pub returns : goal.returns
returns c = search agreeing
