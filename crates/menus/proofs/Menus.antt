-- The rules of the call: refused input is told as it is, and what was prepared is all that listing the bindings asks.
use mathlib.Core.Path.{◌≡◌, refl, sym, ap, ◌∙◌, subst}
use mathlib.Core.List.{List}
use Prim.Native.Nat.{ℕ, ◌+◌, ◌-◌}
use native.Mathlib.Omega.{arith}
use lib.ListN.{length, take, drop}
use Rattle.semantics.specs.declared.Listed.{Listed}
use Rattle.std.specs.Prelude.{Result, Err}
use Rattle.semantics.specs.declared.refusal.Refusal.{Refusal}
use Rattle.semantics.specs.Answer.{refusing}
use Rattle.semantics.specs.Expression.{house_table}
use Rattle.semantics.specs.Run.{offer}
use Rattle.semantics.specs.Marking.{counts_of}
use Rattle.semantics.specs.Calls.{Situation, situation, listed_by, menu_call}
use Rattle.semantics.proofs.Members.{at_member_lem}
use Rattle.semantics.proofs.Accepted.{accepted_planned}
use Rattle.net.specs.Skim.{Outline}
use Rattle.situations.specs.Situation.{Index, outlined, Prepared}
use Rattle.arrivals.specs.World.{World}
use Rattle.search.specs.Scene.{scene_of}
use Rattle.search.specs.Search.{menu_end}
use Rattle.menus.specs.Menu.{IsListed}

pub menu-refused : (ws : List ℕ) (t : ℕ) (ms : List ℕ) (budget : ℕ) (buffer : List ℕ) (e : Refusal) → situation ws t ms ≡ refusing e → menu_end (Err e) buffer ≡ menu_call ws t ms budget buffer
unfolding menu_call
menu-refused ws t ms budget buffer e i = rw i

module _ {ws : List ℕ} {t : ℕ} {ms : List ℕ} {r : Index} (P : Prepared ws t ms r) where
  -- net, transition and counts that were prepared
  abbrev pub scene : Situation
  scene = record { net = P.net; transition = P.transition; counts = counts_of P.entries }

  pub scene_is : scene_of ws r.position ms ≡ scene
  unfolding scene_of
  scene_is = rw (P.accepted, P.there, P.marked)

  -- how many conjuncts and elements are lent is told as a difference
  pub prepared_world : length r.begins ≡ 65 → World ws (take r.places r.places_at) r.position r.transition.variables (outlined r).inputs (take (16 + r.transition.conjuncts - 16) (drop 16 r.own)) (take (24 + r.transition.elements - 24) (drop 24 r.own)) ms r.begins (scene_of ws r.position ms)
  prepared_world l = rw (same 16 r.transition.conjuncts, same 24 r.transition.elements) (subst (World ws (take r.places r.places_at) r.position r.transition.variables (outlined r).inputs (outlined r).guard (outlined r).plan ms r.begins) (sym scene_is) world)
    where
      same : (a n : ℕ) → a + n - a ≡ n
      same a n = omega arith

      world : World ws (take r.places r.places_at) r.position r.transition.variables (outlined r).inputs (outlined r).guard (outlined r).plan ms r.begins scene
      world = record {
        whole = P.whole;
        accepted = P.accepted;
        placed = P.placed;
        fits = P.fits;
        after = P.after;
        there = P.there;
        many = ap (λ (o : Outline). o.variables) P.outlines;
        arcs = ap (λ (o : Outline). o.inputs) P.outlines;
        guards = ap (λ (o : Outline). o.guard) P.outlines;
        plan = ap (λ (o : Outline). o.plan) P.outlines;
        faultless = accepted_planned ws P.net P.whole P.accepted P.transition (at_member_lem P.net.transitions t P.transition P.named);
        entries = P.entries;
        end = P.end;
        marked = P.marked;
        counted = refl;
        begun = P.begins;
        beginnings = l;
      }

  pub menu-listed : {budget : ℕ} {buffer : List ℕ} {a : Result Listed Refusal} {after : List ℕ} → IsListed ws r.position ms budget buffer a after → menu_end a after ≡ menu_call ws t ms budget buffer
  unfolding menu_call
  menu-listed {budget} {buffer} i = i.listed ∙ ap (λ (s : Situation). listed_by buffer (offer house_table s.net budget (length buffer) s.transition s.counts)) scene_is ∙ rw P.same
