-- The rules of the call fire: what the situation and the binding say; where both are accepted, they are what firing starts from.
use mathlib.Core.Path.{◌≡◌, refl, ap}
use Prim.Native.Nat.{ℕ, ◌+◌, ◌<◌}
use mathlib.Core.List.{List, [], ◌∷◌}
use lib.ListN.{length, take, drop}
use Rattle.std.specs.Prelude.{Result, Ok, Err}
use Rattle.semantics.specs.declared.refusal.Refusal.{Refusal}
use Rattle.semantics.specs.Answer.{refusing}
use Rattle.semantics.specs.Lists.{Every}
use Rattle.semantics.specs.Net.{Place, Arc}
use Rattle.semantics.specs.Calls.{situation, fire_call}
use Rattle.semantics.proofs.Accepted.{SoundArc, transition_sound}
use Rattle.expression.specs.Skip.{forget, skipped}
use Rattle.net.specs.Skim.{Outline}
use Rattle.net.specs.Places.{ranges_from}
use Rattle.marking.specs.Marked.{binding_read}
use Rattle.situations.specs.Situation.{Index, outlined, Prepared}
use Rattle.testing.proofs.Testing.{unbound_refused, bound-read, bound-length, bound-lent}
use Rattle.steps.specs.Steps.{fire_end}
use Rattle.firing.specs.Fire.{FireableAt, IsFiredAt}

pub fire-refused : (ws : List ℕ) (t : ℕ) (ms bs buffer : List ℕ) (e : Refusal) → situation ws t ms ≡ refusing e → fire_end (Err e) buffer ≡ fire_call ws t ms bs buffer
unfolding fire_call
fire-refused ws t ms bs buffer e d = rw d refl

placed-arcs : (places : List Place) (v : ℕ) (as' : List Arc) → Every (SoundArc places v) as' → Every (λ (a : Arc). a.place < length places) as'
placed-arcs places v [] e = tt
placed-arcs places v (a ∷ as') e = (e.0.there, placed-arcs places v as' e.1)

module _ {ws : List ℕ} {t : ℕ} {ms : List ℕ} {s : Index} (p : Prepared ws t ms s) (bs : List ℕ) (r : Result ℕ Refusal) (x : skipped r ≡ forget (binding_read (ranges_from ws s.transition.variables (s.position + 1)) bs)) where
  pub fire_unbound : (buffer : List ℕ) {e : Refusal} → r ≡ Err e → fire_end (Err e) buffer ≡ fire_call ws t ms bs buffer
  unfolding fire_call
  fire_unbound buffer e = rw (p.same, unbound_refused p bs r x e) refl

  module _ {next : ℕ} (e : r ≡ Ok next) where
    fireable : FireableAt ws (take s.places s.places_at) (outlined s).guard (outlined s).inputs (outlined s).outputs ms s.begins bs
    fireable = record {
      net = p.net;
      at = s.position;
      transition = p.transition;
      after = p.after;
      entries = p.entries;
      end = p.end;
      binding = (bound-read p bs r x e).0;
      placed = p.placed;
      there = p.there;
      guard_at_lem = ap (λ (o : Outline). o.guard) p.outlines;
      inputs_at = ap (λ (o : Outline). o.inputs) p.outlines;
      outputs_at = ap (λ (o : Outline). o.outputs) p.outlines;
      outputs = placed-arcs p.net.places (length p.transition.variables) p.transition.outputs (transition_sound ws p.net.places s.position p.transition p.after p.there).outputs;
      marked = p.marked;
      begun = p.begins;
      many = bound-length p bs r x e;
      values = bound-lent p bs r x e;
    }

    -- how many conjuncts and output arcs are lent is told as differences
    module _ (g o : ℕ) (a : g ≡ s.transition.conjuncts) (b : o ≡ s.transition.outputs) where
      pub fireable-lent : FireableAt ws (take s.places s.places_at) (take g (drop 16 s.own)) (outlined s).inputs (take o (drop 8 s.own)) ms s.begins bs
      fireable-lent = rw (a, b) fireable

      pub fire_answers : {f : Result ℕ Refusal} {buffer after begins' : List ℕ} → IsFiredAt ws (take s.places s.places_at) (take g (drop 16 s.own)) (outlined s).inputs (take o (drop 8 s.own)) ms s.begins bs buffer f after begins' → fire_end f after ≡ fire_call ws t ms bs buffer
      unfolding fire_call fireable
      fire_answers h = rw (p.same, (bound-read p bs r x e).1) ((rw (a, b) at h).fired fireable).end
