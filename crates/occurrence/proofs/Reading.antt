-- What is told from positions is what semantics says of the transition: each arc and conjunct that was read stands at its position, so it is
-- read there again. Rests on net/proofs/Located.
use mathlib.Core.Path.{◌≡◌, refl, fun_ext, ◌∙◌}
use mathlib.Core.Bool.{Bool}
use Prim.Native.Nat.{ℕ, ◌<◌}
use mathlib.Core.List.{List, [], ◌∷◌, map}
use lib.IntN.{ℤ}
use lib.Signed.{mag}
use lib.ListN.{length}
use Rattle.semantics.specs.Lists.{Every, every}
use Rattle.semantics.specs.Word.{value_word}
use Rattle.semantics.specs.Expression.{house_table, bound}
use Rattle.semantics.specs.Reading.{read}
use Rattle.semantics.specs.Net.{Place, Arc, Conjunct, Transition}
use Rattle.semantics.specs.ReadNet.{read_arc, read_conjunct, read_transition}
use Rattle.semantics.specs.Marking.{Entry, counts_of}
use Rattle.semantics.specs.Enabling.{holds, flows, is_enabled}
use Rattle.evaluation.specs.Evaluate.{lent}
use Rattle.evaluation.proofs.Answers.{lent_bound}
use Rattle.net.specs.Places.{places_at}
use Rattle.net.proofs.Located.{At, transition-parts}
use Rattle.marking.specs.Marked.{marking_read, Begins}
use Rattle.arcs.specs.Flow.{flows_at}
use Rattle.guards.specs.Guard.{guard_at}
use Rattle.occurrence.specs.Answers.{IsEnabledAt}

-- ── Arcs and conjuncts at their positions ──

module _ (ws bs : List ℕ) (v : ℕ) (l : length bs ≡ v) where
  -- with the places at the positions ps
  pub arcs-told : (ps : List ℕ) (places : List Place) → places ≡ places_at ws ps → (as' : List Arc) → Every (At (read_arc ws places v) (λ (a : Arc). a.position)) as' → flows_at ws ps bs (map (λ (a : Arc). a.position) as') ≡ flows house_table (lent bs) as'
  unfolding flows_at flows
  arcs-told ps places p [] h = refl
  arcs-told ps places p (a ∷ as') h =
      let r : read_arc ws (places_at ws ps) (length bs) a.position ≡ read a h.0.next = rw (l, ← p) h.0.reads in
      rw (r, arcs-told ps places p as' h.1)

  pub conjuncts-told : (cs : List Conjunct) → Every (At (read_conjunct ws v) (λ (c : Conjunct). c.position)) cs → guard_at ws bs (map (λ (c : Conjunct). c.position) cs) ≡ every (holds house_table (lent bs)) cs
  unfolding guard_at every
  conjuncts-told [] h = refl
  conjuncts-told (c ∷ cs) h =
      let r : read_conjunct ws (length bs) c.position ≡ read c h.0.next = rw l h.0.reads in
      rw (r, conjuncts-told cs h.1)

-- ── A transition ──

module _ (ws bs : List ℕ) (places : List Place) (at : ℕ) (t : Transition) (next : ℕ) (e : read_transition ws places at ≡ read t next) (l : length bs ≡ length t.variables) where
  pub inputs-told : (ps : List ℕ) → places ≡ places_at ws ps → flows_at ws ps bs (map (λ (a : Arc). a.position) t.inputs) ≡ flows house_table (lent bs) t.inputs
  inputs-told ps p = arcs-told ws bs (length t.variables) l ps places p t.inputs (transition-parts ws places at t next e).inputs

  pub outputs-told : (ps : List ℕ) → places ≡ places_at ws ps → flows_at ws ps bs (map (λ (a : Arc). a.position) t.outputs) ≡ flows house_table (lent bs) t.outputs
  outputs-told ps p = arcs-told ws bs (length t.variables) l ps places p t.outputs (transition-parts ws places at t next e).outputs

  pub guard_told : guard_at ws bs (map (λ (c : Conjunct). c.position) t.guard) ≡ every (holds house_table (lent bs)) t.guard
  guard_told = conjuncts-told ws bs (length t.variables) l t.guard (transition-parts ws places at t next e).guard

  -- the test of enabling at the positions of the transition's conjuncts and input arcs, under words that are a binding, is that of semantics
  pub enabled-told : (ps : List ℕ) → places ≡ places_at ws ps → {conjuncts inputs ms begins : List ℕ} → conjuncts ≡ map (λ (c : Conjunct). c.position) t.guard → inputs ≡ map (λ (a : Arc). a.position) t.inputs → (es : List Entry) (end : ℕ) → marking_read places ms ≡ read es end → Begins places es begins → (b : List ℤ) → lent bs ≡ bound b → {r : Bool} → IsEnabledAt ws ps conjuncts inputs ms begins bs r → r ≡ is_enabled house_table t (counts_of es) b
  unfolding is_enabled
  enabled-told ps p g i es end m k b v f = f.enabled places p es end m k ∙ rw (g, i, guard_told, inputs-told ps p, v)

-- ── Bindings ──

-- the environment of a binding's VALUE words is the binding
pub binding-lent : (bs : List ℕ) (b : List ℤ) → bs ≡ map value_word b → Every (λ z. mag z < 8192) b → lent bs ≡ bound b
binding-lent bs b e h = rw e (fun_ext (lent_bound b h))
