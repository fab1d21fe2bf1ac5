-- The parts of a transition that was read, by its word: how many there are of each is told by the TRANSITION word that stands there, so the fronts of the
-- lists that were read are told by it too. Rests on Placed and Tables.
use mathlib.Core.Path.{◌≡◌, sym, ap, ◌∙◌}
use mathlib.Core.List.{List, map}
use Prim.Native.Nat.{ℕ, ◌*◌, ◌/◌, ◌%◌, ◌<◌}
use Rattle.std.specs.Prelude.{Result}
use native.Mathlib.Omega.{arith}
use lib.ListN.{length, get_or, take, drop, length-map, length-take}
use lib.Seq.{take_all, take-take}
use Rattle.semantics.specs.Word.{bits}
use Rattle.semantics.specs.Reading.{read, several}
use Rattle.semantics.specs.Net.{Place, Arc, Conjunct, Element, Transition}
use Rattle.semantics.specs.ReadNet.{read_range, read_arc, read_conjunct, read_element, transition_word, read_transition}
use Rattle.semantics.proofs.Readers.{Gives, gives, given, then_gives, as_read}
use Rattle.semantics.proofs.Spans.{several-length}
use Rattle.semantics.proofs.Accepted.{transition_sound}
use Rattle.net.specs.declared.index.Parts.{Parts}
use Rattle.net.specs.Skim.{Outline, outline, width}
use Rattle.net.specs.Index.{outlined, parts_of, AreParts}
use Rattle.net.specs.Parted.{FewParts, Parted}
use Rattle.semantics.specs.declared.refusal.Refusal.{Refusal}
use Rattle.net.proofs.Tables.{own-part}
use Rattle.net.proofs.Placed.{word-here, parts-outline, parts-there}

-- ── The numbers of a TRANSITION word ──

-- how many parts a transition has
pub record Counted (head : ℕ) (t : Transition) : Type 0 where
  pub variables : length t.variables ≡ head % 16
  pub inputs : length t.inputs ≡ head / 16 % 16
  pub outputs : length t.outputs ≡ head / 256 % 16
  pub guard : length t.guard ≡ head / 4096 % 16
  pub plan : length t.plan ≡ head / 65536 % 16

module _ (ws : List ℕ) (places : List Place) (at : ℕ) where
  counts-here : Gives (λ t next. Counted (get_or ws at 0) t × (at < length ws)) (read_transition ws places at)
  unfolding read_transition
  counts-here =
      then_gives (word-here ws 4 transition_word at) λ w mid h.
      then_gives (as_read (several (bits 0 3 w) (read_range ws) mid)) λ vs n v.
      then_gives (as_read (several (bits 4 7 w) (read_arc ws places (bits 0 3 w)) n)) λ is n i.
      then_gives (as_read (several (bits 8 11 w) (read_arc ws places (bits 0 3 w)) n)) λ os n o.
      then_gives (as_read (several (bits 12 15 w) (read_conjunct ws (bits 0 3 w)) n)) λ gs n g.
      then_gives (as_read (several (bits 16 19 w) (read_element ws) n)) λ es n e.
      let s = h.0.same in
      gives (
        record {
          variables = omega (arith, several-length (read_range ws) (bits 0 3 w) _ vs _ v);
          inputs = omega (arith, several-length (read_arc ws places (bits 0 3 w)) (bits 4 7 w) _ is _ i);
          outputs = omega (arith, several-length (read_arc ws places (bits 0 3 w)) (bits 8 11 w) _ os _ o);
          guard = omega (arith, several-length (read_conjunct ws (bits 0 3 w)) (bits 12 15 w) _ gs _ g);
          plan = omega (arith, several-length (read_element ws) (bits 16 19 w) _ es _ e);
        },
        h.0.inside,
      )

module _ (ws : List ℕ) (places : List Place) (at : ℕ) (t : Transition) (next : ℕ) (e : read_transition ws places at ≡ read t next) where
  pub head-counts : Counted (get_or ws at 0) t
  head-counts = (given (counts-here ws places at) e).0

  pub head-inside : at < length ws
  head-inside = (given (counts-here ws places at) e).1

  head_few : FewParts (get_or ws at 0)
  head_few =
      let s = transition_sound ws places at t next e in
      let c = head-counts in
      record {
        variables = omega (arith, s.few-variables, c.variables);
        inputs = omega (arith, s.few-inputs, c.inputs);
        outputs = omega (arith, s.few-outputs, c.outputs);
        guard = omega (arith, s.few-conjuncts, c.guard);
        plan = omega (arith, s.few_elements, c.plan);
      }

-- the front of a list, by how long it is
take_exact : (l r : List ℕ) (n k : ℕ) → take n l ≡ r → length r ≡ k → take k l ≡ r
take_exact l r n k e h =
    let m = sym (length-take n l) ∙ ap length e ∙ h in
    sym (take-take k n l (omega arith)) ∙ ap (take k) e ∙ take_all k r (omega arith)

-- the 32 numbers that were read are those of the transition
pub parted : (ws : List ℕ) (places : List Place) (at : ℕ) (own : List ℕ) (r : Result (Parts × ℕ) Refusal) → AreParts ws (map width places) at own r → (t : Transition) (next : ℕ) → read_transition ws places at ≡ read t next → Parted (get_or ws at 0) own (outline t)
parted ws places at own r x t next e =
    record {
      few = head_few ws places at t next e;
      variables = sym n.variables;
      inputs = take_exact own (outline t).inputs p.0.inputs (head / 16 % 16) (ap (λ (o : Outline). o.inputs) p.1) (length-map t.inputs (λ (q : Arc). q.position) ∙ n.inputs);
      outputs = take_exact (drop 8 own) (outline t).outputs p.0.outputs (head / 256 % 16) (ap (λ (o : Outline). o.outputs) p.1) (length-map t.outputs (λ (q : Arc). q.position) ∙ n.outputs);
      guard = take_exact (drop 16 own) (outline t).guard p.0.conjuncts (head / 4096 % 16) (ap (λ (o : Outline). o.guard) p.1) (length-map t.guard (λ (q : Conjunct). q.position) ∙ n.guard);
      plan = take_exact (drop 24 own) (outline t).plan p.0.elements (head / 65536 % 16) (ap (λ (o : Outline). o.plan) p.1) (length-map t.plan (λ (q : Element). q.position) ∙ n.plan);
    }
  where
    head : ℕ
    head = get_or ws at 0

    n : Counted (get_or ws at 0) t
    n = head-counts ws places at t next e

    p : (p : Parts) × (outlined p own ≡ outline t)
    p = parts-there own r (outline t) next (parts-outline ws places at own r x t next e)

-- at the front of a table they are the outline of the transition
pub front-outline : (table : List ℕ) (head : ℕ) {o : Outline} → Parted head (take 32 (drop (0 * 32) table)) o → outlined (parts_of head) table ≡ o
front-outline table head {o} x =
    let few = x.few in
    let a = x.variables in
    let b : take (head / 16 % 16) table ≡ o.inputs = sym (take-take (head / 16 % 16) 32 table (omega (arith, few.inputs))) ∙ x.inputs in
    let c : take (head / 256 % 16) (drop 8 table) ≡ o.outputs = sym (own-part table 0 8 (head / 256 % 16) (omega (arith, few.outputs))) ∙ x.outputs in
    let d : take (head / 4096 % 16) (drop 16 table) ≡ o.guard = sym (own-part table 0 16 (head / 4096 % 16) (omega (arith, few.guard))) ∙ x.guard in
    let e : take (head / 65536 % 16) (drop 24 table) ≡ o.plan = sym (own-part table 0 24 (head / 65536 % 16) (omega (arith, few.plan))) ∙ x.plan in
    rw (a, b, c, d, e)
