-- Structures that stand at positions: behind the word of a conjunct or an arc its expressions stand one after the other, and each conjunct and arc of a
-- transition that was read stands at its position. The law of a structure follows its reader line by line. Rests on Located and Placed.
use mathlib.Core.Path.{◌≡◌, refl, ap, ◌∙◌}
use Prim.Native.Nat.{ℕ, suc, ◌+◌, ◌≤◌, ◌<◌}
use mathlib.Core.Bool.{true}
use mathlib.Core.List.{List, [], ◌∷◌, map}
use native.Mathlib.Omega.{arith}
use borrow.Author.Tests.{ltb-true}
use lib.Dec.{ltb}
use lib.ListN.{length, get_or}
use Rattle.semantics.specs.Refusal.{most_words}
use Rattle.semantics.specs.Lists.{Every}
use Rattle.semantics.specs.Word.{kind, payload, only}
use Rattle.semantics.specs.Expression.{Expression}
use Rattle.semantics.specs.Reading.{read, several, word}
use Rattle.semantics.specs.Net.{Place, Arc, Conjunct, Transition, ranges_at}
use Rattle.semantics.specs.ReadNet.{read_expression, relation_of, read_arc, read_conjunct, read_transition}
use Rattle.semantics.proofs.Readers.{Gives, gives, given, then_gives, as_read}
use Rattle.semantics.proofs.Spans.{then-read}
use Rattle.expression.specs.Standing.{HasExpression, HasSeveral}
use Rattle.expression.proofs.Laws.{expression_short, constant-alone}
use Rattle.kinds.specs.Taken.{fits_kind}
use Rattle.net.specs.Places.{width_at, places_at}
use Rattle.net.specs.Standing.{HasConjunct, HasArc}
use Rattle.net.proofs.Located.{At, transition-parts}
use Rattle.net.proofs.Placed.{word-here, word-there, places-length, width_at_lem}

-- ── Expressions ──

-- the first of several, and the others behind it
module _ {ws : List ℕ} {v n at : ℕ} (h : HasSeveral ws v (suc n) at) where
  pub first_of : HasExpression ws v at
  unfolding several
  first_of = then-read (read_expression ws v at) _ h.trees h.next h.reads λ e mid r s. record { tree = e; next = mid; reads = r }

  pub others_of : {e : Expression} {mid : ℕ} → read_expression ws v at ≡ read e mid → HasSeveral ws v n mid
  unfolding several
  others_of {mid = mid} r = then-read (several n (read_expression ws v) mid) _ h.trees h.next (rw r at h.reads) λ es next s t. record { trees = es; next = next; reads = s }

-- ── A conjunct ──

pub record Sides (ws : List ℕ) (v at : ℕ) (c : Conjunct) : Type 0 where
  pub kind : kind (get_or ws at 0) ≡ 6
  pub inside : at < length ws
  pub coded : only 2 (payload (get_or ws at 0)) ≡ true
  pub relation : c.relation ≡ relation_of (payload (get_or ws at 0))
  pub mid : ℕ
  pub next : ℕ
  pub left : read_expression ws v (at + 1) ≡ read c.left mid
  pub right : read_expression ws v mid ≡ read c.right next

conjunct_sides : (ws : List ℕ) (v at : ℕ) → Gives (λ c next. Sides ws v at c) (read_conjunct ws v at)
unfolding read_conjunct
conjunct_sides ws v at =
    then_gives (word-here ws 6 (λ k. only 2 k) at) λ k start h.
    then_gives (as_read (read_expression ws v start)) λ a mid p.
    then_gives (as_read (read_expression ws v mid)) λ b next q.
    gives (record {
      kind = h.0.kind;
      inside = h.0.inside;
      coded = rw h.0.same at h.1;
      relation = ap relation_of h.0.same;
      mid = mid;
      next = next;
      left = rw h.0.ends at p;
      right = q;
    })

module _ {ws : List ℕ} {v at : ℕ} (h : HasConjunct ws v at) where
  pub sides : Sides ws v at h.conjunct
  sides = given (conjunct_sides ws v at) h.reads

  pub left-stands : HasExpression ws v (at + 1)
  left-stands = record { tree = h.conjunct.left; next = sides.mid; reads = sides.left }

  pub right-stands : HasExpression ws v sides.mid
  right-stands = record { tree = h.conjunct.right; next = sides.next; reads = sides.right }

  -- the left side begins in the words
  pub left-inside : (at + 1 < length ws) × (at + 2 ≤ most_words)
  left-inside = let s = expression_short ws v (at + 1) sides.left in (omega arith, omega arith)

  -- so does the right one
  pub right-inside : sides.mid < length ws
  right-inside = let s = expression_short ws v sides.mid sides.right in omega arith

  -- its word, read by itself
  pub conjunct-word : word ws 6 (fits_kind 6) at ≡ read (payload (get_or ws at 0)) (at + 1)
  unfolding fits_kind
  conjunct-word = let l = left-inside.1 in word-there ws 6 (fits_kind 6) at sides.inside (omega arith) sides.kind sides.coded

-- ── An arc ──

-- the number of its place is in its word
abbrev pub place_of : List ℕ → ℕ → ℕ
place_of ws at = payload (get_or ws at 0)

pub record ArcParts (ws : List ℕ) (places : List Place) (v at : ℕ) (a : Arc) : Type 0 where
  pub kind : kind (get_or ws at 0) ≡ 5
  pub inside : at < length ws
  pub place : a.place ≡ place_of ws at
  pub there : place_of ws at < length places
  pub mid : ℕ
  pub next : ℕ
  pub coefficient : read_expression ws v (at + 1) ≡ read a.coefficient mid
  pub components : several (length (ranges_at places (place_of ws at))) (read_expression ws v) mid ≡ read a.components next

arc_gives : (ws : List ℕ) (places : List Place) (v at : ℕ) → Gives (λ a next. ArcParts ws places v at a) (read_arc ws places v at)
unfolding read_arc
arc_gives ws places v at =
    then_gives (word-here ws 5 (λ q. ltb q (length places)) at) λ q start h.
    then_gives (as_read (read_expression ws v start)) λ c mid p.
    then_gives (as_read (several (length (ranges_at places q)) (read_expression ws v) mid)) λ es next s.
    gives (record {
      kind = h.0.kind;
      inside = h.0.inside;
      place = h.0.same;
      there = rw h.0.same at (ltb-true q (length places) h.1);
      mid = mid;
      next = next;
      coefficient = rw h.0.ends at p;
      components = rw h.0.same at s;
    })

module _ (ws : List ℕ) (places : List Place) (v at : ℕ) {a : Arc} {next : ℕ} (e : read_arc ws places v at ≡ read a next) where
  pub arc-parts : ArcParts ws places v at a
  arc-parts = given (arc_gives ws places v at) e

  -- its coefficient begins in the words
  pub coefficient-inside : (at + 1 < length ws) × (at + 2 ≤ most_words)
  coefficient-inside = let s = expression_short ws v (at + 1) arc-parts.coefficient in (omega arith, omega arith)

  -- its components stand right behind a coefficient that is one CONSTANT
  pub behind-constant : kind (get_or ws (at + 1) 0) ≡ 7 → arc-parts.mid ≡ at + 2
  behind-constant k = (constant-alone ws v (at + 1) arc-parts.coefficient k).1 ∙ omega arith

  -- its word, read by itself
  pub arc-word : word ws 5 (fits_kind 5) at ≡ read (place_of ws at) (at + 1)
  unfolding fits_kind
  arc-word = let l = coefficient-inside.1 in word-there ws 5 (fits_kind 5) at arc-parts.inside (omega arith) arc-parts.kind refl

-- where the places of the net are at the positions ps
module _ {ws ps : List ℕ} {v at : ℕ} (h : HasArc ws ps v at) where
  pub parts : ArcParts ws (places_at ws ps) v at h.arc
  parts = arc-parts ws (places_at ws ps) v at h.reads

  pub arc-inside : at < length ws
  arc-inside = parts.inside

  pub place-listed : place_of ws at < length ps
  place-listed = rw (places-length ws ps) at parts.there

  pub place-there : {q : ℕ} → q ≡ place_of ws at → q < length ps
  place-there g = rw g place-listed

  pub components-read : several (width_at ws (get_or ps (place_of ws at) 0)) (read_expression ws v) parts.mid ≡ read h.arc.components parts.next
  components-read = rw (width_at_lem ws ps (place_of ws at) place-listed) at parts.components

  pub coefficient-stands : HasExpression ws v (at + 1)
  coefficient-stands = record { tree = h.arc.coefficient; next = parts.mid; reads = parts.coefficient }

  pub components-stand : HasSeveral ws v (width_at ws (get_or ps (place_of ws at) 0)) parts.mid
  components-stand = record { trees = h.arc.components; next = parts.next; reads = components-read }

-- ── The parts of a transition ──

module _ (ws : List ℕ) (v n : ℕ) (l : n ≡ v) where
  arcs_at : (ps : List ℕ) (places : List Place) → places ≡ places_at ws ps → (as' : List Arc) → Every (At (read_arc ws places v) (λ (a : Arc). a.position)) as' → Every (HasArc ws ps n) (map (λ (a : Arc). a.position) as')
  arcs_at ps places p [] h = tt
  arcs_at ps places p (a ∷ as') h =
      (record { arc = a; next = h.0.next; reads = rw (l, ← p) h.0.reads }, arcs_at ps places p as' h.1)

  conjuncts_at : (cs : List Conjunct) → Every (At (read_conjunct ws v) (λ (c : Conjunct). c.position)) cs → Every (HasConjunct ws n) (map (λ (c : Conjunct). c.position) cs)
  conjuncts_at [] h = tt
  conjuncts_at (c ∷ cs) h = (record { conjunct = c; next = h.0.next; reads = rw l h.0.reads }, conjuncts_at cs h.1)

-- under n binding words, as many as the transition has variables
module _ (ws : List ℕ) (places : List Place) (at : ℕ) (t : Transition) (next : ℕ) (e : read_transition ws places at ≡ read t next) (n : ℕ) (l : n ≡ length t.variables) where
  module _ (ps : List ℕ) (p : places ≡ places_at ws ps) where
    pub inputs-stand : {ats : List ℕ} → ats ≡ map (λ (a : Arc). a.position) t.inputs → Every (HasArc ws ps n) ats
    inputs-stand i = rw i (arcs_at ws (length t.variables) n l ps places p t.inputs (transition-parts ws places at t next e).inputs)

    pub outputs-stand : {ats : List ℕ} → ats ≡ map (λ (a : Arc). a.position) t.outputs → Every (HasArc ws ps n) ats
    outputs-stand i = rw i (arcs_at ws (length t.variables) n l ps places p t.outputs (transition-parts ws places at t next e).outputs)

  pub conjuncts-stand : {ats : List ℕ} → ats ≡ map (λ (c : Conjunct). c.position) t.guard → Every (HasConjunct ws n) ats
  conjuncts-stand i = rw i (conjuncts_at ws (length t.variables) n l t.guard (transition-parts ws places at t next e).guard)
