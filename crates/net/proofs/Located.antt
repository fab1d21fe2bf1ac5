-- Structures by their positions: in a net that was read, the words at the position of a place, a transition, an arc, a conjunct or an
-- element read as that structure. The idea: each member of a list that is read was read where it says that it begins.
use mathlib.Core.Path.{◌≡◌, refl, sym, ap, ◌∙◌, subst}
use Prim.Native.Nat.{ℕ, zero, suc}
use mathlib.Core.List.{List, map}
use mathlib.Core.Option.{some}
use lib.ListN.{length, get_or, get_elem?}
use Rattle.semantics.specs.Lists.{Every}
use Rattle.semantics.specs.Word.{bits}
use Rattle.semantics.specs.Reading.{read, Reader, several, word}
use Rattle.semantics.specs.Net.{Place, Arc, Conjunct, Element, Transition, Net}
use Rattle.semantics.specs.ReadNet.{read_range, read_place, read_arc, read_conjunct, read_element, read_transition, read_net}
use Rattle.semantics.proofs.Members.{every_elem, map_elem}
use Rattle.semantics.proofs.Readers.{Gives, gives, given, then_gives, as_read}
use Rattle.semantics.proofs.Spans.{several-length}
use Rattle.kinds.specs.Taken.{fits_kind}
use Rattle.net.proofs.Skimming.{place-begins, arc-begins, conjunct-begins, element-begins, transition-begins}

-- a structure stands at its position
pub record At {A : Type 0} (r : Reader A) (position : A → ℕ) (x : A) : Type 0 where
  pub next : ℕ
  pub reads : r (position x) ≡ read x next

module _ {A : Type 0} (r : Reader A) (position : A → ℕ) (begins : (at : ℕ) (a : A) (next : ℕ) → r at ≡ read a next → position a ≡ at) where
  located : (n at : ℕ) → Gives (λ xs next. (length xs ≡ n) × Every (At r position) xs) (several n r at)
  unfolding several
  located zero at = gives (refl, tt)
  located (suc n) at = then_gives (as_read (r at)) (λ a next h. then_gives (located n next) (λ rest end g. gives (ap suc g.0, (record { next = next; reads = subst (λ (p : ℕ). r p ≡ read a next) (sym (begins at a next h)) h }, g.1))))

-- one of them by its number, from the list of their positions
module _ {A : Type 0} (position : A → ℕ) (xs : List A) (ats : List ℕ) (p : ats ≡ map position xs) (k : ℕ) (x : A) (named : get_elem? xs k ≡ some x) where
  pub position_at : get_or ats k 0 ≡ position x
  position_at = ap (λ (l : List ℕ). get_or l k 0) p ∙ map_elem position xs k x 0 named

  pub reads_at : (r : Reader A) → Every (At r position) xs → (next : ℕ) × (r (get_or ats k 0) ≡ read x next)
  reads_at r all = let s = every_elem (At r position) xs k x all named in (s.next, ap r position_at ∙ s.reads)

-- the parts of a transition stand at their positions
pub record Parts (ws : List ℕ) (places : List Place) (t : Transition) : Type 0 where
  pub inputs : Every (At (read_arc ws places (length t.variables)) (λ (a : Arc). a.position)) t.inputs
  pub outputs : Every (At (read_arc ws places (length t.variables)) (λ (a : Arc). a.position)) t.outputs
  pub guard : Every (At (read_conjunct ws (length t.variables)) (λ (c : Conjunct). c.position)) t.guard
  pub plan : Every (At (read_element ws) (λ (e : Element). e.position)) t.plan

pub transition-parts : (ws : List ℕ) (places : List Place) (at : ℕ) (t : Transition) (next : ℕ) → read_transition ws places at ≡ read t next → Parts ws places t
unfolding read_transition fits_kind
transition-parts ws places at t next e = given parts e
  where
    parts : Gives (λ (t : Transition) (next : ℕ). Parts ws places t) (read_transition ws places at)
    parts =
        then_gives (as_read (word ws 4 (fits_kind 4) at)) (λ w n h.
        then_gives (as_read (several (bits 0 3 w) (read_range ws) n)) (λ vs n h.
        let l = several-length (read_range ws) (bits 0 3 w) _ vs n h in
        then_gives (located (read_arc ws places (bits 0 3 w)) (λ (a : Arc). a.position) (arc-begins ws places (bits 0 3 w)) (bits 4 7 w) n) (λ is n i.
        then_gives (located (read_arc ws places (bits 0 3 w)) (λ (a : Arc). a.position) (arc-begins ws places (bits 0 3 w)) (bits 8 11 w) n) (λ os n o.
        then_gives (located (read_conjunct ws (bits 0 3 w)) (λ (c : Conjunct). c.position) (conjunct-begins ws (bits 0 3 w)) (bits 12 15 w) n) (λ gs n g.
        then_gives (located (read_element ws) (λ (e : Element). e.position) (element-begins ws) (bits 16 19 w) n) (λ es n d.
        gives (record { inputs = rw l i.1; outputs = rw l o.1; guard = rw l g.1; plan = d.1 })))))))

-- the places of a net stand at their positions
pub net-places : (ws : List ℕ) (at : ℕ) (net : Net) (next : ℕ) → read_net ws at ≡ read net next → Every (At (read_place ws) (λ (q : Place). q.position)) net.places
unfolding read_net fits_kind
net-places ws at net next e = given there e
  where
    there : Gives (λ (net : Net) (next : ℕ). Every (At (read_place ws) (λ (q : Place). q.position)) net.places) (read_net ws at)
    there =
        then_gives (as_read (word ws 1 (fits_kind 1) at)) (λ w n h.
        then_gives (located (read_place ws) (λ (q : Place). q.position) (place-begins ws) (bits 8 15 w) n) (λ ps n g.
        then_gives (as_read (several (bits 0 7 w) (read_transition ws ps) n)) (λ ts n h.
        gives g.1)))

-- the transitions of a net stand at their positions
pub net-transitions : (ws : List ℕ) (at : ℕ) (net : Net) (next : ℕ) → read_net ws at ≡ read net next → Every (At (read_transition ws net.places) (λ (t : Transition). t.position)) net.transitions
unfolding read_net fits_kind
net-transitions ws at net next e = given there e
  where
    there : Gives (λ (net : Net) (next : ℕ). Every (At (read_transition ws net.places) (λ (t : Transition). t.position)) net.transitions) (read_net ws at)
    there =
        then_gives (as_read (word ws 1 (fits_kind 1) at)) (λ w n h.
        then_gives (as_read (several (bits 8 15 w) (read_place ws) n)) (λ ps n h.
        then_gives (located (read_transition ws ps) (λ (t : Transition). t.position) (transition-begins ws ps) (bits 0 7 w) n) (λ ts n g.
        gives g.1)))
