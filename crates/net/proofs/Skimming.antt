-- The readings of specs/Skim are those of semantics with the data left out: each reader's law follows the reader, step by step.
use mathlib.Core.Path.{◌≡◌, refl, sym, ap, ◌∙◌, fun_ext}
use Prim.Native.Nat.{ℕ, zero, suc}
use mathlib.Core.List.{List, [], ◌∷◌, map, map-map}
use lib.Dec.{ltb}
use lib.ListN.{length, get_or, length-map}
use Rattle.semantics.specs.Reading.{Reading, read, refused, then, Reader, several, word}
use Rattle.semantics.specs.Word.{bits, only}
use Rattle.semantics.specs.Net.{Place, Arc, Conjunct, Element, Transition, ranges_at}
use Rattle.semantics.specs.ReadNet.{read_expression, read_range, read_place, read_arc, read_conjunct, read_element, read_transition, read_net}
use Rattle.semantics.proofs.Readers.{Gives, gives, given, then_gives, as_read}
use Rattle.semantics.proofs.Spans.{several-length}
use Rattle.expression.specs.Skip.{forget}
use Rattle.expression.proofs.Passing.{forget-then}
use Rattle.kinds.specs.Taken.{fits_kind}
use Rattle.net.specs.Skim.{changed, starts, skim_expression, skim_arc, skim_conjunct, skim_one, outline, skim_transition, width, skim_place, skim_places, NetOutline, net_outline, skim_net}
use Rattle.net.proofs.Loops.{forget-changed}

-- ── Steps ──

-- what is read is kept
pub forget-after : {A B : Type 0} (r : Reading A) (k : A → ℕ → Reading B) → forget (then r k) ≡ then r (λ a n. forget (k a n))
forget-after (read a next) k = refl
forget-after (refused n p) k = refl

-- what was read is only put together
pub forget_gives : {A B : Type 0} (r : Reading A) (f : A → B) → forget (then r (λ a n. read (f a) n)) ≡ forget r
forget_gives (read a next) f = refl
forget_gives (refused n p) f = refl

-- the next step looks at a part of what is read
changed_then : {A B C D : Type 0} (f : A → B) (g : C → D) (r : Reading A) (k : A → ℕ → Reading C) (k' : B → ℕ → Reading D) → ((a : A) (n : ℕ) → changed g (k a n) ≡ k' (f a) n) → changed g (then r k) ≡ then (changed f r) k'
changed_then f g (read a next) k k' h = h a next
changed_then f g (refused n p) k k' h = refl

-- what is read is kept
changed-after : {A C D : Type 0} (g : C → D) (r : Reading A) (k : A → ℕ → Reading C) → changed g (then r k) ≡ then r (λ a n. changed g (k a n))
changed-after g (read a next) k = refl
changed-after g (refused n p) k = refl

-- ── Several structures ──

module _ {A : Type 0} (r : Reader A) (position : A → ℕ) (r' : Reader (Unit {0})) (same : (at : ℕ) → forget (r at) ≡ r' at) (begins : (at : ℕ) (a : A) (next : ℕ) → r at ≡ read a next → position a ≡ at) where
  -- the positions of several structures
  pub several-starts : (n at : ℕ) → changed (map position) (several n r at) ≡ starts n r' at
  unfolding several starts
  several-starts zero at = refl
  several-starts (suc n) at = by (r at) refl (several-starts n) ∙ ap (λ (y : Reading (Unit {0})). then y (λ u next. then (starts n r' next) (λ ps end. read (at ∷ ps) end))) (same at)
    where
      by : (x : Reading A) → r at ≡ x → ((at : ℕ) → changed (map position) (several n r at) ≡ starts n r' at) → changed (map position) (then x (λ a next. then (several n r next) (λ rest end. read (a ∷ rest) end))) ≡ then (forget x) (λ u next. then (starts n r' next) (λ ps end. read (at ∷ ps) end))
      by (refused i j) e f = refl
      by (read a next) e f =
          changed_then (map position) (map position) (several n r next) (λ rest end. read (a ∷ rest) end) (λ ps end. read (at ∷ ps) end) (λ rest end. ap (λ (p : ℕ). read (p ∷ map position rest) end) (begins at a next e))
          ∙ ap (λ (x : Reading (List ℕ)). then x (λ ps end. read (at ∷ ps) end)) (f next)

-- several structures that have no position of their own
pub several_forgets : {A : Type 0} (r : Reader A) (r' : Reader (Unit {0})) → ((at : ℕ) → forget (r at) ≡ r' at) → (n at : ℕ) → forget (several n r at) ≡ forget (starts n r' at)
unfolding several starts
several_forgets r r' same zero at = refl
several_forgets {A} r r' same (suc n) at = by (r at) (several_forgets r r' same n) ∙ ap (λ (y : Reading (Unit {0})). forget (then y (λ u next. then (starts n r' next) (λ ps end. read (at ∷ ps) end)))) (same at)
  where
    by : (x : Reading A) → ((at : ℕ) → forget (several n r at) ≡ forget (starts n r' at)) → forget (then x (λ a next. then (several n r next) (λ rest end. read (a ∷ rest) end))) ≡ forget (then (forget x) (λ u next. then (starts n r' next) (λ ps end. read (at ∷ ps) end)))
    by (refused i j) f = refl
    by (read a next) f = forget-then (several n r next) (λ rest end. read (a ∷ rest) end) (λ end. read tt end) (λ rest end. refl) ∙ ap (λ (x : Reading (Unit {0})). then x (λ u end. read tt end)) (f next) ∙ sym (forget-then (starts n r' next) (λ ps end. read (at ∷ ps) end) (λ end. read tt end) (λ ps end. refl))

-- ── Structures ──

skim_range_lem : (ws widths : List ℕ) (v at : ℕ) → forget (read_range ws at) ≡ skim_one ws widths v 3 at
unfolding read_range skim_one fits_kind
skim_range_lem ws widths v at = forget_gives (word ws 3 (fits_kind 3) at) _

skim_element : (ws widths : List ℕ) (v at : ℕ) → forget (read_element ws at) ≡ skim_one ws widths v 0xA at
unfolding read_element skim_one fits_kind
skim_element ws widths v at = forget_gives (word ws 0xA (fits_kind 0xA) at) _

skim_conjunct_lem : (ws widths : List ℕ) (v at : ℕ) → forget (read_conjunct ws v at) ≡ skim_one ws widths v 6 at
unfolding read_conjunct skim_one skim_conjunct fits_kind
skim_conjunct_lem ws widths v at =
    forget-after (word ws 6 (fits_kind 6) at) _
    ∙ ap (then (word ws 6 (fits_kind 6) at)) (fun_ext (λ k. fun_ext (λ n. forget-then (read_expression ws v n) _ (λ n. forget (read_expression ws v n)) (λ a n. forget_gives (read_expression ws v n) _))))

pub widths_at : (places : List Place) (q : ℕ) → length (ranges_at places q) ≡ get_or (map width places) q 0
widths_at [] q = refl
widths_at (p ∷ ps) zero = refl
widths_at (p ∷ ps) (suc q) = widths_at ps q

skim_arc_lem : (ws : List ℕ) (places : List Place) (v at : ℕ) → forget (read_arc ws places v at) ≡ skim_one ws (map width places) v 5 at
unfolding read_arc skim_one skim_arc
skim_arc_lem ws places v at =
    forget-after (word ws 5 (λ q. ltb q (length places)) at) _
    ∙ ap (then (word ws 5 (λ q. ltb q (length places)) at)) (fun_ext (λ q. fun_ext (λ n. step q n)))
    ∙ ap (λ (p : ℕ). then (word ws 5 (λ q. ltb q p) at) (λ q n. then (skim_expression ws v n) (λ u n. forget (starts (get_or (map width places) q 0) (skim_expression ws v) n)))) (sym (length-map places width))
  where
    step : (q n : ℕ) → forget {A = Arc} (then (read_expression ws v n) (λ c n. then (several (length (ranges_at places q)) (read_expression ws v) n) (λ es n. read (record { position = at; place = q; coefficient = c; components = es }) n))) ≡ then (skim_expression ws v n) (λ u n. forget (starts (get_or (map width places) q 0) (skim_expression ws v) n))
    step q n =
        forget-then (read_expression ws v n) _ (λ n. forget (starts (get_or (map width places) q 0) (skim_expression ws v) n))
        (λ c n. forget_gives (several (length (ranges_at places q)) (read_expression ws v) n) _ ∙ several_forgets (read_expression ws v) (skim_expression ws v) (λ at. refl) (length (ranges_at places q)) n ∙ ap (λ (k : ℕ). forget (starts k (skim_expression ws v) n)) (widths_at places q))

-- of several structures only their number is kept
changed-number : {A C D : Type 0} (g : C → D) (r : Reader A) (n at : ℕ) (k : List A → ℕ → Reading C) (k' : ℕ → Reading D) → ((xs : List A) (m : ℕ) → length xs ≡ n → changed g (k xs m) ≡ k' m) → changed g (then (several n r at) k) ≡ then (forget (several n r at)) (λ u m. k' m)
changed-number {A} g r n at k k' f = by (several n r at) refl
  where
    by : (x : Reading (List A)) → several n r at ≡ x → changed g (then x k) ≡ then (forget x) (λ u m. k' m)
    by (refused i j) e = refl
    by (read xs m) e = f xs m (several-length r n at xs m e)

pub place-begins : (ws : List ℕ) (at : ℕ) (q : Place) (next : ℕ) → read_place ws at ≡ read q next → q.position ≡ at
unfolding read_place fits_kind
place-begins ws at q next e =
    let g : Gives (λ (q : Place) (next : ℕ). q.position ≡ at) (read_place ws at) = then_gives (as_read (word ws 2 (fits_kind 2) at)) (λ n m h. then_gives (as_read (several n (read_range ws) m)) (λ rs m h. gives refl)) in
    given g e

pub arc-begins : (ws : List ℕ) (places : List Place) (v at : ℕ) (a : Arc) (next : ℕ) → read_arc ws places v at ≡ read a next → a.position ≡ at
unfolding read_arc
arc-begins ws places v at a next e =
    let g : Gives (λ (a : Arc) (next : ℕ). a.position ≡ at) (read_arc ws places v at) = then_gives (as_read (word ws 5 (λ q. ltb q (length places)) at)) (λ q n h. then_gives (as_read (read_expression ws v n)) (λ c n h. then_gives (as_read (several (length (ranges_at places q)) (read_expression ws v) n)) (λ es n h. gives refl))) in
    given g e

pub conjunct-begins : (ws : List ℕ) (v at : ℕ) (c : Conjunct) (next : ℕ) → read_conjunct ws v at ≡ read c next → c.position ≡ at
unfolding read_conjunct
conjunct-begins ws v at c next e =
    let g : Gives (λ (c : Conjunct) (next : ℕ). c.position ≡ at) (read_conjunct ws v at) = then_gives (as_read (word ws 6 (λ k. only 2 k) at)) (λ k n h. then_gives (as_read (read_expression ws v n)) (λ a n h. then_gives (as_read (read_expression ws v n)) (λ b n h. gives refl))) in
    given g e

pub element-begins : (ws : List ℕ) (at : ℕ) (d : Element) (next : ℕ) → read_element ws at ≡ read d next → d.position ≡ at
unfolding read_element fits_kind
element-begins ws at d next e =
    let g : Gives (λ (d : Element) (next : ℕ). d.position ≡ at) (read_element ws at) = then_gives (as_read (word ws 0xA (fits_kind 0xA) at)) (λ w n h. gives refl) in
    given g e

-- several structures with their positions, and what follows them
several-then : {A C D : Type 0} (g : C → D) (r : Reader A) (position : A → ℕ) (r' : Reader (Unit {0})) → ((at : ℕ) → forget (r at) ≡ r' at) → ((at : ℕ) (a : A) (next : ℕ) → r at ≡ read a next → position a ≡ at) → (n at : ℕ) (k : List A → ℕ → Reading C) (k' : List ℕ → ℕ → Reading D) → ((xs : List A) (m : ℕ) → changed g (k xs m) ≡ k' (map position xs) m) → changed g (then (several n r at) k) ≡ then (starts n r' at) k'
several-then g r position r' same begins n at k k' h = changed_then (map position) g (several n r at) k k' h ∙ ap (λ (x : Reading (List ℕ)). then x k') (several-starts r position r' same begins n at)

-- several structures by their number, and what follows them
several-count : {A C D : Type 0} (g : C → D) (r : Reader A) (r' : Reader (Unit {0})) → ((at : ℕ) → forget (r at) ≡ r' at) → (n at : ℕ) (k : List A → ℕ → Reading C) (k' : ℕ → Reading D) → ((xs : List A) (m : ℕ) → length xs ≡ n → changed g (k xs m) ≡ k' m) → changed g (then (several n r at) k) ≡ then (forget (starts n r' at)) (λ u m. k' m)
several-count g r r' same n at k k' h = changed-number g r n at k k' h ∙ ap (λ (x : Reading (Unit {0})). then x (λ u m. k' m)) (several_forgets r r' same n at)

pub skim_transition_lem : (ws : List ℕ) (places : List Place) (at : ℕ) → changed outline (read_transition ws places at) ≡ skim_transition ws (map width places) at
unfolding read_transition skim_transition fits_kind
skim_transition_lem ws places at =
    changed-after outline (word ws 4 (fits_kind 4) at) _
    ∙ ap (then (word ws 4 (fits_kind 4) at)) (fun_ext (λ w. fun_ext (λ n.
    several-count outline (read_range ws) (skim_one ws (map width places) (bits 0 3 w) 3) (skim_range_lem ws (map width places) (bits 0 3 w)) (bits 0 3 w) n _ _ (λ vs n l.
    several-then outline (read_arc ws places (bits 0 3 w)) (λ (a : Arc). a.position) (skim_one ws (map width places) (bits 0 3 w) 5) (skim_arc_lem ws places (bits 0 3 w)) (arc-begins ws places (bits 0 3 w)) (bits 4 7 w) n _ _ (λ is n.
    several-then outline (read_arc ws places (bits 0 3 w)) (λ (a : Arc). a.position) (skim_one ws (map width places) (bits 0 3 w) 5) (skim_arc_lem ws places (bits 0 3 w)) (arc-begins ws places (bits 0 3 w)) (bits 8 11 w) n _ _ (λ os n.
    several-then outline (read_conjunct ws (bits 0 3 w)) (λ (c : Conjunct). c.position) (skim_one ws (map width places) (bits 0 3 w) 6) (skim_conjunct_lem ws (map width places) (bits 0 3 w)) (conjunct-begins ws (bits 0 3 w)) (bits 12 15 w) n _ _ (λ gs n.
    several-then outline (read_element ws) (λ (d : Element). d.position) (skim_one ws (map width places) (bits 0 3 w) 0xA) (skim_element ws (map width places) (bits 0 3 w)) (element-begins ws) (bits 16 19 w) n _ _ (λ es n.
    ap (λ (k : ℕ). read (record { variables = k; inputs = map (λ (a : Arc). a.position) is; outputs = map (λ (a : Arc). a.position) os; guard = map (λ (c : Conjunct). c.position) gs; plan = map (λ (d : Element). d.position) es }) n) l))))))))

-- ── Places, and the net ──

abbrev pub pair_of : Place → ℕ × ℕ
pair_of q = (q.position, width q)

skim_place_lem : (ws : List ℕ) (at : ℕ) → changed pair_of (read_place ws at) ≡ changed (λ (k : ℕ). (at, k)) (skim_place ws at)
unfolding read_place skim_place fits_kind
skim_place_lem ws at =
    changed-after pair_of (word ws 2 (fits_kind 2) at) _
    ∙ ap (then (word ws 2 (fits_kind 2) at)) (fun_ext (λ n. fun_ext (λ m.
    several-count pair_of (read_range ws) (skim_one ws [] 0 3) (skim_range_lem ws [] 0) n m _ (λ m. read (at, n) m) (λ rs m l. ap (λ (k : ℕ). read (at, k) m) l)
    ∙ sym (changed-after (λ (k : ℕ). (at, k)) (forget (starts n (skim_one ws [] 0 3) m)) (λ u m. read n m)))))
    ∙ sym (changed-after (λ (k : ℕ). (at, k)) (word ws 2 (fits_kind 2) at) _)

skim_places_lem : (n : ℕ) (ws : List ℕ) (at : ℕ) → changed (map pair_of) (several n (read_place ws) at) ≡ skim_places n ws at
unfolding several skim_places
skim_places_lem zero ws at = refl
skim_places_lem (suc n) ws at =
    changed_then pair_of (map pair_of) (read_place ws at) _ next (λ q m. changed_then (map pair_of) (map pair_of) (several n (read_place ws) m) (λ rest end. read (q ∷ rest) end) (λ ps end. read (pair_of q ∷ ps) end) (λ rest end. refl) ∙ ap (λ (x : Reading (List (ℕ × ℕ))). then x (λ ps end. read (pair_of q ∷ ps) end)) (skim_places_lem n ws m))
    ∙ ap (λ (x : Reading (ℕ × ℕ)). then x next) (skim_place_lem ws at)
    ∙ paired (skim_place ws at)
  where
    next : ℕ × ℕ → ℕ → Reading (List (ℕ × ℕ))
    next p m = then (skim_places n ws m) (λ ps end. read (p ∷ ps) end)

    paired : (x : Reading ℕ) → then (changed (λ (k : ℕ). (at, k)) x) next ≡ then x (λ k m. then (skim_places n ws m) (λ ps end. read ((at, k) ∷ ps) end))
    paired (read k m) = refl
    paired (refused i j) = refl

pub transition-begins : (ws : List ℕ) (places : List Place) (at : ℕ) (t : Transition) (next : ℕ) → read_transition ws places at ≡ read t next → t.position ≡ at
unfolding read_transition fits_kind
transition-begins ws places at t next e =
    let g : Gives (λ (t : Transition) (next : ℕ). t.position ≡ at) (read_transition ws places at) =
    then_gives (as_read (word ws 4 (fits_kind 4) at)) (λ w n h. then_gives (as_read (several (bits 0 3 w) (read_range ws) n)) (λ vs n h. then_gives (as_read (several (bits 4 7 w) (read_arc ws places (bits 0 3 w)) n)) (λ is n h. then_gives (as_read (several (bits 8 11 w) (read_arc ws places (bits 0 3 w)) n)) (λ os n h. then_gives (as_read (several (bits 12 15 w) (read_conjunct ws (bits 0 3 w)) n)) (λ gs n h. then_gives (as_read (several (bits 16 19 w) (read_element ws) n)) (λ es n h. gives refl))))))
    in
    given g e

pub skim_net_lem : (ws : List ℕ) (at : ℕ) → changed net_outline (read_net ws at) ≡ skim_net ws at
unfolding read_net skim_net fits_kind
skim_net_lem ws at =
    changed-after net_outline (word ws 1 (fits_kind 1) at) _
    ∙ ap (then (word ws 1 (fits_kind 1) at)) (fun_ext (λ w. fun_ext (λ n.
    changed_then (map pair_of) net_outline (several (bits 8 15 w) (read_place ws) n) _ (next w) (λ ps m.
    several-then net_outline (read_transition ws ps) (λ (t : Transition). t.position) (λ at. forget (skim_transition ws (map (λ (p : ℕ × ℕ). p.1) (map pair_of ps)) at)) (same ps) (transition-begins ws ps) (bits 0 7 w) m _ _ (λ ts m. refl))
    ∙ ap (λ (x : Reading (List (ℕ × ℕ))). then x (next w)) (skim_places_lem (bits 8 15 w) ws n))))
  where
    next : ℕ → List (ℕ × ℕ) → ℕ → Reading NetOutline
    next w ps m = then (starts (bits 0 7 w) (λ at. forget (skim_transition ws (map (λ (p : ℕ × ℕ). p.1) ps) at)) m) (λ ts m. read (record { places = ps; transitions = ts }) m)

    same : (ps : List Place) (at : ℕ) → forget (read_transition ws ps at) ≡ forget (skim_transition ws (map (λ (p : ℕ × ℕ). p.1) (map pair_of ps)) at)
    same ps at = sym (forget-changed outline (read_transition ws ps at)) ∙ ap forget (skim_transition_lem ws ps at ∙ ap (λ (ns : List ℕ). skim_transition ws ns at) (sym (map-map (λ (p : ℕ × ℕ). p.1) pair_of ps)))
