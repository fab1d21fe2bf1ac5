-- The places of a net that was read are those at their positions, and a transition's ranges those after its word. The idea: a word that is
-- read at a position is the word there, so ranges read one after the other are the RANGE words from there on. Rests on Located.
use mathlib.Core.Path.{◌≡◌, refl, sym, ap, ◌∙◌}
use Prim.Native.Nat.{ℕ, zero, suc, ◌+◌, min, ◌≤◌, ◌<◌}
use mathlib.Core.Bool.{Bool, true, ◌&&◌}
use mathlib.Core.List.{List, [], ◌∷◌, map, zip, zip_with, map-map}
use native.Mathlib.Omega.{arith}
use borrow.Author.Tests.{leb-true, leb-false, eqb-true}
use Rattle.std.specs.Prelude.{Result, Ok, Err}
use lib.Dec.{leb, eqb}
use lib.ListN.{length, get_or, take, drop, length-map, length-take}
use lib.Seq.{drop-cons}
use Rattle.semantics.specs.Refusal.{most_words}
use Rattle.semantics.specs.Lists.{Every}
use Rattle.semantics.specs.Word.{kind, payload, bits, between}
use Rattle.semantics.specs.Reading.{read, several, word_at, word}
use Rattle.semantics.specs.Net.{Place, Transition, Net, ranges_at}
use Rattle.semantics.specs.ReadNet.{read_range, read_place, read_arc, read_conjunct, read_element, transition_word, read_transition, read_net}
use Rattle.semantics.proofs.Tests.{false_true, and_left, and_right}
use Rattle.semantics.proofs.Members.{every-number}
use Rattle.semantics.proofs.Readers.{Gives, gives, refusal, given, then_gives, demand_gives, cond_gives, as_read}
use Rattle.semantics.proofs.Spans.{word-reads}
use Rattle.semantics.proofs.Accepted.{read_sound}
use Rattle.word.specs.Fields.{range_word}
use Rattle.semantics.specs.declared.refusal.Refusal.{Refusal}
use Rattle.net.specs.declared.index.NetIndex.{NetIndex}
use Rattle.net.specs.declared.index.Parts.{Parts}
use Rattle.net.specs.Skim.{changed, Outline, outline, width, NetOutline, net_outline, skim_net}
use Rattle.net.specs.Index.{outlined, AreParts, parts_read, outlined_net, net_read}
use Rattle.net.specs.Places.{ranges_from, width_at, place_at, places_at, PlaceFits, PlacesFit}
use Rattle.net.proofs.Skimming.{skim_transition_lem, pair_of, skim_net_lem}
use Rattle.net.proofs.Nets.{seconds}
use Rattle.net.proofs.Located.{At, net-places}

-- ── Words and ranges ──

-- what a word of a kind that is read at a position is, in the words
pub record Here (ws : List ℕ) (k at p next : ℕ) : Type 0 where
  pub kind : kind (get_or ws at 0) ≡ k
  pub same : p ≡ payload (get_or ws at 0)
  pub ends : next ≡ at + 1
  pub inside : at < length ws

-- the fields of a RANGE word are among its 28 bits
low_field : (w : ℕ) → bits 14 27 (payload w) ≡ bits 14 27 w
low_field w = omega arith

high_field : (w : ℕ) → bits 0 13 (payload w) ≡ bits 0 13 w
high_field w = omega arith

pub ranges-length : (ws : List ℕ) (n at : ℕ) → length (ranges_from ws n at) ≡ n
unfolding ranges_from
ranges-length ws zero at = refl
ranges-length ws (suc n) at = ap suc (ranges-length ws n (at + 1))

module _ (ws : List ℕ) where
  pub word-here : (k : ℕ) (ok : ℕ → Bool) (at : ℕ) → Gives (λ p next. Here ws k at p next × (ok p ≡ true)) (word ws k ok at)
  unfolding word word_at
  word-here k ok at =
      then_gives {P = λ w next. (w ≡ get_or ws at 0) × (next ≡ at + 1) × (at < length ws)} (cond_gives (leb (length ws) at) (λ e. refusal) λ e. cond_gives (leb most_words at) (λ f. refusal) λ f. gives (refl, refl, leb-false (length ws) at e)) λ w next h.
      demand_gives (eqb (kind w) k && ok (payload w)) at λ e.
      gives (record { kind = ap kind (sym h.0) ∙ eqb-true (kind w) k (and_left (eqb (kind w) k) (ok (payload w)) e); same = ap payload h.0; ends = h.1; inside = h.2 }, and_right (eqb (kind w) k) (ok (payload w)) e)

  -- the other way round: a word of that kind which passes is read
  pub word-there : (k : ℕ) (ok : ℕ → Bool) (at : ℕ) → at < length ws → at < most_words → kind (get_or ws at 0) ≡ k → ok (payload (get_or ws at 0)) ≡ true → word ws k ok at ≡ read (payload (get_or ws at 0)) (at + 1)
  word-there k ok at h l e f = word-reads ws k ok at (get_or ws at 0) (drop (suc at) ws) (drop-cons ws at 0 h) l e f

  range-here : (at : ℕ) → Gives (λ r next. (r ≡ range_word (get_or ws at 0)) × (next ≡ at + 1) × (at < length ws)) (read_range ws at)
  unfolding read_range
  range-here at = then_gives (word-here 3 _ at) λ p next h. gives (rw (h.0.same, low_field (get_or ws at 0), high_field (get_or ws at 0)), h.0.ends, h.0.inside)

  ranges-here : (n at : ℕ) → Gives (λ rs next. (rs ≡ ranges_from ws n at) × (next ≡ at + n) × (at ≤ length ws → next ≤ length ws)) (several n (read_range ws) at)
  unfolding several ranges_from
  ranges-here zero at = gives {next = at} (refl, omega arith, λ h. h)
  ranges-here (suc n) at =
      then_gives (range-here at) λ r mid h.
      then_gives (ranges-here n mid) λ rs next g.
      let m = h.1 in
      gives {next = next} (rw (h.0, g.0, m), omega arith, λ l. g.2 (omega arith))

  place_here : (at : ℕ) → Gives (λ q next. (q ≡ place_at ws at) × PlaceFits ws at) (read_place ws at)
  unfolding read_place
  place_here at =
      then_gives (word-here 2 (between 1 4) at) λ n mid h.
      then_gives (ranges-here n mid) λ rs next g.
      let s = h.0.same in
      let m = h.0.ends in
      let i = h.0.inside in
      let few : n ≤ 4 = leb-true n 4 (and_right (leb 1 n) (leb n 4) h.1) in
      let e : next ≤ length ws = g.2 (omega arith) in
      gives (rw (g.0, m, s), record { inside = rw (← s) (omega arith); narrow = rw (← s) few })

-- ── Places ──

pub place-placed : (ws : List ℕ) (at : ℕ) (q : Place) (next : ℕ) → read_place ws at ≡ read q next → q ≡ place_at ws at
place-placed ws at q next e = (given (place_here ws at) e).0

pub place-fits : (ws : List ℕ) (at : ℕ) (q : Place) (next : ℕ) → read_place ws at ≡ read q next → PlaceFits ws at
place-fits ws at q next e = (given (place_here ws at) e).1

-- places that stand at their positions
module _ (ws : List ℕ) where
  all_placed : (qs : List Place) → Every (At (read_place ws) (λ (q : Place). q.position)) qs → qs ≡ places_at ws (map (λ (q : Place). q.position) qs)
  unfolding places_at
  all_placed [] h = refl
  all_placed (q ∷ qs) h = ap (λ (p : Place). p ∷ qs) (place-placed ws q.position q h.0.next h.0.reads) ∙ ap (λ (ps : List Place). place_at ws q.position ∷ ps) (all_placed qs h.1)

  all_fit : (qs : List Place) → Every (At (read_place ws) (λ (q : Place). q.position)) qs → Every (PlaceFits ws) (map (λ (q : Place). q.position) qs)
  all_fit [] h = tt
  all_fit (q ∷ qs) h = (place-fits ws q.position q h.0.next h.0.reads, all_fit qs h.1)

module _ (ws : List ℕ) (at : ℕ) (net : Net) (next : ℕ) (e : read_net ws at ≡ read net next) where
  pub net-placed : net.places ≡ places_at ws (map (λ (q : Place). q.position) net.places)
  net-placed = all_placed ws net.places (net-places ws at net next e)

  pub net-fits : PlacesFit ws (map (λ (q : Place). q.position) net.places)
  net-fits = record { each = all_fit ws net.places (net-places ws at net next e); few = rw (length-map net.places (λ (q : Place). q.position)) (read_sound ws at net next e).few-places }

-- ── A place by its number ──

pub places-length : (ws ps : List ℕ) → length (places_at ws ps) ≡ length ps
unfolding places_at
places-length ws ps = length-map ps (place_at ws)

pub ranges_at_lem : (ws ps : List ℕ) (q : ℕ) → q < length ps → ranges_at (places_at ws ps) q ≡ ranges_from ws (width_at ws (get_or ps q 0)) (get_or ps q 0 + 1)
unfolding places_at
ranges_at_lem ws [] q h = absurd (omega arith)
ranges_at_lem ws (p ∷ ps) zero h = refl
ranges_at_lem ws (p ∷ ps) (suc q) h = ranges_at_lem ws ps q (omega arith)

pub width_at_lem : (ws ps : List ℕ) (q : ℕ) → q < length ps → length (ranges_at (places_at ws ps) q) ≡ width_at ws (get_or ps q 0)
width_at_lem ws ps q h = ap length (ranges_at_lem ws ps q h) ∙ ranges-length ws (width_at ws (get_or ps q 0)) (get_or ps q 0 + 1)

pub fits_at_lem : {ws ps : List ℕ} → PlacesFit ws ps → (q : ℕ) → q < length ps → PlaceFits ws (get_or ps q 0)
fits_at_lem {ws} {ps} f q h = every-number (PlaceFits ws) ps q 0 f.each h

-- its PLACE word is in the words, and so are its RANGE words
pub place_inside : {ws ps : List ℕ} {q : ℕ} → PlacesFit ws ps → q < length ps → get_or ps q 0 < length ws
place_inside {q = q} f h = let k = (fits_at_lem f q h).inside in omega arith

pub place-room : {ws ps : List ℕ} {q n : ℕ} → PlacesFit ws ps → q < length ps → n ≡ width_at ws (get_or ps q 0) → get_or ps q 0 + 1 + n ≤ length ws
place-room {q = q} f h e = let k = (fits_at_lem f q h).inside in omega arith

-- ── The variables of a transition ──

module _ (ws : List ℕ) (places : List Place) (at : ℕ) where
  variables-here : Gives (λ t next. (t.variables ≡ ranges_from ws (length t.variables) (at + 1)) × (at + 1 + length t.variables ≤ length ws)) (read_transition ws places at)
  unfolding read_transition
  variables-here =
      then_gives (word-here ws 4 transition_word at) λ w mid h.
      then_gives (ranges-here ws (bits 0 3 w) mid) λ vs m g.
      then_gives (as_read (several (bits 4 7 w) (read_arc ws places (bits 0 3 w)) m)) λ is n _.
      then_gives (as_read (several (bits 8 11 w) (read_arc ws places (bits 0 3 w)) n)) λ os n _.
      then_gives (as_read (several (bits 12 15 w) (read_conjunct ws (bits 0 3 w)) n)) λ gs n _.
      then_gives (as_read (several (bits 16 19 w) (read_element ws) n)) λ es n _.
      let l : length vs ≡ bits 0 3 w = ap length g.0 ∙ ranges-length ws (bits 0 3 w) mid in
      let d = h.0.ends in
      let i = h.0.inside in
      let f = g.1 in
      let j = g.2 (omega arith) in
      gives (g.0 ∙ rw (l, d), omega arith)

module _ (ws : List ℕ) (places : List Place) (at : ℕ) (t : Transition) (next : ℕ) (e : read_transition ws places at ≡ read t next) where
  pub variables-placed : t.variables ≡ ranges_from ws (length t.variables) (at + 1)
  variables-placed = (given (variables-here ws places at) e).0

  pub variables-fit : at + 1 + length t.variables ≤ length ws
  variables-fit = (given (variables-here ws places at) e).1

-- ── By the index of a net ──

firsts : (xs ys : List ℕ) → length xs ≡ length ys → map (λ (p : ℕ × ℕ). p.0) (zip xs ys) ≡ xs
unfolding zip zip_with
firsts [] [] l = refl
firsts [] (y ∷ ys) l = absurd (omega arith)
firsts (x ∷ xs) [] l = absurd (omega arith)
firsts (x ∷ xs) (y ∷ ys) l = ap (λ (r : List ℕ). x ∷ r) (firsts xs ys (omega arith))

module _ (ws : List ℕ) (i : NetIndex) (x : net_read (Ok i) ≡ skim_net ws 0) (full : length i.places_at ≡ 64) (wide : length i.widths ≡ 64) (net : Net) (next : ℕ) (e : read_net ws 0 ≡ read net next) where
  outline-same : record { places = zip (take i.places i.places_at) (take i.places i.widths); transitions = take i.transitions i.transitions_at } ≡ net_outline net
  outline-same =
      let s : read (outlined_net i) i.end ≡ read (net_outline net) next = x ∙ sym (skim_net_lem ws 0) ∙ ap (changed net_outline) e in
      cc

  alike : length (take i.places i.places_at) ≡ length (take i.places i.widths)
  alike = length-take i.places i.places_at ∙ ap (min i.places) (full ∙ sym wide) ∙ sym (length-take i.places i.widths)

  -- positions and widths are those that the index has
  pub index_positions : take i.places i.places_at ≡ map (λ (q : Place). q.position) net.places
  index_positions = sym (firsts (take i.places i.places_at) (take i.places i.widths) alike) ∙ ap (λ (o : NetOutline). map (λ (p : ℕ × ℕ). p.0) o.places) outline-same ∙ map-map (λ (p : ℕ × ℕ). p.0) pair_of net.places

  pub index_widths : take i.places i.widths ≡ map width net.places
  index_widths = sym (seconds (take i.places i.places_at) (take i.places i.widths) alike) ∙ ap (λ (o : NetOutline). map (λ (p : ℕ × ℕ). p.1) o.places) outline-same ∙ map-map (λ (p : ℕ × ℕ). p.1) pair_of net.places

  pub index-transitions : take i.transitions i.transitions_at ≡ map (λ (t : Transition). t.position) net.transitions
  index-transitions = ap (λ (o : NetOutline). o.transitions) outline-same

  pub index-placed : net.places ≡ places_at ws (take i.places i.places_at)
  index-placed = rw index_positions (net-placed ws 0 net next e)

  pub index-fits : PlacesFit ws (take i.places i.places_at)
  index-fits = rw index_positions (net-fits ws 0 net next e)

-- where the parts of a transition begin that was read, and where it ends
pub parts-outline : (ws : List ℕ) (places : List Place) (at : ℕ) (own : List ℕ) (r : Result (Parts × ℕ) Refusal) → AreParts ws (map width places) at own r → (t : Transition) (next : ℕ) → read_transition ws places at ≡ read t next → parts_read r own ≡ read (outline t) next
parts-outline ws places at own r x t next e = x.same ∙ sym (skim_transition_lem ws places at) ∙ ap (changed outline) e

-- parts that were read are there
pub parts-there : (own : List ℕ) (r : Result (Parts × ℕ) Refusal) (o : Outline) (next : ℕ) → parts_read r own ≡ read o next → (p : Parts) × (outlined p own ≡ o)
parts-there own (Ok r) o next h = (r.0, cc)
parts-there own (Err e) o next h = false_true (cc)
