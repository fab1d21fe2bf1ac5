-- The rules of a situation: net, then transition, then marking. Each is told by its index; what the indexes have is what semantics reads,
-- since each structure stands at its position.
use mathlib.Core.Path.{◌≡◌, refl, sym, ap, ◌∙◌}
use Prim.Native.Nat.{ℕ, min, ◌+◌, ◌*◌, ◌≤◌, ◌<◌}
use mathlib.Core.List.{List, ◌++◌, map}
use mathlib.Core.Option.{some}
use native.Mathlib.Omega.{arith}
use lib.ListN.{length, get_or, get_elem?, take, drop, length-append, length-drop, get_or-append}
use lib.Seq.{get_or-take, length-take-le}
use Rattle.semantics.specs.Refusal.{no_transition}
use Rattle.semantics.specs.Reading.{read, refused}
use Rattle.semantics.specs.Net.{Transition, Net}
use Rattle.semantics.specs.ReadNet.{read_net, read_transition}
use Rattle.semantics.specs.Plan.{accept_net}
use Rattle.semantics.specs.Marking.{Entry, read_marking}
use Rattle.semantics.specs.Calls.{situation}
use Rattle.semantics.proofs.Members.{length_at, past_elem}
use Rattle.semantics.specs.declared.refusal.Refusal.{Refusal}
use Rattle.semantics.specs.Answer.{refusing}
use Rattle.std.specs.Prelude.{Result, Ok, Err}
use Rattle.expression.specs.Skip.{forget, skipped}
use Rattle.expression.proofs.Laws.{passed-read, passed-refused}
use Rattle.net.specs.declared.index.NetIndex.{NetIndex}
use Rattle.net.specs.declared.index.Parts.{Parts}
use Rattle.net.specs.Skim.{changed, outline, net_outline}
use Rattle.net.specs.Index.{net_read, parts_of}
use Rattle.net.specs.Parted.{Parted}
use Rattle.net.specs.Places.{places_at, PlacesFit}
use Rattle.net.proofs.Located.{position_at, reads_at, net-transitions}
use Rattle.net.proofs.Parted.{head-inside, front-outline}
use Rattle.net.proofs.Placed.{places-length}
use Rattle.accept.specs.declared.accepted.Extent.{Extent}
use Rattle.accept.specs.Front.{IsExtent}
use Rattle.accept.proofs.Checking.{to_all, index-refused}
use Rattle.accept.proofs.Tables as tables
use Rattle.marking.specs.Marked.{marking_read, IsMarking}
use Rattle.situations.specs.Situation.{Prepared}

-- a net that is not accepted
pub net_unaccepted : (ws ms : List ℕ) (t : ℕ) {places widths transitions own : List ℕ} (e : Refusal) → IsExtent ws (length ws) places widths transitions t own (Err e) → situation ws t ms ≡ refusing e
unfolding situation
net_unaccepted ws ms t e x = rw (index-refused (accept_net ws) e (x.same ∙ ap (changed net_outline) (to_all ws))) refl

-- the tables of an accepted net; the third one is the front of a table b
pub record Lent (ws : List ℕ) (t : ℕ) (r : Extent) (places widths transitions own b : List ℕ) : Type 0 where
  pub extent : IsExtent ws (length ws) places widths transitions t own (Ok r)
  pub full : length places ≡ 64
  pub wide : length widths ≡ 64
  pub long : length transitions ≡ 64
  pub room : length own ≡ 64
  pub lent : length b ≡ 65

-- which keep their lengths
pub lent_tables : (ps os : List ℕ) {ws b places widths transitions own : List ℕ} {t : ℕ} {r : Extent} → (length ps ≡ 64) × (length os ≡ 64) × (length b ≡ 65) → IsExtent ws (length ws) places widths transitions t own (Ok r)
    → length places ≡ length ps → length widths ≡ 64 → length transitions ≡ length (take 64 b) → length own ≡ length os → Lent ws t r places widths transitions own b
lent_tables ps os {b = b} q x p w l o =
    let front = length-take-le 64 b (omega (arith, q.2)) in
    record { extent = x; full = p ∙ q.0; wide = w; long = l ∙ front; room = o ∙ q.1; lent = q.2 }

module _ (ms : List ℕ) {ws : List ℕ} {t : ℕ} {r : Extent} {places widths transitions own b : List ℕ} (y : Lent ws t r places widths transitions own b) where
  -- the index of the net, whose tables are lent
  abbrev i : NetIndex
  i = record { end = r.end; places = r.places; transitions = r.transitions; places_at = places; widths = widths; transitions_at = transitions }

  x : net_read (Ok i) ≡ changed net_outline (accept_net ws)
  x = y.extent.same ∙ ap (changed net_outline) (to_all ws)

  abbrev net : Net
  net = tables.net ws i x

  is-accepted : accept_net ws ≡ read net r.end
  is-accepted = tables.is-accepted ws i x

  reads : read_net ws 0 ≡ read net r.end
  reads = tables.reads ws i x

  -- the table of the beginnings, before the marking is read
  pub begins-long : length (transitions ++ drop 64 b) ≡ 65
  begins-long = omega (arith, length-append transitions (drop 64 b), length-drop 64 b, y.long, y.lent)

  pub places-fit : {p : ℕ} → p ≡ min r.places 64 → PlacesFit ws (take p places)
  places-fit few = tables.places-fit ws i x y.full y.wide few

  module _ {q : ℕ} (less : q ≡ min r.transitions 64) where
    positions : map (λ (t : Transition). t.position) net.transitions ≡ take q transitions
    positions = sym (tables.stand ws i x y.full y.wide y.long less)

    many : length net.transitions ≡ q
    many = tables.many ws i x y.full y.wide y.long less

    pub transition-unknown : q ≤ t → situation ws t ms ≡ refused no_transition 0
    unfolding situation
    transition-unknown h = rw (is-accepted, past_elem net.transitions t (omega (arith, many))) refl

    module _ (h : t < q) where
      known : (tr : Transition) × (get_elem? net.transitions t ≡ some tr)
      known = length_at net.transitions t (omega (arith, many))

      abbrev position : ℕ
      position = get_or (transitions ++ drop 64 b) t 0

      seat : position ≡ get_or transitions t 0
      seat = get_or-append transitions (drop 64 b) 0 t (omega (arith, y.long))

      at_position : position ≡ known.0.position
      at_position = seat ∙ sym (get_or-take q transitions t 0 h) ∙ position_at (λ (t : Transition). t.position) net.transitions (take q transitions) (sym positions) t known.0 known.1

      stands : (after : ℕ) × (read_transition ws net.places position ≡ read known.0 after)
      stands = rw (seat, ← get_or-take q transitions t 0 h) (reads_at (λ (t : Transition). t.position) net.transitions (take q transitions) (sym positions) t known.0 known.1 (read_transition ws net.places) (net-transitions ws 0 net r.end reads))

      -- the TRANSITION word is there
      pub word-inside : position < length ws
      word-inside = head-inside ws net.places position known.0 stands.0 stands.1

      own-parts : Parted (get_or ws position 0) (take 32 (drop (0 * 32) own)) (outline known.0)
      own-parts =
          let o : t + 0 ≡ t = omega arith in
          rw at_position ((y.extent.kept net r.end reads).each 0 known.0 (rw o known.1) (omega arith))

      module _ {p : ℕ} (few : p ≡ min r.places 64) {end : Result ℕ Refusal} {begins : List ℕ} (z : IsMarking (places_at ws (take p places)) ms end begins) where
        placed : net.places ≡ places_at ws (take p places)
        placed = tables.placed ws i x y.full y.wide few

        marking : skipped end ≡ forget (marking_read net.places ms)
        marking = rw placed z.same

        pub marking-refused : {e : Refusal} → end ≡ Err e → situation ws t ms ≡ refusing e
        unfolding situation read_marking marking_read
        marking-refused k = rw (is-accepted, known.1, passed-refused (marking_read net.places ms) end marking k) refl

        pub told : {j : Parts} {n : ℕ} → j ≡ parts_of (get_or ws position 0) → end ≡ Ok n → Prepared ws t ms (record { places = p; places_at = places; position = position; transition = j; own = own; begins = begins })
        unfolding situation read_marking marking_read
        told {j} {n} f k = by (passed-read (marking_read net.places ms) end marking k)
          where
            by : (es : List Entry) × (marking_read net.places ms ≡ read es n) → Prepared ws t ms (record { places = p; places_at = places; position = position; transition = j; own = own; begins = begins })
            by (es, r) = record {
              net = net;
              whole = i.end;
              transition = known.0;
              after = stands.0;
              entries = es;
              end = n;
              accepted = is-accepted;
              named = known.1;
              few = omega (arith, few);
              placed = placed;
              fits = places-fit few;
              there = stands.1;
              outlines = rw f (front-outline own (get_or ws position 0) own-parts);
              few-inputs = rw f own-parts.few.inputs;
              few-outputs = rw f own-parts.few.outputs;
              few-conjuncts = rw f own-parts.few.guard;
              few_elements = rw f own-parts.few.plan;
              marked = r;
              begins = record { at = λ o l. z.begins es n (rw placed at r) o (let f = (places-fit few).few in let k = ap length placed ∙ places-length ws (take p places) in omega arith) };
              same = rw (is-accepted, known.1, r);
            }
