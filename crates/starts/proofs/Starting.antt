-- The rules of a start: net, then the transitions of the picks, then the marking, then the picks. Each is told by its index or by the first pick that
-- is at fault.
use mathlib.Core.Path.{◌≡◌, refl, sym, ap, ◌∙◌}
use mathlib.Core.Bool.{true, false}
use mathlib.Core.List.{List}
use mathlib.Core.Option.{none, some}
use Prim.Native.Nat.{ℕ, min, ◌≤◌}
use borrow.Author.Tests.{leb-true, leb-false}
use mathlib.Core.Logic.{◌⊎◌, inl, inr}
use lib.Dec.{leb}
use lib.ListN.{length, take}
use Rattle.semantics.specs.Refusal.{no_transition, bad_marking, bad_pick}
use Rattle.semantics.specs.Reading.{read, refused}
use Rattle.semantics.specs.Net.{Net}
use Rattle.semantics.specs.Plan.{accept_net}
use Rattle.semantics.specs.Marking.{Entry, first_unknown, first_malformed, read_marking}
use Rattle.semantics.specs.Calls.{marking_in, start}
use Rattle.semantics.proofs.Tests.{false_true, either}
use Rattle.semantics.specs.declared.refusal.Refusal.{Refusal}
use Rattle.semantics.specs.Answer.{refusing}
use Rattle.std.specs.Prelude.{Result, Ok, Err}
use Rattle.expression.specs.Skip.{forget, skipped}
use Rattle.expression.proofs.Laws.{passed-read, passed-refused}
use Rattle.net.specs.declared.index.NetIndex.{NetIndex}
use Rattle.net.specs.Places.{places_at, PlacesFit}
use Rattle.accept.specs.Front.{IsIndex}
use Rattle.accept.proofs.Checking.{index-refused}
use Rattle.accept.proofs.Tables as tables
use Rattle.marking.specs.Marked.{marking_read, IsMarkingIn}
use Rattle.starts.specs.Start.{Started}

module _ (ws buffer : List ℕ) (m : ℕ) (picks : List ℕ) {table : List ℕ} where
  pub start_unaccepted : (e : Refusal) → IsIndex ws table (Err e) → start ws buffer m picks ≡ refusing e
  unfolding start
  start_unaccepted e x = rw (index-refused (accept_net ws) e x.same) refl

  -- the index of an accepted net, by its tables
  module _ {i : NetIndex} (x : IsIndex ws table (Ok i)) (full : length i.places_at ≡ 64) (wide : length i.widths ≡ 64) where
    abbrev net : Net
    net = tables.net ws i x.same

    is-accepted : accept_net ws ≡ read net i.end
    is-accepted = tables.is-accepted ws i x.same

    pub start_fits : {p : ℕ} → p ≡ min i.places 64 → PlacesFit ws (take p i.places_at)
    start_fits few = tables.places-fit ws i x.same full wide few

    module _ (long : length i.transitions_at ≡ 64) {q : ℕ} (less : q ≡ min i.transitions 64) where
      many : first_unknown (length net.transitions) picks ≡ first_unknown q picks
      many = ap (λ (k : ℕ). first_unknown k picks) (tables.many ws i x.same full wide long less)

      pub start-unknown : {p : ℕ} → some p ≡ first_unknown q picks → start ws buffer m picks ≡ refused no_transition p
      unfolding start
      start-unknown y = rw (is-accepted, many, ← y) refl

      module _ (y : none ≡ first_unknown q picks) {p : ℕ} (few : p ≡ min i.places 64) {k : Result ℕ Refusal} {begins : List ℕ} (z : IsMarkingIn (places_at ws (take p i.places_at)) buffer m k begins) where
        marking_told : skipped k ≡ forget (marking_in net buffer m)
        unfolding marking_in read_marking marking_read
        marking_told = by (either (leb m (length buffer)))
          where
            placed : net.places ≡ places_at ws (take p i.places_at)
            placed = tables.placed ws i x.same full wide few

            by : (leb m (length buffer) ≡ true) ⊎ (leb m (length buffer) ≡ false) → skipped k ≡ forget (marking_in net buffer m)
            by (inl h) = rw h ((z.within (leb-true m (length buffer) h)).same ∙ ap (λ ps. forget (marking_read ps (take m buffer))) (sym placed))
            by (inr h) = rw h (ap skipped (z.beyond (leb-false m (length buffer) h)))

        pub start_unmarked : {e : Refusal} → k ≡ Err e → start ws buffer m picks ≡ refusing e
        unfolding start
        start_unmarked e = rw (is-accepted, many, ← y, passed-refused (marking_in net buffer m) k marking_told e) refl

        module _ {end : ℕ} (e : k ≡ Ok end) where
          marked_in : (es : List Entry) × (marking_in net buffer m ≡ read es end)
          marked_in = passed-read (marking_in net buffer m) k marking_told e

          pub start_malformed : {s : ℕ} → some s ≡ first_malformed picks → start ws buffer m picks ≡ refused bad_pick s
          unfolding start
          start_malformed w = rw (is-accepted, many, ← y, marked_in.1, ← w) refl

          in_buffer : (m ≤ length buffer) × (marking_read net.places (take m buffer) ≡ read marked_in.0 end)
          unfolding marking_in read_marking marking_read
          in_buffer = by (either (leb m (length buffer))) marked_in.1
            where
              by : (leb m (length buffer) ≡ true) ⊎ (leb m (length buffer) ≡ false) → marking_in net buffer m ≡ read marked_in.0 end → (m ≤ length buffer) × (marking_read net.places (take m buffer) ≡ read marked_in.0 end)
              by (inl t) a = (leb-true m (length buffer) t, rw t at a)
              by (inr t) a = let b : refused bad_marking (length buffer) ≡ read marked_in.0 end = rw t at a in false_true (cc)

          pub start-begins : length table ≡ 2080 → none ≡ first_malformed picks → Started ws buffer m picks i table
          unfolding start
          start-begins l w = record {
            net = net;
            known = record {
              whole = i.end;
              accepted = is-accepted;
              placed = tables.placed ws i x.same full wide refl;
              fits = tables.places-fit ws i x.same full wide refl;
              stand = tables.stand ws i x.same full wide long refl;
              long = l;
              kept = x.kept net i.end (tables.reads ws i x.same);
            };
            inside = in_buffer.0;
            entries = marked_in.0;
            end = end;
            marked = in_buffer.1;
            named = many ∙ sym y;
            formed = sym w;
            same = rw (is-accepted, many, ← y, marked_in.1, ← w) refl;
          }
