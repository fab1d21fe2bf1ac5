-- The rules of covering: the amounts of a key are summed one after the other, and each sum is held against the count that is found. What is
-- still ahead is what was ahead at first. What is asked of a key depends on the key alone, so it holds of the same key again.
use mathlib.Core.Path.{◌≡◌, refl, sym, ◌∙◌}
use Prim.Native.Nat.{ℕ, zero, suc, ◌+◌, ◌-◌, ◌*◌, ◌≤◌, ◌<◌, ◌^◌}
use mathlib.Core.Bool.{Bool, true, false, cond, not, ◌&&◌}
use mathlib.Core.List.{List, [], ◌∷◌}
use borrow.Author.Rules.{rules}
use borrow.Author.Tests.{leb-true, eqb-true, eq-eqb, ne_eqb, le-leb, lt-leb, not-true, not-false}
use native.Mathlib.Numerals.{add-one}
use native.Mathlib.Omega.{arith}
use lib.Dec.{eqb, leb}
use lib.ListN.{length, get_or, take, drop, drop_of_length-le}
use lib.Seq.{drop-cons, length-take-le}
use Rattle.semantics.specs.Lists.{Every, every}
use Rattle.semantics.specs.Reading.{read}
use Rattle.semantics.specs.Net.{Place, ranges_at}
use Rattle.semantics.specs.Marking.{Entry, counts_of}
use Rattle.semantics.specs.Enabling.{Flow, total, covers}
use Rattle.semantics.proofs.Tests.{false_true, and_left, and_right}
use Rattle.net.specs.Places.{places_at}
use Rattle.net.proofs.Placed.{places-length, width_at_lem}
use Rattle.counts.specs.declared.find.Spot.{Spot}
use Rattle.counts.specs.Counts.{IsSpot}
use Rattle.marking.specs.Marked.{marking_read, Begins}
use Rattle.marking.proofs.Counted.{marking_counts}
use Rattle.colours.proofs.Codes.{coloured-length}
use Rattle.arcs.specs.Flow.{flows_at}
use Rattle.guards.specs.Guard.{guard_at}
use Rattle.arcs.specs.Keys.{key_place, key_code, width_of, key_colour, key_flow, key_flows, KeyFits}
use Rattle.gathering.specs.declared.gather.Gathered.{Gathered}
use Rattle.gathering.specs.Gather.{IsGathered, sum_of}
use Rattle.gathering.proofs.Gathering.{known_nothing}
use Rattle.gathering.proofs.Keyed.{Ranged, keys_total, covers-gathered}
use Rattle.occurrence.specs.Answers.{is_repeated, IsCovered, IsEnabledAt, IsTaken}

-- ── Sums ──

-- the amounts of a key among the j first, and what the others add
pub record Summing (keys amounts : List ℕ) (k j sum : ℕ) : Type 0 where
  pub inside : j ≤ length keys
  pub same : sum + sum_of (drop j keys) (drop j amounts) k ≡ sum_of keys amounts k
  pub bounded : sum ≤ j * 2 ^ 32

pub summing_start : (keys amounts : List ℕ) (k : ℕ) → Summing keys amounts k 0 0
summing_start keys amounts k = record { inside = omega arith; same = omega arith; bounded = omega arith }

module _ {keys amounts : List ℕ} {k j sum : ℕ} (a : Summing keys amounts k j sum) where
  pub summing_end : length keys ≤ j → sum ≡ sum_of keys amounts k
  unfolding sum_of
  summing_end h = let e : drop j keys ≡ [] = drop_of_length-le keys {i = j} h in let s = rw e at a.same in omega arith

  module _ (h : j < length keys) (l : length amounts ≡ length keys) where
    one_more : sum + (cond (eqb (get_or keys j 0) k) (get_or amounts j 0) 0 + sum_of (drop (j + 1) keys) (drop (j + 1) amounts) k) ≡ sum_of keys amounts k
    unfolding sum_of
    one_more = rw (add-one j) (rw (drop-cons keys j 0 h, drop-cons amounts j 0 (omega arith)) at a.same)

    pub summing_turn : {n : ℕ} → n ≡ cond (eqb (get_or keys j 0) k) (get_or amounts j 0) 0 → n < 2 ^ 32 → Summing keys amounts k (j + 1) (sum + n)
    summing_turn f b =
        let g = a.bounded in
        let s = rw (← f) at one_more in
        record { inside = omega arith; same = omega arith; bounded = omega arith }

    pub summing_more : {x n : ℕ} → x ≡ get_or keys j 0 → x ≡ k → n ≡ get_or amounts j 0 → n < 2 ^ 32 → Summing keys amounts k (j + 1) (sum + n)
    summing_more {x} {n} e d f b =
        let g = a.bounded in
        let s = rw (← e, d, eq-eqb k k refl, ← f) at one_more in
        record { inside = omega arith; same = omega arith; bounded = omega arith }

    pub summing_same : {x : ℕ} → x ≡ get_or keys j 0 → (x ≡ k → ⊥) → Summing keys amounts k (j + 1) sum
    summing_same {x} e d =
        let g = a.bounded in
        let s = rw (← e, ne_eqb x k d) at one_more in
        record { inside = omega arith; same = omega arith; bounded = omega arith }

-- ── Covering ──

-- a flow is covered, by all of them
abbrev held : List Entry → List Flow → Flow → Bool
held es fs f = leb (total fs f.place f.colour) (counts_of es f.place f.colour)

-- all that is taken of a key is covered: the amount of a single flow does not matter
abbrev held_key : List ℕ → List ℕ → List ℕ → List ℕ → List Entry → ℕ → Bool
held_key ws ps keys amounts es k = held es (key_flows ws ps keys amounts) (key_flow ws ps k 0)

-- for the entries of a marking that was read, with the beginnings of its places
abbrev WhenRead : List ℕ → List ℕ → List ℕ → List ℕ → (List Entry → Type 0) → Type 0
WhenRead ws ps ms begins P = (places : List Place) → places ≡ places_at ws ps → (es : List Entry) (next : ℕ) → marking_read places ms ≡ read es next → Begins places es begins → P es

-- the i first keys are covered, the last of them told by itself too
pub record Covering (ws ps keys amounts ms begins : List ℕ) (i : ℕ) : Type 0 where
  pub inside : i ≤ length keys
  pub same : WhenRead ws ps ms begins (λ es. every (held es (key_flows ws ps keys amounts)) (key_flows ws ps (drop i keys) (drop i amounts)) ≡ covers (counts_of es) (key_flows ws ps keys amounts))
  pub last : 1 ≤ i → WhenRead ws ps ms begins (λ es. held_key ws ps keys amounts es (get_or keys (i - 1) 0) ≡ true)

pub covering_start : (ws ps keys amounts ms begins : List ℕ) → Covering ws ps keys amounts ms begins 0
unfolding covers
covering_start ws ps keys amounts ms begins = record { inside = omega arith; same = λ places e es next m b. refl; last = λ h. absurd (omega arith) }

-- a key among others fits
pub fits_in : {ws ps : List ℕ} (keys : List ℕ) (i : ℕ) → Every (KeyFits ws ps) keys → i < length keys → KeyFits ws ps (get_or keys i 0)
fits_in [] i e h = absurd (omega arith)
fits_in (k ∷ ks) zero e h = e.0
fits_in (k ∷ ks) (suc i) e h = fits_in ks i e.1 (omega arith)

-- the colour of a key has as many components as its place
pub key-width : {ws ps : List ℕ} {k : ℕ} → KeyFits ws ps k → length (ranges_at (places_at ws ps) (key_place k)) ≡ length (key_colour ws ps k)
key-width {ws} {ps} {k} x = width_at_lem ws ps (key_place k) x.there ∙ sym (coloured-length (width_of ws ps (key_place k)) (key_code k))

module _ {ws ps keys amounts ms begins : List ℕ} {i : ℕ} (a : Covering ws ps keys amounts ms begins i) where
  pub covering_end : length keys ≤ i → IsCovered ws ps keys amounts ms begins true
  unfolding every key_flows
  covering_end h = record { covered = λ places e es next m b. let d : drop i keys ≡ [] = drop_of_length-le keys {i = i} h in rw d at (a.same places e es next m b) }

  module _ (h : i < length keys) (l : length amounts ≡ length keys) where
    next_one : WhenRead ws ps ms begins (λ es. (held_key ws ps keys amounts es (get_or keys i 0) && every (held es (key_flows ws ps keys amounts)) (key_flows ws ps (drop (i + 1) keys) (drop (i + 1) amounts))) ≡ covers (counts_of es) (key_flows ws ps keys amounts))
    unfolding every key_flows
    next_one places e es next m b = rw (add-one i) (rw (drop-cons keys i 0 h, drop-cons amounts i 0 (omega arith)) at (a.same places e es next m b))

    -- where the next key is covered
    covering_next : WhenRead ws ps ms begins (λ es. held_key ws ps keys amounts es (get_or keys i 0) ≡ true) → Covering ws ps keys amounts ms begins (i + 1)
    covering_next k = record { inside = omega arith; same = λ places e es next m b. rw (k places e es next m b) at (next_one places e es next m b); last = λ z. let d : i + 1 - 1 ≡ i = omega arith in rw d k }

    -- where it is the one before it again
    pub covering_again : is_repeated keys i ≡ true → Covering ws ps keys amounts ms begins (i + 1)
    covering_again r =
        let z = leb-true 1 i (and_left (leb 1 i) _ r) in
        let d = eqb-true (get_or keys (i - 1) 0) (get_or keys i 0) (and_right (leb 1 i) _ r) in
        covering_next (rw d at (a.last z))

    module _ (fit : Every (KeyFits ws ps) keys) {s : Spot} (x : IsSpot ms begins (key_place (get_or keys i 0)) (key_colour ws ps (get_or keys i 0)) s) {sum : ℕ} (y : sum ≡ sum_of keys amounts (get_or keys i 0)) where
      found : WhenRead ws ps ms begins (λ es. held_key ws ps keys amounts es (get_or keys i 0) ≡ leb sum s.count)
      found places e es next m b =
          let f = fits_in keys i fit h in
          let c = (x.found places es next m b (rw (e, places-length ws ps) f.there) (rw e (key-width f))).1 in
          rw (y, c, ← keys_total keys amounts fit f)

      pub covering_short : s.count < sum → IsCovered ws ps keys amounts ms begins false
      covering_short k = record { covered = λ places e es next m b. rw (found places e es next m b, lt-leb sum s.count k) at (next_one places e es next m b) }

      pub covering_turn : sum ≤ s.count → Covering ws ps keys amounts ms begins (i + 1)
      covering_turn k = covering_next (λ places e es next m b. found places e es next m b ∙ le-leb sum s.count k)

-- ── Input arcs ──

-- a marking has only colours that their places can have
marking_ranged : (ws ps : List ℕ) (places : List Place) → places ≡ places_at ws ps → (ms : List ℕ) (es : List Entry) (next : ℕ) → marking_read places ms ≡ read es next → Ranged ws ps (counts_of es)
marking_ranged ws ps places e ms es next m p c h = rw (← e) ((marking_counts (record { places = places; transitions = [] }) ms es next m).ranged p c h)

-- ── Enabling ──

module _ (ws ps gs is ms begins bs : List ℕ) where
  none-taken : {keys amounts : List ℕ} → IsEnabledAt ws ps gs is ms begins bs false → IsTaken ws ps gs is ms begins bs (record { some = false; arcs = 0; n = 0 }) keys amounts
  none-taken e = record { enabled = e; gathered = λ t. false_true t }

  module _ {g : Bool} (h : g ≡ guard_at ws bs gs) where
    pub enabled_unguarded : not g ≡ true → IsEnabledAt ws ps gs is ms begins bs false
    enabled_unguarded d = record { enabled = λ places e es next m b. let k : guard_at ws bs gs ≡ false = sym h ∙ not-true _ d in rw k }

    module _ {keys amounts : List ℕ} (d : not g ≡ false) {r : Gathered} (x : IsGathered ws ps bs is r keys amounts) where
      guarded : guard_at ws bs gs ≡ true
      guarded = sym h ∙ not-false _ d

      pub enabled_unmoved : not r.some ≡ true → IsEnabledAt ws ps gs is ms begins bs false
      enabled_unmoved f = record { enabled = λ places e es next m b. rw (guarded, covers-gathered ws ps (counts_of es) (marking_ranged ws ps places e ms es next m) (flows_at ws ps bs is), ← x.same, not-true r.some f) }

      pub taken_unmoved : not r.some ≡ true → IsTaken ws ps gs is ms begins bs (record { some = false; arcs = 0; n = 0 }) keys amounts
      taken_unmoved f = none-taken (enabled_unmoved f)

      module _ (f : not r.some ≡ false) {u : Bool} (c : IsCovered ws ps (take r.n keys) (take r.n amounts) ms begins u) where
        pub enabled-covered : IsEnabledAt ws ps gs is ms begins bs u
        enabled-covered = record { enabled = λ places e es next m b. rw (guarded, covers-gathered ws ps (counts_of es) (marking_ranged ws ps places e ms es next m) (flows_at ws ps bs is), ← x.same, not-false r.some f) (c.covered places e es next m b) }

        pub taken_uncovered : not u ≡ true → IsTaken ws ps gs is ms begins bs (record { some = false; arcs = 0; n = 0 }) keys amounts
        taken_uncovered k = none-taken (rw (not-true u k) at enabled-covered)

        pub taken-covered : not u ≡ false → IsTaken ws ps gs is ms begins bs r keys amounts
        taken-covered k = record { enabled = rw (not-false r.some f) (rw (not-false u k) at enabled-covered); gathered = λ t. x }

-- what covering asks for, of the keys that were gathered
module _ {ws ps bs is : List ℕ} {r : Gathered} {keys amounts : List ℕ} (x : IsGathered ws ps bs is r keys amounts) where
  pub keys_front : r.n ≡ length (take r.n keys)
  keys_front = let few = x.few in let l = x.keys_full in sym (length-take-le r.n keys (omega arith))

  pub amounts_front : r.n ≡ length (take r.n amounts)
  amounts_front = let few = x.few in let l = x.amounts_full in sym (length-take-le r.n amounts (omega arith))

  pub keys_few : length (take r.n keys) ≤ 8
  keys_few = let e = keys_front in let few = x.few in omega arith

  pub keys_paired : length (take r.n amounts) ≡ length (take r.n keys)
  keys_paired = sym amounts_front ∙ keys_front

  pub keys_fit : Every (KeyFits ws ps) (take r.n keys)
  keys_fit = x.known.fit

pub ruleset enabling = (rules, known_nothing, enabled_unmoved, enabled-covered, taken_unmoved, taken_uncovered)
