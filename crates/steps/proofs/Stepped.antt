-- The rules of a step: the changes of its uneven keys lead to the counts after it, since all others stay; so the words with the changes made are the
-- words of these counts.
use mathlib.Core.Path.{◌≡◌, refl, sym, ap, ◌∙◌}
use mathlib.Core.Logic.{◌⊎◌, inl, inr}
use mathlib.Core.Bool.{true, false}
use mathlib.Core.List.Memᴰ
use mathlib.Core.List.{List, [], ◌∷◌, ◌++◌, map, Memᴰ}
use Prim.Native.Nat.{ℕ, zero, suc, ◌+◌, ◌-◌, ◌≤◌, ◌<◌}
use borrow.Author.Tests.{le-leb, lt-leb, eqb-true, not-false}
use native.Mathlib.Omega.{arith}
use lib.IntN.{ℤ}
use lib.ListN.{length, get_or, drop}
use Rattle.std.specs.Prelude.{Ok, Err}
use Rattle.semantics.specs.declared.refusal.Refusal.TheVariants.{OverCount, OverRoom}
use Rattle.semantics.specs.Refusal.{most_count, most_words}
use Rattle.semantics.specs.Lists.{Every, every}
use Rattle.semantics.specs.Reading.{read}
use Rattle.semantics.specs.Order.{before, Rising}
use Rattle.semantics.specs.Marking.{Entry, key, Counts, counts_of, marking_words}
use Rattle.semantics.specs.Enabling.{total}
use Rattle.semantics.proofs.Tests.{either, same_test, every_at, every_of, selected, select_in, Every-at, Every-of}
use Rattle.semantics.proofs.Markings.{total-some}
use Rattle.net.proofs.Placed.{places-length}
use Rattle.marking.specs.Marked.{marking_read, begin_of, BeginsFor}
use Rattle.marking.proofs.Counted.{marking_counts}
use Rattle.arcs.specs.Keys.{key_place, key_colour, key_flows, KeyFits}
use Rattle.gathering.specs.Gather.{sum_of}
use Rattle.gathering.proofs.Keyed.{keys_before, keys_total, flow_keyed}
use Rattle.patch.specs.Patch.{Change, change_key, patched, old_below, new_below, Told, Untouched, Changing, InOrder}
use Rattle.patch.proofs.Patched.{begins-low, patched-words, patched-begins, patched-enough, patched-ordered, patched-size}
use Rattle.change_lists.specs.declared.list.Listed.{Listed}
use Rattle.changes.specs.Keys.{sort_keys, keys_from}
use Rattle.changes.specs.Changes.{after, within, is_uneven, uneven_from, change_at, changes_from, Sees}
use Rattle.change_lists.specs.Lists.{AreListed}
use Rattle.rewriting.specs.Writes.{Writable, IsWritten}
use Rattle.moving.specs.Moves.{Movable, IsMoved}
use Rattle.steps.specs.Steps.{Stepping, IsStep}
use Rattle.changes.proofs.Sorted.{Up, up-select, sort_in, sort_of_lem, keys_all, keys_up}
use Rattle.change_lists.proofs.Measuring.{all_fit}

-- ── The changes of a step ──

-- changes of rising keys rise
changes_rise : (ws ps : List ℕ) (es : List Entry) (m' : Counts) (ks : List ℕ) → Every (KeyFits ws ps) ks → Up ks → Rising change_key (map (change_at ws ps es m') ks)
changes_rise ws ps es m' [] e u = tt
changes_rise ws ps es m' (k ∷ ks) e u = (later ks e.1 u.0, changes_rise ws ps es m' ks e.1 u.1)
  where
    later : (js : List ℕ) → Every (KeyFits ws ps) js → Every (λ y. k < y) js → Every (λ t. before (key (key_place k) (key_colour ws ps k)) (change_key t) ≡ true) (map (change_at ws ps es m') js)
    later [] f v = tt
    later (j ∷ js) f v = (keys_before e.0 f.0 v.0, later js f.1 v.1)

changes_told : (ws ps : List ℕ) (es : List Entry) (m' : Counts) (ks : List ℕ) → Every (Told es m') (map (change_at ws ps es m') ks)
changes_told ws ps es m' [] = tt
changes_told ws ps es m' (k ∷ ks) = (record { at = refl; old = refl; count = refl }, changes_told ws ps es m' ks)

module _ {ws ps ik ia ok oa ms begins : List ℕ} (q : Stepping ws ps ik ia ok oa ms begins) where
  abbrev new : Counts
  new = after ws ps ik ia ok oa q.entries

  abbrev all : List Change
  all = changes_from ws ps ik ia ok oa q.entries 0

  marked : marking_read q.net.places ms ≡ read q.entries q.sees.next
  marked = rw q.placed q.sees.marked

  keys_fit : Every (KeyFits ws ps) (keys_from 0 (ik ++ ok))
  keys_fit = rw (keys_all (ik ++ ok)) (Every-of (KeyFits ws ps) (sort_keys (ik ++ ok)) (λ k i. Every-at (KeyFits ws ps) (all_fit q.moves) (sort_of_lem (ik ++ ok) i)))

  uneven_fit : Every (KeyFits ws ps) (uneven_from ik ia ok oa 0)
  uneven_fit = Every-of (KeyFits ws ps) (uneven_from ik ia ok oa 0) (λ k i. Every-at (KeyFits ws ps) keys_fit (selected (is_uneven ik ia ok oa) (keys_from 0 (ik ++ ok)) i).0)

  in-keys : (k : ℕ) → Memᴰ k (ik ++ ok) → Memᴰ k (keys_from 0 (ik ++ ok))
  in-keys k i = rw (keys_all (ik ++ ok)) (sort_in (ik ++ ok) i)

  -- ── Keys of which as much is made as is taken ──

  even_total : {k : ℕ} → KeyFits ws ps k → is_uneven ik ia ok oa k ≡ false → total (key_flows ws ps ik ia) (key_place k) (key_colour ws ps k) ≡ total (key_flows ws ps ok oa) (key_place k) (key_colour ws ps k)
  even_total {k} f e = rw (keys_total ik ia q.moves.ins.fit f, keys_total ok oa q.moves.outs.fit f) (eqb-true (sum_of ik ia k) (sum_of ok oa k) (not-false _ e))

  -- their counts stay, and so do not pass the limit
  limit_same : every (within ws ps (after ws ps ik ia ok oa q.entries)) (uneven_from ik ia ok oa 0) ≡ every (within ws ps (after ws ps ik ia ok oa q.entries)) (keys_from 0 (ik ++ ok))
  limit_same = same_test (every (within ws ps new) (uneven_from ik ia ok oa 0)) (every (within ws ps new) (keys_from 0 (ik ++ ok))) forth (λ e. every_of (within ws ps new) (uneven_from ik ia ok oa 0) (λ k i. every_at (within ws ps new) e (selected (is_uneven ik ia ok oa) (keys_from 0 (ik ++ ok)) i).0))
    where
      forth : every (within ws ps new) (uneven_from ik ia ok oa 0) ≡ true → every (within ws ps new) (keys_from 0 (ik ++ ok)) ≡ true
      forth e = every_of (within ws ps new) (keys_from 0 (ik ++ ok)) (λ k i. by k i (either (is_uneven ik ia ok oa k)))
        where
          by : (k : ℕ) → Memᴰ k (keys_from 0 (ik ++ ok)) → (is_uneven ik ia ok oa k ≡ true) ⊎ (is_uneven ik ia ok oa k ≡ false) → within ws ps new k ≡ true
          by k i (inl t) = every_at (within ws ps new) e (select_in (is_uneven ik ia ok oa) i t)
          by k i (inr f) =
              let t = even_total (Every-at (KeyFits ws ps) keys_fit i) f in
              let v = q.covered (key_place k) (key_colour ws ps k) in
              let l = (marking_counts q.net ms q.entries q.sees.next marked).limited (key_place k) (key_colour ws ps k) in
              le-leb (new (key_place k) (key_colour ws ps k)) most_count (omega arith)

  -- of what no change names as much is made as is taken
  unnamed : (p : ℕ) (c : List ℤ) → Untouched all (key p c) → total (key_flows ws ps ik ia) p c ≡ total (key_flows ws ps ok oa) p c
  unnamed p c u = by (total (key_flows ws ps ik ia) p c) (total (key_flows ws ps ok oa) p c) refl refl
    where
      named : (k : ℕ) → Memᴰ k (ik ++ ok) → key_place k ≡ p → key_colour ws ps k ≡ c → total (key_flows ws ps ik ia) p c ≡ total (key_flows ws ps ok oa) p c
      named k i a b = test (either (is_uneven ik ia ok oa k))
        where
          test : (is_uneven ik ia ok oa k ≡ true) ⊎ (is_uneven ik ia ok oa k ≡ false) → total (key_flows ws ps ik ia) p c ≡ total (key_flows ws ps ok oa) p c
          test (inl t) = absurd (u (change_at ws ps q.entries new k) (Memᴰ.map (change_at ws ps q.entries new) (select_in (is_uneven ik ia ok oa) (in-keys k i) t)) (ap (λ (q : ℕ). key q (key_colour ws ps k)) a ∙ ap (key p) b))
          test (inr f) = rw (← a, ← b) (even_total (Every-at (KeyFits ws ps) (all_fit q.moves) i) f)

      by : (m n : ℕ) → total (key_flows ws ps ik ia) p c ≡ m → total (key_flows ws ps ok oa) p c ≡ n → m ≡ n
      by zero zero x y = refl
      by (suc m) n x y =
          let g = total-some (key_flows ws ps ik ia) p c (omega arith) in
          let k = flow_keyed ws ps ik ia g.1 in
          sym x ∙ named k.0 (Memᴰ.append_left ok k.1) (sym k.2 ∙ g.2) (sym k.3 ∙ g.3) ∙ y
      by zero (suc n) x y =
          let g = total-some (key_flows ws ps ok oa) p c (omega arith) in
          let k = flow_keyed ws ps ok oa g.1 in
          sym x ∙ named k.0 (Memᴰ.append_right ik k.1) (sym k.2 ∙ g.2) (sym k.3 ∙ g.3) ∙ y

  module _ (l : every (within ws ps (after ws ps ik ia ok oa q.entries)) (keys_from 0 (ik ++ ok)) ≡ true) where
    changing : Changing q.net q.entries new all
    changing = record {
      rises = changes_rise ws ps q.entries new (uneven_from ik ia ok oa 0) uneven_fit (up-select (is_uneven ik ia ok oa) (keys_from 0 (ik ++ ok)) (keys_up (ik ++ ok)));
      told = changes_told ws ps q.entries new (uneven_from ik ia ok oa 0);
      kept = λ p c u. let e = unnamed p c u in let v = q.covered p c in omega arith;
      proper = q.proper l;
    }

    step-ordered : InOrder ms 0 all
    step-ordered = patched-ordered q.net.places ms q.entries q.sees.next marked q.net new all changing

    step_words : patched ms 0 all ≡ marking_words q.net new
    step_words = patched-words q.net.places ms q.entries q.sees.next marked q.net new all changing

    step-enough : (p : ℕ) → old_below p all ≤ begin_of q.entries p + new_below p all
    step-enough = patched-enough q.net.places ms q.entries q.sees.next marked q.net new all changing

    step-moved : (es : List Entry) (next : ℕ) → marking_read q.net.places (marking_words q.net new) ≡ read es next → counts_of es ≡ new → (p : ℕ) → begin_of es p + old_below p all ≡ begin_of q.entries p + new_below p all
    step-moved es next = patched-begins q.net.places ms q.entries q.sees.next marked q.net new all changing (marking_words q.net new) es next

  begun_at : (p : ℕ) → p ≤ length ps → get_or begins p 0 ≡ begin_of q.entries p
  begun_at p h = q.sees.begun.at p (rw (places-length ws ps) h)

-- ── 15, 16, or the new marking ──

module _ {ws ps ik ia ok oa ms begins : List ℕ} (buffer : List ℕ) where
  pub step-over : ((es : List Entry) → Sees ws ps ms begins es → every (within ws ps (after ws ps ik ia ok oa es)) (uneven_from ik ia ok oa 0) ≡ false) → IsStep ws ps ik ia ok oa ms begins buffer (Err OverCount) buffer begins
  step-over x = record { fired = λ q. let w = sym (limit_same q) ∙ x q.entries q.sees in rw w (record { end = refl; begun = refl }) }

module _ {ws ps ik ia ok oa ms begins : List ℕ} {r : Listed} {keys ats olds counts : List ℕ} (x : AreListed ws ps ik ia ok oa ms begins r keys ats olds counts) (buffer : List ℕ) where
  limited : (q : Stepping ws ps ik ia ok oa ms begins) → every (within ws ps (after ws ps ik ia ok oa q.entries)) (keys_from 0 (ik ++ ok)) ≡ true
  limited q = sym (limit_same q) ∙ x.measured.within q.entries q.sees

  -- the length told from what was measured
  sized : (q : Stepping ws ps ik ia ok oa ms begins) → length (patched ms 0 (changes_from ws ps ik ia ok oa q.entries 0)) + r.old ≡ length ms + r.new
  sized q = rw (x.measured.old q.entries q.sees, x.measured.new q.entries q.sees) (patched-size ms (changes_from ws ps ik ia ok oa q.entries 0) (step-ordered q (limited q)))

  pub step-more : Stepping ws ps ik ia ok oa ms begins → r.old ≤ length ms + r.new
  step-more q = let s = sized q in omega arith

  -- where places begin can be moved by the rows, and so they begin in the new marking
  pub movable : Stepping ws ps ik ia ok oa ms begins → Movable ws ps keys olds counts r.n begins
  movable q =
      let e = x.same q.entries q.sees in
      let o = x.measured.old q.entries q.sees in
      let n = x.measured.new q.entries q.sees in
      let o₁ = x.measured.old-short in
      let n₁ = x.measured.new-short in
      record {
        ats = ats;
        fits = q.moves.fits;
        tabled = x.tabled;
        full = q.moves.begins-full;
        rises = rw e (changing q (limited q)).rises;
        old-short = rw e (omega arith);
        new-short = rw e (omega arith);
        low = λ p h. rw (begun_at q p h) (begins-low q.net.places ms q.entries q.sees.next (marked q) p);
        enough = λ p h. rw (e, begun_at q p h) (step-enough q (limited q) p);
      }

  step-begins : (q : Stepping ws ps ik ia ok oa ms begins) {begins' : List ℕ} → IsMoved ws ps keys olds counts r.n begins begins' → BeginsFor q.net (after ws ps ik ia ok oa q.entries) begins'
  unfolding movable
  step-begins q {begins'} y = record {
    of = λ es next m c. record {
      at = λ p h.
          let i : p ≤ length ps = omega (arith, ap length q.placed ∙ places-length ws ps) in
          let s = rw (x.same q.entries q.sees) at (y.moves (movable q) p i) in
          let b = begun_at q p i in
          let l = step-moved q (limited q) es next m c p in
          omega arith;
    };
  }

  step-size : (q : Stepping ws ps ik ia ok oa ms begins) → length (marking_words q.net (after ws ps ik ia ok oa q.entries)) ≡ length ms + r.new - r.old
  step-size q = let s = sized q in let l = ap length (step_words q (limited q)) in omega arith

  pub step-long : length buffer < length ms + r.new - r.old → IsStep ws ps ik ia ok oa ms begins buffer (Err OverRoom) buffer begins
  step-long h = record { fired = λ q. rw (limited q, step-size q, lt-leb (length ms + r.new - r.old) (length buffer) h) (record { end = refl; begun = refl }) }

  module _ (h : length ms + r.new - r.old ≤ length buffer) where
    pub step-words-over : most_words < length ms + r.new - r.old → IsStep ws ps ik ia ok oa ms begins buffer (Err OverRoom) buffer begins
    step-words-over g = record { fired = λ q. rw (limited q, step-size q, le-leb (length ms + r.new - r.old) (length buffer) h, lt-leb (length ms + r.new - r.old) most_words g) (record { end = refl; begun = refl }) }

    pub writable : Stepping ws ps ik ia ok oa ms begins → Writable ws ps ms keys ats olds counts r.n buffer
    writable q =
        let e = x.same q.entries q.sees in
        let s = sized q in
        record { fits = q.moves.fits; tabled = x.tabled; ordered = rw e (step-ordered q (limited q)); room = rw e (omega arith) }

    pub step-written : {k : ℕ} {rest begins' : List ℕ} → length ms + r.new - r.old ≤ most_words → IsMoved ws ps keys olds counts r.n begins begins' → IsWritten ws ps ms keys ats olds counts r.n buffer k rest → IsStep ws ps ik ia ok oa ms begins buffer (Ok k) rest begins'
    step-written {k} {rest} g z y = record {
      fired = λ q.
          let e = ap (patched ms 0) (x.same q.entries q.sees) ∙ step_words q (limited q) in
          let words : rest ≡ marking_words q.net (after ws ps ik ia ok oa q.entries) ++ drop (length (marking_words q.net (after ws ps ik ia ok oa q.entries))) buffer = y.words ∙ ap (λ (l : List ℕ). l ++ drop (length l) buffer) e in
          let size : k ≡ length (marking_words q.net (after ws ps ik ia ok oa q.entries)) = y.size ∙ ap length e in
          rw (limited q, step-size q, le-leb (length ms + r.new - r.old) (length buffer) h, le-leb (length ms + r.new - r.old) most_words g) (record { end = rw (words, size); begun = step-begins q z });
    }
