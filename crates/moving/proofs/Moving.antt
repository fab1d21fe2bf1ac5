-- The rules of moving where places begin: the rows passed and those ahead are all rows, and since rows rise by place, the rows below a place are just
-- those that were passed where its turn comes.
use mathlib.Core.Path.{◌≡◌, refl, ◌∙◌}
use mathlib.Core.Logic.{◌⊎◌, inl, inr}
use mathlib.Core.Bool.{true, false}
use mathlib.Core.List.{List, [], ◌∷◌}
use Prim.Native.Nat.{ℕ, ◌+◌, ◌-◌, ◌≤◌, ◌<◌}
use native.Mathlib.Nat.{eq-or-lt_of_le}
use native.Mathlib.Omega.{arith}
use borrow.Author.Tests.{lt-ltb, le-ltb, ltb-true, ltb-false}
use lib.Dec.{ltb}
use lib.ListN.{length, get_or, set, length-set}
use lib.Seq.{get_or-set_same, get_or-set_other}
use Rattle.semantics.specs.Refusal.{most_words}
use Rattle.semantics.specs.Lists.{Every}
use Rattle.semantics.specs.Order.{before, Rising}
use Rattle.semantics.specs.Marking.{entry_words}
use Rattle.semantics.proofs.Tests.{either, Every-at, Every-of}
use Rattle.marking.proofs.Rising.{key-rises}
use Rattle.arcs.specs.Keys.{key_place, key_colour, width_of}
use Rattle.patch.specs.Patch.{Change, change_key, old_length, new_length, old_below, new_below}
use Rattle.changes.specs.Changes.{entry_size}
use Rattle.changes.proofs.Counting.{key-size}
use Rattle.changes.specs.Tables.{row_at, rows_from, listed}
use Rattle.moving.specs.Moves.{row_place, Movable}
use Rattle.changes.proofs.Rows.{rows_next}

-- ── Changes below a place ──

-- what follows a change is on no lesser place
changes_high : (p : ℕ) (t : Change) (ts : List Change) → p ≤ t.place → Rising change_key (t ∷ ts) → Every (λ (u : Change). p ≤ u.place) (t ∷ ts)
changes_high p t ts h r = (h, Every-of (λ (u : Change). p ≤ u.place) ts (λ u k. let i = key-rises t.place u.place t.colour u.colour (Every-at (λ (u : Change). before (change_key t) (change_key u) ≡ true) r.0 k) in omega arith))

below_none : (p : ℕ) (ts : List Change) → Every (λ (t : Change). p ≤ t.place) ts → (old_below p ts ≡ 0) × (new_below p ts ≡ 0)
unfolding old_below new_below
below_none p [] a = (refl, refl)
below_none p (t ∷ ts) a = let r = below_none p ts a.1 in let x = r.0 in let y = r.1 in rw (le-ltb t.place p a.0) (omega arith, omega arith)

module _ (ws ps keys olds counts : List ℕ) (n : ℕ) where
  -- the rows ahead
  abbrev ahead : List ℕ → ℕ → List Change
  ahead ats row = rows_from (row_at ws ps keys ats olds counts) row (n - row)

  -- the words that a row makes
  abbrev new_at : ℕ → ℕ
  new_at row = length (entry_words (key_place (get_or keys row 0)) (key_colour ws ps (get_or keys row 0)) (get_or counts row 0))

  -- none of the rows ahead is below a place that is not above the next one
  rest-none : (ats : List ℕ) (row p : ℕ) → Rising change_key (ahead ats row) → p ≤ row_place keys n row → (old_below p (ahead ats row) ≡ 0) × (new_below p (ahead ats row) ≡ 0)
  unfolding rows_from old_below new_below
  rest-none ats row p r h = by (either (ltb row n))
    where
      by : (ltb row n ≡ true) ⊎ (ltb row n ≡ false) → (old_below p (ahead ats row) ≡ 0) × (new_below p (ahead ats row) ≡ 0)
      by (inl t) =
          let e = rows_next (row_at ws ps keys ats olds counts) row n (ltb-true row n t) in
          rw e (below_none p (row_at ws ps keys ats olds counts row ∷ ahead ats (row + 1)) (changes_high p (row_at ws ps keys ats olds counts row) (ahead ats (row + 1)) (rw t at h) (rw e at r)))
      by (inr t) = let i = ltb-false row n t in let z : n - row ≡ 0 = omega arith in rw z (refl, refl)

  -- ── The loop ──

  -- what is ahead after some rows and places
  pub record Ahead (begins₀ begins ats : List ℕ) (row p old new : ℕ) : Type 0 where
    pub rises : Rising change_key (ahead ats row)
    pub old_all : old + old_length (ahead ats row) ≡ old_length (listed ws ps keys ats olds counts n)
    pub new_all : new + new_length (ahead ats row) ≡ new_length (listed ws ps keys ats olds counts n)
    pub old_below_lem : (k : ℕ) → p ≤ k → old + old_below k (ahead ats row) ≡ old_below k (listed ws ps keys ats olds counts n)
    pub new_below_lem : (k : ℕ) → p ≤ k → new + new_below k (ahead ats row) ≡ new_below k (listed ws ps keys ats olds counts n)
    pub done : (k : ℕ) → k < p → k ≤ length ps → get_or begins k 0 + old_below k (listed ws ps keys ats olds counts n) ≡ get_or begins₀ k 0 + new_below k (listed ws ps keys ats olds counts n)

-- the beginnings of the places below p are moved, whatever the positions of the rows' entries
pub record Moving (ws ps keys olds counts : List ℕ) (n : ℕ) (begins₀ begins : List ℕ) (row p old new : ℕ) : Type 0 where
  pub long : length begins ≡ length begins₀
  pub kept : (k : ℕ) → p ≤ k → get_or begins k 0 ≡ get_or begins₀ k 0
  pub by : (q : Movable ws ps keys olds counts n begins₀) → Ahead ws ps keys olds counts n begins₀ begins q.ats row p old new

module _ {ws ps keys olds counts : List ℕ} {n : ℕ} {begins₀ : List ℕ} where
  pub moving-start : {r : ℕ} → r ≡ row_place keys n 0 → Moving ws ps keys olds counts n begins₀ begins₀ 0 (r + 1) 0 0
  moving-start {r} e = record { long = refl; kept = λ k h. refl; by = start }
    where
      start : (q : Movable ws ps keys olds counts n begins₀) → Ahead ws ps keys olds counts n begins₀ begins₀ q.ats 0 (r + 1) 0 0
      start q =
          let z : n - 0 ≡ n = omega arith in
          record {
            rises = rw z q.rises;
            old_all = rw z (omega arith);
            new_all = rw z (omega arith);
            old_below_lem = λ k h. rw z (omega arith);
            new_below_lem = λ k h. rw z (omega arith);
            done = λ k h i. let x = rw z at (rest-none ws ps keys olds counts n q.ats 0 k (rw z q.rises) (omega arith)) in omega (arith, x.0, x.1);
          }

  module _ {begins : List ℕ} {row p old new : ℕ} (a : Moving ws ps keys olds counts n begins₀ begins row p old new) (Q : Movable ws ps keys olds counts n begins₀) (h : p ≤ length ps) where
    -- a row, not behind the last
    module _ {r : ℕ} (e : r ≡ row_place keys n row) (t : r ≤ 64) where
      pub row-there : row < n
      row-there = by (either (ltb row n))
        where
          by : (ltb row n ≡ true) ⊎ (ltb row n ≡ false) → row < n
          by (inl i) = ltb-true row n i
          by (inr i) = let s = rw i at e in absurd (omega arith)

      next : (q : Movable ws ps keys olds counts n begins₀) → ahead ws ps keys olds counts n q.ats row ≡ row_at ws ps keys q.ats olds counts row ∷ ahead ws ps keys olds counts n q.ats (row + 1)
      next q = rows_next (row_at ws ps keys q.ats olds counts) row n row-there

      pub row_old : old + get_or olds row 0 ≤ 80
      unfolding old_length
      row_old = let s = rw (next Q) at (a.by Q).old_all in let l = Q.old-short in omega arith

      module _ {width size : ℕ} (w : width ≡ width_of ws ps (key_place (get_or keys row 0))) (s : size ≡ entry_size (get_or counts row 0) width) where
        made : size ≡ new_at ws ps keys olds counts n row
        made = key-size ws ps (get_or keys row 0) (get_or counts row 0) w s

        pub row_new : new + size ≤ 80
        unfolding new_length
        row_new = let s = rw (next Q) at (a.by Q).new_all in let l = Q.new-short in omega (arith, made)

        -- which is below the place
        pub moving-row : r < p → Moving ws ps keys olds counts n begins₀ begins (row + 1) p (old + get_or olds row 0) (new + size)
        unfolding old_length new_length old_below new_below
        moving-row b = record { long = a.long; kept = a.kept; by = turn }
          where
            below : key_place (get_or keys row 0) < p
            below = let s = rw (lt-ltb row n row-there) at e in omega arith

            turn : (q : Movable ws ps keys olds counts n begins₀) → Ahead ws ps keys olds counts n begins₀ begins q.ats (row + 1) p (old + get_or olds row 0) (new + size)
            turn q = record {
              rises = (rw (next q) at (a.by q).rises).1;
              old_all = let s = rw (next q) at (a.by q).old_all in omega arith;
              new_all = let s = rw (next q) at (a.by q).new_all in omega (arith, made);
              old_below_lem = λ k i. let l = below in let s = rw (next q, lt-ltb (key_place (get_or keys row 0)) k (omega arith)) at ((a.by q).old_below_lem k i) in omega arith;
              new_below_lem = λ k i. let l = below in let s = rw (next q, lt-ltb (key_place (get_or keys row 0)) k (omega arith)) at ((a.by q).new_below_lem k i) in omega (arith, made);
              done = (a.by q).done;
            }

    -- a place that the rows ahead are not below
    module _ {r : ℕ} (e : r ≡ row_place keys n row) (t : p ≤ r) where
      passed : (q : Movable ws ps keys olds counts n begins₀) → (old ≡ old_below p (listed ws ps keys q.ats olds counts n)) × (new ≡ new_below p (listed ws ps keys q.ats olds counts n))
      passed q =
          let x = rest-none ws ps keys olds counts n q.ats row p (a.by q).rises (omega arith) in
          let o = (a.by q).old_below_lem p (omega arith) in
          let m = (a.by q).new_below_lem p (omega arith) in
          (omega (arith, x.0), omega (arith, x.1))

      pub place-room : get_or begins p 0 + new ≤ most_words + 80
      place-room =
          let l = Q.low p h in
          let k = a.kept p (omega arith) in
          let s = (a.by Q).new_all in
          let m = Q.new-short in
          omega arith

      pub place-enough : old ≤ get_or begins p 0 + new
      place-enough =
          let x = passed Q in
          let k = a.kept p (omega arith) in
          let s = Q.enough p h in
          omega (arith, x.0, x.1)

      pub moving-place : Moving ws ps keys olds counts n begins₀ (set begins p (get_or begins p 0 + new - old)) row (p + 1) old new
      moving-place = record {
        long = length-set begins p (get_or begins p 0 + new - old) ∙ a.long;
        kept = λ k i. get_or-set_other begins p k (get_or begins p 0 + new - old) 0 (λ e. omega arith) ∙ a.kept k (omega arith);
        by = turn;
      }
        where
          turn : (q : Movable ws ps keys olds counts n begins₀) → Ahead ws ps keys olds counts n begins₀ (set begins p (get_or begins p 0 + new - old)) q.ats row (p + 1) old new
          turn q = record {
            rises = (a.by q).rises;
            old_all = (a.by q).old_all;
            new_all = (a.by q).new_all;
            old_below_lem = λ k i. (a.by q).old_below_lem k (omega arith);
            new_below_lem = λ k i. (a.by q).new_below_lem k (omega arith);
            done = λ k i j. let o : k ≤ p = omega arith in done k j (eq-or-lt_of_le o);
          }
            where
              done : (k : ℕ) → k ≤ length ps → (k ≡ p) ⊎ (k < p) → get_or (set begins p (get_or begins p 0 + new - old)) k 0 + old_below k (listed ws ps keys q.ats olds counts n) ≡ get_or begins₀ k 0 + new_below k (listed ws ps keys q.ats olds counts n)
              done k j (inl i) =
                  let f = Q.full in
                  let g = Q.fits.few in
                  let l = a.long in
                  let s = get_or-set_same begins p (get_or begins p 0 + new - old) 0 (omega arith) in
                  let x = passed q in
                  let m = place-enough in
                  let b = a.kept p (omega arith) in
                  rw (i, s, ← x.0, ← x.1) (omega arith)
              done k j (inr i) = rw (get_or-set_other begins p k (get_or begins p 0 + new - old) 0 (λ e. omega arith)) ((a.by q).done k i j)
