-- The rules of measuring: the keys that are ahead, with what was measured so far, are what was ahead at first.
use mathlib.Core.Path.{◌≡◌, refl, sym, ap, ◌∙◌, subst}
use mathlib.Core.Bool.{true, false}
use mathlib.Core.List.{List, ◌∷◌, ◌++◌, Memᴰ}
use Rattle.std.specs.Prelude.{None}
use Prim.Native.Nat.{ℕ, suc, ◌+◌, ◌*◌, ◌≤◌, ◌<◌}
use borrow.Author.Tests.{eq-eqb, ne_eqb}
use native.Mathlib.Omega.{arith}
use lib.Dec.{leb}
use lib.ListN.{length, length-append}
use Rattle.semantics.specs.Lists.{Every, every, select}
use Rattle.semantics.specs.Marking.{Entry, entry_words}
use Rattle.semantics.proofs.Tests.{Every-at, Every-of, selected}
use Rattle.semantics.proofs.Members.{every_both}
use Rattle.arcs.specs.Keys.{key_place, key_colour, KeyFits}
use Rattle.gathering.specs.Gather.{sum_of}
use Rattle.gathering.proofs.Keyed.{keys_total}
use Rattle.patch.specs.Patch.{Change, old_length, new_length}
use Rattle.changes.specs.declared.change.Changed.{Changed}
use Rattle.changes.specs.Keys.{sort_keys, keys_from, no_key, first_of, least_from}
use Rattle.changes.specs.Changes.{Moves, after, within, uneven_from, change_to, change_at, changes_from, changed_count, Sees, IsChanged, IsChange}
use Rattle.change_lists.specs.Lists.{IsMeasured}
use Rattle.changes.proofs.Sorted.{Low, sort_of_lem, first_both, keys_stay, keys_next, keys_none, keys_few}

-- ── Keys that fit ──

module _ {ws ps ik ia ok oa begins : List ℕ} (m : Moves ws ps ik ia ok oa begins) where
  key-low : {k : ℕ} → KeyFits ws ps k → k < no_key
  key-low x = let t = x.there in let few = m.fits.few in omega arith

  every-low : (ks : List ℕ) → Every (KeyFits ws ps) ks → Low ks
  every-low ks e = Every-of (λ (k : ℕ). k < no_key) ks (λ k i. key-low (Every-at (KeyFits ws ps) e i))

  pub ins-low : Low ik
  ins-low = every-low ik m.ins.fit

  pub outs-low : Low ok
  outs-low = every-low ok m.outs.fit

  pub all_fit : Every (KeyFits ws ps) (ik ++ ok)
  all_fit = every_both (KeyFits ws ps) ik ok m.ins.fit m.outs.fit

  pub all_low : Low (ik ++ ok)
  all_low = every-low (ik ++ ok) all_fit

  pub all_few : length (ik ++ ok) ≤ 16
  all_few = let a = m.ins.few in let b = m.outs.few in omega (arith, length-append ik ok)

  -- the least of both lists from a number on is the first of all keys there
  pub next_of : (floor : ℕ) {s r : ℕ} → s ≡ least_from floor no_key ik → r ≡ least_from floor s ok → r ≡ first_of (keys_from floor (ik ++ ok))
  next_of floor e f = first_both floor ik ok ins-low outs-low e f

  -- a key that is asked for is the first of those from itself on
  module _ (floor : ℕ) {key : ℕ} (e : key ≡ first_of (keys_from floor (ik ++ ok))) where
    pub next-same : keys_from key (ik ++ ok) ≡ keys_from floor (ik ++ ok)
    next-same = rw e (keys_stay floor (ik ++ ok) all_low)

    next-first : key ≡ first_of (keys_from key (ik ++ ok))
    next-first = e ∙ ap first_of (sym next-same)

  pub key_fits : {k : ℕ} → k ≡ first_of (keys_from k (ik ++ ok)) → k < no_key → KeyFits ws ps k
  unfolding keys_from
  key_fits {k} f h =
      let e = keys_next k (ik ++ ok) f h in
      let i : Memᴰ k (keys_from k (ik ++ ok)) = subst (λ (l : List ℕ). Memᴰ k l) (sym e) (mathlib.Core.List.Memᴰ.head refl) in
      Every-at (KeyFits ws ps) all_fit (sort_of_lem (ik ++ ok) (selected (leb k) (sort_keys (ik ++ ok)) i).0)

-- ── Measuring ──

-- what was measured before a key
pub record Measuring (ws ps ik ia ok oa ms begins : List ℕ) (k old new : ℕ) : Type 0 where
  pub first : k ≡ first_of (keys_from k (ik ++ ok))
  pub limit : (es : List Entry) → Sees ws ps ms begins es → every (within ws ps (after ws ps ik ia ok oa es)) (uneven_from ik ia ok oa k) ≡ every (within ws ps (after ws ps ik ia ok oa es)) (uneven_from ik ia ok oa 0)
  pub old-same : (es : List Entry) → Sees ws ps ms begins es → old + old_length (changes_from ws ps ik ia ok oa es k) ≡ old_length (changes_from ws ps ik ia ok oa es 0)
  pub new-same : (es : List Entry) → Sees ws ps ms begins es → new + new_length (changes_from ws ps ik ia ok oa es k) ≡ new_length (changes_from ws ps ik ia ok oa es 0)
  pub old-short : old + 5 * length (keys_from k (ik ++ ok)) ≤ 80
  pub new-short : new + 5 * length (keys_from k (ik ++ ok)) ≤ 80

module _ {ws ps ik ia ok oa ms begins : List ℕ} (m : Moves ws ps ik ia ok oa begins) where
  pub measuring_start : {k : ℕ} → k ≡ first_of (keys_from 0 (ik ++ ok)) → Measuring ws ps ik ia ok oa ms begins k 0 0
  measuring_start {k} e =
      let s = next-same m 0 e in
      let few = keys_few 0 (ik ++ ok) in
      let all = all_few m in
      record {
        first = next-first m 0 e;
        limit = λ es v. rw s;
        old-same = λ es v. rw s (omega arith);
        new-same = λ es v. rw s (omega arith);
        old-short = rw s (omega arith);
        new-short = rw s (omega arith);
      }

  module _ {k old new : ℕ} (a : Measuring ws ps ik ia ok oa ms begins k old new) where
    pub measuring_end : no_key ≤ k → {n : ℕ} → IsMeasured ws ps ik ia ok oa ms begins (record { n = n; old = old; new = new })
    unfolding every select old_length new_length
    measuring_end h =
        let e = keys_none k (ik ++ ok) (all_low m) h in
        let n = a.new-short in
        let o = a.old-short in
        record {
          within = λ es v. sym (rw e at (a.limit es v));
          old = λ es v. let s = rw e at (a.old-same es v) in omega arith;
          new = λ es v. let s = rw e at (a.new-same es v) in omega arith;
          old-short = omega arith;
          new-short = omega arith;
        }

    -- the key is the next, and the others come after it
    pub keys_are : k < no_key → keys_from k (ik ++ ok) ≡ k ∷ keys_from (k + 1) (ik ++ ok)
    keys_are h = keys_next k (ik ++ ok) a.first h

    module _ (h : k < no_key) where
      -- fewer keys are ahead
      pub measuring_less : {k' : ℕ} → k' ≡ first_of (keys_from (k + 1) (ik ++ ok)) → length (keys_from k' (ik ++ ok)) < length (keys_from k (ik ++ ok))
      measuring_less e = let s = ap length (next-same m (k + 1) e) in let l = ap length (keys_are h) in omega arith

      module _ {taken made : ℕ} (t : taken ≡ sum_of ik ia k) (d : made ≡ sum_of ok oa k) where
        -- ── A key of which as much is made as is taken ──

        module _ (i : taken ≡ made) where
          pub even_passed : uneven_from ik ia ok oa k ≡ uneven_from ik ia ok oa (k + 1)
          unfolding select
          even_passed = rw (keys_are h, eq-eqb (sum_of ik ia k) (sum_of ok oa k) (sym t ∙ i ∙ d))

          pub measuring_pass : {k' : ℕ} → k' ≡ first_of (keys_from (k + 1) (ik ++ ok)) → Measuring ws ps ik ia ok oa ms begins k' old new
          measuring_pass {k'} e =
              let s = next-same m (k + 1) e in
              let l : length (keys_from k (ik ++ ok)) ≡ suc (length (keys_from (k + 1) (ik ++ ok))) = ap length (keys_are h) in
              let a₁ = a.old-short in
              let a₂ = a.new-short in
              record {
                first = next-first m (k + 1) e;
                limit = λ es v. rw s (rw even_passed at (a.limit es v));
                old-same = λ es v. rw s (rw even_passed at (a.old-same es v));
                new-same = λ es v. rw s (rw even_passed at (a.new-same es v));
                old-short = rw s (omega arith);
                new-short = rw s (omega arith);
              }

        -- ── One whose count changes ──

        module _ (i : taken ≡ made → ⊥) where
          pub uneven_are : uneven_from ik ia ok oa k ≡ k ∷ uneven_from ik ia ok oa (k + 1)
          unfolding select
          uneven_are = rw (keys_are h, ne_eqb (sum_of ik ia k) (sum_of ok oa k) (λ e. i (t ∙ e ∙ sym d)))

          after_is : (es : List Entry) → changed_count ws ps es k taken made ≡ after ws ps ik ia ok oa es (key_place k) (key_colour ws ps k)
          after_is es = let f = key_fits m a.first h in rw (t, d, keys_total ik ia m.ins.fit f, keys_total ok oa m.outs.fit f)

          -- a count that passes the limit
          pub measuring_over : IsChange ws ps ms begins k taken made None → (es : List Entry) → Sees ws ps ms begins es → every (within ws ps (after ws ps ik ia ok oa es)) (uneven_from ik ia ok oa 0) ≡ false
          unfolding every
          measuring_over x es v =
              let w : within ws ps (after ws ps ik ia ok oa es) k ≡ false = rw (← after_is es) (x es v) in
              sym (rw (uneven_are, w) at (a.limit es v))

          module _ {c : Changed} (x : IsChanged ws ps ms begins k taken made c) where
            pub key-told : (es : List Entry) → Sees ws ps ms begins es → record { place = key_place k; colour = key_colour ws ps k; count = c.count; at = c.at; old = c.old } ≡ change_at ws ps es (after ws ps ik ia ok oa es) k
            key-told es v = x.told es v ∙ ap (change_to ws ps es k) (after_is es)

            -- the words that the next change adds
            pub measuring_room : (old + c.old ≤ 80) × (new + c.new ≤ 80)
            measuring_room =
                let l : length (keys_from k (ik ++ ok)) ≡ suc (length (keys_from (k + 1) (ik ++ ok))) = ap length (keys_are h) in
                let a₁ = a.old-short in
                let a₂ = a.new-short in
                let b₁ = x.old-short in
                let b₂ = x.new-short in
                (omega arith, omega arith)

            pub measuring_turn : {k' : ℕ} → k' ≡ first_of (keys_from (k + 1) (ik ++ ok)) → Measuring ws ps ik ia ok oa ms begins k' (old + c.old) (new + c.new)
            unfolding every old_length new_length
            measuring_turn {k'} e =
                let s = next-same m (k + 1) e in
                let l : length (keys_from k (ik ++ ok)) ≡ suc (length (keys_from (k + 1) (ik ++ ok))) = ap length (keys_are h) in
                let a₁ = a.old-short in
                let a₂ = a.new-short in
                let b₁ = x.old-short in
                let b₂ = x.new-short in
                record {
                  first = next-first m (k + 1) e;
                  limit = λ es v.
                      let w : within ws ps (after ws ps ik ia ok oa es) k ≡ true = rw (← after_is es) (x.within es v) in
                      rw s (rw (uneven_are, w) at (a.limit es v));
                  old-same = λ es v. let d = ap (λ (c : Change). c.old) (key-told es v) in let o = rw uneven_are at (a.old-same es v) in rw s (omega arith);
                  new-same = λ es v. let d = x.new ∙ ap (λ (c : Change). length (entry_words c.place c.colour c.count)) (key-told es v) in let o = rw uneven_are at (a.new-same es v) in rw s (omega arith);
                  old-short = rw s (omega arith);
                  new-short = rw s (omega arith);
                }
