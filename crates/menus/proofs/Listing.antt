-- From what a search comes to to the menu of semantics: the enabled leaves, in order and once, are the menu; the tries are W; and there is room for the
-- rows exactly where the menu fits.
use mathlib.Core.Path.{◌≡◌, refl, sym, ap, ◌∙◌, subst}
use mathlib.Core.Logic.{◌⊎◌, inl, inr}
use mathlib.Core.Bool.{Bool, true, false, cond, ◌&&◌, and-true}
use mathlib.Core.List.{List, [], ◌∷◌, ◌++◌, map, flat_map}
use mathlib.Core.Option.{none}
use Prim.Native.Nat.{ℕ, zero, suc, ◌+◌, ◌*◌, ◌/◌, min, ◌≤◌, ◌<◌}
use native.Mathlib.Omega.{arith}
use native.Mathlib.Nat.{div-mul-le_self, mul-le-mul_right, div-add-mod', mod-lt, suc-mul, zero-mul, mul-zero, zero-add}
use borrow.Author.Tests.{le-leb, lt-leb, leb-true, leb-false, eq-eqb, ne_eqb, eqb-true, eqb-false}
use lib.Dec.{leb, eqb}
use lib.IntN.{ℤ}
use lib.ListN.{length, take, drop, replicate, length-take, take-append-drop}
use lib.Seq.{length-take-le, take_all}
use Rattle.std.specs.Prelude.{Ok, Err}
use Rattle.semantics.specs.declared.refusal.Refusal.TheVariants.{OverBudget, OverMenu}
use Rattle.semantics.specs.Refusal.{most_bindings}
use Rattle.semantics.specs.Word.{value_word}
use Rattle.semantics.specs.Expression.{house_table}
use Rattle.semantics.specs.Order.{insert_all}
use Rattle.semantics.specs.Marking.{Proper}
use Rattle.semantics.specs.Tries.{Partial, empty, all_tries, leaves}
use Rattle.semantics.specs.Run.{menu, menu_fits, offer}
use Rattle.semantics.specs.Answer.{Found}
use Rattle.semantics.specs.Calls.{Situation, MenuEnd, listed_by}
use Rattle.semantics.proofs.Tests.{either, and_both}
use Rattle.semantics.proofs.Leaves.{Sound, sound_empty}
use Rattle.semantics.proofs.Menu.{found-menu}
use Rattle.evaluation.specs.Evaluate.{value_of}
use Rattle.marking.proofs.Counted.{marking_counts}
use Rattle.rows.specs.Rows.{rows_of, Listing, listed, over, listed_if, add_all, listing_of}
use Rattle.rows.proofs.Listings.{add_all_lem}
use Rattle.rows.proofs.Rows.{rows_words, rows_length}
use Rattle.tries.specs.Partial.{partial_of}
use Rattle.arrivals.specs.World.{World}
use Rattle.leaves.specs.declared.progress.Progress.{Progress}
use Rattle.search.specs.Search.{cost_from, rows_from, menu_end}
use Rattle.leaves.specs.Leaf.{exhausted, reached, settle, outcome_of, Held, Ended}
use Rattle.menus.specs.Menu.{most_rows}
use Rattle.leaves.proofs.Settling.{settled_on, settled_past}
use Rattle.search.proofs.Worlds.{few-variables}

-- ── Room ──

pub most_none : (room w : ℕ) → w ≡ 0 → most_bindings ≡ most_rows room w
most_none room w e = rw (eq-eqb w 0 e)

pub most_some : (room w : ℕ) {n : ℕ} → (w ≡ 0 → ⊥) → n ≡ min (room / w) most_bindings → n ≡ most_rows room w
most_some room w e f = rw (ne_eqb w 0 e) f

-- so many rows stand in the room, and they are at most 16,383
pub record Roomy (room w n : ℕ) : Type 0 where
  pub words : n * w ≤ room
  pub few : n ≤ most_bindings

pub most_roomy : (room w : ℕ) → Roomy room w (most_rows room w)
most_roomy room w = by (either (eqb w 0))
  where
    by : (eqb w 0 ≡ true) ⊎ (eqb w 0 ≡ false) → Roomy room w (most_rows room w)
    by (inl e) = let z = eqb-true w 0 e in rw e (record { words = rw z (rw (mul-zero most_bindings) (omega arith)); few = omega arith })
    by (inr e) =
        let m : min (room / w) most_bindings ≤ room / w = omega arith in
        let k = mul-le-mul_right w m in
        let d = div-mul-le_self room w in
        rw e (record { words = omega arith; few = omega arith })

-- so many rows of a width fit exactly where they are at most 16,383 and their words stand in the room
rows_fit : (room w n : ℕ) → (leb n most_bindings && leb (n * w) room) ≡ leb n (most_rows room w)
rows_fit room w n = by (either (eqb w 0))
  where
    none-wide : w ≡ 0 → (leb n most_bindings && leb (n * w) room) ≡ leb n most_bindings
    none-wide z = let e : leb (n * w) room ≡ true = le-leb (n * w) room (rw z (rw (mul-zero n) (omega arith))) in rw e (and-true (leb n most_bindings))

    some-wide : 0 < w → (leb n (min (room / w) most_bindings) ≡ true) ⊎ (leb n (min (room / w) most_bindings) ≡ false) → (leb n most_bindings && leb (n * w) room) ≡ leb n (min (room / w) most_bindings)
    some-wide h (inl e) =
        let l = leb-true n (min (room / w) most_bindings) e in
        let q : n ≤ room / w = omega arith in
        let k = mul-le-mul_right w q in
        let d = div-mul-le_self room w in
        and_both (leb n most_bindings) (leb (n * w) room) (le-leb n most_bindings (omega arith)) (le-leb (n * w) room (omega arith)) ∙ sym e
    some-wide h (inr e) = past (either (leb n most_bindings)) ∙ sym e
      where
        past : (leb n most_bindings ≡ true) ⊎ (leb n most_bindings ≡ false) → (leb n most_bindings && leb (n * w) room) ≡ false
        past (inr f) = rw f
        past (inl f) =
            let l = leb-false n (min (room / w) most_bindings) e in
            let g = leb-true n most_bindings f in
            let q : suc (room / w) ≤ n = omega arith in
            let k = mul-le-mul_right w q in
            let s = suc-mul (room / w) w in
            let d = div-add-mod' room w in
            let m = mod-lt room h in
            let o : leb (n * w) room ≡ false = lt-leb (n * w) room (omega arith) in
            rw (f, o)

    by : (eqb w 0 ≡ true) ⊎ (eqb w 0 ≡ false) → (leb n most_bindings && leb (n * w) room) ≡ leb n (most_rows room w)
    by (inl e) = rw e (none-wide (eqb-true w 0 e))
    by (inr e) = rw e (some-wide (let z = eqb-false w 0 e in omega arith) (either (leb n (min (room / w) most_bindings))))

-- ── The start ──

empty_slots : (v n : ℕ) → v ≤ n → map value_of (take v (replicate n 0)) ≡ replicate v none
empty_slots zero n h = refl
empty_slots (suc v) zero h = absurd (omega arith)
empty_slots (suc v) (suc n) h = ap (λ (p : Partial). none ∷ p) (empty_slots v n (omega arith))

-- no rows yet
pub held_none : (w room : ℕ) (m : List ℕ) → length m ≡ room → Held w (most_rows room w) 0 m
unfolding rows_of
held_none w room m l =
    let z = zero-mul w in
    let r = (most_roomy room w).words in
    record { kept = record { room = omega arith; rising = tt; values = rw z tt }; within = omega arith; room = omega arith }

module _ {ws ps : List ℕ} {position v : ℕ} {inputs conjuncts elements ms begins : List ℕ} {s : Situation} (W : World ws ps position v inputs conjuncts elements ms begins s) where
  start-empty : partial_of v (take v (replicate 8 0)) ≡ empty s.transition
  start-empty = ap (map value_of) (take_all v (take v (replicate 8 0)) (rw (length-take {A = ℕ} v (replicate 8 0)) (omega arith))) ∙ empty_slots v 8 (few-variables W) ∙ ap (λ (k : ℕ). replicate k none) W.many

  pub start_sound : Sound s.transition s.transition.plan (partial_of v (take v (replicate 8 0)))
  start_sound = subst (Sound s.transition s.transition.plan) (sym start-empty) (sound_empty s.transition W.faultless)

  proper : Proper s.net s.counts
  proper = subst (Proper s.net) (sym W.counted) (marking_counts s.net ms W.entries W.end W.marked)

  -- ── What it comes to ──

  abbrev answered : ℕ → ℕ → List ℕ → MenuEnd
  answered n w buffer = record { answer = Found n w; buffer = buffer }

  module _ (budget : ℕ) (buffer : List ℕ) {r : Progress} {m : List ℕ} (E : Ended v (most_rows (length buffer) v) budget 0 buffer 0 (listed []) (cost_from s s.transition.plan (partial_of v (take v (replicate 8 0)))) (rows_from s s.transition.plan (partial_of v (take v (replicate 8 0)))) r m) where
    offers : List (List ℤ)
    offers = menu house_table s.transition s.counts

    count : ℕ
    count = all_tries house_table s.net s.transition s.counts

    found : insert_all (rows_from s s.transition.plan (partial_of v (take v (replicate 8 0)))) [] ≡ offers
    unfolding offers leaves
    found = ap (λ (p : Partial). insert_all (rows_from s s.transition.plan p) []) start-empty ∙ found-menu house_table s.net s.transition s.counts W.faultless proper

    counted : 0 + cost_from s s.transition.plan (partial_of v (take v (replicate 8 0))) ≡ count
    unfolding count all_tries
    counted = zero-add (cost_from s s.transition.plan (partial_of v (take v (replicate 8 0)))) ∙ ap (cost_from s s.transition.plan) start-empty

    fits : menu_fits s.transition (length buffer) offers ≡ leb (length offers) (most_rows (length buffer) v)
    fits = rows_fit (length buffer) (length s.transition.variables) (length offers) ∙ ap (λ (k : ℕ). leb (length offers) (most_rows (length buffer) k)) (sym W.many)

    outcome : outcome_of v r m ≡ settle budget count (listed_if (leb (length offers) (most_rows (length buffer) v)) offers)
    outcome =
        E.outcome
        ∙ ap (λ (k : ℕ). settle budget k (add_all (most_rows (length buffer) v) (rows_from s s.transition.plan (partial_of v (take v (replicate 8 0)))) (listed []))) counted
        ∙ ap (settle budget count) (add_all_lem (most_rows (length buffer) v) (rows_from s s.transition.plan (partial_of v (take v (replicate 8 0)))))
        ∙ ap (λ (bs : List (List ℤ)). settle budget count (listed_if (leb (length bs) (most_rows (length buffer) v)) bs)) found

    -- 10
    pub listed_10 : {z : List ℕ} → r.spent ≡ true → z ≡ replicate (length m) 0 → length m ≡ length buffer → menu_end (Err OverBudget) z ≡ listed_by buffer (offer house_table s.net budget (length buffer) s.transition s.counts)
    unfolding offer count offers
    listed_10 {z} d e l =
        let x : exhausted ≡ settle budget count (listed_if (leb (length offers) (most_rows (length buffer) v)) offers) = rw d at outcome in
        let p = settled_past budget count _ x in
        let q : leb (all_tries house_table s.net s.transition s.counts) budget ≡ false = lt-leb count budget p in
        let f : z ≡ replicate (length buffer) 0 = e ∙ ap (λ (k : ℕ). replicate k 0) l in
        rw (q, f)

    module _ (d : r.spent ≡ false) where
      on : reached r.tries (listing_of v r.rows r.full m) ≡ settle budget count (listed_if (leb (length offers) (most_rows (length buffer) v)) offers)
      on = sym (ap (λ (u : Bool). cond u exhausted (reached r.tries (listing_of v r.rows r.full m))) d) ∙ outcome

      paid : leb (all_tries house_table s.net s.transition s.counts) budget ≡ true
      unfolding count
      paid = le-leb count budget (settled_on budget r.tries count _ _ on).paid

      listing : listing_of v r.rows r.full m ≡ listed_if (leb (length offers) (most_rows (length buffer) v)) offers
      listing = (settled_on budget r.tries count _ _ on).listing

      -- 11
      pub listed_11 : {z : List ℕ} → r.full ≡ true → z ≡ replicate (length m) 0 → length m ≡ length buffer → menu_end (Err OverMenu) z ≡ listed_by buffer (offer house_table s.net budget (length buffer) s.transition s.counts)
      unfolding offer count offers
      listed_11 {z} g e l =
          let x : over ≡ listed_if (leb (length offers) (most_rows (length buffer) v)) offers = rw g at listing in
          let q : menu_fits s.transition (length buffer) (menu house_table s.transition s.counts) ≡ false = fits ∙ by (leb (length offers) (most_rows (length buffer) v)) x in
          let f : z ≡ replicate (length buffer) 0 = e ∙ ap (λ (k : ℕ). replicate k 0) l in
          rw (paid, q, f)
        where
          by : (u : Bool) → over ≡ listed_if u offers → u ≡ false
          by true h = let o : ◌≡◌ {A = ℕ} 0 1 = cc in absurd (omega arith)
          by false h = refl

      -- N and W
      pub listed_found : r.full ≡ false → menu_end (Ok (record { bindings = r.rows; tries = r.tries })) m ≡ listed_by buffer (offer house_table s.net budget (length buffer) s.transition s.counts)
      unfolding offer count offers
      listed_found g =
          let x : listed (rows_of v r.rows m) ≡ listed_if (leb (length offers) (most_rows (length buffer) v)) offers = rw g at listing in
          let y = by (leb (length offers) (most_rows (length buffer) v)) x in
          let q : menu_fits s.transition (length buffer) (menu house_table s.transition s.counts) ≡ true = fits ∙ y.0 in
          let n : r.rows ≡ length (menu house_table s.transition s.counts) = sym (rows_length v r.rows m) ∙ ap length y.1 in
          let t : r.tries ≡ all_tries house_table s.net s.transition s.counts = (settled_on budget r.tries count _ _ on).tries in
          let k = E.kept in
          let w : flat_map (map value_word) (menu house_table s.transition s.counts) ≡ take (r.rows * v) m = ap (flat_map (map value_word)) (sym y.1) ∙ rows_words v r.rows m k.room k.values in
          let o : length (take (r.rows * v) m) ≡ r.rows * v = length-take-le (r.rows * v) m k.room in
          let b : m ≡ take (r.rows * v) m ++ drop (length (take (r.rows * v) m)) buffer = sym (take-append-drop (r.rows * v) m) ∙ ap (λ (l : List ℕ). take (r.rows * v) m ++ l) (E.beyond ∙ ap (λ (j : ℕ). drop j buffer) (sym o)) in
          rw (paid, q, w)
          (ap (λ (l : List ℕ). answered r.rows r.tries l) b
          ∙ ap (λ (j : ℕ). answered j r.tries (take (r.rows * v) m ++ drop (length (take (r.rows * v) m)) buffer)) n
          ∙ ap (λ (j : ℕ). answered (length (menu house_table s.transition s.counts)) j (take (r.rows * v) m ++ drop (length (take (r.rows * v) m)) buffer)) t)
        where
          by : (u : Bool) → listed (rows_of v r.rows m) ≡ listed_if u offers → (u ≡ true) × (rows_of v r.rows m ≡ offers)
          by true h = (refl, cc)
          by false h = let o : ◌≡◌ {A = ℕ} 0 1 = cc in absurd (omega arith)

-- room for a number of rows that is the same
pub ended_most : {w most most' budget n : ℕ} {m : List ℕ} {t : ℕ} {l : Listing} {cost : ℕ} {rows : List (List ℤ)} {r : Progress} {m' : List ℕ} → most ≡ most' → Ended w most budget n m t l cost rows r m' → Ended w most' budget n m t l cost rows r m'
ended_most {w} {most} {most'} {budget} {n} {m} {t} {l} {cost} {rows} {r} {m'} e E = subst (λ (k : ℕ). Ended w k budget n m t l cost rows r m') e E
