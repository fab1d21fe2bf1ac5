-- The rules of reading places and a net: a place's word and its ranges; places one after the other, of which the positions and the
-- widths are kept; the net's word, its places and its transitions.
use mathlib.Core.Path.{◌≡◌, refl, sym, ap, ◌∙◌, subst}
use Prim.Native.Nat.{ℕ, suc, ◌+◌, ◌/◌, ◌%◌, ◌≤◌, ◌<◌}
use mathlib.Core.Bool.{true, ◌&&◌}
use mathlib.Core.List.{List, [], ◌∷◌, ◌++◌, map, zip, zip_with}
use borrow.Author.Rules.{rules}
use native.Mathlib.Omega.{arith}
use Rattle.std.specs.Prelude.{Result, Ok, Err}
use lib.ListN.{length, take, set}
use lib.Seq.{length-take-le}
use Rattle.semantics.specs.Word.{only, between}
use Rattle.semantics.specs.Reading.{Reading, read, refused, then}
use Rattle.semantics.proofs.Tests.{and_left, and_right}
use Rattle.semantics.proofs.Accepted.{between_true}
use Rattle.semantics.specs.declared.refusal.Refusal.{Refusal}
use Rattle.semantics.specs.Answer.{refusing}
use Rattle.expression.specs.Skip.{forget, skipped}
use Rattle.kinds.specs.Taken.{fits_kind, Takes, IsTaken}
use Rattle.net.specs.Skim.{changed, starts, skim_range, skim_one, skim_place, skim_places, skim_transitions, skim_net}
use Rattle.net.specs.declared.index.PlaceIndex.{PlaceIndex}
use Rattle.net.specs.Index.{up_to, place_read}
use Rattle.net.proofs.Structures.{word-refused, word-taken}
use Rattle.net.proofs.Loops.{Gathered, gathered-start, gathered_turn, gathered-refused, gathered-end, take-set}
use Rattle.net.proofs.Transitions.{then_gives}

-- ── A place ──

module _ (ws : List ℕ) (at : ℕ) {t : Result ℕ Refusal} (w : IsTaken ws at 2 t) where
  pub place-refused : {e : Refusal} → t ≡ Err e → refusing e ≡ skim_place ws at
  unfolding skim_place
  place-refused e = rw (word-refused w e)

  module _ {p : ℕ} (e : t ≡ Ok p) where
    module _ {r : Result ℕ Refusal} (a : skipped r ≡ forget (starts p (skim_range ws) (at + 1))) where
      pub place-stops : {e : Refusal} → r ≡ Err e → refusing e ≡ skim_place ws at
      unfolding skim_place skim_one
      place-stops d = rw (word-taken w e, ← a, d)

      pub place-ends : {next : ℕ} → r ≡ Ok next → read p next ≡ skim_place ws at
      unfolding skim_place skim_one
      place-ends d = rw (word-taken w e, ← a, d)

-- ── Places: what is still ahead is what was ahead at first ──

module _ (ws : List ℕ) where
  places-read : (k at width next : ℕ) → skim_place ws at ≡ read width next → skim_places (suc k) ws at ≡ changed (λ ps. (at, width) ∷ ps) (skim_places k ws next)
  unfolding skim_places
  places-read k at width next e = rw e (by (skim_places k ws next))
    where
      by : (x : Reading (List (ℕ × ℕ))) → then x (λ ps end. read ((at, width) ∷ ps) end) ≡ changed (λ ps. (at, width) ∷ ps) x
      by (read ps end) = refl
      by (refused n p) = refl

  places-refused : (k at m q : ℕ) → skim_place ws at ≡ refused m q → skim_places (suc k) ws at ≡ refused m q
  unfolding skim_places
  places-refused k at m q e = rw e

zip_snoc : (xs ys : List ℕ) (x y : ℕ) → length xs ≡ length ys → zip (xs ++ (x ∷ [])) (ys ++ (y ∷ [])) ≡ zip xs ys ++ ((x, y) ∷ [])
unfolding zip zip_with
zip_snoc [] [] x y l = refl
zip_snoc [] (b ∷ ys) x y l = absurd (omega arith)
zip_snoc (a ∷ xs) [] x y l = absurd (omega arith)
zip_snoc (a ∷ xs) (b ∷ ys) x y l = ap (λ (r : List (ℕ × ℕ)). (a, b) ∷ r) (zip_snoc xs ys x y (omega arith))

pub taken_alike : (xs ys : List ℕ) (n : ℕ) → n ≤ length xs → n ≤ length ys → length (take n xs) ≡ length (take n ys)
taken_alike xs ys n h k = length-take-le n xs h ∙ sym (length-take-le n ys k)

-- n places are read from a position; the i first of them begin at `begins` and have `widths`
pub record Placed (ws : List ℕ) (n at i next : ℕ) (begins widths : List ℕ) : Type 0 where
  pub gathered : Gathered (λ k. skim_places k ws) n at i next (zip (take i begins) (take i widths))

pub placed-start : (ws : List ℕ) (n at : ℕ) (begins widths : List ℕ) → Placed ws n at 0 at begins widths
unfolding zip zip_with
placed-start ws n at begins widths = record { gathered = gathered-start (λ k. skim_places k ws) n at }

module _ {ws : List ℕ} {n at i next : ℕ} {begins widths : List ℕ} (a : Placed ws n at i next begins widths) where
  pub placed_end : n ≤ i → read (zip (take n begins) (take n widths)) next ≡ skim_places n ws at
  unfolding skim_places
  placed_end h =
      let g = a.gathered.inside in
      let j : n ≡ i = omega arith in
      ap (λ (k : ℕ). read (zip (take k begins) (take k widths)) next) j ∙ gathered-end a.gathered h refl

  module _ (h : i < n) {r : Result PlaceIndex Refusal} (s : place_read r ≡ skim_place ws next) where
    pub placed_goes : {p : PlaceIndex} → n ≤ length begins → n ≤ length widths → r ≡ Ok p → Placed ws n at (i + 1) p.end (set begins i next) (set widths i p.width)
    placed_goes {p} l k d =
        let e : skim_place ws next ≡ read p.width p.end = rw (← s, d) in
        record {
          gathered =
              rw (take-set begins i next (omega arith), take-set widths i p.width (omega arith), zip_snoc (take i begins) (take i widths) next p.width (taken_alike begins widths i (omega arith) (omega arith)))
              (gathered_turn a.gathered p.end (next, p.width) h (λ k. places-read ws k next p.width p.end e));
        }

    pub placed-stops : {e : Refusal} → r ≡ Err e → refusing e ≡ skim_places n ws at
    placed-stops d = gathered-refused a.gathered _ _ h (λ k. places-refused ws k next _ _ (rw (← s, d)))

-- ── A net ──

pub seconds : (xs ys : List ℕ) → length xs ≡ length ys → map (λ (p : ℕ × ℕ). p.1) (zip xs ys) ≡ ys
unfolding zip zip_with
seconds [] [] l = refl
seconds [] (b ∷ ys) l = absurd (omega arith)
seconds (a ∷ xs) [] l = absurd (omega arith)
seconds (a ∷ xs) (b ∷ ys) l = ap (λ (r : List ℕ). b ∷ r) (seconds xs ys (omega arith))

module _ (ws : List ℕ) (at : ℕ) {t : Result ℕ Refusal} (w : IsTaken ws at 1 t) where
  pub net-refused : {e : Refusal} → t ≡ Err e → refusing e ≡ skim_net ws at
  unfolding skim_net
  net-refused e = rw (word-refused w e)

  module _ {p : ℕ} (e : t ≡ Ok p) where
    word_fits : (only 16 p && between 1 64 (p / 256 % 256) && between 1 64 (p / 1 % 256)) ≡ true
    unfolding fits_kind
    word_fits = (subst (Takes ws at 1) e w.exists).fits

    pub few-places : p / 256 % 256 ≤ 64
    few-places = (between_true 1 64 (p / 256 % 256) (and_right (only 16 p) (between 1 64 (p / 256 % 256)) (and_left (only 16 p && between 1 64 (p / 256 % 256)) (between 1 64 (p / 1 % 256)) word_fits))).1

    pub few-transitions : p % 256 ≤ 64
    few-transitions = let few = (between_true 1 64 (p / 1 % 256) (and_right (only 16 p && between 1 64 (p / 256 % 256)) (between 1 64 (p / 1 % 256)) word_fits)).1 in omega arith

    module _ {end : Result ℕ Refusal} (ps : List (ℕ × ℕ)) (a : up_to end ps ≡ skim_places (p / 256 % 256) ws (at + 1)) where
      pub net-stops : {e : Refusal} → end ≡ Err e → refusing e ≡ skim_net ws at
      unfolding skim_net
      net-stops d = rw (word-taken w e, ← a, d)

      transitions-left : {n : ℕ} → end ≡ Ok n → skim_net ws at ≡ then (starts (p % 256) (skim_transitions ws (map (λ (p : ℕ × ℕ). p.1) ps)) n) (λ ts m. read (record { places = ps; transitions = ts }) m)
      unfolding skim_net
      transitions-left d = let h : p / 1 ≡ p = omega arith in rw (word-taken w e, ← a, d, h)

    pub net-ends : {end : Result ℕ Refusal} (begins widths : List ℕ) {n : ℕ} (last : Result ℕ Refusal) (ts : List ℕ) → up_to end (zip (take (p / 256 % 256) begins) (take (p / 256 % 256) widths)) ≡ skim_places (p / 256 % 256) ws (at + 1) → end ≡ Ok n → up_to last ts ≡ starts (p % 256) (skim_transitions ws (take (p / 256 % 256) widths)) n → length begins ≡ 64 → length widths ≡ 64 → up_to last (record { places = zip (take (p / 256 % 256) begins) (take (p / 256 % 256) widths); transitions = ts }) ≡ skim_net ws at
    net-ends begins widths last ts a d b l k =
        let f = few-places in
        let v = seconds (take (p / 256 % 256) begins) (take (p / 256 % 256) widths) (taken_alike begins widths (p / 256 % 256) (omega arith) (omega arith)) in
        then_gives last ts (λ ts. record { places = zip (take (p / 256 % 256) begins) (take (p / 256 % 256) widths); transitions = ts }) b
        ∙ sym (transitions-left (zip (take (p / 256 % 256) begins) (take (p / 256 % 256) widths)) a d ∙ rw v)

pub ruleset netting = (rules, place-refused, place-stops, place-ends, placed_end, placed_goes, placed-stops)
