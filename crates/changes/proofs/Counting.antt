-- The rules of the count of one key.
use mathlib.Core.Path.{◌≡◌, refl, sym, ap, ◌∙◌}
use mathlib.Core.Logic.{◌⊎◌, inl, inr}
use mathlib.Core.Bool.{Bool, true, false, cond}
use mathlib.Core.List.{List}
use Prim.Native.Nat.{ℕ, zero, suc, ◌+◌, ◌-◌, ◌≤◌, ◌<◌}
use borrow.Author.Tests.{ne_eqb, leb-true, le-leb, lt-leb}
use Rattle.std.specs.Prelude.{Option, Some, None}
use native.Mathlib.Omega.{arith}
use lib.Dec.{leb, eqb}
use lib.IntN.{ℤ}
use lib.ListN.{length, length-map}
use Rattle.semantics.specs.Refusal.{most_count}
use Rattle.semantics.specs.Word.{value_word}
use Rattle.semantics.specs.Marking.{Entry, key, counts_of, entry_words}
use Rattle.semantics.proofs.Tests.{either}
use Rattle.net.specs.Places.{places_at}
use Rattle.net.proofs.Placed.{places-length}
use Rattle.counts.specs.declared.find.Spot.{Spot}
use Rattle.counts.specs.Counts.{IsSpot}
use Rattle.marking.specs.Marked.{position_of}
use Rattle.colours.proofs.Codes.{coloured-length}
use Rattle.arcs.specs.Keys.{key_place, key_code, width_of, key_colour, KeyFits}
use Rattle.occurrence.proofs.Covering.{key-width}
use Rattle.patch.specs.Patch.{Change}
use Rattle.changes.specs.Changes.{within_limit, entry_size, changed_count, Sees, IsChanged, IsChange}

-- ── One count ──

pub count-over : (n : ℕ) → most_count < n → None ≡ within_limit n
count-over n h = rw (lt-leb n most_count h)

pub count-inside : (n k : ℕ) → k ≡ n → n ≤ most_count → Some k ≡ within_limit n
count-inside n k e h = rw (e, le-leb n most_count h)

-- a count that is told is within the limit, and one that is not passes it
limit_some : (n : ℕ) {k : ℕ} → Some k ≡ within_limit n → (k ≡ n) × (n ≤ most_count)
limit_some n {k} e = by (either (leb n most_count))
  where
    by : (leb n most_count ≡ true) ⊎ (leb n most_count ≡ false) → (k ≡ n) × (n ≤ most_count)
    by (inl t) = let d : Some k ≡ Some n = rw t at e in (cc, leb-true n most_count t)
    by (inr t) = let d : Some k ≡ None = rw t at e in cc

limit_none : (n : ℕ) → None ≡ within_limit n → leb n most_count ≡ false
limit_none n e = by (either (leb n most_count))
  where
    by : (leb n most_count ≡ true) ⊎ (leb n most_count ≡ false) → leb n most_count ≡ false
    by (inl t) = let d : None ≡ Some n = rw t at e in cc
    by (inr t) = t

size-short : (count n : ℕ) → n ≤ 4 → entry_size count n ≤ 5
size-short count n h = by (eqb count 0)
  where
    by : (t : Bool) → cond t 0 (1 + n) ≤ 5
    by true = omega arith
    by false = omega arith

entry_size_lem : (p : ℕ) (c : List ℤ) (count : ℕ) → entry_size count (length c) ≡ length (entry_words p c count)
unfolding entry_words
entry_size_lem p c zero = refl
entry_size_lem p c (suc n) = let l = length-map c value_word in rw (ne_eqb (suc n) 0 (λ e. omega arith)) (omega arith)

-- the components of a key's colour are those of its place
key-wide : (ws ps : List ℕ) (k : ℕ) {width : ℕ} → width ≡ width_of ws ps (key_place k) → width ≡ length (key_colour ws ps k)
key-wide ws ps k w = w ∙ sym (coloured-length (width_of ws ps (key_place k)) (key_code k))

pub key-size : (ws ps : List ℕ) (k count : ℕ) {width size : ℕ} → width ≡ width_of ws ps (key_place k) → size ≡ entry_size count width → size ≡ length (entry_words (key_place k) (key_colour ws ps k) count)
key-size ws ps k count w e = e ∙ ap (entry_size count) (key-wide ws ps k w) ∙ entry_size_lem (key_place k) (key_colour ws ps k) count

-- ── One change ──

module _ {ws ps ms begins : List ℕ} {k : ℕ} (x : KeyFits ws ps k) {s : Spot} (f : IsSpot ms begins (key_place k) (key_colour ws ps k) s) {width : ℕ} (w : width ≡ width_of ws ps (key_place k)) (narrow : width ≤ 4) where
  found : (es : List Entry) → Sees ws ps ms begins es → (s.at ≡ position_of es (key (key_place k) (key_colour ws ps k))) × (s.count ≡ counts_of es (key_place k) (key_colour ws ps k))
  found es v = f.found (places_at ws ps) es v.next v.marked v.begun (rw (places-length ws ps) x.there) (key-width x)

  after_is : (es : List Entry) (taken made : ℕ) → Sees ws ps ms begins es → s.count - taken + made ≡ changed_count ws ps es k taken made
  after_is es taken made v = ap (λ (z : ℕ). z - taken + made) (found es v).1

  pub unchanged : (taken made : ℕ) → None ≡ within_limit (s.count - taken + made) → IsChange ws ps ms begins k taken made None
  unchanged taken made e = λ es v. rw (← after_is es taken made v) (limit_none (s.count - taken + made) e)

  pub changed : {taken made count old new : ℕ} → Some count ≡ within_limit (s.count - taken + made) → old ≡ entry_size s.count width → new ≡ entry_size count width → IsChanged ws ps ms begins k taken made (record { at = s.at; old = old; count = count; new = new })
  changed {taken} {made} {count} {old} {new} c o e =
      let l = limit_some (s.count - taken + made) c in
      record {
        within = λ es v. rw (← after_is es taken made v) (le-leb _ most_count l.1);
        told = λ es v.
            ap (λ (z : ℕ). change z s.at old) (l.0 ∙ after_is es taken made v)
            ∙ ap (λ (z : ℕ). change (changed_count ws ps es k taken made) z old) (found es v).0
            ∙ ap (change (changed_count ws ps es k taken made) (position_of es (key (key_place k) (key_colour ws ps k)))) (size es v);
        new = key-size ws ps k count w e;
        small = omega arith;
        old-short = rw o (size-short s.count width narrow);
        new-short = rw e (size-short count width narrow);
      }
    where
      change : ℕ → ℕ → ℕ → Change
      change z a b = record { place = key_place k; colour = key_colour ws ps k; count = z; at = a; old = b }

      size : (es : List Entry) → Sees ws ps ms begins es → old ≡ entry_size (counts_of es (key_place k) (key_colour ws ps k)) (length (key_colour ws ps k))
      size es v = o ∙ ap (λ (z : ℕ). entry_size z width) (found es v).1 ∙ ap (entry_size (counts_of es (key_place k) (key_colour ws ps k))) (key-wide ws ps k w)
