-- The rules of reading one entry: its word's tests, then its values in the ranges of its place. What is read stands in the words: its
-- values are those of the words after its TOKEN.
use mathlib.Core.Path.{◌≡◌, refl, sym, ap, ◌∙◌}
use Prim.Native.Nat.{ℕ, suc, ◌+◌, ◌≤◌, ◌<◌, ◌/◌, ◌%◌, ◌^◌}
use mathlib.Core.Bool.{true, false}
use mathlib.Core.List.{List, [], ◌∷◌}
use borrow.Author.Tests.{ltb-true}
use native.Mathlib.Omega.{arith}
use lib.IntN.{ℤ}
use lib.ListN.{length, get_or}
use Rattle.semantics.specs.Refusal.{bad_word}
use Rattle.semantics.specs.Word.{kind, payload, bits, only, signed, Range, within}
use Rattle.semantics.specs.Reading.{Reading, read, refused, then, demand, word, values_in}
use Rattle.semantics.specs.Marking.{read_entry}
use Rattle.semantics.proofs.Tests.{and_left}
use Rattle.semantics.proofs.Spans.{Span, then-read, read_same, word_read, value_in, drop-first}
use Rattle.expression.specs.Skip.{forget, skipped}
use Rattle.semantics.specs.declared.refusal.Refusal.{Refusal}
use Rattle.semantics.specs.Answer.{refusing}
use Rattle.std.specs.Prelude.{Result, Ok, Err}
use Rattle.kinds.specs.Taken.{fits_kind, IsTaken}
use Rattle.net.specs.Skim.{changed}
use Rattle.net.specs.Places.{ranges_from, width_at, places_at}
use Rattle.net.proofs.Placed.{places-length, ranges_at_lem}
use Rattle.net.proofs.Structures.{stricter}
use Rattle.colours.specs.Values.{values_at}
use Rattle.semantics.proofs.ReadEntries.{token_in, token_parts}
use Rattle.marking.specs.Marked.{entry_place}

-- a TOKEN word that passes names a place
pub token_in_lem : {places : ℕ} (w : ℕ) → true ≡ token_in places w → w / 16384 % 256 < places
token_in_lem {places} w s = (token_parts places w (sym s)).1

-- ── Values in words ──

-- the values that are read stand in the words
pub record Values (ws : List ℕ) (at n : ℕ) (c : List ℤ) (next : ℕ) : Type 0 where
  pub same : c ≡ values_at ws n at
  pub after : next ≡ at + n
  pub inside : at ≤ length ws → next ≤ length ws

pub values-stand : (ws : List ℕ) (rs : List Range) (at : ℕ) (c : List ℤ) (next : ℕ) → values_in ws rs at ≡ read c next → Values ws at (length rs) c next
unfolding values_in values_at
values-stand ws [] at c next e =
    let s = read_same [] c at next e in
    let n = s.1 in
    record { same = sym s.0; after = omega arith; inside = λ h. omega arith }
values-stand ws (r ∷ rs) at c next e =
    then-read (word ws 0xC (value_in r) at) (λ v mid. then (values_in ws rs mid) (λ vs last. read (signed v ∷ vs) last)) c next e λ v mid p q.
    then-read (values_in ws rs mid) (λ vs last. read (signed v ∷ vs) last) c next q λ vs last p' q'.
    by v mid vs last (word_read ws 0xC (value_in r) at v mid p) (values-stand ws rs mid vs last p') (read_same (signed v ∷ vs) c last next q')
  where
    by : (v mid : ℕ) (vs : List ℤ) (last : ℕ) → (w : ℕ) × Span ws at (w ∷ []) mid × (kind w ≡ 0xC) × (payload w ≡ v) × (value_in r v ≡ true) → Values ws mid (length rs) vs last → (signed v ∷ vs ≡ c) × (last ≡ next) → Values ws at (suc (length rs)) c next
    by v mid vs last (w, sp, k, f, o) g s =
        let d = drop-first ws at w _ sp.split in
        let a = sp.after in
        let b = g.after in
        let n = s.1 in
        let h = ltb-true v (2 ^ 14) (and_left (only 14 v) (within r (signed v)) o) in
        let m : mid ≡ at + 1 = omega arith in
        let z : get_or ws at 0 % 16384 ≡ v = omega (arith, d.1, f) in
        record {
          same = sym s.0 ∙ rw (z, ← m) (ap (λ (l : List ℤ). signed v ∷ l) g.same);
          after = omega arith;
          inside = λ i. let j = g.inside (sp.inside i) in omega arith;
        }

-- ── An entry ──

module _ (nws ats ws : List ℕ) (at : ℕ) where
  token_word_lem : word ws 0xB (token_in (length (places_at nws ats))) at ≡ then (word ws 0xB (fits_kind 0xB) at) (λ p next. demand (token_in (length ats) p) at (read p next))
  unfolding fits_kind
  token_word_lem = rw (places-length nws ats) (stricter ws 0xB (fits_kind 0xB) (token_in (length ats)) (λ p. refl) at)

  pub entry_refused : {e : Refusal} → IsTaken ws at 0xB (Err e) → refusing e ≡ changed entry_place (read_entry (places_at nws ats) ws at)
  unfolding read_entry
  entry_refused w = rw (token_word_lem, ← w.same) refl

  module _ {p : ℕ} (w : IsTaken ws at 0xB (Ok p)) where
    pub entry_unfit : false ≡ token_in (length ats) p → refused bad_word at ≡ changed entry_place (read_entry (places_at nws ats) ws at)
    unfolding read_entry
    entry_unfit d = rw (token_word_lem, ← w.same, ← d) refl

    module _ (d : true ≡ token_in (length ats) p) where
      entry_rest : changed entry_place (read_entry (places_at nws ats) ws at) ≡ changed (λ u. p / 16384 % 256) (forget (values_in ws (ranges_from nws (width_at nws (get_or ats (p / 16384 % 256) 0)) (get_or ats (p / 16384 % 256) 0 + 1)) (at + 1)))
      unfolding read_entry
      entry_rest = rw (token_word_lem, ← w.same, ← d, ranges_at_lem nws ats (p / 16384 % 256) (token_in_lem p d)) (by (values_in ws (ranges_from nws (width_at nws (get_or ats (p / 16384 % 256) 0)) (get_or ats (p / 16384 % 256) 0 + 1)) (at + 1)))
        where
          by : (x : Reading (List ℤ)) → changed entry_place (then x (λ c last. read (record { place = bits 14 21 p; count = bits 0 13 p; colour = c }) last)) ≡ changed (λ u. p / 16384 % 256) (forget x)
          by (read c next) = refl
          by (refused n q) = refl

      -- what the reader of its values answers
      pub entry_told : {n : ℕ} (r : Result ℕ Refusal) → n ≡ width_at nws (get_or ats (p / 16384 % 256) 0) → skipped r ≡ forget (values_in ws (ranges_from nws n (get_or ats (p / 16384 % 256) 0 + 1)) (at + 1))
          → changed (λ u. p / 16384 % 256) (skipped r) ≡ changed entry_place (read_entry (places_at nws ats) ws at)
      entry_told r k v = ap (changed (λ u. p / 16384 % 256)) (rw k at v) ∙ sym entry_rest
