-- The rules of passing over values: what is still ahead is what was ahead at first; each turn takes one word and one range.
use mathlib.Core.Path.{◌≡◌, refl, sym, ap, ◌∙◌}
use Prim.Native.Nat.{ℕ, suc, ◌+◌, ◌-◌, ◌≤◌, ◌<◌, ◌%◌, ◌^◌}
use mathlib.Core.Bool.{Bool, true, false}
use mathlib.Core.List.{List, ◌∷◌}
use borrow.Author.Tests.{lt-ltb}
use native.Mathlib.Omega.{arith}
use lib.IntN.{ℤ}
use lib.ListN.{length, get_or}
use Rattle.semantics.specs.Refusal.{bad_word}
use Rattle.semantics.specs.Word.{signed, Range, within}
use Rattle.semantics.specs.Reading.{Reading, read, refused, then, demand, word, values_in}
use Rattle.word.specs.Fields.{range_word}
use Rattle.expression.specs.Skip.{forget}
use Rattle.semantics.specs.declared.refusal.Refusal.{Refusal}
use Rattle.semantics.specs.Answer.{refusing}
use Rattle.std.specs.Prelude.{Ok, Err}
use Rattle.kinds.specs.Taken.{fits_kind, IsTaken}
use Rattle.net.proofs.Structures.{stricter}
use Rattle.net.specs.Places.{ranges_from}
use Rattle.semantics.proofs.Spans.{value_in}
use Rattle.colours.specs.Code.{of_digit}

-- a VALUE word in a range, told from a word of that kind
value-word : (ws : List ℕ) (r : Range) (at : ℕ) → word ws 0xC (value_in r) at ≡ then (word ws 0xC (fits_kind 0xC) at) (λ p next. demand (value_in r p) at (read p next))
unfolding fits_kind
value-word ws r at = stricter ws 0xC (fits_kind 0xC) (value_in r) (λ p. refl) at

-- the test of the bits, then the digit in the range
pub value-digit : (p range d : ℕ) {t : Bool} → p < 16384 → of_digit d ≡ signed (p % 16384) → t ≡ within (range_word range) (of_digit d) → t ≡ value_in (range_word range) p
value-digit p range d h e g =
    let s : p % 16384 ≡ p = omega arith in
    rw (lt-ltb p (2 ^ 14) h) (g ∙ ap (within (range_word range)) (e ∙ ap signed s))

forget_cons : (z : ℤ) (x : Reading (List ℤ)) → forget (then x (λ vs next. read (z ∷ vs) next)) ≡ forget x
forget_cons z (read vs next) = refl
forget_cons z (refused n p) = refl

module _ (ws : List ℕ) (r : Range) (rs : List Range) (at : ℕ) where
  values-refused : {e : Refusal} → IsTaken ws at 0xC (Err e) → forget (values_in ws (r ∷ rs) at) ≡ refusing e
  unfolding values_in
  values-refused w = rw (value-word ws r at, ← w.same) refl

  module _ {p : ℕ} (w : IsTaken ws at 0xC (Ok p)) where
    values_unfit : false ≡ value_in r p → forget (values_in ws (r ∷ rs) at) ≡ refused bad_word at
    unfolding values_in
    values_unfit h = rw (value-word ws r at, ← w.same, ← h) refl

    values-fit : true ≡ value_in r p → forget (values_in ws (r ∷ rs) at) ≡ forget (values_in ws rs (at + 1))
    unfolding values_in
    values-fit h = rw (value-word ws r at, ← w.same, ← h) (forget_cons (signed p) (values_in ws rs (at + 1)))

-- i of n values are passed
pub record Passing (ws nws : List ℕ) (n from at i : ℕ) : Type 0 where
  pub inside : i ≤ n
  pub reached : 0 < i → at + i ≤ length ws
  pub same : forget (values_in ws (ranges_from nws (n - i) (from + i)) (at + i)) ≡ forget (values_in ws (ranges_from nws n from) at)

pub passing_start : (ws nws : List ℕ) (n from at : ℕ) → Passing ws nws n from at 0
passing_start ws nws n from at =
    let d : n - 0 ≡ n = omega arith in
    let e : from + 0 ≡ from = omega arith in
    let f : at + 0 ≡ at = omega arith in
    record { inside = omega arith; reached = λ h. absurd (omega arith); same = rw (d, e, f) }

module _ {ws nws : List ℕ} {n from at i : ℕ} (a : Passing ws nws n from at i) where
  pub passing_end : n ≤ i → read tt (at + n) ≡ forget (values_in ws (ranges_from nws n from) at)
  unfolding values_in ranges_from
  passing_end h =
      let l = a.inside in
      let d : n - i ≡ 0 = omega arith in
      let e : i ≡ n = omega arith in
      rw (d, e) at a.same

  module _ (h : i < n) where
    one_more : ranges_from nws (n - i) (from + i) ≡ range_word (get_or nws (from + i) 0) ∷ ranges_from nws (n - (i + 1)) (from + (i + 1))
    unfolding ranges_from
    one_more =
        let d : n - i ≡ suc (n - (i + 1)) = omega arith in
        let e : from + i + 1 ≡ from + (i + 1) = omega arith in
        rw (d, e)

    whole : forget (values_in ws (range_word (get_or nws (from + i) 0) ∷ ranges_from nws (n - (i + 1)) (from + (i + 1))) (at + i)) ≡ forget (values_in ws (ranges_from nws n from) at)
    whole = rw one_more at a.same

    pub passing_refused : {e : Refusal} → IsTaken ws (at + i) 0xC (Err e) → refusing e ≡ forget (values_in ws (ranges_from nws n from) at)
    passing_refused w = sym (values-refused ws _ _ (at + i) w) ∙ whole

    module _ {p : ℕ} (w : IsTaken ws (at + i) 0xC (Ok p)) where
      pub passing_unfit : false ≡ value_in (range_word (get_or nws (from + i) 0)) p → refused bad_word (at + i) ≡ forget (values_in ws (ranges_from nws n from) at)
      passing_unfit f = sym (values_unfit ws _ _ (at + i) w f) ∙ whole

      pub passing_turn : true ≡ value_in (range_word (get_or nws (from + i) 0)) p → Passing ws nws n from at (i + 1)
      passing_turn f =
          let s : at + i + 1 ≡ at + (i + 1) = omega arith in
          let l = w.exists.in_words in
          record { inside = omega arith; reached = λ k. omega arith; same = rw s at (sym (values-fit ws _ _ (at + i) w f) ∙ whole) }
