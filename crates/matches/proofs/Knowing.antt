-- What is known on arrival decides a match: where a colour has another value than a component wants, the match fails. The idea: a component binds at
-- most a variable that had no value, so what a component wants is wanted still when its turn comes; or one before it has failed already.
use mathlib.Core.Path.{◌≡◌, refl, sym, ap, ◌∙◌}
use mathlib.Core.Logic.{◌⊎◌, inl, inr}
use mathlib.Core.Bool.{Bool, true, false, cond}
use mathlib.Core.List.{List, [], ◌∷◌}
use mathlib.Core.Option.{Option, none, some, bind}
use Prim.Native.Nat.{ℕ, zero, suc, ◌+◌, ◌*◌, ◌%◌, ◌^◌, ◌<◌}
use native.Mathlib.Omega.{arith}
use borrow.Author.Tests.{eqb-true, eqb-false}
use lib.Dec.{eqb}
use lib.IntN.{ℤ, pos}
use lib.ListN.{length, get_or, set, take, replicate}
use lib.Seq.{get_or-take, get_or-set_same, get_or-set_other}
use Rattle.semantics.specs.Word.{kind, payload, signed, Range, value_word}
use Rattle.semantics.specs.Expression.{variable, given}
use Rattle.semantics.specs.Order.{same_integer}
use Rattle.semantics.specs.Tries.{Partial, partly, agree, matched}
use Rattle.semantics.proofs.Tests.{either, integer_same}
use Rattle.semantics.proofs.Members.{none-some, replicate-same}
use Rattle.semantics.proofs.Words.{value_again}
use Rattle.semantics.proofs.Extending.{Extends, matched_extends}
use Rattle.colours.specs.Values.{values_at}
use Rattle.colours.proofs.Comparing.{values_at_lem}
use Rattle.tries.specs.Partial.{partial_of}
use Rattle.matches.specs.Met.{part_try, matched_by}
use Rattle.matches.specs.Known.{wanted, IsKnown, Knows, Differs}

-- ── Values of 14 bits ──

value_back : (a : ℕ) → a < 16384 → value_word (signed a) ≡ 0xC * 2 ^ 28 + a
value_back a h =
    let p : payload (0xC * 2 ^ 28 + a) ≡ a = omega arith in
    ap (λ (u : ℕ). value_word (signed u)) (sym p) ∙ value_again (0xC * 2 ^ 28 + a) (omega arith) (omega arith)

signed_once : (a b : ℕ) → a < 16384 → b < 16384 → signed a ≡ signed b → a ≡ b
signed_once a b h k e =
    let f : 0xC * 2 ^ 28 + a ≡ 0xC * 2 ^ 28 + b = sym (value_back a h) ∙ ap value_word e ∙ value_back b k in
    omega arith

other-value : (a b : ℕ) → (a % 16384 ≡ b % 16384 → ⊥) → same_integer (signed (b % 16384)) (signed (a % 16384)) ≡ false
other-value a b h = by (either (same_integer (signed (b % 16384)) (signed (a % 16384))))
  where
    by : (same_integer (signed (b % 16384)) (signed (a % 16384)) ≡ true) ⊎ (same_integer (signed (b % 16384)) (signed (a % 16384)) ≡ false) → same_integer (signed (b % 16384)) (signed (a % 16384)) ≡ false
    by (inl e) = absurd (h (sym (signed_once (b % 16384) (a % 16384) (omega arith) (omega arith) (integer_same (signed (b % 16384)) (signed (a % 16384)) e))))
    by (inr e) = e

-- ── A component leaves the values that are there ──

same_extends : (u : Bool) (p q : Partial) → given u p ≡ some q → Extends (partly p) (partly q)
same_extends true p q h = let e : p ≡ q = cc in λ n y f. rw (← e) f
same_extends false p q h = none-some h

-- a component that is a variable alone is a match of one component
part_extends : (ranges : List Range) (w : ℕ) (z : ℤ) (p q : Partial) → part_try ranges w z p ≡ some q → Extends (partly p) (partly q)
unfolding matched bind
part_extends ranges w z p q = by (eqb (kind w) 7) (eqb (kind w) 8)
  where
    by : (s t : Bool) → cond s (given (same_integer (signed (w % 16384)) z) p) (cond t (agree ranges p (payload w) (partly p (payload w)) z) (some p)) ≡ some q → Extends (partly p) (partly q)
    by true t h = same_extends (same_integer (signed (w % 16384)) z) p q h
    by false true h = matched_extends ranges (variable (payload w) ∷ []) (z ∷ []) p q (rw h)
    by false false h = same_extends true p q h

wanted_extends : (p q : Partial) → Extends (partly p) (partly q) → (w : ℕ) (y : ℤ) → wanted p w ≡ some y → wanted q w ≡ some y
wanted_extends p q f w y = by (eqb (kind w) 7) (eqb (kind w) 8)
  where
    by : (s t : Bool) → cond s (some (signed (w % 16384))) (cond t (partly p (payload w)) none) ≡ some y → cond s (some (signed (w % 16384))) (cond t (partly q (payload w)) none) ≡ some y
    by true t h = h
    by false true h = f (payload w) y h
    by false false h = h

-- ── A component that wants another value ──

part_fails : (ranges : List Range) (w : ℕ) (z : ℤ) (p : Partial) (y : ℤ) → wanted p w ≡ some y → same_integer y z ≡ false → part_try ranges w z p ≡ none
part_fails ranges w z p y e d = by (eqb (kind w) 7) (eqb (kind w) 8) e
  where
    by : (s t : Bool) → cond s (some (signed (w % 16384))) (cond t (partly p (payload w)) none) ≡ some y → cond s (given (same_integer (signed (w % 16384)) z) p) (cond t (agree ranges p (payload w) (partly p (payload w)) z) (some p)) ≡ none
    by true t h = let f : signed (w % 16384) ≡ y = cc in rw (f, d)
    by false true h = rw (h, d)
    by false false h = none-some h

wanted_fails : (ranges : List Range) (ws : List ℕ) (zs : List ℤ) (p : Partial) (i : ℕ) (y : ℤ) → wanted p (get_or ws i 0) ≡ some y → same_integer y (get_or zs i (pos 0)) ≡ false → matched_by ranges ws zs p ≡ none
unfolding matched_by bind
wanted_fails ranges [] zs p i y e d = none-some e
wanted_fails ranges (w ∷ ws) [] p i y e d = refl
wanted_fails ranges (w ∷ ws) (z ∷ zs) p zero y e d = ap (λ (o : Option Partial). bind o (matched_by ranges ws zs)) (part_fails ranges w z p y e d)
wanted_fails ranges (w ∷ ws) (z ∷ zs) p (suc i) y e d = by (part_try ranges w z p) refl (λ q. wanted_fails ranges ws zs q i y)
  where
    by : (o : Option Partial) → part_try ranges w z p ≡ o → ((q : Partial) → wanted q (get_or ws i 0) ≡ some y → same_integer y (get_or zs i (pos 0)) ≡ false → matched_by ranges ws zs q ≡ none) → bind o (matched_by ranges ws zs) ≡ none
    by none f k = refl
    by (some q) f k = k q (wanted_extends p q (part_extends ranges w z p q f) (get_or ws i 0) y e) d

pub differs_fails : {v : ℕ} {b parts known ms : List ℕ} {at width : ℕ} (ranges : List Range) → Knows v b parts known → Differs ms at width known → none ≡ matched_by ranges (take width parts) (values_at ms width at) (partial_of v b)
differs_fails {v} {b} {parts} {known} {ms} {at} {width} ranges k d =
    let i = d.component in
    sym
    (wanted_fails ranges (take width parts) (values_at ms width at) (partial_of v b) i (signed (get_or known i 0 % 16384)) (rw (get_or-take width parts i 0 d.inside) ((k.each i).right d.told))
    (rw (values_at_lem ms width at i d.inside) (other-value (get_or ms (at + i) 0) (get_or known i 0) d.other)))

-- ── What is known ──

pub known-not : {o : Option ℤ} → IsKnown o 0
known-not = record { right = λ h. absurd (h refl) }

-- ── Of each component ──

pub knows_nothing : (v : ℕ) (b parts : List ℕ) (n : ℕ) → Knows v b parts (replicate n 0)
knows_nothing v b parts n = record { each = λ i. rw (replicate-same {A = ℕ} n i 0) known-not }

pub knows_more : {v : ℕ} {b parts known : List ℕ} {k : ℕ} (i : ℕ) → i < length known → Knows v b parts known → IsKnown (wanted (partial_of v b) (get_or parts i 0)) k → Knows v b parts (set known i k)
knows_more {v} {b} {parts} {known} {k} i h f g = record { each = λ j. by j (either (eqb j i)) }
  where
    by : (j : ℕ) → (eqb j i ≡ true) ⊎ (eqb j i ≡ false) → IsKnown (wanted (partial_of v b) (get_or parts j 0)) (get_or (set known i k) j 0)
    by j (inl e) = let s = eqb-true j i e in rw (s, get_or-set_same known i k 0 h) g
    by j (inr e) = rw (get_or-set_other known i j k 0 (eqb-false j i e)) (f.each j)
