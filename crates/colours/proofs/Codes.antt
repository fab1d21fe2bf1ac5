-- Codes of colours: a digit stands to another as its value does, and so, digit by digit from the last one on, a code to another of as many
-- digits. A code is built by putting a digit behind it.
use mathlib.Core.Path.{◌≡◌, refl, sym, ap, ◌∙◌, subst}
use mathlib.Core.Logic.{◌⊎◌, inl, inr}
use Prim.Native.Nat.{ℕ, zero, suc, ◌+◌, ◌*◌, ◌-◌, ◌/◌, ◌%◌, ◌≤◌, ◌<◌, ◌^◌}
use mathlib.Core.Bool.{Bool, true, false, ◌&&◌, ◌||◌, and_assoc, and-true}
use mathlib.Core.List.{List, [], ◌∷◌, ◌++◌}
use borrow.Author.Tests.{leb-true, le-leb, lt-leb, ltb-true, ltb-false, eqb-true, eqb-false, lt-ltb, le-ltb, eq-eqb, ne_eqb}
use native.Mathlib.Nat.{pow-suc, pow-le-pow_right}
use native.Mathlib.Omega.{arith}
use lib.Dec.{leb, ltb, eqb}
use lib.IntN.{ℤ}
use lib.Signed.{lt_z, le_z, mag}
use lib.ListN.{length, get_or, length-append}
use Rattle.semantics.specs.Order.{same_integer, same_tuple, before}
use Rattle.semantics.specs.Word.{signed, modulo, value_word}
use Rattle.semantics.proofs.Tests.{either, same_test}
use Rattle.semantics.proofs.Words.{modulo_below, signed-modulo}
use Rattle.colours.specs.Code.{of_digit, coloured, IsCode, IsBehind}
use Rattle.colours.specs.Values.{values_at}

-- ── Digits ──

ltb-same : (a b c d : ℕ) → (a < b → c < d) → (c < d → a < b) → ltb a b ≡ ltb c d
ltb-same a b c d f g = same_test (ltb a b) (ltb c d) (λ t. lt-ltb c d (f (ltb-true a b t))) (λ t. lt-ltb a b (g (ltb-true c d t)))

eqb_same : (a b c d : ℕ) → (a ≡ b → c ≡ d) → (c ≡ d → a ≡ b) → eqb a b ≡ eqb c d
eqb_same a b c d f g = same_test (eqb a b) (eqb c d) (λ t. eq-eqb c d (f (eqb-true a b t))) (λ t. eq-eqb a b (g (eqb-true c d t)))

digit-less : (a b : ℕ) → a < 16384 → b < 16384 → lt_z (of_digit a) (of_digit b) ≡ ltb a b
digit-less a b h k = by (either (ltb a 8192)) (either (ltb b 8192))
  where
    by : (ltb a 8192 ≡ true) ⊎ (ltb a 8192 ≡ false) → (ltb b 8192 ≡ true) ⊎ (ltb b 8192 ≡ false) → lt_z (of_digit a) (of_digit b) ≡ ltb a b
    by (inl p) (inl q) = let l = ltb-true a 8192 p in let m = ltb-true b 8192 q in rw (p, q) (ltb-same (8191 - b) (8191 - a) a b (λ t. omega arith) (λ t. omega arith))
    by (inl p) (inr q) = let l = ltb-true a 8192 p in let m = ltb-false b 8192 q in rw (p, q) (sym (lt-ltb a b (omega arith)))
    by (inr p) (inl q) = let l = ltb-false a 8192 p in let m = ltb-true b 8192 q in rw (p, q) (sym (le-ltb a b (omega arith)))
    by (inr p) (inr q) = let l = ltb-false a 8192 p in let m = ltb-false b 8192 q in rw (p, q) (ltb-same (a - 8192) (b - 8192) a b (λ t. omega arith) (λ t. omega arith))

leb-same : (a b c d : ℕ) → (a ≤ b → c ≤ d) → (c ≤ d → a ≤ b) → leb a b ≡ leb c d
leb-same a b c d f g = same_test (leb a b) (leb c d) (λ t. le-leb c d (f (leb-true a b t))) (λ t. le-leb a b (g (leb-true c d t)))

pub digit_at_most : (a b : ℕ) → a < 16384 → b < 16384 → le_z (of_digit a) (of_digit b) ≡ leb a b
digit_at_most a b h k = by (either (ltb a 8192)) (either (ltb b 8192))
  where
    by : (ltb a 8192 ≡ true) ⊎ (ltb a 8192 ≡ false) → (ltb b 8192 ≡ true) ⊎ (ltb b 8192 ≡ false) → le_z (of_digit a) (of_digit b) ≡ leb a b
    by (inl p) (inl q) = let l = ltb-true a 8192 p in let m = ltb-true b 8192 q in rw (p, q) (leb-same (8191 - b) (8191 - a) a b (λ t. omega arith) (λ t. omega arith))
    by (inl p) (inr q) = let l = ltb-true a 8192 p in let m = ltb-false b 8192 q in rw (p, q) (sym (le-leb a b (omega arith)))
    by (inr p) (inl q) = let l = ltb-false a 8192 p in let m = ltb-true b 8192 q in rw (p, q) (sym (lt-leb a b (omega arith)))
    by (inr p) (inr q) = let l = ltb-false a 8192 p in let m = ltb-false b 8192 q in rw (p, q) (leb-same (a - 8192) (b - 8192) a b (λ t. omega arith) (λ t. omega arith))

digit-same : (a b : ℕ) → a < 16384 → b < 16384 → same_integer (of_digit a) (of_digit b) ≡ eqb a b
unfolding same_integer
digit-same a b h k = by (either (ltb a 8192)) (either (ltb b 8192))
  where
    by : (ltb a 8192 ≡ true) ⊎ (ltb a 8192 ≡ false) → (ltb b 8192 ≡ true) ⊎ (ltb b 8192 ≡ false) → same_integer (of_digit a) (of_digit b) ≡ eqb a b
    by (inl p) (inl q) = let l = ltb-true a 8192 p in let m = ltb-true b 8192 q in rw (p, q) (eqb_same (8191 - a) (8191 - b) a b (λ t. omega arith) (λ t. omega arith))
    by (inl p) (inr q) = let l = ltb-true a 8192 p in let m = ltb-false b 8192 q in rw (p, q) (sym (ne_eqb a b (λ t. omega arith)))
    by (inr p) (inl q) = let l = ltb-false a 8192 p in let m = ltb-true b 8192 q in rw (p, q) (sym (ne_eqb a b (λ t. omega arith)))
    by (inr p) (inr q) = let l = ltb-false a 8192 p in let m = ltb-false b 8192 q in rw (p, q) (eqb_same (a - 8192) (b - 8192) a b (λ t. omega arith) (λ t. omega arith))

-- the digit of a value of 14 bits
pub digit-signed : (u : ℕ) → u < 16384 → of_digit ((u + 8192) % 16384) ≡ signed u
digit-signed u h = by (either (ltb u 8192))
  where
    by : (ltb u 8192 ≡ true) ⊎ (ltb u 8192 ≡ false) → of_digit ((u + 8192) % 16384) ≡ signed u
    by (inl p) =
        let l = ltb-true u 8192 p in
        let e : (u + 8192) % 16384 ≡ u + 8192 = omega arith in
        let d : u + 8192 - 8192 ≡ u = omega arith in
        rw (e, p, le-ltb (u + 8192) 8192 (omega arith), d)
    by (inr p) =
        let l = ltb-false u 8192 p in
        let e : (u + 8192) % 16384 ≡ u - 8192 = omega arith in
        let d : 8191 - (u - 8192) ≡ 16383 - u = omega arith in
        rw (e, p, lt-ltb (u - 8192) 8192 (omega arith), d)

-- ── One component more ──

or_last : (l s : Bool) → (l || (s && false)) ≡ l
or_last true s = refl
or_last false true = refl
or_last false false = refl

or_more : (l s b t u : Bool) → (l || (s && (b || (t && u)))) ≡ ((l || (s && b)) || ((s && t) && u))
or_more true s b t u = refl
or_more false true b t u = refl
or_more false false b t u = refl

before-behind : (xs ys : List ℤ) (x y : ℤ) → length xs ≡ length ys → before (xs ++ (x ∷ [])) (ys ++ (y ∷ [])) ≡ (before xs ys || (same_tuple xs ys && lt_z x y))
unfolding before same_tuple
before-behind [] [] x y e = or_last (lt_z x y) (same_integer x y)
before-behind [] (b ∷ ys) x y e = absurd (omega arith)
before-behind (a ∷ xs) [] x y e = absurd (omega arith)
before-behind (a ∷ xs) (b ∷ ys) x y e = rw (before-behind xs ys x y (omega arith)) (or_more (lt_z a b) (same_integer a b) (before xs ys) (same_tuple xs ys) (lt_z x y))

same-behind : (xs ys : List ℤ) (x y : ℤ) → length xs ≡ length ys → same_tuple (xs ++ (x ∷ [])) (ys ++ (y ∷ [])) ≡ (same_tuple xs ys && same_integer x y)
unfolding same_tuple
same-behind [] [] x y e = and-true (same_integer x y)
same-behind [] (b ∷ ys) x y e = absurd (omega arith)
same-behind (a ∷ xs) [] x y e = absurd (omega arith)
same-behind (a ∷ xs) (b ∷ ys) x y e = rw (same-behind xs ys x y (omega arith)) (sym (and_assoc (same_integer a b) (same_tuple xs ys) (same_integer x y)))

-- ── Codes ──

pub coloured-length : (n code : ℕ) → length (coloured n code) ≡ n
unfolding coloured
coloured-length zero code = refl
coloured-length (suc n) code =
    let h = coloured-length n (code / 16384) in
    let k = length-append (coloured n (code / 16384)) (of_digit (code % 16384) ∷ []) in
    omega arith

both_wide : (n a b : ℕ) → length (coloured n a) ≡ length (coloured n b)
both_wide n a b = coloured-length n a ∙ sym (coloured-length n b)

-- "same_tuple" of colours is equality of codes
pub code_same : (n a b : ℕ) → a < 16384 ^ n → b < 16384 ^ n → same_tuple (coloured n a) (coloured n b) ≡ eqb a b
unfolding coloured same_tuple
code_same zero a b h k = sym (eq-eqb a b (omega arith))
code_same (suc n) a b h k =
    let p : a / 16384 < 16384 ^ n = omega (arith, pow-suc 16384 n) in
    let q : b / 16384 < 16384 ^ n = omega (arith, pow-suc 16384 n) in
    rw (same-behind (coloured n (a / 16384)) (coloured n (b / 16384)) (of_digit (a % 16384)) (of_digit (b % 16384)) (both_wide n (a / 16384) (b / 16384)), code_same n (a / 16384) (b / 16384) p q, digit-same (a % 16384) (b % 16384) (omega arith) (omega arith)) (digits (either (eqb (a / 16384) (b / 16384))))
  where
    digits : (eqb (a / 16384) (b / 16384) ≡ true) ⊎ (eqb (a / 16384) (b / 16384) ≡ false) → (eqb (a / 16384) (b / 16384) && eqb (a % 16384) (b % 16384)) ≡ eqb a b
    digits (inl t) = let e = eqb-true (a / 16384) (b / 16384) t in rw t (eqb_same (a % 16384) (b % 16384) a b (λ d. omega arith) (λ d. omega arith))
    digits (inr t) = rw t (sym (ne_eqb a b (λ e. eqb-false (a / 16384) (b / 16384) t (omega arith))))

-- the order of colours is that of codes
pub code_before : (n a b : ℕ) → a < 16384 ^ n → b < 16384 ^ n → before (coloured n a) (coloured n b) ≡ ltb a b
unfolding coloured before
code_before zero a b h k = sym (le-ltb a b (omega arith))
code_before (suc n) a b h k =
    let p : a / 16384 < 16384 ^ n = omega (arith, pow-suc 16384 n) in
    let q : b / 16384 < 16384 ^ n = omega (arith, pow-suc 16384 n) in
    rw (before-behind (coloured n (a / 16384)) (coloured n (b / 16384)) (of_digit (a % 16384)) (of_digit (b % 16384)) (both_wide n (a / 16384) (b / 16384)), code_before n (a / 16384) (b / 16384) p q, code_same n (a / 16384) (b / 16384) p q, digit-less (a % 16384) (b % 16384) (omega arith) (omega arith)) (digits (either (ltb (a / 16384) (b / 16384))) (either (eqb (a / 16384) (b / 16384))))
  where
    digits : (ltb (a / 16384) (b / 16384) ≡ true) ⊎ (ltb (a / 16384) (b / 16384) ≡ false) → (eqb (a / 16384) (b / 16384) ≡ true) ⊎ (eqb (a / 16384) (b / 16384) ≡ false) → (ltb (a / 16384) (b / 16384) || (eqb (a / 16384) (b / 16384) && ltb (a % 16384) (b % 16384))) ≡ ltb a b
    digits (inl t) s = let l = ltb-true (a / 16384) (b / 16384) t in rw t (sym (lt-ltb a b (omega arith)))
    digits (inr t) (inl s) = let e = eqb-true (a / 16384) (b / 16384) s in rw (t, s) (ltb-same (a % 16384) (b % 16384) a b (λ d. omega arith) (λ d. omega arith))
    digits (inr t) (inr s) =
        let l = ltb-false (a / 16384) (b / 16384) t in
        rw (t, s) (sym (le-ltb a b (below (either (ltb a b)))))
      where
        below : (ltb a b ≡ true) ⊎ (ltb a b ≡ false) → b ≤ a
        below (inl u) = let m = ltb-true a b u in absurd (eqb-false (a / 16384) (b / 16384) s (omega (arith, ltb-false (a / 16384) (b / 16384) t)))
        below (inr u) = ltb-false a b u

-- ── Building a code ──

-- no component
pub code_start : IsCode 0 [] 0
unfolding coloured
code_start = record { same = refl; small = omega arith }

-- a digit put behind a code
pub code_behind : {n : ℕ} {c : List ℤ} {code : ℕ} → IsCode n c code → (d : ℕ) (z : ℤ) → d < 16384 → of_digit d ≡ z → IsCode (suc n) (c ++ (z ∷ [])) (code * 16384 + d)
unfolding coloured
code_behind {n} {c} {code} x d z h e =
    let s = x.small in
    let p : (code * 16384 + d) / 16384 ≡ code = omega arith in
    let q : (code * 16384 + d) % 16384 ≡ d = omega arith in
    record { same = rw (p, q, x.same, e); small = omega (arith, pow-suc 16384 n) }

-- a code of at most three digits has room for one more, and one of four for a place above it
pub code_room : (n code : ℕ) → n ≤ 3 → code < 16384 ^ n → code < 2 ^ 42
code_room n code h s = let p = pow-le-pow_right {n = 16384} (omega arith) h in omega arith

pub code_below : (n code : ℕ) → n ≤ 4 → code < 16384 ^ n → code < 2 ^ 56
code_below n code h s = let p = pow-le-pow_right {n = 16384} (omega arith) h in omega arith

-- the digit of a value's word
pub value_back : (z : ℤ) → mag z < 8192 → signed (value_word z % 16384) ≡ z
value_back z h =
    let b = modulo_below z in
    let e : value_word z % 16384 ≡ modulo z (2 ^ 14) = omega arith in
    ap signed e ∙ signed-modulo z h

-- ── Codes of words ──

values-behind : (ws : List ℕ) (n at : ℕ) → values_at ws n at ++ (signed (get_or ws (at + n) 0 % 16384) ∷ []) ≡ values_at ws (suc n) at
unfolding values_at
values-behind ws zero at = let e : at + 0 ≡ at = omega arith in rw e
values-behind ws (suc n) at =
    let e : at + suc n ≡ at + 1 + n = omega arith in
    rw e (ap (λ (l : List ℤ). signed (get_or ws at 0 % 16384) ∷ l) (values-behind ws n (at + 1)))

-- the digit of a word put behind a code
pub word-behind : (code : ℕ) {w d : ℕ} → of_digit d ≡ signed (w % 16384) → d < 16384 → IsBehind code w (code * 16384 + d)
word-behind code {w} {d} e h = record { behind = λ x. code_behind x d (signed (w % 16384)) h e }

-- the code of no word, and of one word more
pub code_none : (ws : List ℕ) (at : ℕ) → IsCode 0 (values_at ws 0 at) 0
unfolding values_at
code_none ws at = code_start

pub code_more : (ws : List ℕ) (n at : ℕ) {code r : ℕ} → IsCode n (values_at ws n at) code → IsBehind code (get_or ws (at + n) 0) r → IsCode (suc n) (values_at ws (suc n) at) r
code_more ws n at {r = r} x b = subst (λ (c : List ℤ). IsCode (suc n) c r) (values-behind ws n at) (b.behind x)

pub code_all : (ws : List ℕ) (k at : ℕ) {n r : ℕ} → n ≡ k → IsCode k (values_at ws k at) r → IsCode n (values_at ws n at) r
code_all ws k at {r = r} e x = rw e x

pub code_one : (ws : List ℕ) (at : ℕ) {r : ℕ} → IsBehind 0 (get_or ws at 0) r → IsCode 1 (values_at ws 1 at) r
code_one ws at {r} b =
    let e : at ≡ at + 0 = omega arith in
    code_more ws 0 at (code_none ws at) (subst (λ (k : ℕ). IsBehind 0 (get_or ws k 0) r) e b)

-- of two words and more, by that of each put behind
module _ (ws : List ℕ) (at : ℕ) {one two : ℕ} (a : IsBehind 0 (get_or ws at 0) one) (b : IsBehind one (get_or ws (at + 1) 0) two) where
  pub code_two : IsCode 2 (values_at ws 2 at) two
  code_two = code_more ws 1 at (code_one ws at a) b

  module _ {three : ℕ} (c : IsBehind two (get_or ws (at + 2) 0) three) where
    pub code_three : IsCode 3 (values_at ws 3 at) three
    code_three = code_more ws 2 at code_two c

    pub code_four : {r : ℕ} → IsBehind three (get_or ws (at + 3) 0) r → IsCode 4 (values_at ws 4 at) r
    code_four d = code_more ws 3 at code_three d

-- a code of words against another of as many digits
pub coded-before : {n : ℕ} {c : List ℤ} {a : ℕ} (b : ℕ) → IsCode n c a → b < 16384 ^ n → ltb a b ≡ before c (coloured n b)
coded-before {n} {c} {a} b x h = sym (code_before n a b x.small h) ∙ ap (λ (l : List ℤ). before l (coloured n b)) x.same

pub coded-after : {n : ℕ} {c : List ℤ} {a : ℕ} (b : ℕ) → IsCode n c a → b < 16384 ^ n → ltb b a ≡ before (coloured n b) c
coded-after {n} {c} {a} b x h = sym (code_before n b a h x.small) ∙ ap (λ (l : List ℤ). before (coloured n b) l) x.same
