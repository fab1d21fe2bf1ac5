-- The rules of heads: what a word is as the first of an expression, from its kind and its other bits. Each is one arm of the code.
use mathlib.Core.Path.{◌≡◌, refl, sym}
use mathlib.Core.List.{List}
use Prim.Native.Nat.{ℕ, zero, suc, ◌+◌, ◌-◌, ◌%◌, ◌≤◌, ◌<◌}
use native.Mathlib.Omega.{arith}
use borrow.Author.Rules.{rules}
use borrow.Author.Tests.{lt-ltb, le-ltb, le-leb, lt-leb, ne_eqb}
use lib.IntN.{ℤ}
use lib.ListN.{length, get_or}
use Rattle.semantics.specs.Refusal.{most_expression_words}
use Rattle.semantics.specs.Word.{kind, payload, signed}
use Rattle.semantics.specs.Reading.{read, then, word_at}
use Rattle.semantics.specs.ReadNet.{binary_head, operator_head, head_of, head_at, operands, expression_in}
use Rattle.word.specs.Operator.{operator_of}
use Rattle.std.specs.Prelude.{Result, Ok, Err}
use Rattle.semantics.specs.declared.refusal.Refusal.{Refusal}
use Rattle.semantics.specs.declared.refusal.Refusal.TheVariants.{NetTooLong, NetEndsEarly, BadWord}
use Rattle.expression.specs.declared.head.Head.{Head}
use Rattle.expression.specs.declared.head.Head.TheVariants.{Constant, Variable, Binary, Load}
use Rattle.expression.specs.Head.{head, Onward, InRange, HeadOnward, IsWord, IsHead}

-- ── One word ──

-- the codes below 4 are those of the operators of two operands
operator : (k at next : ℕ) → k < 4 → operator_head k at next ≡ read (binary_head (operator_of k)) next
unfolding operator_head
operator zero at next h = refl
operator (suc zero) at next h = refl
operator (suc (suc zero)) at next h = refl
operator (suc (suc (suc zero))) at next h = refl
operator (suc (suc (suc (suc k)))) at next h = absurd (omega arith)

module _ {w variables at k u : ℕ} (e : k ≡ kind w) (d : u ≡ payload w) where
  pub constant-word : {z : ℤ} → k ≡ 7 → u < 16384 → z ≡ signed (w % 16384) → IsWord w variables at (Ok (Constant z))
  unfolding head_of
  constant-word s i f =
      let p : payload w ≡ w % 16384 = omega arith in
      record { same = rw (← e, s, f, p, lt-ltb (w % 16384) 16384 (omega arith)); in_range = tt }

  pub variable-word : k ≡ 8 → u < variables → IsWord w variables at (Ok (Variable u))
  unfolding head_of
  variable-word s i = record { same = rw (← e, s, ← d, lt-ltb u variables i); in_range = i }

  pub binary-word : k ≡ 9 → u < 4 → IsWord w variables at (Ok (Binary u))
  unfolding head_of
  binary-word s i = record { same = rw (← e, s, ← d) (sym (operator u at (at + 1) i)); in_range = tt }

  pub load_word : k ≡ 9 → u ≡ 4 → IsWord w variables at (Ok Load)
  unfolding head_of operator_head
  load_word s i = record { same = rw (← e, s, ← d, i); in_range = tt }

  pub stray_constant : k ≡ 7 → 16384 ≤ u → IsWord w variables at (Err (BadWord at))
  unfolding head_of
  stray_constant s i = record { same = rw (← e, s, ← d, le-ltb u 16384 i); in_range = tt }

  pub missing_variable : k ≡ 8 → variables ≤ u → IsWord w variables at (Err (BadWord at))
  unfolding head_of
  missing_variable s i = record { same = rw (← e, s, ← d, le-ltb u variables i); in_range = tt }

  pub unknown_operator : k ≡ 9 → 4 ≤ u → (u ≡ 4 → ⊥) → IsWord w variables at (Err (BadWord at))
  unfolding head_of operator_head
  unknown_operator s i n =
      record {
        same = rw (← e, s, ← d, ne_eqb u 0 (λ q. omega arith), ne_eqb u 1 (λ q. omega arith), ne_eqb u 2 (λ q. omega arith), ne_eqb u 3 (λ q. omega arith), ne_eqb u 4 n);
        in_range = tt;
      }

  pub other_word : (k ≡ 7 → ⊥) → (k ≡ 8 → ⊥) → (k ≡ 9 → ⊥) → IsWord w variables at (Err (BadWord at))
  unfolding head_of
  other_word a b c = record { same = rw (← e, ne_eqb k 7 a, ne_eqb k 8 b, ne_eqb k 9 c); in_range = tt }

pub ruleset words = (rules, constant-word, variable-word, binary-word, load_word, stray_constant, missing_variable, unknown_operator, other_word)

-- ── The word at a position ──

-- one word onward, where there is one
one_word : (ws : List ℕ) (at left : ℕ) (r : Result Head Refusal) → at < length ws → at < 16384 → (left ≡ 0 → ⊥) → HeadOnward ws at left r
one_word ws at left (Ok t) h l i = record { later = omega arith; same_end = omega arith; in_words = omega arith; in_limit = omega arith }
one_word ws at left (Err e) h l i = tt

module _ {ws : List ℕ} {variables at left : ℕ} where
  pub words-end : length ws ≤ at → IsHead ws variables at left (Err (NetEndsEarly (length ws)))
  unfolding head_at word_at
  words-end h = record { same = rw (le-leb (length ws) at h); in_range = tt; onward = tt }

  pub too_many : at < length ws → 16384 ≤ at → IsHead ws variables at left (Err (NetTooLong 16384))
  unfolding head_at word_at
  too_many h l = record { same = rw (lt-leb (length ws) at h, le-leb 16384 at l); in_range = tt; onward = tt }

  pub sixteenth : at < length ws → at < 16384 → left ≡ 0 → IsHead ws variables at left (Err (BadWord at))
  unfolding head_at word_at
  sixteenth h l z =
      record { same = rw (lt-leb (length ws) at h, lt-leb 16384 at l, le-ltb at (at + left) (omega arith)); in_range = tt; onward = tt }

  pub taken : {r : Result Head Refusal} → at < length ws → at < 16384 → (left ≡ 0 → ⊥) → IsWord (get_or ws at 0) variables at r → IsHead ws variables at left r
  unfolding head_at word_at
  taken {r} h l z x =
      record {
        same = rw (lt-leb (length ws) at h, lt-leb 16384 at l, lt-ltb at (at + left) (omega arith)) x.same;
        in_range = x.in_range;
        onward = one_word ws at left r h l z;
      }

pub ruleset heads = (rules, words-end, too_many, sixteenth, taken)

-- a constant or a variable as the first word of its expression, fifteen words being left
module _ {ws : List ℕ} {variables at k u : ℕ} (h : at < length ws) (l : at < 16384) (e : k ≡ kind (get_or ws at 0)) (d : u ≡ payload (get_or ws at 0)) where
  pub constant-read : {z : ℤ} → k ≡ 7 → u < 16384 → z ≡ signed (get_or ws at 0 % 16384) → IsHead ws variables at most_expression_words (Ok (Constant z))
  constant-read s j f = taken h l (λ q. omega arith) (constant-word e d s j f)

  pub constant_stray : k ≡ 7 → 16384 ≤ u → IsHead ws variables at most_expression_words (Err (BadWord at))
  constant_stray s j = taken h l (λ q. omega arith) (stray_constant e d s j)

  pub variable-read : k ≡ 8 → u < variables → IsHead ws variables at most_expression_words (Ok (Variable u))
  variable-read s j = taken h l (λ q. omega arith) (variable-word e d s j)

  pub variable_missing : k ≡ 8 → variables ≤ u → IsHead ws variables at most_expression_words (Err (BadWord at))
  variable_missing s j = taken h l (λ q. omega arith) (missing_variable e d s j)

-- ── An expression by its head ──

pub onward-more : {ws : List ℕ} {at left a l b m : ℕ} → Onward ws at left a l → Onward ws a l b m → Onward ws at left b m
onward-more p q = record { later = omega arith; same_end = omega arith; in_words = q.in_words; in_limit = q.in_limit }

module _ {ws : List ℕ} {variables at left : ℕ} {t u : Result Head Refusal} (x : IsHead ws variables at left t) (e : t ≡ u) where
  pub head-onward : HeadOnward ws at left u
  head-onward = rw e at x.onward

  -- the operands, by one round less
  pub headed : (rounds stop : ℕ) → left < rounds → at + left ≡ stop → expression_in rounds ws variables stop at ≡ then (head at u) (operands (expression_in (rounds - 1) ws variables stop))
  unfolding expression_in
  headed zero stop h s = absurd (omega arith)
  headed (suc n) stop h s =
      let p : suc n - 1 ≡ n = omega arith in
      rw (p, ← s, ← e, x.same)

module _ {ws : List ℕ} {variables at left : ℕ} {t : Result Head Refusal} (x : IsHead ws variables at left t) where
  -- a variable is one that there is
  pub in_range : {n : ℕ} → t ≡ Ok (Variable n) → n < variables
  in_range e = rw e at x.in_range

  -- the words behind a head are fewer by one; m is the measure
  pub head-falls : {u : Head} {m : ℕ} → t ≡ Ok u → left ≡ m → left - 1 < m
  head-falls e d = let q : Onward ws at left (at + 1) (left - 1) = head-onward x e in omega arith
