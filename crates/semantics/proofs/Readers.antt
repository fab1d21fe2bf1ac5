-- What readers guarantee: a reader reads what has a property, it never goes back, and it passes neither the end of the words nor 16,384
-- words.
-- One law for each way of making a reader, so that the law of a structure is written as its reader is, line by line.
-- Rests on Tests.
use mathlib.Core.Path.{◌≡◌, refl, ap, subst}
use mathlib.Core.Bool.{Bool, true, false, cond, ◌&&◌}
use mathlib.Core.List.{List}
use Prim.Native.Nat.{ℕ, zero, suc, ◌≤◌}
use native.Mathlib.Omega.{arith}
use borrow.Author.Tests.{leb-false}
use lib.Dec.{leb, eqb}
use lib.ListN.{length}
use Rattle.semantics.specs.Refusal.{most_words}
use Rattle.semantics.specs.Lists.{Every}
use Rattle.semantics.specs.Word.{kind, payload}
use Rattle.semantics.specs.Reading.{Reading, read, refused, then, Reader, several, demand, word_at, word}
use Rattle.semantics.proofs.Tests.{and_right}

-- ── Readings ──

-- a reading is refused, or what it reads and the position after it have a property
pub data Gives {A : Type 0} (P : A → ℕ → Type 0) : Reading A → Type 0 where
  gives : {a : A} {next : ℕ} → P a next → Gives P (read a next)
  refusal : {n p : ℕ} → Gives P (refused n p)

module _ {A : Type 0} {P : A → ℕ → Type 0} where
  held : {a : A} {next : ℕ} → Gives P (read a next) → P a next
  held (gives h) = h

  pub given : {x : Reading A} {a : A} {next : ℕ} → Gives P x → x ≡ read a next → P a next
  given g e = held (subst (Gives P) e g)

  pub then_gives : {B : Type 0} {Q : B → ℕ → Type 0} {x : Reading A} {k : A → ℕ → Reading B} → Gives P x → ((a : A) (next : ℕ) → P a next → Gives Q (k a next)) → Gives Q (then x k)
  then_gives (gives h) f = f _ _ h
  then_gives refusal f = refusal

  pub demand_gives : {x : Reading A} (t : Bool) (p : ℕ) → (t ≡ true → Gives P x) → Gives P (demand t p x)
  demand_gives true p f = f refl
  demand_gives false p f = refusal

  pub cond_gives : {x y : Reading A} (t : Bool) → (t ≡ true → Gives P x) → (t ≡ false → Gives P y) → Gives P (cond t x y)
  cond_gives true f g = f refl
  cond_gives false f g = g refl

  pub weaken : {Q : A → ℕ → Type 0} {x : Reading A} → ((a : A) (next : ℕ) → P a next → Q a next) → Gives P x → Gives Q x
  weaken f (gives h) = gives (f _ _ h)
  weaken f refusal = refusal

-- a reading that gives something is what it gives
pub as_read : {A : Type 0} (x : Reading A) → Gives (λ a next. x ≡ read a next) x
as_read (read a next) = gives refl
as_read (refused n p) = refusal

-- ── Readers ──

-- a position in the words, or at their end
pub record Inside (ws : List ℕ) (at : ℕ) : Type 0 where
  pub in_words : at ≤ length ws
  pub in_limit : at ≤ most_words

-- what a reading from a position reads has a property; it does not go back, and from inside the words it leads to inside the words
abbrev pub ReadsFrom : {A : Type 0} → List ℕ → (A → Type 0) → ℕ → Reading A → Type 0
ReadsFrom ws P at x = Gives (λ a next. P a × (at ≤ next) × (Inside ws at → Inside ws next)) x

-- so does a reader from every position
abbrev pub Reads : {A : Type 0} → List ℕ → (A → Type 0) → Reader A → Type 0
Reads ws P r = (at : ℕ) → ReadsFrom ws P at (r at)

module _ {ws : List ℕ} where
  -- nothing more is read
  pub done : {A : Type 0} {P : A → Type 0} {at : ℕ} {a : A} → P a → ReadsFrom ws P at (read a at)
  done {at} h = gives {next = at} (h, omega arith, λ i. i)

  -- a reader, and what comes after it
  pub after : {A B : Type 0} {P : A → Type 0} {Q : B → Type 0} {at : ℕ} {r : Reader A} {k : A → Reader B} → Reads ws P r → ((a : A) (mid : ℕ) → P a → ReadsFrom ws Q mid (k a mid)) → ReadsFrom ws Q at (then (r at) k)
  after {at} l f = then_gives (l at) (λ a mid h. weaken (λ b next q. (q.0, omega arith, λ i. q.2 (h.2 i))) (f a mid h.0))

  pub several-reads : {A : Type 0} {P : A → Type 0} {r : Reader A} (n : ℕ) → Reads ws P r → Reads ws (λ xs. (length xs ≡ n) × Every P xs) (several n r)
  unfolding several
  several-reads zero l at = done (refl, tt)
  several-reads (suc n) l at = after l λ a mid h. after (several-reads n l) λ as' next hs. done (ap suc hs.0, (h, hs.1))

module _ (ws : List ℕ) where
  pub word_at-reads : Reads ws (λ w. Unit {0}) (word_at ws)
  unfolding word_at
  word_at-reads at =
      cond_gives (leb (length ws) at) (λ e. refusal) λ e.
      cond_gives (leb most_words at) (λ f. refusal) λ f.
      gives (tt, omega arith, λ i. record { in_words = omega (arith, leb-false (length ws) at e); in_limit = omega (arith, leb-false most_words at f) })

  pub word-reads : (k : ℕ) (ok : ℕ → Bool) → Reads ws (λ v. ok v ≡ true) (word ws k ok)
  unfolding word
  word-reads k ok at =
      after word_at-reads λ w next _.
      demand_gives (eqb (kind w) k && ok (payload w)) at λ e.
      done (and_right (eqb (kind w) k) (ok (payload w)) e)
