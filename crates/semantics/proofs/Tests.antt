-- What the tests of the definitions say as facts: conjunctions, equality of integers and tuples, ranges, and tests of lists.
-- Each law goes by cases on what the test is defined by. Rests on specs/ alone.
use mathlib.Core.Path.{◌≡◌, refl, sym, ap, ◌∙◌, subst}
use mathlib.Core.Bool.{Bool, true, false, ◌&&◌, ◌||◌, cond, false≢true}
use mathlib.Core.Logic.{◌⊎◌, inl, inr}
use mathlib.Core.List.Memᴰ
use mathlib.Core.List.{List, [], ◌∷◌, Memᴰ}
use borrow.Author.Tests.{eqb-true, eq-eqb}
use lib.IntN.{ℤ, pos, negsuc}
use Rattle.semantics.specs.Lists.{Every, every, cons_if, select}
use Rattle.semantics.specs.Order.{same_integer, same_tuple}

pub false_true : {X : Type 0} → false ≡ true → X
false_true e = absurd (false≢true e)

-- a test is one of the two
pub either : (t : Bool) → (t ≡ true) ⊎ (t ≡ false)
either true = inl refl
either false = inr refl

pub not_both : (t : Bool) → t ≡ true → t ≡ false → ⊥
not_both t p q = false_true (sym q ∙ p)

-- a test that cannot pass fails
pub fails : (t : Bool) → (t ≡ true → ⊥) → t ≡ false
fails true f = absurd (f refl)
fails false f = refl

pub and_left : (a b : Bool) → (a && b) ≡ true → a ≡ true
and_left true b e = refl
and_left false b e = e

pub and_right : (a b : Bool) → (a && b) ≡ true → b ≡ true
and_right true b e = e
and_right false b e = false_true e

pub and_both : (a b : Bool) → a ≡ true → b ≡ true → (a && b) ≡ true
and_both a b p q = ap (λ (t : Bool). t && b) p ∙ q

pub or_cases : (a b : Bool) → (a || b) ≡ true → (a ≡ true) ⊎ (b ≡ true)
or_cases true b e = inl refl
or_cases false b e = inr e

pub or_left : (a b : Bool) → a ≡ true → (a || b) ≡ true
or_left a b p = ap (λ (t : Bool). t || b) p

pub or_right : (a b : Bool) → b ≡ true → (a || b) ≡ true
or_right true b p = refl
or_right false b p = p

-- two tests are the same where each passes if the other does
pub same_test : (a b : Bool) → (a ≡ true → b ≡ true) → (b ≡ true → a ≡ true) → a ≡ b
same_test true b f g = sym (f refl)
same_test false true f g = g refl
same_test false false f g = refl

pub cond_true : {A : Type 0} (t : Bool) (x y : A) → t ≡ true → cond t x y ≡ x
cond_true t x y e = ap (λ (s : Bool). cond s x y) e

pub cond_false : {A : Type 0} (t : Bool) (x y : A) → t ≡ false → cond t x y ≡ y
cond_false t x y e = ap (λ (s : Bool). cond s x y) e

-- ── Equal integers and tuples ──

pub integer_same : (x y : ℤ) → same_integer x y ≡ true → x ≡ y
unfolding same_integer
integer_same (pos a) (pos b) e = ap pos (eqb-true a b e)
integer_same (pos a) (negsuc b) e = false_true e
integer_same (negsuc a) (pos b) e = false_true e
integer_same (negsuc a) (negsuc b) e = ap negsuc (eqb-true a b e)

pub integer_refl : (x : ℤ) → same_integer x x ≡ true
unfolding same_integer
integer_refl (pos a) = eq-eqb a a refl
integer_refl (negsuc a) = eq-eqb a a refl

pub tuple_same : (xs ys : List ℤ) → same_tuple xs ys ≡ true → xs ≡ ys
unfolding same_tuple
tuple_same [] [] e = refl
tuple_same [] (y ∷ ys) e = false_true e
tuple_same (x ∷ xs) [] e = false_true e
tuple_same (x ∷ xs) (y ∷ ys) e =
    let p = integer_same x y (and_left (same_integer x y) (same_tuple xs ys) e) in
    let q = tuple_same xs ys (and_right (same_integer x y) (same_tuple xs ys) e) in
    ap (λ (z : ℤ). z ∷ xs) p ∙ ap (λ (zs : List ℤ). y ∷ zs) q

pub tuple_refl : (xs : List ℤ) → same_tuple xs xs ≡ true
unfolding same_tuple
tuple_refl [] = refl
tuple_refl (x ∷ xs) = and_both (same_integer x x) (same_tuple xs xs) (integer_refl x) (tuple_refl xs)

-- ── Tests of lists ──

module _ {A : Type 0} (p : A → Bool) where
  pub every_at : {x : A} {xs : List A} → every p xs ≡ true → Memᴰ x xs → p x ≡ true
  unfolding every
  every_at e (Memᴰ.head {x = y} {xs = ys} q) = ap p q ∙ and_left (p y) (every p ys) e
  every_at e (Memᴰ.tail {x = y} {xs = ys} k) = every_at (and_right (p y) (every p ys) e) k

  pub every_of : (xs : List A) → ((x : A) → Memᴰ x xs → p x ≡ true) → every p xs ≡ true
  unfolding every
  every_of [] f = refl
  every_of (x ∷ xs) f = and_both (p x) (every p xs) (f x (Memᴰ.head refl)) (every_of xs (λ y k. f y (Memᴰ.tail k)))

  cons_if_in : (t : Bool) (x y : A) (xs : List A) → Memᴰ y (cons_if t x xs) → ((y ≡ x) × (t ≡ true)) ⊎ Memᴰ y xs
  cons_if_in true x y xs (Memᴰ.head q) = inl (q, refl)
  cons_if_in true x y xs (Memᴰ.tail k) = inr k
  cons_if_in false x y xs k = inr k

  cons_if-head : (t : Bool) (x : A) (xs : List A) → t ≡ true → Memᴰ x (cons_if t x xs)
  cons_if-head true x xs e = Memᴰ.head refl
  cons_if-head false x xs e = false_true e

  cons_if_tail : (t : Bool) (x y : A) (xs : List A) → Memᴰ y xs → Memᴰ y (cons_if t x xs)
  cons_if_tail true x y xs k = Memᴰ.tail k
  cons_if_tail false x y xs k = k

  -- a member of those selected is a member that passes, and the other way round
  pub selected : (xs : List A) {x : A} → Memᴰ x (select p xs) → Memᴰ x xs × (p x ≡ true)
  unfolding select
  selected [] k = absurd (Memᴰ.not-nil k)
  selected (y ∷ ys) {x} k = by (λ j. selected ys j) (cons_if_in (p y) y x (select p ys) k)
    where
      by : (Memᴰ x (select p ys) → Memᴰ x ys × (p x ≡ true)) → ((x ≡ y) × (p y ≡ true)) ⊎ Memᴰ x (select p ys) → Memᴰ x (y ∷ ys) × (p x ≡ true)
      by f (inl h) = (Memᴰ.head h.0, ap p h.0 ∙ h.1)
      by f (inr h) = (Memᴰ.tail (f h).0, (f h).1)

  pub select_in : {x : A} {xs : List A} → Memᴰ x xs → p x ≡ true → Memᴰ x (select p xs)
  unfolding select
  select_in (Memᴰ.head {x = y} {xs = ys} q) e = Memᴰ.cast q (cons_if-head (p y) y (select p ys) (ap p (sym q) ∙ e))
  select_in {x = z} (Memᴰ.tail {x = y} {xs = ys} k) e = cons_if_tail (p y) y z (select p ys) (select_in k e)

-- a property of every member, by membership
module _ {A : Type 0} (P : A → Type 0) where
  pub Every-at : {x : A} {xs : List A} → Every P xs → Memᴰ x xs → P x
  Every-at e (Memᴰ.head q) = subst P (sym q) e.0
  Every-at e (Memᴰ.tail k) = Every-at e.1 k

  pub Every-of : (xs : List A) → ((x : A) → Memᴰ x xs → P x) → Every P xs
  Every-of [] f = tt
  Every-of (x ∷ xs) f = (f x (Memᴰ.head refl), Every-of xs (λ y k. f y (Memᴰ.tail k)))

-- a list that fails a test has a member that fails it
pub every_fails : {A : Type 0} (p : A → Bool) (xs : List A) → every p xs ≡ false → (x : A) × Memᴰ x xs × (p x ≡ false)
unfolding every
every_fails p [] e = false_true (sym e)
every_fails {A} p (x ∷ xs) e = by (every_fails p xs) (either (p x))
  where
    by : (every p xs ≡ false → (y : A) × Memᴰ y xs × (p y ≡ false)) → (p x ≡ true) ⊎ (p x ≡ false) → (y : A) × Memᴰ y (x ∷ xs) × (p y ≡ false)
    by later (inl q) = let h = later (ap (λ (t : Bool). t && every p xs) (sym q) ∙ e) in (h.0, Memᴰ.tail h.1, h.2)
    by later (inr q) = (x, Memᴰ.head refl, q)

-- a test that is sound or complete for a property is so for every member
module _ {A : Type 0} (p : A → Bool) (P : A → Type 0) (xs : List A) where
  pub every_sound : ((x : A) → p x ≡ true → P x) → every p xs ≡ true → Every P xs
  every_sound f e = Every-of P xs (λ x k. f x (every_at p e k))

  pub every_complete : ((x : A) → P x → p x ≡ true) → Every P xs → every p xs ≡ true
  every_complete f e = every_of p xs (λ x k. f x (Every-at P e k))
