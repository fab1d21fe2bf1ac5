-- Members of lists by their number: a number below the length has a member, and a member has a number. What every member has, of two lists one
-- after the other.
-- Each law goes by the list. Rests on specs/Lists.
use mathlib.Core.Path.{◌≡◌, refl, sym, ap, ◌∙◌, subst}
use mathlib.Core.List.{List, [], ◌∷◌, ◌++◌, map, Memᴰ}
use mathlib.Core.Option
use mathlib.Core.Option.{Option, none, some}
use Prim.Native.Nat.{ℕ, zero, suc, ◌≤◌, ◌<◌}
use native.Mathlib.Nat.{le_of_suc-le-suc, not-suc-le-zero}
use native.Mathlib.Omega.{arith}
use lib.ListN.{length, get_or, get_elem?, replicate}
use Rattle.semantics.specs.Lists.{Every}

module _ {A : Type 0} where
  pub none-some : {a : A} {X : Type 0} → ◌≡◌ {A = Option A} none (some a) → X
  none-some e = let z : ◌≡◌ {A = ℕ} 0 1 = cc in absurd (omega arith)

  pub at_length : (l : List A) (n : ℕ) (a : A) → get_elem? l n ≡ some a → n < length l
  at_length [] n a e = none-some e
  at_length (x ∷ xs) zero a e = omega arith
  at_length (x ∷ xs) (suc n) a e = let h = at_length xs n a e in omega arith

  pub length_at : (l : List A) (n : ℕ) → n < length l → (a : A) × (get_elem? l n ≡ some a)
  length_at [] n h = absurd (not-suc-le-zero h)
  length_at (x ∷ xs) zero h = (x, refl)
  length_at (x ∷ xs) (suc n) h = length_at xs n (le_of_suc-le-suc h)

  pub at_member_lem : (l : List A) (n : ℕ) (a : A) → get_elem? l n ≡ some a → Memᴰ a l
  at_member_lem [] n a e = none-some e
  at_member_lem (x ∷ xs) zero a e = let q : a ≡ x = cc in Memᴰ.head q
  at_member_lem (x ∷ xs) (suc n) a e = Memᴰ.tail (at_member_lem xs n a e)

  pub member_at : {x : A} {xs : List A} → Memᴰ x xs → (i : ℕ) × (get_elem? xs i ≡ some x)
  member_at (Memᴰ.head e) = (zero, ap some (sym e))
  member_at (Memᴰ.tail k) = let r = member_at k in (suc r.0, r.1)

  pub past_elem : (l : List A) (i : ℕ) → length l ≤ i → get_elem? l i ≡ none
  past_elem [] i h = refl
  past_elem (x ∷ xs) zero h = absurd (omega arith)
  past_elem (x ∷ xs) (suc i) h = past_elem xs i (omega arith)

  pub elem_number : (l : List A) (i : ℕ) (d : A) → i < length l → get_elem? l i ≡ some (get_or l i d)
  elem_number [] i d h = absurd (omega arith)
  elem_number (x ∷ xs) zero d h = refl
  elem_number (x ∷ xs) (suc i) d h = elem_number xs i d (omega arith)

  pub number-member : (l : List A) (i : ℕ) (d a : A) → i < length l → get_or l i d ≡ a → Memᴰ a l
  number-member l i d a h e = at_member_lem l i a (elem_number l i d h ∙ ap some e)

  -- what every member has, the one of a number has
  module _ (P : A → Type 0) where
    pub every_elem : (l : List A) (i : ℕ) (a : A) → Every P l → get_elem? l i ≡ some a → P a
    every_elem [] i a e h = none-some h
    every_elem (x ∷ xs) zero a e h = let q : x ≡ a = cc in subst P q e.0
    every_elem (x ∷ xs) (suc i) a e h = every_elem xs i a e.1 h

    pub every-number : (l : List A) (i : ℕ) (d : A) → Every P l → i < length l → P (get_or l i d)
    every-number [] i d e h = absurd (omega arith)
    every-number (x ∷ xs) zero d e h = e.0
    every-number (x ∷ xs) (suc i) d e h = every-number xs i d e.1 (omega arith)

    pub every-left : (xs ys : List A) → Every P (xs ++ ys) → Every P xs
    every-left [] ys e = tt
    every-left (x ∷ xs) ys e = (e.0, every-left xs ys e.1)

    pub every-right : (xs ys : List A) → Every P (xs ++ ys) → Every P ys
    every-right [] ys e = e
    every-right (x ∷ xs) ys e = every-right xs ys e.1

    pub every_both : (xs ys : List A) → Every P xs → Every P ys → Every P (xs ++ ys)
    every_both [] ys e f = f
    every_both (x ∷ xs) ys e f = (e.0, every_both xs ys e.1 f)

    pub every_snoc : (l : List A) (a : A) → Every P l → P a → Every P (l ++ (a ∷ []))
    every_snoc l a e h = every_both l (a ∷ []) e (h, tt)

pub map_at : {A B : Type 0} (f : A → B) (l : List A) (n : ℕ) → get_elem? (map f l) n ≡ Option.map f (get_elem? l n)
map_at f [] n = refl
map_at f (x ∷ xs) zero = refl
map_at f (x ∷ xs) (suc n) = map_at f xs n

-- a member of a mapped list, whatever stands for one that is not there
pub map_elem : {A B : Type 0} (f : A → B) (l : List A) (n : ℕ) (a : A) (d : B) → get_elem? l n ≡ some a → get_or (map f l) n d ≡ f a
map_elem f [] n a d e = none-some e
map_elem f (x ∷ xs) zero a d e = let q : x ≡ a = cc in ap f q
map_elem f (x ∷ xs) (suc n) a d e = map_elem f xs n a d e

pub map-number : {A B : Type 0} (f : A → B) (l : List A) (n : ℕ) (c : A) (d : B) → n < length l → get_or (map f l) n d ≡ f (get_or l n c)
map-number f l n c d h = map_elem f l n (get_or l n c) d (elem_number l n c h)

-- past the end stands what stands before it
pub replicate-same : {A : Type 0} (n i : ℕ) (a : A) → get_or (replicate n a) i a ≡ a
replicate-same zero i a = refl
replicate-same (suc n) zero a = refl
replicate-same (suc n) (suc i) a = replicate-same n i a
