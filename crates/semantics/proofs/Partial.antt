-- Partial bindings: what setting a variable does, which variables are bound, and when an expression has its value already.
-- A partial binding agrees with a full one where it has the same values; it tracks the variables that a plan has bound so far.
use mathlib.Core.Path.{◌≡◌, refl, sym, ap, ◌∙◌}
use mathlib.Core.Logic.{◌⊎◌, inl, inr}
use mathlib.Core.Bool.{Bool, true, false, ◌||◌}
use mathlib.Core.List.{List, [], ◌∷◌, ◌++◌, map}
use mathlib.Core.Option.{Option, none, some}
use Prim.Native.Nat.{ℕ, zero, suc, ◌<◌}
use native.Mathlib.Omega.{arith}
use native.Mathlib.Nat.{not-suc-le-zero}
use borrow.Author.Tests.{eqb-true, eqb-false}
use lib.Dec.{eqb}
use lib.IntN.{ℤ}
use lib.ListN.{length, get_or, get_elem?, set, replicate}
use lib.Seq.{get_or-set_same, get_or-set_other}
use Rattle.semantics.specs.Word.{Range, within}
use Rattle.semantics.specs.Expression.{Expression, constant, variable, binary, load, value, bound, every_variable}
use Rattle.semantics.specs.Order.{in_ranges}
use Rattle.semantics.specs.Plan.{member, every_below}
use Rattle.semantics.specs.Tries.{Partial, partly, present, is_bound_in}
use Rattle.semantics.proofs.Members.{none-some, replicate-same}
use Rattle.semantics.proofs.Tests.{false_true, either, and_left, and_right}

-- ── Variables bound so far ──

pub member_append : (xs ys : List ℕ) (n : ℕ) → member (xs ++ ys) n ≡ (member xs n || member ys n)
unfolding member
member_append [] ys n = refl
member_append (x ∷ xs) ys n = by (eqb x n) (member_append xs ys n)
  where
    by : (t : Bool) → member (xs ++ ys) n ≡ (member xs n || member ys n) → (t || member (xs ++ ys) n) ≡ ((t || member xs n) || member ys n)
    by true e = refl
    by false e = e

pub every_below_at : (n : ℕ) (p : ℕ → Bool) → every_below n p ≡ true → (k : ℕ) → k < n → p k ≡ true
unfolding every_below
every_below_at zero p e k h = absurd (not-suc-le-zero h)
every_below_at (suc n) p e k h = by (either (eqb k n)) (λ l. every_below_at n p (and_right (p n) (every_below n p) e) k l)
  where
    by : (eqb k n ≡ true) ⊎ (eqb k n ≡ false) → (k < n → p k ≡ true) → p k ≡ true
    by (inl q) f = rw (eqb-true k n q) (and_left (p n) (every_below n p) e)
    by (inr q) f = let d = eqb-false k n q in f (omega arith)

-- ── Bindings in range ──

pub range_length : (rs : List Range) (b : List ℤ) → in_ranges rs b ≡ true → length b ≡ length rs
unfolding in_ranges
range_length [] [] e = refl
range_length [] (z ∷ zs) e = false_true e
range_length (r ∷ rs) [] e = false_true e
range_length (r ∷ rs) (z ∷ zs) e = ap suc (range_length rs zs (and_right (within r z) (in_ranges rs zs) e))

pub range_at : (rs : List Range) (b : List ℤ) → in_ranges rs b ≡ true → (n : ℕ) (z : ℤ) → get_elem? b n ≡ some z → (r : Range) × (get_elem? rs n ≡ some r) × (within r z ≡ true)
unfolding in_ranges
range_at [] [] e n z h = none-some h
range_at [] (y ∷ ys) e n z h = false_true e
range_at (r ∷ rs) [] e n z h = false_true e
range_at (r ∷ rs) (y ∷ ys) e zero z h =
    let q : y ≡ z = cc in
    (r, refl, rw (← q) (and_left (within r y) (in_ranges rs ys) e))
range_at (r ∷ rs) (y ∷ ys) e (suc n) z h = range_at rs ys (and_right (within r y) (in_ranges rs ys) e) n z h

-- ── A variable set ──

pub bound-set : (p : Partial) (n : ℕ) (z : ℤ) → n < length p → (k : ℕ) → is_bound_in (set p n (some z)) k ≡ (eqb n k || is_bound_in p k)
bound-set p n z h k = by (either (eqb n k))
  where
    by : (eqb n k ≡ true) ⊎ (eqb n k ≡ false) → is_bound_in (set p n (some z)) k ≡ (eqb n k || is_bound_in p k)
    by (inl e) = rw (e, ← eqb-true n k e, get_or-set_same p n (some z) none h)
    by (inr e) = rw (e, get_or-set_other p n k (some z) none (λ q. eqb-false n k e (sym q)))

-- what was bound in a set partial binding is the new value or an old one
pub set_cases : (p : Partial) (n : ℕ) (z : ℤ) (k : ℕ) (y : ℤ) → n < length p → partly (set p n (some z)) k ≡ some y → ((k ≡ n) × (y ≡ z)) ⊎ (partly p k ≡ some y)
set_cases p n z k y h e = by (either (eqb n k))
  where
    by : (eqb n k ≡ true) ⊎ (eqb n k ≡ false) → ((k ≡ n) × (y ≡ z)) ⊎ (partly p k ≡ some y)
    by (inl q) =
        let f : some z ≡ some y = sym (get_or-set_same p n (some z) none h) ∙ ap (λ (j : ℕ). get_or (set p n (some z)) j none) (eqb-true n k q) ∙ e in
        inl (sym (eqb-true n k q), cc)
    by (inr q) = inr (sym (get_or-set_other p n k (some z) none (λ r. eqb-false n k q (sym r))) ∙ e)

pub present-some : (o : Option ℤ) → present o ≡ true → (z : ℤ) × (o ≡ some z)
present-some none e = false_true e
present-some (some z) e = (z, refl)

pub absent_none : (o : Option ℤ) → present o ≡ false → o ≡ none
absent_none none e = refl
absent_none (some z) e = false_true (sym e)

-- ── Agreement with a full binding ──

-- a partial binding has values of the full binding b alone
pub record Agrees (b : List ℤ) (p : Partial) : Type 0 where
  pub same : (n : ℕ) (z : ℤ) → partly p n ≡ some z → bound b n ≡ some z

pub agrees_set : (b : List ℤ) (p : Partial) (n : ℕ) (z : ℤ) → n < length p → bound b n ≡ some z → Agrees b p → Agrees b (set p n (some z))
agrees_set b p n z h e a = record { same = λ k y q. by k y (set_cases p n z k y h q) }
  where
    by : (k : ℕ) (y : ℤ) → ((k ≡ n) × (y ≡ z)) ⊎ (partly p k ≡ some y) → bound b k ≡ some y
    by k y (inl q) = rw (q.0, q.1) e
    by k y (inr q) = a.same k y q

-- nothing is bound in the empty binding
pub nothing_at : (v n : ℕ) → partly (replicate v none) n ≡ none
nothing_at v n = replicate-same v n none

pub agrees_empty : (b : List ℤ) (v : ℕ) → Agrees b (replicate v none)
agrees_empty b v = record { same = λ n z e. none-some (sym (nothing_at v n) ∙ e) }

-- an expression of bound variables alone has the value that it has under the full binding
pub value_agrees : (table : List ℕ) (b : List ℤ) (p : Partial) → Agrees b p → (e : Expression) → every_variable (is_bound_in p) e ≡ true → value table (partly p) e ≡ value table (bound b) e
unfolding value every_variable
value_agrees table b p a (constant z) h = refl
value_agrees table b p a (variable n) h = let s = present-some (partly p n) h in s.1 ∙ sym (a.same n s.0 s.1)
value_agrees table b p a (binary o x y) h =
    rw (
      value_agrees table b p a x (and_left (every_variable (is_bound_in p) x) (every_variable (is_bound_in p) y) h),
      value_agrees table b p a y (and_right (every_variable (is_bound_in p) x) (every_variable (is_bound_in p) y) h),
    )
value_agrees table b p a (load x) h = rw (value_agrees table b p a x h)

-- a partial binding that agrees and has every variable bound is the full binding
pub agrees_full : (p : Partial) (b : List ℤ) → length p ≡ length b → Agrees b p → ((n : ℕ) → n < length p → is_bound_in p n ≡ true) → p ≡ map some b
agrees_full [] [] l a f = refl
agrees_full [] (z ∷ zs) l a f = absurd (omega arith)
agrees_full (o ∷ os) [] l a f = absurd (omega arith)
agrees_full (o ∷ os) (z ∷ zs) l a f =
    let s = present-some o (f zero (omega arith)) in
    let e : some z ≡ some s.0 = a.same zero s.0 s.1 in
    let q = agrees_full os zs (omega arith) (record { same = λ n y h. a.same (suc n) y h }) (λ n h. f (suc n) (omega arith)) in
    ap (λ (r : Option ℤ). r ∷ os) (s.1 ∙ sym e) ∙ ap (λ (rs : Partial). some z ∷ rs) q
