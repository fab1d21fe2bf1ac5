-- T3: a plan without fault loses no enabled binding, and its leaves are full bindings in range. It answers demand 3: nothing that is
-- enabled is missing from what the search comes to.
-- The idea: along the plan a partial binding that agrees with the enabled binding b always has a try that agrees with b too: the colour
-- that b takes is marked, b makes both sides of an = conjunct equal, and b's value stands in the range. Of enabling only the two laws
-- of `Laws` are used.
use mathlib.Core.Path.{◌≡◌, refl, sym, ap, ◌∙◌, subst, fun_ext}
use mathlib.Core.Logic.{◌⊎◌, inl, inr}
use mathlib.Core.Bool.{Bool, true, false, cond, ◌||◌}
use mathlib.Core.List.Memᴰ
use mathlib.Core.List.{List, [], ◌∷◌, ◌++◌, map, Memᴰ}
use mathlib.Core.Option.{Option, none, some, bind}
use Prim.Native.Nat.{ℕ, zero, suc, ◌≤◌, ◌<◌}
use native.Mathlib.Omega.{arith}
use borrow.Author.Tests.{eqb-true, le-leb}
use lib.Dec.{eqb, leb}
use lib.IntN.{ℤ, pos}
use lib.ListN.{length, get_elem?, set, length-set, length-replicate}
use Rattle.semantics.specs.Word.{Range, within}
use Rattle.semantics.specs.Expression.{Expression, constant, variable, binary, load, value, values_of, bound}
use Rattle.semantics.specs.Net.{Arc, equal, Conjunct, Sort, match, solve, range, Element, Transition, Net, ranges_at}
use Rattle.semantics.specs.Order.{same_integer, in_ranges, values_of_range}
use Rattle.semantics.specs.Plan.{lone_unbound, Solution, solution, newly_bound, member, plan_fault}
use Rattle.semantics.specs.Marking.{Counts, Proper}
use Rattle.semantics.specs.Enabling.{Enabled}
use Rattle.semantics.specs.Tries.{Partial, empty, partly, present, is_bound_in, colours_on, bind_new, agree, matched, solved, tries, gather, leaves_from, leaves}
use Rattle.semantics.proofs.Tests.{false_true, either, and_both, not_both, or_cases, or_right, cond_true, cond_false, integer_refl, select_in}
use Rattle.semantics.proofs.Enabling.{enabled-marks, enabled-equal}
use Rattle.semantics.proofs.Integers.{range-within, within-range}
use Rattle.semantics.proofs.Tuples.{in_tuples}
use Rattle.semantics.proofs.Members.{none-some, at_length, length_at, at_member_lem}
use Rattle.semantics.proofs.Partial.{nothing_at, member_append, every_below_at, range_length, range_at, bound-set, set_cases, present-some, Agrees, agrees_set, agrees_empty, value_agrees, agrees_full}
use Rattle.semantics.proofs.Fitness.{fit-match, Solves, solution_solves, fit-solve, fit-range, plan-fit, plan-full}

-- the two laws of an enabled binding that the search rests on
pub record Laws (table : List ℕ) (t : Transition) (m : Counts) (b : List ℤ) : Type 0 where
  -- an input arc with a coefficient of at least 1 has its colour marked
  pub marked : (a : Arc) → Memᴰ a t.inputs → (n : ℕ) → value table (bound b) a.coefficient ≡ some (pos (suc n)) → (c : List ℤ) × (values_of table (bound b) a.components ≡ some c) × (1 ≤ m a.place c)
  -- both sides of an = conjunct have the same value
  pub equated : (c : Conjunct) → Memᴰ c t.guard → c.relation ≡ equal → (z : ℤ) × (value table (bound b) c.left ≡ some z) × (value table (bound b) c.right ≡ some z)

-- ── What a try does to a partial binding ──

-- a variable bound anew: the partial binding is set at it, and the value is in its range
pub record SetTo (ranges : List Range) (p : Partial) (n : ℕ) (z : ℤ) (q : Partial) : Type 0 where
  pub range : Range
  pub named : get_elem? ranges n ≡ some range
  pub inside : within range z ≡ true
  pub set_to : q ≡ set p n (some z)

pub new-set : (ranges : List Range) (p q : Partial) (n : ℕ) (z : ℤ) → bind_new p n (get_elem? ranges n) z ≡ some q → SetTo ranges p n z q
new-set ranges p q n z h = by (get_elem? ranges n) refl h
  where
    inner : (r : Range) → get_elem? ranges n ≡ some r → (within r z ≡ true) ⊎ (within r z ≡ false) → cond (within r z) (some (set p n (some z))) none ≡ some q → SetTo ranges p n z q
    inner r e (inl w) g =
        let f : some (set p n (some z)) ≡ some q = sym (cond_true (within r z) (some (set p n (some z))) none w) ∙ g in
        let s : q ≡ set p n (some z) = cc in
        record { range = r; named = e; inside = w; set_to = s }
    inner r e (inr w) g = none-some (sym (cond_false (within r z) (some (set p n (some z))) none w) ∙ g)

    by : (o : Option Range) → get_elem? ranges n ≡ o → bind_new p n o z ≡ some q → SetTo ranges p n z q
    by none e g = none-some g
    by (some r) e g = inner r e (either (within r z)) g

set_new : (ranges : List Range) (p : Partial) (n : ℕ) (z : ℤ) (r : Range) → get_elem? ranges n ≡ some r → within r z ≡ true → bind_new p n (get_elem? ranges n) z ≡ some (set p n (some z))
set_new ranges p n z r e w = rw (e, w)

-- a place for each variable, and values in range
pub record Ranged (t : Transition) (p : Partial) : Type 0 where
  pub long : length p ≡ length t.variables
  pub ranged : (n : ℕ) (z : ℤ) → partly p n ≡ some z → (r : Range) × (get_elem? t.variables n ≡ some r) × (within r z ≡ true)

set-ranged : (t : Transition) (p q : Partial) (n : ℕ) (z : ℤ) → SetTo t.variables p n z q → Ranged t p → Ranged t q
set-ranged t p q n z s k =
    let l : n < length p = rw k.long (at_length t.variables n s.range s.named) in
    rw s.set_to (record { long = length-set p n (some z) ∙ k.long; ranged = λ j y e. by j y (set_cases p n z j y l e) })
  where
    by : (j : ℕ) (y : ℤ) → ((j ≡ n) × (y ≡ z)) ⊎ (partly p j ≡ some y) → (r : Range) × (get_elem? t.variables j ≡ some r) × (within r y ≡ true)
    by j y (inl e) = (s.range, rw e.0 s.named, rw e.1 s.inside)
    by j y (inr e) = k.ranged j y e

-- just the variables of a list are bound
pub record Tracks (p : Partial) (bs : List ℕ) : Type 0 where
  pub tracked : (n : ℕ) → is_bound_in p n ≡ member bs n

set_tracks : (t : Transition) (p q : Partial) (bs : List ℕ) (n : ℕ) (z : ℤ) → Ranged t p → Tracks p bs → SetTo t.variables p n z q → Tracks q (n ∷ bs)
unfolding member
set_tracks t p q bs n z g k s =
    let l : n < length p = rw g.long (at_length t.variables n s.range s.named) in
    rw s.set_to (record { tracked = λ j. bound-set p n z l j ∙ ap (λ (u : Bool). eqb n j || u) (k.tracked j) })

-- ── A match try ──

absorbed : (a b c : Bool) → (a ≡ true → c ≡ true) → (b || c) ≡ ((a || b) || c)
absorbed false b c f = refl
absorbed true b c f = rw (f refl) (or_right b true refl)

moved_up : (l e c : Bool) → (l || (e || c)) ≡ (((e || false) || l) || c)
moved_up true true c = refl
moved_up true false c = refl
moved_up false true c = refl
moved_up false false c = refl

module _ (t : Transition) (is_bound : ℕ → Bool) where
  -- the variables bound after a match are those bound before and the lone ones
  After : List Expression → Partial → Partial → Type 0
  After es p q = (length q ≡ length p) × ((n : ℕ) → is_bound_in q n ≡ (member (lone_unbound is_bound es) n || is_bound_in p n))

  after-old : (es : List Expression) (k : ℕ) (p q : Partial) → is_bound_in p k ≡ true → After es p q → After (variable k ∷ es) p q
  unfolding After lone_unbound member
  after-old es k p q b a = (a.0, λ n. a.1 n ∙ absorbed (member (lone (is_bound k)) n) (member (lone_unbound is_bound es) n) (is_bound_in p n) (bound_too (is_bound k) n) ∙ ap (λ (u : Bool). u || is_bound_in p n) (sym (member_append (lone (is_bound k)) (lone_unbound is_bound es) n)))
    where
      lone : Bool → List ℕ
      lone u = cond u [] (k ∷ [])

      bound_too : (u : Bool) (n : ℕ) → member (lone u) n ≡ true → is_bound_in p n ≡ true
      bound_too true n h = false_true h
      bound_too false n h = by (or_cases (eqb k n) false h)
        where
          by : (eqb k n ≡ true) ⊎ (false ≡ true) → is_bound_in p n ≡ true
          by (inl e) = rw (← eqb-true k n e) b
          by (inr e) = false_true e

  after-new : (es : List Expression) (k : ℕ) (z : ℤ) (p q : Partial) → k < length p → is_bound k ≡ false → After es (set p k (some z)) q → After (variable k ∷ es) p q
  unfolding After lone_unbound member
  after-new es k z p q l u a = (
    a.0 ∙ length-set p k (some z),
    λ n. a.1 n ∙ ap (λ (c : Bool). member (lone_unbound is_bound es) n || c) (bound-set p k z l n) ∙ moved_up (member (lone_unbound is_bound es) n) (eqb k n) (is_bound_in p n)
        ∙ ap (λ (c : Bool). c || is_bound_in p n) (sym (member_append (k ∷ []) (lone_unbound is_bound es) n))
        ∙ ap (λ (c : Bool). member (cond c [] (k ∷ []) ++ lone_unbound is_bound es) n || is_bound_in p n) (sym u),
  )

  matched_tracks : (es : List Expression) (c : List ℤ) (p q : Partial) → length p ≡ length t.variables → ((n : ℕ) → is_bound n ≡ true → is_bound_in p n ≡ true) → matched t.variables es c p ≡ some q → After es p q
  unfolding After matched lone_unbound member bind
  matched_tracks [] c p q l f h = let e : p ≡ q = cc in rw (← e) (refl, λ n. refl)
  matched_tracks (e ∷ es) [] p q l f h = none-some h
  matched_tracks (constant k ∷ es) (z ∷ zs) p q l f h = by (either (same_integer k z)) (matched_tracks es zs p q l f)
    where
      by : (same_integer k z ≡ true) ⊎ (same_integer k z ≡ false) → (matched t.variables es zs p ≡ some q → After es p q) → After es p q
      by (inl s) g = g (rw s at h)
      by (inr s) g = none-some (rw s at h)
  matched_tracks (variable k ∷ es) (z ∷ zs) p q l f h = by (partly p k) refl h (matched_tracks es zs)
    where
      Next : Type 0
      Next = (p q : Partial) → length p ≡ length t.variables → ((n : ℕ) → is_bound n ≡ true → is_bound_in p n ≡ true) → matched t.variables es zs p ≡ some q → After es p q

      fresh : is_bound_in p k ≡ false → (is_bound k ≡ true) ⊎ (is_bound k ≡ false) → is_bound k ≡ false
      fresh e (inl u) = absurd (not_both (is_bound_in p k) (f k u) e)
      fresh e (inr u) = u

      set_on : partly p k ≡ none → (o : Option Partial) → bind_new p k (get_elem? t.variables k) z ≡ o → bind o (matched t.variables es zs) ≡ some q → Next → After (variable k ∷ es) p q
      set_on e none d g next = none-some g
      set_on e (some p') d g next =
          let s = new-set t.variables p p' k z d in
          let j : k < length p = rw l (at_length t.variables k s.range s.named) in
          let m = next (set p k (some z)) q (length-set p k (some z) ∙ l) (λ n u. bound-set p k z j n ∙ or_right (eqb k n) (is_bound_in p n) (f n u)) (rw s.set_to at g) in
          after-new es k z p q j (fresh (ap present e) (either (is_bound k))) m

      old-on : (old : ℤ) → partly p k ≡ some old → (same_integer old z ≡ true) ⊎ (same_integer old z ≡ false) → bind (cond (same_integer old z) (some p) none) (matched t.variables es zs) ≡ some q → Next → After (variable k ∷ es) p q
      old-on old e (inl s) g next = after-old es k p q (ap present e) (next p q l f (rw s at g))
      old-on old e (inr s) g next = none-some (rw s at g)

      by : (o : Option ℤ) → partly p k ≡ o → bind (agree t.variables p k o z) (matched t.variables es zs) ≡ some q → Next → After (variable k ∷ es) p q
      by none e g next = set_on e (bind_new p k (get_elem? t.variables k) z) refl g next
      by (some old) e g next = old-on old e (either (same_integer old z)) g next
  matched_tracks (binary o a b ∷ es) (z ∷ zs) p q l f h = matched_tracks es zs p q l f h
  matched_tracks (load a ∷ es) (z ∷ zs) p q l f h = matched_tracks es zs p q l f h

-- a match keeps whatever setting an unbound variable to a value in range keeps
module _ (ranges : List Range) (P : Partial → Type 0) (keeps : (p q : Partial) (n : ℕ) (z : ℤ) → partly p n ≡ none → SetTo ranges p n z q → P p → P q) where
  pub matched_keeps : (es : List Expression) (c : List ℤ) (p q : Partial) → P p → matched ranges es c p ≡ some q → P q
  unfolding matched bind
  matched_keeps [] c p q k h = let e : p ≡ q = cc in subst P e k
  matched_keeps (e ∷ es) [] p q k h = none-some h
  matched_keeps (constant j ∷ es) (z ∷ zs) p q k h = by (either (same_integer j z)) (matched_keeps es zs p q k)
    where
      by : (same_integer j z ≡ true) ⊎ (same_integer j z ≡ false) → (matched ranges es zs p ≡ some q → P q) → P q
      by (inl s) g = g (rw s at h)
      by (inr s) g = none-some (rw s at h)
  matched_keeps (variable j ∷ es) (z ∷ zs) p q k h = by (partly p j) refl h (λ p' k'. matched_keeps es zs p' q k')
    where
      set_on : partly p j ≡ none → (o : Option Partial) → bind_new p j (get_elem? ranges j) z ≡ o → bind o (matched ranges es zs) ≡ some q → ((p' : Partial) → P p' → matched ranges es zs p' ≡ some q → P q) → P q
      set_on e none d g next = none-some g
      set_on e (some p') d g next = next p' (keeps p p' j z e (new-set ranges p p' j z d) k) g

      old-on : (old : ℤ) → (same_integer old z ≡ true) ⊎ (same_integer old z ≡ false) → bind (cond (same_integer old z) (some p) none) (matched ranges es zs) ≡ some q → ((p' : Partial) → P p' → matched ranges es zs p' ≡ some q → P q) → P q
      old-on old (inl s) g next = next p k (rw s at g)
      old-on old (inr s) g next = none-some (rw s at g)

      by : (o : Option ℤ) → partly p j ≡ o → bind (agree ranges p j o z) (matched ranges es zs) ≡ some q → ((p' : Partial) → P p' → matched ranges es zs p' ≡ some q → P q) → P q
      by none e g next = set_on e (bind_new p j (get_elem? ranges j) z) refl g next
      by (some old) e g next = old-on old (either (same_integer old z)) g next
  matched_keeps (binary o a b ∷ es) (z ∷ zs) p q k h = matched_keeps es zs p q k h
  matched_keeps (load a ∷ es) (z ∷ zs) p q k h = matched_keeps es zs p q k h

-- ── A try of any element ──

-- how a try that goes on comes about: a match with some colour, or one unbound variable set to a value in its range
pub data Goes (t : Transition) (p q : Partial) (ns : List ℕ) (is_bound : ℕ → Bool) : Type 0 where
  matching : (es : List Expression) (c : List ℤ) → lone_unbound is_bound es ≡ ns → matched t.variables es c p ≡ some q → Goes t p q ns is_bound
  setting : (n : ℕ) (z : ℤ) → n ∷ [] ≡ ns → is_bound n ≡ false → SetTo t.variables p n z q → Goes t p q ns is_bound

module _ (table : List ℕ) (net : Net) (t : Transition) (m : Counts) where
  solved_goes : (p q : Partial) (is_bound : ℕ → Bool) (ns : List ℕ) (s : Solution) → s.unknown ∷ [] ≡ ns → is_bound s.unknown ≡ false → solved table t p s ≡ some q → Goes t p q ns is_bound
  unfolding bind
  solved_goes p q is_bound ns s b u e = by (value table (partly p) s.known) e
    where
      by : (o : Option ℤ) → bind o (λ z. bind_new p s.unknown (get_elem? t.variables s.unknown) z) ≡ some q → Goes t p q ns is_bound
      by none g = none-some g
      by (some z) g = setting s.unknown z b u (new-set t.variables p q s.unknown z g)

  pub tries_go : (s : Sort) (p q : Partial) (is_bound : ℕ → Bool) (n : ℕ) (ns : List ℕ) → is_bound_in p ≡ is_bound → newly_bound t is_bound s ≡ n ∷ ns → Memᴰ (some q) (tries table net t m s p) → Goes t p q (n ∷ ns) is_bound
  unfolding tries bind
  tries_go (match k) p q is_bound n ns same fit j =
      let f = fit-match t is_bound k n ns fit in
      let u = Memᴰ.of_map (λ c. matched t.variables f.arc.components c p) (colours_on net m f.arc.place) (rw f.named at j) in
      matching f.arc.components u.0 f.binds u.2
  tries_go (solve k) p q is_bound n ns same fit j =
      let f = fit-solve t is_bound k n ns fit in
      let e = Memᴰ.eq_of_singleton (rw f.named at j) in
      solved_goes p q is_bound (n ∷ ns) f.answer f.binds (solution_solves is_bound f.conjunct f.answer f.found).unbound (ap (λ (o : Option Solution). bind o (solved table t p)) (sym (ap (λ (g : ℕ → Bool). solution g f.conjunct) same ∙ f.found)) ∙ sym e)
  tries_go (range k) p q is_bound n ns same fit j =
      let f = fit-range t is_bound k n ns fit in
      let r = length_at t.variables k f.there in
      let u = Memᴰ.of_map (λ z. some (set p k (some z))) (values_of_range r.0) (rw r.1 at j) in
      let e : q ≡ set p k (some u.0) = cc in
      setting k u.0 f.binds f.unbound (record { range = r.0; named = r.1; inside = range-within r.0 u.0 u.1; set_to = e })

  -- a try that goes on keeps values in range and binds the variables that the element binds
  tries-ranged : (p q : Partial) (ns : List ℕ) (is_bound : ℕ → Bool) → Goes t p q ns is_bound → Ranged t p → Ranged t q
  tries-ranged p q ns is_bound (matching es c b h) k = matched_keeps t.variables (Ranged t) (λ p q n z u s r. set-ranged t p q n z s r) es c p q k h
  tries-ranged p q ns is_bound (setting n z b u s) k = set-ranged t p q n z s k

  tries_track : (p q : Partial) (ns bs : List ℕ) → Goes t p q ns (member bs) → Ranged t p → Tracks p bs → Tracks q (ns ++ bs)
  unfolding After
  tries_track p q ns bs (matching es c b h) r k =
      let a = matched_tracks t (member bs) es c p q r.long (λ n u. k.tracked n ∙ u) h in
      rw (← b) (record { tracked = λ n. by n a })
    where
      by : (n : ℕ) → After t (member bs) es p q → is_bound_in q n ≡ member (lone_unbound (member bs) es ++ bs) n
      by n a = a.1 n ∙ ap (λ (u : Bool). member (lone_unbound (member bs) es) n || u) (k.tracked n) ∙ sym (member_append (lone_unbound (member bs) es) bs n)
  tries_track p q ns bs (setting n z b u s) r k = rw (← b) (set_tracks t p q bs n z r k s)

-- ── Members of what tries come to ──

module _ (f : Partial → List Partial) where
  gather_in : (os : List (Option Partial)) (x : Partial) → Memᴰ x (gather f os) → (p : Partial) × Memᴰ (some p) os × Memᴰ x (f p)
  unfolding gather
  gather_in [] x k = absurd (Memᴰ.not-nil k)
  gather_in (none ∷ os) x k = let r = gather_in os x k in (r.0, Memᴰ.tail r.1, r.2)
  gather_in (some p ∷ os) x k = by (gather_in os x) (Memᴰ.append_cases (f p) k)
    where
      by : (Memᴰ x (gather f os) → (p : Partial) × Memᴰ (some p) os × Memᴰ x (f p)) → Memᴰ x (f p) ⊎ Memᴰ x (gather f os) → (q : Partial) × Memᴰ (some q) (some p ∷ os) × Memᴰ x (f q)
      by g (inl j) = (p, Memᴰ.head refl, j)
      by g (inr j) = let r = g j in (r.0, Memᴰ.tail r.1, r.2)

  in_gather : (os : List (Option Partial)) (p x : Partial) → Memᴰ (some p) os → Memᴰ x (f p) → Memᴰ x (gather f os)
  unfolding gather
  in_gather [] p x k j = absurd (Memᴰ.not-nil k)
  in_gather (none ∷ os) p x k j = by (in_gather os p x) (Memᴰ.cases_cons k)
    where
      by : (Memᴰ (some p) os → Memᴰ x (f p) → Memᴰ x (gather f os)) → (some p ≡ none) ⊎ Memᴰ (some p) os → Memᴰ x (gather f os)
      by g (inl e) = none-some (sym e)
      by g (inr i) = g i j
  in_gather (some q ∷ os) p x k j = by (in_gather os p x) (Memᴰ.cases_cons k)
    where
      by : (Memᴰ (some p) os → Memᴰ x (f p) → Memᴰ x (gather f os)) → (some p ≡ some q) ⊎ Memᴰ (some p) os → Memᴰ x (f q ++ gather f os)
      by g (inl e) = let d : p ≡ q = cc in Memᴰ.append_left (gather f os) (subst (λ (r : Partial). Memᴰ x (f r)) d j)
      by g (inr i) = Memᴰ.append_right (f q) (g i j)

-- ── An enabled binding has a try that agrees with it ──

module _ (table : List ℕ) (net : Net) (t : Transition) (m : Counts) (b : List ℤ) (laws : Laws table t m b) (proper : Proper net m) (inside : in_ranges t.variables b ≡ true) where
  values_cons : (e : Expression) (es : List Expression) (c : List ℤ) → values_of table (bound b) (e ∷ es) ≡ some c → (z : ℤ) × ((zs : List ℤ) × (value table (bound b) e ≡ some z) × (values_of table (bound b) es ≡ some zs) × (c ≡ z ∷ zs))
  unfolding values_of bind
  values_cons e es c h = by (value table (bound b) e) (values_of table (bound b) es) refl refl h
    where
      by : (o : Option ℤ) (os : Option (List ℤ)) → value table (bound b) e ≡ o → values_of table (bound b) es ≡ os → bind o (λ z. bind os (λ zs. some (z ∷ zs))) ≡ some c → (z : ℤ) × ((zs : List ℤ) × (value table (bound b) e ≡ some z) × (values_of table (bound b) es ≡ some zs) × (c ≡ z ∷ zs))
      by none os x y g = none-some g
      by (some z) none x y g = none-some g
      by (some z) (some zs) x y g = (z, (zs, x, y, cc))

  Agreeing : List Expression → List ℤ → Partial → Type 0
  Agreeing es c p = (q : Partial) × (matched t.variables es c p ≡ some q) × Agrees b q

  matched_agrees : (es : List Expression) (c : List ℤ) (p : Partial) → length p ≡ length t.variables → Agrees b p → values_of table (bound b) es ≡ some c → Agreeing es c p
  unfolding Agreeing matched value bind
  matched_agrees [] c p l a h = (p, refl, a)
  matched_agrees (constant k ∷ es) c p l a h =
      let v = values_cons (constant k) es c h in
      let e : k ≡ v.0 = cc in
      let s : same_integer k v.0 ≡ true = rw (← e) (integer_refl k) in
      rw (v.1.3, s) (matched_agrees es v.1.0 p l a v.1.2)
  matched_agrees (variable k ∷ es) c p l a h =
      let v = values_cons (variable k) es c h in
      rw v.1.3 (by v.0 v.1.0 v.1.1 (partly p k) refl (λ p' l' a'. matched_agrees es v.1.0 p' l' a' v.1.2))
    where
      by : (z : ℤ) (zs : List ℤ) → bound b k ≡ some z → (o : Option ℤ) → partly p k ≡ o → ((p' : Partial) → length p' ≡ length t.variables → Agrees b p' → Agreeing es zs p') → (q : Partial) × (bind (agree t.variables p k o z) (matched t.variables es zs) ≡ some q) × Agrees b q
      by z zs e none d next =
          let r = range_at t.variables b inside k z e in
          let j : k < length p = rw l (at_length t.variables k r.0 r.1) in
          rw (set_new t.variables p k z r.0 r.1 r.2) (next (set p k (some z)) (length-set p k (some z) ∙ l) (agrees_set b p k z j e a))
      by z zs e (some old) d next =
          let f = a.same k old d in
          let g : old ≡ z = cc in
          let s : same_integer old z ≡ true = rw (← g) (integer_refl old) in
          rw s (next p l a)
  matched_agrees (binary o x y ∷ es) c p l a h = let v = values_cons (binary o x y) es c h in rw v.1.3 (matched_agrees es v.1.0 p l a v.1.2)
  matched_agrees (load x ∷ es) c p l a h = let v = values_cons (load x) es c h in rw v.1.3 (matched_agrees es v.1.0 p l a v.1.2)

  -- the try that agrees with b
  Try : Sort → Partial → Type 0
  Try s p = (q : Partial) × Memᴰ (some q) (tries table net t m s p) × Agrees b q

  set_try : (p : Partial) (n : ℕ) (z : ℤ) → Ranged t p → Agrees b p → bound b n ≡ some z → (r : Range) × (get_elem? t.variables n ≡ some r) × (within r z ≡ true) × Agrees b (set p n (some z))
  set_try p n z k a e =
      let r = range_at t.variables b inside n z e in
      let j : n < length p = rw k.long (at_length t.variables n r.0 r.1) in
      (r.0, r.1, r.2, agrees_set b p n z j e a)

  colour-marked : (a : Arc) (c : List ℤ) → 1 ≤ m a.place c → Memᴰ c (colours_on net m a.place)
  unfolding colours_on
  colour-marked a c h = select_in (λ c. leb 1 (m a.place c)) (in_tuples (ranges_at net.places a.place) c (proper.ranged a.place c h)) (le-leb 1 (m a.place c) h)

  -- both ways round, the known side has the unknown's value
  sides_value : (is_bound : ℕ → Bool) (c : Conjunct) (s : Solution) → Memᴰ c t.guard → Solves is_bound c s → (z : ℤ) × (bound b s.unknown ≡ some z) × (value table (bound b) s.known ≡ some z)
  unfolding value
  sides_value is_bound c s k h = by h.sides (laws.equated c k h.equation)
    where
      by : ((c.left ≡ variable s.unknown) × (c.right ≡ s.known)) ⊎ ((c.right ≡ variable s.unknown) × (c.left ≡ s.known)) → (z : ℤ) × (value table (bound b) c.left ≡ some z) × (value table (bound b) c.right ≡ some z) → (z : ℤ) × (bound b s.unknown ≡ some z) × (value table (bound b) s.known ≡ some z)
      by (inl e) v = (v.0, rw e.0 at v.1, rw e.1 at v.2)
      by (inr e) v = (v.0, rw e.0 at v.2, rw e.1 at v.1)

  tries-agree : (s : Sort) (p : Partial) (bs : List ℕ) (n : ℕ) (ns : List ℕ) → is_bound_in p ≡ member bs → newly_bound t (member bs) s ≡ n ∷ ns → Ranged t p → Agrees b p → Try s p
  unfolding Try Agreeing tries value bind
  tries-agree (match k) p bs n ns same fit r a =
      let f = fit-match t (member bs) k n ns fit in
      let c = laws.marked f.arc (at_member_lem t.inputs k f.arc f.named) f.amount (rw f.takes) in
      let q = matched_agrees f.arc.components c.0 p r.long a c.1 in
      (q.0, rw f.named (Memᴰ.cast (sym q.1) (Memᴰ.map (λ c. matched t.variables f.arc.components c p) (colour-marked f.arc c.0 c.2))), q.2)
  tries-agree (solve k) p bs n ns same fit r a =
      let f = fit-solve t (member bs) k n ns fit in
      let s = solution_solves (member bs) f.conjunct f.answer f.found in
      let v = sides_value (member bs) f.conjunct f.answer (at_member_lem t.guard k f.conjunct f.named) s in
      let u = set_try p f.answer.unknown v.0 r a v.1 in
      let w = value_agrees table b p a f.answer.known (rw same s.computed) ∙ v.2 in
      (set p f.answer.unknown (some v.0), rw (f.named, same, f.found, w, u.1, u.2) (Memᴰ.head refl), u.3)
  tries-agree (range k) p bs n ns same fit r a =
      let f = fit-range t (member bs) k n ns fit in
      let h : k < length b = rw (range_length t.variables b inside) f.there in
      let z = length_at b k h in
      let u = set_try p k z.0 r a z.1 in
      (set p k (some z.0), rw u.1 (Memᴰ.map (λ z. some (set p k (some z))) (within-range u.0 z.0 u.2)), u.3)

  -- b is a leaf below every partial binding that agrees with it
  agreeing_leaf : (es : List Element) (p : Partial) (bs : List ℕ) → plan_fault t bs es ≡ none → Ranged t p → Tracks p bs → Agrees b p → Memᴰ (map some b) (leaves_from table net t m es p)
  unfolding leaves_from Try
  agreeing_leaf [] p bs h r k a =
      let f = every_below_at (length t.variables) (member bs) (plan-full t bs h) in
      Memᴰ.head (sym (agrees_full p b (r.long ∙ sym (range_length t.variables b inside)) a (λ n j. k.tracked n ∙ f n (rw r.long at j))))
  agreeing_leaf (e ∷ es) p bs h r k a =
      let f = plan-fit t bs e es h in
      let same : is_bound_in p ≡ member bs = fun_ext (λ n. k.tracked n) in
      let q = tries-agree e.sort p bs f.first f.others same f.binds r a in
      let g = tries_go table net t m e.sort p q.0 (member bs) f.first f.others same f.binds q.1 in
      in_gather (leaves_from table net t m es) (tries table net t m e.sort p) q.0 (map some b) q.1
      (agreeing_leaf es q.0 ((f.first ∷ f.others) ++ bs) f.rest (tries-ranged table net t m p q.0 (f.first ∷ f.others) (member bs) g r) (tries_track table net t m p q.0 (f.first ∷ f.others) bs g r k) q.2)

-- ── Leaves are full bindings in range ──

ranged-full : (rs : List Range) (p : Partial) → length p ≡ length rs → ((n : ℕ) (z : ℤ) → partly p n ≡ some z → (r : Range) × (get_elem? rs n ≡ some r) × (within r z ≡ true)) → ((n : ℕ) → n < length p → is_bound_in p n ≡ true) → (b : List ℤ) × (p ≡ map some b) × (in_ranges rs b ≡ true)
unfolding in_ranges
ranged-full [] [] l f g = ([], refl, refl)
ranged-full [] (o ∷ os) l f g = absurd (omega arith)
ranged-full (r ∷ rs) [] l f g = absurd (omega arith)
ranged-full (r ∷ rs) (o ∷ os) l f g =
    let s = present-some o (g zero (omega arith)) in
    let w = f zero s.0 s.1 in
    let e : r ≡ w.0 = cc in
    let t = ranged-full rs os (omega arith) (λ n z h. f (suc n) z h) (λ n h. g (suc n) (omega arith)) in
    (s.0 ∷ t.0, ap (λ (u : Option ℤ). u ∷ os) s.1 ∙ ap (λ (us : Partial). some s.0 ∷ us) t.1, and_both (within r s.0) (in_ranges rs t.0) (rw e w.2) t.2)

module _ (table : List ℕ) (net : Net) (t : Transition) (m : Counts) where
  leaf_below : (es : List Element) (p : Partial) (bs : List ℕ) → plan_fault t bs es ≡ none → Ranged t p → Tracks p bs → (x : Partial) → Memᴰ x (leaves_from table net t m es p) → (b : List ℤ) × (x ≡ map some b) × (in_ranges t.variables b ≡ true)
  unfolding leaves_from
  leaf_below [] p bs h r k x j =
      let f = every_below_at (length t.variables) (member bs) (plan-full t bs h) in
      rw (Memᴰ.eq_of_singleton j) (ranged-full t.variables p r.long r.ranged (λ n i. k.tracked n ∙ f n (rw r.long at i)))
  leaf_below (e ∷ es) p bs h r k x j =
      let f = plan-fit t bs e es h in
      let same : is_bound_in p ≡ member bs = fun_ext (λ n. k.tracked n) in
      let q = gather_in (leaves_from table net t m es) (tries table net t m e.sort p) x j in
      let g = tries_go table net t m e.sort p q.0 (member bs) f.first f.others same f.binds q.1 in
      leaf_below es q.0 ((f.first ∷ f.others) ++ bs) f.rest (tries-ranged table net t m p q.0 (f.first ∷ f.others) (member bs) g r) (tries_track table net t m p q.0 (f.first ∷ f.others) bs g r k) x q.2

-- ── From the empty binding ──

empty-ranged : (t : Transition) → Ranged t (empty t)
empty-ranged t = record { long = length-replicate (length t.variables) none; ranged = λ n z e. none-some (sym (nothing_at (length t.variables) n) ∙ e) }

empty_tracks : (t : Transition) → Tracks (empty t) []
unfolding member
empty_tracks t = record { tracked = λ n. ap present (nothing_at (length t.variables) n) }

-- Every binding in range that has the two laws is a leaf of the plan.
pub leaf_of_lem : (table : List ℕ) (net : Net) (t : Transition) (m : Counts) (b : List ℤ) → plan_fault t [] t.plan ≡ none → Laws table t m b → Proper net m → in_ranges t.variables b ≡ true → Memᴰ (map some b) (leaves table net t m)
unfolding leaves
leaf_of_lem table net t m b h laws proper inside = agreeing_leaf table net t m b laws proper inside t.plan (empty t) [] h (empty-ranged t) (empty_tracks t) (agrees_empty b (length t.variables))

-- Every leaf of a plan without fault is a full binding in range.
pub leaf_full : (table : List ℕ) (net : Net) (t : Transition) (m : Counts) → plan_fault t [] t.plan ≡ none → (p : Partial) → Memᴰ p (leaves table net t m) → (b : List ℤ) × (p ≡ map some b) × (in_ranges t.variables b ≡ true)
unfolding leaves
leaf_full table net t m h p k = leaf_below table net t m t.plan (empty t) [] h (empty-ranged t) (empty_tracks t) p k

-- the two laws of an enabled binding
enabled_laws : (table : List ℕ) (t : Transition) (m : Counts) (b : List ℤ) → Enabled table t m b → Laws table t m b
enabled_laws table t m b e = record { marked = enabled-marks table t m b e; equated = enabled-equal table t m b e }

-- T3: a plan without fault loses no enabled binding.
pub enabled_leaf : (table : List ℕ) (net : Net) (t : Transition) (m : Counts) (b : List ℤ) → plan_fault t [] t.plan ≡ none → Proper net m → in_ranges t.variables b ≡ true → Enabled table t m b → Memᴰ (map some b) (leaves table net t m)
enabled_leaf table net t m b h proper inside e = leaf_of_lem table net t m b h (enabled_laws table t m b e) proper inside

-- ── A search step by step ──

-- a partial binding at the elements that are left: they have no fault with what it has bound, and its values are in range
pub record Sound (t : Transition) (es : List Element) (p : Partial) : Type 0 where
  pub bound_so_far : List ℕ
  pub faultless : plan_fault t bound_so_far es ≡ none
  pub ranged : Ranged t p
  pub tracks : Tracks p bound_so_far

pub sound_empty : (t : Transition) → plan_fault t [] t.plan ≡ none → Sound t t.plan (empty t)
sound_empty t h = record { bound_so_far = []; faultless = h; ranged = empty-ranged t; tracks = empty_tracks t }

-- the next element binds a variable
pub sound_fits : {t : Transition} {e : Element} {es : List Element} {p : Partial} → Sound t (e ∷ es) p → (n : ℕ) × ((ns : List ℕ) × (newly_bound t (is_bound_in p) e.sort ≡ n ∷ ns))
sound_fits {t} {e} {es} {p} s =
    let f = plan-fit t s.bound_so_far e es s.faultless in
    let same : is_bound_in p ≡ member s.bound_so_far = fun_ext (λ n. s.tracks.tracked n) in
    (f.first, (f.others, rw same f.binds))

-- a try that goes on is sound for the elements after it
pub sound_next : (table : List ℕ) (net : Net) (m : Counts) {t : Transition} {e : Element} {es : List Element} {p : Partial} → Sound t (e ∷ es) p → (q : Partial) → Memᴰ (some q) (tries table net t m e.sort p) → Sound t es q
sound_next table net m {t} {e} {es} {p} s q j =
    let f = plan-fit t s.bound_so_far e es s.faultless in
    let same : is_bound_in p ≡ member s.bound_so_far = fun_ext (λ n. s.tracks.tracked n) in
    let g = tries_go table net t m e.sort p q (member s.bound_so_far) f.first f.others same f.binds j in
    record {
      bound_so_far = (f.first ∷ f.others) ++ s.bound_so_far;
      faultless = f.rest;
      ranged = tries-ranged table net t m p q (f.first ∷ f.others) (member s.bound_so_far) g s.ranged;
      tracks = tries_track table net t m p q (f.first ∷ f.others) s.bound_so_far g s.ranged s.tracks;
    }

-- at the end it is a full binding in range
pub sound_leaf : {t : Transition} {p : Partial} → Sound t [] p → (b : List ℤ) × (p ≡ map some b) × (in_ranges t.variables b ≡ true)
sound_leaf {t} {p} s =
    let f = every_below_at (length t.variables) (member s.bound_so_far) (plan-full t s.bound_so_far s.faultless) in
    ranged-full t.variables p s.ranged.long s.ranged.ranged (λ n i. s.tracks.tracked n ∙ f n (rw s.ranged.long at i))
