-- Arcs that a plan settles: those that one of its matches has found, each alone on its place, need not be looked up at a leaf.
-- The idea: an arc that a match has found keeps its colour to the leaves below, since values stay as a plan goes on; so at a leaf all such arcs have a
-- marked colour, and they are left out one after the other, each by the law of one arc.
-- Rests on Spared and Extending.
use mathlib.Core.Path.{◌≡◌, refl, sym, ap, ◌∙◌, subst}
use mathlib.Core.Bool.{Bool, true, false}
use mathlib.Core.Logic.{◌⊎◌, inl, inr}
use mathlib.Core.List.Memᴰ
use mathlib.Core.List.{List, [], ◌∷◌, ◌++◌, map, append_assoc, Memᴰ}
use mathlib.Core.Option.{some}
use Prim.Native.Nat.{ℕ, zero, suc, ◌≤◌}
use native.Mathlib.Omega.{arith}
use borrow.Author.Tests.{leb-true}
use lib.Dec.{leb}
use lib.IntN.{ℤ, pos}
use lib.ListN.{length, get_elem?}
use Rattle.semantics.specs.Lists.{Every}
use Rattle.semantics.specs.Expression.{constant, value, values_of, bound}
use Rattle.semantics.specs.Net.{Arc, Sort, match, Element, Transition, Net, ranges_at}
use Rattle.semantics.specs.Order.{tuples}
use Rattle.semantics.specs.Marking.{Counts}
use Rattle.semantics.specs.Enabling.{is_enabled}
use Rattle.semantics.specs.Tries.{Partial, partly, colours_on, matched, tries}
use Rattle.semantics.proofs.Tests.{selected, Every-of}
use Rattle.semantics.proofs.Members.{member_at, every_both, every_snoc}
use Rattle.semantics.proofs.Tuples.{tuples_in}
use Rattle.semantics.proofs.Partial.{range_length}
use Rattle.semantics.proofs.Leaves.{Sound}
use Rattle.semantics.proofs.Extending.{Extends, values_extends, tries_extend}
use Rattle.semantics.proofs.Spared.{taking, spared, Lone, matched-values}

-- ── Some members of a list ──

-- those that a mask keeps; what it does not reach is kept
unfoldable pub kept : {A : Type 0} → List Bool → List A → List A
kept [] xs = xs
kept (b ∷ bs) [] = []
kept (true ∷ bs) (x ∷ xs) = x ∷ kept bs xs
kept (false ∷ bs) (x ∷ xs) = kept bs xs

pub every-kept : {A : Type 0} (P : A → Type 0) (bs : List Bool) (xs : List A) → Every P xs → Every P (kept bs xs)
unfolding kept
every-kept P [] xs h = h
every-kept P (b ∷ bs) [] h = tt
every-kept P (true ∷ bs) (x ∷ xs) h = (h.0, every-kept P bs xs h.1)
every-kept P (false ∷ bs) (x ∷ xs) h = every-kept P bs xs h.1

pub kept-length : {A : Type 0} (bs : List Bool) (xs : List A) → length (kept bs xs) ≤ length xs
unfolding kept
kept-length [] xs = omega arith
kept-length (b ∷ bs) [] = omega arith
kept-length (true ∷ bs) (x ∷ xs) = let k = kept-length bs xs in omega arith
kept-length (false ∷ bs) (x ∷ xs) = let k = kept-length bs xs in omega arith

pub kept_map : {A B : Type 0} (f : A → B) (bs : List Bool) (xs : List A) → kept bs (map f xs) ≡ map f (kept bs xs)
unfolding kept
kept_map f [] xs = refl
kept_map f (b ∷ bs) [] = refl
kept_map f (true ∷ bs) (x ∷ xs) = ap (λ l. f x ∷ l) (kept_map f bs xs)
kept_map f (false ∷ bs) (x ∷ xs) = kept_map f bs xs

-- ── Arcs that are left out ──

-- of some arcs only the one of a number is of its place
abbrev pub OnlyOne : List Arc → ℕ → Arc → Type 0
OnlyOne as' j a = (k : ℕ) (x : Arc) → get_elem? as' k ≡ some x → (k ≡ j → ⊥) → x.place ≡ a.place → ⊥

module _ (table : List ℕ) (t : Transition) (m : Counts) (b : List ℤ) where
  -- an arc takes one token of a marked colour
  pub record Covered (a : Arc) : Type 0 where
    pub one : value table (bound b) a.coefficient ≡ some (pos 1)
    pub colour : List ℤ
    pub values : values_of table (bound b) a.components ≡ some colour
    pub marked : 1 ≤ m a.place colour

  -- what is known of an arc that is left out, behind others
  record Out (pre suf : List Arc) (j : ℕ) (a : Arc) : Type 0 where
    pub sure : Covered a
    pub before : Every (λ (x : Arc). x.place ≡ a.place → ⊥) pre
    pub only : OnlyOne suf j a

  left_out : (bs : List Bool) (pre suf : List Arc) → ((j : ℕ) (a : Arc) → get_elem? suf j ≡ some a → get_elem? bs j ≡ some false → Out pre suf j a) → is_enabled table (taking t (pre ++ kept bs suf)) m b ≡ is_enabled table (taking t (pre ++ suf)) m b
  unfolding kept
  left_out [] pre suf h = refl
  left_out (c ∷ bs) pre [] h = refl
  left_out (c ∷ bs) pre (a ∷ ys) h = by c h (left_out bs (pre ++ (a ∷ [])) ys)
    where
      Rest : Type 0
      Rest = ((j : ℕ) (x : Arc) → get_elem? ys j ≡ some x → get_elem? bs j ≡ some false → Out (pre ++ (a ∷ [])) ys j x) → is_enabled table (taking t ((pre ++ (a ∷ [])) ++ kept bs ys)) m b ≡ is_enabled table (taking t ((pre ++ (a ∷ [])) ++ ys)) m b

      -- the arcs behind the first, with it among those before them
      rest : (c : Bool) → ((j : ℕ) (x : Arc) → get_elem? (a ∷ ys) j ≡ some x → get_elem? (c ∷ bs) j ≡ some false → Out pre (a ∷ ys) j x) → Rest → is_enabled table (taking t (pre ++ (a ∷ kept bs ys))) m b ≡ is_enabled table (taking t (pre ++ (a ∷ ys))) m b
      rest c h on =
          ap (λ (l : List Arc). is_enabled table (taking t l) m b) (sym (append_assoc pre (a ∷ []) (kept bs ys)))
          ∙ on (λ j x e f. let o = h (suc j) x e f in record { sure = o.sure; before = every_snoc _ pre a o.before (o.only zero a refl (λ q. absurd (omega arith))); only = λ k y d n. o.only (suc k) y d (λ q. n (omega arith)) })
          ∙ ap (λ (l : List Arc). is_enabled table (taking t l) m b) (append_assoc pre (a ∷ []) ys)

      by : (c : Bool) → ((j : ℕ) (x : Arc) → get_elem? (a ∷ ys) j ≡ some x → get_elem? (c ∷ bs) j ≡ some false → Out pre (a ∷ ys) j x) → Rest → is_enabled table (taking t (pre ++ kept (c ∷ bs) (a ∷ ys))) m b ≡ is_enabled table (taking t (pre ++ (a ∷ ys))) m b
      by true h on = rest true h on
      by false h on =
          let o = h zero a refl refl in
          let behind : Every (λ (x : Arc). x.place ≡ a.place → ⊥) ys = Every-of _ ys (λ x i. let n = member_at i in o.only (suc n.0) x n.1 (λ q. absurd (omega arith))) in
          spared table (taking t (pre ++ (a ∷ kept bs ys))) m b pre (kept bs ys) a o.sure.colour refl o.sure.one o.sure.values o.sure.marked (every_both _ pre (kept bs ys) o.before (every-kept _ bs ys behind))
          ∙ rest false h on

  pub all_spared : (bs : List Bool) → ((j : ℕ) (a : Arc) → get_elem? t.inputs j ≡ some a → get_elem? bs j ≡ some false → Covered a × OnlyOne t.inputs j a) → is_enabled table (taking t (kept bs t.inputs)) m b ≡ is_enabled table t m b
  all_spared bs h = left_out bs [] t.inputs (λ j a e f. let o = h j a e f in record { sure = o.0; before = tt; only = o.1 })

-- ── Along a plan ──

module _ (table : List ℕ) (m : Counts) where
  -- at a partial binding the colour of an arc is known and marked
  pub record Found (a : Arc) (p : Partial) : Type 0 where
    pub colour : List ℤ
    pub values : values_of table (partly p) a.components ≡ some colour
    pub marked : 1 ≤ m a.place colour

  found_extends : {a : Arc} {p q : Partial} → Extends (partly p) (partly q) → Found a p → Found a q
  found_extends {a} x f = record { colour = f.colour; values = values_extends table x a.components f.values; marked = f.marked }

  -- behind a try of its match
  found-matched : (net : Net) (t : Transition) (k : ℕ) (a : Arc) → get_elem? t.inputs k ≡ some a → length a.components ≡ length (ranges_at net.places a.place) → Every Lone a.components → (p q : Partial) → length p ≡ length t.variables → Memᴰ (some q) (tries table net t m (match k) p) → Found a q
  unfolding tries colours_on
  found-matched net t k a named w lone p q l j =
      let u = Memᴰ.of_map (λ c. matched t.variables a.components c p) (colours_on net m a.place) (rw named at j) in
      let s = selected (λ c. leb 1 (m a.place c)) (tuples (ranges_at net.places a.place)) u.1 in
      let n = range_length (ranges_at net.places a.place) u.0 (tuples_in (ranges_at net.places a.place) u.0 s.0) in
      record { colour = u.0; values = matched-values table t.variables a.components u.0 p q l (w ∙ sym n) lone u.2; marked = leb-true 1 (m a.place u.0) s.1 }

  -- an arc that a mask leaves out: it takes one token, has no operators, is the only one of its place, and one of the elements to come matches it
  -- or one has
  pub record Settles (t : Transition) (es : List Element) (p : Partial) (j : ℕ) (a : Arc) : Type 0 where
    pub one : a.coefficient ≡ constant (pos 1)
    pub lone : Every Lone a.components
    pub only : OnlyOne t.inputs j a
    pub found : ((e : Element) × Memᴰ e es × (e.sort ≡ match j)) ⊎ Found a p

  -- all of them
  pub record Settled (t : Transition) (bs : List Bool) (es : List Element) (p : Partial) : Type 0 where
    pub each : (j : ℕ) (a : Arc) → get_elem? t.inputs j ≡ some a → get_elem? bs j ≡ some false → Settles t es p j a

  module _ (net : Net) {t : Transition} (w : (j : ℕ) (a : Arc) → get_elem? t.inputs j ≡ some a → length a.components ≡ length (ranges_at net.places a.place)) {bs : List Bool} where
    -- a try that goes on settles its own arc, and keeps the others
    pub settled-next : {e : Element} {es : List Element} {p : Partial} → Sound t (e ∷ es) p → (q : Partial) → Memᴰ (some q) (tries table net t m e.sort p) → Settled t bs (e ∷ es) p → Settled t bs es q
    settled-next {e} {es} {p} s q i S = record { each = λ j a n f. let k = S.each j a n f in record { one = k.one; lone = k.lone; only = k.only; found = by j a n k.lone k.found } }
      where
        own : (j : ℕ) (a : Arc) → get_elem? t.inputs j ≡ some a → Every Lone a.components → e.sort ≡ match j → Found a q
        own j a n o d = found-matched net t j a n (w j a n) o p q s.ranged.long (subst (λ (x : Sort). Memᴰ (some q) (tries table net t m x p)) d i)

        among : (j : ℕ) (a : Arc) → get_elem? t.inputs j ≡ some a → Every Lone a.components → (x : Element) → (x ≡ e) ⊎ Memᴰ x es → x.sort ≡ match j → ((x : Element) × Memᴰ x es × (x.sort ≡ match j)) ⊎ Found a q
        among j a n o x (inl d) g = inr (own j a n o (ap (λ (y : Element). y.sort) (sym d) ∙ g))
        among j a n o x (inr k) g = inl (x, k, g)

        by : (j : ℕ) (a : Arc) → get_elem? t.inputs j ≡ some a → Every Lone a.components → ((x : Element) × Memᴰ x (e ∷ es) × (x.sort ≡ match j)) ⊎ Found a p → ((x : Element) × Memᴰ x es × (x.sort ≡ match j)) ⊎ Found a q
        by j a n o (inl (x, k, g)) = among j a n o x (Memᴰ.cases_cons k) g
        by j a n o (inr f) = inr (found_extends (tries_extend table net m s q i) f)

  -- at a leaf the arcs that the mask leaves out are not asked for
  module _ {t : Transition} {bs : List Bool} {p : Partial} (S : Settled t bs [] p) (b : List ℤ) (full : partly p ≡ bound b) where
    pub settled_leaf : is_enabled table (taking t (kept bs t.inputs)) m b ≡ is_enabled table t m b
    unfolding value
    settled_leaf = all_spared table t m b bs (λ j a n f. let k = S.each j a n f in (covered a k.one k.found, k.only))
      where
        covered : (a : Arc) → a.coefficient ≡ constant (pos 1) → {j : ℕ} → ((e : Element) × Memᴰ e [] × (e.sort ≡ match j)) ⊎ Found a p → Covered table t m b a
        covered a o (inl (e, k, g)) = absurd (Memᴰ.not-nil k)
        covered a o (inr f) = record { one = ap (value table (bound b)) o; colour = f.colour; values = ap (λ env. values_of table env a.components) (sym full) ∙ f.values; marked = f.marked }
