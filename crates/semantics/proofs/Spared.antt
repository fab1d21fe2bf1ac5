-- What a match has found need not be looked up again. An input arc that takes one token of a colour that is marked, from a place that no other input arc
-- takes from, is covered; so a binding is enabled exactly where it is without that arc. And the colour of a match try that goes on is the one that the
-- arc takes under every binding that the try leads to, where all components are constants and lone variables.
-- The idea: sums over flows with the arc and without it differ at its own place and colour alone.
-- Rests on Enabling, Leaves and Extending.
use mathlib.Core.Path.{◌≡◌, refl, sym, ap, ◌∙◌, subst}
use mathlib.Core.Bool.{true, false, cond}
use mathlib.Core.Logic.{◌⊎◌, inl, inr}
use mathlib.Core.List.{List, [], ◌∷◌, ◌++◌}
use mathlib.Core.Option.{Option, none, some, bind}
use Prim.Native.Nat.{ℕ, ◌+◌, ◌≤◌, ◌<◌}
use native.Mathlib.Omega.{arith}
use borrow.Author.Tests.{eqb-true, ne_eqb}
use lib.Dec.{eqb}
use lib.IntN.{ℤ, pos}
use lib.ListN.{length, get_elem?, length-set}
use lib.Seq.{get_or-set_same}
use Rattle.semantics.specs.Lists.{Every}
use Rattle.semantics.specs.Word.{Range}
use Rattle.semantics.specs.Expression.{Environment, Expression, constant, variable, binary, load, value, values_of, bound}
use Rattle.semantics.specs.Net.{Arc, Transition}
use Rattle.semantics.specs.Order.{same_integer, same_tuple}
use Rattle.semantics.specs.Marking.{Counts}
use Rattle.semantics.specs.Enabling.{Flow, total, Moves, AllMove, Enabled, is_enabled}
use Rattle.semantics.specs.Tries.{Partial, partly, bind_new, agree, matched}
use Rattle.semantics.proofs.Tests.{either, and_left, and_right, same_test, cond_true, cond_false, integer_same, tuple_same}
use Rattle.semantics.proofs.Members.{none-some, at_length}
use Rattle.semantics.proofs.Enabling.{names, enabled_sound, enabled_complete}
use Rattle.semantics.proofs.Leaves.{new-set}
use Rattle.semantics.proofs.Extending.{matched_extends}

-- ── One arc among others ──

-- the sum with one flow more
abbrev with_flow : Flow → List Flow → ℕ → List ℤ → ℕ
with_flow f fs p c = cond (names p c f) f.amount 0 + total fs p c

module _ (table : List ℕ) (env : Environment) (a : Arc) where
  -- flows of arcs without one of them, and what that one adds to sums
  record Apart (xs ys : List Arc) (fs : List Flow) : Type 0 where
    pub own : Flow
    pub others : List Flow
    pub moves : Moves table env a own
    pub all : AllMove table env (xs ++ ys) others
    pub sums : (p : ℕ) (c : List ℤ) → total fs p c ≡ with_flow own others p c

  apart : (xs ys : List Arc) (fs : List Flow) → AllMove table env (xs ++ (a ∷ ys)) fs → Apart xs ys fs
  unfolding total
  apart [] ys [] h = absurd h
  apart [] ys (f ∷ fs) h = record { own = f; others = fs; moves = h.0; all = h.1; sums = λ p c. refl }
  apart (x ∷ xs) ys [] h = absurd h
  apart (x ∷ xs) ys (f ∷ fs) h =
      let k = apart xs ys fs h.1 in
      record { own = k.own; others = f ∷ k.others; moves = k.moves; all = (h.0, k.all); sums = λ p c. let s = k.sums p c in omega arith }

  -- flows of arcs with one more
  record Joined (xs ys : List Arc) (f : Flow) (gs : List Flow) : Type 0 where
    pub flows : List Flow
    pub all : AllMove table env (xs ++ (a ∷ ys)) flows
    pub sums : (p : ℕ) (c : List ℤ) → total flows p c ≡ with_flow f gs p c

  joined : (xs ys : List Arc) (f : Flow) (gs : List Flow) → Moves table env a f → AllMove table env (xs ++ ys) gs → Joined xs ys f gs
  unfolding total
  joined [] ys f gs m h = record { flows = f ∷ gs; all = (m, h); sums = λ p c. refl }
  joined (x ∷ xs) ys f [] m h = absurd h
  joined (x ∷ xs) ys f (g ∷ gs) m h =
      let k = joined xs ys f gs m h.1 in
      record { flows = g ∷ k.flows; all = (h.0, k.all); sums = λ p c. let s = k.sums p c in omega arith }

-- arcs of other places take nothing from a place
elsewhere : (table : List ℕ) (env : Environment) (q : ℕ) (as' : List Arc) (fs : List Flow) → AllMove table env as' fs → Every (λ (x : Arc). x.place ≡ q → ⊥) as' → (c : List ℤ) → total fs q c ≡ 0
unfolding total
elsewhere table env q [] [] h n c = refl
elsewhere table env q [] (f ∷ fs) h n c = absurd h
elsewhere table env q (x ∷ as') [] h n c = absurd h
elsewhere table env q (x ∷ as') (f ∷ fs) h n c =
    let k = elsewhere table env q as' fs h.1 n.1 c in
    let z : cond (names q c f) f.amount 0 ≡ 0 = rw (ne_eqb f.place q (λ e. n.0 (sym h.0.place ∙ e))) refl in
    omega arith

-- ── An arc that is spared ──

-- the transition with other input arcs
abbrev pub taking : Transition → List Arc → Transition
taking t as' = record { position = t.position; variables = t.variables; inputs = as'; outputs = t.outputs; guard = t.guard; plan = t.plan }

module _ (table : List ℕ) (t : Transition) (m : Counts) (b : List ℤ) (xs ys : List Arc) (a : Arc) (c : List ℤ) (i : t.inputs ≡ xs ++ (a ∷ ys)) (one : value table (bound b) a.coefficient ≡ some (pos 1)) (v : values_of table (bound b) a.components ≡ some c) (marked : 1 ≤ m a.place c) (alone : Every (λ (x : Arc). x.place ≡ a.place → ⊥) (xs ++ ys)) where
  abbrev f : Flow
  f = record { place = a.place; amount = 1; colour = c }

  without : Enabled table t m b → Enabled table (taking t (xs ++ ys)) m b
  without e =
      let k = apart table (bound b) a xs ys e.taken (subst (λ (as' : List Arc). AllMove table (bound b) as' e.taken) i e.inputs) in
      record { guard = e.guard; taken = k.others; inputs = k.all; covered = λ p d. let s = k.sums p d in let h = e.covered p d in omega arith }

  covered : (gs : List Flow) → AllMove table (bound b) (xs ++ ys) gs → (p : ℕ) (d : List ℤ) → total gs p d ≤ m p d → (names p d f ≡ true) ⊎ (names p d f ≡ false) → with_flow f gs p d ≤ m p d
  covered gs h p d k (inl n) =
      let q : a.place ≡ p = eqb-true a.place p (and_left (eqb a.place p) (same_tuple c d) n) in
      let w : c ≡ d = tuple_same c d (and_right (eqb a.place p) (same_tuple c d) n) in
      let z : total gs p d ≡ 0 = subst (λ (r : ℕ). total gs r d ≡ 0) q (elsewhere table (bound b) a.place (xs ++ ys) gs h alone d) in
      let o = cond_true {A = ℕ} (names p d f) 1 0 n in
      let g : 1 ≤ m p d = subst (λ (r : ℕ). 1 ≤ m r d) q (subst (λ (r : List ℤ). 1 ≤ m a.place r) w marked) in
      omega arith
  covered gs h p d k (inr n) = let o = cond_false {A = ℕ} (names p d f) 1 0 n in omega arith

  with_it : Enabled table (taking t (xs ++ ys)) m b → Enabled table t m b
  with_it e =
      let k = joined table (bound b) a xs ys f e.taken (record { place = refl; coefficient = one; components = v }) e.inputs in
      record {
        guard = e.guard;
        taken = k.flows;
        inputs = subst (λ (as' : List Arc). AllMove table (bound b) as' k.flows) (sym i) k.all;
        covered = λ p d. let s = k.sums p d in let h = covered e.taken e.inputs p d (e.covered p d) (either (names p d f)) in omega arith;
      }

  pub spared : is_enabled table (taking t (xs ++ ys)) m b ≡ is_enabled table t m b
  spared = same_test _ _ (λ h. enabled_complete table t m b (with_it (enabled_sound table (taking t (xs ++ ys)) m b h))) (λ h. enabled_complete table (taking t (xs ++ ys)) m b (without (enabled_sound table t m b h)))

-- ── The colour of a match try ──

-- a constant or a variable alone
abbrev pub Lone : Expression → Type 0
Lone (constant z) = Unit {0}
Lone (variable n) = Unit {0}
Lone (binary o x y) = ⊥
Lone (load x) = ⊥

module _ (table : List ℕ) (ranges : List Range) where
  first : (env : Environment) (e : Expression) (es : List Expression) (z : ℤ) (zs : List ℤ) → value table env e ≡ some z → values_of table env es ≡ some zs → values_of table env (e ∷ es) ≡ some (z ∷ zs)
  unfolding values_of bind
  first env e es z zs v w = rw (v, w) refl

  -- the values of the components under what a match try goes on with are the colour: each has its value when its turn comes, and keeps it
  pub matched-values : (es : List Expression) (zs : List ℤ) (p q : Partial) → length p ≡ length ranges → length es ≡ length zs → Every Lone es → matched ranges es zs p ≡ some q → values_of table (partly q) es ≡ some zs
  unfolding matched value values_of bind
  matched-values [] [] p q l w o h = refl
  matched-values [] (z ∷ zs) p q l w o h = absurd (omega arith)
  matched-values (e ∷ es) [] p q l w o h = absurd (omega arith)
  matched-values (constant k ∷ es) (z ∷ zs) p q l w o h = by (either (same_integer k z)) (matched-values es zs p q l (omega arith) o.1)
    where
      by : (same_integer k z ≡ true) ⊎ (same_integer k z ≡ false) → (matched ranges es zs p ≡ some q → values_of table (partly q) es ≡ some zs) → values_of table (partly q) (constant k ∷ es) ≡ some (z ∷ zs)
      by (inl s) rest = first (partly q) (constant k) es z zs (ap some (integer_same k z s)) (rest (rw s at h))
      by (inr s) rest = none-some (rw s at h)
  matched-values (variable k ∷ es) (z ∷ zs) p q l w o h = by (partly p k) refl h (λ p' l'. matched-values es zs p' q l' (omega arith) o.1)
    where
      Rest : Type 0
      Rest = (p' : Partial) → length p' ≡ length ranges → matched ranges es zs p' ≡ some q → values_of table (partly q) es ≡ some zs

      old-on : (old : ℤ) → partly p k ≡ some old → (same_integer old z ≡ true) ⊎ (same_integer old z ≡ false) → bind (cond (same_integer old z) (some p) none) (matched ranges es zs) ≡ some q → Rest → values_of table (partly q) (variable k ∷ es) ≡ some (z ∷ zs)
      old-on old e (inl s) g rest =
          let g' : matched ranges es zs p ≡ some q = rw s at g in
          first (partly q) (variable k) es z zs (matched_extends ranges es zs p q g' k z (e ∙ ap some (integer_same old z s))) (rest p l g')
      old-on old e (inr s) g rest = none-some (rw s at g)

      set_on : (u : Option Partial) → bind_new p k (get_elem? ranges k) z ≡ u → bind u (matched ranges es zs) ≡ some q → Rest → values_of table (partly q) (variable k ∷ es) ≡ some (z ∷ zs)
      set_on none n g rest = none-some g
      set_on (some p') n g rest =
          let s = new-set ranges p p' k z n in
          let d : k < length p = rw l (at_length ranges k s.range s.named) in
          let v : partly p' k ≡ some z = ap (λ (x : Partial). partly x k) s.set_to ∙ get_or-set_same p k (some z) none d in
          first (partly q) (variable k) es z zs (matched_extends ranges es zs p' q g k z v) (rest p' (ap length s.set_to ∙ length-set p k (some z) ∙ l) g)

      by : (u : Option ℤ) → partly p k ≡ u → bind (agree ranges p k u z) (matched ranges es zs) ≡ some q → Rest → values_of table (partly q) (variable k ∷ es) ≡ some (z ∷ zs)
      by (some old) e g rest = old-on old e (either (same_integer old z)) g rest
      by none e g rest = set_on (bind_new p k (get_elem? ranges k) z) refl g rest
  matched-values (binary u x y ∷ es) (z ∷ zs) p q l w o h = absurd o.0
  matched-values (load x ∷ es) (z ∷ zs) p q l w o h = absurd o.0
