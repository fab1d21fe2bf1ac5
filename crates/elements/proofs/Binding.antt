-- The rules of binding: what the marks are after an element's part was looked at. Each rule is one arm of the code.
-- A position has a lone variable or none, whatever is bound (`Lone`); in the loop over components what is still to be bound, with what is
-- marked, is what was to be bound at first.
use mathlib.Core.Path.{◌≡◌, refl, sym, ap, ◌∙◌}
use mathlib.Core.Logic.{◌⊎◌, inl, inr}
use Prim.Native.Nat.{ℕ, suc, ◌+◌, ◌-◌, ◌≤◌, ◌<◌}
use mathlib.Core.Bool.{Bool, true, false, cond, not, ◌||◌}
use mathlib.Core.List.{List, [], ◌∷◌, ◌++◌}
use native.Mathlib.Omega.{arith}
use Rattle.std.specs.Prelude.{Result, Ok, Err}
use borrow.Author.Rules.{rules}
use borrow.Author.Tests.{lt-ltb, le-ltb, lt-leb, le-leb, eqb-true, eqb-false}
use Rattle.std.proofs.Math.Bool.{or_comm}
use lib.Dec.{ltb, eqb}
use lib.ListN.{length, get_or, set, get_or-eq_default}
use lib.Seq.{get_or-set_same, get_or-set_other}
use Rattle.semantics.specs.Word.{between}
use Rattle.semantics.specs.Reading.{Reading, read, refused, word}
use Rattle.semantics.specs.Plan.{member}
use Rattle.semantics.proofs.Tests.{either, not_both, or_cases, or_left, or_right}
use Rattle.semantics.proofs.Partial.{member_append}
use Rattle.semantics.specs.declared.refusal.Refusal.{Refusal}
use Rattle.semantics.specs.Answer.{refusing}
use Rattle.expression.specs.Skip.{skipped}
use Rattle.kinds.specs.Taken.{fits_kind, IsTaken}
use Rattle.net.specs.Skim.{skim_expression}
use Rattle.net.proofs.Structures.{word-told}
use Rattle.elements.specs.Binds.{after, unbound_of, lone_at, lone_from, match_at}
use Rattle.elements.specs.Bound.{marked, non_empty, IsBound}

-- ── A lone variable ──

-- a test that decides nothing
pub cond_same : {A : Type 0} (t : Bool) (x : A) → cond t x x ≡ x
cond_same true x = refl
cond_same false x = refl

-- a test turned round, with its answers exchanged
pub unless : (n : ℕ) (t : Bool) → cond (not t) (n ∷ []) [] ≡ cond t [] (n ∷ [])
unless n true = refl
unless n false = refl

pub bound-none : (marks : List Bool) → IsBound marks [] false marks
unfolding member
bound-none marks = record { some = refl; marks = λ k. refl }

bound-new : (marks : List Bool) (n : ℕ) → n < length marks → IsBound marks (n ∷ []) true (set marks n true)
unfolding member
bound-new marks n l = record { some = refl; marks = λ k. by k (either (eqb n k)) }
  where
    by : (k : ℕ) → (eqb n k ≡ true) ⊎ (eqb n k ≡ false) → marked (set marks n true) k ≡ ((eqb n k || false) || marked marks k)
    by k (inl q) = rw (q, ← eqb-true n k q) (get_or-set_same marks n true false l)
    by k (inr q) = rw q (get_or-set_other marks n k true false (λ r. eqb-false n k q (sym r)))

module _ (v : ℕ) (marks : List Bool) {n : ℕ} where
  pub variable-beyond : v ≤ n → IsBound marks (unbound_of v (marked marks) n) false marks
  variable-beyond h = rw (le-ltb n v h) (bound-none marks)

  pub variable-bound : n < v → marked marks n ≡ true → IsBound marks (unbound_of v (marked marks) n) false marks
  variable-bound h m = rw (lt-ltb n v h, m) (bound-none marks)

  pub variable-new : n < v → v ≤ length marks → marked marks n ≡ false → IsBound marks (unbound_of v (marked marks) n) true (set marks n true)
  variable-new h i m = rw (lt-ltb n v h, m) (bound-new marks n (omega arith))

module _ (ws : List ℕ) (v at : ℕ) (marks : List Bool) {t : Result ℕ Refusal} (w : IsTaken ws at 8 t) where
  pub lone-refused : {e : Refusal} → t ≡ Err e → IsBound marks (lone_at ws v (marked marks) at) false marks
  lone-refused e = rw (word-told w e) (bound-none marks)

  pub lone-taken : {n : ℕ} {r : Bool} {marks' : List Bool} → t ≡ Ok n → IsBound marks (unbound_of v (marked marks) n) r marks' → IsBound marks (lone_at ws v (marked marks) at) r marks'
  lone-taken e x = rw (word-told w e) x

-- a position has no lone variable, or one, whatever is bound
pub data Lone (ws : List ℕ) (v at : ℕ) : Type 0 where
  nobody : ((is_bound : ℕ → Bool) → lone_at ws v is_bound at ≡ []) → Lone ws v at
  somebody : (m : ℕ) → ((is_bound : ℕ → Bool) → lone_at ws v is_bound at ≡ cond (is_bound m) [] (m ∷ [])) → Lone ws v at

pub lone-here : (ws : List ℕ) (v at : ℕ) → Lone ws v at
lone-here ws v at = by (word ws 8 (fits_kind 8) at) refl
  where
    tested : (m next : ℕ) → word ws 8 (fits_kind 8) at ≡ read m next → (ltb m v ≡ true) ⊎ (ltb m v ≡ false) → Lone ws v at
    tested m next e (inl h) = somebody m (λ is_bound. rw (e, h) (unless m (is_bound m)))
    tested m next e (inr h) = nobody (λ is_bound. rw (e, h))

    by : (x : Reading ℕ) → word ws 8 (fits_kind 8) at ≡ x → Lone ws v at
    by (refused n q) e = nobody (λ is_bound. rw e)
    by (read m next) e = tested m next e (either (ltb m v))

-- ── Several, one after the other ──

non_empty_append : (xs ys : List ℕ) → non_empty (xs ++ ys) ≡ (non_empty xs || non_empty ys)
non_empty_append [] ys = refl
non_empty_append (x ∷ xs) ys = refl

-- what is ahead from the position `next` on, with what `marks` has, is what was ahead at first with what `marks₀` had; `some` says whether
-- one was bound so far
pub record Binding (ws : List ℕ) (v : ℕ) (marks₀ : List Bool) (n at i next : ℕ) (some : Bool) (marks : List Bool) : Type 0 where
  pub inside : i ≤ n
  pub same_some : (non_empty (lone_from ws v (marked marks₀) (n - i) next) || some) ≡ non_empty (lone_from ws v (marked marks₀) n at)
  pub same-marks : (k : ℕ) → (member (lone_from ws v (marked marks₀) (n - i) next) k || marked marks k) ≡ (member (lone_from ws v (marked marks₀) n at) k || marked marks₀ k)
  pub kept : (k : ℕ) → marked marks₀ k ≡ true → marked marks k ≡ true
  pub fresh : (k : ℕ) → marked marks k ≡ true → marked marks₀ k ≡ false → some ≡ true

pub binding-end : {ws : List ℕ} {v : ℕ} {marks₀ : List Bool} {n at i next : ℕ} {some : Bool} {marks : List Bool} → Binding ws v marks₀ n at i next some marks → n ≤ i → IsBound marks₀ (lone_from ws v (marked marks₀) n at) some marks
unfolding lone_from member
binding-end {n = n} {i = i} a h =
    let d : n - i ≡ 0 = omega arith in
    record { some = rw d at a.same_some; marks = λ k. rw d at (a.same-marks k) }

module _ {ws : List ℕ} {v : ℕ} {marks₀ : List Bool} {n at i next : ℕ} {some t : Bool} {marks marks' : List Bool} (a : Binding ws v marks₀ n at i next some marks) (h : i < n) (x : IsBound marks (lone_at ws v (marked marks) next) t marks') where
  -- the lone variable of this position, by the marks at first and by those now
  old : List ℕ
  old = lone_at ws v (marked marks₀) next

  new : List ℕ
  new = lone_at ws v (marked marks) next

  one-some : (non_empty new || some) ≡ (non_empty old || some)
  unfolding old new
  one-some = by (lone-here ws v next)
    where
      one : (m : ℕ) → (marked marks m ≡ true) ⊎ (marked marks m ≡ false) → (marked marks₀ m ≡ true) ⊎ (marked marks₀ m ≡ false) → (non_empty (cond (marked marks m) [] (m ∷ [])) || some) ≡ (non_empty (cond (marked marks₀ m) [] (m ∷ [])) || some)
      one m (inl p) (inl q) = rw (p, q)
      one m (inl p) (inr q) = rw (p, q, a.fresh m p q)
      one m (inr p) (inl q) = absurd (not_both (marked marks m) (a.kept m q) p)
      one m (inr p) (inr q) = rw (p, q)

      by : Lone ws v next → (non_empty (lone_at ws v (marked marks) next) || some) ≡ (non_empty (lone_at ws v (marked marks₀) next) || some)
      by (nobody f) = rw (f (marked marks), f (marked marks₀))
      by (somebody m f) = rw (f (marked marks), f (marked marks₀)) (one m (either (marked marks m)) (either (marked marks₀ m)))

  one-marked : (k : ℕ) → (member new k || marked marks k) ≡ (member old k || marked marks k)
  unfolding old new member
  one-marked k = by (lone-here ws v next)
    where
      known : (m : ℕ) → marked marks m ≡ true → (eqb m k ≡ true) ⊎ (eqb m k ≡ false) → marked marks k ≡ ((eqb m k || false) || marked marks k)
      known m p (inl q) = let e : marked marks k ≡ true = rw (← eqb-true m k q) p in rw (q, e)
      known m p (inr q) = rw q

      one : (m : ℕ) → (marked marks m ≡ true) ⊎ (marked marks m ≡ false) → (marked marks₀ m ≡ true) ⊎ (marked marks₀ m ≡ false) → (member (cond (marked marks m) [] (m ∷ [])) k || marked marks k) ≡ (member (cond (marked marks₀ m) [] (m ∷ [])) k || marked marks k)
      one m (inl p) (inl q) = rw (p, q)
      one m (inl p) (inr q) = rw (p, q) (known m p (either (eqb m k)))
      one m (inr p) (inl q) = absurd (not_both (marked marks m) (a.kept m q) p)
      one m (inr p) (inr q) = rw (p, q)

      by : Lone ws v next → (member (lone_at ws v (marked marks) next) k || marked marks k) ≡ (member (lone_at ws v (marked marks₀) next) k || marked marks k)
      by (nobody f) = rw (f (marked marks), f (marked marks₀))
      by (somebody m f) = rw (f (marked marks), f (marked marks₀)) (one m (either (marked marks m)) (either (marked marks₀ m)))

  regroup : (p q s : Bool) → (q || (p || s)) ≡ ((p || q) || s)
  regroup true true s = refl
  regroup true false s = refl
  regroup false true s = refl
  regroup false false s = refl

  -- with `ahead` still to come after this position, nothing is lost
  turned_some : (ahead : List ℕ) → (non_empty ahead || (t || some)) ≡ (non_empty (lone_at ws v (marked marks₀) next ++ ahead) || some)
  unfolding old new
  turned_some ahead = ap (λ (u : Bool). non_empty ahead || u) (ap (λ (u : Bool). u || some) x.some ∙ one-some) ∙ regroup (non_empty old) (non_empty ahead) some ∙ ap (λ (u : Bool). u || some) (sym (non_empty_append old ahead))

  turned_marks : (ahead : List ℕ) (k : ℕ) → (member ahead k || marked marks' k) ≡ (member (lone_at ws v (marked marks₀) next ++ ahead) k || marked marks k)
  unfolding old new
  turned_marks ahead k = ap (λ (u : Bool). member ahead k || u) (x.marks k ∙ one-marked k) ∙ regroup (member old k) (member ahead k) (marked marks k) ∙ ap (λ (u : Bool). u || marked marks k) (sym (member_append old ahead k))

  turned_kept : (k : ℕ) → marked marks₀ k ≡ true → marked marks' k ≡ true
  turned_kept k p = x.marks k ∙ or_right (member (lone_at ws v (marked marks) next) k) (marked marks k) (a.kept k p)

  turned_fresh : (k : ℕ) → marked marks' k ≡ true → marked marks₀ k ≡ false → (t || some) ≡ true
  unfolding member
  turned_fresh k p q = by (or_cases (member (lone_at ws v (marked marks) next) k) (marked marks k) (sym (x.marks k) ∙ p))
    where
      some-member : (ns : List ℕ) → member ns k ≡ true → non_empty ns ≡ true
      some-member [] e = e
      some-member (m ∷ ms) e = refl

      by : (member (lone_at ws v (marked marks) next) k ≡ true) ⊎ (marked marks k ≡ true) → (t || some) ≡ true
      by (inl e) = or_left t some (x.some ∙ some-member (lone_at ws v (marked marks) next) e)
      by (inr e) = or_right t some (a.fresh k e q)

  -- what is noted: one was bound before, or just now
  noted : (some || t) ≡ (t || some)
  noted = or_comm some t

  pub binding_turn : {s : Result ℕ Refusal} {p : ℕ} → skipped s ≡ skim_expression ws v next → s ≡ Ok p → Binding ws v marks₀ n at (i + 1) p (some || t) marks'
  unfolding lone_from
  binding_turn {s} {p} y e =
      let d : n - i ≡ suc (n - (i + 1)) = omega arith in
      let z : skim_expression ws v next ≡ read tt p = sym y ∙ ap skipped e in
      rw noted
      (record {
        inside = omega arith;
        same_some = turned_some (lone_from ws v (marked marks₀) (n - (i + 1)) p) ∙ (rw (d, z) at a.same_some);
        same-marks = λ k. turned_marks (lone_from ws v (marked marks₀) (n - (i + 1)) p) k ∙ (rw (d, z) at (a.same-marks k));
        kept = turned_kept;
        fresh = turned_fresh;
      })

  -- where the expression cannot be passed over nothing more is bound
  pub binding-stop : {s : Result ℕ Refusal} {r : Refusal} → skipped s ≡ skim_expression ws v next → s ≡ Err r → IsBound marks₀ (lone_from ws v (marked marks₀) n at) (some || t) marks'
  unfolding lone_from member
  binding-stop {s} {r} y e =
      let d : n - i ≡ suc (n - (i + 1)) = omega arith in
      let z : skim_expression ws v next ≡ refusing r = sym y ∙ ap skipped e in
      record { some = noted ∙ turned_some [] ∙ (rw (d, z) at a.same_some); marks = λ k. turned_marks [] k ∙ (rw (d, z) at (a.same-marks k)) }

-- ── A match ──

module _ (ws widths : List ℕ) (v at : ℕ) (marks : List Bool) {t : Result ℕ Refusal} (w : IsTaken ws at 5 t) where
  nothing : match_at ws widths v (marked marks) at ≡ [] → IsBound marks (match_at ws widths v (marked marks) at) false marks
  nothing e = rw e (bound-none marks)

  pub match-refused : {e : Refusal} → t ≡ Err e → IsBound marks (match_at ws widths v (marked marks) at) false marks
  unfolding match_at
  match-refused e = nothing (rw (word-told w e))

  pub match_nowhere : {q : ℕ} → t ≡ Ok q → length widths ≤ q → IsBound marks (match_at ws widths v (marked marks) at) false marks
  unfolding match_at lone_from
  match_nowhere {q} e h = nothing (rw (word-told w e, get_or-eq_default widths 0 {n = q} h) (by (word ws 7 (fits_kind 7) (at + 1))))
    where
      by : (x : Reading ℕ) → after x (λ z from. cond (between 1 8191 z) [] []) ≡ []
      by (read z from) = cond_same (between 1 8191 z) []
      by (refused n p) = refl

  module _ {q : ℕ} (e : t ≡ Ok q) {u : Result ℕ Refusal} (x : IsTaken ws (at + 1) 7 u) where
    pub coefficient-refused : {e : Refusal} → u ≡ Err e → IsBound marks (match_at ws widths v (marked marks) at) false marks
    unfolding match_at
    coefficient-refused d = nothing (rw (word-told w e, word-told x d))

    pub coefficient-low : {z : ℕ} → u ≡ Ok z → z < 1 → IsBound marks (match_at ws widths v (marked marks) at) false marks
    unfolding match_at
    coefficient-low {z} d h = nothing (rw (word-told w e, word-told x d, lt-leb 1 z h))

    pub coefficient-high : {z : ℕ} → u ≡ Ok z → 1 ≤ z → 8191 < z → IsBound marks (match_at ws widths v (marked marks) at) false marks
    unfolding match_at
    coefficient-high {z} d h i = nothing (rw (word-told w e, word-told x d, le-leb 1 z h, lt-leb z 8191 i))

    pub match-each : {z : ℕ} {r : Bool} {marks' : List Bool} → u ≡ Ok z → 1 ≤ z → z ≤ 8191 → IsBound marks (lone_from ws v (marked marks) (get_or widths q 0) (at + 2)) r marks' → IsBound marks (match_at ws widths v (marked marks) at) r marks'
    unfolding match_at
    match-each {z} d h i y =
        let f : at + 1 + 1 ≡ at + 2 = omega arith in
        rw (word-told w e, word-told x d, le-leb 1 z h, le-leb z 8191 i, f) y

pub ruleset binding = (rules, variable-beyond, variable-bound, variable-new, lone-refused, lone-taken, binding-end, match-refused, match_nowhere, coefficient-refused, coefficient-low, coefficient-high, match-each)
