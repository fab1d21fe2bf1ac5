-- 01, "Enabling and stepping": the test of enabling passes exactly when the proposition of source 001, Definition 4.4 holds.
-- Conjunct by conjunct and arc by arc, a test or a computed flow says what the proposition says. Sums need one idea: where no flow
-- names a place and colour, the sum is 0, so it is enough to compare at the places and colours that flows name.
-- Then two laws of enabling: a colour that an input arc takes is marked, and the sides of an equation have one value.
-- Rests on Tests.
use mathlib.Core.Path.{◌≡◌, refl, sym, ap, ◌∙◌, subst, subst₂}
use mathlib.Core.Bool.{Bool, true, false, not, ◌&&◌}
use mathlib.Core.Logic.{◌⊎◌, inl, inr}
use mathlib.Core.List.Memᴰ
use mathlib.Core.List.{List, [], ◌∷◌, Memᴰ}
use mathlib.Core.Option.{Option, none, some, bind, bind-eq-some_iff, mem_unique, none-ne-some, some-injective}
use Prim.Native.Nat.{ℕ, suc, ◌≤◌}
use native.Mathlib.Omega.{arith}
use borrow.Author.Tests.{leb-true, le-leb, eqb-true, eq-eqb, not-true, not-false}
use lib.Dec.{T, eqb}
use lib.IntN.{ℤ, pos, negsuc}
use lib.Signed.{lt_z, le_z, lt_z_yes, le_z_yes}
use Rattle.semantics.specs.Lists.{every}
use Rattle.semantics.specs.Expression.{Environment, value, values_of, bound}
use Rattle.semantics.specs.Net.{Arc, Relation, equal, unequal, less, at_most, Conjunct, Transition}
use Rattle.semantics.specs.Order.{same_integer, same_tuple}
use Rattle.semantics.specs.Marking.{Counts}
use Rattle.semantics.specs.Enabling.{Flow, total, Related, Holds, Moves, AllMove, Enabled, related, compared, holds, flow_by, flow, flows, covers, covers_all, is_enabled}
use Rattle.semantics.proofs.Tests.{false_true, either, not_both, and_left, and_right, and_both, cond_true, cond_false, integer_same, integer_refl, tuple_same, tuple_refl, every_at, every_of, Every-at, every_fails, every_sound, every_complete}

-- ── Conjuncts ──

passed : (t : Bool) → T t → t ≡ true
passed true h = refl
passed false h = absurd h

related_complete : (r : Relation) (x y : ℤ) → Related r x y → related r x y ≡ true
related_complete equal x y h = subst (λ (z : ℤ). same_integer x z ≡ true) h (integer_refl x)
related_complete unequal x y h = by (either (same_integer x y))
  where
    by : (same_integer x y ≡ true) ⊎ (same_integer x y ≡ false) → not (same_integer x y) ≡ true
    by (inl e) = absurd (h (integer_same x y e))
    by (inr e) = ap not e
related_complete less x y h = passed (lt_z x y) h.lt
related_complete at_most x y h = passed (le_z x y) h.le

related_sound : (r : Relation) (x y : ℤ) → related r x y ≡ true → Related r x y
related_sound equal x y e = integer_same x y e
related_sound unequal x y e = λ q. not_both (same_integer x y) (related_complete equal x y q) (not-true (same_integer x y) e)
related_sound less x y e = lt_z_yes (subst T (sym e) tt)
related_sound at_most x y e = le_z_yes (subst T (sym e) tt)

pub holds_sound : (table : List ℕ) (env : Environment) (c : Conjunct) → holds table env c ≡ true → Holds table env c
unfolding holds
holds_sound table env c e = by (value table env c.left) (value table env c.right) refl refl e
  where
    by : (o u : Option ℤ) → value table env c.left ≡ o → value table env c.right ≡ u → compared c.relation o u ≡ true → Holds table env c
    by (some x) (some y) p q e = record { x = x; y = y; left = p; right = q; related = related_sound c.relation x y e }
    by (some x) none p q e = false_true e
    by none u p q e = false_true e

pub holds_complete : (table : List ℕ) (env : Environment) (c : Conjunct) → Holds table env c → holds table env c ≡ true
unfolding holds
holds_complete table env c h = rw (h.left, h.right) (related_complete c.relation h.x h.y h.related)

-- ── Arcs ──

module _ (table : List ℕ) (env : Environment) where
  pub flow-moves : (a : Arc) (f : Flow) → flow table env a ≡ some f → Moves table env a f
  unfolding flow bind-eq-some_iff
  flow-moves a f e =
      let h = (bind-eq-some_iff (value table env a.coefficient) _).0 e in
      let k = (bind-eq-some_iff (values_of table env a.components) _).0 h.2 in
      by h.0 k.0 h.1 k.1 k.2
    where
      by : (z : ℤ) (c : List ℤ) → value table env a.coefficient ≡ some z → values_of table env a.components ≡ some c → flow_by a.place z c ≡ some f → Moves table env a f
      by (pos n) c p q e = subst (Moves table env a) (cc) (record { place = refl; coefficient = p; components = q })
      by (negsuc n) c p q e = absurd (none-ne-some f e)

  pub moves-flow : (a : Arc) (f : Flow) → Moves table env a f → flow table env a ≡ some f
  unfolding flow bind
  moves-flow a f h = rw (h.coefficient, h.components, ← h.place) refl

  pub flows_move : (arcs : List Arc) (fs : List Flow) → flows table env arcs ≡ some fs → AllMove table env arcs fs
  unfolding flows bind-eq-some_iff
  flows_move [] fs e = subst (AllMove table env []) (some-injective [] fs e) tt
  flows_move (a ∷ arcs) fs e =
      let h = (bind-eq-some_iff (flow table env a) _).0 e in
      let k = (bind-eq-some_iff (flows table env arcs) _).0 h.2 in
      let q : h.0 ∷ k.0 ≡ fs = cc in
      subst (AllMove table env (a ∷ arcs)) q (flow-moves a h.0 h.1, flows_move arcs k.0 k.1)

  pub move_flows : (arcs : List Arc) (fs : List Flow) → AllMove table env arcs fs → flows table env arcs ≡ some fs
  unfolding flows bind
  move_flows [] [] h = refl
  move_flows [] (f ∷ fs) h = absurd h
  move_flows (a ∷ arcs) [] h = absurd h
  move_flows (a ∷ arcs) (f ∷ fs) h = rw (moves-flow a f h.0, move_flows arcs fs h.1) refl

  -- arcs move one list of flows
  pub moves_unique : (arcs : List Arc) (fs gs : List Flow) → AllMove table env arcs fs → AllMove table env arcs gs → fs ≡ gs
  moves_unique arcs fs gs h k = mem_unique (move_flows arcs fs h) (move_flows arcs gs k)

  -- the flow of an arc is among those of all arcs
  pub flow_among : (arcs : List Arc) (fs : List Flow) {a : Arc} → AllMove table env arcs fs → Memᴰ a arcs → (f : Flow) × Memᴰ f fs × Moves table env a f
  flow_among [] fs h k = absurd (Memᴰ.not-nil k)
  flow_among (a ∷ arcs) [] h k = absurd h
  flow_among (b ∷ arcs) (f ∷ fs) {a} h (Memᴰ.head q) = (f, Memᴰ.head refl, subst (λ (x : Arc). Moves table env x f) (sym q) h.0)
  flow_among (b ∷ arcs) (f ∷ fs) h (Memᴰ.tail k) = let r = flow_among arcs fs h.1 k in (r.0, Memᴰ.tail r.1, r.2)

-- ── Sums ──

-- a flow names a place and a colour
abbrev pub names : ℕ → List ℤ → Flow → Bool
names p c f = eqb f.place p && same_tuple f.colour c

-- no flow names them
abbrev pub unnamed : ℕ → List ℤ → List Flow → Bool
unnamed p c fs = every (λ f. not (names p c f)) fs

names_same : (p : ℕ) (c : List ℤ) (f : Flow) → names p c f ≡ true → (f.place ≡ p) × (f.colour ≡ c)
names_same p c f e = (eqb-true f.place p (and_left _ _ e), tuple_same f.colour c (and_right (eqb f.place p) _ e))

names_own : (f : Flow) → names f.place f.colour f ≡ true
names_own f = and_both _ _ (eq-eqb f.place f.place refl) (tuple_refl f.colour)

pub total_unnamed : (fs : List Flow) (p : ℕ) (c : List ℤ) → unnamed p c fs ≡ true → total fs p c ≡ 0
unfolding total every
total_unnamed [] p c e = refl
total_unnamed (f ∷ fs) p c e =
    let here = cond_false (names p c f) f.amount 0 (not-true (names p c f) (and_left _ _ e)) in
    let later = total_unnamed fs p c (and_right (not (names p c f)) _ e) in
    omega arith

-- what holds at each place and colour that a flow names, and where the sum is 0, holds everywhere
pub at_named : (P : ℕ → List ℤ → Type 0) (fs : List Flow) → ((f : Flow) → Memᴰ f fs → P f.place f.colour) → ((p : ℕ) (c : List ℤ) → total fs p c ≡ 0 → P p c) → (p : ℕ) (c : List ℤ) → P p c
at_named P fs named elsewhere p c = by (either (unnamed p c fs))
  where
    by : (unnamed p c fs ≡ true) ⊎ (unnamed p c fs ≡ false) → P p c
    by (inl e) = elsewhere p c (total_unnamed fs p c e)
    by (inr e) =
        let h = every_fails (λ f. not (names p c f)) fs e in
        let q = names_same p c h.0 (not-false (names p c h.0) h.2) in
        subst₂ P q.0 q.1 (named h.0 h.1)

-- a flow is no more than the sum at its place and colour
pub amount-within : (fs : List Flow) {f : Flow} → Memᴰ f fs → f.amount ≤ total fs f.place f.colour
unfolding total
amount-within [] k = absurd (Memᴰ.not-nil k)
amount-within (g ∷ fs) {f} (Memᴰ.head q) =
    let own = subst (λ (x : Flow). names f.place f.colour x ≡ true) q (names_own f) in
    let here = cond_true (names f.place f.colour g) g.amount 0 own in
    let same : f.amount ≡ g.amount = cc in
    omega arith
amount-within (g ∷ fs) {f} (Memᴰ.tail k) = let h = amount-within fs k in omega arith

pub covers_all_lem : (m : Counts) (fs : List Flow) → covers m fs ≡ true → (p : ℕ) (c : List ℤ) → total fs p c ≤ m p c
unfolding covers
covers_all_lem m fs e = at_named (λ p c. total fs p c ≤ m p c) fs (λ f k. leb-true _ _ (every_at _ e k)) (λ p c z. omega arith)

pub all_covers : (m : Counts) (fs : List Flow) → ((p : ℕ) (c : List ℤ) → total fs p c ≤ m p c) → covers m fs ≡ true
unfolding covers
all_covers m fs h = every_of _ fs (λ f k. le-leb _ _ (h f.place f.colour))

-- ── Enabling ──

pub enabled_sound : (table : List ℕ) (t : Transition) (m : Counts) (b : List ℤ) → is_enabled table t m b ≡ true → Enabled table t m b
unfolding is_enabled
enabled_sound table t m b e = by (flows table (bound b) t.inputs) refl (and_right (every (holds table (bound b)) t.guard) _ e)
  where
    by : (o : Option (List Flow)) → flows table (bound b) t.inputs ≡ o → covers_all m o ≡ true → Enabled table t m b
    by none p h = false_true h
    by (some fs) p h =
        record {
          guard = every_sound (holds table (bound b)) (Holds table (bound b)) t.guard (holds_sound table (bound b)) (and_left _ _ e);
          taken = fs;
          inputs = flows_move table (bound b) t.inputs fs p;
          covered = covers_all_lem m fs h;
        }

pub enabled_complete : (table : List ℕ) (t : Transition) (m : Counts) (b : List ℤ) → Enabled table t m b → is_enabled table t m b ≡ true
unfolding is_enabled
enabled_complete table t m b h =
    let p = every_complete (holds table (bound b)) (Holds table (bound b)) t.guard (holds_complete table (bound b)) h.guard in
    let q = move_flows table (bound b) t.inputs h.taken h.inputs in
    rw (p, q) (all_covers m h.taken h.covered)

module _ (table : List ℕ) (t : Transition) (m : Counts) (b : List ℤ) (e : Enabled table t m b) where
  -- the colour of an input arc with a coefficient of 1 or more is marked
  pub enabled-marks : (a : Arc) → Memᴰ a t.inputs → (n : ℕ) → value table (bound b) a.coefficient ≡ some (pos (suc n)) → (c : List ℤ) × (values_of table (bound b) a.components ≡ some c) × (1 ≤ m a.place c)
  enabled-marks a k n v = let h = flow_among table (bound b) t.inputs e.taken e.inputs k in by h.0 h.1 h.2
    where
      by : (f : Flow) → Memᴰ f e.taken → Moves table (bound b) a f → (c : List ℤ) × (values_of table (bound b) a.components ≡ some c) × (1 ≤ m a.place c)
      by f i h =
          let v' = h.coefficient in
          let much : f.amount ≡ suc n = cc in
          let sum = amount-within e.taken i in
          let marked = e.covered f.place f.colour in
          (f.colour, h.components, rw (← h.place) (omega arith))

  -- the sides of an equation have one value
  pub enabled-equal : (c : Conjunct) → Memᴰ c t.guard → c.relation ≡ equal → (z : ℤ) × (value table (bound b) c.left ≡ some z) × (value table (bound b) c.right ≡ some z)
  enabled-equal c k q =
      let h = Every-at (Holds table (bound b)) e.guard k in
      let same : h.x ≡ h.y = subst (λ (r : Relation). Related r h.x h.y) q h.related in
      (h.x, h.left, h.right ∙ ap some (sym same))
