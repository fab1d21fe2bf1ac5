-- 01, "Enabling and stepping": enabled bindings, steps and their effect. Each is stated as a proposition, in the form of source 001,
-- Definition 4.4, and as a test that computes. proofs/Enabling.antt shows that the two agree for enabling at all counts, and
-- proofs/Step.antt for steps at counts of at most 16,383, which every marking has.
-- Rests on Net, Order and Marking.
use Rattle.std.specs.Prelude.{◌≡◌, ℕ, ◌+◌, ◌-◌, ◌≤◌, Bool, true, false, cond, not, ◌&&◌, ◌||◌, List, [], ◌∷◌, leb, eqb, ℤ, pos, negsuc, ◌<ℤ◌, ◌≤ℤ◌}
use Rattle.std.proofs.Math.Option.{Option, none, some, bind}
use Rattle.std.specs.Int.Signed.{lt_z, le_z}
use Rattle.semantics.specs.Refusal.{not_enabled, bad_output, over_count, most_count}
use Rattle.semantics.specs.Lists.{Every, every}
use Rattle.semantics.specs.Expression.{Environment, value, values_of, bound}
use Rattle.semantics.specs.Net.{Arc, Relation, equal, unequal, less, at_most, Conjunct, Transition, Net, ranges_at}
use Rattle.semantics.specs.Order.{same_integer, same_tuple, in_ranges}
use Rattle.semantics.specs.Marking.{Counts}

-- What an arc moves under a binding: so many tokens of a colour, to or from a place.
pub record Flow : Type 0 where
  pub place : ℕ
  pub amount : ℕ
  pub colour : List ℤ

-- "the sum of the coefficients of input arcs naming" a place and colour
unfoldable pub total : List Flow → Counts
total [] p c = 0
total (f ∷ fs) p c = cond (eqb f.place p && same_tuple f.colour c) f.amount 0 + total fs p c

-- "count - inputs + outputs"
abbrev pub effect : Counts → List Flow → List Flow → Counts
effect m ins outs = λ p c. m p c - total ins p c + total outs p c

-- ── Propositions ──

-- what the relations of conjuncts say
abbrev pub Related : Relation → ℤ → ℤ → Type 0
Related equal x y = x ≡ y
Related unequal x y = ¬ (x ≡ y)
Related less x y = x <ℤ y
Related at_most x y = x ≤ℤ y

-- a conjunct holds: both sides have values, and these are related
pub record Holds (table : List ℕ) (env : Environment) (c : Conjunct) : Type 0 where
  pub x : ℤ
  pub y : ℤ
  pub left : value table env c.left ≡ some x
  pub right : value table env c.right ≡ some y
  pub related : Related c.relation x y

-- an arc moves a flow: its expressions have values, and the coefficient is not negative
pub record Moves (table : List ℕ) (env : Environment) (a : Arc) (f : Flow) : Type 0 where
  pub place : f.place ≡ a.place
  pub coefficient : value table env a.coefficient ≡ some (pos f.amount)
  pub components : values_of table env a.components ≡ some f.colour

-- arcs move flows, one each
abbrev pub AllMove : List ℕ → Environment → List Arc → List Flow → Type 0
AllMove table env [] [] = Unit {0}
AllMove table env [] (f ∷ fs) = ⊥
AllMove table env (a ∷ as') [] = ⊥
AllMove table env (a ∷ as') (f ∷ fs) = Moves table env a f × AllMove table env as' fs

-- "A binding is enabled when every guard and input-arc expression has a value, every conjunct holds, no input coefficient is negative,
-- and for each place and colour (tuple of components) the sum of the coefficients of input arcs naming them is at most the count marked."
pub record Enabled (table : List ℕ) (t : Transition) (m : Counts) (b : List ℤ) : Type 0 where
  pub guard : Every (Holds table (bound b)) t.guard
  pub taken : List Flow
  pub inputs : AllMove table (bound b) t.inputs taken
  pub covered : (p : ℕ) (c : List ℤ) → total taken p c ≤ m p c

-- "each colour of positive coefficient in its place's ranges"
abbrev pub Fits : Net → Flow → Type 0
Fits net f = 1 ≤ f.amount → in_ranges (ranges_at net.places f.place) f.colour ≡ true

-- "output expressions have values, with no negative output coefficient, each colour of positive coefficient in its place's ranges"
pub record Delivers (table : List ℕ) (net : Net) (t : Transition) (b : List ℤ) : Type 0 where
  pub made : List Flow
  pub outputs : AllMove table (bound b) t.outputs made
  pub placed : Every (Fits net) made

-- "A step is an enabled binding whose output expressions have values .., and each count after (count - inputs + outputs) at most 16,383."
pub record Step (table : List ℕ) (net : Net) (t : Transition) (m : Counts) (b : List ℤ) : Type 0 where
  pub enabled : Enabled table t m b
  pub delivers : Delivers table net t b
  pub within : (p : ℕ) (c : List ℤ) → effect m enabled.taken delivers.made p c ≤ most_count

-- ── Tests that compute ──

abbrev pub related : Relation → ℤ → ℤ → Bool
related equal x y = same_integer x y
related unequal x y = not (same_integer x y)
related less x y = lt_z x y
related at_most x y = le_z x y

abbrev pub compared : Relation → Option ℤ → Option ℤ → Bool
compared r (some x) (some y) = related r x y
compared r (some x) none = false
compared r none y = false

unfoldable pub holds : List ℕ → Environment → Conjunct → Bool
holds table env c = compared c.relation (value table env c.left) (value table env c.right)

-- the flow of an arc with a coefficient and a colour, none where the coefficient is negative
abbrev pub flow_by : ℕ → ℤ → List ℤ → Option Flow
flow_by p (pos n) c = some (record { place = p; amount = n; colour = c })
flow_by p (negsuc n) c = none

unfoldable pub flow : List ℕ → Environment → Arc → Option Flow
flow table env a = bind (value table env a.coefficient) (λ z. bind (values_of table env a.components) (λ c. flow_by a.place z c))

unfoldable pub flows : List ℕ → Environment → List Arc → Option (List Flow)
flows table env [] = some []
flows table env (a ∷ as') = bind (flow table env a) (λ f. bind (flows table env as') (λ fs. some (f ∷ fs)))

-- the marking covers the flows; it is enough to look at the colours that they name
unfoldable pub covers : Counts → List Flow → Bool
covers m fs = every (λ f. leb (total fs f.place f.colour) (m f.place f.colour)) fs

abbrev pub covers_all : Counts → Option (List Flow) → Bool
covers_all m none = false
covers_all m (some fs) = covers m fs

unfoldable pub is_enabled : List ℕ → Transition → Counts → List ℤ → Bool
is_enabled table t m b = every (holds table (bound b)) t.guard && covers_all m (flows table (bound b) t.inputs)

-- where an occurrence leads: to new counts, or it is refused with a number
pub data Firing : Type 0 where
  moved : Counts → Firing
  stopped : ℕ → Firing

abbrev pub fits : Net → Flow → Bool
fits net f = eqb f.amount 0 || in_ranges (ranges_at net.places f.place) f.colour

-- no count passes 16,383; only the colours that outputs name can grow
abbrev pub within_counts : Counts → List Flow → List Flow → Bool
within_counts m ins outs = every (λ f. leb (effect m ins outs f.place f.colour) most_count) outs

-- 14, then 15
abbrev pub occur_by : Net → Counts → Option (List Flow) → Option (List Flow) → Firing
occur_by net m none outs = stopped not_enabled
occur_by net m (some ins) none = stopped bad_output
occur_by net m (some ins) (some outs) = cond (every (fits net) outs) (cond (within_counts m ins outs) (moved (effect m ins outs)) (stopped over_count)) (stopped bad_output)

-- 13, then 14, then 15
unfoldable pub occur : List ℕ → Net → Transition → Counts → List ℤ → Firing
occur table net t m b = cond (is_enabled table t m b) (occur_by net m (flows table (bound b) t.inputs) (flows table (bound b) t.outputs)) (stopped not_enabled)
