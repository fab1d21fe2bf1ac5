-- A colour held against components told by their first words.
-- Rests on semantics/specs/Tries and tries/specs/Partial.
use Rattle.std.specs.Prelude.{◌≡◌, Bool, true, false, cond, List, [], ◌∷◌, ℕ, ◌%◌, ◌<◌, eqb, ℤ, set}
use Rattle.std.proofs.Math.Option.{Option, none, some, bind}
use Rattle.semantics.specs.Word.{kind, payload, signed, Range}
use Rattle.semantics.specs.Expression.{given}
use Rattle.semantics.specs.Order.{same_integer}
use Rattle.semantics.specs.Tries.{Partial, partly, agree}
use Rattle.tries.specs.Partial.{partial_of}
use Rattle.matches.specs.declared.colour.Met.{Met}
use Rattle.matches.specs.declared.colour.Met.TheVariants.{Agrees, Differs, Takes}

-- a component of an arc that begins with the word w meets the component z of a colour: "lone variables and constants agree with the colour ..;
-- components with operators wait"
abbrev pub part_try : List Range → ℕ → ℤ → Partial → Option Partial
part_try ranges w z p =
    cond (eqb (kind w) 7) (given (same_integer (signed (w % 16384)) z) p)
    (cond (eqb (kind w) 8) (agree ranges p (payload w) (partly p (payload w)) z)
    (some p))

-- ── What the code answers of one component ──

abbrev pub met_if : Bool → Met
met_if true = Agrees
met_if false = Differs

-- the partial binding that goes on
abbrev pub met_of : ℕ → List ℕ → Met → Option Partial
met_of v b Agrees = some (partial_of v b)
met_of v b Differs = none
met_of v b (Takes n w) = some (partial_of v (set b n w))

abbrev pub MetInside : ℕ → Met → Type 0
MetInside v Agrees = Unit {0}
MetInside v Differs = Unit {0}
MetInside v (Takes n w) = n < v

pub record IsMet (v : ℕ) (b : List ℕ) (o : Option Partial) (r : Met) : Type 0 where
  pub same : met_of v b r ≡ o
  pub inside : MetInside v r

-- ── All components ──

-- all components, told by their first words
unfoldable pub matched_by : List Range → List ℕ → List ℤ → Partial → Option Partial
matched_by ranges [] zs p = some p
matched_by ranges (w ∷ ws) [] p = none
matched_by ranges (w ∷ ws) (z ∷ zs) p = bind (part_try ranges w z p) (matched_by ranges ws zs)
