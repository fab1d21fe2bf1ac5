-- What an arc moves, as the code tells it: a place and a colour are one number, a key, the place above the 56 bits of the colour's code.
-- Rests on Flow and colours/specs/Code.
use Rattle.std.specs.Prelude.{◌≡◌, ℕ, ◌+◌, ◌*◌, ◌/◌, ◌%◌, ◌≤◌, ◌<◌, ◌^◌, Bool, true, false, cond, ◌||◌, List, [], ◌∷◌, eqb, ℤ, get_or, length, Option, Some, None}
use Rattle.std.proofs.Math.Option as definitions
use Rattle.std.proofs.Math.Option.{none, some}
use Rattle.semantics.specs.Word.{within}
use Rattle.semantics.specs.Net.{ranges_at}
use Rattle.semantics.specs.ReadNet.{read_expression}
use Rattle.semantics.specs.Order.{in_ranges}
use Rattle.semantics.specs.Enabling.{Flow}
use Rattle.word.specs.Fields.{range_word}
use Rattle.evaluation.specs.Evaluate.{lent, Valuation, valued, evaluated_from}
use Rattle.net.specs.Places.{ranges_from, width_at, places_at}
use Rattle.colours.specs.Code.{of_digit, coloured}
use Rattle.arcs.specs.declared.flow.Component.{Component}
use Rattle.arcs.specs.declared.flow.Packed.{Packed}
use Rattle.arcs.specs.declared.flow.Packed.TheVariants.{Code, Outside as Packed-outside, Nothing as Packed-none}
use Rattle.arcs.specs.declared.flow.Moved.{Moved}
use Rattle.arcs.specs.declared.flow.Moved.TheVariants.{Tokens, Idle, Outside, Nothing}
use Rattle.arcs.specs.Flow.{colour_at, flow_at}

-- ── Keys ──

abbrev pub key_place : ℕ → ℕ
key_place k = k / 2 ^ 56

abbrev pub key_code : ℕ → ℕ
key_code k = k % 2 ^ 56

-- the components of a place of the net ws with its places at ps
abbrev pub width_of : List ℕ → List ℕ → ℕ → ℕ
width_of ws ps p = width_at ws (get_or ps p 0)

abbrev pub key_colour : List ℕ → List ℕ → ℕ → List ℤ
key_colour ws ps k = coloured (width_of ws ps (key_place k)) (key_code k)

-- so many tokens of a key
abbrev pub key_flow : List ℕ → List ℕ → ℕ → ℕ → Flow
key_flow ws ps k a = record { place = key_place k; amount = a; colour = key_colour ws ps k }

unfoldable pub key_flows : List ℕ → List ℕ → List ℕ → List ℕ → List Flow
key_flows ws ps [] as' = []
key_flows ws ps (k ∷ ks) [] = []
key_flows ws ps (k ∷ ks) (a ∷ as') = key_flow ws ps k a ∷ key_flows ws ps ks as'

-- the key of a colour that its place can have
pub record KeyFits (ws ps : List ℕ) (k : ℕ) : Type 0 where
  pub there : key_place k < length ps
  pub small : key_code k < 16384 ^ width_of ws ps (key_place k)
  pub ranged : in_ranges (ranges_at (places_at ws ps) (key_place k)) (key_colour ws ps k) ≡ true

-- ── One arc ──

-- the digit of a component of the value z, or it is in no range
abbrev pub IsDigit : ℤ → Option ℕ → Type 0
IsDigit z (Some d) = (z ≡ of_digit d) × (d < 16384)
IsDigit z None = (range : ℕ) → within (range_word range) z ≡ false

-- a component by its value
abbrev pub Componented : Valuation → Option Component → Type 0
Componented v (Some c) = (z : ℤ) × (v ≡ valued (some z) c.next) × IsDigit z c.digit
Componented v None = (next : ℕ) × (v ≡ valued none next)

-- the component at a position
pub record IsComponent (ws bs : List ℕ) (at : ℕ) (r : Option Component) : Type 0 where
  pub told : Componented (evaluated_from (lent bs) (read_expression ws (length bs) at)) r

-- one component more behind a code, held against a RANGE word; none as soon as one is outside
abbrev pub put_digit : Option ℕ → ℕ → Option ℕ → Option ℕ
put_digit None range d = None
put_digit (Some code) range None = None
put_digit (Some code) range (Some d) = cond (within (range_word range) (of_digit d)) (Some (code * 16384 + d)) None

-- a colour that may be missing, of n components, held against the RANGE words from a position on
abbrev pub Packs : List ℕ → ℕ → ℕ → definitions.Option (List ℤ) → Packed → Type 0
Packs ws ranges n o (Code k) = (o ≡ some (coloured n k)) × (k < 16384 ^ n) × (in_ranges (ranges_from ws n ranges) (coloured n k) ≡ true)
Packs ws ranges n o Packed-outside = (c : List ℤ) × (o ≡ some c) × (in_ranges (ranges_from ws n ranges) c ≡ false)
Packs ws ranges n o Packed-none = o ≡ none

pub record IsPacked (ws bs : List ℕ) (ranges n at : ℕ) (r : Packed) : Type 0 where
  pub packs : Packs ws ranges n (colour_at ws bs n at) r

-- a code leaves room for a place above it
abbrev pub Below : Packed → Type 0
Below (Code k) = k < 2 ^ 56
Below Packed-outside = Unit {0}
Below Packed-none = Unit {0}

-- so many tokens of a place and a colour
abbrev pub moved_by : ℕ → ℕ → Packed → Moved
moved_by p a (Code k) = cond (eqb a 0) Idle (Tokens (p * 2 ^ 56 + k) a)
moved_by p a Packed-outside = cond (eqb a 0) Idle Outside
moved_by p a Packed-none = Nothing

-- "each colour of positive coefficient in its place's ranges"
abbrev pub fits_at : List ℕ → List ℕ → Flow → Bool
fits_at ws ps f = eqb f.amount 0 || in_ranges (ranges_at (places_at ws ps) f.place) f.colour

-- a flow that may be missing
abbrev pub Says : List ℕ → List ℕ → definitions.Option Flow → Moved → Type 0
Says ws ps o (Tokens k a) = (o ≡ some (key_flow ws ps k a)) × KeyFits ws ps k × (1 ≤ a)
Says ws ps o Idle = (f : Flow) × (o ≡ some f) × (f.amount ≡ 0)
Says ws ps o Outside = (f : Flow) × (o ≡ some f) × (fits_at ws ps f ≡ false)
Says ws ps o Nothing = o ≡ none

-- what the arc at a position moves
pub record IsMoved (ws ps bs : List ℕ) (at : ℕ) (r : Moved) : Type 0 where
  pub says : Says ws ps (flow_at ws ps bs at) r
