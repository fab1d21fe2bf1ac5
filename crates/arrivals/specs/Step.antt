-- What an arrival at an element tries, told from positions. proofs/Tries.antt shows that in an accepted net and marking it is what semantics says.
-- Rests on semantics/specs/Tries, counts/specs/Counts, tries/specs/{Partial, Range}, matches/specs/{Met, Known} and solving/specs/Solve.
use Rattle.std.specs.Prelude.{◌≡◌, List, [], ◌∷◌, map, ℕ, ◌+◌, ◌*◌, ◌-◌, ◌/◌, ◌≤◌, ◌<◌, length, get_or, set, take, replicate}
use Rattle.std.proofs.Math.Option.{Option, some}
use Rattle.semantics.specs.Word.{kind, payload}
use Rattle.semantics.specs.Expression.{Expression}
use Rattle.semantics.specs.Reading.{read, several}
use Rattle.semantics.specs.Net.{Arc}
use Rattle.semantics.specs.ReadNet.{read_expression, read_arc}
use Rattle.semantics.specs.Tries.{Partial}
use Rattle.expression.proofs.Spelled.{HeadWord, head_of_tree}
use Rattle.net.specs.Places.{ranges_from, places_at}
use Rattle.elements.specs.declared.element.Element.{Element}
use Rattle.elements.specs.declared.element.Sort.{Sort}
use Rattle.elements.specs.declared.element.Sort.TheVariants.{Match, Solve, Range as InRange}
use Rattle.counts.specs.Counts.{colours_at}
use Rattle.arrivals.specs.declared.step.Step.{Step}
use Rattle.matches.specs.Met.{matched_by}
use Rattle.matches.specs.Known.{Knows}
use Rattle.net.specs.Standing.{HasConjunct, HasArc}
use Rattle.solving.specs.Solve.{solved_at}
use Rattle.tries.specs.Range.{value_at, CountsValues, up_from}

-- words are the first ones of expressions
abbrev pub Begin : List ℕ → List Expression → Type 0
Begin [] [] = Unit {0}
Begin [] (e ∷ es) = ⊥
Begin (w ∷ ws) [] = ⊥
Begin (w ∷ ws) (e ∷ es) = HeadWord w (head_of_tree e) × Begin ws es

-- the first words of n expressions from a position on, in four words
pub record IsParts (ws : List ℕ) (v at n : ℕ) (r : List ℕ) : Type 0 where
  pub full : length r ≡ 4
  pub begin : (es : List Expression) (next : ℕ) → several n (read_expression ws v) at ≡ read es next → Begin (take n r) es

-- the words that a search lends to an arrival: for the first words of components, and for what is known of them, which is nothing yet
pub record Blank (parts known : List ℕ) : Type 0 where
  pub full : length parts ≡ 4
  pub blank : known ≡ replicate 4 0

-- the same words after an arrival, with the slots b
pub record Noted (v : ℕ) (b parts known : List ℕ) : Type 0 where
  pub full : length parts ≡ 4
  pub knows : Knows v b parts known

-- an arc that a match may name stands at a position: its coefficient is one CONSTANT, and the entries of its place stand in the marking
pub record IsTarget (ws ps : List ℕ) (v : ℕ) (ms begins : List ℕ) (at : ℕ) : Type 0 where
  pub stands : HasArc ws ps v at
  pub short : kind (get_or ws (at + 1) 0) ≡ 7
  pub up : get_or begins (payload (get_or ws at 0)) 0 ≤ get_or begins (payload (get_or ws at 0) + 1) 0
  pub inside : get_or begins (payload (get_or ws at 0) + 1) 0 ≤ length ms

-- an element that is a match names such an arc
pub record Aims (ws ps : List ℕ) (v : ℕ) (inputs ms begins : List ℕ) (e : Element) : Type 0 where
  pub target : (k : ℕ) → e.sort ≡ Match k → k < length inputs → IsTarget ws ps v ms begins (get_or inputs k 0)

-- what is known of a match of an arc, in a marking with these beginnings, with the first words of its components
pub record Aimed (begins : List ℕ) (a : Arc) (parts : List ℕ) (r : Step) : Type 0 where
  pub wide : r.width ≡ length a.components
  pub begin : Begin (take r.width parts) a.components
  pub from : r.from ≡ get_or begins a.place 0
  pub many : r.count ≡ (get_or begins (a.place + 1) 0 - get_or begins a.place 0) / (r.width + 1)

-- the entries of a match stand in the marking
pub record Inside (ms : List ℕ) (r : Step) : Type 0 where
  pub narrow : r.width ≤ 4
  pub inside : r.from + r.count * (r.width + 1) ≤ length ms

-- a match of the arc at a position
pub record IsMatch (ws ps : List ℕ) (v : ℕ) (ms begins : List ℕ) (e : Element) (at : ℕ) (parts : List ℕ) (r : Step) : Type 0 where
  pub element : r.element ≡ e
  pub entries : Inside ms r
  pub aimed : (a : Arc) (next : ℕ) → read_arc ws (places_at ws ps) v at ≡ read a next → get_or begins a.place 0 ≤ get_or begins (a.place + 1) 0 → get_or begins (a.place + 1) 0 ≤ length ms → Aimed begins a parts r

-- an element's tries stand in the words and slots that there are
abbrev pub SafeBy : List ℕ → ℕ → Step → Sort → Type 0
SafeBy ms v s (Match k) = Inside ms s
SafeBy ms v s (Solve k) = Unit {0}
SafeBy ms v s (InRange n) = 0 < s.count → (n < v) × (s.count ≤ 16384)

abbrev pub Safe : List ℕ → ℕ → Step → Type 0
Safe ms v s = SafeBy ms v s s.element.sort

-- a conjunct that is tried stands at its position
abbrev pub ReadyBy : List ℕ → ℕ → Step → Sort → Type 0
ReadyBy ws v s (Match k) = Unit {0}
ReadyBy ws v s (Solve k) = 0 < s.count → HasConjunct ws v s.from
ReadyBy ws v s (InRange n) = Unit {0}

abbrev pub Ready : List ℕ → ℕ → Step → Type 0
Ready ws v s = ReadyBy ws v s s.element.sort

-- the tries of a step from a partial binding; those of a match are held against the first words of its components
abbrev pub tries_of : List ℕ → ℕ → ℕ → List ℕ → Step → List ℕ → Partial → Sort → List (Option Partial)
tries_of ws ranges v ms s parts p (Match k) = map (λ c. matched_by (ranges_from ws v ranges) (take s.width parts) c p) (colours_at ms s.width s.count s.from)
tries_of ws ranges v ms s parts p (Solve k) = replicate s.count (solved_at ws (ranges_from ws v ranges) v p s.from)
tries_of ws ranges v ms s parts p (InRange n) = map (λ i. some (set p n (some (value_at (get_or ws (ranges + n) 0) i)))) (up_from 0 s.count)

abbrev pub tries_by : List ℕ → ℕ → ℕ → List ℕ → Step → List ℕ → Partial → List (Option Partial)
tries_by ws ranges v ms s parts p = tries_of ws ranges v ms s parts p s.element.sort

-- what an arrival tells of its element
abbrev pub Told : List ℕ → List ℕ → ℕ → ℕ → List ℕ → List ℕ → List ℕ → List ℕ → Element → List ℕ → Step → Sort → Type 0
Told ws ps position v inputs conjuncts ms begins e parts r (Match k) = (k < length inputs → IsMatch ws ps v ms begins e (get_or inputs k 0) parts r) × (length inputs ≤ k → r.count ≡ 0)
Told ws ps position v inputs conjuncts ms begins e parts r (Solve k) = (k < length conjuncts → (r.count ≡ 1) × (r.from ≡ get_or conjuncts k 0)) × (length conjuncts ≤ k → r.count ≡ 0)
Told ws ps position v inputs conjuncts ms begins e parts r (InRange n) = (n < v → CountsValues (get_or ws (position + 1 + n) 0) r.count) × (v ≤ n → r.count ≡ 0)

pub record IsArrival (ws ps : List ℕ) (position v : ℕ) (inputs conjuncts ms begins : List ℕ) (e : Element) (b parts known : List ℕ) (r : Step) : Type 0 where
  pub element : r.element ≡ e
  pub safe : Safe ms v r
  pub noted : Noted v b parts known
  pub told : Told ws ps position v inputs conjuncts ms begins e parts r e.sort
