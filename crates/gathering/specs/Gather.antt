-- What several arcs move, as the code tells it: keys and amounts in two lists. Rests on arcs/specs/{Flow, Keys}.
use Rattle.std.specs.Prelude.{◌≡◌, ℕ, ◌+◌, ◌≤◌, Bool, cond, List, [], ◌∷◌, leb, eqb, take, length}
use Rattle.std.proofs.Math.Option.{Option, none, some}
use Rattle.semantics.specs.Lists.{Every, every, select}
use Rattle.semantics.specs.Expression.{given}
use Rattle.semantics.specs.Enabling.{Flow}
use Rattle.arcs.specs.Flow.{flows_at}
use Rattle.arcs.specs.Keys.{key_flows, KeyFits, fits_at}
use Rattle.gathering.specs.declared.gather.Gathered.{Gathered}

abbrev pub moving : Flow → Bool
moving f = leb 1 f.amount

-- the flows that move something; none where there are none, or one moves a colour that its place cannot have
abbrev pub gathered_by : List ℕ → List ℕ → Option (List Flow) → Option (List Flow)
gathered_by ws ps none = none
gathered_by ws ps (some fs) = given (every (fits_at ws ps) fs) (select moving fs)

-- what the i first of the arcs at positions move is known, as the n keys and amounts that stand at the front of two lists
pub record Known (ws ps bs ats : List ℕ) (i n : ℕ) (keys amounts : List ℕ) : Type 0 where
  pub inside : i ≤ length ats
  pub few : n ≤ i
  pub fit : Every (KeyFits ws ps) (take n keys)
  pub flows : List Flow
  pub told : flows_at ws ps bs (take i ats) ≡ some flows
  pub same : gathered_by ws ps (some flows) ≡ some (key_flows ws ps (take n keys) (take n amounts))

-- what all of them move, and as far as that is known; the lists, written in lent arrays, are as long as those
pub record IsGathered (ws ps bs ats : List ℕ) (r : Gathered) (keys amounts : List ℕ) : Type 0 where
  pub keys_full : length keys ≡ 8
  pub amounts_full : length amounts ≡ 8
  pub same : given r.some (key_flows ws ps (take r.n keys) (take r.n amounts)) ≡ gathered_by ws ps (flows_at ws ps bs ats)
  pub few : r.n ≤ 8
  pub known : Known ws ps bs ats r.arcs r.n keys amounts

-- the first n keys and amounts are left as they were, in lists of the same length
pub record Keeps (n : ℕ) (keys amounts keys' amounts' : List ℕ) : Type 0 where
  pub keys_kept : take n keys' ≡ take n keys
  pub amounts_kept : take n amounts' ≡ take n amounts
  pub keys_long : length keys' ≡ length keys
  pub amounts_long : length amounts' ≡ length amounts

-- the sum of the amounts of a key
unfoldable pub sum_of : List ℕ → List ℕ → ℕ → ℕ
sum_of [] as' k = 0
sum_of (j ∷ ks) [] k = 0
sum_of (j ∷ ks) (a ∷ as') k = cond (eqb j k) a 0 + sum_of ks as' k
