-- The input arcs that leaves need not look up, told from the words of the net. Rests on semantics/specs/Word, net/specs/{Places, Standing} and
-- semantics/proofs/Settled.
use Rattle.std.specs.Prelude.{◌≡◌, Bool, true, false, List, [], ◌∷◌, ℕ, suc, ◌+◌, ◌≤◌, ◌<◌, length, get_or, take}
use Rattle.semantics.specs.Lists.{Every}
use Rattle.semantics.specs.Word.{kind, payload}
use Rattle.semantics.proofs.Settled.{kept}
use Rattle.net.specs.Places.{width_at}
use Rattle.net.specs.Standing.{HasArc}

-- every position is one of the words
pub record Inside (ws ats : List ℕ) : Type 0 where
  pub each : (i : ℕ) → i < length ats → get_or ats i 0 < length ws

-- input arcs and elements of a transition stand in the words
pub record Within (ws ps inputs elements : List ℕ) : Type 0 where
  pub variables : ℕ
  pub arcs : Every (HasArc ws ps variables) inputs
  pub plan : Inside ws elements

-- none of so many words from a position on is that of an operator
pub record AreLone (ws : List ℕ) (at width : ℕ) : Type 0 where
  pub each : (i : ℕ) → i < width → kind (get_or ws (at + i) 0) ≡ 9 → ⊥

-- of the first n input arcs none but the one of a number has its ARC word
pub record IsAlone (ws inputs : List ℕ) (k n : ℕ) : Type 0 where
  pub others : (j : ℕ) → j < n → (j ≡ k → ⊥) → get_or ws (get_or inputs j 0) 0 ≡ get_or ws (get_or inputs k 0) 0 → ⊥

-- an element is the match of an input arc
pub record IsMatched (ws elements : List ℕ) (k : ℕ) : Type 0 where
  pub number : ℕ
  pub inside : number < length elements
  pub word : get_or ws (get_or elements number 0) 0 ≡ 0xA0000000 + k

-- an arc of coefficient 1 and components without operators, the only one of its place, which the plan matches
pub record Spares (ws ps inputs elements : List ℕ) (k : ℕ) : Type 0 where
  pub one : get_or ws (get_or inputs k 0 + 1) 0 ≡ 0x70000001
  pub lone : AreLone ws (get_or inputs k 0 + 2) (width_at ws (get_or ps (payload (get_or ws (get_or inputs k 0) 0)) 0))
  pub alone : IsAlone ws inputs k (length inputs)
  pub matched : IsMatched ws elements k

-- what an answer says; of a no nothing is said
pub record LoneIf (ws : List ℕ) (at width : ℕ) (r : Bool) : Type 0 where
  pub told : r ≡ true → AreLone ws at width

pub record AloneIf (ws inputs : List ℕ) (k : ℕ) (r : Bool) : Type 0 where
  pub told : r ≡ true → IsAlone ws inputs k (length inputs)

pub record MatchedIf (ws elements : List ℕ) (k : ℕ) (r : Bool) : Type 0 where
  pub told : r ≡ true → IsMatched ws elements k

pub record SparesIf (ws ps inputs elements : List ℕ) (k : ℕ) (r : Bool) : Type 0 where
  pub told : r ≡ true → Spares ws ps inputs elements k

-- a property of the number of everything that a mask leaves out, counted from i on
abbrev pub LeftOut : (ℕ → Type 0) → ℕ → List Bool → Type 0
LeftOut P i [] = Unit {0}
LeftOut P i (true ∷ bs) = LeftOut P (suc i) bs
LeftOut P i (false ∷ bs) = P i × LeftOut P (suc i) bs

-- positions of input arcs without some that are spared
pub record Unspared (ws ps inputs elements tested : List ℕ) : Type 0 where
  pub mask : List Bool
  pub same : tested ≡ kept mask inputs
  pub spares : LeftOut (Spares ws ps inputs elements) 0 mask

-- they are the first r of a list
pub record IsRest (ws ps inputs elements rest : List ℕ) (r : ℕ) : Type 0 where
  pub full : length rest ≡ 8
  pub few : r ≤ length inputs
  pub unspared : Unspared ws ps inputs elements (take r rest)
