-- The parts of a transition by its TRANSITION word and 32 numbers, which say where they begin: eight for each kind of part, of which as many count as the
-- word says. Rests on Skim.
use Rattle.std.specs.Prelude.{◌≡◌, List, ℕ, ◌+◌, ◌*◌, ◌/◌, ◌%◌, ◌≤◌, length, get_or, take, drop}
use Rattle.std.proofs.Math.Option.{some}
use Rattle.std.proofs.Math.ListN.{get_elem?}
use Rattle.semantics.specs.Net.{Transition, Net}
use Rattle.net.specs.Skim.{Outline, outline}

abbrev pub variables_in : ℕ → ℕ
variables_in head = head % 16

abbrev pub inputs_in : ℕ → List ℕ → List ℕ
inputs_in head own = take (head / 16 % 16) own

abbrev pub outputs_in : ℕ → List ℕ → List ℕ
outputs_in head own = take (head / 256 % 16) (drop 8 own)

abbrev pub guard_in : ℕ → List ℕ → List ℕ
guard_in head own = take (head / 4096 % 16) (drop 16 own)

abbrev pub plan_in : ℕ → List ℕ → List ℕ
plan_in head own = take (head / 65536 % 16) (drop 24 own)

-- at most eight of each
pub record FewParts (head : ℕ) : Type 0 where
  pub variables : head % 16 ≤ 8
  pub inputs : head / 16 % 16 ≤ 8
  pub outputs : head / 256 % 16 ≤ 8
  pub guard : head / 4096 % 16 ≤ 8
  pub plan : head / 65536 % 16 ≤ 8

-- they are those of an outline
pub record Parted (head : ℕ) (own : List ℕ) (o : Outline) : Type 0 where
  pub few : FewParts head
  pub variables : variables_in head ≡ o.variables
  pub inputs : inputs_in head own ≡ o.inputs
  pub outputs : outputs_in head own ≡ o.outputs
  pub guard : guard_in head own ≡ o.guard
  pub plan : plan_in head own ≡ o.plan

-- those of the transitions of a net from `first` on stand in a table one after the other, as far as its last 32 numbers
pub record PartsKept (ws : List ℕ) (net : Net) (first : ℕ) (table : List ℕ) : Type 0 where
  pub each : (k : ℕ) (t : Transition) → get_elem? net.transitions (first + k) ≡ some t → k * 32 + 64 ≤ length table → Parted (get_or ws t.position 0) (take 32 (drop (k * 32) table)) (outline t)
