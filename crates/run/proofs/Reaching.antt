-- Reach, of the call (demand 3 on runs): what `run` can reach is exactly what steps can reach. The one fact about the code is its contract, the equation
-- that stands under `ensures` of `run` in src/run.rt; all else is the theorem `reach` on the definitions.
-- The idea: in an accepted net, from an accepted marking, only a pick can be refused at the start, and then the answer has a number that is not 0.
use mathlib.Core.Path.{◌≡◌, refl, sym, ap, ◌∙◌}
use mathlib.Core.Logic.{◌↔◌}
use mathlib.Core.List.{List, ◌++◌}
use mathlib.Core.Option.{Option, none, some}
use Prim.Native.Nat.{ℕ, ◌-◌}
use native.Mathlib.Omega.{arith}
use lib.ListN.{length, replicate}
use Rattle.semantics.specs.declared.Outcome.{Outcome}
use Rattle.semantics.specs.Answer.{Outcome as Told, outcome_of}
use Rattle.semantics.specs.Refusal.{no_transition, bad_pick}
use Rattle.semantics.specs.Reading.{read, refused}
use Rattle.semantics.specs.Expression.{house_table}
use Rattle.semantics.specs.Net.{Net}
use Rattle.semantics.specs.Plan.{accept_net}
use Rattle.semantics.specs.Marking.{Entry, read_marking, first_unknown, first_malformed, counts_of}
use Rattle.semantics.specs.Calls.{marking_in, start, limits, RunEnd, ran_from, run_call}
use Rattle.semantics.specs.Reach.{OccurrenceSequence, Ends}
use Rattle.semantics.proofs.Reach.{reach}
use Rattle.run.specs.Run.{run_end}

module _ (nw : List ℕ) (net : Net) (next : ℕ) (is-net : accept_net nw ≡ read net next)
    (buffer : List ℕ) (m : ℕ) (es : List Entry) (i : ℕ) (is-first : marking_in net buffer m ≡ read es i)
    (last : List ℕ) (fs : List Entry) (j : ℕ) (is_last : read_marking net last ≡ read fs j)
    (budget : ℕ) (spare menu : List ℕ)
    (answer : List ℕ → Outcome) (buffer-after spare-after menu-after : List ℕ → List ℕ)
    (contract : (picks : List ℕ) → run_end (answer picks) (buffer-after picks) (spare-after picks) (menu-after picks) ≡ run_call nw budget buffer m spare menu picks) where
  -- what a caller sees: every pick is done, nothing is refused, and the buffer begins with the marking `last`
  pub record Arrives (picks : List ℕ) : Type 0 where
    pub answered : outcome_of (answer picks) ≡ record { done = length picks; refusal = 0; position = 0; length = length last }
    pub words : buffer-after picks ≡ last ++ replicate (length buffer - length last) 0

  -- where no refusal is told, the picks were accepted
  unrefused : (picks : List ℕ) → (outcome_of (answer picks)).refusal ≡ 0 → start nw buffer m picks ≡ read (record { net = net; counts = counts_of es }) 0
  unfolding start run_call
  unrefused picks z = by (first_unknown (length net.transitions) picks) (first_malformed picks) refl refl
    where
      told : (n p : ℕ) → start nw buffer m picks ≡ refused n p → n ≡ 0
      told n p e =
          let a : (outcome_of (answer picks)).refusal ≡ n = ap (λ (x : RunEnd). x.answer.refusal) (contract picks ∙ ap (ran_from budget buffer spare menu picks) e) in
          sym a ∙ z

      by : (p q : Option ℕ) → first_unknown (length net.transitions) picks ≡ p → first_malformed picks ≡ q → start nw buffer m picks ≡ read (record { net = net; counts = counts_of es }) 0
      by none none x y = rw (is-net, x, is-first, y)
      by (some a) q x y = let n = told no_transition a (rw (is-net, x)) in absurd (omega arith)
      by none (some a) x y = let n = told bad_pick a (rw (is-net, x, is-first, y)) in absurd (omega arith)

  arrives_ends : (picks : List ℕ) → Arrives picks → Ends nw budget buffer m spare menu picks last
  unfolding run_call
  arrives_ends picks a =
      let s = unrefused picks (ap (λ (r : Told). r.refusal) a.answered) in
      let c = contract picks ∙ ap (ran_from budget buffer spare menu picks) s in
      let sp = ap (λ (x : RunEnd). x.spare) c in
      let me = ap (λ (x : RunEnd). x.menu) c in
      record {
        handed = record { net = net; counts = counts_of es };
        accepted = s;
        end = sym (contract picks) ∙ rw (a.answered, a.words, sp, me);
      }

  ends_arrives : (picks : List ℕ) → Ends nw budget buffer m spare menu picks last → Arrives picks
  ends_arrives picks e = let c = contract picks ∙ e.end in record { answered = ap (λ (x : RunEnd). x.answer) c; words = ap (λ (x : RunEnd). x.buffer) c }

  -- k picks lead the call from the first marking to the last one exactly where k steps do
  pub run_reach : (k : ℕ) → ((picks : List ℕ) × (length picks ≡ k) × Arrives picks) ↔ OccurrenceSequence house_table net (limits budget buffer spare menu) k (counts_of es) (counts_of fs)
  run_reach k =
      let r = reach nw net next is-net buffer m es i is-first last fs j is_last budget spare menu k in
      (λ x. r.0 (x.0, x.1, arrives_ends x.0 x.2), λ s. let x = r.1 s in (x.0, x.1, ends_arrives x.0 x.2))
