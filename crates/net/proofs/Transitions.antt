-- The rules of reading a transition: its word, and then its parts one after the other. What is still to be read after each part is a
-- reading of its own, so that each step of the code is one equation.
use mathlib.Core.Path.{◌≡◌, refl, sym, ap, ◌∙◌, subst}
use Prim.Native.Nat.{ℕ, ◌+◌, ◌/◌, ◌%◌}
use mathlib.Core.List.{List}
use native.Mathlib.Omega.{arith}
use Rattle.std.specs.Prelude.{Result, Ok, Err}
use Rattle.semantics.specs.Word.{only}
use Rattle.semantics.specs.Reading.{Reading, read, then, Reader}
use Rattle.semantics.proofs.Accepted.{few-counts}
use Rattle.semantics.specs.declared.refusal.Refusal.{Refusal}
use Rattle.semantics.specs.Answer.{refusing}
use Rattle.expression.specs.Skip.{forget, skipped}
use Rattle.net.specs.declared.index.Parts.{Parts}
use Rattle.kinds.specs.Taken.{fits_kind, Takes, IsTaken}
use Rattle.net.specs.Skim.{starts, skim_range, skim_one, Outline, skim_transition}
use Rattle.net.specs.Index.{up_to, Alike, parts_of, AreFew, PartsRead}
use Rattle.net.proofs.Structures.{word-refused, word-taken}

-- ── Structures of a reading, by the answer of the code ──

pub then_gives : {A B : Type 0} (end : Result ℕ Refusal) (a : A) (f : A → B) {x : Reading A} → up_to end a ≡ x → up_to end (f a) ≡ then x (λ a n. read (f a) n)
then_gives {A} {B} end a f e = by end ∙ ap (λ (x : Reading A). then x (λ a n. read (f a) n)) e
  where
    by : (end : Result ℕ Refusal) → up_to end (f a) ≡ then (up_to end a) (λ a n. read (f a) n)
    by (Ok n) = refl
    by (Err e) = refl

-- ── The parts that are left ──

module _ (ws widths : List ℕ) (t : Parts) where
  unfoldable pub plan_left : List ℕ → List ℕ → List ℕ → Reader Outline
  plan_left is os gs at = then (starts t.elements (skim_one ws widths t.variables 0xA) at) (λ es end. read (record { variables = t.variables; inputs = is; outputs = os; guard = gs; plan = es }) end)

  unfoldable pub guard_left : List ℕ → List ℕ → Reader Outline
  guard_left is os at = then (starts t.conjuncts (skim_one ws widths t.variables 6) at) (plan_left is os)

  unfoldable pub outputs_left : List ℕ → Reader Outline
  outputs_left is at = then (starts t.outputs (skim_one ws widths t.variables 5) at) (guard_left is)

  unfoldable pub inputs_left : Reader Outline
  inputs_left at = then (starts t.inputs (skim_one ws widths t.variables 5) at) outputs_left

  unfoldable pub ranges_left : Reader Outline
  ranges_left at = then (forget (starts t.variables (skim_range ws) at)) (λ u next. inputs_left next)

module _ {A B : Type 0} (k : A → ℕ → Reading B) {z : Reading B} {r : Result ℕ Refusal} (a : A) {x : Reading A} (left : z ≡ then x k) (s : up_to r a ≡ x) where
  goes : {n : ℕ} → r ≡ Ok n → z ≡ k a n
  goes e = left ∙ rw (← s, e)

  stops : {e : Refusal} → r ≡ Err e → refusing e ≡ z
  stops e = sym (left ∙ rw (← s, e))

module _ (ws widths : List ℕ) (t : Parts) {z : Reading Outline} (at : ℕ) {r : Result ℕ Refusal} where
  module _ (left : z ≡ ranges_left ws widths t at) (s : skipped r ≡ forget (starts t.variables (skim_range ws) at)) where
    pub ranges_go : {n : ℕ} → r ≡ Ok n → z ≡ inputs_left ws widths t n
    unfolding ranges_left
    ranges_go e = left ∙ rw (← s, e)

    pub ranges_stop : {e : Refusal} → r ≡ Err e → refusing e ≡ z
    unfolding ranges_left
    ranges_stop e = sym (left ∙ rw (← s, e))

  module _ (is : List ℕ) (left : z ≡ inputs_left ws widths t at) (s : up_to r is ≡ starts t.inputs (skim_one ws widths t.variables 5) at) where
    pub inputs_go : {n : ℕ} → r ≡ Ok n → z ≡ outputs_left ws widths t is n
    unfolding inputs_left
    inputs_go = goes (outputs_left ws widths t) is left s

    pub inputs_stop : {e : Refusal} → r ≡ Err e → refusing e ≡ z
    unfolding inputs_left
    inputs_stop = stops (outputs_left ws widths t) is left s

  module _ (is os : List ℕ) (left : z ≡ outputs_left ws widths t is at) (s : up_to r os ≡ starts t.outputs (skim_one ws widths t.variables 5) at) where
    pub outputs_go : {n : ℕ} → r ≡ Ok n → z ≡ guard_left ws widths t is os n
    unfolding outputs_left
    outputs_go = goes (guard_left ws widths t is) os left s

    pub outputs_stop : {e : Refusal} → r ≡ Err e → refusing e ≡ z
    unfolding outputs_left
    outputs_stop = stops (guard_left ws widths t is) os left s

  module _ (is os gs : List ℕ) (left : z ≡ guard_left ws widths t is os at) (s : up_to r gs ≡ starts t.conjuncts (skim_one ws widths t.variables 6) at) where
    pub guard_goes : {n : ℕ} → r ≡ Ok n → z ≡ plan_left ws widths t is os gs n
    unfolding guard_left
    guard_goes = goes (plan_left ws widths t is os) gs left s

    pub guard_stops : {e : Refusal} → r ≡ Err e → refusing e ≡ z
    unfolding guard_left
    guard_stops = stops (plan_left ws widths t is os) gs left s

  module _ (is os gs es : List ℕ) (left : z ≡ plan_left ws widths t is os gs at) (s : up_to r es ≡ starts t.elements (skim_one ws widths t.variables 0xA) at) where
    pub plan_goes : {n : ℕ} → r ≡ Ok n → z ≡ read (record { variables = t.variables; inputs = is; outputs = os; guard = gs; plan = es }) n
    unfolding plan_left
    plan_goes e = left ∙ rw (← s, e)

    pub plan_stops : {e : Refusal} → r ≡ Err e → refusing e ≡ z
    unfolding plan_left
    plan_stops e = sym (left ∙ rw (← s, e))

-- ── The word ──

module _ {ws : List ℕ} {at : ℕ} {r : Result ℕ Refusal} (w : IsTaken ws at 4 r) where
  pub transition-refused : (widths : List ℕ) {e : Refusal} → r ≡ Err e → refusing e ≡ skim_transition ws widths at
  unfolding skim_transition
  transition-refused widths e = rw (word-refused w e)

  module _ {p : ℕ} (e : r ≡ Ok p) where
    pub few-parts : {t : Parts} → t ≡ parts_of p → AreFew t
    unfolding fits_kind
    few-parts d =
        let few = few-counts (only 20 p) (p / 1 % 16) (p / 16 % 16) (p / 256 % 16) (p / 4096 % 16) (p / 65536 % 16) (subst (Takes ws at 4) e w.exists).fits in
        let variables = few.0 in
        rw d (record { variables = omega arith; inputs = few.1; outputs = few.2; conjuncts = few.3; elements = few.4 })

    pub transition-left : (widths : List ℕ) {t : Parts} → t ≡ parts_of p → skim_transition ws widths at ≡ ranges_left ws widths t (at + 1)
    unfolding skim_transition skim_one ranges_left inputs_left outputs_left guard_left plan_left
    transition-left widths d = let h : p / 1 ≡ p = omega arith in rw (d, word-taken w e, h)

-- what cannot be read has no parts
pub unread : {ws widths : List ℕ} {at : ℕ} {table : List ℕ} {base : ℕ} {after : List ℕ} {e : Refusal} → refusing e ≡ skim_transition ws widths at → Alike base after table → PartsRead ws widths at table base (Err e) after
unread s b = record { parts = record { same = s; few = tt }; before = b }
