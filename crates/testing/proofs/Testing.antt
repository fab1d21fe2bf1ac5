-- The rules of test: what the situation and the binding say, then whether the binding is enabled; what was told from positions is what
-- semantics says of the transition.
use mathlib.Core.Path.{◌≡◌, refl, sym, ap, ◌∙◌}
use Prim.Native.Nat.{ℕ, ◌+◌, ◌≤◌, ◌<◌}
use mathlib.Core.Bool.{Bool, true, false}
use mathlib.Core.List.{List}
use lib.IntN.{ℤ}
use lib.Signed.{mag}
use lib.ListN.{length, take, drop, length-map}
use Rattle.std.specs.Prelude.{Result, Ok, Err}
use Rattle.semantics.specs.declared.refusal.Refusal.{Refusal}
use Rattle.semantics.specs.Answer.{refusing, tested_of}
use Rattle.semantics.specs.Lists.{Every}
use Rattle.semantics.specs.Word.{Range, value_word}
use Rattle.semantics.specs.Expression.{bound}
use Rattle.semantics.specs.Reading.{read}
use Rattle.semantics.specs.Marking.{read_binding}
use Rattle.semantics.specs.Calls.{situation, yes_or_no, test_call}
use Rattle.expression.specs.Skip.{forget, skipped}
use Rattle.expression.proofs.Laws.{passed-read, passed-refused}
use Rattle.evaluation.specs.Evaluate.{lent}
use Rattle.net.specs.Skim.{Outline}
use Rattle.net.specs.Places.{ranges_from}
use Rattle.net.specs.Standing.{HasConjunct, HasArc}
use Rattle.net.proofs.Standing.{inputs-stand, conjuncts-stand}
use Rattle.net.proofs.Placed.{variables-placed, variables-fit}
use Rattle.marking.specs.Marked.{binding_read}
use Rattle.semantics.proofs.Partial.{range_length}
use Rattle.marking.proofs.Bound.{IsBinding, binding-read, ranged-small}
use Rattle.occurrence.specs.Answers.{IsEnabledAt}
use Rattle.situations.specs.Situation.{Index, outlined, Prepared}
use Rattle.occurrence.proofs.Reading.{enabled-told, binding-lent}

pub test_refused : (ws : List ℕ) (t : ℕ) (ms bs : List ℕ) (e : Refusal) → situation ws t ms ≡ refusing e → tested_of (Err e) ≡ test_call ws t ms bs
unfolding test_call
test_refused ws t ms bs e d = rw d refl

answered : (u : Bool) → tested_of (Ok u) ≡ yes_or_no u
answered true = refl
answered false = refl

module _ {ws : List ℕ} {t : ℕ} {ms : List ℕ} {s : Index} (p : Prepared ws t ms s) where
  pub as_many : s.transition.variables ≡ length p.transition.variables
  as_many = ap (λ (o : Outline). o.variables) p.outlines

  -- the ranges of the variables stand after the transition's word
  pub variables-inside : s.position + 1 + s.transition.variables ≤ length ws
  variables-inside = rw as_many (variables-fit ws p.net.places s.position p.transition p.after p.there)

  pub variables-same : ranges_from ws s.transition.variables (s.position + 1) ≡ p.transition.variables
  variables-same = rw as_many (sym (variables-placed ws p.net.places s.position p.transition p.after p.there))

  module _ (bs : List ℕ) (r : Result ℕ Refusal) (x : skipped r ≡ forget (binding_read (ranges_from ws s.transition.variables (s.position + 1)) bs)) where
    binding-told : skipped r ≡ forget (read_binding p.transition bs)
    unfolding read_binding binding_read
    binding-told = x ∙ ap (λ (rs : List Range). forget (binding_read rs bs)) variables-same

    pub unbound_refused : {e : Refusal} → r ≡ Err e → read_binding p.transition bs ≡ refusing e
    unbound_refused e = passed-refused (read_binding p.transition bs) r binding-told e

    pub test_unbound : {e : Refusal} → r ≡ Err e → tested_of (Err e) ≡ test_call ws t ms bs
    unfolding test_call
    test_unbound e = rw (p.same, unbound_refused e) refl

    module _ {next : ℕ} (e : r ≡ Ok next) where
      pub bound-read : (b : List ℤ) × (read_binding p.transition bs ≡ read b next)
      bound-read = passed-read (read_binding p.transition bs) r binding-told e

      is-binding : IsBinding p.transition.variables bs bound-read.0
      unfolding read_binding binding_read
      is-binding = binding-read p.transition.variables bs bound-read.0 next bound-read.1

      pub bound-length : length bs ≡ length p.transition.variables
      bound-length = ap length is-binding.words ∙ length-map bound-read.0 value_word ∙ range_length p.transition.variables bound-read.0 is-binding.ranged

      bound-small : Every (λ z. mag z < 8192) bound-read.0
      bound-small = ranged-small ws s.transition.variables (s.position + 1) bound-read.0 (rw variables-same is-binding.ranged)

      -- the words of the binding say what the binding says
      pub bound-lent : lent bs ≡ bound bound-read.0
      bound-lent = binding-lent bs bound-read.0 is-binding.words bound-small

      -- the conjuncts and the input arcs of the transition stand at their positions
      pub test_conjuncts : (k : ℕ) → k ≡ s.transition.conjuncts → Every (HasConjunct ws (length bs)) (take k (drop 16 s.own))
      test_conjuncts k g = rw g (conjuncts-stand ws p.net.places s.position p.transition p.after p.there (length bs) bound-length (ap (λ (o : Outline). o.guard) p.outlines))

      pub test_inputs : Every (HasArc ws (take s.places s.places_at) (length bs)) (outlined s).inputs
      test_inputs = inputs-stand ws p.net.places s.position p.transition p.after p.there (length bs) bound-length (take s.places s.places_at) p.placed (ap (λ (o : Outline). o.inputs) p.outlines)

      -- how many conjuncts are lent is told as a difference
      pub test_answers : {u : Bool} (k : ℕ) → k ≡ s.transition.conjuncts → IsEnabledAt ws (take s.places s.places_at) (take k (drop 16 s.own)) (outlined s).inputs ms s.begins bs u → tested_of (Ok u) ≡ test_call ws t ms bs
      unfolding test_call
      test_answers {u} k g f =
          let e = enabled-told ws bs p.net.places s.position p.transition p.after p.there bound-length (take s.places s.places_at) p.placed (ap (λ (o : Outline). o.guard) p.outlines) (ap (λ (o : Outline). o.inputs) p.outlines) p.entries p.end p.marked p.begins bound-read.0 bound-lent (rw g at f) in
          rw (p.same, bound-read.1) (answered u ∙ ap yes_or_no e)
