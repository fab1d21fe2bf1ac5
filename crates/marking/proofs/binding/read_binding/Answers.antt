-- `marking::binding::read_binding` meets its contract: the rules of `Bound`, over what `map_err` gave.
use mathlib.Core.Path.{refl, ap, ◌∙◌}
use borrow.Author.Rules.{rules}
use Rattle.std.proofs.lemmas.Result.{err_from_is_err_and}
use Rattle.semantics.specs.Refusal.{bad_binding}
use Rattle.semantics.specs.declared.refusal.Refusal.TheVariants.{BadBinding}
use Rattle.semantics.specs.Reading.{numbered}
use Rattle.semantics.specs.Answer.{position_of}
use Rattle.expression.specs.Skip.{skipped}
use Rattle.marking.proofs.Mapped.{err_is, mapped}
use Rattle.marking.proofs.Bound.{binding-refused, binding-long, binding-whole}
use Rattle.marking.proofs.binding.read_binding.Goals as goal

pub returns-in_err-next : goal.returns-in_err-next
returns-in_err-next c =
    let p = err_from_is_err_and c.from_residual.result c.from_residual.ensures.1 in
    rw (p.1, p.2) (binding-refused _ _ (mapped skipped bad_binding (λ e. BadBinding (position_of e)) (λ n. refl) (λ e. refl) c.read_values.result c.map_err.result c.map_err.ensures.cases (λ n k. k) (λ e k. err_is c.map_err.result k (λ d q. search rules)) ∙ ap (numbered bad_binding) c.read_values.ensures) c.in_err-next.was)

pub returns-then-next-words : goal.returns-then-next-words
returns-then-next-words c = binding-long _ _ (mapped skipped bad_binding (λ e. BadBinding (position_of e)) (λ n. refl) (λ e. refl) c.read_values.result c.map_err.result c.map_err.ensures.cases (λ n k. k) (λ e k. err_is c.map_err.result k (λ d q. search rules)) ∙ ap (numbered bad_binding) c.read_values.ensures) c.in_ok-next.was c.if-next-words.true

pub returns : goal.returns
returns c = binding-whole _ _ (mapped skipped bad_binding (λ e. BadBinding (position_of e)) (λ n. refl) (λ e. refl) c.read_values.result c.map_err.result c.map_err.ensures.cases (λ n k. k) (λ e k. err_is c.map_err.result k (λ d q. search rules)) ∙ ap (numbered bad_binding) c.read_values.ensures) c.in_ok-next.was c.if-next-words.false
