-- `marking::index::entry_at` meets its contract: `mapped`.
use mathlib.Core.Path.{refl, ap, ◌∙◌}
use borrow.Author.Rules.{rules}
use Rattle.semantics.specs.Refusal.{bad_marking}
use Rattle.semantics.specs.declared.refusal.Refusal.TheVariants.{BadMarking}
use Rattle.semantics.specs.Reading.{numbered}
use Rattle.semantics.specs.Answer.{position_of}
use Rattle.marking.specs.Marked.{entry_read}
use Rattle.marking.proofs.Mapped.{err_is, mapped}
use Rattle.marking.proofs.index.entry_at.Goals as goal

pub returns : goal.returns
returns c =
    mapped entry_read bad_marking (λ e. BadMarking (position_of e)) (λ r. refl) (λ e. refl) c.read_entry.result c.map_err.result c.map_err.ensures.cases (λ r k. k) (λ e k. err_is c.map_err.result k (λ d q. search rules))
    ∙ ap (numbered bad_marking) c.read_entry.ensures
