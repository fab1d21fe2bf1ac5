-- `marking::pick::first_malformed` meets its contract: `position` is `first_that`.
use mathlib.Core.Bool.{not}
use mathlib.Core.Path.{ap, ◌∙◌}
use Rattle.std.proofs.Common.{rules, tests}
use Rattle.std.proofs.lemmas.Iterator.{YieldsList-from_slice}
use Rattle.std.proofs.lemmas.Iterator.Search.{position_from_yields_List}
use Rattle.semantics.specs.Answer.{option_of}
use Rattle.semantics.specs.Marking.{is_pick}
use Rattle.marking.proofs.First.{first_lem}
use Rattle.marking.proofs.pick.first_malformed.Goals as goal

pub returns : goal.returns
returns c =
    ap option_of (position_from_yields_List (λ w. not (is_pick w)) _ _ _ c.position.ensures.ran (YieldsList-from_slice c.args.picks.now cc) (λ x b q k. search (rules, tests))) ∙ first_lem _ _
