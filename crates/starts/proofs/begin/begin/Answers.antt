-- `starts::begin::begin` meets its contract: each return is a rule of `Starting`.
use mathlib.Core.Path.{◌∙◌}
use borrow.Author.Rules.{rules}
use Rattle.std.proofs.lemmas.Result.{err_from_is_err_and}
use Rattle.starts.proofs.Starting.{start_unaccepted, start_fits, start-unknown, start_unmarked, start_malformed, start-begins}
use Rattle.starts.proofs.begin.begin.Goals as goal

pub returns-in_err-index : goal.returns-in_err-index
returns-in_err-index c =
    let p = err_from_is_err_and c.from_residual.result c.from_residual.ensures.1 in
    rw (p.1, p.2) (start_unaccepted _ _ _ _ _ c.in_err-index.ensures)

pub returns-in-Some : goal.returns-in-Some
returns-in-Some c = start-unknown _ _ _ _ c.in_ok-index.ensures (search rules) (search rules) (search rules) c.at_most.ensures c.in-Some.ensures

pub read_marking_in-requires-clause-places_fit : goal.read_marking_in-requires-clause-places_fit
read_marking_in-requires-clause-places_fit c =
    start_fits c.args.net.now c.args.buffer.now c.args.m c.args.picks.now c.in_ok-index.ensures (search rules) (search rules) c.at_most-places.ensures

pub returns-in_err-read_marking_in : goal.returns-in_err-read_marking_in
returns-in_err-read_marking_in c =
    let p = err_from_is_err_and c.from_residual-in_err-read_marking_in.result c.from_residual-in_err-read_marking_in.ensures.1 in
    rw (p.1, p.2) (start_unmarked _ _ _ _ c.in_ok-index.ensures (search rules) (search rules) (search rules) c.at_most.ensures c.in_default.ensures c.at_most-places.ensures c.read_marking_in.ensures c.in_err-read_marking_in.was)

pub returns-in-Some-first_malformed : goal.returns-in-Some-first_malformed
returns-in-Some-first_malformed c =
    start_malformed _ _ _ _ c.in_ok-index.ensures (search rules) (search rules) (search rules) c.at_most.ensures c.in_default.ensures c.at_most-places.ensures c.read_marking_in.ensures c.in_ok-read_marking_in.was c.in-Some-first_malformed.ensures

pub returns : goal.returns
returns c =
    start-begins _ _ _ _ c.in_ok-index.ensures (search rules) (search rules) (search rules) c.at_most.ensures c.in_default.ensures c.at_most-places.ensures c.read_marking_in.ensures c.in_ok-read_marking_in.was (c.accept_net.auto.table ∙ c.requires) c.in_default-first_malformed.ensures
