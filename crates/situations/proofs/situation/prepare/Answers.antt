-- `situations::situation::prepare` meets its contract: each return is a rule of `Situations`. The tables that are lent keep their length; the first 64 numbers
-- of the third hold the positions of the transitions until the marking is read.
use mathlib.Core.Path.{sym}
use native.Mathlib.Omega.{arith}
use borrow.Author.Rules.{rules}
use lib.Seq.{length-take-le}
use Rattle.std.proofs.lemmas.Result.{err_from_is_err_and}
use Rattle.situations.proofs.Situations.{lent_tables, net_unaccepted, transition-unknown, places-fit, word-inside, marking-refused, told}
use Rattle.situations.proofs.situation.prepare.Goals as goal

pub slice_bounds-accept_into-end-3 : goal.slice_bounds-accept_into-end-3
slice_bounds-accept_into-end-3 c = sym (length-take-le 64 c.args.begins.now (omega (arith, c.requires.2)))

pub accept_into-requires-clause-transitions_at_len : goal.accept_into-requires-clause-transitions_at_len
accept_into-requires-clause-transitions_at_len c = length-take-le 64 c.args.begins.now (omega (arith, c.requires.2))

pub returns-in_err-extent : goal.returns-in_err-extent
returns-in_err-extent c =
    let p = err_from_is_err_and c.from_residual.result c.from_residual.ensures.1 in
    rw (p.1, p.2) (net_unaccepted _ _ _ _ c.in_err-extent.ensures)

pub returns-then-at_most-number : goal.returns-then-at_most-number
returns-then-at_most-number c = transition-unknown _ (lent_tables _ _ c.requires c.in_ok-extent.ensures c.accept_into.auto.places_at c.accept_into.auto.widths c.accept_into.auto.transitions_at c.accept_into.auto.table) c.at_most.ensures c.if-at_most-number.true

pub read_marking-requires-clause-places_fit : goal.read_marking-requires-clause-places_fit
read_marking-requires-clause-places_fit c = places-fit c.args.marking.now (lent_tables _ _ c.requires c.in_ok-extent.ensures c.accept_into.auto.places_at c.accept_into.auto.widths c.accept_into.auto.transitions_at c.accept_into.auto.table) c.at_most-places.ensures

pub returns-in_err-read_marking : goal.returns-in_err-read_marking
returns-in_err-read_marking c =
    let p = err_from_is_err_and c.from_residual-in_err-read_marking.result c.from_residual-in_err-read_marking.ensures.1 in
    rw (p.1, p.2) (marking-refused _ (lent_tables _ _ c.requires c.in_ok-extent.ensures c.accept_into.auto.places_at c.accept_into.auto.widths c.accept_into.auto.transitions_at c.accept_into.auto.table) c.at_most.ensures c.if-at_most-number.false c.at_most-places.ensures c.read_marking.ensures c.in_err-read_marking.was)

pub offset_bounds-net-position : goal.offset_bounds-net-position
offset_bounds-net-position c =
    let h = word-inside c.args.marking.now (lent_tables _ _ c.requires c.in_ok-extent.ensures c.accept_into.auto.places_at c.accept_into.auto.widths c.accept_into.auto.transitions_at c.accept_into.auto.table) c.at_most.ensures c.if-at_most-number.false in
    let g = c.well_formed.0 in
    search rules

pub bounds-net-position : goal.bounds-net-position
bounds-net-position c = word-inside c.args.marking.now (lent_tables _ _ c.requires c.in_ok-extent.ensures c.accept_into.auto.places_at c.accept_into.auto.widths c.accept_into.auto.transitions_at c.accept_into.auto.table) c.at_most.ensures c.if-at_most-number.false

pub returns : goal.returns
returns c = told _ (lent_tables _ _ c.requires c.in_ok-extent.ensures c.accept_into.auto.places_at c.accept_into.auto.widths c.accept_into.auto.transitions_at c.accept_into.auto.table) c.at_most.ensures c.if-at_most-number.false c.at_most-places.ensures c.read_marking.ensures c.parts_of.ensures c.in_ok-read_marking.was
