-- `marking::entry::read_entry` meets its contract: the rules of `Entries`, one for each return.
use Rattle.std.specs.Prelude.{Ok, Err}
use Rattle.std.proofs.lemmas.Result.{err_from_is_err_and}
use Rattle.marking.proofs.Entries.{entry_refused, entry_unfit, entry_told}
use Rattle.marking.proofs.entry.read_entry.Goals as goal

pub returns-in_err-p : goal.returns-in_err-p
returns-in_err-p c = let p = err_from_is_err_and c.from_residual.result c.from_residual.ensures.1 in rw (p.1, p.2) (entry_refused _ _ _ _ c.in_err-p.ensures)

pub returns-then-not-fits_token : goal.returns-then-not-fits_token
returns-then-not-fits_token c = entry_unfit _ _ _ _ c.in_ok-p.ensures c.if-not-fits_token.ensures

pub returns-in_err-next : goal.returns-in_err-next
returns-in_err-next c =
    let p = err_from_is_err_and c.from_residual-in_err-next.result c.from_residual-in_err-next.ensures.1 in
    rw (p.1, p.2) (entry_told _ _ _ _ c.in_ok-p.ensures c.if-not-fits_token.ensures (Err c.in_err-next.field-0.0) c.payload-n.ensures.0 c.in_err-next.ensures)

pub returns : goal.returns
returns c = entry_told _ _ _ _ c.in_ok-p.ensures c.if-not-fits_token.ensures (Ok c.in_ok-next.next) c.payload-n.ensures.0 c.in_ok-next.ensures
