-- `patch::entry::write_entry` meets its contract: the rules of `Writing` for an entry.
use native.Mathlib.Omega.{arith}
use lib.ListN.{length-set}
use Rattle.patch.proofs.Writing.{none_written, entry_length, entry_written}
use Rattle.patch.proofs.entry.write_entry.Goals as goal

pub returns-then-count-eq0 : goal.returns-then-count-eq0
returns-then-count-eq0 c = let a = c.args in none_written a.place a.n a.code a.count a.next.now a.at c.if-count-eq0.true

pub bounds-next-at : goal.bounds-next-at
bounds-next-at c = let a = c.args in let e = entry_length a.place a.n a.code a.count c.if-count-eq0.false in let h = c.requires.count_in_bounds in omega arith

pub write_values-requires : goal.write_values-requires
write_values-requires c = let a = c.args in let e = entry_length a.place a.n a.code a.count c.if-count-eq0.false in let h = c.requires.count_in_bounds in let l = length-set a.next.now a.at c.token_word.result in omega arith

pub overflow_add-result-2 : goal.overflow_add-result-2
overflow_add-result-2 c = let a = c.args in let e = entry_length a.place a.n a.code a.count c.if-count-eq0.false in let h = c.requires.count_in_bounds in omega arith

pub returns : goal.returns
returns c = let a = c.args in let e = entry_length a.place a.n a.code a.count c.if-count-eq0.false in let h = c.requires.count_in_bounds in entry_written a.place a.n a.code a.count c.if-count-eq0.false a.next.now _ a.at _ c.token_word.ensures (omega arith) c.write_values.ensures
