-- `net::index::read_parts` meets its contract: its word and its parts, one after the other, by the rules of `Transitions`; in the table
-- each kind of part is written behind the one before it.
use mathlib.Core.Path.{refl, sym}
use native.Mathlib.Omega.{arith}
use Rattle.std.proofs.lemmas.Result.{err_from_is_err_and}
use Rattle.net.proofs.Tables.{alike_still, inputs-stay, outputs-stay, guard_stays, plan_stays}
use Rattle.net.proofs.Transitions.{transition-refused, few-parts, transition-left, ranges_go, ranges_stop, inputs_go, inputs_stop, outputs_go, outputs_stop, guard_goes, guard_stops, plan_goes, plan_stops, unread}
use Rattle.net.proofs.index.read_parts.Goals as goal

pub skip_several-requires-4 : goal.skip_several-requires-4
skip_several-requires-4 c =
    let f = few-parts c.take.ensures c.in_ok-take.was c.parts_of-t.ensures in
    omega (arith, f.inputs, f.outputs, f.conjuncts, f.elements)

pub returns-in_err-take : goal.returns-in_err-take
returns-in_err-take c =
    let p = err_from_is_err_and c.from_residual.result c.from_residual.ensures.1 in
    rw (p.1, p.2) (unread (transition-refused c.take.ensures _ c.in_err-take.was) (record { same = refl }))

pub returns-in_err-ranges_end : goal.returns-in_err-ranges_end
returns-in_err-ranges_end c =
    let p = err_from_is_err_and c.from_residual-in_err-ranges_end.result c.from_residual-in_err-ranges_end.ensures.1 in
    let s0 = transition-left c.take.ensures c.in_ok-take.was c.args.widths.now c.parts_of-t.ensures in
    rw (p.1, p.2) (unread (ranges_stop _ _ _ _ s0 c.skip_ranges.ensures c.in_err-ranges_end.was) (record { same = refl }))

pub returns-in_err-ins_end : goal.returns-in_err-ins_end
returns-in_err-ins_end c =
    let p = err_from_is_err_and c.from_residual-in_err-ins_end.result c.from_residual-in_err-ins_end.ensures.1 in
    let s0 = transition-left c.take.ensures c.in_ok-take.was c.args.widths.now c.parts_of-t.ensures in
    let s1 = ranges_go _ _ _ _ s0 c.skip_ranges.ensures c.in_ok-ranges_end.was in
    rw (p.1, p.2) (unread (inputs_stop _ _ _ _ _ s1 c.skip_several.ensures.same c.in_err-ins_end.was) c.skip_several.ensures.before)

pub returns-in_err-outs_end : goal.returns-in_err-outs_end
returns-in_err-outs_end c =
    let p = err_from_is_err_and c.from_residual-in_err-outs_end.result c.from_residual-in_err-outs_end.ensures.1 in
    let s0 = transition-left c.take.ensures c.in_ok-take.was c.args.widths.now c.parts_of-t.ensures in
    let s1 = ranges_go _ _ _ _ s0 c.skip_ranges.ensures c.in_ok-ranges_end.was in
    let s2 = inputs_go _ _ _ _ _ s1 c.skip_several.ensures.same c.in_ok-ins_end.was in
    rw (p.1, p.2) (unread (outputs_stop _ _ _ _ _ _ s2 c.skip_several-2.ensures.same c.in_err-outs_end.was) (alike_still 8 c.skip_several.ensures.before c.skip_several-2.ensures.before))

pub returns-in_err-guard_end : goal.returns-in_err-guard_end
returns-in_err-guard_end c =
    let p = err_from_is_err_and c.from_residual-in_err-guard_end.result c.from_residual-in_err-guard_end.ensures.1 in
    let s0 = transition-left c.take.ensures c.in_ok-take.was c.args.widths.now c.parts_of-t.ensures in
    let s1 = ranges_go _ _ _ _ s0 c.skip_ranges.ensures c.in_ok-ranges_end.was in
    let s2 = inputs_go _ _ _ _ _ s1 c.skip_several.ensures.same c.in_ok-ins_end.was in
    let s3 = outputs_go _ _ _ _ _ _ s2 c.skip_several-2.ensures.same c.in_ok-outs_end.was in
    rw (p.1, p.2) (unread (guard_stops _ _ _ _ _ _ _ s3 c.skip_several-3.ensures.same c.in_err-guard_end.was) (alike_still 16 (alike_still 8 c.skip_several.ensures.before c.skip_several-2.ensures.before) c.skip_several-3.ensures.before))

pub returns-in_err-end : goal.returns-in_err-end
returns-in_err-end c =
    let p = err_from_is_err_and c.from_residual-in_err-end.result c.from_residual-in_err-end.ensures.1 in
    let s0 = transition-left c.take.ensures c.in_ok-take.was c.args.widths.now c.parts_of-t.ensures in
    let s1 = ranges_go _ _ _ _ s0 c.skip_ranges.ensures c.in_ok-ranges_end.was in
    let s2 = inputs_go _ _ _ _ _ s1 c.skip_several.ensures.same c.in_ok-ins_end.was in
    let s3 = outputs_go _ _ _ _ _ _ s2 c.skip_several-2.ensures.same c.in_ok-outs_end.was in
    let s4 = guard_goes _ _ _ _ _ _ _ s3 c.skip_several-3.ensures.same c.in_ok-guard_end.was in
    rw (p.1, p.2) (unread (plan_stops _ _ _ _ _ _ _ _ s4 c.skip_several-4.ensures.same c.in_err-end.was) (alike_still 24 (alike_still 16 (alike_still 8 c.skip_several.ensures.before c.skip_several-2.ensures.before) c.skip_several-3.ensures.before) c.skip_several-4.ensures.before))

pub returns : goal.returns
returns c =
    let f = few-parts c.take.ensures c.in_ok-take.was c.parts_of-t.ensures in
    let o = c.skip_several-2.ensures.before in
    let g = c.skip_several-3.ensures.before in
    let p = c.skip_several-4.ensures.before in
    let s0 = transition-left c.take.ensures c.in_ok-take.was c.args.widths.now c.parts_of-t.ensures in
    let s1 = ranges_go _ _ _ _ s0 c.skip_ranges.ensures c.in_ok-ranges_end.was in
    let s2 = inputs_go _ _ _ _ _ s1 c.skip_several.ensures.same c.in_ok-ins_end.was in
    let s3 = outputs_go _ _ _ _ _ _ s2 c.skip_several-2.ensures.same c.in_ok-outs_end.was in
    let s4 = guard_goes _ _ _ _ _ _ _ s3 c.skip_several-3.ensures.same c.in_ok-guard_end.was in
    let s5 = plan_goes _ _ _ _ _ _ _ _ s4 c.skip_several-4.ensures.same c.in_ok-end.was in
    record {
      parts = record {
        same = rw (inputs-stay _ o g p _ f.inputs, outputs-stay _ o g p _ f.outputs, guard_stays _ o g p _ f.conjuncts, plan_stays _ o g p _ f.elements) (sym s5);
        few = f;
      };
      before = (alike_still 24 (alike_still 16 (alike_still 8 c.skip_several.ensures.before c.skip_several-2.ensures.before) c.skip_several-3.ensures.before) c.skip_several-4.ensures.before);
    }
