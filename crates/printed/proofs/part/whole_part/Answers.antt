-- `printed::part::whole_part` meets its contract: no part is longer than the buffer.
use Rattle.printed.proofs.Whole.{part_uncut}
use Rattle.printed.proofs.part.whole_part.Goals as goal

pub returns : goal.returns
returns c =
    let u = part_uncut c.args.bytes.now c.args.i c.args.out.now c.requires c.print_part.ensures.out_after c.print_part.ensures.written_value in
    record { out_after = u.0; written_bound = u.1; more_value = c.print_part.ensures.more_value }
