use Rattle.envelope_read.proofs.White.{adds_before_tab}
use Rattle.envelope_read.proofs.base.add_before_tab.Goals as goal

pub returns-in_ok-add_lines-in-Some-clause-adds : goal.returns-in_ok-add_lines-in-Some-clause-adds
returns-in_ok-add_lines-in-Some-clause-adds c =
    adds_before_tab c.in-Some.at c.args.kept.now c.add_lines.new.kept c.args.bytes.now c.in-Some.ensures c.in_ok-add_lines-in-Some.ensures
