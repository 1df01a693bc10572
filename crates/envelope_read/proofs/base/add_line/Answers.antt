use Rattle.envelope_read.proofs.White.{adds_line, adds_last_line}
use Rattle.envelope_read.proofs.base.add_line.Goals as goal

pub returns-in_ok-extend_from_slice-in-Some-clause-adds : goal.returns-in_ok-extend_from_slice-in-Some-clause-adds
returns-in_ok-extend_from_slice-in-Some-clause-adds c =
    adds_line c.in-Some.at c.args.kept.now c.extend_from_slice.new.self c.args.bytes.now c.in-Some.ensures c.requires.no_tab c.in_ok-extend_from_slice-in-Some.ensures.ok

pub returns-in_ok-extend_from_slice-in-None-clause-adds : goal.returns-in_ok-extend_from_slice-in-None-clause-adds
returns-in_ok-extend_from_slice-in-None-clause-adds c =
    adds_last_line c.args.kept.now c.extend_from_slice-in-None.new.self c.args.bytes.now c.in-None.ensures c.requires.no_tab c.in_ok-extend_from_slice-in-None.ensures.ok
