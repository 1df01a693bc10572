use Rattle.change_record.proofs.write_steps.write_three.Goals as goal

pub returns : goal.returns
returns c = rw c.new-flag.ensures at c.write_numbered.ensures
