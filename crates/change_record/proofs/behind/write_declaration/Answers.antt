use Rattle.change_record.proofs.Pieces.{apart_bytes}
use Rattle.change_record.proofs.behind.write_declaration.Goals as goal

pub returns-else-object-eq0 : goal.returns-else-object-eq0
returns-else-object-eq0 c = rw (apart_bytes c.args.object.now c.in-Apart.blob c.in-Apart.is c.if-object-eq0.false) (rw (c.len.ensures, c.len-2.ensures) at c.write_row-else-object-eq0.ensures.ok)
