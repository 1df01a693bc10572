use Rattle.doc_host.proofs.Documents.{each_moves}
use Rattle.doc_host.proofs.document.DocumentJournaled.each_moves.Goals as goal

pub returns : goal.returns
returns g c = each_moves g.C.Core.doc g.D.Disk.may_leave c.args.self.now.doc c.args.self.now.journaled
