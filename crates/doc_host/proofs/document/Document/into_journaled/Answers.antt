use Rattle.doc_host.proofs.Documents.{each_moves}
use Rattle.doc_host.proofs.document.Document.into_journaled.Goals as goal

pub returns-clause-moves : goal.returns-clause-moves
returns-clause-moves g c = each_moves g.C.Core.doc g.D.Disk.may_leave c.args.self.doc c.args.self.journaled
