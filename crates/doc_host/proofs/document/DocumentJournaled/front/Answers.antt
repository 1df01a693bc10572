use Rattle.std.proofs.Common.{arith}
use Rattle.doc_host.proofs.Documents.{count_is}
use Rattle.doc_host.proofs.document.DocumentJournaled.front.Goals as goal

pub returns : goal.returns
returns g c =
    let n = count_is g.C.Core.doc g.D.Disk.may_leave c.args.self.now.doc c.args.self.now.journaled in
    omega (arith, n, c.front.ensures)
