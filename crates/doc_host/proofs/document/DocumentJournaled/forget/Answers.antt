use Rattle.std.proofs.Common.{sym, ap, subst}
use Rattle.std.specs.List.{All}
use Rattle.std.proofs.Math.Logic.{∥∥₁_map}
use Rattle.doc_model.specs.rules.Sound.{Valid}
use Rattle.doc_story.specs.declared.told.Told.{Told}
use Rattle.journaled_doc.specs.declared.kept.Kept.{Kept}
use Rattle.doc_host.specs.Documents.{last_of}
use Rattle.doc_host.proofs.Documents.{still_journaled, same_opening}
use Rattle.doc_host.proofs.document.DocumentJournaled.forget.Goals as goal

pub invariant_of-self : goal.invariant_of-self
invariant_of-self g c =
    let e = c.forget.ensures in
    let same = ap (λ (t : Told). t.history) e.story in
    record {
      journaled = ∥∥₁_map c.args.self.now.journaled (still_journaled g.C.Core.doc g.D.Disk.may_leave c.args.self.now.doc c.forget.new.self e.same.1 e.same.2 e.same.0 same);
      valid = subst (All (λ item. Valid item.1)) (sym same) c.args.self.now.valid;
    }

pub returns-clause-last : goal.returns-clause-last
returns-clause-last g c = ap (λ (t : Told). last_of t.last) c.forget.ensures.story

pub returns-clause-same : goal.returns-clause-same
returns-clause-same g c =
    let e = c.forget.ensures in (
      same_opening g.C.Core.doc g.D.Disk.may_leave c.args.self.now.doc c.forget.new.self e.same.0,
      ap (λ (t : Told). t.history) e.story,
      ap (λ (k : Kept g.row.D.Denot). g.D.Disk.faults k.journal.disk) e.same.2,
    )
