use Rattle.std.proofs.Common.{◌≡◌, ◌∙◌, refl, sym, ap, true, List, ◌++◌, ℕ}
use Rattle.doc_model.specs.declared.doc.Commit.{Commit}
use Rattle.doc_model.specs.declared.element.Element.{Element}
use Rattle.doc_model.specs.declared.knowledge.Range.{Range}
use Rattle.doc_model.specs.declared.reply.Reply.{Reply}
use Rattle.doc_model.specs.declared.reply.Reply.TheVariants.{Stored}
use Rattle.doc_model.specs.rules.Pulls.{ranges_of}
use Rattle.doc_model.specs.rules.Puts.{added_by, serials_of}
use Rattle.plain_core.specs.Cataloging.{listed}
use Rattle.plain_core.specs.Keeping.{doc_of}
use Rattle.plain_core.specs.Uploading.{elements_of}
use Rattle.plain_core.specs.Weighing.{all_few}
use Rattle.plain_core.proofs.Planning.{upload-leads}
use Rattle.plain_core.proofs.plain.PlainCore.accepted.Goals as goal

pub returns : goal.returns
returns c =
    let now = c.args.self.now in
    let doc = doc_of now in
    let upload = c.args.upload.now in
    let catalog = c.args.catalog in
    let with_fresh : doc.added ++ c.into_vec.result.items ≡ added_by doc upload =
    ap (λ (es : List Element). doc.added ++ es) (c.into_vec.ensures ∙ c.into_fresh-fresh.ensures)
    ∙ ap (λ (es : List Element). es ++ catalog.fresh) (sym c.requires.added) ∙ c.requires.catalog in
    record {
      moved = refl;
      reply = ap (λ (rs : List Range). Stored (record { ranges = rs }))
          (c.in_ok-ranges.ensures
          ∙ ap (λ (es : List Element). ranges_of now.guid (serials_of es (elements_of c.args.sent.now))) c.requires.catalog
          ∙ ap (λ (es : List Element). ranges_of now.guid (serials_of (added_by doc upload) es)) c.requires.elements);
      doc = upload-leads doc c.args.moment upload c.requires.accepted c.args.user.now c.into_vec.result.items _ c.in_ok-parts.parts with_fresh
          (ap all_few (sym c.requires.catalog) ∙ c.requires.few) now.usable c.in_ok-parts.ensures.few
          (ap (λ (u : List ℕ). record { index = upload.index; moment = c.args.moment; user = u }) c.in_ok-copied.ensures) c.in_ok-parts.ensures.parts;
    }
