use Rattle.std.proofs.Common.{◌∙◌, ap, cond, None}
use Rattle.doc_model.specs.rules.Pulls.{pulled}
use Rattle.plain_core.specs.Keeping.{doc_of, leads_to}
use Rattle.plain_core.proofs.plain.PlainCore.plan_pull.Goals as goal

pub returns : goal.returns
returns c =
    let now = c.args.self.now in
    let known = c.args.known.now in
    record {
      moved = c.read.ensures.planned.moved;
      reply = c.read.ensures.planned.reply ∙ c.in_ok-reply.ensures
          ∙ ap (λ added. pulled now.guid added c.as_slice-commits.result.now known) c.as_slice-added.ensures.value
          ∙ ap (λ commits. pulled now.guid now.added.items commits known) c.as_slice-commits.ensures.value;
      doc = ap (λ b. cond b (leads_to (doc_of now) c.read.result.fresh) None) c.read.ensures.room ∙ c.read.ensures.planned.doc;
    }
