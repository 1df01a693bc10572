use Rattle.std.proofs.Common.{◌≡◌, ◌∙◌, sym, ap, subst, true, List, ◌++◌, cond}
use Rattle.std.specs.Result.{is_ok}
use Rattle.doc_model.specs.declared.doc.Commit.{Commit}
use Rattle.doc_model.specs.declared.element.Element.{Element}
use Rattle.plain_core.specs.Keeping.{doc_of}
use Rattle.plain_core.specs.Weighing.{all_few}
use Rattle.plain_core.specs.Wholes.{all_usable, all_whole}
use Rattle.plain_core.proofs.Joining.{joined-few, joined-usable, joined-whole}
use Rattle.plain_core.proofs.plain.PlainCore.add.Goals as goal

pub invariant_of-self : goal.invariant_of-self
invariant_of-self c =
    let old = c.args.self.now in
    let doc = doc_of old in
    let fresh = c.args.fresh.items in
    let version = c.args.commit in
    let joins = c.requires.joins in
    let added : c.append.new.self.items ≡ old.added.items ++ fresh =
    c.append.ensures.items ∙ ap (λ r. cond (is_ok r) (old.added.items ++ fresh) old.added.items) c.in-Ok.is in
    record {
      few = ap all_few added ∙ joined-few doc fresh version joins old.few;
      few_pending = old.few_pending;
      usable = ap (all_usable doc.guid doc.drawn) added ∙ joined-usable doc fresh version joins old.usable;
      whole = ap (λ (es : List Element). all_whole es c.push.new.self.items) added ∙ ap (all_whole (doc.added ++ fresh)) c.push.ensures.items
          ∙ joined-whole doc fresh version joins (is_ok c.push.result) old.whole;
    }
