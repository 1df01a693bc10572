use Rattle.std.proofs.Common.{List, ◌∙◌, ap, sum_by}
use Rattle.doc_model.specs.declared.element.Element.{Element}
use Rattle.element_store.specs.Kept.{kept_weight, at_most_all}
use Rattle.element_store.proofs.Weighing.{whole-is}
use Rattle.element_store.proofs.store.ElementStore.weight.Goals as goal

pub returns : goal.returns
returns c =
    c.self.invariant.2
    ∙ ap (λ (es : List Element). at_most_all (sum_by kept_weight es)) (ap (λ s. s.elements) c.self.view_is)
    ∙ ap at_most_all (whole-is c.args.self.now.elements c.requires)
