-- The document that a list of calls leads to.
use Rattle.std.proofs.Common.{◌≡◌, refl, sym, ◌∙◌, ap, [], ◌∷◌, ◌++◌}
use Rattle.doc_model.specs.declared.doc.Doc.{Doc}
use Rattle.doc_model.specs.rules.Apply.{apply, replay}
use Rattle.doc_model.specs.rules.Histories.{History}
use Rattle.doc_model.specs.laws.Histories.{UnmovedBetween}
use Rattle.doc_model.proofs.Unmoved.{unmoved}

pub replay-append : (doc : Doc) (xs ys : History) → replay doc (xs ++ ys) ≡ replay (replay doc xs) ys
replay-append doc [] ys = refl
replay-append doc (x ∷ xs) ys = replay-append (apply doc x.1).doc xs ys

pub unmoved-between : UnmovedBetween
unmoved-between doc before after item still =
    replay-append doc before (item ∷ after) ∙ ap (λ (d : Doc). replay d after) (unmoved (replay doc before) item.1 still)
    ∙ sym (replay-append doc before after)
