use Rattle.std.proofs.Common.{◌≡◌, ◌∙◌, ap, true, List}
use Rattle.doc_model.specs.declared.doc.Commit.{Commit}
use Rattle.doc_model.specs.declared.element.Element.{Element}
use Rattle.plain_core.specs.Weighing.{all_few}
use Rattle.plain_core.specs.Wholes.{all_usable, all_whole}
use Rattle.plain_core.proofs.FewObjects.{few-sound, few-sound-parts}
use Rattle.plain_core.proofs.Wholes.{sound-usable, sound-whole}
use Rattle.plain_core.proofs.plain.PlainCore.from_doc.Goals as goal

pub invariant_of-result : goal.invariant_of-result
invariant_of-result c =
    let doc = c.args.doc in record {
      few = ap all_few c.into_vec.ensures ∙ few-sound doc doc.added c.requires.added;
      few_pending = few-sound-parts doc doc.parts c.requires.parts.sound;
      usable = ap (all_usable doc.guid doc.drawn) c.into_vec.ensures ∙ sound-usable doc c.requires;
      whole = ap (λ (es : List Element). all_whole es c.into_vec-2.result.items) c.into_vec.ensures ∙ ap (all_whole doc.added) c.into_vec-2.ensures ∙ sound-whole doc c.requires;
    }
