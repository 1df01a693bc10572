use Rattle.std.proofs.Common.{◌≡◌, ◌∙◌, refl, sym, ap, subst, true, List, [], ◌∷◌, ◌++◌, ℕ, Option, Some, None}
use Rattle.compact_values.specs.declared.ids.ExGuid.{ExGuid}
use Rattle.doc_model.specs.declared.doc.Commit.{Commit}
use Rattle.doc_model.specs.declared.element.Element.{Element}
use Rattle.doc_model.specs.declared.reply.Code.{Code}
use Rattle.doc_model.specs.declared.reply.Code.TheVariants as codes
use Rattle.doc_model.specs.rules.Apply.{IsPlanned}
use Rattle.doc_model.specs.rules.Puts.{too_much_added, too_large}
use Rattle.doc_model.specs.rules.Effects.{unless, first_refusal}
use Rattle.doc_model.specs.rules.Versions.{added_by_restore, index_like, new_index, restore_refusal, restored}
use Rattle.plain_core.specs.Cataloging.{listed}
use Rattle.plain_core.specs.Keeping.{doc_of}
use Rattle.plain_core.specs.Weighing.{all_few}
use Rattle.plain_core.specs.Wholes.{is_whole}
use Rattle.plain_core.proofs.FewObjects.{few-with-like}
use Rattle.plain_core.proofs.Planning.{restore-accepted, restore-leads, restore-whole}
use Rattle.plain_core.proofs.plain.PlainCore.plan_under.Goals as goal

pub limit_refusal-requires-clause-few : goal.limit_refusal-requires-clause-few
limit_refusal-requires-clause-few c =
    ap all_few c.in_ok-catalog.ensures.listed ∙ few-with-like c.args.self.now.added.items c.args.id c.args.old.now.index c.args.self.now.few

pub limit_refusal-requires-clause-whole : goal.limit_refusal-requires-clause-whole
limit_refusal-requires-clause-whole c =
    let now = c.args.self.now in
    let old = c.args.old.now in
    ap (λ (es : List Element). is_whole es c.args.id) c.in_ok-catalog.ensures.listed
    ∙ ap (λ (id : ExGuid). is_whole (now.added.items ++ index_like now.added.items id old.index ∷ []) id) c.requires.id
    ∙ restore-whole (doc_of now) old now.usable c.requires.whole

pub returns-in_ok-copied-in-None : goal.returns-in_ok-copied-in-None
returns-in_ok-copied-in-None c =
    let now = c.args.self.now in
    let doc = doc_of now in
    let old = c.args.old.now in
    let catalog = c.in_ok-catalog.catalog in
    let all : listed catalog ≡ added_by_restore doc old =
    c.in_ok-catalog.ensures.listed ∙ ap (λ (id : ExGuid). now.added.items ++ index_like now.added.items id old.index ∷ []) c.requires.id in
    let fits : first_refusal ((too_much_added (added_by_restore doc old), codes.StorageLimit) ∷ (too_large (added_by_restore doc old) (new_index doc), codes.StorageLimit) ∷ []) ≡ None =
    ap (λ (es : List Element). first_refusal ((too_much_added es, codes.StorageLimit) ∷ (too_large es (new_index doc), codes.StorageLimit) ∷ [])) (sym all)
    ∙ ap (λ (id : ExGuid). first_refusal ((too_much_added (listed catalog), codes.StorageLimit) ∷ (too_large (listed catalog) id, codes.StorageLimit) ∷ [])) (sym c.requires.id)
    ∙ sym c.in_ok-code.ensures ∙ c.in-None.is in
    let with_fresh : doc.added ++ c.into_vec.result.items ≡ added_by_restore doc old =
    ap (λ (es : List Element). doc.added ++ es) (c.into_vec.ensures ∙ c.into_fresh.ensures)
    ∙ ap (λ (es : List Element). es ++ catalog.fresh) (sym c.in_ok-catalog.ensures.added) ∙ all in
    let few : all_few (added_by_restore doc old) ≡ true = few-with-like doc.added (new_index doc) old.index now.few in
    let effect = restored doc c.args.moment c.args.user.now old in
    let accepted : restore_refusal doc old ≡ None = restore-accepted doc old c.requires.left fits in
    record {
      moved = ap (λ (o : Option Code). (unless o doc effect).moved) (sym accepted);
      reply = ap (λ (o : Option Code). (unless o doc effect).reply) (sym accepted);
      doc = restore-leads doc old now.usable c.requires.whole c.args.moment c.args.user.now c.into_vec.result.items _ with_fresh few
          (ap (λ (id : ExGuid). record { index = id; moment = c.args.moment; user = c.in_ok-copied-in-None.field-0 }) c.requires.id
          ∙ ap (λ (u : List ℕ). record { index = new_index doc; moment = c.args.moment; user = u }) c.in_ok-copied-in-None.ensures)
          ∙ ap (λ (o : Option Code). Some (unless o doc effect).doc) (sym accepted);
    }
