use Rattle.std.proofs.Common.{[], ◌∷◌, ◌++◌, sym, ap, subst, ◌∙◌}
use Rattle.doc_model.specs.rules.Sound.{Sound}
use Rattle.plain_core.specs.Keeping.{doc_of}
use Rattle.cell_host.proofs.Documents.{name_is, one_holds}
use Rattle.cell_host.proofs.replay.new_docs.Goals as goal

pub returns-clause-names : goal.returns-clause-names
returns-clause-names c =
    c.in_ok-push.ensures.ok ∙ ap (λ l. l ++ c.in_ok-from_str.field-0 ∷ []) c.new-names.ensures ∙ ap (λ name. name ∷ []) (c.in_ok-from_str.ensures ∙ name_is)

pub returns-clause-sound : goal.returns-clause-sound
returns-clause-sound c =
    one_holds c.push-2.new.self.items c.new-2.result (λ d. Sound (doc_of d.core))
    (c.in_ok-push-2.ensures.items ∙ ap (λ l. l ++ c.new-2.result ∷ []) c.new-docs.ensures.items)
    (subst Sound (sym (ap (λ d. doc_of d.core) c.new-2.ensures ∙ c.in_ok-new.ensures)) (c.every_call_keeps_sound.ensures.empty _))
