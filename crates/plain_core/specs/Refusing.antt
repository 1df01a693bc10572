-- The reasons to refuse an upload, in three groups: its elements, the versions, and what its index says.
use Rattle.std.specs.Prelude.{Bool, not, ◌||◌, List, [], ◌∷◌, is_some, is_none}
use Rattle.compact_values.specs.declared.ids.ExGuid.{ExGuid}
use Rattle.doc_model.specs.declared.call.Put.{Put}
use Rattle.doc_model.specs.declared.doc.Commit.{Commit}
use Rattle.doc_model.specs.declared.element.Element.{Element}
use Rattle.doc_model.specs.declared.reply.Code.{Code}
use Rattle.doc_model.specs.declared.reply.Code.TheVariants as codes
use Rattle.doc_model.specs.rules.Files.{file}
use Rattle.doc_model.specs.rules.Puts.{is_expected, is_committed, has_chains, too_large}
use Rattle.doc_model.specs.rules.Reached.{absent}

abbrev pub entry_reasons : Bool → Bool → Bool → List (Bool × Code)
entry_reasons locked invalid full = (locked, codes.AlreadyLocked) ∷ (invalid, codes.InvalidObject) ∷ (full, codes.StorageLimit) ∷ []

abbrev pub version_reasons : List Commit → Put → List (Bool × Code)
version_reasons commits p = (not (is_expected commits p), codes.Coherency) ∷ (is_committed commits p.index, codes.InvalidObject) ∷ []

-- those of a file whose index names only what is there, in chains that end
abbrev pub file_reasons : List Element → ExGuid → List (Bool × Code)
file_reasons added index = (is_none (file added index), codes.Unserializable) ∷ (too_large added index, codes.StorageLimit) ∷ []

abbrev pub content_reasons : List Element → ExGuid → List (Bool × Code)
content_reasons added index =
    (is_some (absent added index), codes.NotFound)
    ∷ (not (has_chains added index) || is_none (file added index), codes.Unserializable)
    ∷ (too_large added index, codes.StorageLimit) ∷ []
