-- The versions of a document, the file at the last one, and what restores a version (MS-FSSHTTP, Versioning subrequest).
use Rattle.std.specs.Prelude.{ℕ, ◌+◌, ◌-◌, ◌==◌, nat_le, Bool, true, not, if◌then◌else◌, List, [], ◌∷◌, ◌++◌, length, Option, None, Some, unwrap_or, slice_get}
use Rattle.compact_values.specs.declared.guid.Guid.{Guid}
use Rattle.compact_values.specs.declared.ids.ExGuid.{ExGuid}
use Rattle.compact_values.specs.declared.ids.ExGuid.TheVariants.{Id}
use Rattle.doc_model.specs.declared.doc.Commit.{Commit}
use Rattle.doc_model.specs.declared.doc.Doc.{Doc}
use Rattle.doc_model.specs.declared.element.Body.TheVariants.{Index}
use Rattle.doc_model.specs.declared.element.Element.{Element}
use Rattle.doc_model.specs.declared.reply.Code.{Code}
use Rattle.doc_model.specs.declared.reply.Code.TheVariants as code
use Rattle.doc_model.specs.declared.reply.Reply.TheVariants.{Done}
use Rattle.doc_model.specs.rules.Drawing.{last_number}
use Rattle.doc_model.specs.rules.Files.{file}
use Rattle.doc_model.specs.rules.Finding.{Mappings, said, as_index}
use Rattle.doc_model.specs.rules.Locks.{live, allowed}
use Rattle.doc_model.specs.rules.Pulls.{stored_index}
use Rattle.doc_model.specs.rules.Puts.{too_much_added, too_large}
use Rattle.doc_model.specs.rules.Effects.{Effect, refused, first_refusal, unless}

-- the k-th version, counted from 1
abbrev pub version : List Commit → ℕ → Option Commit
version commits k = if k == 0 then None else slice_get commits (k - 1)

-- the file at the last version, empty without one
abbrev pub last_file : List Element → List Commit → List ℕ
last_file added commits = if length commits == 0 then [] else unwrap_or (file added (stored_index commits)) []

-- the next number of the document's own GUID, which nobody has yet
abbrev pub next_id : Guid → ℕ → ExGuid
next_id guid drawn = Id guid (drawn + 1)

-- what an index maps, nothing where it isn't there
abbrev pub mappings_at : List Element → ExGuid → Mappings
mappings_at added index = unwrap_or (said as_index added index) (record { manifests = []; cells = []; revisions = [] })

-- an index under this id that maps what the index of a version does
abbrev pub index_like : List Element → ExGuid → ExGuid → Element
index_like added id index =
    let maps = mappings_at added index in record { id = id; body = Index maps.manifests maps.cells maps.revisions }

-- the id under which a document restores a version, and its elements with the index under it
abbrev pub new_index : Doc → ExGuid
new_index doc = next_id doc.guid doc.drawn

abbrev pub added_by_restore : Doc → Commit → List Element
added_by_restore doc c = doc.added ++ index_like doc.added (new_index doc) c.index ∷ []

-- why a version can't be restored, in order
abbrev pub restore_reasons : Doc → List Element → List (Bool × Code)
restore_reasons doc added =
    (nat_le last_number doc.drawn, code.NoNumbers)
    ∷ (too_much_added added, code.StorageLimit)
    ∷ (too_large added (new_index doc), code.StorageLimit) ∷ []

abbrev pub restore_refusal : Doc → Commit → Option Code
restore_refusal doc c = first_refusal (restore_reasons doc (added_by_restore doc c))

-- the version committed anew, under an index that was never committed
abbrev pub restored : Doc → ℕ → List ℕ → Commit → Effect
restored doc moment user c = record {
  doc = record doc {
    added = added_by_restore doc c;
    commits = doc.commits ++ record { index = new_index doc; moment = moment; user = user } ∷ [];
    drawn = doc.drawn + 1;
  };
  reply = Done;
  moved = true;
}

abbrev pub restore_version : Doc → ℕ → List ℕ → Option Commit → Effect
restore_version doc moment user None = refused doc code.VersionUnknown
restore_version doc moment user (Some c) = unless (restore_refusal doc c) doc (restored doc moment user c)

-- a restore of the version of this number, by a call that carries this lock id
abbrev pub restore : Doc → ℕ → List ℕ → ℕ → Option Guid → Effect
restore doc moment user number carried =
    if not (allowed (live doc.lock moment) carried) then refused doc code.AlreadyLocked
    else restore_version doc moment user (version doc.commits number)
