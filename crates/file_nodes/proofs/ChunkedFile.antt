-- From the index of a file that is cut one comes to its objects, and so to the file.
use Rattle.std.proofs.Common.{◌≡◌, ℕ, ◌+◌, ◌≤◌, List, [], ◌∷◌, ◌++◌, length, map, Option, Some, refl, ap, ◌∙◌, arith}
use Rattle.std.specs.Prelude.{slice_get, option_and_then}
use Rattle.std.specs.List.{range_with_len}
use Rattle.std.proofs.lemmas.List.{append-nil}
use Rattle.compact_values.specs.declared.guid.Guid.{Guid}
use Rattle.compact_values.specs.declared.ids.ExGuid.TheVariants as exguids
use Rattle.compact_values.specs.declared.ids.Serial.TheVariants as serials
use Rattle.compact_values.proofs.SameIds.{same-id}
use Rattle.doc_model.specs.declared.element.Element.{Element}
use Rattle.doc_model.specs.declared.element.Body.{Body}
use Rattle.doc_model.specs.declared.element.Object.{Object}
use Rattle.doc_model.specs.declared.element.Root.{Root}
use Rattle.doc_model.specs.rules.Finding.{Mappings, Manifest, as_index, as_storage, as_cell, as_revision, as_group, said}
use Rattle.doc_model.specs.rules.Reached.{chain, longest}
use Rattle.doc_model.specs.rules.Files.{file, file_of_chain, root_chain, current_revision, as_file_object}
use Rattle.doc_model.specs.rules.FileObjects.{root_file}
use Rattle.file_nodes.specs.Chunks.{id_of, storage_root, root_cell, revision_root, elements_round, chunked}
use Rattle.file_nodes.specs.Chunking.{file_objects}
use Rattle.file_nodes.proofs.FindLaws.{find-consecutive}
use Rattle.file_nodes.proofs.FileLaw.{root_file-file_objects}

-- ---- what the elements say

abbrev pub mappings : Guid → ℕ → Mappings
mappings guid first = record {
  manifests = record { target = id_of guid (first + 1); serial = serials.Null } ∷ [];
  cells = record { cell = root_cell; target = id_of guid (first + 2); serial = serials.Null } ∷ [];
  revisions = record { revision = id_of guid (first + 5); target = id_of guid (first + 3); serial = serials.Null } ∷ [];
}

abbrev pub roots : List Root
roots = record { root = storage_root; cell = root_cell } ∷ []

abbrev pub manifest : Guid → ℕ → Manifest
manifest guid first = record {
  base = exguids.Null;
  roots = record { root = revision_root; object = id_of guid (first + 6) } ∷ [];
  groups = id_of guid (first + 4) ∷ [];
}

module _ (objects : List Object) (guid : Guid) (first : ℕ) where
  pub consecutive : map (λ e. e.id) (elements_round objects guid first) ≡ map (id_of guid) (range_with_len first 5)
  consecutive =
      let two : first + 1 + 1 ≡ first + 2 = omega arith in
      let three : first + 2 + 1 ≡ first + 3 = omega arith in
      let four : first + 3 + 1 ≡ first + 4 = omega arith in
      rw (two, three, four)

  pub said-at : {X : Type 0} (as_kind : Body → Option X) (k w : ℕ) → w ≡ first + k
      → said as_kind (elements_round objects guid first) (id_of guid w) ≡ option_and_then (λ e. as_kind e.body) (slice_get (elements_round objects guid first) k)
  said-at {X} as_kind k w e =
      ap (option_and_then (λ (x : Element). as_kind x.body)) (find-consecutive (λ (x : Element). x.id) guid first w k (elements_round objects guid first) consecutive e)

-- ---- the way to the objects

module _ (added : List Element) (objects : List Object) (guid : Guid) (first : ℕ)
    (index : said as_index added (id_of guid first) ≡ Some (mappings guid first))
    (storage : said as_storage added (id_of guid (first + 1)) ≡ Some roots)
    (cell : said as_cell added (id_of guid (first + 2)) ≡ Some (id_of guid (first + 5)))
    (revision : said as_revision added (id_of guid (first + 3)) ≡ Some (manifest guid first))
    (group : said as_group added (id_of guid (first + 4)) ≡ Some objects) where
  current_is : current_revision added (mappings guid first) ≡ Some (id_of guid (first + 5))
  current_is = rw (storage, cell)

  pub chain_is : chain added (mappings guid first).revisions longest (id_of guid (first + 5)) ≡ Some (manifest guid first ∷ [])
  unfolding chain
  chain_is = rw (same-id (id_of guid (first + 5)), revision)

  root_chain_is : root_chain added (id_of guid first) ≡ Some (manifest guid first ∷ [])
  root_chain_is = rw (index, current_is, chain_is)

  objects_are : file_of_chain added (manifest guid first ∷ []) ≡ root_file (map (as_file_object added) objects) (id_of guid (first + 6))
  objects_are = rw group (ap (λ (l : List Object). root_file (map (as_file_object added) l) (id_of guid (first + 6))) (append-nil (objects ++ []) ∙ append-nil objects))

  file_is : file added (id_of guid first) ≡ root_file (map (as_file_object added) objects) (id_of guid (first + 6))
  file_is = rw root_chain_is objects_are

pub file-chunked : (bytes : List ℕ) (guid : Guid) (first : ℕ) → length bytes ≤ 16777216 → file (chunked bytes guid first).elements (chunked bytes guid first).index ≡ Some bytes
file-chunked bytes guid first short =
    let objects = file_objects bytes guid (first + 6) in
    let added = elements_round objects guid first in
    file_is added objects guid first (said-at objects guid first as_index 0 first (omega arith)) (said-at objects guid first as_storage 1 (first + 1) refl)
    (said-at objects guid first as_cell 2 (first + 2) refl) (said-at objects guid first as_revision 3 (first + 3) refl) (said-at objects guid first as_group 4 (first + 4) refl)
    ∙ root_file-file_objects bytes guid (first + 6) added short
