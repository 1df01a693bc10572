-- A file depends on what is found first alone, so the objects of a group that is named again are nothing new.
use Rattle.std.proofs.Common.{◌≡◌, ℕ, zero, suc, refl, sym, ◌∙◌, ap, Bool, true, false, cond, eqb, List, [], ◌∷◌, ◌++◌, length, map, flat_map, find, Option, Some, None, option_map, option_and_then}
use Rattle.std.proofs.lemmas.Grind.{flat_map-append}
use Rattle.compact_values.specs.declared.ids.ExGuid.{ExGuid}
use Rattle.compact_values.specs.SameIds.{same_id}
use Rattle.doc_model.specs.declared.element.Element.{Element}
use Rattle.doc_model.specs.declared.element.Object.{Object}
use Rattle.doc_model.specs.rules.FileObjects.{FileObject, file_below, find_object, joined, node_file, of_node, root_file}
use Rattle.doc_model.specs.rules.Files.{group_objects, objects_of}
use Rattle.doc_model.specs.rules.Finding.{Manifest}
use Rattle.doc_model.proofs.Once.{find-once}
use Rattle.file_nodes.specs.FileAnswers.{stored_file}
use Rattle.file_nodes.specs.FileWalks.{as_file_object, stored_objects}
use Rattle.plain_core.specs.Filing.{groups_named, objects_in, objects_with_bytes, stored}

module _ (f g : ExGuid → Option (List ℕ)) (same : (id : ExGuid) → f id ≡ g id) where
  joined-same : (ids : List ExGuid) → joined f ids ≡ joined g ids
  joined-same [] = refl
  joined-same (id ∷ ids) =
      ap (λ (o : Option (List ℕ)). option_and_then (λ file. option_map (λ files. file ++ files) (joined f ids)) o) (same id)
      ∙ ap (λ (o : Option (List ℕ)). option_and_then (λ file. option_map (λ files. file ++ files) o) (g id)) (joined-same ids)

  node-same : (o : FileObject) → node_file f o ≡ node_file g o
  node-same o = ap (λ (files : Option (List ℕ)). option_and_then (λ bytes. option_and_then (of_node bytes) files) o.bytes) (joined-same o.references)

  -- so an object that is found has the same file, whether or not it has references
  found-same : (own : FileObject → Option (List ℕ)) (o : Option FileObject)
      → option_and_then (λ x. cond (eqb (length x.references) 0) (own x) (node_file f x)) o ≡ option_and_then (λ x. cond (eqb (length x.references) 0) (own x) (node_file g x)) o
  found-same own None = refl
  found-same own (Some x) = ap (λ (file : Option (List ℕ)). cond (eqb (length x.references) 0) (own x) file) (node-same x)

-- lists of objects in which the same is found
module _ (xs ys : List FileObject) (same : (id : ExGuid) → find_object xs id ≡ find_object ys id) where
  below-same : (n : ℕ) (id : ExGuid) → file_below xs n id ≡ file_below ys n id
  unfolding file_below
  below-same zero id = refl
  below-same (suc n) id =
      found-same (file_below xs n) (file_below ys n) (below-same n) (λ x. x.bytes) (find_object xs id)
      ∙ ap (option_and_then (λ x. cond (eqb (length x.references) 0) x.bytes (node_file (file_below ys n) x))) (same id)

  root-same : (id : ExGuid) → root_file xs id ≡ root_file ys id
  root-same id =
      found-same (file_below xs 7) (file_below ys 7) (below-same 7) (λ x. Some []) (find_object xs id)
      ∙ ap (option_and_then (λ x. cond (eqb (length x.references) 0) (Some []) (node_file (file_below ys 7) x))) (same id)

module _ (added : List Element) where
  abbrev kept : Object → FileObject
  kept o = as_file_object (stored added o)

  found-stored : (id : ExGuid) (os : List Object) → find_object (stored_objects (map (stored added) os)) id ≡ option_map kept (find (λ o. same_id o.id id) os)
  found-stored id [] = refl
  found-stored id (o ∷ os) = at (same_id o.id id) (found-stored id os)
    where
      at : (b : Bool) → find_object (stored_objects (map (stored added) os)) id ≡ option_map kept (find (λ x. same_id x.id id) os)
          → cond b (Some (kept o)) (find_object (stored_objects (map (stored added) os)) id) ≡ option_map kept (cond b (Some o) (find (λ x. same_id x.id id) os))
      at true h = refl
      at false h = h

  in-turn : (ms : List Manifest) → flat_map (group_objects added) (flat_map (λ m. m.groups) ms) ≡ objects_of added ms
  in-turn [] = refl
  in-turn (m ∷ ms) =
      flat_map-append (group_objects added) m.groups (flat_map (λ m. m.groups) ms)
      ∙ ap (λ (os : List Object). flat_map (group_objects added) m.groups ++ os) (in-turn ms)

  pub filed-once : (ms : List Manifest) (root : ExGuid) → stored_file (objects_in added (groups_named ms)) root ≡ stored_file (objects_with_bytes added ms) root
  filed-once ms root =
      root-same (stored_objects (objects_in added (groups_named ms))) (stored_objects (objects_with_bytes added ms)) same root
    where
      same : (id : ExGuid) → find_object (stored_objects (objects_in added (groups_named ms))) id ≡ find_object (stored_objects (objects_with_bytes added ms)) id
      same id =
          found-stored id (flat_map (group_objects added) (groups_named ms))
          ∙ ap (option_map kept)
          (find-once (λ o. same_id o.id id) (group_objects added) (flat_map (λ m. m.groups) ms) ∙ ap (find (λ o. same_id o.id id)) (in-turn ms))
          ∙ sym (found-stored id (objects_of added ms))
