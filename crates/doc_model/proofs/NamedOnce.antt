-- Naming each revision, group and blob once is enough; and the objects of a file are the first ones of their ids.
use Rattle.std.proofs.Common.{◌≡◌, refl, sym, ◌∙◌, ap, Bool, true, false, cond, List, [], ◌∷◌, ◌++◌, map, flat_map, find, take, Some, option_map, option_and_then}
use Rattle.std.specs.Option.{option_or}
use Rattle.std.proofs.lemmas.List.Folds.{find-append}
use Rattle.compact_values.specs.declared.ids.ExGuid.{ExGuid}
use Rattle.compact_values.specs.SameIds.{same_id}
use Rattle.doc_model.specs.declared.element.Element.{Element}
use Rattle.doc_model.specs.declared.element.Name.{Name}
use Rattle.doc_model.specs.declared.element.Object.{Object}
use Rattle.doc_model.specs.rules.Finding.{Mappings}
use Rattle.doc_model.specs.rules.FileObjects.{find_object}
use Rattle.doc_model.specs.rules.Files.{as_file_object, objects_of}
use Rattle.doc_model.specs.laws.Naming.{OnceIsEnough, ObjectOfTheFile}
use Rattle.doc_model.specs.rules.Reached.{blob_name, blobs_of, cell_name, cells_of, currents_of, each_once, enough, group_name, groups_of, named_along, revision_name, storage_name}
use Rattle.doc_model.proofs.Once.{flat-once, find-map-once}

find-parts : {X : Type 0} (p : X → Bool) (xs xs' ys ys' : List X) → find p xs ≡ find p xs' → find p ys ≡ find p ys' → find p (xs ++ ys) ≡ find p (xs' ++ ys')
find-parts p xs xs' ys ys' e f =
    find-append p xs ys ∙ ap (λ o. option_or o (find p ys)) e ∙ ap (option_or (find p xs')) f ∙ sym (find-append p xs' ys')

module _ (added : List Element) (maps : Mappings) (p : Name → Bool) where
  abbrev along : List ExGuid
  along = flat_map (named_along added maps.revisions (enough maps.revisions)) (currents_of added maps)

  abbrev groups : List ExGuid
  groups = flat_map (groups_of added maps.revisions) along

  groups-once : each_once (flat_map (groups_of added maps.revisions) (each_once along)) ≡ each_once groups
  groups-once = flat-once (groups_of added maps.revisions) along

  blobs-once : each_once (flat_map (blobs_of added) (each_once (flat_map (groups_of added maps.revisions) (each_once along)))) ≡ each_once (flat_map (blobs_of added) groups)
  blobs-once = ap (λ gs. each_once (flat_map (blobs_of added) gs)) groups-once ∙ flat-once (blobs_of added) groups

pub once-is-enough : OnceIsEnough
once-is-enough added maps p =
    let storage = map (storage_name added) (take 1 maps.manifests) in
    let cells = map (cell_name added) (cells_of maps) in
    let rs = along added maps p in
    let gs = groups added maps p in
    let bs = flat_map (blobs_of added) gs in
    let revisions = find-parts p (storage ++ cells) (storage ++ cells) _ (map (revision_name added maps.revisions) rs) refl (find-map-once p (revision_name added maps.revisions) rs) in
    let named = find-parts p _ (storage ++ cells ++ map (revision_name added maps.revisions) rs) _ (map (group_name added) gs) revisions
    (ap (λ ids. find p (map (group_name added) ids)) (groups-once added maps p) ∙ find-map-once p (group_name added) gs) in
    find-parts p _ (storage ++ cells ++ map (revision_name added maps.revisions) rs ++ map (group_name added) gs) _ (map (blob_name added) bs) named
    (ap (λ ids. find p (map (blob_name added) ids)) (blobs-once added maps p) ∙ find-map-once p (blob_name added) bs)

found-file-object : (added : List Element) (id : ExGuid) (os : List Object)
    → find_object (map (as_file_object added) os) id ≡ option_map (as_file_object added) (find (λ o. same_id o.id id) os)
found-file-object added id [] = refl
found-file-object added id (o ∷ os) = at (same_id o.id id) (found-file-object added id os)
  where
    at : (b : Bool) → find_object (map (as_file_object added) os) id ≡ option_map (as_file_object added) (find (λ x. same_id x.id id) os)
        → cond b (Some (as_file_object added o)) (find_object (map (as_file_object added) os) id) ≡ option_map (as_file_object added) (cond b (Some o) (find (λ x. same_id x.id id) os))
    at true h = refl
    at false h = h

pub object-of-the-file : ObjectOfTheFile
object-of-the-file added index id ms e =
    found-file-object added id (objects_of added ms)
    ∙ ap (λ c. option_map (as_file_object added) (option_and_then (λ manifests. find (λ o. same_id o.id id) (objects_of added manifests)) c)) (sym e)
