-- The walk has no fault exactly where the file is defined, and then it gives the file's length.
use Rattle.std.proofs.Common.{◌≡◌, ℕ, zero, suc, Bool, List, [], ◌∷◌, ◌++◌, length, map, Option, Some, None, Result, Ok, Err, inl, inr, eqb, refl, sym, ap, subst, ◌∙◌, arith}
use Rattle.std.specs.Prelude.{cond, option_and_then}
use Rattle.std.specs.Option.{option_map}
use Rattle.std.proofs.lemmas.Bool.{cases_Bool}
use Rattle.std.proofs.lemmas.List.{length-append}
use Rattle.compact_values.specs.declared.ids.ExGuid.{ExGuid}
use Rattle.compact_values.specs.SameIds.{same_id}
use Rattle.doc_model.specs.rules.FileObjects.{FileObject, find_object, joined, of_node, node_file, file_below, root_file}
use Rattle.doc_model.specs.rules.Nodes.{node_size}
use Rattle.file_nodes.specs.FileWalks.{as_file_object, stored_objects, find_stored, together, total, arrived, arrive, judged, behind, walk, walk_from, walk_root}
use Rattle.file_nodes.specs.FileAnswers.{Agrees}
use Rattle.file_nodes.specs.declared.fault.NodeFault.{NodeFault}
use Rattle.file_nodes.specs.StoredObjects.{StoredObject}

-- ---- the first object with an id

pub find_is : (objects : List StoredObject) (id : ExGuid) → find_object (stored_objects objects) id ≡ option_map as_file_object (find_stored objects id)
find_is [] id = refl
find_is (o ∷ os) id =
    elim (cases_Bool (same_id o.id id)) [
      | inl y ↦
          ap (λ (b : Bool). cond b (Some (as_file_object o)) (find_object (stored_objects os) id)) y
          ∙ sym (ap (λ (b : Bool). option_map as_file_object (cond b (Some o) (find_stored os id))) y)
      | inr n ↦
          ap (λ (b : Bool). cond b (Some (as_file_object o)) (find_object (stored_objects os) id)) n ∙ find_is os id
          ∙ sym (ap (λ (b : Bool). option_map as_file_object (cond b (Some o) (find_stored os id))) n)
    ]

-- ---- one file behind another

module _ (file_at : ExGuid → Option (List ℕ)) (walk_at : ExGuid → Result ℕ NodeFault) (one : (id : ExGuid) → Agrees (file_at id) (walk_at id)) where
  both : (ids : List ExGuid) (first rest : Option (List ℕ)) (x y : Result ℕ NodeFault) → Agrees first x → Agrees rest y
      → Agrees (option_and_then (λ file. option_map (λ files. file ++ files) rest) first) (together x y)
  both ids (Some f) (Some g) (Ok m) (Ok n) p q = omega (arith, p, q, length-append f g)
  both ids (Some f) (Some g) (Ok m) (Err e) p q = q
  both ids (Some f) (Some g) (Err e) y p q = absurd p
  both ids (Some f) None (Ok m) (Ok n) p q = q
  both ids (Some f) None (Ok m) (Err e) p q = tt
  both ids (Some f) None (Err e) y p q = absurd p
  both ids None rest (Ok m) y p q = absurd p
  both ids None rest (Err e) y p q = tt

  pub all_agree : (ids : List ExGuid) → Agrees (joined file_at ids) (total (map walk_at ids))
  all_agree [] = refl
  all_agree (id ∷ ids) = both ids (file_at id) (joined file_at ids) (walk_at id) (total (map walk_at ids)) (one id) (all_agree ids)

-- ---- one object

-- a node whose references have this file
judged_is : (o : StoredObject) (said : Option ℕ) (file : List ℕ) → Agrees (option_and_then (λ size. cond (eqb size (length file)) (Some file) None) said) (judged o said (length file))
judged_is o None file = tt
judged_is o (Some said) file =
    elim (cases_Bool (eqb said (length file))) [
      | inl y ↦ rw (y) refl
      | inr n ↦ rw (n) tt
    ]

behind_is : (o : StoredObject) (file : Option (List ℕ)) (found : Result ℕ NodeFault) → Agrees file found → Agrees (option_and_then (of_node o.bytes) file) (behind o (node_size o.bytes) found)
behind_is o (Some f) (Ok n) p = subst (λ (m : ℕ). Agrees (of_node o.bytes f) (judged o (node_size o.bytes) m)) (sym p) (judged_is o (node_size o.bytes) f)
behind_is o (Some f) (Err e) p = absurd p
behind_is o None (Ok n) p = absurd p
behind_is o None (Err e) p = tt

object_is : (o : StoredObject) (own : Option (List ℕ)) (size : ℕ) (file : Option (List ℕ)) (walked : Result ℕ NodeFault) → Agrees own (Ok size) → Agrees file walked
    → Agrees (cond (eqb (length o.references) 0) own file) (cond (eqb (length o.references) 0) (Ok size) walked)
object_is o own size file walked p q = elim (cases_Bool (eqb (length o.references) 0)) [ inl y ↦ rw y p | inr n ↦ rw n q ]

arrival_is : (id : ExGuid) (f : FileObject → Option (List ℕ)) (w : StoredObject → Result ℕ NodeFault) → ((o : StoredObject) → Agrees (f (as_file_object o)) (w o)) → (found : Option StoredObject)
    → Agrees (option_and_then f (option_map as_file_object found)) (arrived id (option_map w found))
arrival_is id f w h None = tt
arrival_is id f w h (Some o) = h o

nowhere : (id : ExGuid) (found : Option StoredObject) (fault : NodeFault) → Agrees None (arrived id (option_map (λ o. Err fault) found))
nowhere id None fault = tt
nowhere id (Some o) fault = tt

module _ (objects : List StoredObject) where
  -- what is defined of a reference
  pub below_is : (n : ℕ) (id : ExGuid) → Agrees (file_below (stored_objects objects) n id) (arrive objects (walk objects n) id)
  unfolding file_below walk
  below_is zero id = nowhere id (find_stored objects id) _
  below_is (suc n) id =
      let files = file_below (stored_objects objects) n in
      let walks = arrive objects (walk objects n) in
      let f : FileObject → Option (List ℕ) = λ o. cond (eqb (length o.references) 0) o.bytes (node_file files o) in
      subst (λ (o : Option FileObject). Agrees (option_and_then f o) (arrive objects (walk objects (suc n)) id)) (sym (find_is objects id))
      (arrival_is id f (walk objects (suc n))
      (λ o. object_is o (Some o.bytes) (length o.bytes) (option_and_then (of_node o.bytes) (joined files o.references)) (behind o (node_size o.bytes) (total (map walks o.references)))
      refl (behind_is o (joined files o.references) (total (map walks o.references)) (all_agree files walks (below_is n) o.references)))
      (find_stored objects id))

  pub root_is : (root : ExGuid) → Agrees (root_file (stored_objects objects) root) (walk_root objects root)
  root_is root =
      let files = file_below (stored_objects objects) 7 in
      let walks = arrive objects (walk objects 7) in
      let f : FileObject → Option (List ℕ) = λ o. cond (eqb (length o.references) 0) (Some []) (node_file files o) in
      subst (λ (o : Option FileObject). Agrees (option_and_then f o) (walk_root objects root)) (sym (find_is objects root))
      (arrival_is root f (walk_from objects)
      (λ o. object_is o (Some []) 0 (option_and_then (of_node o.bytes) (joined files o.references)) (behind o (node_size o.bytes) (total (map walks o.references)))
      refl (behind_is o (joined files o.references) (total (map walks o.references)) (all_agree files walks (below_is 7) o.references)))
      (find_stored objects root))
