-- What is joined is the file.
use Rattle.std.proofs.Common.{◌≡◌, ℕ, zero, suc, ◌≤◌, Bool, true, false, List, [], ◌∷◌, ◌++◌, length, map, Option, Some, None, Result, Ok, Err, inl, inr, eqb, refl, sym, ap, subst, ◌∙◌, arith}
use Rattle.std.specs.Prelude.{cond, filter, slice_get, nat_lt, option_and_then}
use Rattle.std.specs.List.{flat_map}
use Rattle.std.specs.Option.{option_map}
use Rattle.std.proofs.lemmas.Bool.{cases_Bool}
use Rattle.std.proofs.lemmas.Bool.Decides.{nat_tests}
use Rattle.std.proofs.lemmas.List.Folds.{find_at}
use Rattle.std.proofs.lemmas.Option.{slice_get-map, cond_some, same_Some}
use Rattle.compact_values.specs.declared.ids.ExGuid.{ExGuid}
use Rattle.compact_values.specs.SameIds.{same_id}
use Rattle.doc_model.specs.rules.FileObjects.{FileObject, joined, of_node, node_file, file_below}
use Rattle.doc_model.specs.rules.Nodes.{node_size}
use Rattle.file_nodes.specs.FileAnswers.{Agrees}
use Rattle.file_nodes.specs.FileWalks.{as_file_object, stored_objects, find_stored, arrived, arrive, walk}
use Rattle.file_nodes.specs.Links.{place_of, link_of, has_bytes, filled, file_at, file_from, below_table}
use Rattle.file_nodes.specs.declared.fault.NodeFault.{NodeFault}
use Rattle.file_nodes.specs.StoredObjects.{StoredObject}
use Rattle.file_nodes.proofs.WalkLaws.{find_is, below_is}
use Rattle.file_nodes.proofs.Heights.{grows_to}
use Rattle.file_nodes.proofs.WalkTables.{entry_is}

-- ---- options

then_parts : {A B : Type 0} (f : A → Option B) (o : Option A) (y : B) → option_and_then f o ≡ Some y → (x : A) × (o ≡ Some x) × (f x ≡ Some y)
then_parts {A} {B} f (Some x) y e = (x, refl, e)
then_parts {A} {B} f None y e = absurd cc

map_parts : {A B : Type 0} (f : A → B) (o : Option A) (y : B) → option_map f o ≡ Some y → (x : A) × (o ≡ Some x) × (f x ≡ y)
map_parts {A} {B} f (Some x) y e = (x, refl, cc)
map_parts {A} {B} f None y e = absurd cc

-- a file that is a node's is the joined one
of_node_is : (bytes file g : List ℕ) → of_node bytes g ≡ Some file → g ≡ file
of_node_is bytes file g e =
    let p = then_parts (λ size. cond (eqb size (length g)) (Some g) None) (node_size bytes) file e in
    (cond_some (eqb p.0 (length g)) g file p.2).1

found_length : (file : List ℕ) (o : Option (List ℕ)) (walked : Result ℕ NodeFault) → o ≡ Some file → Agrees o walked → walked ≡ Ok (length file)
found_length file (Some f) (Ok n) e a = let same : f ≡ file = cc in ap Ok (a ∙ ap (λ (l : List ℕ). length l) same)
found_length file (Some f) (Err x) e a = absurd a
found_length file None walked e a = absurd cc

arrived_at : (id : ExGuid) (w : StoredObject → Result ℕ NodeFault) (found : Option StoredObject) (m : ℕ) → arrived id (option_map w found) ≡ Ok m → (o : StoredObject) × (found ≡ Some o) × (w o ≡ Ok m)
arrived_at id w None m e = absurd cc
arrived_at id w (Some o) m e = (o, refl, e)

module _ (objects : List StoredObject) where
  abbrev table : List (Result ℕ NodeFault)
  table = below_table objects

  abbrev children : List (List ℕ)
  children = map (filled table) (map (link_of objects) objects)

  abbrev files : ℕ → ExGuid → Option (List ℕ)
  files n = file_below (stored_objects objects) n

  -- what the table has for an id that has a file
  entry : (n : ℕ) → n ≤ 7 → (id : ExGuid) (file : List ℕ) → files n id ≡ Some file → slice_get table (place_of objects id) ≡ Some (Ok (length file))
  entry n le id file e =
      let walked = found_length file (files n id) (arrive objects (walk objects n) id) e (below_is objects n id) in
      let a = arrived_at id (walk objects n) (find_stored objects id) (length file) walked in
      entry_is objects (walk objects 7) table refl id ∙ ap (option_map (walk objects 7)) a.1 ∙ ap Some (grows_to objects n 7 le a.0 (length file) a.2)

  abbrev IsJoined : ℕ → Type 0
  IsJoined n = (id : ExGuid) (file : List ℕ) → files n id ≡ Some file → file_from objects children n (place_of objects id) ≡ file

  abbrev full : ℕ → Bool
  full place = has_bytes (slice_get table place)

  -- one file in front of others
  in_front : (n place : ℕ) (places first rest : List ℕ) → full place ≡ nat_lt 0 (length first) → file_from objects children n place ≡ first
      → flat_map (file_from objects children n) (filter full places) ≡ rest → flat_map (file_from objects children n) (filter full (place ∷ places)) ≡ first ++ rest
  in_front n place places [] rest t e h =
      ap (λ (b : Bool). flat_map (file_from objects children n) (cond b (place ∷ filter full places) (filter full places))) t ∙ h
  in_front n place places (x ∷ xs) rest t e h =
      let some : nat_lt 0 (length (x ∷ xs)) ≡ true = grind (arith, nat_tests) in
      ap (λ (b : Bool). flat_map (file_from objects children n) (cond b (place ∷ filter full places) (filter full places))) (t ∙ some)
      ∙ ap (λ (l : List ℕ). l ++ flat_map (file_from objects children n) (filter full places)) e ∙ ap (λ (l : List ℕ). x ∷ xs ++ l) h

  pub refs_joined : (n : ℕ) → n ≤ 7 → IsJoined n → (ids : List ExGuid) (file : List ℕ) → joined (files n) ids ≡ Some file
      → flat_map (file_from objects children n) (filter full (map (place_of objects) ids)) ≡ file
  refs_joined n le one [] file e = cc
  refs_joined n le one (id ∷ ids) file e =
      let p = then_parts (λ file. option_map (λ files. file ++ files) (joined (files n) ids)) (files n id) file e in
      let q = map_parts (λ files. p.0 ++ files) (joined (files n) ids) file p.2 in
      in_front n (place_of objects id) (map (place_of objects) ids) p.0 q.0 (ap has_bytes (entry n le id p.0 p.1)) (one id p.0 p.1) (refs_joined n le one ids q.0 q.1) ∙ q.2

  -- an object at a place, and the places of its references with bytes
  children_at : (place : ℕ) (o : StoredObject) → slice_get objects place ≡ Some o → slice_get children place ≡ Some (filled table (link_of objects o))
  children_at place o e =
      slice_get-map (filled table) (map (link_of objects) objects) place ∙ ap (option_map (filled table)) (slice_get-map (link_of objects) objects place)
      ∙ ap (λ (p : Option StoredObject). option_map (filled table) (option_map (link_of objects) p)) e

  from_object : (n place : ℕ) (o : StoredObject) → slice_get objects place ≡ Some o
      → file_from objects children (suc n) place ≡ cond (eqb (length o.references) 0) o.bytes (flat_map (file_from objects children n) (filled table (link_of objects o)))
  unfolding file_from
  from_object n place o e =
      ap (λ (p : Option StoredObject). file_at (file_from objects children n) p (slice_get children place)) e
      ∙ ap (file_at (file_from objects children n) (Some o)) (children_at place o e)

  -- a node with its references
  pub node_joined : (n : ℕ) → n ≤ 7 → IsJoined n → (place : ℕ) (o : StoredObject) (file : List ℕ) → slice_get objects place ≡ Some o → eqb (length o.references) 0 ≡ false
      → option_and_then (of_node o.bytes) (joined (files n) o.references) ≡ Some file → file_from objects children (suc n) place ≡ file
  node_joined n le one place o file at some e =
      let p = then_parts (of_node o.bytes) (joined (files n) o.references) file e in
      from_object n place o at
      ∙ ap (λ (b : Bool). cond b o.bytes (flat_map (file_from objects children n) (filled table (link_of objects o)))) some
      ∙ refs_joined n le one o.references p.0 p.1 ∙ of_node_is o.bytes file p.0 p.2

  -- the place of an id that is there
  pub place_is : (id : ExGuid) (o : StoredObject) → find_stored objects id ≡ Some o → slice_get objects (place_of objects id) ≡ Some o
  place_is id o e = sym (find_at (λ p. same_id p.id id) objects) ∙ e

  object_joined : (n : ℕ) → n ≤ 7 → IsJoined n → (place : ℕ) (o : StoredObject) (file : List ℕ) → slice_get objects place ≡ Some o
      → cond (eqb (length o.references) 0) (Some o.bytes) (option_and_then (of_node o.bytes) (joined (files n) o.references)) ≡ Some file → file_from objects children (suc n) place ≡ file
  object_joined n le one place o file at e =
      elim (cases_Bool (eqb (length o.references) 0)) [
        | inl y ↦
            let own : Some o.bytes ≡ Some file = rw y at e in
            from_object n place o at ∙ ap (λ (b : Bool). cond b o.bytes (flat_map (file_from objects children n) (filled table (link_of objects o)))) y ∙ same_Some o.bytes file own
        | inr x ↦
            let node : option_and_then (of_node o.bytes) (joined (files n) o.references) ≡ Some file = rw x at e in
            node_joined n le one place o file at x node
      ]

  pub is_joined : (n : ℕ) → n ≤ 7 → IsJoined n
  unfolding file_below
  is_joined zero le id file e = absurd cc
  is_joined (suc n) le id file e =
      let f : FileObject → Option (List ℕ) = λ o. cond (eqb (length o.references) 0) o.bytes (node_file (files n) o) in
      let found : option_and_then f (option_map as_file_object (find_stored objects id)) ≡ Some file = subst (λ (o : Option FileObject). option_and_then f o ≡ Some file) (find_is objects id) e in
      let p = then_parts f (option_map as_file_object (find_stored objects id)) file found in
      let q = map_parts as_file_object (find_stored objects id) p.0 p.1 in
      object_joined n (omega arith) (is_joined n (omega arith)) (place_of objects id) q.0 file (place_is id q.0 q.1)
      (subst (λ (o : FileObject). f o ≡ Some file) (sym q.2) p.2)
