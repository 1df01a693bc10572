-- The tables of walks have the walk of each object.
use Rattle.std.proofs.Common.{◌≡◌, ℕ, suc, ◌+◌, Bool, false, List, [], ◌∷◌, length, map, Option, None, Result, Ok, inl, inr, eqb, refl, sym, ap, ◌∙◌, add-one}
use Rattle.std.specs.Prelude.{cond, slice_get}
use Rattle.std.specs.Option.{option_map}
use Rattle.std.proofs.lemmas.Bool.{cases_Bool}
use Rattle.std.proofs.lemmas.List.Folds.{find_at}
use Rattle.std.proofs.lemmas.Option.{slice_get-map}
use Rattle.compact_values.specs.declared.ids.ExGuid.{ExGuid}
use Rattle.compact_values.specs.SameIds.{same_id}
use Rattle.doc_model.specs.rules.Nodes.{node_size}
use Rattle.file_nodes.specs.FileWalks.{find_stored, together, total, arrived, arrive, behind, walk}
use Rattle.file_nodes.specs.Links.{place_of, said_by, link_of, total_by, node_by, walk_by}
use Rattle.file_nodes.specs.declared.fault.NodeFault.{NodeFault}
use Rattle.file_nodes.specs.StoredObjects.{StoredObject}

abbrev Walked : Type 0
Walked = Result ℕ NodeFault

pub map_same : {A B : Type 0} (f g : A → B) → ((x : A) → f x ≡ g x) → (xs : List A) → map f xs ≡ map g xs
map_same {A} {B} f g e [] = refl
map_same {A} {B} f g e (x ∷ xs) = ap (λ (y : B). y ∷ map f xs) (e x) ∙ ap (λ (l : List B). g x ∷ l) (map_same f g e xs)

module _ (objects : List StoredObject) (w : StoredObject → Walked) where
  -- what a table has for the object of an id
  pub entry_is : (table : List Walked) → table ≡ map w objects → (id : ExGuid) → slice_get table (place_of objects id) ≡ option_map w (find_stored objects id)
  entry_is table e id =
      ap (λ (t : List Walked). slice_get t (place_of objects id)) e ∙ slice_get-map w objects (place_of objects id) ∙ ap (option_map w) (sym (find_at (λ o. same_id o.id id) objects))

  pub total_is : (table : List Walked) → table ≡ map w objects → (ids : List ExGuid) → total_by table ids (map (place_of objects) ids) ≡ total (map (arrive objects w) ids)
  total_is table e [] = refl
  total_is table e (id ∷ ids) =
      ap (λ (o : Option Walked). together (arrived id o) (total_by table ids (map (place_of objects) ids))) (entry_is table e id)
      ∙ ap (together (arrive objects w id)) (total_is table e ids)

-- an object with references
pub said_is : (o : StoredObject) → eqb (length o.references) 0 ≡ false → said_by o ≡ node_size o.bytes
said_is o e = ap (λ (b : Bool). cond b None (node_size o.bytes)) e

pub node_is : (objects : List StoredObject) (w : StoredObject → Walked) (table : List Walked) → table ≡ map w objects → (o : StoredObject) → eqb (length o.references) 0 ≡ false
    → node_by table o (link_of objects o) ≡ behind o (node_size o.bytes) (total (map (arrive objects w) o.references))
node_is objects w table e o some =
    ap (λ (s : Option ℕ). behind o s (total_by table o.references (map (place_of objects) o.references))) (said_is o some)
    ∙ ap (behind o (node_size o.bytes)) (total_is objects w table e o.references)

walk_is : (objects : List StoredObject) (table : List Walked) (n : ℕ) → table ≡ map (walk objects n) objects → (o : StoredObject) → walk_by table o (link_of objects o) ≡ walk objects (suc n) o
unfolding walk
walk_is objects table n e o =
    elim (cases_Bool (eqb (length o.references) 0)) [
      | inl none ↦
          ap (λ (b : Bool). cond b (Ok (length o.bytes)) (node_by table o (link_of objects o))) none
          ∙ sym (ap (λ (b : Bool). cond b (Ok (length o.bytes)) (behind o (node_size o.bytes) (total (map (arrive objects (walk objects n)) o.references)))) none)
      | inr some ↦
          ap (λ (b : Bool). cond b (Ok (length o.bytes)) (node_by table o (link_of objects o))) some ∙ node_is objects (walk objects n) table e o some
          ∙ sym (ap (λ (b : Bool). cond b (Ok (length o.bytes)) (behind o (node_size o.bytes) (total (map (arrive objects (walk objects n)) o.references)))) some)
    ]

-- the table of one level more
pub table_next : (objects : List StoredObject) (table : List Walked) (n : ℕ) → table ≡ map (walk objects n) objects → (next : List Walked)
    → next ≡ map (λ o. walk_by table o (link_of objects o)) objects → next ≡ map (walk objects (n + 1)) objects
table_next objects table n e next h =
    h ∙ map_same (λ o. walk_by table o (link_of objects o)) (walk objects (suc n)) (walk_is objects table n e) objects ∙ ap (λ (m : ℕ). map (walk objects m) objects) (sym (add-one n))
