-- Reading a group: whether its halves agree, and the objects that they say.
use Rattle.std.specs.Prelude.{ℕ, Bool, true, false, List, [], ◌∷◌, ◌++◌, ◌==◌, ◌&&◌, map, Option, Some, None, option_map, Result, Ok, Err, if◌then◌else◌}
use Rattle.compact_values.specs.declared.ids.ExGuid.{ExGuid}
use Rattle.compact_values.specs.declared.ids.ExGuid.TheVariants.{Null, Id}
use Rattle.compact_values.specs.declared.ids.CellId.{CellId}
use Rattle.stream_objects.specs.declared.tree.Tree.{Tree}
use Rattle.stream_objects.specs.declared.tree.Tree.TheViews.{out-Tree}
use Rattle.stream_objects.specs.Objects.{is_kind, start_of, children_of}
use Rattle.stream_objects.specs.ObjectFields.{single}
use Rattle.stream_objects.specs.Gathering.{and_then}
use Rattle.stream_objects.specs.declared.object_types.TheConstants.{OBJECT_GROUP_DATA, OBJECT_GROUP_DECLARATIONS, OBJECT_GROUP_OBJECT_BLOB_DATA_DECLARATION, OBJECT_GROUP_OBJECT_DATA, OBJECT_GROUP_OBJECT_DATA_BLOB_REFERENCE, OBJECT_GROUP_OBJECT_DECLARE}
use Rattle.doc_model.specs.wire.Groups.{declarations_in, data_in}
use Rattle.doc_model.specs.declared.element.Object.{Object}
use Rattle.doc_model.specs.declared.element.Content.TheVariants.{Inline, Apart}
use Rattle.doc_model.specs.declared.element.Body.{Body}
use Rattle.doc_model.specs.declared.element.Body.TheVariants.{Group}
use Rattle.data_elements.specs.declared.group.Carrier.{Carrier}
use Rattle.data_elements.specs.declared.group.Carrier.TheVariants as carriers
use Rattle.data_elements.specs.declared.group.Declaration.{Declaration}
use Rattle.data_elements.specs.Rows.{declaration_row, declared_row, data_row, reference_row, Declared}
use Rattle.data_elements.specs.Checking.{check_at, unless_broken, or_broken, collect_from}

-- ---- where the content of an object is

abbrev pub carrier_of : Option ExGuid → Carrier
carrier_of (Some blob) = carriers.Apart blob
carrier_of None = carriers.Unread

abbrev pub blob_of : Declared → ExGuid
blob_of d = d.1.0

abbrev pub named_blob : List ExGuid × (List CellId × ExGuid) → ExGuid
named_blob r = r.1.1

-- the blob that a declaration or data name
unfoldable pub carrier_at : List ℕ → Tree → Carrier
carrier_at input t =
    if is_kind OBJECT_GROUP_OBJECT_BLOB_DATA_DECLARATION t then carrier_of (option_map blob_of (declared_row input t))
    else if is_kind OBJECT_GROUP_OBJECT_DATA_BLOB_REFERENCE t then carrier_of (option_map named_blob (reference_row input t))
    else carriers.Inline

abbrev pub same_id : ExGuid → ExGuid → Bool
same_id Null Null = true
same_id (Id guid value) (Id other number) = (guid.number == other.number) && (value == number)
same_id Null (Id other number) = false
same_id (Id guid value) Null = false

-- whether a declaration and data belong together, as far as they are in form
abbrev pub carrier_agrees : Carrier → Carrier → Bool
carrier_agrees carriers.Inline carriers.Inline = true
carrier_agrees (carriers.Apart blob) (carriers.Apart named) = same_id blob named
carrier_agrees (carriers.Apart blob) carriers.Unread = true
carrier_agrees carriers.Unread (carriers.Apart named) = true
carrier_agrees carriers.Unread carriers.Unread = true
carrier_agrees carriers.Inline (carriers.Apart named) = false
carrier_agrees carriers.Inline carriers.Unread = false
carrier_agrees (carriers.Apart blob) carriers.Inline = false
carrier_agrees carriers.Unread carriers.Inline = false

abbrev pub carriers_agree : List Carrier → List Carrier → Bool
carriers_agree [] [] = true
carriers_agree (d ∷ ds) (e ∷ es) = if carrier_agrees d e then carriers_agree ds es else false
carriers_agree [] (e ∷ es) = false
carriers_agree (d ∷ ds) [] = false

-- ---- the objects

abbrev pub declaration_of : ExGuid × (ℕ × ℕ) → Declaration
declaration_of d = record { id = d.0; partition = d.1.0; size = d.1.1 }

abbrev pub blob_declaration_of : Declared → Declaration
blob_declaration_of d = record { id = d.0; partition = d.1.1.0; size = d.1.1.1 }

-- what either kind of declaration says of the object
unfoldable pub declaration_at : List ℕ → Tree → Option Declaration
declaration_at input t =
    if is_kind OBJECT_GROUP_OBJECT_DECLARE t then option_map declaration_of (declaration_row input t)
    else option_map blob_declaration_of (declared_row input t)

abbrev pub inline_object : Declaration → List ExGuid × (List CellId × List ℕ) → Object
inline_object d x = record { id = d.id; partition = d.partition; size = d.size; references = x.0; cells = x.1.0; content = Inline x.1.1 }

abbrev pub apart_object : Declaration → List ExGuid × (List CellId × ExGuid) → Object
apart_object d x = record { id = d.id; partition = d.partition; size = d.size; references = x.0; cells = x.1.0; content = Apart x.1.1 }

-- the object of a declaration and the data that belong to it
unfoldable pub object_at : List ℕ → Declaration → Tree → Option Object
object_at input d t =
    if is_kind OBJECT_GROUP_OBJECT_DATA t then option_map (inline_object d) (data_row input t)
    else option_map (apart_object d) (reference_row input t)

-- the objects of these declarations and data, behind those before
abbrev pub objects_from : List ℕ → List Object → List Declaration → List Tree → Result (List Object) ℕ
objects_from input os ds [] = Ok os
objects_from input os [] (t ∷ ts) = Err (start_of t)
objects_from input os (d ∷ ds) (t ∷ ts) = and_then (or_broken (start_of t) (object_at input d t)) (λ o. objects_from input (os ++ o ∷ []) ds ts)

-- the objects of the two halves
abbrev pub objects_at : List ℕ → Tree → Tree → Result (List Object) ℕ
objects_at input declarations data_of =
    and_then (collect_from declaration_at input [] (declarations_in declarations)) (λ ds. objects_from input [] ds (data_in data_of))

abbrev pub halves_agree : List ℕ → Tree → Tree → Bool
halves_agree input declarations data_of = carriers_agree (map (carrier_at input) (declarations_in declarations)) (map (carrier_at input) (data_in data_of))

abbrev pub group_of : Result (List Object) ℕ → Result Body ℕ
group_of (Ok objects) = Ok (Group objects)
group_of (Err place) = Err place

abbrev pub halves_at : List ℕ → Tree → Option Tree → Option Tree → Result Body ℕ
halves_at input t (Some declarations) (Some data_of) =
    if halves_agree input declarations data_of then
    unless_broken (check_at input 5 (out-Tree t).children) (group_of (objects_at input declarations data_of))
    else Err (start_of t)
halves_at input t (Some declarations) None = Err (start_of t)
halves_at input t None other = Err (start_of t)

unfoldable pub group_at : List ℕ → Tree → Result Body ℕ
group_at input t = halves_at input t (single (children_of OBJECT_GROUP_DECLARATIONS t)) (single (children_of OBJECT_GROUP_DATA t))
