-- Object groups (MS-FSSHTTPB 2.2.1.12.6): the declarations of objects and their data, which belong together in pairs.
use Rattle.std.specs.Prelude.{◌≡◌, ◌||◌, ℕ, List, [], ◌∷◌, filter}
use Rattle.compact_values.specs.declared.ids.ExGuid.{ExGuid}
use Rattle.compact_values.specs.declared.ids.CellId.{CellId}
use Rattle.stream_objects.specs.declared.tree.Tree.{Tree}
use Rattle.stream_objects.specs.declared.tree.Tree.TheViews.{out-Tree}
use Rattle.stream_objects.specs.Objects.{kind_of, is_kind, children_of}
use Rattle.stream_objects.specs.declared.object_types.TheConstants.{OBJECT_GROUP_DATA, OBJECT_GROUP_DECLARATIONS, OBJECT_GROUP_OBJECT_BLOB_DATA_DECLARATION, OBJECT_GROUP_OBJECT_DATA, OBJECT_GROUP_OBJECT_DATA_BLOB_REFERENCE, OBJECT_GROUP_OBJECT_DECLARE}
use Rattle.doc_model.specs.wire.ElementObjects.{NoFields, ObjectDeclaration, BlobDeclaration, ObjectData, BlobReference}
use Rattle.doc_model.specs.declared.element.Object.{Object}
use Rattle.doc_model.specs.declared.element.Content.{Content}
use Rattle.doc_model.specs.declared.element.Content.TheVariants.{Inline, Apart}

-- the declarations that 1D holds, 18 and 05, in order
abbrev pub declarations_in : Tree → List Tree
declarations_in t = filter (λ c. is_kind OBJECT_GROUP_OBJECT_DECLARE c || is_kind OBJECT_GROUP_OBJECT_BLOB_DATA_DECLARATION c) (out-Tree t).children

-- the data that 1E holds, 16 and 1C, in order
abbrev pub data_in : Tree → List Tree
data_in t = filter (λ c. is_kind OBJECT_GROUP_OBJECT_DATA c || is_kind OBJECT_GROUP_OBJECT_DATA_BLOB_REFERENCE c) (out-Tree t).children

-- A declaration and the data that belong to it are this object: 18 with 16, or 05 with 1C and the same blob.
abbrev pub SaysContent : List ℕ → Tree → Tree → Object → Content → Type 0
SaysContent input d e o (Inline bytes) = (kind_of d ≡ OBJECT_GROUP_OBJECT_DECLARE) × (kind_of e ≡ OBJECT_GROUP_OBJECT_DATA) × ObjectDeclaration input d o.id o.partition o.size × ObjectData input e o.references o.cells bytes
SaysContent input d e o (Apart blob) = (kind_of d ≡ OBJECT_GROUP_OBJECT_BLOB_DATA_DECLARATION) × (kind_of e ≡ OBJECT_GROUP_OBJECT_DATA_BLOB_REFERENCE) × BlobDeclaration input d o.id blob o.partition o.size × BlobReference input e o.references o.cells blob

-- as many of the one as of the other, and the k-th of each belong together
abbrev pub EachPair : {V : Type 0} → (Tree → Tree → V → Type 0) → List Tree → List Tree → List V → Type 0
EachPair Is [] [] [] = Unit {0}
EachPair Is (d ∷ ds) (e ∷ es) (v ∷ vs) = Is d e v × EachPair Is ds es vs
EachPair Is _ _ _ = ⊥

-- one 1D with children 18 and 05, and one 1E with children 16 and 1C
pub record SaysGroup (input : List ℕ) (t : Tree) (objects : List Object) : Type 0 where
  pub declarations : Tree
  pub data_of : Tree
  pub one_declarations : children_of OBJECT_GROUP_DECLARATIONS t ≡ declarations ∷ []
  pub one_data : children_of OBJECT_GROUP_DATA t ≡ data_of ∷ []
  pub declarations_form : NoFields input declarations
  pub data_form : NoFields input data_of
  pub pairs : EachPair (λ d e o. SaysContent input d e o o.content) (declarations_in declarations) (data_in data_of) objects

-- ---- what the element of a group must keep for itself, whatever the forms of the objects in it

-- A declaration and its data are of types that belong together. Where both are in form they name the same blob.
pub record Agrees (input : List ℕ) (d e : Tree) : Type 0 where
  pub with_data : kind_of d ≡ OBJECT_GROUP_OBJECT_DECLARE → kind_of e ≡ OBJECT_GROUP_OBJECT_DATA
  pub with_blob : kind_of d ≡ OBJECT_GROUP_OBJECT_BLOB_DATA_DECLARATION → kind_of e ≡ OBJECT_GROUP_OBJECT_DATA_BLOB_REFERENCE
  pub same_blob : kind_of d ≡ OBJECT_GROUP_OBJECT_BLOB_DATA_DECLARATION → (id blob : ExGuid) (partition size : ℕ) → BlobDeclaration input d id blob partition size
      → (references : List ExGuid) (cells : List CellId) (named : ExGuid) → BlobReference input e references cells named → blob ≡ named

-- as many of the one as of the other, and the k-th of each agree
abbrev pub EachAgrees : List ℕ → List Tree → List Tree → Type 0
EachAgrees input [] [] = Unit {0}
EachAgrees input (d ∷ ds) (e ∷ es) = Agrees input d e × EachAgrees input ds es
EachAgrees input [] (e ∷ es) = ⊥
EachAgrees input (d ∷ ds) [] = ⊥

-- There is one 1D and one 1E, and what they hold agrees.
pub record HalvesAgree (input : List ℕ) (t : Tree) : Type 0 where
  pub declarations : Tree
  pub data_of : Tree
  pub one_declarations : children_of OBJECT_GROUP_DECLARATIONS t ≡ declarations ∷ []
  pub one_data : children_of OBJECT_GROUP_DATA t ≡ data_of ∷ []
  pub agree : EachAgrees input (declarations_in declarations) (data_in data_of)
