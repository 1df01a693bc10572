-- The objects that data elements consist of, and their fields: a line an object type (MS-FSSHTTPB 2.2.1.12). Types are
-- hexadecimal. The fields fill the object exactly.
use Rattle.std.specs.Prelude.{◌≡◌, ◌⊎◌, ℕ, true, false, List, []}
use Rattle.compact_values.specs.Compact.{SpellsCompact}
use Rattle.compact_values.specs.Ids.{SpellsExGuid, SpellsSerial}
use Rattle.compact_values.specs.Items.{SpellsItem, SpellsIds, SpellsCells}
use Rattle.compact_values.specs.Sequences.{◌▹◌, SpellsByte}
use Rattle.compact_values.specs.declared.ids.ExGuid.{ExGuid}
use Rattle.compact_values.specs.declared.ids.Serial.{Serial}
use Rattle.compact_values.specs.declared.ids.CellId.{CellId}
use Rattle.stream_objects.specs.declared.tree.Tree.{Tree}
use Rattle.stream_objects.specs.Objects.{HasFields}

-- the bytes of no fields
abbrev pub IsNothing : Unit {0} → List ℕ → Type 0
IsNothing u bytes = bytes ≡ []

-- 1D, 1E, 10 and 14, compound: no fields
abbrev pub NoFields : List ℕ → Tree → Type 0
NoFields input tree = HasFields true IsNothing input tree tt

-- 15, compound, data element package: one byte, whatever it is (2.2.1.12)
abbrev pub PackageFields : List ℕ → Tree → Type 0
PackageFields input tree = (byte : ℕ) × HasFields true SpellsByte input tree byte

-- 01, compound, data element: extended GUID id, serial number, compact kind (2.2.1.12.1)
abbrev pub ElementFields : List ℕ → Tree → ExGuid → Serial → ℕ → Type 0
ElementFields input tree id serial kind = HasFields true (SpellsExGuid ▹ SpellsSerial ▹ SpellsCompact) input tree (id, (serial, kind))

-- ---- storage index (2.2.1.12.2)

-- ---- storage manifest (2.2.1.12.3)

-- ---- cell manifest (2.2.1.12.4)

-- ---- revision manifest (2.2.1.12.5)

-- ---- object group (2.2.1.12.6)

-- 18, object declaration: extended GUID object, compact partition, compact size, and the numbers of references and of
-- cell references, which are ignored
abbrev pub ObjectDeclaration : List ℕ → Tree → ExGuid → ℕ → ℕ → Type 0
ObjectDeclaration input tree id partition size =
    (references : ℕ) × (cells : ℕ) × HasFields false (SpellsExGuid ▹ SpellsCompact ▹ SpellsCompact ▹ SpellsCompact ▹ SpellsCompact) input tree (id, (partition, (size, (references, cells))))

-- 05, blob declaration: extended GUID object, extended GUID blob, compact partition, compact size or nothing, and the
-- numbers of references and of cell references, which are ignored. No size counts as the size 0.
abbrev pub BlobDeclaration : List ℕ → Tree → ExGuid → ExGuid → ℕ → ℕ → Type 0
BlobDeclaration input tree id blob partition size = (references : ℕ) × (cells : ℕ) × (WithSize references cells ⊎ WithoutSize references cells)
  where
    WithSize : ℕ → ℕ → Type 0
    WithSize references cells =
        HasFields false (SpellsExGuid ▹ SpellsExGuid ▹ SpellsCompact ▹ SpellsCompact ▹ SpellsCompact ▹ SpellsCompact) input tree (id, (blob, (partition, (size, (references, cells)))))

    WithoutSize : ℕ → ℕ → Type 0
    WithoutSize references cells =
        (size ≡ 0) × HasFields false (SpellsExGuid ▹ SpellsExGuid ▹ SpellsCompact ▹ SpellsCompact ▹ SpellsCompact) input tree (id, (blob, (partition, (references, cells))))

-- 16, object data: array of extended GUIDs, array of cell ids, binary item
abbrev pub ObjectData : List ℕ → Tree → List ExGuid → List CellId → List ℕ → Type 0
ObjectData input tree references cells bytes = HasFields false (SpellsIds ▹ SpellsCells ▹ SpellsItem) input tree (references, (cells, bytes))

-- 1C, blob reference: array of extended GUIDs, array of cell ids, extended GUID blob
abbrev pub BlobReference : List ℕ → Tree → List ExGuid → List CellId → ExGuid → Type 0
BlobReference input tree references cells blob = HasFields false (SpellsIds ▹ SpellsCells ▹ SpellsExGuid) input tree (references, (cells, blob))

-- ---- object data blob (2.2.1.12.8)

-- 02, blob content: binary item
abbrev pub BlobContent : List ℕ → Tree → List ℕ → Type 0
BlobContent input tree bytes = HasFields false SpellsItem input tree bytes
