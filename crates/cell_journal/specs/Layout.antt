-- The bytes of a journal.
use Rattle.std.specs.Prelude.{◌≡◌, ◌≢◌, ◌⊎◌, ℕ, ◌≤◌, List, [], ◌∷◌, ◌++◌, length}
use Rattle.compact_values.specs.declared.guid.Guid.{Guid}
use Rattle.compact_values.specs.GuidBytes.{guid_bytes}
use Rattle.compact_values.specs.Compact.{little_endian}

-- the bytes before the first gate
abbrev pub header : Guid → List ℕ
header guid = 0x01 ∷ 0x43 ∷ 0x45 ∷ 0x4C ∷ 0x4C ∷ 0x4A ∷ 0x4E ∷ 0x4C ∷ guid_bytes guid.number

-- a body behind its length
abbrev pub measured : List ℕ → List ℕ
measured body = little_endian 8 (length body) ++ body

-- the bodies, each with its length and before it an open gate
abbrev pub entries : List (List ℕ) → List ℕ
entries [] = []
entries (body ∷ bodies) = 1 ∷ measured body ++ entries bodies

-- all that stands before the closing gate
abbrev pub front : Guid → List (List ℕ) → List ℕ
front guid bodies = header guid ++ entries bodies

-- how long a body may be
pub record IsBody (body : List ℕ) : Type 0 where
  pub some : 1 ≤ length body
  pub most : length body ≤ 33554432

abbrev pub AreBodies : List (List ℕ) → Type 0
AreBodies [] = Unit {0}
AreBodies (body ∷ bodies) = IsBody body × AreBodies bodies

-- The bytes are a journal of this GUID and these bodies, which this byte closes. What follows it is ignored.
pub record IsClosedBy (gate : ℕ) (guid : Guid) (bodies : List (List ℕ)) (bytes : List ℕ) : Type 0 where
  pub rest : List ℕ
  pub bytes_are : bytes ≡ front guid bodies ++ gate ∷ rest
  pub fit : AreBodies bodies

-- The bytes are a journal of this GUID and these bodies: any byte but the open gate closes it.
abbrev pub Image : Guid → List (List ℕ) → List ℕ → Type 0
Image guid bodies bytes = (gate : ℕ) × (gate ≢ 1) × IsClosedBy gate guid bodies bytes

-- They are a journal of these bodies, or of these and then one more.
abbrev pub IsBeforeOrAfter : Guid → List (List ℕ) → List ℕ → List ℕ → Type 0
IsBeforeOrAfter guid bodies tried bytes = Image guid bodies bytes ⊎ Image guid (bodies ++ tried ∷ []) bytes
