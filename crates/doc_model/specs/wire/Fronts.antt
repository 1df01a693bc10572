-- The front of a request (MS-FSSHTTPB 2.2.2): 2 bytes version, 2 bytes least version, both least byte first, and 8 bytes signature.
use Rattle.std.specs.Prelude.{◌≡◌, ℕ, ◌≤◌, List, [], ◌∷◌, length}
use Rattle.std.specs.List.{slice_range}
use Rattle.compact_values.specs.Reading.{number_of}

-- The version is 12 to 14, and a reader of version 12 is enough.
pub record HasVersions (bytes : List ℕ) : Type 0 where
  pub long : 12 ≤ length bytes
  pub low : 12 ≤ number_of (slice_range bytes 0 2)
  pub high : number_of (slice_range bytes 0 2) ≤ 14
  pub least : number_of (slice_range bytes 2 4) ≤ 12

abbrev pub HasSignature : List ℕ → Type 0
HasSignature bytes = slice_range bytes 4 12 ≡ 0x9C ∷ 0xCF ∷ 0x29 ∷ 0xF3 ∷ 0x39 ∷ 0x94 ∷ 0x06 ∷ 0x9B ∷ []
