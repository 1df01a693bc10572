-- The request that bytes are, as a function of the bytes: a reading that computes. The law `computed_requests` says that it
-- gives a request exactly where the bytes are that request.
use Rattle.std.specs.Prelude.{◌≡◌, ℕ, List, [], ◌∷◌, Bool, ◌&&◌, nat_le, length, Option, Some, None, option_and_then, Result, Ok, Err, if◌then◌else◌}
use Rattle.std.specs.List.{slice_range}
use Rattle.std.specs.Str.{bytes_eq}
use Rattle.compact_values.specs.Reading.{number_of}
use Rattle.stream_objects.specs.TreeReading.{object_at, if_whole}
use Rattle.stream_objects.specs.declared.limits.TheConstants.{MOST_LEVELS}
use Rattle.stream_objects.specs.declared.tree.Tree.{Tree}
use Rattle.doc_model.specs.rules.Limits.{most_elements}
use Rattle.doc_model.specs.declared.request.CellRequest.{CellRequest}
use Rattle.data_elements.specs.declared.wire_fault.WireFault.{WireFault}
use Rattle.data_elements.specs.declared.wire_fault.WireFault.TheVariants.{NoMemory}
use Rattle.wire_requests.specs.RequestReading.{request_at}

-- 12 to 14, and a reader of version 12 is enough
abbrev pub versions_fit : ℕ → ℕ → Bool
versions_fit version least = nat_le 12 version && (nat_le version 14 && nat_le least 12)

abbrev pub signature : List ℕ
signature = 0x9C ∷ 0xCF ∷ 0x29 ∷ 0xF3 ∷ 0x39 ∷ 0x94 ∷ 0x06 ∷ 0x9B ∷ []

-- whether the versions and the signature stand in front
unfoldable pub has_front : List ℕ → Bool
has_front bytes = nat_le 12 (length bytes) && (versions_fit (number_of (slice_range bytes 0 2)) (number_of (slice_range bytes 2 4)) && bytes_eq (slice_range bytes 4 12) signature)

-- the object behind the front, where it ends with the bytes and isn't too large
abbrev pub tree_behind_front : List ℕ → Option Tree
tree_behind_front bytes = option_and_then (if_whole bytes) (object_at MOST_LEVELS bytes 12)

-- what was read, if it has no more elements than a request may
abbrev pub if_few : Result CellRequest ℕ → Option CellRequest
if_few (Ok request) = if nat_le (length request.elements) most_elements then Some request else None
if_few (Err place) = None

unfoldable pub request_of : List ℕ → Option CellRequest
request_of bytes = if has_front bytes then option_and_then (λ tree. if_few (request_at bytes tree)) (tree_behind_front bytes) else None

-- the answer of a reader is what is computed, want of memory aside
abbrev pub Computes : Result CellRequest WireFault → Option CellRequest → Type 0
Computes (Ok request) computed = computed ≡ Some request
Computes (Err NoMemory) computed = Unit {0}
Computes (Err fault) computed = computed ≡ None
