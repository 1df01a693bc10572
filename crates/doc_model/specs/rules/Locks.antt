-- The lock of a document at a moment, and whether it lets content be changed.
use Rattle.std.specs.Prelude.{ℕ, nat_lt, Bool, true, false, if◌then◌else◌, List, [], ◌∷◌, filter, Option, None, Some}
use Rattle.compact_values.specs.declared.guid.Guid.{Guid}
use Rattle.compact_values.specs.SameIds.{same_guid}
use Rattle.doc_model.specs.declared.lock.LockRecord.{LockRecord}
use Rattle.doc_model.specs.declared.lock.LockRecord.TheVariants.{Free, Exclusive, Shared}
use Rattle.doc_model.specs.declared.lock.Member.{Member}

-- the lock as it counts at a moment: without what has expired
abbrev pub shared_by : Guid → List Member → LockRecord
shared_by schema [] = Free
shared_by schema (x ∷ xs) = Shared schema (x ∷ xs)

abbrev pub is_live : ℕ → Member → Bool
is_live moment x = nat_lt moment x.until

abbrev pub live : LockRecord → ℕ → LockRecord
live Free moment = Free
live (Exclusive id until) moment = if nat_lt moment until then Exclusive id until else Free
live (Shared schema members) moment = shared_by schema (filter (is_live moment) members)

-- whether the live lock lets content be changed by a call that carries this id
abbrev pub carries : Option Guid → Guid → Bool
carries None id = false
carries (Some held) id = same_guid held id

abbrev pub allowed : LockRecord → Option Guid → Bool
allowed Free carried = true
allowed (Exclusive id until) carried = carries carried id
allowed (Shared schema members) carried = carries carried schema
