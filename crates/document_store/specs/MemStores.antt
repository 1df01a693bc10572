-- A store in memory.
use Rattle.std.specs.Prelude.{◌≡◌, ℕ, List, [], ◌∷◌, if◌then◌else◌, Some, None, Contains, position, length, encode_utf8_all}
use Rattle.std.proofs.Common.{refl}
use Rattle.document_store.specs.Disks.{SameBytes}
use Rattle.std.specs.Str.{bytes_eq}
use Rattle.std.specs.declared.option.Option.{Option}
use Rattle.host_edge.specs.MemDisks.{DiskState, read_of, image_of, image_since}
use Rattle.document_store.specs.Shelves.{Under, Nothing, Stands, Lent, Shelf}
use Rattle.document_store.specs.declared.lent_disk.LentDisk.{LentDisk}
use Rattle.document_store.specs.declared.slot.Slot.{Slot}

-- a disk as a store in memory lends it
abbrev pub MemLent : Type 0
MemLent = LentDisk DiskState (Unit {0})

-- a disk that hasn't failed since it is lent
abbrev pub unfailed : DiskState → MemLent
unfailed disk = record { disk = disk; place = tt; faults = 0 }

-- the name of a slot, by its bytes
abbrev pub name_of : Slot → List ℕ
name_of slot = encode_utf8_all slot.name

-- what is in a slot: its disk, or nothing where that is lent
abbrev pub content_of : Option DiskState → Under MemLent
content_of None = Lent
content_of (Some disk) = Stands (unfailed disk)

-- the slot with this in it
abbrev pub filled : Slot → Option DiskState → Slot
filled slot disk = record { name = slot.name; disk = disk }

-- what is under each name, by slots of which the first with the name counts
abbrev pub shelf_of : List Slot → Shelf MemLent
shelf_of [] name = Nothing
shelf_of (slot ∷ more) name = if bytes_eq name (name_of slot) then content_of slot.disk else shelf_of more name

-- a disk on which no call was made
abbrev pub new_disk : ℕ → ℕ → DiskState
new_disk room most = record { kept = record { events = []; spent = 0; room = room; most = most }; fail = []; faults = 0 }

-- the same bytes, as `SameBytes` has them
abbrev pub IsSameDisk : MemLent → MemLent → Type 0
IsSameDisk one other = SameBytes (λ l. Some (read_of l.disk.kept.events)) (λ l c. image_of l.disk.kept.events c) (λ l. length l.disk.kept.events)
    (λ l t c. image_since l.disk.kept.events t c) one other

pub same_bytes : (disk : DiskState) (place : Unit {0}) (m n : ℕ) → IsSameDisk (record { disk = disk; place = place; faults = m }) (record { disk = disk; place = place; faults = n })
same_bytes disk place m n = record { reads = refl; images = λ c. (λ left. left, λ left. left); time = refl; since = λ t c. (λ left. left, λ left. left) }

pub record StoreState : Type 0 where
  pub slots : List Slot
  -- the room and the calls of each disk that it begins
  pub room : ℕ
  pub most : ℕ
  -- the number of the next call that can fail, and the numbers of those that fail
  pub calls : ℕ
  pub fail : List ℕ
  pub faults : ℕ

-- What no call changes.
pub record SameMaking (old new : StoreState) : Type 0 where
  pub room : new.room ≡ old.room
  pub most : new.most ≡ old.most
  pub fail : new.fail ≡ old.fail

-- the first slot with the name
abbrev pub slot_of : List ℕ → List Slot → Option ℕ
slot_of name slots = position (λ slot. bytes_eq (name_of slot) name) slots
