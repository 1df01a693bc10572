-- What a live lock is after a call, and which calls it lets change the versions of a document.
use Rattle.std.specs.Prelude.{◌≡◌, ◌≢◌, ◌⊎◌, ℕ, List, Some}
use Rattle.std.specs.List.{All, Any}
use Rattle.compact_values.specs.declared.guid.Guid.{Guid}
use Rattle.doc_model.specs.declared.call.Call.{Call}
use Rattle.doc_model.specs.declared.call.Sub.{Sub}
use Rattle.doc_model.specs.declared.call.Sub.TheVariants as sub
use Rattle.doc_model.specs.declared.doc.Doc.{Doc}
use Rattle.doc_model.specs.declared.lock.LockRecord.{LockRecord}
use Rattle.doc_model.specs.declared.lock.LockRecord.TheVariants.{Free, Exclusive, Shared}
use Rattle.doc_model.specs.declared.lock.LockStep.{LockStep}
use Rattle.doc_model.specs.declared.lock.LockStep.TheVariants.{TakeExclusive, DropExclusive, RefreshExclusive, ToShared, TakeShared, DropShared, RefreshShared, ToExclusive}
use Rattle.doc_model.specs.declared.lock.Member.{Member}
use Rattle.doc_model.specs.rules.Apply.{apply}
use Rattle.doc_model.specs.rules.Locks.{live}

-- the step ends the exclusive lock of this id, or sets its end
abbrev pub EndsExclusive : Guid → LockStep → Type 0
EndsExclusive held (DropExclusive id) = id ≡ held
EndsExclusive held (ToShared id schema client t coauthor) = id ≡ held
EndsExclusive held _ = ⊥

abbrev pub SetsExclusive : Guid → LockStep → Type 0
SetsExclusive held (TakeExclusive id t) = id ≡ held
SetsExclusive held (RefreshExclusive id t) = id ≡ held
SetsExclusive held _ = ⊥

-- the step ends a client's part in the shared lock of this schema id, or sets its end
abbrev pub EndsMember : Guid → Guid → LockStep → Type 0
EndsMember held who (DropShared schema client) = (schema ≡ held) × (client ≡ who)
EndsMember held who (ToExclusive schema client id t release) = (schema ≡ held) × (client ≡ who)
EndsMember held who _ = ⊥

abbrev pub SetsMember : Guid → Guid → LockStep → Type 0
SetsMember held who (TakeShared schema client t coauthor) = (schema ≡ held) × (client ≡ who)
SetsMember held who (RefreshShared schema client t) = (schema ≡ held) × (client ≡ who)
SetsMember held who _ = ⊥

-- the exclusive lock is there with its id, and with its end, or one that the call set
abbrev pub StaysExclusive : Guid → ℕ → Type 0 → LockRecord → Type 0
StaysExclusive id until IsSet (Exclusive held end) = (held ≡ id) × ((end ≡ until) ⊎ IsSet)
StaysExclusive id until IsSet _ = ⊥

-- the member is there under its schema id, and with its end, or one that the call set
abbrev pub IsStill : Member → Type 0 → Member → Type 0
IsStill x IsSet y = (y.client ≡ x.client) × ((y.until ≡ x.until) ⊎ IsSet)

abbrev pub StaysMember : Guid → Member → Type 0 → LockRecord → Type 0
StaysMember schema x IsSet (Shared held members) = (held ≡ schema) × Any (IsStill x IsSet) members
StaysMember schema x IsSet _ = ⊥

-- what a lock step says of the call that it is
abbrev pub ByStep : Sub → (LockStep → Type 0) → Type 0
ByStep (sub.Lock step) Says = Says step
ByStep _ Says = ⊥

-- A call leaves a live exclusive lock, but for its holder's own drop and conversion.
abbrev pub KeepsExclusive : Type 0
KeepsExclusive =
    (doc : Doc) (call : Call) (id : Guid) (until : ℕ) → live doc.lock call.moment ≡ Exclusive id until
    → ByStep call.sub (EndsExclusive id) ⊎ StaysExclusive id until (ByStep call.sub (SetsExclusive id)) (apply doc call).doc.lock

-- A call leaves each live member of a shared lock, but for the member's own drop and conversion.
abbrev pub KeepsMembers : Type 0
KeepsMembers =
    (doc : Doc) (call : Call) (schema : Guid) (members : List Member) → live doc.lock call.moment ≡ Shared schema members
    → All (λ x. ByStep call.sub (EndsMember schema x.client) ⊎ StaysMember schema x (ByStep call.sub (SetsMember schema x.client)) (apply doc call).doc.lock) members

-- a call carries this lock id
abbrev pub Carries : Sub → Guid → Type 0
Carries (sub.Put p) id = p.carried ≡ Some id
Carries (sub.Restore number carried) id = carried ≡ Some id
Carries _ id = ⊥

-- the lock is free, or the call carries its exclusive lock id or its schema id
abbrev pub IsFreeOrCarried : LockRecord → Sub → Type 0
IsFreeOrCarried Free s = Unit {0}
IsFreeOrCarried (Exclusive id until) s = Carries s id
IsFreeOrCarried (Shared schema members) s = Carries s schema

-- Where a call changes the commits, the lock was free at its moment, or the call carried its id.
abbrev pub CommitsUnderLock : Type 0
CommitsUnderLock =
    (doc : Doc) (call : Call) → (apply doc call).doc.commits ≢ doc.commits → IsFreeOrCarried (live doc.lock call.moment) call.sub
