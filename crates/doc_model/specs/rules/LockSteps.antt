-- What the steps of a lock do with it: the exclusive steps (MS-FSSHTTP 3.1.4.5) and the shared ones (3.1.4.3, 3.1.4.4).
use Rattle.std.specs.Prelude.{ℕ, ◌+◌, ◌==◌, nat_lt, Bool, true, false, not, ◌||◌, if◌then◌else◌, List, [], ◌∷◌, length, filter, count_by, Option, None, Some}
use Rattle.std.specs.List.{list_any}
use Rattle.compact_values.specs.declared.guid.Guid.{Guid}
use Rattle.compact_values.specs.SameIds.{same_guid}
use Rattle.doc_model.specs.declared.lock.LockStep.{LockStep}
use Rattle.doc_model.specs.declared.lock.LockStep.TheVariants.{TakeExclusive, DropExclusive, RefreshExclusive, CheckExclusive, ToShared, TakeShared, DropShared, RefreshShared, ToExclusive, CheckShared, Status, Mark}
use Rattle.doc_model.specs.declared.lock.LockRecord.{LockRecord}
use Rattle.doc_model.specs.declared.lock.LockRecord.TheVariants.{Free, Exclusive, Shared}
use Rattle.doc_model.specs.declared.lock.Member.{Member}
use Rattle.doc_model.specs.declared.lock.LockKind.{LockKind}
use Rattle.doc_model.specs.declared.lock.LockKind.TheVariants as kind
use Rattle.doc_model.specs.declared.lock.Coauthors.{Coauthors}
use Rattle.doc_model.specs.declared.lock.Coauthors.TheVariants.{Nobody, Alone, Several}
use Rattle.doc_model.specs.declared.reply.Reply.{Reply}
use Rattle.doc_model.specs.declared.reply.Reply.TheVariants as reply
use Rattle.doc_model.specs.declared.reply.Code.{Code}
use Rattle.doc_model.specs.declared.reply.Code.TheVariants as code
use Rattle.doc_model.specs.rules.Limits.{most_sharing}
use Rattle.doc_model.specs.rules.Locks.{shared_by}

-- the steps of a shared lock; the others are those of an exclusive one
abbrev pub is_shared_step : LockStep → Bool
is_shared_step (TakeExclusive id t) = false
is_shared_step (DropExclusive id) = false
is_shared_step (RefreshExclusive id t) = false
is_shared_step (CheckExclusive id) = false
is_shared_step (ToShared id schema client t coauthor) = false
is_shared_step _ = true

-- how long a step asks for, if it does
abbrev pub timeout_of : LockStep → Option ℕ
timeout_of (TakeExclusive id t) = Some t
timeout_of (RefreshExclusive id t) = Some t
timeout_of (ToShared id schema client t coauthor) = Some t
timeout_of (TakeShared schema client t coauthor) = Some t
timeout_of (RefreshShared schema client t) = Some t
timeout_of (ToExclusive schema client id t release) = Some t
timeout_of _ = None

-- what a step does with the live lock
pub data LockEffect : Type 0 where
  becomes : LockRecord → LockEffect
  stays : LockEffect
  refuses : Code → LockEffect
  -- the client leaves, and is refused
  leaves : LockRecord → LockEffect

-- on a free lock, on an exclusive lock of this id, and refused on every other
abbrev pub on_exclusive : Guid → LockRecord → LockEffect → LockEffect → LockEffect
on_exclusive id Free free own = free
on_exclusive id (Exclusive held until) free own = if same_guid held id then own else refuses code.AlreadyLocked
on_exclusive id (Shared schema members) free own = refuses code.AlreadyLocked

-- on a free lock, on a shared lock of this schema id, and refused on every other
abbrev pub on_shared : Guid → LockRecord → LockEffect → (List Member → LockEffect) → LockEffect
on_shared schema Free free own = free
on_shared schema (Exclusive held until) free own = refuses code.AlreadyLocked
on_shared schema (Shared held members) free own = if same_guid held schema then own members else refuses code.AlreadyLocked

abbrev pub is_client : Guid → Member → Bool
is_client client x = same_guid x.client client

abbrev pub others : Guid → List Member → List Member
others client members = filter (λ x. not (is_client client x)) members

-- on a shared lock of this schema id of which the client is a member
abbrev pub on_member : Guid → Guid → LockRecord → (List Member → LockEffect) → LockEffect
on_member schema client lock own =
    on_shared schema lock (refuses code.NotLocked) (λ members. if list_any (is_client client) members then own members else refuses code.NotLocked)

abbrev pub member : Guid → ℕ → Bool → Member
member client until coauthor = record { client = client; until = until; coauthor = coauthor }

-- the client is there until then, at its place or else at the end; a coauthor stays one
abbrev pub with_client : Guid → ℕ → Bool → List Member → List Member
with_client client until coauthor [] = member client until coauthor ∷ []
with_client client until coauthor (x ∷ xs) =
    if is_client client x then member client until (x.coauthor || coauthor) ∷ xs else x ∷ with_client client until coauthor xs

-- the client takes a shared lock of this schema id until then, and changes its own to an exclusive one
abbrev pub take_shared : Guid → Guid → ℕ → Bool → LockRecord → LockEffect
take_shared schema client until coauthor lock =
    on_shared schema lock (becomes (Shared schema (member client until coauthor ∷ []))) (λ members.
    if nat_lt (length (others client members)) most_sharing then becomes (Shared schema (with_client client until coauthor members))
    else refuses code.TooManyCoauthors)

abbrev pub to_exclusive : Guid → Guid → Guid → ℕ → Bool → LockRecord → LockEffect
to_exclusive schema client id until release lock =
    on_member schema client lock (λ members.
    if length (others client members) == 0 then becomes (Exclusive id until)
    else if release then leaves (Shared schema (others client members)) else refuses code.ManyClients)

-- a step on the live lock at a moment
abbrev pub lock_effect : ℕ → LockStep → LockRecord → LockEffect
lock_effect m (TakeExclusive id t) lock = on_exclusive id lock (becomes (Exclusive id (m + t))) (becomes (Exclusive id (m + t)))
lock_effect m (DropExclusive id) lock = on_exclusive id lock (refuses code.NotLocked) (becomes Free)
lock_effect m (RefreshExclusive id t) lock = on_exclusive id lock (refuses code.NotLocked) (becomes (Exclusive id (m + t)))
lock_effect m (CheckExclusive id) lock = on_exclusive id lock stays stays
lock_effect m (ToShared id schema client t coauthor) lock =
    on_exclusive id lock (refuses code.NotLocked) (becomes (Shared schema (member client (m + t) coauthor ∷ [])))
lock_effect m (TakeShared schema client t coauthor) lock = take_shared schema client (m + t) coauthor lock
lock_effect m (DropShared schema client) lock = on_member schema client lock (λ members. becomes (shared_by schema (others client members)))
lock_effect m (RefreshShared schema client t) lock =
    on_member schema client lock (λ members. becomes (Shared schema (with_client client (m + t) false members)))
lock_effect m (ToExclusive schema client id t release) lock = to_exclusive schema client id (m + t) release lock
lock_effect m (CheckShared schema) lock = on_shared schema lock stays (λ _. stays)
lock_effect m (Status schema client) lock = on_member schema client lock (λ _. stays)
lock_effect m (Mark schema client) lock = on_member schema client lock (λ _. stays)

-- the lock afterwards, whether it moved, and the refusal
abbrev pub lock_after : LockRecord → LockEffect → LockRecord
lock_after old (becomes new) = new
lock_after old stays = old
lock_after old (refuses c) = old
lock_after old (leaves new) = new

abbrev pub lock_moved : LockEffect → Bool
lock_moved (becomes new) = true
lock_moved stays = false
lock_moved (refuses c) = false
lock_moved (leaves new) = true

abbrev pub lock_refusal : LockEffect → Option Code
lock_refusal (becomes new) = None
lock_refusal stays = None
lock_refusal (refuses c) = Some c
lock_refusal (leaves new) = Some code.LeftOnFailedConversion

-- the kind of a lock, and its coauthors
abbrev pub lock_kind : LockRecord → LockKind
lock_kind (Shared schema members) = kind.Schema
lock_kind _ = kind.Exclusive

abbrev pub coauthors_by : ℕ → Coauthors
coauthors_by n = if n == 0 then Nobody else if n == 1 then Alone else Several

abbrev pub coauthors_of : LockRecord → Coauthors
coauthors_of (Shared schema members) = coauthors_by (count_by (λ x. x.coauthor) members)
coauthors_of _ = Nobody

-- the steps that are answered with the lock; the others are answered with Done
abbrev pub tells_lock : LockStep → Bool
tells_lock (DropExclusive id) = false
tells_lock (CheckExclusive id) = false
tells_lock (DropShared schema client) = false
tells_lock (CheckShared schema) = false
tells_lock (Mark schema client) = false
tells_lock _ = true

abbrev pub lock_reply : Guid → LockStep → LockRecord → Option Code → Reply
lock_reply guid step after (Some c) = reply.Refused c
lock_reply guid step after None =
    if tells_lock step then reply.Locked guid (lock_kind after) (coauthors_of after) else reply.Done
