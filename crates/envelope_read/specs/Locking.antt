-- The steps of a lock, by the request words of ExclusiveLock, SchemaLock and Coauth. Nothing where the word is unknown, or an
-- attribute that it needs is absent or in no form.
use Rattle.std.specs.Prelude.{ℕ, Bool, true, false, List, codes, if◌then◌else◌}
use Rattle.std.specs.declared.option.Option.{Option}
use Rattle.std.specs.declared.option.Option.TheVariants.{Some, None}
use Rattle.std.specs.Str.{bytes_eq}
use Rattle.compact_values.specs.declared.guid.Guid.{Guid}
use Rattle.doc_model.specs.declared.lock.LockStep.{LockStep}
use Rattle.doc_model.specs.declared.lock.LockStep.TheVariants.{TakeExclusive, DropExclusive, RefreshExclusive, CheckExclusive, ToShared, TakeShared, DropShared, RefreshShared, ToExclusive, CheckShared, Status, Mark}
use Rattle.envelope_grammar.specs.Reading.{◌>>=◌}
use Rattle.envelope_grammar.specs.declared.tag.Attribute.{Attribute}
use Rattle.envelope_read.specs.Lookup.{guid_at, timeout_at, flag_at}

-- ---- the attributes of steps

abbrev pub exclusive_id : List Attribute → Option Guid
exclusive_id = guid_at (codes "ExclusiveLockID")

abbrev pub schema_id : List Attribute → Option Guid
schema_id = guid_at (codes "SchemaLockID")

abbrev pub client_id : List Attribute → Option Guid
client_id = guid_at (codes "ClientID")

unfoldable pub take_exclusive : List Attribute → Option LockStep
take_exclusive a = exclusive_id a >>= λ id. timeout_at a >>= λ timeout. Some (TakeExclusive id timeout)

unfoldable pub drop_exclusive : List Attribute → Option LockStep
drop_exclusive a = exclusive_id a >>= λ id. Some (DropExclusive id)

unfoldable pub refresh_exclusive : List Attribute → Option LockStep
refresh_exclusive a = exclusive_id a >>= λ id. timeout_at a >>= λ timeout. Some (RefreshExclusive id timeout)

unfoldable pub check_exclusive : List Attribute → Option LockStep
check_exclusive a = exclusive_id a >>= λ id. Some (CheckExclusive id)

unfoldable pub to_shared : Bool → List Attribute → Option LockStep
to_shared coauthor a =
    exclusive_id a >>= λ id. schema_id a >>= λ schema. client_id a >>= λ client. timeout_at a >>= λ timeout.
    Some (ToShared id schema client timeout coauthor)

unfoldable pub take_shared : Bool → List Attribute → Option LockStep
take_shared coauthor a = schema_id a >>= λ schema. client_id a >>= λ client. timeout_at a >>= λ timeout. Some (TakeShared schema client timeout coauthor)

unfoldable pub drop_shared : List Attribute → Option LockStep
drop_shared a = schema_id a >>= λ schema. client_id a >>= λ client. Some (DropShared schema client)

unfoldable pub refresh_shared : List Attribute → Option LockStep
refresh_shared a = schema_id a >>= λ schema. client_id a >>= λ client. timeout_at a >>= λ timeout. Some (RefreshShared schema client timeout)

unfoldable pub to_exclusive : List Attribute → Option LockStep
to_exclusive a =
    schema_id a >>= λ schema. client_id a >>= λ client. exclusive_id a >>= λ id. timeout_at a >>= λ timeout.
    Some (ToExclusive schema client id timeout (flag_at (codes "ReleaseLockOnConversionToExclusiveFailure") a))

unfoldable pub check_shared : List Attribute → Option LockStep
check_shared a = schema_id a >>= λ schema. Some (CheckShared schema)

unfoldable pub status_of : List Attribute → Option LockStep
status_of a = schema_id a >>= λ schema. client_id a >>= λ client. Some (Status schema client)

unfoldable pub mark_of : List Attribute → Option LockStep
mark_of a = schema_id a >>= λ schema. client_id a >>= λ client. Some (Mark schema client)

-- ---- the words

unfoldable pub exclusive_step : List ℕ → List Attribute → Option LockStep
exclusive_step word a =
    if bytes_eq word (codes "GetLock") then take_exclusive a
    else if bytes_eq word (codes "ReleaseLock") then drop_exclusive a
    else if bytes_eq word (codes "RefreshLock") then refresh_exclusive a
    else if bytes_eq word (codes "CheckLockAvailability") then check_exclusive a
    else if bytes_eq word (codes "ConvertToSchema") then to_shared false a
    else if bytes_eq word (codes "ConvertToSchemaJoinCoauth") then to_shared true a
    else None

unfoldable pub schema_step : List ℕ → List Attribute → Option LockStep
schema_step word a =
    if bytes_eq word (codes "GetLock") then take_shared false a
    else if bytes_eq word (codes "ReleaseLock") then drop_shared a
    else if bytes_eq word (codes "RefreshLock") then refresh_shared a
    else if bytes_eq word (codes "ConvertToExclusive") then to_exclusive a
    else if bytes_eq word (codes "CheckLockAvailability") then check_shared a
    else None

unfoldable pub coauth_step : List ℕ → List Attribute → Option LockStep
coauth_step word a =
    if bytes_eq word (codes "JoinCoauthoring") then take_shared true a
    else if bytes_eq word (codes "ExitCoauthoring") then drop_shared a
    else if bytes_eq word (codes "RefreshCoauthoring") then refresh_shared a
    else if bytes_eq word (codes "ConvertToExclusive") then to_exclusive a
    else if bytes_eq word (codes "CheckLockAvailability") then check_shared a
    else if bytes_eq word (codes "GetCoauthoringStatus") then status_of a
    else if bytes_eq word (codes "MarkTransitionComplete") then mark_of a
    else None
