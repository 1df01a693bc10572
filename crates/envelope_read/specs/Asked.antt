-- What a SubRequest asks, by its Type. Nothing where its text is to be base64 and is none.
use Rattle.std.specs.Prelude.{ℕ, List, [], codes, encode_utf8_all, if◌then◌else◌}
use Rattle.std.specs.declared.option.Option.{Option}
use Rattle.std.specs.declared.option.Option.TheVariants.{Some, None}
use Rattle.std.specs.Str.{bytes_eq}
use Rattle.doc_model.specs.declared.call.Sub.TheVariants as subs
use Rattle.doc_model.specs.declared.editor.EditorStep.{EditorStep}
use Rattle.doc_model.specs.declared.lock.LockStep.{LockStep}
use Rattle.envelope_grammar.specs.Reading.{◌>>=◌}
use Rattle.envelope_grammar.specs.declared.raw.Payload.{Payload}
use Rattle.envelope_grammar.specs.declared.raw.RawSub.{RawSub}
use Rattle.envelope_grammar.specs.declared.tag.Attribute.{Attribute}
use Rattle.envelope_read.specs.Base.{decoded}
use Rattle.envelope_read.specs.Depending.{depend_of}
use Rattle.envelope_read.specs.Editing.{set_key, editor_step}
use Rattle.envelope_read.specs.Locking.{exclusive_step, schema_step, coauth_step}
use Rattle.envelope_read.specs.Lookup.{bytes_of, text_of, carried_at, content_at, number_at}
use Rattle.envelope_read.specs.declared.collection.SubAsk.{SubAsk}
use Rattle.envelope_read.specs.declared.collection.What.{What}
use Rattle.envelope_read.specs.declared.collection.What.TheVariants.{Cell, Plain, NotSupported, BadArgument}

abbrev pub asked_or_bad : Option What → What
asked_or_bad None = BadArgument
asked_or_bad (Some what) = what

unfoldable pub cell_with : List ℕ → List Attribute → Option What
cell_with bytes a = content_at a >>= λ content. carried_at a >>= λ carried. Some (Cell bytes content carried)

abbrev pub lock_or_bad : Option LockStep → What
lock_or_bad None = BadArgument
lock_or_bad (Some step) = Plain (subs.Lock step)

abbrev pub editor_or_bad : Option EditorStep → What
editor_or_bad None = BadArgument
editor_or_bad (Some step) = Plain (subs.Editor step)

unfoldable pub editor_asked : List ℕ → List Attribute → List ℕ → Option What
editor_asked word a text =
    if bytes_eq word (codes "UpdateEditorMetadata") then decoded text >>= (λ value. Some (editor_or_bad (set_key value a)))
    else Some (editor_or_bad (editor_step word a))

unfoldable pub restore_of : List Attribute → Option What
restore_of a = number_at (codes "Version") a >>= λ number. carried_at a >>= λ carried. Some (Plain (subs.Restore number carried))

unfoldable pub version_asked : List ℕ → List Attribute → What
version_asked word a =
    if bytes_eq word (codes "GetVersionList") then Plain subs.Versions
    else if bytes_eq word (codes "RestoreVersion") then asked_or_bad (restore_of a)
    else BadArgument

unfoldable pub cell_asked : List Attribute → List ℕ → Option What
cell_asked a text = decoded text >>= λ bytes. Some (asked_or_bad (cell_with bytes a))

unfoldable pub exclusive_asked : List Attribute → What
exclusive_asked a = lock_or_bad (exclusive_step (bytes_of (codes "ExclusiveLockRequestType") a) a)

unfoldable pub schema_asked : List Attribute → What
schema_asked a = lock_or_bad (schema_step (bytes_of (codes "SchemaLockRequestType") a) a)

unfoldable pub coauth_asked : List Attribute → What
coauth_asked a = lock_or_bad (coauth_step (bytes_of (codes "CoauthRequestType") a) a)

unfoldable pub table_asked : List Attribute → List ℕ → Option What
table_asked a text = editor_asked (bytes_of (codes "EditorsTableRequestType") a) a text

unfoldable pub versions_asked : List Attribute → What
versions_asked a = version_asked (bytes_of (codes "VersioningRequestType") a) a

unfoldable pub what_of : List ℕ → List Attribute → List ℕ → Option What
what_of kind a text =
    if bytes_eq kind (codes "Cell") then cell_asked a text
    else if bytes_eq kind (codes "ExclusiveLock") then Some (exclusive_asked a)
    else if bytes_eq kind (codes "SchemaLock") then Some (schema_asked a)
    else if bytes_eq kind (codes "Coauth") then Some (coauth_asked a)
    else if bytes_eq kind (codes "EditorsTable") then table_asked a text
    else if bytes_eq kind (codes "Versioning") then Some (versions_asked a)
    else if bytes_eq kind (codes "AmIAlone") then Some (Plain subs.AmIAlone)
    else if bytes_eq kind (codes "WhoAmI") then Some (Plain subs.WhoAmI)
    else Some NotSupported

abbrev pub data_attributes : Option Payload → List Attribute
data_attributes None = []
data_attributes (Some payload) = payload.attributes

-- the UTF-8 of its own text
abbrev pub data_text : Option Payload → List ℕ
data_text None = []
data_text (Some payload) = encode_utf8_all payload.text

abbrev pub sub_with : List Attribute → What → SubAsk
sub_with a what = record { token = text_of (codes "SubRequestToken") a; depend = depend_of a; what = what }

-- without a SubRequestData it has no attributes and no text
unfoldable pub sub_of : RawSub → Option SubAsk
sub_of sub =
    what_of (bytes_of (codes "Type") sub.attributes) (data_attributes sub.payload) (data_text sub.payload) >>= λ what.
    Some (sub_with sub.attributes what)
