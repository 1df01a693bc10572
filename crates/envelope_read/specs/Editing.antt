-- The steps of the table of editors, by the request words of EditorsTable.
use Rattle.std.specs.Prelude.{ℕ, List, codes, if◌then◌else◌}
use Rattle.std.specs.declared.option.Option.{Option}
use Rattle.std.specs.declared.option.Option.TheVariants.{Some, None}
use Rattle.std.specs.Str.{bytes_eq}
use Rattle.doc_model.specs.declared.editor.EditorStep.{EditorStep}
use Rattle.doc_model.specs.declared.editor.EditorStep.TheVariants.{Join, Leave, Refresh, SetKey, RemoveKey}
use Rattle.envelope_grammar.specs.Reading.{◌>>=◌}
use Rattle.envelope_grammar.specs.declared.tag.Attribute.{Attribute}
use Rattle.envelope_read.specs.Locking.{client_id}
use Rattle.envelope_read.specs.Lookup.{value_of, timeout_at}

unfoldable pub join_of : List Attribute → Option EditorStep
join_of a = client_id a >>= λ client. timeout_at a >>= λ timeout. Some (Join client timeout)

unfoldable pub leave_of : List Attribute → Option EditorStep
leave_of a = client_id a >>= λ client. Some (Leave client)

unfoldable pub refresh_of : List Attribute → Option EditorStep
refresh_of a = client_id a >>= λ client. timeout_at a >>= λ timeout. Some (Refresh client timeout)

unfoldable pub set_key : List ℕ → List Attribute → Option EditorStep
set_key value a = client_id a >>= λ client. value_of (codes "Key") a >>= λ key. Some (SetKey client key value)

unfoldable pub remove_key : List Attribute → Option EditorStep
remove_key a = client_id a >>= λ client. value_of (codes "Key") a >>= λ key. Some (RemoveKey client key)

-- of each word but UpdateEditorMetadata
unfoldable pub editor_step : List ℕ → List Attribute → Option EditorStep
editor_step word a =
    if bytes_eq word (codes "JoinEditingSession") then join_of a
    else if bytes_eq word (codes "LeaveEditingSession") then leave_of a
    else if bytes_eq word (codes "RefreshEditingSession") then refresh_of a
    else if bytes_eq word (codes "RemoveEditorMetadata") then remove_key a
    else None
