-- What the steps of the table of editors do with it (MS-FSSHTTP 3.1.4.8).
use Rattle.std.specs.Prelude.{ℕ, ◌+◌, nat_lt, nat_le, Bool, true, false, not, ◌&&◌, ◌||◌, if◌then◌else◌, List, [], ◌∷◌, length, filter, find, Option, None, Some, bytes_eq, encode_utf8_all}
use Rattle.std.specs.List.{list_any}
use Rattle.compact_values.specs.declared.guid.Guid.{Guid}
use Rattle.compact_values.specs.SameIds.{same_guid}
use Rattle.doc_model.specs.declared.doc.Doc.{Doc}
use Rattle.doc_model.specs.declared.editor.Editor.{Editor}
use Rattle.doc_model.specs.declared.editor.EditorStep.{EditorStep}
use Rattle.doc_model.specs.declared.editor.EditorStep.TheVariants.{Join, Leave, Refresh, SetKey, RemoveKey}
use Rattle.doc_model.specs.declared.editor.Entry.{Entry}
use Rattle.doc_model.specs.declared.reply.Reply.{Reply}
use Rattle.doc_model.specs.declared.reply.Reply.TheVariants as reply
use Rattle.doc_model.specs.declared.reply.Code.{Code}
use Rattle.doc_model.specs.declared.reply.Code.TheVariants as code
use Rattle.doc_model.specs.rules.Limits.{most_editors, most_keys, most_key_bytes}
use Rattle.doc_model.specs.rules.Effects.{Effect}

-- the editors that count at a moment: without those that have expired
abbrev pub is_live_editor : ℕ → Editor → Bool
is_live_editor moment e = nat_lt moment e.until

abbrev pub live_editors : List Editor → ℕ → List Editor
live_editors editors moment = filter (is_live_editor moment) editors

-- whether at most one client edits the document at a moment
abbrev pub is_alone : List Editor → ℕ → Bool
is_alone editors moment = nat_le (length (live_editors editors moment)) 1

-- how long a step asks for, if it does
abbrev pub editor_timeout_of : EditorStep → Option ℕ
editor_timeout_of (Join client t) = Some t
editor_timeout_of (Refresh client t) = Some t
editor_timeout_of _ = None

abbrev pub is_editor : Guid → Editor → Bool
is_editor client e = same_guid e.client client

abbrev pub other_editors : Guid → List Editor → List Editor
other_editors client editors = filter (λ e. not (is_editor client e)) editors

-- the client's editor changed so, at its place
abbrev pub edited : Guid → (Editor → Editor) → List Editor → List Editor
edited client change [] = []
edited client change (e ∷ es) = if is_editor client e then change e ∷ es else e ∷ edited client change es

-- an editor until then, by this user: with its keys, or new and without any
abbrev pub renewed : List ℕ → ℕ → Editor → Editor
renewed user until e = record e { user = user; until = until }

abbrev pub new_editor : Guid → List ℕ → ℕ → Editor
new_editor client user until = record { client = client; user = user; until = until; entries = [] }

-- the client is there until then, at its place with its keys, or else at the end without any
abbrev pub with_editor : Guid → List ℕ → ℕ → List Editor → List Editor
with_editor client user until [] = new_editor client user until ∷ []
with_editor client user until (e ∷ es) =
    if is_editor client e then renewed user until e ∷ es else e ∷ with_editor client user until es

-- the keys of an editor: the value at its key's place or else at the end, and without a key
abbrev pub is_key : List ℕ → Entry → Bool
is_key key x = bytes_eq x.key key

abbrev pub entry : List ℕ → List ℕ → Entry
entry key value = record { key = key; value = value }

abbrev pub with_entry : List ℕ → List ℕ → List Entry → List Entry
with_entry key value [] = entry key value ∷ []
with_entry key value (x ∷ xs) = if is_key key x then entry key value ∷ xs else x ∷ with_entry key value xs

abbrev pub without_key : List ℕ → List Entry → List Entry
without_key key entries = filter (λ x. not (is_key key x)) entries

-- a key or a value of more than 1,024 bytes, a key being as long as its UTF-8; and a key that finds no place
abbrev pub is_long : List ℕ → Bool
is_long bytes = nat_lt most_key_bytes (length bytes)

abbrev pub finds_no_place : List ℕ → List Entry → Bool
finds_no_place key entries = not (list_any (is_key key) entries) && nat_le most_keys (length entries)

-- what a step does with the live editors
pub data EditorEffect : Type 0 where
  becomes : List Editor → EditorEffect
  stays : EditorEffect
  refuses : Code → EditorEffect

-- on the client's live editor, and refused where there is none
abbrev pub on_found : Option Editor → (Editor → EditorEffect) → EditorEffect
on_found None own = refuses code.EditorUnknown
on_found (Some e) own = own e

abbrev pub on_editor : Guid → List Editor → (Editor → EditorEffect) → EditorEffect
on_editor client editors own = on_found (find (is_editor client) editors) own

abbrev pub join : Guid → List ℕ → ℕ → List Editor → EditorEffect
join client user until editors =
    if nat_lt (length (other_editors client editors)) most_editors then becomes (with_editor client user until editors)
    else refuses code.EditorsFull

abbrev pub set_key : Guid → List ℕ → List ℕ → List Editor → Editor → EditorEffect
set_key client key value editors e =
    if is_long (encode_utf8_all key) || is_long value then refuses code.MetadataLong
    else if finds_no_place key e.entries then refuses code.MetadataFull
    else becomes (edited client (λ x. record x { entries = with_entry key value x.entries }) editors)

abbrev pub remove_key : Guid → List ℕ → List Editor → Editor → EditorEffect
remove_key client key editors e =
    if list_any (is_key key) e.entries then becomes (edited client (λ x. record x { entries = without_key key x.entries }) editors)
    else stays

-- a step on the live editors at a moment, by a user
abbrev pub editor_effect : ℕ → List ℕ → EditorStep → List Editor → EditorEffect
editor_effect m user (Join client t) editors = join client user (m + t) editors
editor_effect m user (Leave client) editors = on_editor client editors (λ e. becomes (other_editors client editors))
editor_effect m user (Refresh client t) editors = on_editor client editors (λ e. becomes (edited client (λ x. record x { until = m + t }) editors))
editor_effect m user (SetKey client key value) editors = on_editor client editors (set_key client key value editors)
editor_effect m user (RemoveKey client key) editors = on_editor client editors (remove_key client key editors)

-- the editors afterwards, whether they changed, and the refusal
abbrev pub editors_after : List Editor → EditorEffect → List Editor
editors_after old (becomes new) = new
editors_after old stays = old
editors_after old (refuses c) = old

abbrev pub editors_moved : EditorEffect → Bool
editors_moved (becomes new) = true
editors_moved stays = false
editors_moved (refuses c) = false

abbrev pub editors_refusal : EditorEffect → Option Code
editors_refusal (becomes new) = None
editors_refusal stays = None
editors_refusal (refuses c) = Some c

abbrev pub editors_reply : Option Code → Reply
editors_reply None = reply.Done
editors_reply (Some c) = reply.Refused c

-- the live editors take this effect; where it doesn't move, the table stays as it is, with who has expired
abbrev pub after_edit : Doc → ℕ → EditorEffect → Effect
after_edit doc moment effect = record {
  doc = record doc { editors = if editors_moved effect then editors_after (live_editors doc.editors moment) effect else doc.editors };
  reply = editors_reply (editors_refusal effect);
  moved = editors_moved effect;
}

abbrev pub edit : Doc → ℕ → List ℕ → EditorStep → Effect
edit doc moment user step = after_edit doc moment (editor_effect moment user step (live_editors doc.editors moment))
