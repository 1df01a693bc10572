-- The Cells of an envelope that is read are bytes: no number past 255.
use Rattle.std.proofs.Common.{◌≡◌, ℕ, ◌+◌, Bool, true, false, cond, ltb, List, [], ◌∷◌, length, Option, Some, None, Result, Ok, Err, refl, subst}
use Rattle.std.specs.Prelude.{IfSome, codes}
use Rattle.std.specs.List.{AllByRecursion}
use Rattle.std.specs.Str.{bytes_eq}
use Rattle.base64.specs.Engines.{standard}
use Rattle.base64.specs.GeneralPurpose.{decode_of}
use Rattle.base64.specs.declared.decode.DecodeError.{DecodeError}
use Rattle.compact_values.proofs.LittleEndian.{IsBytes}
use Rattle.doc_model.specs.declared.editor.EditorStep.{EditorStep}
use Rattle.doc_model.specs.declared.lock.LockStep.{LockStep}
use Rattle.envelope_grammar.specs.Front.{text_at}
use Rattle.envelope_grammar.specs.declared.raw.RawRequest.{RawRequest}
use Rattle.envelope_grammar.specs.declared.raw.RawSub.{RawSub}
use Rattle.envelope_grammar.specs.declared.tag.Attribute.{Attribute}
use Rattle.envelope_read.specs.Asked.{asked_or_bad, cell_with, cell_asked, lock_or_bad, editor_or_bad, editor_asked, restore_of, version_asked, exclusive_asked, schema_asked, coauth_asked, table_asked, versions_asked, what_of, sub_of, data_attributes, data_text}
use Rattle.envelope_read.specs.Base.{when_ok, without_white, decoded}
use Rattle.envelope_read.specs.Editing.{set_key, editor_step}
use Rattle.envelope_read.specs.Locking.{exclusive_step, schema_step, coauth_step}
use Rattle.envelope_read.specs.Lookup.{bytes_of, carried_at, content_at, number_at}
use Rattle.envelope_read.specs.Verdicts.{most_subs, sub_count, then_ok, or_number, subs_from, ask_with, asks_from, verdict_by, verdict_from, verdict}
use Rattle.envelope_read.specs.declared.collection.Ask.{Ask}
use Rattle.envelope_read.specs.declared.collection.Collection.{Collection}
use Rattle.envelope_read.specs.declared.collection.SubAsk.{SubAsk}
use Rattle.envelope_read.specs.declared.collection.What.{What}
use Rattle.envelope_read.specs.declared.collection.What.TheVariants as asking
use Rattle.envelope_read.proofs.Callables.{pick, binds, if_some, ok_parts, or_number_parts, ok_is}
use Rattle.collection_run.proofs.DecodedBytes.{decoded_are_bytes}

abbrev pub HasBytes : What → Type 0
HasBytes (asking.Cell bytes content carried) = IsBytes bytes
HasBytes what = Unit {0}

abbrev pub SubsHaveBytes : List SubAsk → Type 0
SubsHaveBytes subs = AllByRecursion (λ sub. HasBytes sub.what) subs

abbrev pub HaveBytes : List Ask → Type 0
HaveBytes asks = AllByRecursion (λ ask. SubsHaveBytes ask.subs) asks

of_result : (r : Result (List ℕ) DecodeError) (found : List ℕ) → when_ok r ≡ Some found → r ≡ Ok found
of_result (Ok x) found e = let same : x ≡ found = cc in cc
of_result (Err x) found e = absurd cc

decoded_bytes : (text found : List ℕ) → decoded text ≡ Some found → IsBytes found
unfolding decoded
decoded_bytes text found e = decoded_are_bytes (without_white text) found (of_result (decode_of standard (without_white text)) found e)

-- ---- what is asked

lock_fits : (o : Option LockStep) → HasBytes (lock_or_bad o)
lock_fits None = tt
lock_fits (Some step) = tt

editor_fits : (o : Option EditorStep) → HasBytes (editor_or_bad o)
editor_fits None = tt
editor_fits (Some step) = tt

or_bad_fits : (o : Option What) → IfSome o HasBytes → HasBytes (asked_or_bad o)
or_bad_fits None h = tt
or_bad_fits (Some what) h = h

cell_fits : (bytes : List ℕ) (a : List Attribute) → IsBytes bytes → IfSome (cell_with bytes a) HasBytes
unfolding cell_with
cell_fits bytes a fits = binds HasBytes (content_at a) _ (λ content e. binds HasBytes (carried_at a) _ (λ carried f. fits))

cell_asked_fits : (a : List Attribute) (text : List ℕ) → IfSome (cell_asked a text) HasBytes
unfolding cell_asked
cell_asked_fits a text = binds HasBytes (decoded text) _ (λ bytes e. or_bad_fits (cell_with bytes a) (cell_fits bytes a (decoded_bytes text bytes e)))

editor_asked_fits : (word : List ℕ) (a : List Attribute) (text : List ℕ) → IfSome (editor_asked word a text) HasBytes
unfolding editor_asked
editor_asked_fits word a text =
    pick HasBytes (bytes_eq word (codes "UpdateEditorMetadata")) _ _ (binds HasBytes (decoded text) _ (λ value e. editor_fits (set_key value a)))
    (editor_fits (editor_step word a))

restore_fits : (a : List Attribute) → IfSome (restore_of a) HasBytes
unfolding restore_of
restore_fits a = binds HasBytes (number_at (codes "Version") a) _ (λ number e. binds HasBytes (carried_at a) _ (λ carried f. tt))

pick_what : (t : Bool) (x y : What) → HasBytes x → HasBytes y → HasBytes (cond t x y)
pick_what true x y h k = h
pick_what false x y h k = k

version_fits : (word : List ℕ) (a : List Attribute) → HasBytes (version_asked word a)
unfolding version_asked
version_fits word a =
    pick_what (bytes_eq word (codes "GetVersionList")) _ _ tt
    (pick_what (bytes_eq word (codes "RestoreVersion")) _ _ (or_bad_fits (restore_of a) (restore_fits a)) tt)

what_fits : (kind : List ℕ) (a : List Attribute) (text : List ℕ) → IfSome (what_of kind a text) HasBytes
unfolding what_of exclusive_asked schema_asked coauth_asked table_asked versions_asked
what_fits kind a text =
    pick HasBytes (bytes_eq kind (codes "Cell")) _ _ (cell_asked_fits a text)
    (pick HasBytes (bytes_eq kind (codes "ExclusiveLock")) _ _ (lock_fits (exclusive_step (bytes_of (codes "ExclusiveLockRequestType") a) a))
    (pick HasBytes (bytes_eq kind (codes "SchemaLock")) _ _ (lock_fits (schema_step (bytes_of (codes "SchemaLockRequestType") a) a))
    (pick HasBytes (bytes_eq kind (codes "Coauth")) _ _ (lock_fits (coauth_step (bytes_of (codes "CoauthRequestType") a) a))
    (pick HasBytes (bytes_eq kind (codes "EditorsTable")) _ _ (editor_asked_fits (bytes_of (codes "EditorsTableRequestType") a) a text)
    (pick HasBytes (bytes_eq kind (codes "Versioning")) _ _ (version_fits (bytes_of (codes "VersioningRequestType") a) a)
    (pick HasBytes (bytes_eq kind (codes "AmIAlone")) _ _ tt
    (pick HasBytes (bytes_eq kind (codes "WhoAmI")) _ _ tt tt)))))))

SubFits : SubAsk → Type 0
SubFits sub = HasBytes sub.what

sub_fits : (sub : RawSub) → IfSome (sub_of sub) SubFits
unfolding sub_of SubFits
sub_fits sub =
    let kind = bytes_of (codes "Type") sub.attributes in
    let a = data_attributes sub.payload in
    let text = data_text sub.payload in
    binds SubFits (what_of kind a text) _ (λ what e. if_some HasBytes (what_of kind a text) what e (what_fits kind a text))

-- ---- the loops

subs_fit : (n : ℕ) (subs : List RawSub) (xs : List SubAsk) → subs_from n subs ≡ Ok xs → SubsHaveBytes xs
unfolding subs_from SubFits
subs_fit n [] xs e = subst SubsHaveBytes (ok_is [] xs e) tt
subs_fit n (sub ∷ subs) xs e =
    let first = ok_parts (or_number n (sub_of sub)) (λ x. then_ok (subs_from (n + 1) subs) (λ ys. Ok (x ∷ ys))) xs e in
    let others = ok_parts (subs_from (n + 1) subs) (λ ys. Ok (first.0 ∷ ys)) xs first.2 in
    let same = ok_is (first.0 ∷ others.0) xs others.2 in
    let one = if_some SubFits (sub_of sub) first.0 (or_number_parts n (sub_of sub) first.0 first.1) (sub_fits sub) in
    subst SubsHaveBytes same (one, subs_fit (n + 1) subs others.0 others.1)

asks_fit : (n : ℕ) (requests : List RawRequest) (asks : List Ask) → asks_from n requests ≡ Ok asks → HaveBytes asks
unfolding asks_from
asks_fit n [] asks e = subst HaveBytes (ok_is [] asks e) tt
asks_fit n (request ∷ requests) asks e =
    let first = ok_parts (subs_from n request.subs) (λ subs. then_ok (asks_from (n + length request.subs) requests) (λ xs. Ok (ask_with request subs ∷ xs))) asks e in
    let others = ok_parts (asks_from (n + length request.subs) requests) (λ xs. Ok (ask_with request first.0 ∷ xs)) asks first.2 in
    let same = ok_is (ask_with request first.0 ∷ others.0) asks others.2 in
    let one = subs_fit n request.subs first.0 first.1 in
    subst HaveBytes same (one, asks_fit (n + length request.subs) requests others.0 others.1)

fit_by : (requests : List RawRequest) (t : Bool) (r : Result (List Ask) ℕ) (collection : Collection) → asks_from 0 requests ≡ r
    → cond t (Err 413) (verdict_by r) ≡ Ok collection → HaveBytes collection.requests
fit_by requests true r collection e h = absurd cc
fit_by requests false (Err n) collection e h = absurd cc
fit_by requests false (Ok asks) collection e h =
    let made : Collection = record { requests = asks } in
    let same : made ≡ collection = ok_is made collection h in
    subst (λ (c : Collection). HaveBytes c.requests) same (asks_fit 0 requests asks e)

fit_from : (o : Option (List RawRequest)) (collection : Collection) → verdict_from o ≡ Ok collection → HaveBytes collection.requests
fit_from None collection h = absurd cc
fit_from (Some requests) collection h = fit_by requests (ltb most_subs (sub_count requests)) (asks_from 0 requests) collection refl h

pub verdict_bytes : (text : List ℕ) (collection : Collection) → verdict text ≡ Ok collection → HaveBytes collection.requests
unfolding verdict
verdict_bytes text collection h = fit_from (text_at text) collection h
