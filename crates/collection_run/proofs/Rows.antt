-- Worked envelopes, by computing.
use Rattle.std.proofs.Common.{◌≡◌, ℕ, List, [], ◌∷◌, ◌++◌, true, false, Option, Some, None, refl, ap}
use Rattle.std.specs.Prelude.{codes}
use Rattle.std.specs.List.{flat_map}
use Rattle.compact_values.specs.declared.guid.Guid.{Guid}
use Rattle.doc_model.specs.rules.Apply.{apply, empty_doc}
use Rattle.doc_model.specs.wire.Responses.{failure, pulled_package, response, sub_response}
use Rattle.doc_model.specs.wire.WrittenElements.{cell_knowledge_bytes, knowledge_bytes, ranges_bytes}
use Rattle.doc_model.specs.declared.call.Sub.{Sub}
use Rattle.doc_model.specs.declared.call.Sub.TheVariants as sub
use Rattle.doc_model.specs.declared.doc.Doc.{Doc}
use Rattle.doc_model.specs.declared.editor.EditorStep.TheVariants as editor
use Rattle.doc_model.specs.declared.lock.LockStep.{LockStep}
use Rattle.doc_model.specs.declared.lock.LockStep.TheVariants as lock
use Rattle.doc_model.specs.rules.Effects.{Effect}
use Rattle.doc_model.specs.declared.reply.Reply.TheVariants.{Me}
use Rattle.doc_model.specs.declared.reply.Submitted.TheVariants.{Answered}
use Rattle.doc_model.specs.declared.request.CellRequest.{CellRequest}
use Rattle.doc_model.specs.declared.request.WireKind.TheVariants as wire
use Rattle.envelope_read.specs.declared.collection.Ask.{Ask}
use Rattle.envelope_read.specs.declared.collection.Depend.TheVariants.{Free, On}
use Rattle.envelope_read.specs.declared.collection.DependWord.TheVariants as words
use Rattle.envelope_read.specs.declared.collection.SubAsk.{SubAsk}
use Rattle.envelope_read.specs.declared.collection.What.{What}
use Rattle.envelope_read.specs.declared.collection.What.TheVariants as asking
use Rattle.envelope_read.specs.declared.outcome.Outcome.{Outcome}
use Rattle.envelope_read.specs.declared.outcome.Outcome.TheVariants.{Cell, NotSupported, Plain}
use Rattle.envelope_write.specs.Words.{error_code}
use Rattle.envelope_write.specs.AnswerText.{answered_text, data_text, response_text, sub_text, subs_text}
use Rattle.envelope_write.specs.Xml.{attributes_text, end_tag, escape, escaped, start_tag}
use Rattle.base64.specs.Rfc4648.{encode_symbols}
use Rattle.stream_objects.specs.Written as written
use Rattle.wire_requests.specs.RequestOf.{request_of}
use Rattle.collection_run.specs.Collections.{Caller, asks_from, call_of, run_cell}
use Rattle.collection_run.specs.Opening.{or_number}
use Rattle.collection_run.specs.Processes.{Process, says}
use Rattle.collection_run.specs.Serving.{Served, serve}

abbrev a_docx : List ℕ
a_docx = codes "a.docx"

abbrev at_moment : ℕ → Caller
at_moment m = record { names = a_docx ∷ []; moment = m; user = codes "ann" }

abbrev free : What → SubAsk
free what = record { token = codes "1"; depend = Free; what = what }

abbrev asked_of : List SubAsk → List Ask
asked_of subs = record { url = codes "http://h/a.docx"; token = codes "1"; subs = subs } ∷ []

-- the ErrorCodes, each with a blank behind it
abbrev said : List Outcome → Process
said outcomes = says (flat_map (λ o. error_code o ++ codes " ") outcomes)

abbrev words_on : Doc → ℕ → List SubAsk → Served
words_on doc m subs = serve doc (asks_from (at_moment m) [] (asked_of subs) said)

abbrev id : ℕ → Guid
id n = record { number = n }

abbrev locking : LockStep → SubAsk
locking step = free (asking.Plain (sub.Lock step))

-- two coauthors and a conversion
row_13 :
    (words_on (empty_doc (id 7)) 0 (
    locking (lock.TakeShared (id 1) (id 100) 3600 true)
    ∷ locking (lock.TakeShared (id 1) (id 200) 3600 true)
    ∷ locking (lock.ToExclusive (id 1) (id 100) (id 9) 3600 false)
    ∷ locking (lock.ToExclusive (id 1) (id 100) (id 9) 3600 true)
    ∷ locking (lock.Status (id 1) (id 200))
    ∷ locking (lock.RefreshShared (id 1) (id 100) 3600)
    ∷ locking (lock.TakeShared (id 2) (id 300) 3600 true)
    ∷ locking (lock.ToExclusive (id 1) (id 200) (id 9) 3600 false)
    ∷ [])).text
    ≡ codes "Success Success MultipleClientsInCoauthSession ExitCoauthSessionAsConvertToExclusiveFailed Success FileNotLockedOnServer FileAlreadyLockedOnServer Success "
unfolding lib.Utf8.encode
row_13 = refl

-- an exclusive lock, and its last moment
abbrev locked_12 : Doc
locked_12 = (words_on (empty_doc (id 7)) 0 (locking (lock.TakeExclusive (id 1) 1000) ∷ [])).doc

row_12 :
    (words_on (words_on locked_12 999 (locking (lock.RefreshExclusive (id 1) 60) ∷ [])).doc 1058 (locking (lock.TakeExclusive (id 2) 60) ∷ [])).text
    ≡ codes "FileAlreadyLockedOnServer "
unfolding lib.Utf8.encode
row_12 = refl

row_12_later :
    (words_on (words_on locked_12 999 (locking (lock.RefreshExclusive (id 1) 60) ∷ [])).doc 1059 (locking (lock.CheckExclusive (id 2)) ∷ [])).text
    ≡ codes "Success "
unfolding lib.Utf8.encode
row_12_later = refl

-- another partition; what is not served, its follower, and the follower of one that was skipped
row_16 :
    (words_on (empty_doc (id 7)) 0 (
    free (asking.Cell [] false None)
    ∷ record { token = codes "2"; depend = Free; what = asking.NotSupported }
    ∷ record { token = codes "3"; depend = On (codes "2") words.OnNotSupported; what = asking.Plain sub.WhoAmI }
    ∷ record { token = codes "4"; depend = On (codes "3") words.OnFail; what = asking.Plain sub.WhoAmI }
    ∷ record { token = codes "5"; depend = On (codes "4") words.OnFail; what = asking.Plain sub.WhoAmI }
    ∷ [])).text
    ≡ codes "CellRequestFail RequestNotSupported Success DependentOnlyOnFailRequestSucceeded DependentRequestNotExecuted "
unfolding lib.Utf8.encode
row_16 = refl

row_21 :
    (words_on (empty_doc (id 7)) 30 (free (asking.Plain (sub.Restore 0 None)) ∷ free (asking.Plain (sub.Restore 4 None)) ∷ [])).text
    ≡ codes "VersionNotFound VersionNotFound "
unfolding lib.Utf8.encode
row_21 = refl

row_22 :
    (words_on (empty_doc (id 7)) 0 (
    free (asking.Plain (sub.Editor (editor.Join (id 5) 3600)))
    ∷ free (asking.Plain sub.AmIAlone)
    ∷ free (asking.Plain (sub.Editor (editor.Leave (id 6))))
    ∷ [])).text
    ≡ codes "Success Success EditorClientIdNotFound "
unfolding lib.Utf8.encode
row_22 = refl

-- ---- binary requests, whatever bytes they are

-- the GUID 00112233-4455-6677-8899-aabbccddeeff
abbrev guid : Guid
guid = id 0x00112233445566778899AABBCCDDEEFF

-- what a Cell is answered
abbrev cell_bytes : Outcome → List ℕ
cell_bytes (Cell bytes word) = bytes
cell_bytes outcome = []

abbrev binaries : List Outcome → Process
binaries outcomes = says (flat_map cell_bytes outcomes)

-- another partition
row_16_binary : (bytes : List ℕ) → (serve (empty_doc guid) (asks_from (at_moment 0) [] (asked_of (free (asking.Cell bytes false None) ∷ [])) binaries)).text
    ≡ 0x0C ∷ 0x00 ∷ 0x0B ∷ 0x00 ∷ 0x9D ∷ 0xCF ∷ 0x29 ∷ 0xF3 ∷ 0x39 ∷ 0x94 ∷ 0x06 ∷ 0x9B ∷ 0x16 ∷ 0x03 ∷ 0x02 ∷ 0x00 ∷ 0x01 ∷ 0x6E ∷ 0x02 ∷ 0x20 ∷ 0x00 ∷ 0x56 ∷ 0xA7 ∷ 0x66 ∷ 0x5A ∷ 0xCE ∷ 0x87 ∷ 0x90 ∷ 0x42 ∷ 0xA3 ∷ 0x8B ∷ 0xC6
    ∷ 0x1C ∷ 0x5B ∷ 0xA0 ∷ 0x5A ∷ 0x67 ∷ 0x32 ∷ 0x03 ∷ 0x08 ∷ 0x00 ∷ 0x03 ∷ 0x00 ∷ 0x00 ∷ 0x00 ∷ 0x37 ∷ 0x01 ∷ 0x8B ∷ 0x01 ∷ []
unfolding lib.Utf8.encode written.started failure
row_16_binary bytes = refl

-- one that asks for 1,000 numbers, and its response
abbrev thousand : CellRequest
thousand = record { subs = record { id = 1; kind = 11; what = wire.Draw 1000 } ∷ []; elements = [] }

abbrev drawn : List ℕ
drawn =
    0x0C ∷ 0x00 ∷ 0x0B ∷ 0x00 ∷ 0x9D ∷ 0xCF ∷ 0x29 ∷ 0xF3 ∷ 0x39 ∷ 0x94 ∷ 0x06 ∷ 0x9B ∷ 0x16 ∷ 0x03 ∷ 0x02 ∷ 0x00 ∷ 0x00 ∷ 0xAC ∷ 0x02 ∷ 0x00 ∷ 0x55 ∷ 0x0E ∷ 0x02 ∷ 0x06 ∷ 0x00 ∷ 0x03 ∷ 0x17 ∷ 0x00
    ∷ 0x0A ∷ 0x04 ∷ 0x26 ∷ 0x00 ∷ 0x33 ∷ 0x22 ∷ 0x11 ∷ 0x00 ∷ 0x55 ∷ 0x44 ∷ 0x77 ∷ 0x66 ∷ 0x88 ∷ 0x99 ∷ 0xAA ∷ 0xBB ∷ 0xCC ∷ 0xDD ∷ 0xEE ∷ 0xFF ∷ 0x03 ∷ 0xA2 ∷ 0x0F ∷ 0x07 ∷ 0x01 ∷ 0x8B ∷ 0x01 ∷ []

-- who asks, then a Cell, then what isn't served
abbrev three : List ℕ → Ask
three bytes = record {
  url = codes "http://h/a.docx";
  token = codes "1";
  subs = free (asking.Plain sub.WhoAmI)
      ∷ record { token = codes "2"; depend = Free; what = asking.Cell bytes true None }
      ∷ record { token = codes "3"; depend = Free; what = asking.NotSupported }
      ∷ [];
}

abbrev three_by : (List Outcome → Process) → Option CellRequest → List ℕ
three_by said o =
    (serve (empty_doc guid) (run_cell (at_moment 0) 0 None (or_number o) (λ outcome.
    said (Plain (Answered (Me (codes "ann"))) ∷ outcome ∷ NotSupported ∷ [])))).text

row_20_binary : (bytes : List ℕ) → request_of bytes ≡ Some thousand → (serve (empty_doc guid) (asks_from (at_moment 0) [] (three bytes ∷ []) binaries)).text ≡ drawn
unfolding lib.Utf8.encode written.started response sub_response pulled_package
row_20_binary bytes e = ap (three_by binaries) e

row_20 : (bytes : List ℕ) → request_of bytes ≡ Some thousand
    → (serve (empty_doc guid) (asks_from (at_moment 0) [] (three bytes ∷ []) (λ outcomes. says (response_text (three []) outcomes)))).text
    ≡ codes "<Response Url=\"http://h/a.docx\" RequestToken=\"1\" HealthScore=\"0\"><SubResponse SubRequestToken=\"1\" ErrorCode=\"Success\" HResult=\"0\"><SubResponseData UserName=\"ann\" UserLogin=\"ann\"/></SubResponse><SubResponse SubRequestToken=\"2\" ErrorCode=\"Success\" HResult=\"0\"><SubResponseData>DAALAJ3PKfM5lAabFgMCAACsAgBVDgIGAAMXAAoEJgAzIhEAVUR3ZoiZqrvM3e7/A6IPBwGLAQ==</SubResponseData></SubResponse><SubResponse SubRequestToken=\"3\" ErrorCode=\"RequestNotSupported\" HResult=\"2147500037\"/></Response>"
unfolding lib.Utf8.encode written.started response sub_response pulled_package encode_symbols response_text subs_text sub_text data_text answered_text attributes_text start_tag end_tag escaped escape
row_20 bytes e = ap (three_by (λ outcomes. says (response_text (three []) outcomes))) e

-- one that asks for what its client lacks, and its response on an empty document
abbrev query : CellRequest
query = record { subs = record { id = 1; kind = 2; what = wire.Pull (record { ranges = [] }) } ∷ []; elements = [] }

abbrev nothing_pulled : List ℕ
nothing_pulled =
    0x0C ∷ 0x00 ∷ 0x0B ∷ 0x00 ∷ 0x9D ∷ 0xCF ∷ 0x29 ∷ 0xF3 ∷ 0x39 ∷ 0x94 ∷ 0x06 ∷ 0x9B ∷ 0x16 ∷ 0x03 ∷ 0x02 ∷ 0x00 ∷ 0x00 ∷ 0xAC ∷ 0x02 ∷ 0x00 ∷ 0x55 ∷ 0x0E ∷ 0x02 ∷ 0x06 ∷ 0x00 ∷ 0x03 ∷ 0x05 ∷ 0x00
    ∷ 0xFA ∷ 0x02 ∷ 0x04 ∷ 0x00 ∷ 0x00 ∷ 0x00 ∷ 0x84 ∷ 0x00 ∷ 0x26 ∷ 0x02 ∷ 0x20 ∷ 0x00 ∷ 0xF6 ∷ 0x35 ∷ 0x7A ∷ 0x32 ∷ 0x61 ∷ 0x07 ∷ 0x14 ∷ 0x44 ∷ 0x96 ∷ 0x86 ∷ 0x51 ∷ 0xE9 ∷ 0x00 ∷ 0x66 ∷ 0x7A ∷ 0x4D
    ∷ 0xA4 ∷ 0x00 ∷ 0x51 ∷ 0x13 ∷ 0x01 ∷ 0x41 ∷ 0x07 ∷ 0x01 ∷ 0x8B ∷ 0x01 ∷ []

-- a client joins the coauthors, and then its Cell is run
abbrev join : Sub
join = sub.Lock (lock.TakeShared (id 1) (id 100) 3600 true)

abbrev office : List ℕ → List SubAsk
office bytes =
    free (asking.Plain join)
    ∷ record { token = codes "2"; depend = On (codes "1") words.OnSuccess; what = asking.Cell bytes true (Some (id 1)) }
    ∷ []

abbrev joined : Effect
joined = apply (empty_doc guid) (call_of (at_moment 0) join)

abbrev office_by : (List Outcome → Process) → Option CellRequest → List ℕ
office_by said o = (serve joined.doc (run_cell (at_moment 0) 0 (Some (id 1)) (or_number o) (λ outcome. said (Plain (Answered joined.reply) ∷ outcome ∷ [])))).text

row_15 : (bytes : List ℕ) → request_of bytes ≡ Some query → (words_on (empty_doc guid) 0 (office bytes)).text ≡ codes "Success Success "
unfolding lib.Utf8.encode
row_15 bytes e = ap (office_by said) e

row_15_binary : (bytes : List ℕ) → request_of bytes ≡ Some query → (serve (empty_doc guid) (asks_from (at_moment 0) [] (asked_of (office bytes)) binaries)).text ≡ nothing_pulled
unfolding lib.Utf8.encode written.started cell_knowledge_bytes knowledge_bytes ranges_bytes response sub_response pulled_package
row_15_binary bytes e = ap (office_by binaries) e
