-- The answer to an envelope: one Response for each Request, in it one SubResponse for each subrequest.
use Rattle.std.specs.Prelude.{ℕ, ◌+◌, List, [], ◌∷◌, ◌++◌, Option, Some, None, length, take, drop, codes, decimal, encode_utf8_all}
use Rattle.base64.specs.Engines.{standard}
use Rattle.base64.specs.GeneralPurpose.{encode_of}
use Rattle.compact_values.specs.GuidText.{text_of_guid}
use Rattle.doc_model.specs.declared.doc.Commit.{Commit}
use Rattle.compact_values.specs.declared.guid.Guid.{Guid}
use Rattle.doc_model.specs.declared.lock.Coauthors.{Coauthors}
use Rattle.doc_model.specs.declared.lock.LockKind.{LockKind}
use Rattle.doc_model.specs.declared.reply.Reply.{Reply}
use Rattle.doc_model.specs.declared.reply.Reply.TheVariants.{Locked, VersionList, Lone, Me}
use Rattle.doc_model.specs.declared.reply.Submitted.TheVariants.{Answered}
use Rattle.envelope_read.specs.declared.collection.Ask.{Ask}
use Rattle.envelope_read.specs.declared.collection.Collection.{Collection}
use Rattle.envelope_read.specs.declared.collection.SubAsk.{SubAsk}
use Rattle.envelope_read.specs.declared.outcome.Outcome.{Outcome}
use Rattle.envelope_read.specs.declared.outcome.Outcome.TheVariants.{Plain, Cell}
use Rattle.envelope_write.specs.Words.{error_code, result_code, truth, lock_word, status_word}
use Rattle.envelope_write.specs.Xml.{element}

-- a version, by the texts of its number and moment and by its user
abbrev pub version_element : List ℕ → List ℕ → List ℕ → List ℕ
version_element number moment user = element (codes "Version") ((codes "Number", number) ∷ (codes "Moment", moment) ∷ (codes "User", user) ∷ []) None

-- a version, the first being version 1
unfoldable pub version_text : ℕ → Commit → List ℕ
version_text number commit = version_element (decimal number) (decimal commit.moment) (encode_utf8_all commit.user)

unfoldable pub versions_text : ℕ → List Commit → List ℕ
versions_text number [] = []
versions_text number (commit ∷ commits) = version_text number commit ++ versions_text (number + 1) commits

-- a SubResponseData that holds this, and one that says all by its attributes
abbrev pub data_holding : List ℕ → Option (List ℕ)
data_holding content = Some (element (codes "SubResponseData") [] (Some content))

abbrev pub data_saying : List (List ℕ × List ℕ) → Option (List ℕ)
data_saying attributes = Some (element (codes "SubResponseData") attributes None)

abbrev pub locked_attributes : Guid → LockKind → Coauthors → List (List ℕ × List ℕ)
locked_attributes guid kind status =
    (codes "LockType", lock_word kind) ∷ (codes "CoauthStatus", status_word status)
    ∷ (codes "TransitionID", encode_utf8_all (text_of_guid guid)) ∷ []

abbrev pub user_attributes : List ℕ → List (List ℕ × List ℕ)
user_attributes user = (codes "UserName", encode_utf8_all user) ∷ (codes "UserLogin", encode_utf8_all user) ∷ []

-- the data of a call that was answered, where it has any
unfoldable pub answered_text : Reply → Option (List ℕ)
answered_text (Locked guid kind status) = data_saying (locked_attributes guid kind status)
answered_text (VersionList commits) = data_holding (element (codes "Versions") [] (Some (versions_text 1 commits)))
answered_text (Lone alone) = data_saying ((codes "AmIAlone", truth alone) ∷ [])
answered_text (Me user) = data_saying (user_attributes user)
answered_text reply = None

-- the data of an answer, where it has any
unfoldable pub data_text : Outcome → Option (List ℕ)
data_text (Plain (Answered reply)) = answered_text reply
data_text (Cell bytes word) = data_holding (encode_of standard bytes)
data_text outcome = None

abbrev pub sub_attributes : List ℕ → List ℕ → List (List ℕ × List ℕ)
sub_attributes token word =
    (codes "SubRequestToken", encode_utf8_all token) ∷ (codes "ErrorCode", word) ∷ (codes "HResult", result_code word) ∷ []

-- what is said of a subrequest, by its token
unfoldable pub sub_text : SubAsk → Outcome → List ℕ
sub_text sub outcome = element (codes "SubResponse") (sub_attributes sub.token (error_code outcome)) (data_text outcome)

-- One answer for each subrequest, in order.
unfoldable pub subs_text : List SubAsk → List Outcome → List ℕ
subs_text [] outcomes = []
subs_text (sub ∷ subs) [] = []
subs_text (sub ∷ subs) (outcome ∷ outcomes) = sub_text sub outcome ++ subs_text subs outcomes

abbrev pub response_attributes : List ℕ → List ℕ → List (List ℕ × List ℕ)
response_attributes url token =
    (codes "Url", encode_utf8_all url) ∷ (codes "RequestToken", encode_utf8_all token) ∷ (codes "HealthScore", codes "0") ∷ []

unfoldable pub response_text : Ask → List Outcome → List ℕ
response_text ask outcomes = element (codes "Response") (response_attributes ask.url ask.token) (Some (subs_text ask.subs outcomes))

-- Each Request takes as many answers as it has subrequests.
unfoldable pub responses_text : List Ask → List Outcome → List ℕ
responses_text [] outcomes = []
responses_text (ask ∷ asks) outcomes = response_text ask (take (length ask.subs) outcomes) ++ responses_text asks (drop (length ask.subs) outcomes)

abbrev pub declaration : List ℕ
declaration = codes "<?xml version=\"1.0\" encoding=\"utf-8\"?>"

-- the names of what SOAP and SharePoint define
abbrev pub soap : List ℕ
soap = codes "http://schemas.xmlsoap.org/soap/envelope/"

abbrev pub sharepoint : List ℕ
sharepoint = codes "http://schemas.microsoft.com/sharepoint/soap/"

abbrev pub response_version : List ℕ
response_version = element (codes "ResponseVersion") ((codes "Version", codes "2") ∷ (codes "MinorVersion", codes "2") ∷ (codes "xmlns", sharepoint) ∷ []) None

abbrev pub response_collection : List ℕ → List ℕ
response_collection responses = element (codes "ResponseCollection") ((codes "WebUrl", codes "/") ∷ (codes "xmlns", sharepoint) ∷ []) (Some responses)

-- an envelope that holds these Responses
unfoldable pub envelope_holding : List ℕ → List ℕ
envelope_holding responses = declaration
    ++ element (codes "s:Envelope") ((codes "xmlns:s", soap) ∷ []) (Some (element (codes "s:Body") [] (Some (response_version ++ response_collection responses))))

unfoldable pub envelope_text : Collection → List Outcome → List ℕ
envelope_text collection outcomes = envelope_holding (responses_text collection.requests outcomes)
