-- Each part of an answer is well-formed, with as many levels as it has.
use Rattle.std.proofs.Common.{ℕ, zero, suc, ◌+◌, List, [], ◌∷◌, length, take, drop, Option, Some, None, refl, lit≤}
use Rattle.std.specs.Prelude.{codes, encode_utf8_all}
use Rattle.std.specs.List.{AllByRecursion}
use Rattle.std.specs.Str.{IsUtf8, chars}
use Rattle.base64.specs.Engines.{standard}
use Rattle.base64.specs.GeneralPurpose.{encode_of}
use Rattle.doc_model.specs.declared.doc.Commit.{Commit}
use Rattle.doc_model.specs.declared.reply.Reply.{Reply}
use Rattle.doc_model.specs.declared.reply.Reply.TheVariants.{Locked, VersionList, Lone, Me}
use Rattle.doc_model.specs.declared.reply.Submitted.TheVariants.{Answered}
use Rattle.envelope_read.specs.declared.collection.Ask.{Ask}
use Rattle.envelope_read.specs.declared.collection.SubAsk.{SubAsk}
use Rattle.envelope_read.specs.declared.outcome.Outcome.{Outcome}
use Rattle.envelope_read.specs.declared.outcome.Outcome.TheVariants.{Plain, Cell}
use Rattle.envelope_write.specs.AnswerText.{version_text, versions_text, answered_text, data_text, sub_text, subs_text, response_text, responses_text}
use Rattle.envelope_write.specs.WellFormed.{IsText, HasReplyTexts, HasTexts, AreTexts}
use Rattle.envelope_write.specs.Words.{error_code}
use Rattle.envelope_write.specs.Xml.{element}
use Rattle.envelope_write.proofs.Elements.{IsName, local_name, AreFine, IsContent, IsChild, no_content, more_content, one_child, text_content, closed_element, open_element}
use Rattle.envelope_write.proofs.Plain.{decimal_utf8, guid_utf8, error_utf8, result_utf8, truth_utf8, lock_utf8, status_utf8, base64_utf8, base64_own}
use Rattle.envelope_write.proofs.Values.{ascii_utf8}

text_utf8 : (text : List ℕ) → IsText text → IsUtf8 (encode_utf8_all text)
text_utf8 text h = (text, (h, refl))

-- ---- data

version_child : (levels number : ℕ) (commit : Commit) → IsText commit.user → IsChild (suc levels) (version_text number commit)
unfolding version_text
version_child levels number commit user = closed_element levels (codes "Version") _
    (local_name (codes "Version") refl refl (lit≤ tt) refl) (
      (local_name (codes "Number") refl refl (lit≤ tt) refl, decimal_utf8 number),
      (
        (local_name (codes "Moment") refl refl (lit≤ tt) refl, decimal_utf8 commit.moment),
        ((local_name (codes "User") refl refl (lit≤ tt) refl, text_utf8 commit.user user), tt),
      ),
    )

versions_content : (levels number : ℕ) (commits : List Commit) → AllByRecursion (λ commit. IsText commit.user) commits → IsContent (suc levels) (versions_text number commits)
unfolding versions_text
versions_content levels number [] users = no_content (suc levels)
versions_content levels number (commit ∷ commits) users =
    more_content (suc levels) (version_text number commit) (versions_text (number + 1) commits)
    (version_child levels number commit users.0) (versions_content levels (number + 1) commits users.1)

-- what follows a start tag
abbrev IsRest : ℕ → Option (List ℕ) → Type 0
IsRest levels None = Unit {0}
IsRest levels (Some content) = IsContent levels content

element_child : (levels : ℕ) (name : List ℕ) (attributes : List (List ℕ × List ℕ)) (content : Option (List ℕ)) → IsName name → AreFine attributes → IsRest levels content
    → IsChild (suc levels) (element name attributes content)
element_child levels name attributes None n fine rest = closed_element levels name attributes n fine
element_child levels name attributes (Some content) n fine rest = open_element levels name attributes content n fine rest

data_name : IsName (codes "SubResponseData")
data_name = local_name (codes "SubResponseData") refl refl (lit≤ tt) refl

-- a SubResponseData in a SubResponse
data_rest : (levels : ℕ) (attributes : List (List ℕ × List ℕ)) (content : Option (List ℕ)) → AreFine attributes → IsRest levels content
    → IsRest (suc levels) (Some (element (codes "SubResponseData") attributes content))
data_rest levels attributes content fine rest =
    one_child (suc levels) (element (codes "SubResponseData") attributes content) (element_child levels (codes "SubResponseData") attributes content data_name fine rest)

versions_rest : (levels : ℕ) (commits : List Commit) → AllByRecursion (λ commit. IsText commit.user) commits
    → IsRest (suc (suc levels)) (Some (element (codes "Versions") [] (Some (versions_text 1 commits))))
versions_rest levels commits users =
    one_child (suc (suc levels)) (element (codes "Versions") [] (Some (versions_text 1 commits)))
    (open_element (suc levels) (codes "Versions") [] (versions_text 1 commits) (local_name (codes "Versions") refl refl (lit≤ tt) refl) tt (versions_content levels 1 commits users))

answered_rest : (levels : ℕ) (reply : Reply) → HasReplyTexts reply → IsRest (suc (suc (suc levels))) (answered_text reply)
unfolding answered_text
answered_rest levels (Locked guid kind status) texts = data_rest (suc (suc levels)) _ None (
  (local_name (codes "LockType") refl refl (lit≤ tt) refl, lock_utf8 kind),
  (
    (local_name (codes "CoauthStatus") refl refl (lit≤ tt) refl, status_utf8 status),
    ((local_name (codes "TransitionID") refl refl (lit≤ tt) refl, guid_utf8 guid), tt),
  ),
) tt
answered_rest levels (VersionList commits) texts = data_rest (suc (suc levels)) [] (Some (element (codes "Versions") [] (Some (versions_text 1 commits)))) tt
    (versions_rest levels commits texts)
answered_rest levels (Lone alone) texts = data_rest (suc (suc levels)) _ None
    ((local_name (codes "AmIAlone") refl refl (lit≤ tt) refl, truth_utf8 alone), tt) tt
answered_rest levels (Me user) texts = data_rest (suc (suc levels)) _ None (
  (local_name (codes "UserName") refl refl (lit≤ tt) refl, text_utf8 user texts),
  ((local_name (codes "UserLogin") refl refl (lit≤ tt) refl, text_utf8 user texts), tt),
) tt
answered_rest levels reply texts = tt

outcome_rest : (levels : ℕ) (outcome : Outcome) → HasTexts outcome → IsRest (suc (suc (suc levels))) (data_text outcome)
unfolding data_text
outcome_rest levels (Plain (Answered reply)) texts = answered_rest levels reply texts
outcome_rest levels (Cell bytes word) texts = data_rest (suc (suc levels)) [] (Some (encode_of standard bytes)) tt
    (text_content (suc (suc levels)) (chars (encode_of standard bytes)) (encode_of standard bytes) (base64_own bytes) (base64_utf8 bytes))
outcome_rest levels outcome texts = tt

-- ---- SubResponses and Responses

sub_child : (levels : ℕ) (sub : SubAsk) (outcome : Outcome) → IsText sub.token → HasTexts outcome → IsChild (suc (suc (suc (suc levels)))) (sub_text sub outcome)
unfolding sub_text
sub_child levels sub outcome token texts = element_child (suc (suc (suc levels))) (codes "SubResponse") _ (data_text outcome)
    (local_name (codes "SubResponse") refl refl (lit≤ tt) refl) (
      (local_name (codes "SubRequestToken") refl refl (lit≤ tt) refl, text_utf8 sub.token token),
      (
        (local_name (codes "ErrorCode") refl refl (lit≤ tt) refl, error_utf8 outcome),
        ((local_name (codes "HResult") refl refl (lit≤ tt) refl, result_utf8 (error_code outcome)), tt),
      ),
    )
    (outcome_rest levels outcome texts)

subs_content : (levels : ℕ) (subs : List SubAsk) (outcomes : List Outcome) → AllByRecursion (λ sub. IsText sub.token) subs → AllByRecursion HasTexts outcomes
    → IsContent (suc (suc (suc (suc levels)))) (subs_text subs outcomes)
unfolding subs_text
subs_content levels [] outcomes tokens texts = no_content (suc (suc (suc (suc levels))))
subs_content levels (sub ∷ subs) [] tokens texts = no_content (suc (suc (suc (suc levels))))
subs_content levels (sub ∷ subs) (outcome ∷ outcomes) tokens texts =
    more_content (suc (suc (suc (suc levels)))) (sub_text sub outcome) (subs_text subs outcomes)
    (sub_child levels sub outcome tokens.0 texts.0) (subs_content levels subs outcomes tokens.1 texts.1)

response_child : (levels : ℕ) (ask : Ask) (outcomes : List Outcome) → IsText ask.url → IsText ask.token → AllByRecursion (λ sub. IsText sub.token) ask.subs
    → AllByRecursion HasTexts outcomes → IsChild (suc (suc (suc (suc (suc levels))))) (response_text ask outcomes)
unfolding response_text
response_child levels ask outcomes url token tokens texts = open_element (suc (suc (suc (suc levels)))) (codes "Response") _ (subs_text ask.subs outcomes)
    (local_name (codes "Response") refl refl (lit≤ tt) refl) (
      (local_name (codes "Url") refl refl (lit≤ tt) refl, text_utf8 ask.url url),
      (
        (local_name (codes "RequestToken") refl refl (lit≤ tt) refl, text_utf8 ask.token token),
        ((local_name (codes "HealthScore") refl refl (lit≤ tt) refl, ascii_utf8 (codes "0") refl), tt),
      ),
    )
    (subs_content levels ask.subs outcomes tokens texts)

first_texts : (n : ℕ) (outcomes : List Outcome) → AllByRecursion HasTexts outcomes → AllByRecursion HasTexts (take n outcomes)
first_texts zero outcomes texts = tt
first_texts (suc n) [] texts = tt
first_texts (suc n) (outcome ∷ outcomes) texts = (texts.0, first_texts n outcomes texts.1)

later_texts : (n : ℕ) (outcomes : List Outcome) → AllByRecursion HasTexts outcomes → AllByRecursion HasTexts (drop n outcomes)
later_texts zero outcomes texts = texts
later_texts (suc n) [] texts = tt
later_texts (suc n) (outcome ∷ outcomes) texts = later_texts n outcomes texts.1

pub responses_content : (levels : ℕ) (asks : List Ask) (outcomes : List Outcome) → AreTexts asks → AllByRecursion HasTexts outcomes
    → IsContent (suc (suc (suc (suc (suc levels))))) (responses_text asks outcomes)
unfolding responses_text
responses_content levels [] outcomes asked texts = no_content (suc (suc (suc (suc (suc levels)))))
responses_content levels (ask ∷ asks) outcomes asked texts =
    more_content (suc (suc (suc (suc (suc levels))))) (response_text ask (take (length ask.subs) outcomes)) (responses_text asks (drop (length ask.subs) outcomes))
    (response_child levels ask (take (length ask.subs) outcomes) asked.0.0 asked.0.1 asked.0.2 (first_texts (length ask.subs) outcomes texts))
    (responses_content levels asks (drop (length ask.subs) outcomes) asked.1 (later_texts (length ask.subs) outcomes texts))
