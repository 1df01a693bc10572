-- The whole answer is well-formed.
use Rattle.std.proofs.Common.{ℕ, suc, inr, List, [], ◌∷◌, ◌++◌, Some, refl, lit≤}
use Rattle.std.specs.Prelude.{codes}
use Rattle.std.specs.List.{AllByRecursion}
use Rattle.std.proofs.lemmas.Str.{IsUtf8-append}
use Rattle.envelope_grammar.specs.Front.{Declaration, behind_first}
use Rattle.envelope_read.specs.declared.collection.Collection.{Collection}
use Rattle.envelope_read.specs.declared.outcome.Outcome.{Outcome}
use Rattle.envelope_write.specs.AnswerText.{responses_text, envelope_holding, envelope_text, declaration, soap, sharepoint, response_version, response_collection}
use Rattle.envelope_write.specs.WellFormed.{HasTexts, AreTexts, IsWellFormed}
use Rattle.envelope_write.specs.Xml.{element}
use Rattle.envelope_write.proofs.AnswerForms.{responses_content}
use Rattle.envelope_write.proofs.Elements.{local_name, prefixed_name, IsContent, IsChild, more_content, one_child, closed_element, open_element}
use Rattle.envelope_write.proofs.Values.{ascii_utf8}

version_child : (levels : ℕ) → IsChild (suc levels) response_version
version_child levels = closed_element levels (codes "ResponseVersion") _
    (local_name (codes "ResponseVersion") refl refl (lit≤ tt) refl) (
      (local_name (codes "Version") refl refl (lit≤ tt) refl, ascii_utf8 (codes "2") refl),
      (
        (local_name (codes "MinorVersion") refl refl (lit≤ tt) refl, ascii_utf8 (codes "2") refl),
        ((local_name (codes "xmlns") refl refl (lit≤ tt) refl, ascii_utf8 sharepoint refl), tt),
      ),
    )

collection_child : (levels : ℕ) (responses : List ℕ) → IsContent levels responses → IsChild (suc levels) (response_collection responses)
collection_child levels responses content = open_element levels (codes "ResponseCollection") _ responses
    (local_name (codes "ResponseCollection") refl refl (lit≤ tt) refl) (
      (local_name (codes "WebUrl") refl refl (lit≤ tt) refl, ascii_utf8 (codes "/") refl),
      ((local_name (codes "xmlns") refl refl (lit≤ tt) refl, ascii_utf8 sharepoint refl), tt),
    ) content

abbrev in_soap : List ℕ → List ℕ
in_soap content = element (codes "s:Envelope") ((codes "xmlns:s", soap) ∷ []) (Some (element (codes "s:Body") [] (Some content)))

soap_child : (levels : ℕ) (content : List ℕ) → IsContent levels content → IsChild (suc (suc levels)) (in_soap content)
soap_child levels content inside =
    let body : IsChild (suc levels) (element (codes "s:Body") [] (Some content))
    = open_element levels (codes "s:Body") [] content (prefixed_name (codes "s") (codes "Body") (record { start = refl; rest = refl; short = lit≤ tt }) (record { start = refl; rest = refl; short = lit≤ tt }) refl) tt inside in
    open_element (suc levels) (codes "s:Envelope") ((codes "xmlns:s", soap) ∷ []) (element (codes "s:Body") [] (Some content))
    (prefixed_name (codes "s") (codes "Envelope") (record { start = refl; rest = refl; short = lit≤ tt }) (record { start = refl; rest = refl; short = lit≤ tt }) refl)
    ((prefixed_name (codes "xmlns") (codes "s") (record { start = refl; rest = refl; short = lit≤ tt }) (record { start = refl; rest = refl; short = lit≤ tt }) refl, ascii_utf8 soap refl), tt)
    (one_child (suc levels) (element (codes "s:Body") [] (Some content)) body)

declared : Declaration declaration
unfolding behind_first
declared = inr (record {
  front = codes "<?xml";
  back = codes " version=\"1.0\" encoding=\"utf-8\"?>";
  first = refl;
  second = record {
    front = codes " version=\"1.0\" encoding=\"utf-8\"";
    back = codes "?>";
    first = record { white = refl; without_end = refl; encoding = refl };
    second = refl;
    bytes_are = refl;
  };
  bytes_are = refl;
})

holding : (responses : List ℕ) → IsContent 13 responses → IsWellFormed (envelope_holding responses)
unfolding envelope_holding
holding responses content =
    let all : IsContent 14 (response_version ++ response_collection responses)
    = more_content 14 response_version (response_collection responses) (version_child 13) (one_child 14 (response_collection responses) (collection_child 13 responses content)) in
    let whole = soap_child 14 (response_version ++ response_collection responses) all in
    record {
      utf8 = IsUtf8-append declaration (in_soap (response_version ++ response_collection responses)) (ascii_utf8 declaration refl) whole.utf8;
      spelled = record {
        front = declaration;
        back = in_soap (response_version ++ response_collection responses);
        first = declared;
        second = whole.element;
        bytes_are = refl;
      };
    }

pub answers_are_well_formed : (collection : Collection) (outcomes : List Outcome) → AreTexts collection.requests → AllByRecursion HasTexts outcomes
    → IsWellFormed (envelope_text collection outcomes)
unfolding envelope_text
answers_are_well_formed collection outcomes asked texts =
    holding (responses_text collection.requests outcomes) (responses_content 8 collection.requests outcomes asked texts)
