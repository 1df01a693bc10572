-- What a put does.
use Rattle.std.specs.Prelude.{ℕ, ◌+◌, ◌==◌, nat_lt, Bool, true, false, not, ◌&&◌, ◌||◌, if◌then◌else◌, List, [], ◌∷◌, ◌++◌, length, map, filter, find, sum_by, Option, None, Some, is_some, is_none, option_map, unwrap_or}
use Rattle.std.specs.List.{list_any}
use Rattle.compact_values.specs.declared.guid.Guid.{Guid}
use Rattle.compact_values.specs.declared.ids.ExGuid.{ExGuid}
use Rattle.compact_values.specs.declared.ids.ExGuid.TheVariants.{Null, Id}
use Rattle.compact_values.specs.SameIds.{same_guid, same_id}
use Rattle.doc_model.specs.declared.call.Put.{Put}
use Rattle.doc_model.specs.declared.doc.Doc.{Doc}
use Rattle.doc_model.specs.declared.doc.Part.{Part}
use Rattle.doc_model.specs.declared.doc.Commit.{Commit}
use Rattle.doc_model.specs.declared.element.Element.{Element}
use Rattle.doc_model.specs.declared.element.NumberedElement.{NumberedElement}
use Rattle.doc_model.specs.declared.reply.Reply.TheVariants.{Stored}
use Rattle.doc_model.specs.declared.reply.Code.{Code}
use Rattle.doc_model.specs.declared.reply.Code.TheVariants as code
use Rattle.doc_model.specs.rules.Finding.{find_element, as_index, said, firsts, numbered_from}
use Rattle.doc_model.specs.rules.Reached.{absent, chains_end, reached_from}
use Rattle.doc_model.specs.rules.Files.{file}
use Rattle.doc_model.specs.rules.Pulls.{ranges_of, stored_index}
use Rattle.doc_model.specs.rules.Limits.{day, most_added, most_added_weight, most_file, most_parts, most_parts_weight, most_reached_weight}
use Rattle.doc_model.specs.rules.Locks.{live, allowed}
use Rattle.doc_model.specs.rules.Sound.{part_weight}
use Rattle.doc_model.specs.rules.Contents.{same_body}
use Rattle.doc_model.specs.rules.Effects.{Effect, first_refusal, unless}
use Rattle.doc_model.specs.rules.Weights.{weight_of}

-- the elements that are kept for a put, and those that it speaks of: the pending ones, then the package
abbrev pub find_part : List Part → ExGuid → Option Part
find_part parts index = find (λ p. same_id p.index index) parts

abbrev pub pending : List Part → ExGuid → List Element
pending parts index = unwrap_or (option_map (λ p. p.elements) (find_part parts index)) []

abbrev pub sent : List Part → Put → List Element
sent parts p = pending parts p.index ++ p.elements

-- what is new of them: each id once, and without those that were added
abbrev pub same_ids : Element → Element → Bool
same_ids a b = same_id a.id b.id

abbrev pub is_new : List Element → Element → Bool
is_new added e = not (list_any (same_ids e) added)

abbrev pub fresh : List Element → List Element → List Element
fresh added es = filter (is_new added) (firsts same_ids es)

-- what a document has with them
abbrev pub grown : List Element → List Element → List Element
grown added es = added ++ fresh added es

-- the uploads of other puts that are not a day old
abbrev pub is_kept : ℕ → ExGuid → Part → Bool
is_kept moment index p = not (same_id p.index index) && nat_lt moment (p.moment + day)

abbrev pub other_parts : List Part → ℕ → ExGuid → List Part
other_parts parts moment index = filter (is_kept moment index) parts

-- an id that nobody may use: null, or of this document's own numbers one that was not drawn
abbrev pub is_foreign : Guid → ℕ → ExGuid → Bool
is_foreign guid drawn Null = true
is_foreign guid drawn (Id g v) = same_guid g guid && nat_lt drawn v

-- an element that says something else than the one with its id
abbrev pub differs : Option Element → Element → Bool
differs None e = false
differs (Some known) e = not (same_body known.body e.body)

-- An element whose id nobody may use, or which says something else than the element with its id that the document then has:
-- of those that have one id, all must say the same.
abbrev pub is_invalid : Guid → ℕ → List Element → Element → Bool
is_invalid guid drawn all e = is_foreign guid drawn e.id || differs (find_element all e.id) e

abbrev pub has_invalid : Guid → ℕ → List Element → List Element → Bool
has_invalid guid drawn added es = list_any (is_invalid guid drawn (grown added es)) es

abbrev pub too_many_parts : List Part → List Element → Bool
too_many_parts others es = nat_lt most_parts (length others + 1) || nat_lt most_parts_weight (sum_by part_weight others + weight_of es)

abbrev pub too_much_added : List Element → Bool
too_much_added added = nat_lt most_added (length added) || nat_lt most_added_weight (weight_of added)

-- the index that a put expects is the stored one
abbrev pub is_expected : List Commit → Put → Bool
is_expected commits p =
    p.last_writer_wins || same_id p.expected (stored_index commits) || (p.imply_null && length commits == 0)

abbrev pub is_committed : List Commit → ExGuid → Bool
is_committed commits index = list_any (λ c. same_id c.index index) commits

-- whether each chain of bases of the index ends
abbrev pub has_chains : List Element → ExGuid → Bool
has_chains added index = unwrap_or (option_map (chains_end added) (said as_index added index)) false

abbrev pub too_large : List Element → ExGuid → Bool
too_large added index =
    nat_lt most_file (length (unwrap_or (file added index) [])) || nat_lt most_reached_weight (weight_of (reached_from added index))

-- a put that is one part of several and not the last
abbrev pub is_part : Put → Bool
is_part p = p.partial && not p.last

-- why a part is refused, and why a commit is, in order
abbrev pub part_reasons : Doc → ℕ → Put → List Element → List (Bool × Code)
part_reasons doc moment p es =
    (not (allowed (live doc.lock moment) p.carried), code.AlreadyLocked)
    ∷ (has_invalid doc.guid doc.drawn doc.added es, code.InvalidObject)
    ∷ (too_many_parts (other_parts doc.parts moment p.index) es, code.StorageLimit) ∷ []

abbrev pub commit_reasons : Doc → ℕ → Put → List Element → List Element → List (Bool × Code)
commit_reasons doc moment p es added =
    (not (allowed (live doc.lock moment) p.carried), code.AlreadyLocked)
    ∷ (has_invalid doc.guid doc.drawn doc.added es, code.InvalidObject)
    ∷ (too_much_added added, code.StorageLimit)
    ∷ (not (is_expected doc.commits p), code.Coherency)
    ∷ (is_committed doc.commits p.index, code.InvalidObject)
    ∷ (is_some (absent added p.index), code.NotFound)
    ∷ (not (has_chains added p.index) || is_none (file added p.index), code.Unserializable)
    ∷ (too_large added p.index, code.StorageLimit) ∷ []

abbrev pub part_refusal : Doc → ℕ → Put → Option Code
part_refusal doc moment p = first_refusal (part_reasons doc moment p (sent doc.parts p))

-- what a put speaks of, and what is added with what is new of it
abbrev pub sent_to : Doc → Put → List Element
sent_to doc p = sent doc.parts p

abbrev pub added_by : Doc → Put → List Element
added_by doc p = grown doc.added (sent_to doc p)

abbrev pub commit_refusal : Doc → ℕ → Put → Option Code
commit_refusal doc moment p = first_refusal (commit_reasons doc moment p (sent_to doc p) (added_by doc p))

abbrev pub kept : Doc → ℕ → Put → Effect
kept doc moment p = record {
  doc = record doc { parts = other_parts doc.parts moment p.index ++ record { index = p.index; elements = sent_to doc p; moment = moment } ∷ [] };
  reply = Stored (record { ranges = [] });
  moved = true;
}

-- the serials of these elements
abbrev pub is_sent : List Element → NumberedElement → Bool
is_sent es n = list_any (same_ids n.element) es

abbrev pub serials_of : List Element → List Element → List ℕ
serials_of added es = map (λ n. n.serial) (filter (is_sent es) (numbered_from 1 added))

abbrev pub committed : Doc → ℕ → List ℕ → Put → Effect
committed doc moment user p = record {
  doc = record doc {
    added = added_by doc p;
    commits = doc.commits ++ record { index = p.index; moment = moment; user = user } ∷ [];
    parts = other_parts doc.parts moment p.index;
  };
  reply = Stored (record { ranges = ranges_of doc.guid (serials_of (added_by doc p) (sent_to doc p)) });
  moved = true;
}

abbrev pub put : Doc → ℕ → List ℕ → Put → Effect
put doc moment user p =
    if is_part p then unless (part_refusal doc moment p) doc (kept doc moment p)
    else unless (commit_refusal doc moment p) doc (committed doc moment user p)
