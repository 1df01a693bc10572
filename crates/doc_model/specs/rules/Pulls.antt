-- What a client knows, and what a pull answers.
use Rattle.std.specs.Prelude.{ℕ, ◌+◌, ◌-◌, ◌==◌, nat_le, Bool, not, ◌&&◌, ◌||◌, if◌then◌else◌, List, [], ◌∷◌, length, map, filter, option_map, unwrap_or, slice_get}
use Rattle.std.specs.List.{list_any}
use Rattle.compact_values.specs.declared.guid.Guid.{Guid}
use Rattle.compact_values.specs.declared.ids.ExGuid.{ExGuid}
use Rattle.compact_values.specs.declared.ids.ExGuid.TheVariants.{Null}
use Rattle.compact_values.specs.SameIds.{same_guid}
use Rattle.doc_model.specs.declared.knowledge.Range.{Range}
use Rattle.doc_model.specs.declared.element.Element.{Element}
use Rattle.doc_model.specs.declared.element.NumberedElement.{NumberedElement}
use Rattle.doc_model.specs.declared.doc.Commit.{Commit}
use Rattle.doc_model.specs.declared.doc.Doc.{Doc}
use Rattle.doc_model.specs.declared.reply.Reply.{Reply}
use Rattle.doc_model.specs.declared.reply.Reply.TheVariants.{Pulled}
use Rattle.doc_model.specs.rules.Finding.{numbered_from}
use Rattle.doc_model.specs.rules.Reached.{names, is_among}

-- whether a serial lies in a range that has the document's GUID
abbrev pub knows : Guid → List Range → ℕ → Bool
knows guid ranges k = list_any (λ r. same_guid r.guid guid && nat_le r.from k && nat_le k r.to) ranges

-- rising serials as maximal ranges, after those from one to another
abbrev pub range : Guid → ℕ → ℕ → Range
range guid from to = record { guid = guid; from = from; to = to }

abbrev pub ranges_after : Guid → ℕ → ℕ → List ℕ → List Range
ranges_after guid from to [] = range guid from to ∷ []
ranges_after guid from to (k ∷ ks) = if to + 1 == k then ranges_after guid from k ks else range guid from to ∷ ranges_after guid k k ks

abbrev pub ranges_of : Guid → List ℕ → List Range
ranges_of guid [] = []
ranges_of guid (k ∷ ks) = ranges_after guid k k ks

-- the index of the last commit, or null
abbrev pub stored_index : List Commit → ExGuid
stored_index commits = unwrap_or (option_map (λ c. c.index) (slice_get commits (length commits - 1))) Null

-- the ids that are named from the stored index; without a commit none
abbrev pub named_ids : List Element → List Commit → List ExGuid
named_ids added commits = if length commits == 0 then [] else map (λ n. n.id) (names added (stored_index commits))

-- of the stored elements those that a client lacks, and the serials that it knows then
abbrev pub is_lacking : Guid → List Range → List ExGuid → NumberedElement → Bool
is_lacking guid known ids e = is_among ids e.element.id && not (knows guid known e.serial)

abbrev pub is_known_then : Guid → List Range → List ExGuid → NumberedElement → Bool
is_known_then guid known ids e = knows guid known e.serial || is_among ids e.element.id

abbrev pub lacking : Guid → List Range → List ExGuid → List Element → List NumberedElement
lacking guid known ids added = filter (is_lacking guid known ids) (numbered_from 1 added)

abbrev pub known_then : Guid → List Range → List ExGuid → List Element → List ℕ
known_then guid known ids added = map (λ e. e.serial) (filter (is_known_then guid known ids) (numbered_from 1 added))

abbrev pub pulled : Guid → List Element → List Commit → List Range → Reply
pulled guid added commits known =
    let ids = named_ids added commits in
    Pulled guid (stored_index commits) (lacking guid known ids added) (record { ranges = ranges_of guid (known_then guid known ids added) })

abbrev pub pull : Doc → List Range → Reply
pull doc known = pulled doc.guid doc.added doc.commits known
