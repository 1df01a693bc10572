-- The document that a plain core is, and the one that it becomes by a change.
use Rattle.std.specs.Prelude.{ℕ, ◌+◌, nat_le, nat_lt, Bool, true, ◌&&◌, if◌then◌else◌, List, [], ◌∷◌, ◌++◌, Option, Some, None, vec_len, vec_capacity}
use Rattle.doc_model.specs.declared.doc.Commit.{Commit}
use Rattle.doc_model.specs.declared.doc.Doc.{Doc}
use Rattle.doc_model.specs.declared.element.Element.{Element}
use Rattle.plain_core.specs.Weighing.{all_few, few_parts}
use Rattle.plain_core.specs.Wholes.{all_usable, is_whole}
use Rattle.plain_core.specs.declared.plain.PlainCore.{PlainCore}
use Rattle.plain_core.specs.declared.plain.Change.{Change}
use Rattle.plain_core.specs.declared.plain.Change.TheVariants as change

abbrev pub doc_of : PlainCore → Doc
doc_of s = record {
  guid = s.guid;
  added = s.added.items;
  commits = s.commits.items;
  lock = s.lock;
  editors = s.editors;
  parts = s.parts;
  drawn = s.drawn;
}

-- these elements and this version may join those of a document
abbrev pub may_join : Doc → List Element → Commit → Bool
may_join doc fresh commit = all_few fresh && all_usable doc.guid doc.drawn fresh && is_whole (doc.added ++ fresh) commit.index

abbrev pub joined : Doc → List Element → Commit → Doc
joined doc fresh commit = record doc { added = doc.added ++ fresh; commits = doc.commits ++ commit ∷ [] }

-- what a document becomes by a change, where it can be kept
abbrev pub leads_to : Doc → Change → Option Doc
leads_to doc change.Nothing = Some doc
leads_to doc (change.Draw drawn) = if nat_le doc.drawn drawn then Some (record doc { drawn = drawn }) else None
leads_to doc (change.Lock lock) = Some (record doc { lock = lock })
leads_to doc (change.Edit editors) = Some (record doc { editors = editors })
leads_to doc (change.Keep parts) = if few_parts parts then Some (record doc { parts = parts }) else None
leads_to doc (change.Commit fresh commit parts) =
    if may_join doc fresh.items commit && few_parts parts then Some (record (joined doc fresh.items commit) { parts = parts }) else None
leads_to doc (change.Restore fresh commit drawn) =
    let then_drawn = record doc { drawn = drawn } in
    if nat_le doc.drawn drawn && may_join then_drawn fresh.items commit then Some (joined then_drawn fresh.items commit) else None

-- so many elements more, and a version, take no memory
abbrev pub has_places : PlainCore → ℕ → Bool
has_places s n = nat_le (vec_len s.added + n) (vec_capacity s.added) && nat_lt (vec_len s.commits) (vec_capacity s.commits)

-- what the change adds takes no memory
abbrev pub has_room : PlainCore → Change → Bool
has_room s (change.Commit fresh commit parts) = has_places s (vec_len fresh)
has_room s (change.Restore fresh commit drawn) = has_places s (vec_len fresh)
has_room s _ = true

abbrev pub planned_of : PlainCore → Change → Option Doc
planned_of s change = if has_room s change then leads_to (doc_of s) change else None
