use Rattle.std.proofs.Common.{map, encode_utf8_all}
use Rattle.document_store.specs.Names.{AreAscending}
use Rattle.document_store.proofs.folder.Folder.names.Given as goal

abbrev pub invariant-loop-entry : goal.invariant-loop-entry
invariant-loop-entry l =
    (goal.iterator-loop-entry).can_next l.entry-iterator × (goal.iterator-loop-entry).is_finite l.entry-iterator × AreAscending (map encode_utf8_all l.names.items)
