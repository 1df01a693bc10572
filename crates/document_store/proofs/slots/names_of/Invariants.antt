use Rattle.std.proofs.Common.{map, take, encode_utf8_all}
use Rattle.document_store.specs.Names.{AreAscending}
use Rattle.document_store.specs.Shelves.{ArePublished}
use Rattle.document_store.specs.MemStores.{shelf_of}
use Rattle.document_store.proofs.slots.names_of.Given as goal

abbrev pub invariant-loop-slot : goal.invariant-loop-slot
invariant-loop-slot l = record {
  ascending : AreAscending (map encode_utf8_all l.names.items);
  all : ArePublished (shelf_of (take l.slot-index l.slots)) (map encode_utf8_all l.names.items);
}
