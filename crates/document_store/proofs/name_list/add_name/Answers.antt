use Rattle.std.proofs.Common.{arith}
use Rattle.document_store.proofs.Ascending.{absent, added_ascends, added_contains, place-bound}
use Rattle.document_store.proofs.name_list.add_name.Goals as goal

pub insert-requires : goal.insert-requires
insert-requires c = omega (arith, c.place_of-at.ensures, c.deref.ensures.len, place-bound c.as_str.result.now c.deref.result.now)

pub returns-clause-ascending : goal.returns-clause-ascending
returns-clause-ascending c =
    added_ascends c.args.names.now.items c.deref.result.now c.insert.new.self.items c.place_of-at.result c.args.name c.as_str.result.now c.deref.ensures.value c.place_of-at.ensures c.as_str.ensures.bytes
    c.in_ok-insert.ensures.items
    (absent c.is_at.result c.args.names.now.items c.deref-2.result.now c.place_of-at.result c.args.name c.as_str-2.result.now c.if-is_at.false c.deref-2.ensures.value c.as_str-2.ensures.bytes c.is_at.ensures.1) c.requires

pub returns-clause-added : goal.returns-clause-added
returns-clause-added c = added_contains c.args.names.now.items c.insert.new.self.items c.place_of-at.result c.args.name c.in_ok-insert.ensures.items
