use Rattle.document_store.proofs.Ascending.{place_of-none}
use Rattle.document_store.proofs.name_list.place_of.Goals as goal

pub returns-in-None : goal.returns-in-None
returns-in-None c = place_of-none c.args.name.now c.args.names.now c.first_from.result c.in-None.is c.first_from.ensures
