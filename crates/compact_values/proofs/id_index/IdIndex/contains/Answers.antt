use Rattle.std.proofs.Common.{◌∙◌, ap, is_some}
use Rattle.compact_values.proofs.IdPlacing.{place-among}
use Rattle.compact_values.proofs.id_index.IdIndex.contains.Goals as goal

pub returns : goal.returns
returns c = c.is_some.ensures ∙ ap is_some c.place.ensures ∙ place-among c.args.self.now c.args.id
