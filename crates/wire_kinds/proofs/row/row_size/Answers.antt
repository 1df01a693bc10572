use Rattle.std.proofs.Common.{false, refl}
use Rattle.wire_kinds.proofs.Sizes.{sized}
use Rattle.wire_kinds.specs.Row.{row_bytes}
use Rattle.wire_kinds.proofs.row.row_size.Goals as goal

pub returns : goal.returns
unfolding row_bytes
returns g c =
    sized c.args.number false (g.R.Encode.kind.bytes c.args.value.now) c.args.number c.size-fields.result c.start_size.result c.saturating_add.result refl c.size-fields.ensures c.start_size.ensures
    c.saturating_add.ensures
