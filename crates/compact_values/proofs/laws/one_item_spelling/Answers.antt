use Rattle.compact_values.specs.Items.{SpellsItem}
use Rattle.compact_values.specs.ItemReading.{item_at}
use Rattle.compact_values.proofs.laws.one_item_spelling.Goals as goal
use Rattle.compact_values.proofs.Codes.{one_spelling}
use Rattle.compact_values.proofs.ItemCode.{item_code}

pub returns : goal.returns
returns c = one_spelling SpellsItem item_at item_code
