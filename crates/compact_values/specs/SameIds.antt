-- Tests whether two GUIDs, or two of what is named by them, are equal.
use Rattle.std.specs.Prelude.{Bool, true, false, ◌&&◌, ◌==◌}
use Rattle.compact_values.specs.declared.guid.Guid.{Guid}
use Rattle.compact_values.specs.declared.ids.ExGuid.{ExGuid}
use Rattle.compact_values.specs.declared.ids.ExGuid.TheVariants.{Null, Id}
use Rattle.compact_values.specs.declared.ids.Serial.{Serial}
use Rattle.compact_values.specs.declared.ids.Serial.TheVariants as serials
use Rattle.compact_values.specs.declared.ids.CellId.{CellId}

abbrev pub same_guid : Guid → Guid → Bool
same_guid a b = a.number == b.number

abbrev pub same_id : ExGuid → ExGuid → Bool
same_id Null Null = true
same_id (Id g v) (Id h w) = same_guid g h && (v == w)
same_id _ _ = false

abbrev pub same_serial : Serial → Serial → Bool
same_serial serials.Null serials.Null = true
same_serial (serials.Number g v) (serials.Number h w) = same_guid g h && (v == w)
same_serial _ _ = false

abbrev pub same_cell : CellId → CellId → Bool
same_cell a b = same_id a.first b.first && same_id a.second b.second
