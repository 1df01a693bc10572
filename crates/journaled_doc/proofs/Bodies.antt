-- The body of a change is neither empty nor too long.
use Rattle.std.proofs.Common.{◌≡◌, ◌≤◌, true, length, refl, arith}
use Rattle.cell_journal.specs.Layout.{IsBody}
use Rattle.doc_model.specs.rules.Histories.{can_move}
use Rattle.doc_model.specs.declared.call.Call.{Call}
use Rattle.doc_model.specs.rules.Sound.{Valid}
use Rattle.change_record.specs.Changes.{change_bytes, IsShort}
use Rattle.change_record.specs.Kinds.{tag}
use Rattle.change_record.specs.FittingCalls.{FitsCall}
use Rattle.journaled_doc.specs.Eras.{IsKeepable}

some_bytes : (call : Call) → 1 ≤ length (change_bytes call)
unfolding change_bytes tag
some_bytes call = omega arith

pub keepable : (call : Call) → can_move call.sub ≡ true → Valid call → IsShort call → FitsCall call → IsKeepable call
keepable call kind valid short fits = record { fits = fits; change = record { kind = kind; valid = valid; bytes_are = refl; short = short kind } }

pub body_fits : (call : Call) → can_move call.sub ≡ true → IsShort call → IsBody (change_bytes call)
body_fits call kind short = record { some = some_bytes call; most = short kind }
