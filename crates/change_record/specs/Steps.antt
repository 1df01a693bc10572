-- What a change asks, but for an upload, by its bytes.
use Rattle.std.specs.Prelude.{ℕ, List, [], ◌∷◌, ◌==◌, if◌then◌else◌, Option, None, option_map}
use Rattle.compact_values.specs.Taking.{if_all}
use Rattle.wire_kinds.specs.Code.{compact, guid}
use Rattle.doc_model.specs.declared.call.Sub.{Sub}
use Rattle.doc_model.specs.declared.call.Sub.TheVariants as sub
use Rattle.doc_model.specs.declared.editor.EditorStep.{EditorStep}
use Rattle.doc_model.specs.declared.editor.EditorStep.TheVariants.{Join, Leave, Refresh, SetKey, RemoveKey}
use Rattle.doc_model.specs.declared.lock.LockStep.{LockStep}
use Rattle.doc_model.specs.declared.lock.LockStep.TheVariants.{TakeExclusive, DropExclusive, RefreshExclusive, ToShared, TakeShared, DropShared, RefreshShared, ToExclusive}
use Rattle.change_record.specs.Codes.{restored, timed, two, two_timed, two_flagged, three_flagged, keyed, entry}

-- ---- steps of a lock, by their number: those of a shared one, and all

abbrev pub shared_step : ℕ → List ℕ → Option LockStep
shared_step n rest =
    if n == 5 then option_map (λ x. TakeShared x.0 x.1.0 x.1.1.0 x.1.1.1) (if_all (two_flagged.take rest))
    else if n == 6 then option_map (λ x. DropShared x.0 x.1) (if_all (two.take rest))
    else if n == 7 then option_map (λ x. RefreshShared x.0 x.1.0 x.1.1) (if_all (two_timed.take rest))
    else if n == 8 then option_map (λ x. ToExclusive x.0 x.1.0 x.1.1.0 x.1.1.1.0 x.1.1.1.1) (if_all (three_flagged.take rest))
    else None

abbrev pub step_by : ℕ → List ℕ → Option LockStep
step_by n rest =
    if n == 1 then option_map (λ x. TakeExclusive x.0 x.1) (if_all (timed.take rest))
    else if n == 2 then option_map DropExclusive (if_all (guid.take rest))
    else if n == 3 then option_map (λ x. RefreshExclusive x.0 x.1) (if_all (timed.take rest))
    else if n == 4 then option_map (λ x. ToShared x.0 x.1.0 x.1.1.0 x.1.1.1.0 x.1.1.1.1) (if_all (three_flagged.take rest))
    else shared_step n rest

unfoldable pub lock_of : List ℕ → Option LockStep
lock_of [] = None
lock_of (n ∷ rest) = step_by n rest

-- ---- steps of the table of editors, by their number

abbrev pub edit_by : ℕ → List ℕ → Option EditorStep
edit_by n rest =
    if n == 1 then option_map (λ x. Join x.0 x.1) (if_all (timed.take rest))
    else if n == 2 then option_map Leave (if_all (guid.take rest))
    else if n == 3 then option_map (λ x. Refresh x.0 x.1) (if_all (timed.take rest))
    else if n == 4 then option_map (λ x. SetKey x.0 x.1.0 x.1.1) (if_all (entry.take rest))
    else if n == 5 then option_map (λ x. RemoveKey x.0 x.1) (if_all (keyed.take rest))
    else None

unfoldable pub edit_of : List ℕ → Option EditorStep
edit_of [] = None
edit_of (n ∷ rest) = edit_by n rest

-- ---- what is asked, by the number of the kind

unfoldable pub asked_of : ℕ → List ℕ → Option Sub
asked_of kind bytes =
    if kind == 2 then option_map sub.Draw (if_all (compact.take bytes))
    else if kind == 3 then option_map sub.Lock (lock_of bytes)
    else if kind == 4 then option_map sub.Editor (edit_of bytes)
    else if kind == 5 then option_map (λ x. sub.Restore x.0 x.1) (if_all (restored.take bytes))
    else None
