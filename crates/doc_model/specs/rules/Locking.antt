-- What a lock step does with a document.
use Rattle.std.specs.Prelude.{ℕ, if◌then◌else◌}
use Rattle.doc_model.specs.declared.doc.Doc.{Doc}
use Rattle.doc_model.specs.declared.lock.LockStep.{LockStep}
use Rattle.doc_model.specs.rules.Locks.{live}
use Rattle.doc_model.specs.rules.LockSteps.{LockEffect, lock_effect, lock_after, lock_moved, lock_refusal, lock_reply}
use Rattle.doc_model.specs.rules.Effects.{Effect}

-- the live lock takes this effect; where it doesn't move, the record stays as it is, with what has expired
abbrev pub after_lock : Doc → ℕ → LockStep → LockEffect → Effect
after_lock doc moment step effect =
    let after = lock_after (live doc.lock moment) effect in record {
      doc = record doc { lock = if lock_moved effect then after else doc.lock };
      reply = lock_reply doc.guid step after (lock_refusal effect);
      moved = lock_moved effect;
    }

abbrev pub do_lock : Doc → ℕ → LockStep → Effect
do_lock doc moment step = after_lock doc moment step (lock_effect moment step (live doc.lock moment))
