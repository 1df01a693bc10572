-- What `replay` does: one connection, over a new document in memory.
use Rattle.std.specs.Prelude.{◌≡◌, ℕ, List, [], ◌∷◌, codes}
use Rattle.doc_model.specs.rules.Apply.{empty_doc}
use Rattle.session_loop.specs.Documents.{Kept}
use Rattle.session_loop.specs.Driving.{Drives}
use Rattle.session_loop.specs.Driving as loop
use Rattle.session_loop.specs.declared.want.SessionEnd.{SessionEnd}
use Rattle.session_loop.specs.declared.want.SessionEnd.TheVariants as end
use Rattle.cell_host.specs.View.{View}
use Rattle.cell_host.specs.declared.replay.TheConstants.{DOCUMENT}
use Rattle.cell_host.specs.declared.status.Status.{Status}
use Rattle.cell_host.specs.declared.status.Status.TheVariants.{Done, ReadFault, WriteFault, Refused, NoMemory}

-- the name of the document, and the document, which has seen no change
abbrev pub document_names : List (List ℕ)
document_names = codes "a.docx" ∷ []

abbrev pub new_documents : List Kept
new_documents = record { doc = empty_doc DOCUMENT; front = 0 } ∷ []

-- the status of a run whose connection ended so
abbrev pub status_of : SessionEnd → Status
status_of end.Ended = Done
status_of end.CutOff = Refused
status_of (end.Refused status) = Refused
status_of end.ReadFault = ReadFault
status_of end.WriteFault = WriteFault
status_of end.NoMemory = NoMemory

-- what is shown beside these documents
abbrev pub beside : View → List Kept → loop.View
beside v docs = record { left = v.left; read_faults = v.read_faults; held = v.held; write_faults = v.write_faults; told = v.told; docs = docs }

-- The connection was served over the new document, and the run ends with the status of its end.
abbrev pub Replays : View → View → Status → Type 0
Replays before after status = (end : SessionEnd) × (docs : List Kept) × (status ≡ status_of end)
    × Drives document_names (beside before new_documents) (beside after docs) end
