use Rattle.std.proofs.Common.{refl}
use Rattle.session_loop.specs.declared.want.SessionEnd.TheVariants.{NoMemory}
use Rattle.cell_host.specs.Replaying.{document_names, new_documents}
use Rattle.cell_host.proofs.Nothing.{nothing_served}
use Rattle.cell_host.proofs.replay.replay.Goals as goal

-- without memory for the document nothing was done
pub returns-in_default : goal.returns-in_default
returns-in_default g c = (NoMemory, new_documents, refl, nothing_served document_names _)
