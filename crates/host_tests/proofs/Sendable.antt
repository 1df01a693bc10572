-- The documents of the tests may go to any thread.
use denote.Struct.Declared.{shape}
use denote.Param.Send.{IsSend, recorded_send, struct_send, sendable}
use Rattle.std.proofs.Crossing.{crosses}
use Rattle.compact_values.specs.contracts.text.Text as text
use Rattle.host_edge.specs.contracts.mem_disk.MemDisk as disk
use Rattle.host_edge.specs.contracts.mem_disk.MemDiskDisk.TheImpl as disk_impl
use Rattle.plain_core.specs.contracts.plain.PlainCore as core
use Rattle.plain_core.specs.contracts.plain.Change as change
use Rattle.plain_core.specs.contracts.plain.PlainCoreCore.TheImpl as core_impl
use Rattle.doc_model.specs.contracts.doc.Commit as commit
use Rattle.doc_model.specs.contracts.doc.Part as part
use Rattle.doc_model.specs.contracts.editor.Editor as editor
use Rattle.doc_model.specs.contracts.element.Element as element
use Rattle.atomic_table.proofs.send_lease.SendLease.TheSendSync as lease
use Rattle.atomic_table.proofs.shared.Seat.TheSendSync as seat
use Rattle.atomic_table.proofs.shared.Shared.TheSendSync as shared
use Rattle.doc_story.specs.contracts.story.Story as story
use Rattle.journaled_doc.specs.contracts.doc.JournaledDoc as journaled
use Rattle.doc_host.specs.contracts.document.Document as document

-- What is searched for is built up from below, since a search for the whole takes too many steps.
disk_send : IsSend disk.the_row
disk_send = search (sendable, crosses) depth 40 fits 10000

text_send : IsSend text.the_row
text_send = search (sendable, crosses) depth 40 fits 10000

commit_send : IsSend commit.the_row
commit_send = search (sendable, crosses, text_send) depth 40 fits 10000

editor_send : IsSend editor.the_row
editor_send = search (sendable, crosses, text_send) depth 40 fits 10000

element_send : IsSend element.the_row
element_send = search (sendable, crosses) depth 60 fits 10000

part_send : IsSend part.the_row
part_send = search (sendable, crosses, element_send) depth 40 fits 10000

core_send : IsSend core.the_row
core_send = search (sendable, crosses, commit_send, editor_send, element_send, part_send) depth 40 fits 10000

story_send : IsSend (story.the_field disk.the_row).row
story_send = search (sendable, crosses, seat.the_send, shared.the_send, lease.the_send) depth 40 fits 10000

journaled_send : IsSend (journaled.the_field core.the_row disk.the_row).row
journaled_send = struct_send (shape (journaled.the_type core.the_row disk.the_row)) (
  search (sendable, crosses, core_send) depth 40 fits 10000,
  (
    search (sendable, crosses, disk_send) depth 40 fits 10000,
    (search (sendable, crosses, story_send) depth 40 fits 10000, (search (sendable, crosses) depth 40 fits 10000, (search (sendable, crosses) depth 40 fits 10000, (search sendable, tt)))),
  ),
)

pub kept_send : IsSend (document.the_row core.the_row disk.the_row change.the_row core_impl.ghosts disk_impl.ghosts)
kept_send =
    let it = document.the_type core.the_row disk.the_row change.the_row core_impl.ghosts disk_impl.ghosts in
    recorded_send _ _ _ it.to_one (struct_send (shape it) (journaled_send, tt))
