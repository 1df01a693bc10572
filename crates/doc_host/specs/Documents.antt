-- A document that is kept in a journal, as a host sees it.
use Rattle.std.specs.Prelude.{Option, Some, None}
use Rattle.turn_board.specs.declared.kept.Last.{Last}
use Rattle.doc_model.specs.declared.call.Call.{Call}
use Rattle.doc_model.specs.declared.made.Made.{Made}
use Rattle.doc_story.specs.declared.told.Last.{Last as Noted}
use Rattle.doc_host.specs.Attempts.{last_made}

-- the call made last, as the story of a document tells it
abbrev pub last_of : Option Noted → Option (Last Call Made)
last_of None = None
last_of (Some n) = Some (last_made n.caller n.call n.made n.moved)
