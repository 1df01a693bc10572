-- What a session asks may be done: its calls are ones that may be made, of documents that there are.
use Rattle.std.specs.Prelude.{ℕ, ◌<◌, List, length, IfSome}
use Rattle.doc_model.specs.rules.Sound.{Valid}
use Rattle.http_head.specs.declared.target.Route.{Route}
use Rattle.http_head.specs.declared.target.Route.TheVariants as route
use Rattle.collection_run.specs.Processes.{IsServable}
use Rattle.collection_run.specs.Progress.{process_of}
use Rattle.session_loop.specs.Sessions.{Machine}
use Rattle.session_loop.specs.declared.stage.Stage.{Stage}
use Rattle.session_loop.specs.declared.stage.Stage.TheVariants.{InBody, Timing, Running, Filing, Fronting}

-- it leads to a document that there is
abbrev pub IsRouted : List (List ℕ) → Route → Type 0
IsRouted names route.Cells = Unit {0}
IsRouted names (route.Front doc) = doc < length names
IsRouted names (route.File doc) = doc < length names

abbrev pub SafeAt : Stage → Machine → Type 0
SafeAt (InBody r close) m = IsRouted m.names r
SafeAt (Timing r close) m = IsRouted m.names r
SafeAt (Running doc close) m = IfSome m.runner (λ p. IsServable (length m.names) (process_of p))
SafeAt (Filing doc close) m = (doc < length m.names) × IfSome m.call Valid
SafeAt (Fronting doc close) m = doc < length m.names
SafeAt stage m = Unit {0}

abbrev pub IsSafe : Machine → Type 0
IsSafe m = SafeAt m.stage m
