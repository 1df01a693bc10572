-- What a run of the program does, by its command. A further command is a further case.
use Rattle.std.specs.Prelude.{◌≡◌, ◌⊎◌, ℕ, List, None, Some}
use Rattle.std.specs.declared.option.Option.{Option}
use Rattle.std.specs.Io.KnownBytes.{Appends}
use Rattle.host_edge.specs.Causes.{Rose}
use Rattle.host_edge.specs.Streams.{AppendsFront}
use Rattle.cell_host.specs.Answering.{Answering}
use Rattle.cell_host.specs.Replaying.{Replays}
use Rattle.cell_host.specs.Status.{line_of}
use Rattle.cell_host.specs.View.{View}
use Rattle.cell_host.specs.declared.command.Command.{Command}
use Rattle.cell_host.specs.declared.command.Command.TheVariants.{Answer, Replay}
use Rattle.cell_host.specs.declared.status.Status.{Status}
use Rattle.cell_host.specs.declared.status.Status.TheVariants.{Usage, NoMemory}

-- A run of the command, from one moment to another, that ends with this status. Without a command nothing is done, and
-- the status says so, or that memory is wanting for the words.
abbrev pub Runs : Option Command → View → View → Status → Type 0
Runs None before after status = ((status ≡ Usage) ⊎ (status ≡ NoMemory)) × (after ≡ before)
Runs (Some (Answer guid)) before after status = Answering guid before after status
Runs (Some Replay) before after status = Replays before after status

-- The line of the status went to the error sink, or, where that failed, a front of it.
pub record Tells (status : Status) (held held_now : Option (List ℕ)) (faults faults_now : ℕ) : Type 0 where
  pub front : AppendsFront held held_now (line_of status)
  pub whole : ¬ Rose faults faults_now → Appends held held_now (line_of status)
