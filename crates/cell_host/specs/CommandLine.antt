-- How the words of the command line are read: the program as a command with a subcommand for each form.
use Rattle.std.specs.Prelude.{ℕ, Bool, true, false, not, ◌==◌, List, [], ◌∷◌, codes, if◌then◌else◌, Some, None, option_and_then, option_map}
use Rattle.std.specs.declared.option.Option.{Option}
use Rattle.std.specs.Borrow.{Bor}
use Rattle.std.specs.Str.{bytes_eq}
use Rattle.compact_values.specs.GuidText.{guid_in_text}
use Rattle.clap.specs.Words.{App, Row, Rule, Shape, Text, first_of, new_app, new_rule, with_rule, with_subcommand}
use Rattle.cell_host.specs.declared.command.Command.{Command}
use Rattle.cell_host.specs.declared.command.Command.TheVariants.{Answer, Replay}

-- `answer GUID`
abbrev pub guid_rule : Rule
guid_rule = record (new_rule (codes "guid")) { required = true }

abbrev pub answer_form : App
answer_form = with_rule (new_app (codes "answer")) guid_rule

-- `replay`
abbrev pub replay_form : App
replay_form = new_app (codes "replay")

-- the program's own words are none, and there is no help and no version
abbrev pub program_shape : Shape
program_shape = record (new_app (codes "cellhost")).top {
  no_binary_name = true;
  disable_help_flag = true;
  disable_help_subcommand = true;
  disable_version_flag = true;
  subcommand_required = true;
}

-- the program with its forms
abbrev pub program : App
program = with_subcommand (with_subcommand (record { top = program_shape; subs = [] }) answer_form.top) replay_form.top

-- the word is neither empty nor an option
abbrev pub is_plain : List ℕ → Bool
is_plain [] = false
is_plain (first ∷ rest) = not (first == 45)

-- the command of this name, with the GUID that is given to it
abbrev pub command_with : List ℕ → Option (List ℕ) → Option Command
command_with name guid =
    if bytes_eq name (codes "replay") then Some Replay
    else if bytes_eq name (codes "answer") then option_and_then (λ text. option_map Answer (guid_in_text text)) guid
    else None

abbrev pub command_named : List ℕ → Option (Bor (List ℕ)) → Option Command
command_named name guid = command_with name (option_map (λ text. text.now) guid)

-- the command of the subcommand that was found, with its matches
abbrev pub command_found : Option (Text × List Row) → Option Command
command_found None = None
command_found (Some found) = command_with found.0 (first_of (codes "guid") found.1)
