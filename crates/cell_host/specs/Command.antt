-- Which words are a command.
use Rattle.std.specs.Prelude.{ℕ, List, [], ◌∷◌, map, codes, if◌then◌else◌, Some, None}
use Rattle.std.specs.Borrow.{Bor}
use Rattle.std.specs.Str.{bytes_eq}
use Rattle.std.specs.declared.option.Option.{Option}
use Rattle.std.specs.Option.{option_map}
use Rattle.compact_values.specs.GuidText.{guid_in_text}
use Rattle.cell_host.specs.declared.command.Command.{Command}
use Rattle.cell_host.specs.declared.command.Command.TheVariants.{Answer, Replay}

-- the words as bytes
abbrev pub texts : List (Bor (List ℕ)) → List (List ℕ)
texts words = map (λ word. word.now) words

-- `replay`
abbrev pub command_of_one : List ℕ → Option Command
command_of_one name = if bytes_eq name (codes "replay") then Some Replay else None

-- `answer GUID`
abbrev pub command_of_two : List ℕ → List ℕ → Option Command
command_of_two name argument = if bytes_eq name (codes "answer") then option_map Answer (guid_in_text argument) else None

-- the command that words are a form of
abbrev pub command_of : List (List ℕ) → Option Command
command_of [] = None
command_of (name ∷ []) = command_of_one name
command_of (name ∷ argument ∷ []) = command_of_two name argument
command_of (first ∷ second ∷ third ∷ more) = None

-- the command of the words as they are handed in
abbrev pub command_in : List (Bor (List ℕ)) → Option Command
command_in words = command_of (texts words)
