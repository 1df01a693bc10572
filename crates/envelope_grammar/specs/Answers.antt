-- What a reader answers.
use Rattle.std.specs.Prelude.{◌≡◌, Option, Some, None, Result, Ok, Err}
use Rattle.envelope_grammar.specs.declared.fault.ReadFault.{ReadFault}
use Rattle.envelope_grammar.specs.declared.fault.ReadFault.TheVariants as faults

-- What a reader that takes no memory returned, seen by `view`, is what reading gives.
abbrev pub Finds : {X Y : Type 0} → (X → Y) → Option X → Option Y → Type 0
Finds view (Some x) read = read ≡ Some (view x)
Finds view None read = read ≡ None

abbrev pub Fails : {Y : Type 0} → ReadFault → Option Y → Type 0
Fails faults.NoMemory read = Unit {0}
Fails faults.NotInGrammar read = read ≡ None

-- The same, unless memory ran out.
abbrev pub Gives : {X Y : Type 0} → (X → Y) → Result X ReadFault → Option Y → Type 0
Gives view (Ok x) read = read ≡ Some (view x)
Gives view (Err fault) read = Fails fault read
