-- What the reader's types mean.
use Rattle.std.specs.Prelude.{ℕ, Bool, List, Option, Some, None}
use Rattle.envelope_grammar.specs.Reading.{Step, More, Last}
use Rattle.envelope_grammar.specs.Bytes.{is_white, is_name_byte}
use Rattle.envelope_grammar.specs.declared.tag.Name.{Name}
use Rattle.envelope_grammar.specs.declared.lexical.Kind.{Kind}
use Rattle.envelope_grammar.specs.declared.lexical.Kind.TheVariants as kinds
use Rattle.envelope_grammar.specs.declared.skipping.Inside.{Inside}
use Rattle.envelope_grammar.specs.declared.skipping.Inside.TheVariants as inside
use Rattle.envelope_grammar.specs.declared.lexical.NameParts.{NameParts}

abbrev pub step_or_end : {V : Type 0} → Option V → Step V (Unit {0})
step_or_end (Some v) = More v
step_or_end None = Last tt

abbrev pub in_kind : Kind → ℕ → Bool
in_kind kinds.White = is_white
in_kind kinds.Name = is_name_byte

abbrev pub name_view : NameParts → Name
name_view n = record { prefix = n.prefix.now; local = n.local.now }

abbrev pub inside_view : Inside → Step (List ℕ) (List ℕ)
inside_view (inside.More text) = More text
inside_view (inside.Last text) = Last text
