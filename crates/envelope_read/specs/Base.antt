-- The bytes that a text means as base64.
use Rattle.std.specs.Prelude.{◌≡◌, ℕ, ◌<◌, ◌==◌, true, List, [], ◌∷◌, length, slice_index, Result, Ok, Err, if◌then◌else◌}
use Rattle.std.specs.declared.option.Option.{Option}
use Rattle.std.specs.declared.option.Option.TheVariants.{Some, None}
use Rattle.base64.specs.Engines.{standard}
use Rattle.base64.specs.GeneralPurpose.{decode_of}
use Rattle.envelope_grammar.specs.Bytes.{is_white}

abbrev pub without_white : List ℕ → List ℕ
without_white [] = []
without_white (b ∷ bytes) = if is_white b then without_white bytes else b ∷ without_white bytes

-- this byte doesn't stand in them
abbrev pub HasNo : ℕ → List ℕ → Type 0
HasNo b bytes = (k : ℕ) → k < length bytes → ¬ (slice_index bytes k == b ≡ true)

abbrev pub when_ok : {A E : Type 0} → Result A E → Option A
when_ok (Ok x) = Some x
when_ok (Err e) = None

-- what the engine reads, white space dropped
unfoldable pub decoded : List ℕ → Option (List ℕ)
decoded bytes = when_ok (decode_of standard (without_white bytes))
