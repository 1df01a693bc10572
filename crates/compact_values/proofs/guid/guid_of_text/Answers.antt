-- Where `uuid` refuses the text, it spells no GUID.
use Rattle.std.proofs.Common.{◌≡◌, true, false, true≢false, List, ℕ, None, Some, refl, sym}
use Rattle.std.specs.declared.option.Option.{Option}
use Rattle.std.specs.Option.{option_map}
use Rattle.compact_values.specs.GuidText.{guid_of_text_bytes}
use Rattle.compact_values.specs.declared.guid.Guid.{Guid}
use Rattle.compact_values.proofs.guid.guid_of_text.Goals as goal

none_of : (read : Option (List ℕ)) → ((u : List ℕ) × (read ≡ Some u) → false ≡ true) → ◌≡◌ {A = Option Guid} None (option_map guid_of_text_bytes read)
none_of None refused = refl
none_of (Some bytes) refused = absurd (true≢false (sym (refused (bytes, refl))))

pub returns-in-Err : goal.returns-in-Err
returns-in-Err c = none_of _ c.in-Err.ensures.ok.1
