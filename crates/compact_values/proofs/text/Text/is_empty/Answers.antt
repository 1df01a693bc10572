use Rattle.std.proofs.Common.{◌≡◌, [], length, refl, sym, ap, ◌∙◌, arith}
use Rattle.std.specs.Str.{chars, encode_utf8_all}
use Rattle.std.proofs.lemmas.Bool.Decides.{nat_tests}
use Rattle.std.proofs.lemmas.List.{nil_from_length}
use Rattle.std.proofs.lemmas.Str.{chars-nil}
use Rattle.compact_values.proofs.text.Text.is_empty.Goals as goal

-- a text has no bytes exactly where it has no characters
pub returns : goal.returns
returns c = (
  λ empty.
      let none : length c.as_str-text.result.now ≡ 0 = grind (arith, nat_tests) in
      sym c.as_str-text.ensures.chars ∙ ap chars (nil_from_length c.as_str-text.result.now none) ∙ chars-nil,
  λ none.
      let empty : c.as_str-text.result.now ≡ [] = c.as_str-text.ensures.bytes ∙ ap encode_utf8_all none in
      rw empty refl,
)
