use Rattle.std.proofs.Common.{◌≡◌, sym, ap, ◌∙◌, Some, Vec, Global, ℕ}
use Rattle.std.specs.Str.{IsUtf8, chars}
use Rattle.std.specs.String.{string_bytes}
use Rattle.std.proofs.lemmas.Bool.{false≢true}
use Rattle.std.proofs.lemmas.Str.{IsUtf8-string_bytes}
use Rattle.envelope_grammar.proofs.Values.{characters-utf8, characters-not}
use Rattle.envelope_grammar.specs.Reading.{characters}
use Rattle.envelope_grammar.proofs.value.characters.Goals as goal

pub returns-in-Ok : goal.returns-in-Ok
returns-in-Ok c =
    let same : string_bytes c.in-Ok.text ≡ c.args.bytes.items = ap (λ (v : Vec ℕ Global). v.items) c.in-Ok.ensures.ok in
    let fits : IsUtf8 (string_bytes c.in-Ok.text) = IsUtf8-string_bytes c.in-Ok.text in
    let e : characters c.args.bytes.items ≡ Some (chars (string_bytes c.in-Ok.text)) = ap characters (sym same) ∙ characters-utf8 (string_bytes c.in-Ok.text) fits in
    cc

pub returns : goal.returns
returns c =
    let no : ¬ IsUtf8 c.args.bytes.items = λ h. let ok = c.from_utf8.ensures.succeeds h in let bad = rw c.in-Err.is at ok in false≢true bad in
    sym (characters-not c.args.bytes.items no)
