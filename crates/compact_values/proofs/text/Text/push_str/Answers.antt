use Rattle.std.proofs.Common.{◌≡◌, ◌++◌, List, ℕ, ap, ◌∙◌}
use Rattle.std.specs.Prelude.{string_bytes}
use Rattle.std.specs.Str.{chars, IsUtf8}
use Rattle.std.proofs.lemmas.Str.{IsUtf8-string_bytes, chars-append}
use Rattle.compact_values.proofs.text.Text.push_str.Goals as goal
use Rattle.compact_values.proofs.text.Text.push_str.Goals.{in-Ok, in-Err}

pub returns-clause-ok : goal.returns-clause-ok
returns-clause-ok c =
    elim c.match-push_str.branch [
      | in-Ok w ↦
          let utf8 : IsUtf8 (string_bytes c.self.inside.inner) = IsUtf8-string_bytes c.self.inside.inner in
          let grown : chars (string_bytes c.push_str.new.self) ≡ c.args.self.now ++ chars c.args.more.now =
          ap chars (w.in-Ok.ensures.bytes) ∙ chars-append (string_bytes c.self.inside.inner) c.args.more.now utf8
          ∙ ap (λ (l : List ℕ). l ++ chars c.args.more.now) c.self.view_is in
          rw w.result-is grown
      | in-Err w ↦ rw w.result-is tt
    ]
