use Rattle.std.proofs.Common.{◌≡◌, ◌<◌, ℕ, List, IfOk, arith, subst}
use Rattle.std.proofs.lemmas.List.Elements.{All-from_recursion}
use Rattle.std.proofs.lemmas.Str.{chars-IsAscii}
use Rattle.std.proofs.lemmas.Str.Ascii.{IsAscii-from_all}
use Rattle.std.specs.Str.{IsAscii}
use Rattle.cell_host.specs.Serving.{anonymous}
use Rattle.cell_host.proofs.serving.anonymous.Goals as goal

is_ascii : IsAscii anonymous
is_ascii =
    IsAscii-from_all anonymous (All-from_recursion (λ b. b < 128) anonymous
    (omega arith, (omega arith, (omega arith, (omega arith, (omega arith, (omega arith, (omega arith, (omega arith, (omega arith, tt))))))))))

pub returns : goal.returns
returns c = subst (λ (name : List ℕ). IfOk c.from_str.result (λ user. user ≡ name)) (chars-IsAscii anonymous is_ascii) c.from_str.ensures
