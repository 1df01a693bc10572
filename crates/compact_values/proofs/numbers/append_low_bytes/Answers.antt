use Rattle.std.proofs.Common.{◌≡◌, ℕ, List, ◌++◌, take, OnOk, ap, subst, ◌∙◌}
use Rattle.compact_values.proofs.numbers.append_low_bytes.Goals as goal
use Rattle.compact_values.proofs.LittleEndian.{eight_bytes, take-little_endian}

pub returns-clause-ok : goal.returns-clause-ok
returns-clause-ok c =
    subst (λ (bytes : List ℕ). OnOk c.extend_from_slice.result (c.extend_from_slice.new.self ≡ c.args.out.now ++ bytes))
    (ap (λ (bytes : List ℕ). take c.args.count bytes) (c.to_le_bytes.ensures ∙ eight_bytes c.args.number) ∙ take-little_endian c.args.count 8 c.args.number c.requires)
    c.extend_from_slice.ensures.ok
