use Rattle.std.proofs.Common.{◌≡◌, ◌+◌, ◌≤◌, length, take, vec_len, rules, arith}
use Rattle.std.proofs.lemmas.Grind.{common_steps}
use Rattle.cell_host.proofs.Taken.{takes_more}
use Rattle.cell_host.proofs.input.read_input.Goals as goal

-- the piece for which no memory was left was taken too
pub returns-then-is_err-clause-taken : goal.returns-then-is_err-clause-taken
returns-then-is_err-clause-taken g c =
    let within : vec_len c.reading.input + c.in-Ok.count ≤ c.args.limit + 1 = grind (arith, common_steps) in
    let whole : length (take c.in-Ok.count c.read.new.into) ≡ c.in-Ok.count = grind (arith, common_steps) in
    let held : length c.reading.input.items ≡ vec_len c.reading.input = search rules in
    takes_more (c.args.limit + 1) _ _ _ _ _ _ c.reading.input.items (take c.in-Ok.count c.read.new.into) (vec_len c.reading.input) c.in-Ok.count
    held whole c.reading.invariant.left c.in-Ok.ensures.bytes.0 c.reading.invariant.taken c.in-Ok.ensures.count within
