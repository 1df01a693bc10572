use Rattle.std.proofs.Common.{◌≡◌, ◌∙◌, ◌+◌, ◌-◌, ◌++◌, ℕ, List, length, take, drop, ap, arith}
use Rattle.std.specs.Prelude.{replicate}
use Rattle.std.proofs.lemmas.Grind.{common_steps}
use Rattle.std.proofs.lemmas.List.{take_at}
use Rattle.host_edge.proofs.MemDiskSteps.{written_over}
use Rattle.host_edge.proofs.crash_image.lay.Goals as goal

pub returns : goal.returns
returns c =
    let same : length c.put.new.bytes ≡ c.put_zeros.new.bytes.len = grind (arith, common_steps) in
    let end : c.in-Some.end ≡ c.args.place + length c.args.new.now = omega (arith, c.in-Some.ensures) in
    take_at c.put.new.bytes (drop (length c.put.new.bytes) c.put_zeros.new.bytes.items) c.put_zeros.new.bytes.len same
    ∙ c.put.ensures
    ∙ ap (λ (l : List ℕ). take c.args.place l ++ c.args.new.now ++ drop (c.args.place + length c.args.new.now) l) c.as_mut_slice.ensures.value
    ∙ written_over c.args.bytes.now.items c.args.new.now c.put_zeros.new.bytes.items c.args.place (grind (arith, common_steps, c.if-is_empty.ensures))
    (c.in_ok-put_zeros.ensures ∙ ap (λ (n : ℕ). c.args.bytes.now.items ++ replicate (n - length c.args.bytes.now.items) 0) end)
