use Rattle.std.proofs.Common.{◌≡◌, ℕ, suc, ◌+◌, ◌-◌, map, refl, ap, arith}
use Rattle.std.specs.List.{range_with_len}
use Rattle.file_nodes.specs.Chunks.{id_of}
use Rattle.file_nodes.proofs.ChunkLaws.{pushed}
use Rattle.file_nodes.proofs.file_objects.consecutive_ids.Goals as goal

pub loop-value-preserved : goal.loop-value-preserved
loop-value-preserved c =
    let guid = c.args.guid in
    let value = c.loop-value.value in
    let end = c.args.first + c.args.count in
    let left = end - (value + 1) in
    let same : end - value ≡ suc left = omega (arith, c.loop-value-test.true) in
    pushed c.loop-value.ids c.push.new.self (map (id_of guid) (range_with_len value (end - value))) (map (id_of guid) (range_with_len (value + 1) left)) _ (id_of guid value) (id_of guid value)
    c.in_ok-push.ensures.ok refl (ap (λ (n : ℕ). map (id_of guid) (range_with_len value n)) same) c.loop-value.invariant
