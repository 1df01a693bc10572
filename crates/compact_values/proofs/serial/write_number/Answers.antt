use Rattle.std.proofs.Common.{◌≡◌, ◌++◌, ◌∷◌, ◌∙◌, List, ℕ, [], ap, append_assoc}
use Rattle.compact_values.specs.Compact.{little_endian}
use Rattle.compact_values.specs.GuidBytes.{guid_bytes}
use Rattle.compact_values.proofs.Appending.{appended}
use Rattle.compact_values.proofs.serial.write_number.Goals as goal

pub returns-clause-ok : goal.returns-clause-ok
returns-clause-ok c =
    let guid = guid_bytes c.args.guid.number in
    let before : c.write_guid.new.out ≡ c.args.out.now ++ (128 ∷ guid) =
    c.in_ok-write_guid.ensures.ok ∙ ap (λ (l : List ℕ). l ++ guid) c.in_ok-push.ensures.ok ∙ append_assoc c.args.out.now (128 ∷ []) guid in
    appended c.append_low_bytes.result c.args.out.now c.write_guid.new.out c.append_low_bytes.new.out (128 ∷ guid) (little_endian 8 c.args.value) before c.append_low_bytes.ensures.ok
