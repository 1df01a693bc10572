use Rattle.std.proofs.Common.{◌≤◌, ◌∙◌, arith}
use Rattle.compact_values.proofs.compact.write_compact.Goals as goal
use Rattle.compact_values.proofs.LittleEndian.{eight_bytes}
use Rattle.compact_values.proofs.Rows.{row-widest}

pub returns-in_default-clause-ok : goal.returns-in_default-clause-ok
returns-in_default-clause-ok c =
    let wide : 0x2000000000000 ≤ c.args.value = omega arith in
    rw (row-widest c.args.value wide) (rw (c.to_le_bytes.ensures ∙ eight_bytes c.args.value) at c.extend_from_slice.ensures.ok)
