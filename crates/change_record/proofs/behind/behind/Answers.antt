use Rattle.std.proofs.lemmas.Slice.Eq.{strip_prefix_is}
use Rattle.std.proofs.lemmas.Bool.Decides.{Decides-eqb}
use Rattle.change_record.proofs.Pieces.{behind_by}
use Rattle.change_record.proofs.behind.behind.Goals as goal

pub returns : goal.returns
returns c =
    let there = behind_by c.args.bytes.now c.as_slice.result.now c.strip_prefix.result (strip_prefix_is Decides-eqb c.args.bytes.now c.as_slice.result.now c.strip_prefix.result c.strip_prefix.ensures.cases) in
    rw c.as_slice.ensures at there
