use Rattle.std.proofs.Common.{arith}
use Rattle.std.proofs.lemmas.List.{length-append}
use Rattle.doc_model.specs.wire.WrittenElements.{declarations_bytes, datas_bytes}
use Rattle.doc_model.proofs.SizeLemmas.{length_declarations, length_datas}
use Rattle.doc_model.proofs.weighing.group_weight.Goals as goal

pub returns-clause-length : goal.returns-clause-length
returns-clause-length c =
    let objects = c.args.objects.now in
    omega (arith, length-append (declarations_bytes objects) (datas_bytes objects), length_declarations objects, length_datas objects, c.started_size.ensures, c.started_size-2.ensures, c.declarations_weight.ensures.length, c.datas_weight.ensures.length)
