use Rattle.std.proofs.Common.{◌≡◌, List, ap, ◌∙◌}
use Rattle.doc_model.specs.declared.element.Element.{Element}
use Rattle.doc_model.specs.declared.element.Object.{Object}
use Rattle.doc_model.specs.rules.Files.{file}
use Rattle.file_nodes.specs.Chunks.{id_of, elements_round, chunked}
use Rattle.file_nodes.proofs.ChunkedFile.{file-chunked}
use Rattle.file_nodes.proofs.chunking.chunk.Goals as goal

pub returns-clause-file : goal.returns-clause-file
returns-clause-file c =
    let guid = c.args.guid in
    let first = c.args.first in
    let same : c.in_ok-elements.elements ≡ (chunked c.args.bytes.now guid first).elements
    = c.in_ok-elements.ensures ∙ ap (λ (l : List Object). elements_round l guid first) c.in_ok-objects.ensures.objects in
    ap (λ (l : List Element). file l (id_of guid first)) same ∙ file-chunked c.args.bytes.now guid first c.requires.short
