use Rattle.doc_model.proofs.Download.{downloads, downloads-nothing, downloads-reached, reads-the-file}
use Rattle.doc_model.proofs.laws.downloads_the_file.Goals as goal

pub returns-clause-file : goal.returns-clause-file
returns-clause-file c = downloads

pub returns-clause-nothing : goal.returns-clause-nothing
returns-clause-nothing c = downloads-nothing

pub returns-clause-reached : goal.returns-clause-reached
returns-clause-reached c = downloads-reached

pub returns-clause-reads : goal.returns-clause-reads
returns-clause-reads c = reads-the-file
