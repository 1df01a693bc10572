-- Processes over documents: each call is applied to its document, as it then is.
use Rattle.std.specs.Prelude.{ℕ, List}
use Rattle.doc_model.specs.rules.Apply.{apply}
use Rattle.doc_model.specs.declared.doc.Doc.{Doc}
use Rattle.doc_model.specs.declared.reply.Submitted.TheVariants.{Answered}
use Rattle.collection_run.specs.Processes.{Process, says, calls}

-- what is left of the documents, and the text
pub record Served : Type 0 where
  pub doc : Doc
  pub text : List ℕ

-- all calls made on one document
abbrev pub serve : Doc → Process → Served
serve doc (says text) = record { doc = doc; text = text }
serve doc (calls place call go_on) = serve (apply doc call).doc (go_on (Answered (apply doc call).reply))
