-- What holds of a file that is cut and put as the first of a document (MS-FSSHTTPB 2.2.2.1.4).
use Rattle.std.specs.Prelude.{◌≡◌, ℕ, ◌+◌, ◌≤◌, false, List, length, None, Some}
use Rattle.compact_values.specs.declared.guid.Guid.{Guid}
use Rattle.compact_values.specs.declared.ids.ExGuid.TheVariants as exguids
use Rattle.doc_model.specs.declared.call.Put.{Put}
use Rattle.doc_model.specs.declared.call.Sub.TheVariants as sub
use Rattle.doc_model.specs.declared.doc.Doc.{Doc}
use Rattle.doc_model.specs.rules.Apply.{empty_doc}
use Rattle.doc_model.specs.rules.Files.{file}
use Rattle.doc_model.specs.rules.Limits.{most_file}
use Rattle.doc_model.specs.rules.Puts.{put, commit_refusal, committed}
use Rattle.doc_model.specs.rules.Sound.{IsValidSub}
use Rattle.file_nodes.specs.declared.chunking.Chunked.{Chunked}
use Rattle.file_nodes.specs.Chunks.{chunked}

-- a document in which nothing is stored, and which has handed out so many numbers
abbrev pub new_doc : Guid → ℕ → Doc
new_doc guid drawn = record (empty_doc guid) { drawn = drawn }

-- the upload of a file that is cut, in one part, where nothing is stored
abbrev pub upload : Chunked → Put
upload c = record {
  index = c.index;
  expected = exguids.Null;
  imply_null = false;
  partial = false;
  last = false;
  last_writer_wins = false;
  carried = None;
  elements = c.elements;
}

-- so many ids from this one on were handed out, where they have the document's own GUID
abbrev pub AreDrawn : Doc → Guid → ℕ → ℕ → Type 0
AreDrawn doc guid first used = guid ≡ doc.guid → first + used ≤ doc.drawn + 1

-- Nothing refuses a put, so it commits, and the document then has this file at its index.
pub record Stores (doc : Doc) (moment : ℕ) (user : List ℕ) (p : Put) (bytes : List ℕ) : Type 0 where
  pub no_refusal : commit_refusal doc moment p ≡ None
  pub commits : put doc moment user p ≡ committed doc moment user p
  pub content : file (put doc moment user p).doc.added p.index ≡ Some bytes

-- A file of at most 16 MiB that is cut can be put, whatever its bytes are, with ids that were handed out or have another GUID.
abbrev pub CutFileIsStored : Type 0
CutFileIsStored =
    (bytes user : List ℕ) (guid own : Guid) (first drawn moment : ℕ) → length bytes ≤ most_file
    → AreDrawn (new_doc own drawn) guid first (chunked bytes guid first).used
    → Stores (new_doc own drawn) moment user (upload (chunked bytes guid first)) bytes

-- The put of such a file may be made, and takes at most 267 ids.
abbrev pub CutFileMayBePut : Type 0
CutFileMayBePut =
    (bytes : List ℕ) (guid : Guid) (first : ℕ) → length bytes ≤ most_file
    → IsValidSub (sub.Put (upload (chunked bytes guid first))) × ((chunked bytes guid first).used ≤ 267)
