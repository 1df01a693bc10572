-- How long a file is, as it is answered, is how long the file at the index is.
use Rattle.std.proofs.Common.{◌≡◌, ℕ, refl, sym, ◌∙◌, ap, subst, Bool, true, false, cond, List, length, nat_lt, Option, Some, None, option_and_then, Result, Ok, Err}
use Rattle.std.specs.Prelude.{IfOk}
use Rattle.std.proofs.lemmas.Bool.{lt-ltb, le-ltb}
use Rattle.compact_values.specs.declared.fault.NoMemory.{NoMemory}
use Rattle.compact_values.specs.declared.ids.ExGuid.{ExGuid}
use Rattle.doc_model.specs.declared.element.Element.{Element}
use Rattle.doc_model.specs.rules.Files.{file, file_of_chain, root_chain, root_object}
use Rattle.doc_model.specs.rules.Finding.{Manifest}
use Rattle.doc_model.specs.rules.Limits.{most_file}
use Rattle.doc_model.specs.rules.Reached.{absent}
use Rattle.file_nodes.specs.FileAnswers.{Agrees, IsLengthResult, stored_file}
use Rattle.file_nodes.specs.FileWalks.{fault_of, first_fault, walk_root}
use Rattle.file_nodes.specs.declared.fault.NodeFault.{NodeFault}
use Rattle.file_nodes.specs.declared.fault.NodeFault.TheVariants as faults
use Rattle.file_nodes.specs.StoredObjects.{StoredObject}
use Rattle.file_nodes.proofs.WalkLaws.{root_is}
use Rattle.plain_core.specs.Filing.{groups_named, objects_in, file_with_bytes}
use Rattle.plain_core.specs.Measuring.{length_of_file, length_answered}
use Rattle.plain_core.specs.declared.file_length.FileLength.{FileLength}
use Rattle.plain_core.specs.declared.file_length.FileLength.TheVariants.{Undefined, TooLarge, Known}
use Rattle.plain_core.proofs.BlobsFound.{file-kept}
use Rattle.plain_core.proofs.FiledAnswers.{under-root}

module _ (objects : List StoredObject) (root : ExGuid) where
  -- where a walk has a fault there is no file
  no-file : (fault : NodeFault) → first_fault objects root ≡ Some fault → Undefined ≡ length_of_file (stored_file objects root)
  no-file fault f = sym (ap length_of_file (none (stored_file objects root) (walk_root objects root) (root_is objects root) f))
    where
      none : (file : Option (List ℕ)) (walked : Result ℕ NodeFault) → Agrees file walked → fault_of walked ≡ Some fault → file ≡ None
      none None walked a e = refl
      none (Some file) (Ok size) a e = cc
      none (Some file) (Err other) a e = absurd a

  -- where there is one its length is compared with the most that it may be
  file-found : (file : List ℕ) (large : Bool) → stored_file objects root ≡ Some file → nat_lt most_file (length file) ≡ large
      → cond large TooLarge (Known (length file)) ≡ length_of_file (stored_file objects root)
  file-found file large e test = sym (ap length_of_file e ∙ ap (λ (b : Bool). cond b TooLarge (Known (length file))) test)

  root-length : (found : Result ℕ NodeFault) → IsLengthResult objects root found → IfOk (length_answered found) (λ length. length ≡ length_of_file (stored_file objects root))
  root-length (Ok size) h = ap Known h.2 ∙ file-found h.0 false h.1.0 (le-ltb most_file (length h.0) h.1.1)
  root-length (Err faults.TooLarge) h = file-found h.0 true h.1 (lt-ltb most_file (length h.0) h.2)
  root-length (Err faults.NoMemory) h = tt
  root-length (Err (faults.Absent id)) h = no-file (faults.Absent id) h
  root-length (Err faults.TooHigh) h = no-file faults.TooHigh h
  root-length (Err (faults.NotANode id)) h = no-file (faults.NotANode id) h
  root-length (Err (faults.SizeDiffers said other)) h = no-file (faults.SizeDiffers said other) h

-- the length of the file of the first root of these revisions
pub chain-length : (added : List Element) (ms : List Manifest) (objects : List StoredObject) (root : ExGuid) (found : Result ℕ NodeFault) (given : Result FileLength NoMemory)
    → objects ≡ objects_in added (groups_named ms) → Some root ≡ root_object ms → IsLengthResult objects root found → given ≡ length_answered found
    → IfOk given (λ length. length ≡ length_of_file (file_with_bytes added ms))
chain-length added ms objects root found given o r h g =
    subst (λ (x : Result FileLength NoMemory). IfOk x (λ length. length ≡ length_of_file (file_with_bytes added ms))) (sym g)
    (subst (λ (file : Option (List ℕ)). IfOk (length_answered found) (λ length. length ≡ length_of_file file)) (under-root added ms objects root o r) (root-length objects root found h))

-- the same by the revisions that are found at an index
pub no-chain : (added : List Element) (index : ExGuid) → root_chain added index ≡ None → Undefined ≡ length_of_file (file added index)
no-chain added index e = sym (ap (λ (ms : Option (List Manifest)). length_of_file (option_and_then (file_of_chain added) ms)) e)

pub along-chain : (added : List Element) (index : ExGuid) (ms seen : List Manifest) (given : Result FileLength NoMemory) → absent added index ≡ None → root_chain added index ≡ Some ms
    → seen ≡ ms → IfOk given (λ length. length ≡ length_of_file (file_with_bytes added seen)) → IfOk given (λ length. length ≡ length_of_file (file added index))
along-chain added index ms seen given a e s h =
    subst (λ (file : Option (List ℕ)). IfOk given (λ length. length ≡ length_of_file file)) (ap (file_with_bytes added) s ∙ file-kept added index ms a e) h
