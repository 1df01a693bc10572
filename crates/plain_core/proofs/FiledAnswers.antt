-- What the reader of a file answers, as the file at an index.
use Rattle.std.proofs.Common.{◌≡◌, ◌≢◌, ℕ, ◌≤◌, ◌<◌, ◌⊎◌, inl, inr, refl, sym, ◌∙◌, ap, subst, List, length, Option, Some, None, option_and_then, Result, Ok, Err}
use Rattle.std.specs.Prelude.{IfOk}
use Rattle.std.proofs.lemmas.Bool.{cases_lt}
use Rattle.compact_values.specs.declared.fault.NoMemory.{NoMemory}
use Rattle.compact_values.specs.declared.ids.ExGuid.{ExGuid}
use Rattle.doc_model.specs.declared.element.Element.{Element}
use Rattle.doc_model.specs.rules.Files.{root_object}
use Rattle.doc_model.specs.rules.Finding.{Manifest}
use Rattle.doc_model.specs.rules.Limits.{most_file}
use Rattle.file_nodes.specs.FileAnswers.{Exactly, IsFile, IsOrNoMemory, IsTooLarge, stored_file}
use Rattle.file_nodes.specs.declared.fault.NodeFault.{NodeFault}
use Rattle.file_nodes.specs.declared.fault.NodeFault.TheVariants as faults
use Rattle.file_nodes.specs.StoredObjects.{StoredObject}
use Rattle.plain_core.specs.Filing.{IsFiled, without_file, groups_named, objects_in, objects_with_bytes, file_with_bytes}
use Rattle.plain_core.specs.declared.file.Filed.{Filed}
use Rattle.plain_core.proofs.FiledOnce.{filed-once}

module _ (objects : List StoredObject) (root : ExGuid) where
  abbrev found : Option (List ℕ)
  found = stored_file objects root

  -- what is answered where there is a file, and where it is too large
  abbrev pub WhereFile : Result (List ℕ) NodeFault → Type 0
  WhereFile r = (file : List ℕ) → Exactly r (Ok file) (IsFile objects root file)

  abbrev pub WhereLarge : Result (List ℕ) NodeFault → Type 0
  WhereLarge r = Exactly r (Err faults.TooLarge) (IsTooLarge objects root)

  -- with another fault there is no file
  no-file : (fault : NodeFault) → fault ≢ faults.TooLarge → fault ≢ faults.NoMemory → WhereFile (Err fault) → WhereLarge (Err fault) → found ≡ None
  no-file fault large memory f l = at found refl
    where
      not-this : (file : List ℕ) → IsOrNoMemory (Err fault) (Ok file) → found ≡ None
      not-this file (inl e) = cc
      not-this file (inr e) = absurd (memory cc)

      not-large : IsOrNoMemory {A = List ℕ} (Err fault) (Err faults.TooLarge) → found ≡ None
      not-large (inl e) = absurd (large cc)
      not-large (inr e) = absurd (memory cc)

      by-length : (file : List ℕ) → found ≡ Some file → ((most_file < length file) ⊎ (length file ≤ most_file)) → found ≡ None
      by-length file e (inl more) = not-large (l.1 (file, e, more))
      by-length file e (inr few) = not-this file ((f file).1 (e, few))

      at : (o : Option (List ℕ)) → found ≡ o → found ≡ None
      at None e = e
      at (Some file) e = by-length file e (cases_lt most_file (length file))

  by-fault : (fault : NodeFault) → WhereFile (Err fault) → WhereLarge (Err fault) → IfOk (without_file fault) (λ filed. IsFiled filed found)
  by-fault faults.NoMemory f l = tt
  by-fault faults.TooLarge f l = l.0 refl
  by-fault (faults.Absent id) f l = no-file (faults.Absent id) (λ e. cc) (λ e. cc) f l
  by-fault faults.TooHigh f l = no-file faults.TooHigh (λ e. cc) (λ e. cc) f l
  by-fault (faults.NotANode id) f l = no-file (faults.NotANode id) (λ e. cc) (λ e. cc) f l
  by-fault (faults.SizeDiffers size other) f l = no-file (faults.SizeDiffers size other) (λ e. cc) (λ e. cc) f l

-- the file of the first root of these revisions
pub under-root : (added : List Element) (ms : List Manifest) (objects : List StoredObject) (root : ExGuid) → objects ≡ objects_in added (groups_named ms)
    → Some root ≡ root_object ms → stored_file objects root ≡ file_with_bytes added ms
under-root added ms objects root o r =
    ap (λ xs. stored_file xs root) o ∙ filed-once added ms root ∙ ap (option_and_then (stored_file (objects_with_bytes added ms))) r

module _ (added : List Element) (ms : List Manifest) (objects : List StoredObject) (root : ExGuid) (o : objects ≡ objects_in added (groups_named ms)) (r : Some root ≡ root_object ms) where
  pub answered-file : (file : List ℕ) → IsFile objects root file → (file_with_bytes added ms ≡ Some file) × (length file ≤ most_file)
  answered-file file h = (sym (under-root added ms objects root o r) ∙ h.0, h.1)

  pub answered-fault : (answer : Result (List ℕ) NodeFault) (fault : NodeFault) (given : Result Filed NoMemory) → answer ≡ Err fault → given ≡ without_file fault
      → WhereFile objects root answer → WhereLarge objects root answer → IfOk given (λ filed. IsFiled filed (file_with_bytes added ms))
  answered-fault answer fault given a g f l =
      subst (λ (x : Result Filed NoMemory). IfOk x (λ filed. IsFiled filed (file_with_bytes added ms))) (sym g)
      (subst (λ (file : Option (List ℕ)). IfOk (without_file fault) (λ filed. IsFiled filed file)) (under-root added ms objects root o r)
      (by-fault objects root fault (subst (WhereFile objects root) a f) (subst (WhereLarge objects root) a l)))
