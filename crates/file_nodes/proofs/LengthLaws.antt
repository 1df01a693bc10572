-- What says how long a file is says the length of what says the file.
use Rattle.std.proofs.Common.{◌≡◌, ◌≢◌, ℕ, ◌<◌, Bool, true, false, List, [], length, get_or, Option, Some, None, Result, Ok, Err, inl, inr, eqb, refl, sym, ap, subst, ◌∙◌, arith}
use Rattle.std.specs.Prelude.{cond, slice_get, nat_lt}
use Rattle.std.specs.Option.{option_map}
use Rattle.std.proofs.lemmas.Bool.{cases_Bool, cases_lt, lt-ltb, le-ltb}
use Rattle.std.proofs.lemmas.List.Folds.{find_at}
use Rattle.std.proofs.lemmas.Option.{slice_get-get_or}
use Rattle.compact_values.specs.declared.ids.ExGuid.{ExGuid}
use Rattle.compact_values.specs.SameIds.{same_id}
use Rattle.doc_model.specs.rules.FileObjects.{node_file, file_below}
use Rattle.file_nodes.specs.FileAnswers.{Agrees, stored_file, IsLengthResult, IsOrNoMemory, LengthOfTheFile, length_said}
use Rattle.file_nodes.specs.FileWalks.{as_file_object, stored_objects, find_stored, arrived, walk, walk_from, walk_root, fault_of}
use Rattle.file_nodes.specs.Links.{place_of, below_table, sized_by, node_length, length_at, length_answer}
use Rattle.file_nodes.specs.declared.fault.NodeFault.{NodeFault}
use Rattle.file_nodes.specs.declared.fault.NodeFault.TheVariants.{Absent, TooHigh, NotANode, SizeDiffers, TooLarge, NoMemory}
use Rattle.file_nodes.specs.StoredObjects.{StoredObject}
use Rattle.file_nodes.proofs.FileAnswerLaws.{fault_said, file_found, walk_found, walk_node, file_only, large_only, fault_only}
use Rattle.file_nodes.proofs.Heights.{NotLarge, node_fault, walk_fault}
use Rattle.file_nodes.proofs.WalkLaws.{root_is}
use Rattle.file_nodes.proofs.WalkTables.{node_is}

-- a length is said where there is a file as long
size-said : (objects : List StoredObject) (root : ExGuid) (file : List ℕ) (size : ℕ) → stored_file objects root ≡ Some file → size ≡ length file
    → IsLengthResult objects root (sized_by (Ok size))
size-said objects root file size e l =
    elim (cases_lt 16777216 size) [
      | inl lt ↦
          let test : nat_lt 16777216 size ≡ true = lt-ltb 16777216 size lt in
          subst (λ (b : Bool). IsLengthResult objects root (cond b (Err TooLarge) (Ok size))) (sym test) (file, e, omega arith)
      | inr le ↦
          let test : nat_lt 16777216 size ≡ false = le-ltb 16777216 size le in
          subst (λ (b : Bool). IsLengthResult objects root (cond b (Err TooLarge) (Ok size))) (sym test) (file, (e, omega arith), l)
    ]

walked-said : (objects : List StoredObject) (root : ExGuid) (file : Option (List ℕ)) (walked : Result ℕ NodeFault) → stored_file objects root ≡ file
    → walk_root objects root ≡ walked → Agrees file walked → NotLarge walked → IsLengthResult objects root (sized_by walked)
walked-said objects root (Some f) (Ok size) e w a n = size-said objects root f size e a
walked-said objects root (Some f) (Err fault) e w a n = absurd a
walked-said objects root None (Ok size) e w a n = absurd a
walked-said objects root None (Err fault) e w a n = fault_said objects root fault (λ z. n (ap Err z)) (ap fault_of w)

module _ (objects : List StoredObject) (root : ExGuid) where
  node-said : (o : StoredObject) → find_stored objects root ≡ Some o → eqb (length o.references) 0 ≡ false → IsLengthResult objects root (node_length objects o)
  node-said o e some =
      let walked = walk_found objects root o e ∙ ap (λ (b : Bool). cond b (Ok 0) (walk_node objects root o)) some in
      let agrees = subst (λ (w : Result ℕ NodeFault). Agrees (stored_file objects root) w) walked (root_is objects root) in
      subst (λ (w : Result ℕ NodeFault). IsLengthResult objects root (sized_by w)) (sym (node_is objects (walk objects 7) (below_table objects) refl o some))
      (walked-said objects root (stored_file objects root) (walk_node objects root o) refl walked agrees (node_fault objects 7 (walk_fault objects 7) o))

  root-said : (found : Option StoredObject) → find_stored objects root ≡ found → IsLengthResult objects root (length_at objects root found)
  root-said None e = ap (λ (p : Option StoredObject). fault_of (arrived root (option_map (walk_from objects) p))) e
  root-said (Some o) e =
      elim (cases_Bool (eqb (length o.references) 0)) [
        | inl y ↦
            let file = file_found objects root o e ∙ ap (λ (b : Bool). cond b (Some []) (node_file (file_below (stored_objects objects) 7) (as_file_object o))) y in
            subst (λ (b : Bool). IsLengthResult objects root (cond b (Ok 0) (node_length objects o))) (sym y) ([], (file, omega arith), refl)
        | inr n ↦ subst (λ (b : Bool). IsLengthResult objects root (cond b (Ok 0) (node_length objects o))) (sym n) (node-said o e n)
      ]

  pub length-answered : IsLengthResult objects root (length_answer objects root)
  length-answered = root-said (slice_get objects (place_of objects root)) (find_at (λ o. same_id o.id root) objects)

  pub length-of : (r : Result ℕ NodeFault) → IsOrNoMemory r (length_answer objects root) → IsLengthResult objects root r
  length-of r (inl e) = subst (IsLengthResult objects root) (sym e) length-answered
  length-of r (inr e) = subst (IsLengthResult objects root) (sym e) tt

-- the code's case of a root with references
pub length-at-node : (objects : List StoredObject) (root : ExGuid) (place : ℕ) (top : StoredObject) → place ≡ place_of objects root → place < length objects → top ≡ get_or objects place top
    → eqb (length top.references) 0 ≡ false → node_length objects top ≡ length_answer objects root
length-at-node objects root place top e lt is more =
    let here : slice_get objects place ≡ Some top = slice_get-get_or objects place top lt ∙ ap Some (sym is) in
    sym (ap (λ (b : Bool). cond b (Ok 0) (node_length objects top)) more)
    ∙ ap (length_at objects root) (sym here) ∙ ap (λ (p : ℕ). length_at objects root (slice_get objects p)) e

-- ---- the law

same-answer : (file : Result (List ℕ) NodeFault) (this : Result (List ℕ) NodeFault) → file ≢ Err NoMemory → IsOrNoMemory file this → length_said this ≡ length_said file
same-answer file this n (inl e) = ap length_said (sym e)
same-answer file this n (inr e) = absurd (n e)

pub length-of-the-file : LengthOfTheFile
length-of-the-file objects root (Ok size) file s f m n = ap Ok s.2 ∙ same-answer file (Ok s.0) n (file_only objects root s.0 s.1 file f)
length-of-the-file objects root (Err TooLarge) file s f m n = same-answer file (Err TooLarge) n (large_only objects root s file f)
length-of-the-file objects root (Err NoMemory) file s f m n = absurd (m refl)
length-of-the-file objects root (Err (Absent id)) file s f m n = same-answer file (Err (Absent id)) n (fault_only objects root (Absent id) s file f)
length-of-the-file objects root (Err TooHigh) file s f m n = same-answer file (Err TooHigh) n (fault_only objects root TooHigh s file f)
length-of-the-file objects root (Err (NotANode id)) file s f m n = same-answer file (Err (NotANode id)) n (fault_only objects root (NotANode id) s file f)
length-of-the-file objects root (Err (SizeDiffers said found)) file s f m n =
    same-answer file (Err (SizeDiffers said found)) n (fault_only objects root (SizeDiffers said found) s file f)
