-- What the reader of a file answers is what the walk and the file say, and nothing else is.
use Rattle.std.proofs.Common.{◌≡◌, ◌≢◌, ℕ, ◌<◌, ◌≤◌, Bool, true, false, List, [], length, map, get_or, Option, Some, None, Result, Ok, Err, inl, inr, eqb, refl, sym, ap, subst, ◌∙◌, arith}
use Rattle.std.specs.Prelude.{cond, slice_get, nat_lt, option_and_then}
use Rattle.std.specs.Option.{option_map}
use Rattle.std.proofs.lemmas.Bool.{cases_Bool, cases_lt, lt-ltb, le-ltb}
use Rattle.std.proofs.lemmas.List.Folds.{find_at}
use Rattle.std.proofs.lemmas.Option.{same_Some, slice_get-get_or}
use Rattle.compact_values.specs.declared.ids.ExGuid.{ExGuid}
use Rattle.compact_values.specs.SameIds.{same_id}
use Rattle.doc_model.specs.rules.FileObjects.{FileObject, joined, node_file, file_below}
use Rattle.doc_model.specs.rules.Nodes.{node_size}
use Rattle.file_nodes.specs.FileAnswers.{Agrees, stored_file, IsFile, IsTooLarge, IsFileResult, IsOrNoMemory, Exactly}
use Rattle.file_nodes.specs.FileWalks.{as_file_object, stored_objects, find_stored, total, arrived, arrive, behind, walk, walk_from, walk_root, fault_of, first_fault}
use Rattle.file_nodes.specs.Links.{place_of, below_table, joined_from, answer_by, node_answer, answer_at, file_answer}
use Rattle.file_nodes.specs.declared.fault.NodeFault.{NodeFault}
use Rattle.file_nodes.specs.declared.fault.NodeFault.TheVariants.{Absent, TooHigh, NotANode, SizeDiffers, TooLarge, NoMemory}
use Rattle.file_nodes.specs.StoredObjects.{StoredObject}
use Rattle.file_nodes.proofs.WalkLaws.{find_is, root_is}
use Rattle.file_nodes.proofs.FileJoins.{node_joined, is_joined}
use Rattle.file_nodes.proofs.Heights.{NotLarge, node_fault, walk_fault}
use Rattle.file_nodes.proofs.WalkTables.{node_is}

-- ---- the answer says what it has to

-- a fault is said
pub fault_said : (objects : List StoredObject) (root : ExGuid) (fault : NodeFault) → fault ≢ TooLarge → first_fault objects root ≡ Some fault → IsFileResult objects root (Err fault)
fault_said objects root (Absent id) n e = e
fault_said objects root TooHigh n e = e
fault_said objects root (NotANode id) n e = e
fault_said objects root (SizeDiffers said found) n e = e
fault_said objects root TooLarge n e = absurd (n refl)
fault_said objects root NoMemory n e = tt

-- a file is said by its length
file_said : (objects : List StoredObject) (root : ExGuid) (file : List ℕ) (size : ℕ) (joined : List ℕ) → stored_file objects root ≡ Some file → size ≡ length file → joined ≡ file
    → IsFileResult objects root (answer_by (Ok size) joined)
file_said objects root file size joined e l j =
    elim (cases_lt 16777216 size) [
      | inl lt ↦
          let test : nat_lt 16777216 size ≡ true = lt-ltb 16777216 size lt in
          subst (λ (b : Bool). IsFileResult objects root (cond b (Err TooLarge) (Ok joined))) (sym test) (file, e, omega arith)
      | inr le ↦
          let test : nat_lt 16777216 size ≡ false = le-ltb 16777216 size le in
          let short : length joined ≤ 16777216 = omega (arith, ap (λ (x : List ℕ). length x) j) in
          subst (λ (b : Bool). IsFileResult objects root (cond b (Err TooLarge) (Ok joined))) (sym test) (e ∙ ap Some (sym j), short)
    ]

-- what is said by a walk and the file that agrees with it
walked_said : (objects : List StoredObject) (root : ExGuid) (joined : List ℕ) (file : Option (List ℕ)) (walked : Result ℕ NodeFault) → stored_file objects root ≡ file → walk_root objects root ≡ walked
    → Agrees file walked → NotLarge walked → ((f : List ℕ) → file ≡ Some f → joined ≡ f) → IsFileResult objects root (answer_by walked joined)
walked_said objects root joined (Some f) (Ok size) e w a n j = file_said objects root f size joined e a (j f refl)
walked_said objects root joined (Some f) (Err fault) e w a n j = absurd a
walked_said objects root joined None (Ok size) e w a n j = absurd a
walked_said objects root joined None (Err fault) e w a n j = fault_said objects root fault (λ z. n (ap Err z)) (ap fault_of w)

module _ (objects : List StoredObject) (root : ExGuid) where
  abbrev place : ℕ
  place = place_of objects root

  abbrev pub of_root : FileObject → Option (List ℕ)
  of_root o = cond (eqb (length o.references) 0) (Some []) (node_file (file_below (stored_objects objects) 7) o)

  -- the file and the walk of a root that is there
  pub file_found : (o : StoredObject) → find_stored objects root ≡ Some o → stored_file objects root ≡ of_root (as_file_object o)
  file_found o e = ap (option_and_then of_root) (find_is objects root ∙ ap (option_map as_file_object) e)

  pub walk_found : (o : StoredObject) → find_stored objects root ≡ Some o → walk_root objects root ≡ walk_from objects o
  walk_found o e = ap (λ (p : Option StoredObject). arrived root (option_map (walk_from objects) p)) e

  abbrev pub walk_node : StoredObject → Result ℕ NodeFault
  walk_node o = behind o (node_size o.bytes) (total (map (arrive objects (walk objects 7)) o.references))

  node_said : (o : StoredObject) → find_stored objects root ≡ Some o → slice_get objects place ≡ Some o → eqb (length o.references) 0 ≡ false → IsFileResult objects root (node_answer objects place o)
  node_said o e at some =
      let walked = walk_found o e ∙ ap (λ (b : Bool). cond b (Ok 0) (walk_node o)) some in
      let file = file_found o e ∙ ap (λ (b : Bool). cond b (Some []) (node_file (file_below (stored_objects objects) 7) (as_file_object o))) some in
      let agrees = subst (λ (w : Result ℕ NodeFault). Agrees (stored_file objects root) w) walked (root_is objects root) in
      subst (λ (w : Result ℕ NodeFault). IsFileResult objects root (answer_by w (joined_from objects place))) (sym (node_is objects (walk objects 7) (below_table objects) refl o some))
      (walked_said objects root (joined_from objects place) (stored_file objects root) (walk_node o) refl walked agrees (node_fault objects 7 (walk_fault objects 7) o)
      (λ f g. node_joined objects 7 (omega arith) (is_joined objects 7 (omega arith)) place o f at some (sym file ∙ g)))

  root_said : (found : Option StoredObject) → find_stored objects root ≡ found → slice_get objects place ≡ found → IsFileResult objects root (answer_at objects root place found)
  root_said None e at = ap (λ (p : Option StoredObject). fault_of (arrived root (option_map (walk_from objects) p))) e
  root_said (Some o) e at =
      elim (cases_Bool (eqb (length o.references) 0)) [
        | inl y ↦
            let file = file_found o e ∙ ap (λ (b : Bool). cond b (Some []) (node_file (file_below (stored_objects objects) 7) (as_file_object o))) y in
            subst (λ (b : Bool). IsFileResult objects root (cond b (Ok []) (node_answer objects place o))) (sym y) (file, omega arith)
        | inr n ↦ subst (λ (b : Bool). IsFileResult objects root (cond b (Ok []) (node_answer objects place o))) (sym n) (node_said o e at n)
      ]

  pub answer_said : IsFileResult objects root (file_answer objects root)
  answer_said = root_said (slice_get objects place) (find_at (λ o. same_id o.id root) objects) refl

-- ---- no other answer says it

no_fault : (objects : List StoredObject) (root : ExGuid) (file : List ℕ) → stored_file objects root ≡ Some file → first_fault objects root ≡ None
no_fault objects root file e = go (walk_root objects root) (subst (λ (o : Option (List ℕ)). Agrees o (walk_root objects root)) e (root_is objects root)) where
  go : (walked : Result ℕ NodeFault) → Agrees (Some file) walked → fault_of walked ≡ None
  go (Ok size) a = refl
  go (Err fault) a = absurd a

module _ (objects : List StoredObject) (root : ExGuid) where
  not_both : (file : List ℕ) (fault : NodeFault) {A : Type 0} → stored_file objects root ≡ Some file → first_fault objects root ≡ Some fault → A
  not_both file fault e f = let n : None ≡ Some fault = sym (no_fault objects root file e) ∙ f in absurd cc

  one_file : (f g : List ℕ) → stored_file objects root ≡ Some f → stored_file objects root ≡ Some g → f ≡ g
  one_file f g e h = same_Some f g (sym e ∙ h)

  one_fault : (f g : NodeFault) → first_fault objects root ≡ Some f → first_fault objects root ≡ Some g → ◌≡◌ {A = Result (List ℕ) NodeFault} (Err f) (Err g)
  one_fault f g e h = ap Err (same_Some f g (sym e ∙ h))

  pub file_only : (file : List ℕ) → IsFile objects root file → (a : Result (List ℕ) NodeFault) → IsFileResult objects root a → IsOrNoMemory a (Ok file)
  file_only file h (Ok f) s = inl (ap Ok (one_file f file s.0 h.0))
  file_only file h (Err (Absent id)) s = not_both file _ h.0 s
  file_only file h (Err TooHigh) s = not_both file _ h.0 s
  file_only file h (Err (NotANode id)) s = not_both file _ h.0 s
  file_only file h (Err (SizeDiffers said found)) s = not_both file _ h.0 s
  file_only file h (Err TooLarge) s = let e = one_file s.0 file s.1 h.0 in absurd (omega (arith, h.1, s.2, ap (λ (l : List ℕ). length l) e))
  file_only file h (Err NoMemory) s = inr refl

  pub large_only : IsTooLarge objects root → (a : Result (List ℕ) NodeFault) → IsFileResult objects root a → IsOrNoMemory a (Err TooLarge)
  large_only h (Ok f) s = let e = one_file f h.0 s.0 h.1 in absurd (omega (arith, s.1, h.2, ap (λ (l : List ℕ). length l) e))
  large_only h (Err (Absent id)) s = not_both h.0 _ h.1 s
  large_only h (Err TooHigh) s = not_both h.0 _ h.1 s
  large_only h (Err (NotANode id)) s = not_both h.0 _ h.1 s
  large_only h (Err (SizeDiffers said found)) s = not_both h.0 _ h.1 s
  large_only h (Err TooLarge) s = inl refl
  large_only h (Err NoMemory) s = inr refl

  pub fault_only : (fault : NodeFault) → first_fault objects root ≡ Some fault → (a : Result (List ℕ) NodeFault) → IsFileResult objects root a → IsOrNoMemory a (Err fault)
  fault_only fault h (Ok f) s = not_both f fault s.0 h
  fault_only fault h (Err (Absent id)) s = inl (one_fault _ fault s h)
  fault_only fault h (Err TooHigh) s = inl (one_fault _ fault s h)
  fault_only fault h (Err (NotANode id)) s = inl (one_fault _ fault s h)
  fault_only fault h (Err (SizeDiffers said found)) s = inl (one_fault _ fault s h)
  fault_only fault h (Err TooLarge) s = not_both s.0 fault s.1 h
  fault_only fault h (Err NoMemory) s = inr refl

  -- an answer that is the one of the objects, unless memory was wanting
  pub answer_of : (r : Result (List ℕ) NodeFault) → IsOrNoMemory r (file_answer objects root) → IsFileResult objects root r
  answer_of r (inl e) = subst (IsFileResult objects root) (sym e) (answer_said objects root)
  answer_of r (inr e) = subst (IsFileResult objects root) (sym e) tt

-- ---- the code's cases

-- the object at a root's place has references
-- the answer at a root with references
pub at_node : (objects : List StoredObject) (root : ExGuid) (place : ℕ) (top : StoredObject) → place ≡ place_of objects root → place < length objects → top ≡ get_or objects place top
    → eqb (length top.references) 0 ≡ false → node_answer objects place top ≡ file_answer objects root
at_node objects root place top e lt is more =
    let here : slice_get objects place ≡ Some top = slice_get-get_or objects place top lt ∙ ap Some (sym is) in
    sym (ap (λ (b : Bool). cond b (Ok []) (node_answer objects place top)) more) ∙ ap (answer_at objects root place) (sym here) ∙ ap (λ (p : ℕ). answer_at objects root p (slice_get objects p)) e

-- the objects under another name
pub of_list : (list objects : List StoredObject) (root : ExGuid) (r : Result (List ℕ) NodeFault) → list ≡ objects → IsOrNoMemory r (file_answer list root) → IsOrNoMemory r (file_answer objects root)
of_list list objects root r e h = subst (λ (l : List StoredObject). IsOrNoMemory r (file_answer l root)) e h

-- what an answer says, both ways
module _ (objects : List StoredObject) (root : ExGuid) (r : Result (List ℕ) NodeFault) (is : IsOrNoMemory r (file_answer objects root)) where
  said : (a : Result (List ℕ) NodeFault) → r ≡ a → IsFileResult objects root a
  said a e = subst (IsFileResult objects root) e (answer_of objects root r is)

  pub exactly_file : (file : List ℕ) → Exactly r (Ok file) (IsFile objects root file)
  exactly_file file = (λ e. said (Ok file) e, λ h. file_only objects root file h r (answer_of objects root r is))

  pub exactly_large : Exactly r (Err TooLarge) (IsTooLarge objects root)
  exactly_large = (λ e. said (Err TooLarge) e, λ h. large_only objects root h r (answer_of objects root r is))

  back : (fault : NodeFault) → first_fault objects root ≡ Some fault → IsOrNoMemory r (Err fault)
  back fault h = fault_only objects root fault h r (answer_of objects root r is)

  pub exactly_absent : (id : ExGuid) → Exactly r (Err (Absent id)) (first_fault objects root ≡ Some (Absent id))
  exactly_absent id = (λ e. said (Err (Absent id)) e, back (Absent id))

  pub exactly_high : Exactly r (Err TooHigh) (first_fault objects root ≡ Some TooHigh)
  exactly_high = (λ e. said (Err TooHigh) e, back TooHigh)

  pub exactly_no_node : (id : ExGuid) → Exactly r (Err (NotANode id)) (first_fault objects root ≡ Some (NotANode id))
  exactly_no_node id = (λ e. said (Err (NotANode id)) e, back (NotANode id))

  pub exactly_size : (said_size found : ℕ) → Exactly r (Err (SizeDiffers said_size found)) (first_fault objects root ≡ Some (SizeDiffers said_size found))
  exactly_size said_size found = (λ e. said (Err (SizeDiffers said_size found)) e, back (SizeDiffers said_size found))
