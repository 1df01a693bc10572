-- The file of what is cut is the file that was cut.
use Rattle.std.proofs.Common.{◌≡◌, ℕ, zero, suc, ◌+◌, ◌*◌, ◌^◌, ◌<◌, ◌≤◌, true, false, ◌==◌, List, [], ◌∷◌, ◌++◌, length, map, take, drop, Option, Some, get_or, ◌⊎◌, refl, sym, ap, ◌∙◌, arith, append_assoc, inl, inr}
use Rattle.std.specs.Prelude.{slice_get}
use Rattle.std.specs.Int.{to_be_bytes, w32}
use Rattle.std.specs.List.{AllByRecursion, range_with_len}
use Rattle.std.proofs.lemmas.Bool.{cases_lt}
use Rattle.std.proofs.lemmas.Bool.Decides.{nat_tests}
use Rattle.std.proofs.lemmas.Grind.{flat_map-append}
use Rattle.std.proofs.lemmas.List.{length-append, length-map, length-take, take-append-drop}
use Rattle.sha2.specs.Sha256.{sha256, digest_bytes, final_hash, initial_hash_256}
use Rattle.compact_values.specs.declared.guid.Guid.{Guid}
use Rattle.compact_values.specs.declared.ids.ExGuid.{ExGuid}
use Rattle.doc_model.specs.declared.element.Element.{Element}
use Rattle.doc_model.specs.rules.FileObjects.{FileObject, find_object, joined, node_file, file_below, root_file}
use Rattle.doc_model.specs.rules.Files.{as_file_object}
use Rattle.doc_model.proofs.NodeLaws.{node_size-node_bytes}
use Rattle.file_nodes.specs.Pieces.{pieces_within, pieces}
use Rattle.file_nodes.specs.Chunks.{id_of}
use Rattle.file_nodes.specs.Chunking.{Chunk, leaf, node, numbered, objects_of, ids_of, joined_files, leaves, levels, file_objects}
use Rattle.file_nodes.proofs.FindLaws.{find-consecutive}
use Rattle.file_nodes.proofs.ChunkLaws.{length-numbered, ids_of-numbered, joined_files-leaves, levels-few, levels-many, joined_files-top}

-- ---- hashes

length-digest_bytes : (h : List ℕ) (n : ℕ) → length (digest_bytes h n) ≡ 4 * n
unfolding digest_bytes
length-digest_bytes h zero = refl
length-digest_bytes h (suc n) =
    let word : length (to_be_bytes w32 (get_or h n 0)) ≡ 4 = refl in
    omega (arith, length-append (digest_bytes h n) (to_be_bytes w32 (get_or h n 0)), length-digest_bytes h n)

pub length-sha256 : (m : List ℕ) → length (sha256 m) ≡ 32
unfolding sha256
length-sha256 m = length-digest_bytes (final_hash initial_hash_256 m) 8

-- ---- facts on each item of a list

pub each-split : {X : Type 0} (P : X → Type 0) (xs ys : List X) → AllByRecursion P (xs ++ ys) → AllByRecursion P xs × AllByRecursion P ys
each-split {X} P [] ys h = (tt, h)
each-split {X} P (x ∷ xs) ys h = let rest = each-split P xs ys h.1 in ((h.0, rest.0), rest.1)

-- ---- parts whose files are known

-- each of the parts has its file
abbrev pub HasFiles : (ExGuid → Option (List ℕ)) → List Chunk → Type 0
HasFiles file_at ps = AllByRecursion (λ p. file_at p.object.id ≡ Some p.file) ps

joined-files : (file_at : ExGuid → Option (List ℕ)) (ps : List Chunk) → HasFiles file_at ps → joined file_at (ids_of ps) ≡ Some (joined_files ps)
joined-files file_at [] h = refl
joined-files file_at (p ∷ ps) h = rw (h.0, joined-files file_at ps h.1)

-- a node over parts that have their files has the joined one
node_has : (file_at : ExGuid → Option (List ℕ)) (added : List Element) (kind : ℕ) (guid : Guid) (v : ℕ) (ps : List Chunk) → (kind ≡ 0x1F) ⊎ (kind ≡ 0x20)
    → HasFiles file_at ps → length (joined_files ps) < 2 ^ 64
    → node_file file_at (as_file_object added (node kind guid v ps).object) ≡ Some (joined_files ps)
node_has file_at added kind guid v ps is h fits =
    let file = joined_files ps in
    let hash : length (sha256 file) ≤ 32 = omega (arith, length-sha256 file) in
    let same : length file == length file ≡ true = grind (arith, nat_tests) in
    rw (joined-files file_at ps h, node_size-node_bytes kind (sha256 file) (length file) is hash fits, same)

-- a group of parts that a node can join
pub record IsGroup (file_at : ExGuid → Option (List ℕ)) (g : List Chunk) : Type 0 where
  pub some : 0 < length g
  pub have : HasFiles file_at g
  pub fits : length (joined_files g) < 2 ^ 64

joined_parts : (n : ℕ) (ps : List Chunk) → length (joined_files (take n ps)) + length (joined_files (drop n ps)) ≡ length (joined_files ps)
joined_parts n ps =
    omega (
      arith,
      length-append (joined_files (take n ps)) (joined_files (drop n ps)),
      ap length (flat_map-append (λ (p : Chunk). p.file) (take n ps) (drop n ps)),
      ap (λ (l : List Chunk). length (joined_files l)) (take-append-drop n ps),
    )

groups_within : (file_at : ExGuid → Option (List ℕ)) (a n : ℕ) (ps : List Chunk) → 0 < n → HasFiles file_at ps → length (joined_files ps) < 2 ^ 64
    → AllByRecursion (IsGroup file_at) (pieces_within a n ps)
unfolding pieces_within
groups_within file_at zero n ps f h fits = tt
groups_within file_at (suc a) n [] f h fits = tt
groups_within file_at (suc a) n (p ∷ ps) f h fits =
    let all : HasFiles file_at (take n (p ∷ ps) ++ drop n (p ∷ ps)) = rw take-append-drop h in
    let halves = each-split (λ (q : Chunk). file_at q.object.id ≡ Some q.file) (take n (p ∷ ps)) (drop n (p ∷ ps)) all in
    let sum = joined_parts n (p ∷ ps) in (
      record { some = omega (arith, length-take n (p ∷ ps)); have = halves.0; fits = omega arith },
      groups_within file_at a n (drop n (p ∷ ps)) f halves.1 (omega arith),
    )

-- ---- objects that are found

module _ (objects : List FileObject) (added : List Element) where
  -- each part's object is found by its id
  abbrev pub AreFound : List Chunk → Type 0
  AreFound ps = AllByRecursion (λ p. find_object objects p.object.id ≡ Some (as_file_object added p.object)) ps

  pub leaves_have : (n : ℕ) (guid : Guid) (v : ℕ) (ps : List (List ℕ)) → AreFound (numbered (leaf guid) v ps) → HasFiles (file_below objects (suc n)) (numbered (leaf guid) v ps)
  unfolding file_below
  leaves_have n guid v [] h = tt
  leaves_have n guid v (p ∷ ps) h = (rw h.0, leaves_have n guid (v + 1) ps h.1)

  pub nodes_have : (n : ℕ) (guid : Guid) (v : ℕ) (groups : List (List Chunk)) → AreFound (numbered (node 0x1F guid) v groups) → AllByRecursion (IsGroup (file_below objects n)) groups
      → HasFiles (file_below objects (suc n)) (numbered (node 0x1F guid) v groups)
  unfolding file_below
  nodes_have n guid v [] h is = tt
  nodes_have n guid v (g ∷ groups) h is =
      let some : 0 < length (ids_of g) = omega (arith, is.0.some, length-map g (λ (p : Chunk). p.object.id)) in
      let refers : length (ids_of g) == 0 ≡ false = grind (arith, nat_tests) in (
        rw (h.0, refers) (node_has (file_below objects n) added 0x1F guid v g (inl refl) is.0.have is.0.fits),
        nodes_have n guid (v + 1) groups h.1 is.1,
      )

  -- the file of a root over parts that have theirs
  pub root_has : (guid : Guid) (v : ℕ) (ps : List Chunk) → find_object objects (id_of guid v) ≡ Some (as_file_object added (node 0x20 guid v ps).object)
      → HasFiles (file_below objects 7) ps → length (joined_files ps) < 2 ^ 64 → root_file objects (id_of guid v) ≡ Some (joined_files ps)
  root_has guid v [] found h fits = rw found
  root_has guid v (p ∷ ps) found h fits =
      let refers : length (ids_of (p ∷ ps)) == 0 ≡ false = grind (arith, nat_tests) in
      rw (found, refers) (node_has (file_below objects 7) added 0x20 guid v (p ∷ ps) (inr refl) h fits)

-- ---- parts with consecutive ids

abbrev pub IsRun : Guid → ℕ → List Chunk → Type 0
IsRun guid v ps = ids_of ps ≡ map (id_of guid) (range_with_len v (length ps))

run-numbered : {X : Type 0} (make : ℕ → X → Chunk) (guid : Guid) → ((v : ℕ) (x : X) → (make v x).object.id ≡ id_of guid v) → (v : ℕ) (xs : List X) → IsRun guid v (numbered make v xs)
run-numbered {X} make guid h v xs =
    ids_of-numbered make guid h v xs ∙ ap (λ (n : ℕ). map (id_of guid) (range_with_len v n)) (sym (length-numbered make v xs))

run-append : (guid : Guid) (v w : ℕ) (xs ys : List Chunk) → w ≡ v + length xs → IsRun guid v xs → IsRun guid w ys → IsRun guid v (xs ++ ys)
run-append guid v w [] ys e f g = let same : w ≡ v = omega arith in rw same at g
run-append guid v w (x ∷ xs) ys e f g =
    let here : x.object.id ≡ id_of guid v = cc in
    let others : ids_of xs ≡ map (id_of guid) (range_with_len (v + 1) (length xs)) = cc in
    let behind : IsRun guid (v + 1) (xs ++ ys) = run-append guid (v + 1) w xs ys (omega arith) others g in
    ap (λ (l : List ExGuid). x.object.id ∷ l) behind ∙ ap (λ (id : ExGuid). id ∷ map (id_of guid) (range_with_len (v + 1) (length (xs ++ ys)))) here

run-at : (guid : Guid) (v : ℕ) (before : List Chunk) (p : Chunk) (rest : List Chunk) → IsRun guid v (before ++ p ∷ rest) → p.object.id ≡ id_of guid (v + length before)
run-at guid v [] p rest f = let here : p.object.id ≡ id_of guid v = cc in let same : v + 0 ≡ v = omega arith in rw same here
run-at guid v (b ∷ before) p rest f =
    let others : ids_of (before ++ p ∷ rest) ≡ map (id_of guid) (range_with_len (v + 1) (length (before ++ p ∷ rest))) = cc in
    let same : v + 1 + length before ≡ v + length (b ∷ before) = omega arith in
    run-at guid (v + 1) before p rest others ∙ ap (id_of guid) same

module _ (added : List Element) where
  -- the objects of parts, as a file is made of them
  abbrev pub of_chunks : List Chunk → List FileObject
  of_chunks ps = map (as_file_object added) (objects_of ps)

  ids-of_chunks : (ps : List Chunk) → map (λ o. o.id) (of_chunks ps) ≡ ids_of ps
  ids-of_chunks [] = refl
  ids-of_chunks (p ∷ ps) = ap (λ (l : List ExGuid). p.object.id ∷ l) (ids-of_chunks ps)

  length-of_chunks : (ps : List Chunk) → length (of_chunks ps) ≡ length ps
  length-of_chunks ps = length-map (objects_of ps) (as_file_object added) ∙ length-map ps (λ (p : Chunk). p.object)

  part-at : (before : List Chunk) (p : Chunk) (rest : List Chunk) → slice_get (of_chunks (before ++ p ∷ rest)) (length before) ≡ Some (as_file_object added p.object)
  part-at [] p rest = refl
  part-at (b ∷ before) p rest = part-at before p rest

  found_at : (guid : Guid) (v : ℕ) (before : List Chunk) (p : Chunk) (rest : List Chunk) → IsRun guid v (before ++ p ∷ rest)
      → find_object (of_chunks (before ++ p ∷ rest)) p.object.id ≡ Some (as_file_object added p.object)
  found_at guid v before p rest f =
      let all = before ++ p ∷ rest in
      let ids : map (λ o. o.id) (of_chunks all) ≡ map (id_of guid) (range_with_len v (length (of_chunks all)))
      = ids-of_chunks all ∙ f ∙ ap (λ (n : ℕ). map (id_of guid) (range_with_len v n)) (sym (length-of_chunks all)) in
      ap (find_object (of_chunks all)) (run-at guid v before p rest f)
      ∙ find-consecutive (λ (o : FileObject). o.id) guid v (v + length before) (length before) (of_chunks all) ids refl
      ∙ part-at before p rest

  each_found : (guid : Guid) (v : ℕ) (all before rest : List Chunk) → all ≡ before ++ rest → IsRun guid v all → AreFound (of_chunks all) added rest
  each_found guid v all before [] e f = tt
  each_found guid v all before (p ∷ rest) e f =
      let run : IsRun guid v (before ++ p ∷ rest) = rw e at f in
      let here : find_object (of_chunks (before ++ p ∷ rest)) p.object.id ≡ Some (as_file_object added p.object) = found_at guid v before p rest run in
      let again : all ≡ before ++ p ∷ [] ++ rest = e ∙ sym (append_assoc before (p ∷ []) rest) in
      (ap (λ (l : List Chunk). find_object (of_chunks l) p.object.id) e ∙ here, each_found guid v all (before ++ p ∷ []) rest again f)

-- ---- the levels of a file

module _ (bytes : List ℕ) (guid : Guid) (v : ℕ) (short : length bytes ≤ 16777216) where
  run_of_leaves : IsRun guid v (leaves bytes guid v)
  run_of_leaves = run-numbered (leaf guid) guid (λ n p. refl) v (pieces 65536 bytes)

  run_of_levels : IsRun guid v (levels bytes guid v).all
  run_of_levels = elim (cases_lt 64 (length (leaves bytes guid v))) [
    | inl many ↦
        let next = v + length (leaves bytes guid v) in
        let nodes = numbered (node 0x1F guid) next (pieces 64 (leaves bytes guid v)) in
        let run = run-append guid v next (leaves bytes guid v) nodes refl run_of_leaves (run-numbered (node 0x1F guid) guid (λ n g. refl) next (pieces 64 (leaves bytes guid v))) in
        rw (levels-many bytes guid v many short) run
    | inr few ↦ rw (levels-few bytes guid v few) run_of_leaves
  ]

  fits_leaves : length (joined_files (leaves bytes guid v)) < 2 ^ 64
  fits_leaves = omega (arith, ap length (joined_files-leaves bytes guid v))

  -- where the objects of all parts are found, those of the top level have their files
  top_have : (objects : List FileObject) (added : List Element) → AreFound objects added (levels bytes guid v).all → HasFiles (file_below objects 7) (levels bytes guid v).top
  top_have objects added h = elim (cases_lt 64 (length (leaves bytes guid v))) [
    | inl many ↦
        let next = v + length (leaves bytes guid v) in
        let groups = pieces 64 (leaves bytes guid v) in
        let nodes = numbered (node 0x1F guid) next groups in
        let all : AreFound objects added (leaves bytes guid v ++ nodes) = rw (levels-many bytes guid v many short) at h in
        let halves = each-split (λ (p : Chunk). find_object objects p.object.id ≡ Some (as_file_object added p.object)) (leaves bytes guid v) nodes all in
        let below = leaves_have objects added 5 guid v (pieces 65536 bytes) halves.0 in
        let fine = groups_within (file_below objects 6) (length (leaves bytes guid v)) 64 (leaves bytes guid v) (omega arith) below fits_leaves in
        rw (levels-many bytes guid v many short) (nodes_have objects added 6 guid next groups halves.1 fine)
    | inr few ↦
        let all : AreFound objects added (leaves bytes guid v) = rw (levels-few bytes guid v few) at h in
        rw (levels-few bytes guid v few) (leaves_have objects added 6 guid v (pieces 65536 bytes) all)
  ]

-- the file of the root
pub root_file-file_objects : (bytes : List ℕ) (guid : Guid) (v : ℕ) (added : List Element) → length bytes ≤ 16777216
    → root_file (map (as_file_object added) (file_objects bytes guid v)) (id_of guid v) ≡ Some bytes
root_file-file_objects bytes guid v added short =
    let below = levels bytes guid (v + 1) in
    let root = node 0x20 guid v below.top in
    let parts = root ∷ below.all in
    let run : IsRun guid v parts = ap (λ (l : List ExGuid). id_of guid v ∷ l) (run_of_levels bytes guid (v + 1) short) in
    let found = each_found added guid v parts [] parts refl run in
    let have = top_have bytes guid (v + 1) short (of_chunks added parts) added found.1 in
    let file : joined_files below.top ≡ bytes = joined_files-top bytes guid (v + 1) short in
    root_has (of_chunks added parts) added guid v below.top found.0 have (omega (arith, ap length file)) ∙ ap (λ (l : List ℕ). Some l) file
