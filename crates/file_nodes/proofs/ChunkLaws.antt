-- What holds of the parts of a file.
use Rattle.std.proofs.Common.{◌≡◌, ℕ, zero, suc, ◌+◌, ◌<◌, ◌≤◌, min, List, [], ◌∷◌, ◌++◌, length, map, refl, sym, ap, ◌∙◌, arith, append_assoc, inl, inr, Result, Ok, Err, IfOk, OnOk}
use Rattle.std.specs.List.{flat_map, range_with_len}
use Rattle.std.specs.Int.{div_ceil}
use Rattle.std.proofs.lemmas.Bool.{cases_lt, le-leb, lt-leb}
use Rattle.std.proofs.lemmas.Grind.{flat_map-append}
use Rattle.std.proofs.lemmas.List.{length-append, length-map, map-append, append-nil, nil_from_length}
use Rattle.sha2.specs.Sha256.{sha256}
use Rattle.compact_values.specs.declared.guid.Guid.{Guid}
use Rattle.compact_values.specs.declared.ids.ExGuid.{ExGuid}
use Rattle.doc_model.specs.rules.Nodes.{node_bytes}
use Rattle.file_nodes.specs.Pieces.{pieces}
use Rattle.file_nodes.specs.Chunks.{id_of}
use Rattle.file_nodes.specs.Chunking.{Chunk, Levels, inline, leaf, node, numbered, objects_of, ids_of, joined_files, levels_within, leaves, levels, file_objects}
use Rattle.file_nodes.proofs.PieceLaws.{pieces-nil, pieces-front, pieces-append, flat_map-pieces, length-pieces}

-- ---- parts with consecutive values

module _ {X : Type 0} (make : ℕ → X → Chunk) where
  pub numbered-append : (v : ℕ) (xs ys : List X) → numbered make v (xs ++ ys) ≡ numbered make v xs ++ numbered make (v + length xs) ys
  numbered-append v [] ys = ap (λ (n : ℕ). numbered make n ys) (omega arith)
  numbered-append v (x ∷ xs) ys =
      let same : v + 1 + length xs ≡ v + length (x ∷ xs) = omega arith in
      ap (λ (l : List Chunk). make v x ∷ l) (numbered-append (v + 1) xs ys ∙ ap (λ (n : ℕ). numbered make (v + 1) xs ++ numbered make n ys) same)

  pub length-numbered : (v : ℕ) (xs : List X) → length (numbered make v xs) ≡ length xs
  length-numbered v [] = refl
  length-numbered v (x ∷ xs) = ap (λ (n : ℕ). suc n) (length-numbered (v + 1) xs)

  pub ids_of-numbered : (guid : Guid) → ((v : ℕ) (x : X) → (make v x).object.id ≡ id_of guid v) → (v : ℕ) (xs : List X) → ids_of (numbered make v xs) ≡ map (id_of guid) (range_with_len v (length xs))
  ids_of-numbered guid h v [] = refl
  ids_of-numbered guid h v (x ∷ xs) =
      ap (λ (l : List ExGuid). (make v x).object.id ∷ l) (ids_of-numbered guid h (v + 1) xs)
      ∙ ap (λ (id : ExGuid). id ∷ map (id_of guid) (range_with_len (v + 1) (length xs))) (h v x)

-- ---- leaves

joined_leaves : (guid : Guid) (v : ℕ) (ps : List (List ℕ)) → joined_files (numbered (leaf guid) v ps) ≡ flat_map (λ p. p) ps
joined_leaves guid v [] = refl
joined_leaves guid v (p ∷ ps) = ap (λ (l : List ℕ). p ++ l) (joined_leaves guid (v + 1) ps)

pub joined_files-leaves : (bytes : List ℕ) (guid : Guid) (v : ℕ) → joined_files (leaves bytes guid v) ≡ bytes
joined_files-leaves bytes guid v = joined_leaves guid v (pieces 65536 bytes) ∙ flat_map-pieces 65536 bytes (omega arith)

pub length-leaves : (bytes : List ℕ) (guid : Guid) (v : ℕ) → length (leaves bytes guid v) ≡ div_ceil (length bytes) 65536
length-leaves bytes guid v = length-numbered (leaf guid) v (pieces 65536 bytes) ∙ length-pieces 65536 bytes (omega arith)

pub ids_of-leaves : (bytes : List ℕ) (guid : Guid) (v : ℕ) → ids_of (leaves bytes guid v) ≡ map (id_of guid) (range_with_len v (div_ceil (length bytes) 65536))
ids_of-leaves bytes guid v =
    ids_of-numbered (leaf guid) guid (λ n p. refl) v (pieces 65536 bytes) ∙ ap (λ (n : ℕ). map (id_of guid) (range_with_len v n)) (length-pieces 65536 bytes (omega arith))

pub leaves-nil : (bytes : List ℕ) (guid : Guid) (v : ℕ) → length bytes ≡ 0 → leaves bytes guid v ≡ []
leaves-nil bytes guid v e = ap (λ (l : List ℕ). leaves l guid v) (nil_from_length bytes e) ∙ ap (numbered (leaf guid) v) (pieces-nil 65536)

-- the first leaf, and those of what is left
pub leaves-front : (guid : Guid) (v : ℕ) (bytes front rest : List ℕ) → bytes ≡ front ++ rest → length front ≡ min 65536 (length bytes) → 0 < length bytes
    → objects_of (leaves bytes guid v) ≡ inline guid v [] front ∷ objects_of (leaves rest guid (v + 1))
leaves-front guid v bytes front rest e f g = ap (λ (l : List (List ℕ)). objects_of (numbered (leaf guid) v l)) (pieces-front 65536 bytes front rest (omega arith) e f g)

-- ---- nodes over leaves

-- of so many whole leaves, and of what is left
whole_leaves : (guid : Guid) (v : ℕ) (front rest : List ℕ) → length front ≡ 4194304
    → leaves (front ++ rest) guid v ≡ leaves front guid v ++ leaves rest guid (v + div_ceil (length front) 65536)
whole_leaves guid v front rest e =
    ap (numbered (leaf guid) v) (pieces-append 64 65536 front rest (omega arith) e)
    ∙ numbered-append (leaf guid) v (pieces 65536 front) (pieces 65536 rest)
    ∙ ap (λ (n : ℕ). leaves front guid v ++ leaves rest guid (v + n)) (length-pieces 65536 front (omega arith))

leaves-append : (guid : Guid) (v : ℕ) (front rest : List ℕ) → length front ≡ min 4194304 (length (front ++ rest))
    → leaves (front ++ rest) guid v ≡ leaves front guid v ++ leaves rest guid (v + div_ceil (length front) 65536)
leaves-append guid v front rest e =
    let sum = length-append front rest in
    elim (cases_lt (length (front ++ rest)) 4194304) [
      | inl short ↦
          let none : length rest ≡ 0 = omega arith in
          let nothing : leaves rest guid (v + div_ceil (length front) 65536) ≡ [] = leaves-nil rest guid (v + div_ceil (length front) 65536) none in
          ap (λ (l : List ℕ). leaves (front ++ l) guid v) (nil_from_length rest none)
          ∙ ap (λ (l : List ℕ). leaves l guid v) (append-nil front)
          ∙ sym (ap (λ (l : List Chunk). leaves front guid v ++ l) nothing ∙ append-nil (leaves front guid v))
      | inr long ↦ whole_leaves guid v front rest (omega arith)
    ]

-- the first 64 of them, and the others
first_group : (guid : Guid) (v : ℕ) (front rest : List ℕ) → length front ≡ min 4194304 (length (front ++ rest)) → 0 < length (front ++ rest)
    → pieces 64 (leaves (front ++ rest) guid v) ≡ leaves front guid v ∷ pieces 64 (leaves rest guid (v + div_ceil (length front) 65536))
first_group guid v front rest e f =
    let all = length-leaves (front ++ rest) guid v in
    let first = length-leaves front guid v in
    let sum = length-append front rest in
    pieces-front 64 (leaves (front ++ rest) guid v) (leaves front guid v) (leaves rest guid (v + div_ceil (length front) 65536)) (omega arith) (leaves-append guid v front rest e)
    (omega arith) (omega arith)

pub nodes-front : (kind : ℕ) (guid : Guid) (v w : ℕ) (bytes front rest : List ℕ) → bytes ≡ front ++ rest → length front ≡ min 4194304 (length bytes) → 0 < length bytes
    → numbered (node kind guid) w (pieces 64 (leaves bytes guid v))
    ≡ node kind guid w (leaves front guid v) ∷ numbered (node kind guid) (w + 1) (pieces 64 (leaves rest guid (v + div_ceil (length front) 65536)))
nodes-front kind guid v w bytes front rest e f g =
    let size : length front ≡ min 4194304 (length (front ++ rest)) = f ∙ ap (λ (l : List ℕ). min 4194304 (length l)) e in
    let some : 0 < length (front ++ rest) = omega (arith, ap length e) in
    ap (λ (l : List ℕ). numbered (node kind guid) w (pieces 64 (leaves l guid v))) e
    ∙ ap (numbered (node kind guid) w) (first_group guid v front rest size some)

pub nodes-nil : (kind : ℕ) (guid : Guid) (v w : ℕ) (bytes : List ℕ) → length bytes ≡ 0 → numbered (node kind guid) w (pieces 64 (leaves bytes guid v)) ≡ []
nodes-nil kind guid v w bytes e =
    ap (λ (l : List Chunk). numbered (node kind guid) w (pieces 64 l)) (leaves-nil bytes guid v e) ∙ ap (numbered (node kind guid) w) (pieces-nil 64)

-- the object of a node over parts with these ids and bytes
pub node_is : (kind : ℕ) (guid : Guid) (w : ℕ) (parts : List Chunk) (ids : List ExGuid) (bytes : List ℕ) → ids_of parts ≡ ids → joined_files parts ≡ bytes
    → (node kind guid w parts).object ≡ inline guid w ids (node_bytes kind (sha256 bytes) (length bytes))
node_is kind guid w parts ids bytes e f =
    ap (λ (l : List ExGuid). inline guid w l (node_bytes kind (sha256 (joined_files parts)) (length (joined_files parts)))) e
    ∙ ap (λ (l : List ℕ). inline guid w ids (node_bytes kind (sha256 l) (length l))) f

pub node_over_leaves : (kind : ℕ) (guid : Guid) (v w n : ℕ) (ids : List ExGuid) (bytes : List ℕ) → ids ≡ map (id_of guid) (range_with_len v n) → n ≡ div_ceil (length bytes) 65536
    → inline guid w ids (node_bytes kind (sha256 bytes) (length bytes)) ≡ (node kind guid w (leaves bytes guid v)).object
node_over_leaves kind guid v w n ids bytes e f =
    let same : ids_of (leaves bytes guid v) ≡ ids = ids_of-leaves bytes guid v ∙ sym (e ∙ ap (λ (m : ℕ). map (id_of guid) (range_with_len v m)) f) in
    sym (node_is kind guid w (leaves bytes guid v) ids bytes same (joined_files-leaves bytes guid v))

-- how many nodes there are over the leaves
pub length-nodes : (kind : ℕ) (guid : Guid) (v w : ℕ) (bytes : List ℕ) → length (numbered (node kind guid) w (pieces 64 (leaves bytes guid v))) ≡ div_ceil (length bytes) 4194304
length-nodes kind guid v w bytes =
    let count = length-leaves bytes guid v in
    let groups = length-pieces 64 (leaves bytes guid v) (omega arith) in
    let nodes = length-numbered (node kind guid) w (pieces 64 (leaves bytes guid v)) in
    omega arith

-- ---- levels

few_within : (count : ℕ) (guid : Guid) (v : ℕ) (level : List Chunk) → length level ≤ 64 → levels_within count guid v level ≡ record { all = level; top = level }
unfolding levels_within
few_within zero guid v level f = refl
few_within (suc count) guid v level f = rw (le-leb (length level) 64 f)

-- where the leaves are few, they are the top level
pub levels-few : (bytes : List ℕ) (guid : Guid) (v : ℕ) → length (leaves bytes guid v) ≤ 64 → levels bytes guid v ≡ record { all = leaves bytes guid v; top = leaves bytes guid v }
levels-few bytes guid v f = few_within (length (leaves bytes guid v)) guid v (leaves bytes guid v) f

two_within : (count : ℕ) (guid : Guid) (v : ℕ) (level : List Chunk) → 64 < length level → length (pieces 64 level) ≤ 64 → 0 < count
    → levels_within count guid v level
    ≡ (let nodes = numbered (node 0x1F guid) (v + length level) (pieces 64 level) in record { all = level ++ nodes; top = nodes })
unfolding levels_within
two_within zero guid v level f g h = absurd (omega arith)
two_within (suc count) guid v level f g h =
    let next = v + length level in
    let nodes = numbered (node 0x1F guid) next (pieces 64 level) in
    let few : length nodes ≤ 64 = omega (arith, length-numbered (node 0x1F guid) next (pieces 64 level)) in
    rw (lt-leb (length level) 64 f) (ap (λ (above : Levels). let both : Levels = record { all = level ++ above.all; top = above.top } in both) (few_within count guid next nodes few))

-- where they are more, up to 64 times as many, the nodes over them are the top level
pub levels-many : (bytes : List ℕ) (guid : Guid) (v : ℕ) → 64 < length (leaves bytes guid v) → length bytes ≤ 16777216
    → levels bytes guid v
    ≡ (let nodes = numbered (node 0x1F guid) (v + length (leaves bytes guid v)) (pieces 64 (leaves bytes guid v)) in record { all = leaves bytes guid v ++ nodes; top = nodes })
levels-many bytes guid v f g =
    let count = length-leaves bytes guid v in
    let groups = length-pieces 64 (leaves bytes guid v) (omega arith) in
    two_within (length (leaves bytes guid v)) guid v (leaves bytes guid v) f (omega arith) (omega arith)

-- ---- the levels of a file, by how many leaves it has

module _ (bytes : List ℕ) (guid : Guid) (v : ℕ) where
  pub top-few : div_ceil (length bytes) 65536 ≤ 64 → ids_of (levels bytes guid v).top ≡ map (id_of guid) (range_with_len v (div_ceil (length bytes) 65536))
  top-few f =
      let count = length-leaves bytes guid v in
      ap (λ (l : Levels). ids_of l.top) (levels-few bytes guid v (omega arith)) ∙ ids_of-leaves bytes guid v

  pub all-few : div_ceil (length bytes) 65536 ≤ 64 → objects_of (levels bytes guid v).all ≡ objects_of (leaves bytes guid v)
  all-few f =
      let count = length-leaves bytes guid v in
      ap (λ (l : Levels). objects_of l.all) (levels-few bytes guid v (omega arith))

  pub top-many : 64 < div_ceil (length bytes) 65536 → length bytes ≤ 16777216
      → ids_of (levels bytes guid v).top ≡ map (id_of guid) (range_with_len (v + div_ceil (length bytes) 65536) (div_ceil (length bytes) 4194304))
  top-many f g =
      let count = length-leaves bytes guid v in
      let first = v + length (leaves bytes guid v) in
      let groups = pieces 64 (leaves bytes guid v) in
      ap (λ (l : Levels). ids_of l.top) (levels-many bytes guid v (omega arith) g)
      ∙ ids_of-numbered (node 0x1F guid) guid (λ n ps. refl) first groups
      ∙ ap (λ (n : ℕ). map (id_of guid) (range_with_len first n)) (sym (length-numbered (node 0x1F guid) first groups) ∙ length-nodes 0x1F guid v first bytes)
      ∙ ap (λ (n : ℕ). map (id_of guid) (range_with_len (v + n) (div_ceil (length bytes) 4194304))) count

  pub all-many : 64 < div_ceil (length bytes) 65536 → length bytes ≤ 16777216
      → objects_of (levels bytes guid v).all ≡ objects_of (leaves bytes guid v) ++ objects_of (numbered (node 0x1F guid) (v + div_ceil (length bytes) 65536) (pieces 64 (leaves bytes guid v)))
  all-many f g =
      let count = length-leaves bytes guid v in
      let first = v + length (leaves bytes guid v) in
      let nodes : ℕ → List Chunk = λ n. numbered (node 0x1F guid) (v + n) (pieces 64 (leaves bytes guid v)) in
      ap (λ (l : Levels). objects_of l.all) (levels-many bytes guid v (omega arith) g)
      ∙ map-append (λ (p : Chunk). p.object) (leaves bytes guid v) (nodes (length (leaves bytes guid v)))
      ∙ ap (λ (n : ℕ). objects_of (leaves bytes guid v) ++ objects_of (nodes n)) count

  -- the leaves and the nodes are no more than 260
  pub length-all : length bytes ≤ 16777216 → length (objects_of (levels bytes guid v).all) ≤ 260
  length-all g =
      let count = length-leaves bytes guid v in
      elim (cases_lt 64 (div_ceil (length bytes) 65536)) [
        | inl many ↦
            let nodes = numbered (node 0x1F guid) (v + div_ceil (length bytes) 65536) (pieces 64 (leaves bytes guid v)) in
            omega (
              arith,
              ap length (all-many many g),
              length-append (objects_of (leaves bytes guid v)) (objects_of nodes),
              length-map (leaves bytes guid v) (λ (p : Chunk). p.object),
              length-map nodes (λ (p : Chunk). p.object),
              length-nodes 0x1F guid v (v + div_ceil (length bytes) 65536) bytes,
            )
        | inr few ↦ omega (arith, ap length (all-few few), length-map (leaves bytes guid v) (λ (p : Chunk). p.object))
      ]

pub length-file_objects : (bytes : List ℕ) (guid : Guid) (v : ℕ) → length bytes ≤ 16777216 → length (file_objects bytes guid v) ≤ 261
length-file_objects bytes guid v f = omega (arith, length-all bytes guid (v + 1) f)

-- ---- the root

-- its file is that of all parts of the top level
joined-many : (guid : Guid) (v : ℕ) (groups : List (List Chunk)) → joined_files (numbered (node 0x1F guid) v groups) ≡ joined_files (flat_map (λ g. g) groups)
joined-many guid v [] = refl
joined-many guid v (g ∷ groups) =
    ap (λ (l : List ℕ). joined_files g ++ l) (joined-many guid (v + 1) groups) ∙ sym (flat_map-append (λ (p : Chunk). p.file) g (flat_map (λ h. h) groups))

pub joined_files-top : (bytes : List ℕ) (guid : Guid) (v : ℕ) → length bytes ≤ 16777216 → joined_files (levels bytes guid v).top ≡ bytes
joined_files-top bytes guid v f =
    let count = length-leaves bytes guid v in
    elim (cases_lt 64 (div_ceil (length bytes) 65536)) [
      | inl many ↦
          ap (λ (l : Levels). joined_files l.top) (levels-many bytes guid v (omega arith) f)
          ∙ joined-many guid (v + length (leaves bytes guid v)) (pieces 64 (leaves bytes guid v))
          ∙ ap joined_files (flat_map-pieces 64 (leaves bytes guid v) (omega arith))
          ∙ joined_files-leaves bytes guid v
      | inr few ↦ ap (λ (l : Levels). joined_files l.top) (levels-few bytes guid v (omega arith)) ∙ joined_files-leaves bytes guid v
    ]

pub root_is : (bytes : List ℕ) (guid : Guid) (v : ℕ) (ids : List ExGuid) → length bytes ≤ 16777216 → ids ≡ ids_of (levels bytes guid (v + 1)).top
    → inline guid v ids (node_bytes 0x20 (sha256 bytes) (length bytes)) ≡ (node 0x20 guid v (levels bytes guid (v + 1)).top).object
root_is bytes guid v ids f e = sym (node_is 0x20 guid v (levels bytes guid (v + 1)).top ids bytes (sym e) (joined_files-top bytes guid (v + 1) f))

-- ---- one thing more at the end of a list

pub pushed : {X : Type 0} (old new left after all : List X) (x y : X) → new ≡ old ++ x ∷ [] → x ≡ y → left ≡ y ∷ after → old ++ left ≡ all → new ++ after ≡ all
pushed {X} old new left after all x y e f g h =
    ap (λ (l : List X). l ++ after) (e ∙ ap (λ (z : X). old ++ z ∷ []) f) ∙ append_assoc old (y ∷ []) after ∙ ap (λ (l : List X). old ++ l) (sym g) ∙ h

-- an answer that is one thing is the other, where they are the same
pub ok_is : {X E : Type 0} (r : Result X E) (x y : X) → IfOk r (λ z. z ≡ x) → x ≡ y → IfOk r (λ z. z ≡ y)
ok_is (Ok z) x y f e = f ∙ e
ok_is (Err z) x y f e = tt

pub on_ok_is : {X T E : Type 0} (r : Result T E) (z x y : X) → OnOk r (z ≡ x) → x ≡ y → OnOk r (z ≡ y)
on_ok_is (Ok t) z x y f e = f ∙ e
on_ok_is (Err t) z x y f e = tt
