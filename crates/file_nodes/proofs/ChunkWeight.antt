-- The elements of a file that is cut weigh little more than the file.
use Rattle.std.proofs.Common.{◌≡◌, ℕ, ◌+◌, ◌*◌, ◌≤◌, List, [], ◌∷◌, ◌++◌, length, ap, arith, inl, inr}
use Rattle.std.specs.List.{AllByRecursion, flat_map}
use Rattle.std.specs.Int.{div_ceil}
use Rattle.std.proofs.lemmas.Bool.{cases_lt}
use Rattle.std.proofs.lemmas.Grind.{flat_map-append}
use Rattle.std.proofs.lemmas.List.{length-append, length-map}
use Rattle.std.proofs.lemmas.List.Sums.{sum_by-cons}
use Rattle.sha2.specs.Sha256.{sha256}
use Rattle.compact_values.specs.Compact.{little_endian}
use Rattle.compact_values.specs.Items.{item}
use Rattle.compact_values.specs.declared.guid.Guid.{Guid}
use Rattle.compact_values.specs.declared.ids.ExGuid.{ExGuid}
use Rattle.stream_objects.specs.Written.{simple_object}
use Rattle.doc_model.specs.rules.Nodes.{node_bytes}
use Rattle.doc_model.specs.rules.Weights.{weight, weight_of}
use Rattle.doc_model.specs.wire.WrittenElements.{declaration_bytes, data_bytes, body_bytes}
use Rattle.doc_model.specs.declared.element.Object.{Object}
use Rattle.doc_model.specs.declared.element.Element.{Element}
use Rattle.doc_model.specs.declared.element.Body.TheVariants.{Group}
use Rattle.doc_model.proofs.SizeBounds.{few-simple, few-compound, few-item, few-declaration, few-data, few-weight, few-in-index, few-in-storage, few-in-cell, few-in-revision, length-in-group}
use Rattle.file_nodes.specs.Pieces.{pieces}
use Rattle.file_nodes.specs.Chunking.{Chunk, inline, leaf, node, numbered, objects_of, ids_of, joined_files, leaves, levels, file_objects}
use Rattle.file_nodes.specs.Chunks.{id_of, index_body, storage_body, cell_body, revision_body, schema, elements_round}
use Rattle.file_nodes.proofs.ChunkedFile.{mappings, roots, manifest}
use Rattle.file_nodes.proofs.PieceLaws.{flat_map-pieces, length-pieces}
use Rattle.file_nodes.proofs.ChunkLaws.{length-nodes, length-numbered, all-few, all-many}
use Rattle.file_nodes.proofs.FileLaw.{length-sha256}
use Rattle.file_nodes.proofs.References.{few-top, pieces_are_short}

-- how many bytes objects take in a group
abbrev pub bulk : List Object → ℕ
bulk os = length (flat_map declaration_bytes os) + length (flat_map data_bytes os)

bulk-cons : (o : Object) (os : List Object) → bulk (o ∷ os) ≡ length (declaration_bytes o) + length (data_bytes o) + bulk os
bulk-cons o os = omega (arith, length-append (declaration_bytes o) (flat_map declaration_bytes os), length-append (data_bytes o) (flat_map data_bytes os))

bulk-append : (os ps : List Object) → bulk (os ++ ps) ≡ bulk os + bulk ps
bulk-append os ps =
    omega (
      arith,
      ap length (flat_map-append declaration_bytes os ps),
      ap length (flat_map-append data_bytes os ps),
      length-append (flat_map declaration_bytes os) (flat_map declaration_bytes ps),
      length-append (flat_map data_bytes os) (flat_map data_bytes ps),
    )

-- an object takes little more than its bytes and its references
light-object : (guid : Guid) (value : ℕ) (references : List ExGuid) (bytes : List ℕ)
    → (let o = inline guid value references bytes in length (declaration_bytes o) + length (data_bytes o)) ≤ length bytes + 21 * length references + 143
light-object guid value references bytes =
    let o = inline guid value references bytes in
    omega (arith, few-declaration o, few-data o)

-- ---- leaves

light-leaves : (guid : Guid) (v : ℕ) (ps : List (List ℕ)) → bulk (objects_of (numbered (leaf guid) v ps)) ≤ length (flat_map (λ p. p) ps) + 143 * length ps
light-leaves guid v [] = omega arith
light-leaves guid v (p ∷ ps) =
    omega (
      arith,
      bulk-cons (inline guid v [] p) (objects_of (numbered (leaf guid) (v + 1) ps)),
      light-object guid v [] p,
      light-leaves guid (v + 1) ps,
      length-append p (flat_map (λ q. q) ps),
    )

-- ---- nodes

few-node : (kind : ℕ) (signature : List ℕ) (size : ℕ) → kind ≤ 63 → length signature ≤ 32 → length (node_bytes kind signature size) ≤ 89
unfolding node_bytes
few-node kind signature size k s =
    let sign = simple_object 0x21 (item signature) in
    let data_size = simple_object 0x22 (little_endian 8 size) in
    omega (
      arith,
      few-compound kind [] (sign ++ data_size) k,
      length-append sign data_size,
      few-simple 0x21 (item signature) (omega arith),
      few-item signature,
      few-simple 0x22 (little_endian 8 size) (omega arith),
    )

light-node : (kind : ℕ) (guid : Guid) (v : ℕ) (parts : List Chunk) → kind ≤ 63 → length parts ≤ 64
    → (let o = (node kind guid v parts).object in length (declaration_bytes o) + length (data_bytes o)) ≤ 1576
light-node kind guid v parts k few =
    let file = joined_files parts in
    let bytes = node_bytes kind (sha256 file) (length file) in
    omega (
      arith,
      light-object guid v (ids_of parts) bytes,
      few-node kind (sha256 file) (length file) k (omega (arith, length-sha256 file)),
      length-map parts (λ (p : Chunk). p.object.id),
    )

light-nodes : (guid : Guid) (v : ℕ) (groups : List (List Chunk)) → AllByRecursion (λ g. length g ≤ 64) groups
    → bulk (objects_of (numbered (node 0x1F guid) v groups)) ≤ 1576 * length groups
light-nodes guid v [] f = omega arith
light-nodes guid v (g ∷ groups) f =
    omega (
      arith,
      bulk-cons (node 0x1F guid v g).object (objects_of (numbered (node 0x1F guid) (v + 1) groups)),
      light-node 0x1F guid v g (omega arith) f.0,
      light-nodes guid (v + 1) groups f.1,
    )

-- ---- the objects of a file

light-all : (bytes : List ℕ) (guid : Guid) (v : ℕ) → length bytes ≤ 16777216 → bulk (objects_of (levels bytes guid v).all) ≤ length bytes + 43000
light-all bytes guid v short =
    let some = pieces 65536 bytes in
    let level = leaves bytes guid v in
    let count = length-pieces 65536 bytes (omega arith) in
    let whole = ap length (flat_map-pieces 65536 bytes (omega arith)) in
    let below = light-leaves guid v some in
    elim (cases_lt 64 (div_ceil (length bytes) 65536)) [
      | inl many ↦
          let groups = pieces 64 level in
          let next = v + div_ceil (length bytes) 65536 in
          let nodes = numbered (node 0x1F guid) next groups in
          omega (
            arith,
            ap bulk (all-many bytes guid v many short),
            bulk-append (objects_of level) (objects_of nodes),
            light-nodes guid next groups (pieces_are_short (length level) 64 level),
            length-nodes 0x1F guid v next bytes,
            length-numbered (node 0x1F guid) next groups,
          )
      | inr few ↦ omega (arith, ap bulk (all-few bytes guid v few))
    ]

pub light-objects : (bytes : List ℕ) (guid : Guid) (v : ℕ) → length bytes ≤ 16777216 → bulk (file_objects bytes guid v) ≤ length bytes + 45000
light-objects bytes guid v short =
    let level = leaves bytes guid (v + 1) in
    let root = node 0x20 guid v (levels bytes guid (v + 1)).top in
    omega (
      arith,
      bulk-cons root.object (objects_of (levels bytes guid (v + 1)).all),
      light-node 0x20 guid v (levels bytes guid (v + 1)).top (omega arith) (few-top (length level) guid (v + 1) level (omega arith)),
      light-all bytes guid (v + 1) short,
    )

-- ---- the elements round them

light-index : (guid : Guid) (first : ℕ) → length (body_bytes (index_body guid first)) ≤ 240
light-index guid first = let maps = mappings guid first in few-in-index maps.manifests maps.cells maps.revisions

light-storage : length (body_bytes storage_body) ≤ 94
light-storage = few-in-storage schema roots

light-revision : (guid : Guid) (first : ℕ) → length (body_bytes (revision_body guid first)) ≤ 144
light-revision guid first = let m = manifest guid first in few-in-revision (id_of guid (first + 5)) m.base m.roots m.groups

pub light-elements : (objects : List Object) (guid : Guid) (first : ℕ) → weight_of (elements_round objects guid first) ≤ bulk objects + 1000
light-elements objects guid first =
    let index : Element = record { id = id_of guid first; body = index_body guid first } in
    let storage : Element = record { id = id_of guid (first + 1); body = storage_body } in
    let cell : Element = record { id = id_of guid (first + 2); body = cell_body guid first } in
    let revision : Element = record { id = id_of guid (first + 3); body = revision_body guid first } in
    let group : Element = record { id = id_of guid (first + 4); body = Group objects } in
    omega (
      arith,
      sum_by-cons weight index (storage ∷ cell ∷ revision ∷ group ∷ []),
      sum_by-cons weight storage (cell ∷ revision ∷ group ∷ []),
      sum_by-cons weight cell (revision ∷ group ∷ []),
      sum_by-cons weight revision (group ∷ []),
      sum_by-cons weight group [],
      few-weight index,
      few-weight storage,
      few-weight cell,
      few-weight revision,
      few-weight group,
      light-index guid first,
      light-storage,
      few-in-cell (id_of guid (first + 5)),
      light-revision guid first,
      length-in-group objects,
    )
