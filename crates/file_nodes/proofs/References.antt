-- Nodes have few references, in a file of any length.
use Rattle.std.proofs.Common.{ℕ, zero, suc, ◌+◌, ◌≤◌, List, [], ◌∷◌, ◌++◌, length, drop, arith, inl, inr}
use Rattle.std.specs.List.{AllByRecursion}
use Rattle.std.proofs.lemmas.Bool.{cases_lt, le-leb, lt-leb}
use Rattle.std.proofs.lemmas.List.{length-take, length-map}
use Rattle.compact_values.specs.declared.guid.Guid.{Guid}
use Rattle.doc_model.specs.declared.element.Object.{Object}
use Rattle.file_nodes.specs.Pieces.{pieces_within, pieces}
use Rattle.file_nodes.specs.Chunking.{Chunk, leaf, node, numbered, objects_of, levels_within, leaves, levels, file_objects}
use Rattle.file_nodes.proofs.PieceLaws.{length-pieces}
use Rattle.file_nodes.proofs.ChunkLaws.{length-numbered}

-- no piece is longer than it may be
pub pieces_are_short : {X : Type 0} (a n : ℕ) (xs : List X) → AllByRecursion (λ p. length p ≤ n) (pieces_within a n xs)
unfolding pieces_within
pieces_are_short {X} zero n xs = tt
pieces_are_short {X} (suc a) n [] = tt
pieces_are_short {X} (suc a) n (x ∷ xs) = (omega (arith, length-take n (x ∷ xs)), pieces_are_short a n (drop n (x ∷ xs)))

abbrev HaveFew : List Object → Type 0
HaveFew os = AllByRecursion (λ o. length o.references ≤ 64) os

each-append : (ps qs : List Chunk) → HaveFew (objects_of ps) → HaveFew (objects_of qs) → HaveFew (objects_of (ps ++ qs))
each-append [] qs f g = g
each-append (p ∷ ps) qs f g = (f.0, each-append ps qs f.1 g)

few-leaves : (guid : Guid) (v : ℕ) (ps : List (List ℕ)) → HaveFew (objects_of (numbered (leaf guid) v ps))
few-leaves guid v [] = tt
few-leaves guid v (p ∷ ps) = (omega arith, few-leaves guid (v + 1) ps)

few-nodes : (guid : Guid) (v : ℕ) (groups : List (List Chunk)) → AllByRecursion (λ g. length g ≤ 64) groups → HaveFew (objects_of (numbered (node 0x1F guid) v groups))
few-nodes guid v [] f = tt
few-nodes guid v (g ∷ groups) f = (omega (arith, f.0, length-map g (λ (p : Chunk). p.object.id)), few-nodes guid (v + 1) groups f.1)

-- a level's count is enough to come to a level of at most 64 parts
pub few-top : (count : ℕ) (guid : Guid) (v : ℕ) (level : List Chunk) → length level ≤ count → length (levels_within count guid v level).top ≤ 64
unfolding levels_within
few-top zero guid v level f = omega arith
few-top (suc count) guid v level f = elim (cases_lt 64 (length level)) [
  | inl many ↦
      let next = v + length level in
      let nodes = numbered (node 0x1F guid) next (pieces 64 level) in
      let fewer : length nodes ≤ count = omega (arith, length-numbered (node 0x1F guid) next (pieces 64 level), length-pieces 64 level (omega arith)) in
      rw (lt-leb (length level) 64 many) (few-top count guid next nodes fewer)
  | inr few ↦ rw (le-leb (length level) 64 few) few
]

few-all : (count : ℕ) (guid : Guid) (v : ℕ) (level : List Chunk) → HaveFew (objects_of level) → HaveFew (objects_of (levels_within count guid v level).all)
unfolding levels_within
few-all zero guid v level f = f
few-all (suc count) guid v level f = elim (cases_lt 64 (length level)) [
  | inl many ↦
      let next = v + length level in
      let groups = pieces 64 level in
      let above = levels_within count guid next (numbered (node 0x1F guid) next groups) in
      let few = few-all count guid next (numbered (node 0x1F guid) next groups) (few-nodes guid next groups (pieces_are_short (length level) 64 level)) in
      rw (lt-leb (length level) 64 many) (each-append level above.all f few)
  | inr few ↦ rw (le-leb (length level) 64 few) f
]

pub few-references : (bytes : List ℕ) (guid : Guid) (v : ℕ) → AllByRecursion (λ o. length o.references ≤ 64) (file_objects bytes guid v)
few-references bytes guid v =
    let level = leaves bytes guid (v + 1) in
    let top = few-top (length level) guid (v + 1) level (omega arith) in (
      omega (arith, top, length-map (levels bytes guid (v + 1)).top (λ (p : Chunk). p.object.id)),
      few-all (length level) guid (v + 1) level (few-leaves guid (v + 1) (pieces 65536 bytes)),
    )
