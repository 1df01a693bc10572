-- A node that is written is read as a node of its data size.
use Rattle.std.proofs.Common.{◌≡◌, ℕ, ◌+◌, ◌^◌, ◌<◌, ◌≤◌, ◌⊎◌, true, false, ◌||◌, List, [], ◌∷◌, ◌++◌, length, Some, inl, inr, refl, sym, ap, subst, ◌∙◌, arith}
use Rattle.std.specs.Prelude.{option_and_then}
use Rattle.std.proofs.lemmas.Bool.Decides.{nat_tests}
use Rattle.std.proofs.lemmas.List.{append-nil, length-append}
use Rattle.compact_values.specs.Compact.{compact, little_endian}
use Rattle.compact_values.specs.Items.{item}
use Rattle.compact_values.specs.Taking.{if_all}
use Rattle.compact_values.proofs.Takes.{takes_item, takes_long}
use Rattle.stream_objects.specs.declared.tree.Tree.{Tree}
use Rattle.stream_objects.specs.declared.tree.Tree.TheViews.{out-Tree}
use Rattle.stream_objects.specs.Answers.{SpellsTree}
use Rattle.stream_objects.specs.Objects.{kind_of, is_kind, fields_of}
use Rattle.stream_objects.specs.ObjectFields.{compound_fields}
use Rattle.stream_objects.specs.Trees.{Consecutive, IsObject, objects}
use Rattle.stream_objects.specs.Written.{started, simple_object, compound_object}
use Rattle.stream_objects.proofs.ReadTrees.{spelled_is_read}
use Rattle.stream_objects.proofs.Standing.{At, at_front, at_back, inside_at, simple_stands, compound_stands}
use Rattle.stream_objects.proofs.Unique.{objects-cons}
use Rattle.doc_model.specs.rules.Nodes.{signature_said, size_said, is_node, size_of_node, node_size, node_bytes}

-- ---- a tree whose parts are these is a node

module _ (input signature : List ℕ) (size kind : ℕ) (is : (kind ≡ 0x1F) ⊎ (kind ≡ 0x20)) (small : length signature ≤ 32) (fits : size < 2 ^ 64)
    (t first second : Tree) (kind_is : kind_of t ≡ kind) (mark : (out-Tree t).compound ≡ true) (fields : fields_of input t ≡ [])
    (children : (out-Tree t).children ≡ first ∷ second ∷ [])
    (first_kind : kind_of first ≡ 0x21) (first_mark : (out-Tree first).compound ≡ false) (first_fields : fields_of input first ≡ item signature)
    (second_kind : kind_of second ≡ 0x22) (second_mark : (out-Tree second).compound ≡ false) (second_fields : fields_of input second ≡ little_endian 8 size) where
  node_kind : (k : ℕ) → (k ≡ 0x1F) ⊎ (k ≡ 0x20) → kind_of t ≡ k → is_kind 0x1F t || is_kind 0x20 t ≡ true
  node_kind k (inl a) b = rw (b, a) refl
  node_kind k (inr a) b = rw (b, a) refl

  no_fields : compound_fields input t ≡ Some []
  no_fields = rw (mark, fields) refl

  node : is_node input t ≡ true
  node = rw (node_kind kind is kind_is, no_fields) refl

  the_signature : signature_said input t ≡ Some signature
  the_signature = rw (children, first_kind, second_kind, first_mark, first_fields) (ap if_all (rw append-nil at (takes_item.again signature (item signature) [] (record { range = omega arith; bytes_are = refl }))))

  the_size : size_said input t ≡ Some size
  the_size = rw (children, first_kind, second_kind, second_mark, second_fields) (ap if_all (rw append-nil at (takes_long.again size (little_endian 8 size) [] (record { range = fits; bytes_are = refl }))))

  said : size_of_node input t ≡ Some size
  said = rw (node, the_signature) the_size

-- ---- what is written is such a tree

at_start : (input : List ℕ) → At input 0 input
at_start input = record { before = []; behind = []; input_is = sym (append-nil input); place = refl }

item_fits : (signature : List ℕ) → length signature ≤ 32 → length (item signature) < 2 ^ 64
item_fits signature small =
    let count : length (compact (length signature)) ≤ 9 = grind (arith, nat_tests) in
    omega (arith, count, length-append (compact (length signature)) signature)

-- A tree that the bytes spell is read as a node of this size.
record IsRead (input : List ℕ) (size : ℕ) : Type 0 where
  tree : Tree
  spelled : SpellsTree tree input
  said_is : size_of_node input tree ≡ Some size

written_node : (kind : ℕ) (signature : List ℕ) (size : ℕ) → (kind ≡ 0x1F) ⊎ (kind ≡ 0x20) → length signature ≤ 32 → size < 2 ^ 64 → IsRead (node_bytes kind signature size) size
unfolding node_bytes
written_node kind signature size is small fits =
    let x = simple_object 0x21 (item signature) in
    let y = simple_object 0x22 (little_endian 8 size) in
    let input = compound_object kind [] (x ++ y) in
    let below : kind ≤ 16383 = elim is [ inl e ↦ omega arith | inr e ↦ omega arith ] in
    let whole = at_start input in
    let p = 0 + length (started kind true []) in
    let inside = inside_at input 0 kind [] (x ++ y) whole in
    let s = simple_stands input 10 p 0x21 (item signature) (omega arith) (item_fits signature small) (at_front input p x y inside) in
    let u = simple_stands input 10 (p + length x) 0x22 (little_endian 8 size) (omega arith) (omega arith) (at_back input p x y inside) in
    let end : p + length x + length y ≡ p + length (x ++ y) = omega (arith, length-append x y) in
    let run : Consecutive (IsObject 11 input) (s.tree ∷ u.tree ∷ []) p (p + length (x ++ y)) = (p + length x, s.object, (p + length x + length y, u.object, end)) in
    let t = compound_stands input 11 0 kind [] (x ++ y) (s.tree ∷ u.tree ∷ []) below (omega arith) whole run in
    let few : objects t.tree ≤ 262144 = omega (arith, t.count_is, objects-cons s.tree (u.tree ∷ []), objects-cons u.tree [], s.count_is, u.count_is) in
    let next : 0 + length input ≡ length input = omega arith in
    record {
      tree = t.tree;
      spelled = record { object = subst (λ (m : ℕ). IsObject 12 input t.tree 0 m) next t.object; few = few };
      said_is = said input signature size kind is small fits t.tree s.tree u.tree t.kind_is t.mark t.fields_are t.children_are s.kind_is s.mark s.fields_are u.kind_is u.mark u.fields_are;
    }

pub node_size-node_bytes : (kind : ℕ) (signature : List ℕ) (size : ℕ) → (kind ≡ 0x1F) ⊎ (kind ≡ 0x20) → length signature ≤ 32 → size < 2 ^ 64
    → node_size (node_bytes kind signature size) ≡ Some size
unfolding node_size
node_size-node_bytes kind signature size is small fits =
    let r = written_node kind signature size is small fits in
    ap (option_and_then (size_of_node (node_bytes kind signature size))) (spelled_is_read (node_bytes kind signature size) r.tree r.spelled) ∙ r.said_is

-- the root node of the empty file, whose signature is the SHA-256 of nothing
empty_root : node_bytes 0x20
    (0xe3 ∷ 0xb0 ∷ 0xc4 ∷ 0x42 ∷ 0x98 ∷ 0xfc ∷ 0x1c ∷ 0x14 ∷ 0x9a ∷ 0xfb ∷ 0xf4 ∷ 0xc8 ∷ 0x99 ∷ 0x6f ∷ 0xb9 ∷ 0x24
    ∷ 0x27 ∷ 0xae ∷ 0x41 ∷ 0xe4 ∷ 0x64 ∷ 0x9b ∷ 0x93 ∷ 0x4c ∷ 0xa4 ∷ 0x95 ∷ 0x99 ∷ 0x1b ∷ 0x78 ∷ 0x52 ∷ 0xb8 ∷ 0x55 ∷ []) 0
    ≡ 0x04 ∷ 0x01 ∷ 0x08 ∷ 0x43 ∷ 0x41 ∷ 0xe3 ∷ 0xb0 ∷ 0xc4 ∷ 0x42 ∷ 0x98 ∷ 0xfc ∷ 0x1c ∷ 0x14 ∷ 0x9a ∷ 0xfb ∷ 0xf4 ∷ 0xc8 ∷ 0x99 ∷ 0x6f ∷ 0xb9 ∷ 0x24
    ∷ 0x27 ∷ 0xae ∷ 0x41 ∷ 0xe4 ∷ 0x64 ∷ 0x9b ∷ 0x93 ∷ 0x4c ∷ 0xa4 ∷ 0x95 ∷ 0x99 ∷ 0x1b ∷ 0x78 ∷ 0x52 ∷ 0xb8 ∷ 0x55
    ∷ 0x10 ∷ 0x11 ∷ 0 ∷ 0 ∷ 0 ∷ 0 ∷ 0 ∷ 0 ∷ 0 ∷ 0 ∷ 0x81 ∷ []
unfolding node_bytes started
empty_root = refl
