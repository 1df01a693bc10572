-- Reading a node by the reader of trees.
use Rattle.std.proofs.Common.{◌≡◌, ◌≢◌, ℕ, ◌<◌, ◌⊎◌, List, length, get_or, Option, Some, None, Result, Ok, Err, inl, inr, refl, sym, ap, subst}
use Rattle.std.specs.Prelude.{option_and_then}
use Rattle.stream_objects.specs.Answers.{SpellsTree, Exactly}
use Rattle.stream_objects.specs.Trees.{IsTreeAt}
use Rattle.stream_objects.specs.TreeReading.{tree_of}
use Rattle.stream_objects.specs.declared.fault.TreeFault.{TreeFault}
use Rattle.stream_objects.specs.declared.fault.TreeFault.TheVariants.{NoMemory}
use Rattle.stream_objects.specs.declared.tree.Tree.{Tree}
use Rattle.stream_objects.proofs.ReadTrees.{spelled_is_read, read_is_spelled}
use Rattle.doc_model.specs.rules.Nodes.{size_of_node, node_size}

module _ (bytes : List ℕ) (answer : Result (Tree × ℕ) TreeFault) (found : (tree : Tree) (next : ℕ) → Exactly answer (Ok (tree, next)) (IsTreeAt bytes tree 0 next)) where
  -- a tree that ends with the bytes
  pub whole_node : (tree : Tree) (next : ℕ) → answer ≡ Ok (tree, next) → next ≡ length bytes → node_size bytes ≡ size_of_node bytes tree
  unfolding node_size
  whole_node tree next is end =
      let spelled : SpellsTree tree bytes = subst (λ (n : ℕ). IsTreeAt bytes tree 0 n) end ((found tree next).0 is) in
      ap (option_and_then (size_of_node bytes)) (spelled_is_read bytes tree spelled)

  -- what is answered where the bytes are a tree
  answered : ((i : ℕ) → get_or bytes i 0 < 256) → (tree : Tree) → tree_of bytes ≡ Some tree → (answer ≡ Ok (tree, length bytes)) ⊎ (answer ≡ Err NoMemory)
  answered fits tree e = (found tree (length bytes)).1 (read_is_spelled bytes tree fits e)

  no_tree : ((i : ℕ) → get_or bytes i 0 < 256) → ((tree : Tree) → answer ≢ Ok (tree, length bytes)) → answer ≢ Err NoMemory → (o : Option Tree) → tree_of bytes ≡ o → o ≡ None
  no_tree fits other memory (Some tree) e = elim (answered fits tree e) [ inl a ↦ absurd (other tree a) | inr m ↦ absurd (memory m) ]
  no_tree fits other memory None e = refl

  pub no_node : ((i : ℕ) → get_or bytes i 0 < 256) → ((tree : Tree) → answer ≢ Ok (tree, length bytes)) → answer ≢ Err NoMemory → None ≡ node_size bytes
  unfolding node_size
  no_node fits other memory = sym (ap (option_and_then (size_of_node bytes)) (no_tree fits other memory (tree_of bytes) refl))
