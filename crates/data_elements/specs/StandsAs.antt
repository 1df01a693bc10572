-- What written bytes are as trees.
use Rattle.std.specs.Prelude.{ℕ, List}
use Rattle.stream_objects.specs.Answers.{SpellsTree}
use Rattle.stream_objects.specs.declared.tree.Tree.{Tree}

-- The bytes spell a tree, and each tree that they spell, of which there is only one, is so.
pub record StandsAs (bytes : List ℕ) (Is : Tree → Type 0) : Type 0 where
  pub tree : Tree
  pub spelled : SpellsTree tree bytes
  pub only : (t : Tree) → SpellsTree t bytes → Is t
