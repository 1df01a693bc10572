-- The objects of a file, as its definitions and laws see them: the program borrows them.
use Rattle.std.specs.Prelude.{ℕ, List}
use Rattle.compact_values.specs.declared.ids.ExGuid.{ExGuid}

-- an object as a file is made of it: its id, the objects that it refers to in order, and its own bytes
pub record StoredObject : Type 0 where
  pub id : ExGuid
  pub references : List ExGuid
  pub bytes : List ℕ
