-- What the objects that are handed in show.
use Rattle.std.specs.Prelude.{ℕ, List}
use Rattle.std.specs.declared.option.Option.{Option}

-- what they show at one moment
pub record View : Type 0 where
  pub left : Option (List ℕ)
  pub taken : Option ℕ
  pub read_faults : ℕ
  pub held : Option (List ℕ)
  pub write_faults : ℕ
  pub told : Option (List ℕ)
