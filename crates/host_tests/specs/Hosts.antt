-- Hosts of the tests.
use Rattle.std.specs.Prelude.{◌≡◌, ℕ, length}
use Rattle.doc_host.specs.declared.host.Host.{Host}
use Rattle.doc_host.specs.declared.journaled.Journaled.{Ghosts}
use Rattle.doc_host.specs.declared.pass.Pass.{Pass}
use Rattle.doc_host.specs.Views.{IsPassOf}

module _ {J : Type 0} {g : Ghosts J} where
  -- a pass of a host of so many documents
  abbrev pub IsPassTo : ℕ → Host J g → Pass J g → Type 0
  IsPassTo count host pass = IsPassOf host pass × (length host.boards.items ≡ count)
