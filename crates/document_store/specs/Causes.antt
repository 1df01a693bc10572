-- What the counts of faults say of a store's calls.
use Rattle.std.specs.Prelude.{◌≡◌, ℕ, ◌<◌, ◌≤◌, Result, MatchResult}
use Rattle.host_edge.specs.Causes.{Rose}
use Rattle.document_store.specs.declared.fault.StoreFault.{StoreFault}
use Rattle.document_store.specs.declared.fault.StoreFault.TheVariants.{Failed, NoMemory}

-- The store's count after a call that took a disk back: it rose where the disk had failed, and stands still where it had not.
pub record TakesOver (faults before now : ℕ) : Type 0 where
  pub later : before ≤ now
  pub failed : 0 < faults → Rose before now
  pub kept : faults ≡ 0 → now ≡ before

-- The store's count after a refusal, in a call that had a disk with so many faults in hand. A failure is answered only where the count rose.
abbrev pub ShowsIn : ℕ → ℕ → ℕ → StoreFault → Type 0
ShowsIn faults before now Failed = Rose before now
ShowsIn faults before now NoMemory = TakesOver faults before now

-- The same for every answer. A count never falls, and no fault is passed over.
pub record Accounts {T : Type 0} (faults before now : ℕ) (result : Result T StoreFault) : Type 0 where
  pub later : before ≤ now
  pub why : MatchResult result (λ _. now ≡ before) (ShowsIn faults before now)
