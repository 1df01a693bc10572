-- A connection of which nothing was served.
use Rattle.std.proofs.Common.{ℕ, List, [], None, Some, refl}
use Rattle.std.specs.declared.option.Option.{Option}
use Rattle.std.proofs.KnownBytes.{Consumes-nil, Appends-nil}
use Rattle.session_loop.specs.Courses.{course}
use Rattle.session_loop.specs.Driving.{View, Tells, Passed, Drives, no_memory}
use Rattle.session_loop.specs.declared.want.SessionEnd.TheVariants.{NoMemory}

tells_nothing : (told : Option (List ℕ)) → Tells told told []
tells_nothing None = tt
tells_nothing (Some due) = refl

nothing_passed : (v : View) → Passed v v [] []
nothing_passed v = record { left = Consumes-nil v.left; read_faults = refl; held = Appends-nil v.held; write_faults = refl; told = tells_nothing v.told; docs = refl }

pub nothing_served : (names : List (List ℕ)) (v : View) → Drives names v v NoMemory
nothing_served names v = no_memory [] [] (nothing_passed v) (λ more requests ending cut. (course names 10_000 requests ending, refl, tt))
