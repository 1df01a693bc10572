-- A body that is fed in pieces.
use Rattle.std.specs.Prelude.{◌≡◌, ◌≢◌, ◌⊎◌, ℕ, ◌+◌, List, [], ◌∷◌, length}
use Rattle.http_head.specs.declared.body.Fed.{Fed}
use Rattle.http_head.specs.declared.body.Fed.TheVariants.{More, Done, Bad}
use Rattle.http_head.specs.Bodies.{Reading, Feeds}

-- the same outcome, its place counted with so many bytes before
abbrev pub behind : ℕ → Fed → Fed
behind before More = More
behind before (Done used) = Done (before + used)
behind before (Bad status) = Bad status

-- what pieces make of a body, fed one after another up to the one that ends it: the place is counted over all of them
abbrev pub FeedsEach : Reading → List (List ℕ) → Reading → Fed → Type 0
FeedsEach s [] t fed = Feeds s [] t fed
FeedsEach s (piece ∷ pieces) t fed =
    (Feeds s piece t fed × (fed ≢ More))
    ⊎ ((m : Reading) × (rest : Fed) × Feeds s piece m More × FeedsEach m pieces t rest × (fed ≡ behind (length piece) rest))
