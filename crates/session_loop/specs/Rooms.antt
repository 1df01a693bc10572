-- How many steps a session may still take: a bound that falls with each.
use Rattle.std.specs.Prelude.{ℕ, ◌+◌, ◌-◌, ◌*◌, ◌<◌, ◌≤◌, length, Option, Some, None}
use Rattle.http_head.specs.Bodies.{Reading}
use Rattle.http_head.specs.declared.body.Place.{Place}
use Rattle.http_head.specs.declared.body.Place.TheVariants.{Counted, Line, Chunk, ChunkReturn, ChunkFeed, LastReturn, LastFeed, Whole, Malformed, TooLarge}
use Rattle.collection_run.specs.declared.progress.Progress.{Progress}
use Rattle.collection_run.specs.Processes.{AtMost}
use Rattle.collection_run.specs.Progress.{process_of}
use Rattle.session_loop.specs.Sessions.{Machine}
use Rattle.session_loop.specs.declared.stage.Stage.{Stage}
use Rattle.session_loop.specs.declared.stage.Stage.TheVariants.{Heading, InBody, Timing, Running, Filing, Fronting, Writing, Over}

-- At most so many bytes can follow in the body. Of one in chunks: each chunk has a byte of the body at least, and takes at
-- most 600 steps with its line.
abbrev pub room_at : Place → Reading → ℕ
room_at (Counted left) s = left + 1
room_at Line s = 22 + (255 - length s.line) + (25_165_824 - length s.body) * 600
room_at (Chunk left) s = left + 280 + (25_165_824 - (length s.body + left)) * 600
room_at ChunkReturn s = 279 + (25_165_824 - length s.body) * 600
room_at ChunkFeed s = 278 + (25_165_824 - length s.body) * 600
room_at LastReturn s = 2
room_at LastFeed s = 1
room_at Whole s = 0
room_at Malformed s = 0
room_at TooLarge s = 0

abbrev pub body_room : Reading → ℕ
body_room s = room_at s.place s

-- so many can follow at most in a body of which nothing came
abbrev pub most_body_room : ℕ
most_body_room = 15_099_494_677

-- the steps of a request: 16,384 for the bytes of its head, 15,099,494,677 for those of its body, 4,096 calls and eleven more
abbrev pub request_steps : ℕ
request_steps = 15_099_515_168

-- the steps of the requests behind the present one, of which so many are left with it
abbrev pub later : ℕ → ℕ
later left = request_steps * (left - 1)

-- the steps from a body on in which so many bytes can follow
abbrev pub body_steps : ℕ → ℕ → ℕ
body_steps room left = room + 4_106 + later left

-- the steps from a head on of which so many bytes came
abbrev pub head_steps : ℕ → ℕ → ℕ
head_steps came left = (16_384 - came) + 15_099_498_783 + later left

-- the steps of 10,000 requests
abbrev pub most_steps : ℕ
most_steps = 150_995_151_680_000

abbrev pub RunRoom : Option Progress → ℕ → ℕ → Type 0
RunRoom None behind n = ⊥
RunRoom (Some p) behind n = (k : ℕ) × AtMost k (process_of p) × (k + 2 + behind ≤ n)

-- so many steps may come at most
abbrev pub RoomAt : Stage → Machine → ℕ → Type 0
RoomAt Heading m n = (1 ≤ m.left) × (head_steps (length m.input) m.left ≤ n)
RoomAt (InBody route close) m n = (1 ≤ m.left) × (body_steps (body_room m.body) m.left ≤ n)
RoomAt (Timing route close) m n = (1 ≤ m.left) × (4_106 + later m.left ≤ n)
RoomAt (Running doc close) m n = (1 ≤ m.left) × RunRoom m.runner (later m.left) n
RoomAt (Filing doc close) m n = (1 ≤ m.left) × (3 + later m.left ≤ n)
RoomAt (Fronting doc close) m n = (1 ≤ m.left) × (3 + later m.left ≤ n)
RoomAt (Writing (Some end)) m n = 1 ≤ n
RoomAt (Writing None) m n = (2 ≤ m.left) × (1 + later m.left ≤ n)
RoomAt (Over end) m n = Unit {0}

abbrev pub HasRoom : Machine → ℕ → Type 0
HasRoom m n = RoomAt m.stage m n

-- a step leaves less: below each number of steps that were enough there is one that is enough now
abbrev pub Falls : Machine → Machine → Type 0
Falls m n = (room : ℕ) → HasRoom m room → (less : ℕ) × (less < room) × HasRoom n less
