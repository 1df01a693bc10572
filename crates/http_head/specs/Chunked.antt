-- A body in chunks, as a grammar (RFC 9112, 7.1, without trailers).
use Rattle.std.specs.Prelude.{◌≡◌, ℕ, ◌+◌, ◌<◌, ◌≤◌, List, [], ◌∷◌, ◌++◌, length, Bool, not, ◌==◌, IsTrue, Some}
use Rattle.std.specs.List.{list_all}
use Rattle.httparse.specs.Ascii.{line_feed, carriage_return}
use Rattle.http_head.specs.declared.body.TheConstants.{BODY_LIMIT}
use Rattle.http_head.specs.Bodies.{IsSizeOf}

abbrev pub is_not_feed : ℕ → Bool
is_not_feed byte = not (byte == line_feed)

-- a chunk line that tells this size: it ends at its only LF, and has at most 256 bytes
pub record IsLine (line : List ℕ) (size : ℕ) : Type 0 where
  pub text : List ℕ
  pub ends : line ≡ text ++ line_feed ∷ []
  pub alone : IsTrue (list_all is_not_feed text)
  pub few : length text ≤ 255
  pub told : IsSizeOf line (Some size)

-- a chunk: its line and its bytes
pub record OneChunk : Type 0 where
  pub line : List ℕ
  pub bytes : List ℕ

-- the bytes of chunks, each with CR LF behind it
abbrev pub print_chunks : List OneChunk → List ℕ
print_chunks [] = []
print_chunks (chunk ∷ chunks) = chunk.line ++ (chunk.bytes ++ (carriage_return ∷ line_feed ∷ print_chunks chunks))

-- the bytes that chunks hold
abbrev pub held : List OneChunk → List ℕ
held [] = []
held (chunk ∷ chunks) = chunk.bytes ++ held chunks

-- chunks behind so many bytes of a body: each line tells the size, which isn't 0, and all have at most 25,165,824 bytes
abbrev pub AreChunks : ℕ → List OneChunk → Type 0
AreChunks before [] = Unit {0}
AreChunks before (chunk ∷ chunks) = IsLine chunk.line (length chunk.bytes) × (0 < length chunk.bytes)
    × (before + length chunk.bytes ≤ BODY_LIMIT) × AreChunks (before + length chunk.bytes) chunks

-- the bytes are chunks, the last line and CR LF, and this is the body
pub record IsChunked (bytes body : List ℕ) : Type 0 where
  pub chunks : List OneChunk
  pub last : List ℕ
  pub are_chunks : AreChunks 0 chunks
  pub last_line : IsLine last 0
  pub bytes_are : bytes ≡ print_chunks chunks ++ (last ++ (carriage_return ∷ line_feed ∷ []))
  pub body_is : body ≡ held chunks
