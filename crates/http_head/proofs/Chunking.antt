-- A body that goes on byte by byte to its end in chunks is one of the grammar, and the other way round.
use Rattle.std.proofs.Common.{◌≡◌, ◌⊎◌, ◌<◌, ◌≤◌, ◌+◌, ◌-◌, ℕ, List, [], ◌∷◌, ◌++◌, length, Bool, true, false, ◌&&◌, nat_eq, Some, None, arith, ap, sym, subst, refl, ◌∙◌, inl, inr, append_assoc, append-nil, if◌then◌else◌, length-append}
use Rattle.std.proofs.lemmas.Grind.{common_steps}
use Rattle.std.specs.declared.option.Option.{Option}
use Rattle.std.specs.List.{list_all}
use Rattle.httparse.specs.Ascii.{line_feed, carriage_return}
use Rattle.http_head.specs.declared.body.Place.{Place}
use Rattle.http_head.specs.declared.body.Place.TheVariants.{Line, Chunk, ChunkReturn, ChunkFeed, LastReturn, LastFeed, Whole, Malformed, TooLarge}
use Rattle.http_head.specs.Bodies.{Reading, IsSizeOf, Goes, after_line, inside_line, chunked}
use Rattle.http_head.specs.Chunked.{is_not_feed, IsLine, OneChunk, print_chunks, held, AreChunks, IsChunked}
use Rattle.http_head.proofs.Goings.{Goes-append, Goes-chunked}
use Rattle.http_head.proofs.OneReading.{decide}

abbrev pub reading : Place → List ℕ → List ℕ → Reading
reading place line body = record { place = place; line = line; body = body }

-- from the grammar to single bytes

no_feed : (byte : ℕ) → is_not_feed byte ≡ true → byte ≡ line_feed → ⊥
no_feed byte is e = grind (arith, common_steps)

inside : (byte : ℕ) (line body : List ℕ) → length line < 255 → inside_line byte (reading Line line body) ≡ reading Line (line ++ byte ∷ []) body
inside byte line body few = grind (arith, common_steps)

both_of : (a b : Bool) → (a && b) ≡ true → (a ≡ true) × (b ≡ true)
both_of true true is = (refl, refl)
both_of true false is = absurd (cc)
both_of false b is = absurd (cc)

to_line : (place : Reading) (bytes : List ℕ) (t u : Reading) → u ≡ t → Goes place bytes t → Goes place bytes u
to_line s bytes t u is goes = subst (Goes s bytes) (sym is) goes

text_goes : (text line body : List ℕ) → list_all is_not_feed text ≡ true → length line + length text ≤ 255
    → Goes (reading Line line body) text (reading Line (line ++ text) body)
text_goes [] line body alone few = ap (λ (l : List ℕ). reading Line l body) (append-nil line)
text_goes (byte ∷ text) line body alone few =
    let b = both_of (is_not_feed byte) (list_all is_not_feed text) alone in (
      reading Line (line ++ byte ∷ []) body,
      record {
        ended = λ is. absurd (no_feed byte b.0 is);
        goes_on = λ _. sym (inside byte line body (omega arith));
      },
      subst (λ (l : List ℕ). Goes (reading Line (line ++ byte ∷ []) body) text (reading Line l body)) (append_assoc line (byte ∷ []) text)
          (text_goes text (line ++ byte ∷ []) body b.1 (let e = length-append line (byte ∷ []) in omega (arith, e))),
    )

line_goes : (line body : List ℕ) (size : ℕ) (x : IsLine line size) → Goes (reading Line [] body) line (after_line (Some size) (reading Line x.text body))
line_goes line body size x =
    subst (λ (l : List ℕ). Goes (reading Line [] body) l (after_line (Some size) (reading Line x.text body))) (sym x.ends)
    (Goes-append _ (reading Line x.text body) _ x.text (line_feed ∷ []) (text_goes x.text [] body x.alone (let few : length x.text ≤ 255 = x.few in omega (arith, few))) (
      after_line (Some size) (reading Line x.text body),
      record {
        ended = λ _. (Some size, subst (λ (l : List ℕ). IsSizeOf l (Some size)) x.ends x.told, refl);
        goes_on = λ other. absurd (other refl);
      },
      refl,
    ))

after_some : (size : ℕ) (line body : List ℕ) → 0 < size → length body + size ≤ 25_165_824
    → after_line (Some size) (reading Line line body) ≡ reading (Chunk size) [] body
after_some size line body some few = grind (arith, common_steps)

none_left : (n : ℕ) → chunked (n - n) ≡ ChunkReturn
none_left n = grind (arith, common_steps)

data_goes : (bytes body : List ℕ) → 0 < length bytes
    → Goes (reading (Chunk (length bytes)) [] body) bytes (reading ChunkReturn [] (body ++ bytes))
data_goes bytes body some =
    subst (λ (p : Place). Goes (reading (Chunk (length bytes)) [] body) bytes (reading p [] (body ++ bytes))) (none_left (length bytes))
    (Goes-chunked (length bytes) [] body bytes some (λ _. omega arith))

last_goes : (last body : List ℕ) → IsLine last 0 → Goes (reading Line [] body) (last ++ (carriage_return ∷ line_feed ∷ [])) (reading Whole [] body)
last_goes last body x =
    Goes-append _ (reading LastReturn [] body) _ last (carriage_return ∷ line_feed ∷ []) (line_goes last body 0 x)
    (reading LastFeed [] body, refl, (reading Whole [] body, refl, refl))

chunk_goes : (chunk : OneChunk) (body rest : List ℕ) (t : Reading) → IsLine chunk.line (length chunk.bytes) → 0 < length chunk.bytes
    → length body + length chunk.bytes ≤ 25_165_824 → Goes (reading Line [] (body ++ chunk.bytes)) rest t
    → Goes (reading Line [] body) (chunk.line ++ (chunk.bytes ++ (carriage_return ∷ line_feed ∷ rest))) t
chunk_goes chunk body rest t x some few goes =
    Goes-append _ (reading (Chunk (length chunk.bytes)) [] body) _ chunk.line _
    (to_line _ chunk.line _ _ (sym (after_some (length chunk.bytes) x.text body some few)) (line_goes chunk.line body (length chunk.bytes) x))
    (Goes-append _ (reading ChunkReturn [] (body ++ chunk.bytes)) _ chunk.bytes _ (data_goes chunk.bytes body some)
    (reading ChunkFeed [] (body ++ chunk.bytes), refl, (reading Line [] (body ++ chunk.bytes), refl, goes)))

print_more : (c : OneChunk) (printed end : List ℕ) → (c.line ++ (c.bytes ++ (carriage_return ∷ line_feed ∷ printed))) ++ end
    ≡ c.line ++ (c.bytes ++ (carriage_return ∷ line_feed ∷ (printed ++ end)))
print_more c printed end = append_assoc c.line (c.bytes ++ (carriage_return ∷ line_feed ∷ printed)) end
    ∙ ap (λ (l : List ℕ). c.line ++ l) (append_assoc c.bytes (carriage_return ∷ line_feed ∷ printed) end)

chunks_go : (chunks : List OneChunk) (last body : List ℕ) → AreChunks (length body) chunks → IsLine last 0
    → Goes (reading Line [] body) (print_chunks chunks ++ (last ++ (carriage_return ∷ line_feed ∷ []))) (reading Whole [] (body ++ held chunks))
chunks_go [] last body are x = subst (λ (l : List ℕ). Goes (reading Line [] body) (last ++ (carriage_return ∷ line_feed ∷ [])) (reading Whole [] l)) (sym (append-nil body)) (last_goes last body x)
chunks_go (chunk ∷ chunks) last body (line, some, few, more) x =
    let again = chunks_go chunks last (body ++ chunk.bytes) (subst (λ (n : ℕ). AreChunks n chunks) (sym (length-append body chunk.bytes)) more) x in
    subst (λ (l : List ℕ). Goes (reading Line [] body) l (reading Whole [] (body ++ held (chunk ∷ chunks))))
    (sym (print_more chunk (print_chunks chunks) (last ++ (carriage_return ∷ line_feed ∷ []))))
    (chunk_goes chunk body _ _ line some few
    (subst (λ (l : List ℕ). Goes (reading Line [] (body ++ chunk.bytes)) (print_chunks chunks ++ (last ++ (carriage_return ∷ line_feed ∷ []))) (reading Whole [] l))
    (append_assoc body chunk.bytes (held chunks)) again))

pub chunked_goes : (bytes body : List ℕ) → IsChunked bytes body → Goes (reading Line [] []) bytes (reading Whole [] body)
chunked_goes bytes body x =
    subst (λ (l : List ℕ). Goes (reading Line [] []) l (reading Whole [] body)) (sym x.bytes_are)
    (subst (λ (l : List ℕ). Goes (reading Line [] []) (print_chunks x.chunks ++ (x.last ++ (carriage_return ∷ line_feed ∷ []))) (reading Whole [] l)) (sym x.body_is)
    (chunks_go x.chunks x.last [] x.are_chunks x.last_line))

-- from single bytes to the grammar

malformed_stays : (bytes line body : List ℕ) (t : Reading) → t.place ≡ Whole → Goes (reading Malformed line body) bytes t → ⊥
malformed_stays [] line body t whole goes = let e : t.place ≡ Malformed = ap (λ (r : Reading). r.place) goes in cc (e, whole)
malformed_stays (byte ∷ bytes) line body t whole (m, step, goes) = step

large_stays : (bytes line body : List ℕ) (t : Reading) → t.place ≡ Whole → Goes (reading TooLarge line body) bytes t → ⊥
large_stays [] line body t whole goes = let e : t.place ≡ TooLarge = ap (λ (r : Reading). r.place) goes in cc (e, whole)
large_stays (byte ∷ bytes) line body t whole (m, step, goes) = step

pub whole_stays : (bytes line body : List ℕ) (t : Reading) → Goes (reading Whole line body) bytes t → (bytes ≡ []) × (t ≡ reading Whole line body)
whole_stays [] line body t goes = (refl, goes)
whole_stays (byte ∷ bytes) line body t (m, step, goes) = absurd step

pub from_is : (m r t : Reading) (bytes : List ℕ) → m ≡ r → Goes m bytes t → Goes r bytes t
from_is m r t bytes is goes = subst (λ (x : Reading). Goes x bytes t) is goes

-- a byte that must be the wanted one
wanted_as : (r : Bool) (byte wanted : ℕ) (next : Place) (line body rest : List ℕ) (m t : Reading) → nat_eq byte wanted ≡ r → t.place ≡ Whole
    → m ≡ reading (if nat_eq byte wanted then next else Malformed) line body → Goes m rest t → (byte ≡ wanted) × Goes (reading next line body) rest t
wanted_as true byte wanted next line body rest m t same whole is goes =
    (same_number byte wanted same, from_is m _ t rest (is ∙ ap (λ (b : Bool). reading (if b then next else Malformed) line body) same) goes)
  where
    same_number : (a b : ℕ) → nat_eq a b ≡ true → a ≡ b
    same_number a b e = grind (arith, common_steps)
wanted_as false byte wanted next line body rest m t other whole is goes =
    absurd (malformed_stays rest line body t whole
    (from_is m _ t rest (is ∙ ap (λ (b : Bool). reading (if b then next else Malformed) line body) other) goes))

wanted_byte : (byte wanted : ℕ) (next : Place) (line body rest : List ℕ) (m t : Reading) → t.place ≡ Whole
    → m ≡ reading (if nat_eq byte wanted then next else Malformed) line body → Goes m rest t → (byte ≡ wanted) × Goes (reading next line body) rest t
wanted_byte byte wanted next line body rest m t whole is goes = wanted_as (nat_eq byte wanted) byte wanted next line body rest m t refl whole is goes

-- CR LF, and what follows
record Returned (bytes line body : List ℕ) (next : Place) (t : Reading) : Type 0 where
  pub rest : List ℕ
  pub bytes_are : bytes ≡ carriage_return ∷ line_feed ∷ rest
  pub on : Goes (reading next line body) rest t

pair_is : (a b c d : ℕ) (rest : List ℕ) → a ≡ c → b ≡ d → a ∷ b ∷ rest ≡ c ∷ d ∷ rest
pair_is a b c d rest first second = cc (first, second)

last_returned : (bytes line body : List ℕ) (t : Reading) → t.place ≡ Whole → Goes (reading LastReturn line body) bytes t → Returned bytes line body Whole t
last_returned [] line body t whole goes = let e : t.place ≡ LastReturn = ap (λ (r : Reading). r.place) goes in absurd (cc (e, whole))
last_returned (first ∷ []) line body t whole (m, step, goes) =
    let a = wanted_byte first carriage_return LastFeed line body [] m t whole step goes in
    let e : t.place ≡ LastFeed = ap (λ (r : Reading). r.place) a.1 in absurd (cc (e, whole))
last_returned (first ∷ second ∷ rest) line body t whole (m, step, goes) =
    let a = wanted_byte first carriage_return LastFeed line body (second ∷ rest) m t whole step goes in
    let b = wanted_byte second line_feed Whole line body rest a.1.0 t whole a.1.1 a.1.2 in
    record { rest = rest; bytes_are = pair_is first second carriage_return line_feed rest a.0 b.0; on = b.1 }

chunk_returned : (bytes line body : List ℕ) (t : Reading) → t.place ≡ Whole → Goes (reading ChunkReturn line body) bytes t → Returned bytes line body Line t
chunk_returned [] line body t whole goes = let e : t.place ≡ ChunkReturn = ap (λ (r : Reading). r.place) goes in absurd (cc (e, whole))
chunk_returned (first ∷ []) line body t whole (m, step, goes) =
    let a = wanted_byte first carriage_return ChunkFeed line body [] m t whole step goes in
    let e : t.place ≡ ChunkFeed = ap (λ (r : Reading). r.place) a.1 in absurd (cc (e, whole))
chunk_returned (first ∷ second ∷ rest) line body t whole (m, step, goes) =
    let a = wanted_byte first carriage_return ChunkFeed line body (second ∷ rest) m t whole step goes in
    let b = wanted_byte second line_feed Line line body rest a.1.0 t whole a.1.1 a.1.2 in
    record { rest = rest; bytes_are = pair_is first second carriage_return line_feed rest a.0 b.0; on = b.1 }

-- the bytes of a chunk, and what follows
record Held (bytes line body : List ℕ) (left : ℕ) (t : Reading) : Type 0 where
  pub run : List ℕ
  pub rest : List ℕ
  pub bytes_are : bytes ≡ run ++ rest
  pub count : length run ≡ left
  pub on : Goes (reading ChunkReturn line (body ++ run)) rest t

one_or_more : (left : ℕ) → 0 < left → (left ≡ 1) ⊎ (1 < left)
one_or_more left some = grind (arith, common_steps)

chunked_more : (left : ℕ) → 1 < left → chunked (left - 1) ≡ Chunk (left - 1)
chunked_more left some = grind (arith, common_steps)

held_on : (byte : ℕ) (bytes line body : List ℕ) (left : ℕ) (t : Reading) → 1 < left → Held bytes line (body ++ byte ∷ []) (left - 1) t
    → Held (byte ∷ bytes) line body left t
held_on byte bytes line body left t some x = record {
  run = byte ∷ x.run;
  rest = x.rest;
  bytes_are = ap (λ (l : List ℕ). byte ∷ l) x.bytes_are;
  count = let e = x.count in omega (arith, e);
  on = from_is _ _ t x.rest (ap (λ (l : List ℕ). reading ChunkReturn line l) (append_assoc body (byte ∷ []) x.run)) x.on;
}

goes_held : (bytes line body : List ℕ) (left : ℕ) (t : Reading) → 0 < left → t.place ≡ Whole → Goes (reading (Chunk left) line body) bytes t → Held bytes line body left t
goes_held [] line body left t some whole goes = let e : t.place ≡ Chunk left = ap (λ (r : Reading). r.place) goes in absurd (cc (e, whole))
goes_held (byte ∷ bytes) line body left t some whole (m, step, goes) = elim (one_or_more left some) [
  | inl one ↦ record {
    run = byte ∷ [];
    rest = bytes;
    bytes_are = refl;
    count = sym one;
    on = from_is m _ t bytes (step ∙ ap (λ (n : ℕ). reading (chunked (n - 1)) line (body ++ byte ∷ [])) one) goes;
  }
  | inr more ↦ held_on byte bytes line body left t more
      (goes_held bytes line (body ++ byte ∷ []) (left - 1) t (omega arith) whole
      (from_is m _ t bytes (step ∙ ap (λ (p : Place). reading p line (body ++ byte ∷ [])) (chunked_more left more)) goes))
]

-- a chunk line, and what follows
record Lined (bytes line body : List ℕ) (t : Reading) : Type 0 where
  pub text : List ℕ
  pub rest : List ℕ
  pub size : ℕ
  pub bytes_are : bytes ≡ text ++ line_feed ∷ rest
  pub alone : list_all is_not_feed text ≡ true
  pub few : length line + length text ≤ 255
  pub told : IsSizeOf ((line ++ text) ++ line_feed ∷ []) (Some size)
  pub on : Goes (after_line (Some size) (reading Line (line ++ text) body)) rest t

long_or_not : (n : ℕ) → (255 ≤ n) ⊎ (n < 255)
long_or_not n = grind (arith, common_steps)

too_long : (byte : ℕ) (line body : List ℕ) → 255 ≤ length line → inside_line byte (reading Line line body) ≡ reading Malformed line body
too_long byte line body long = grind (arith, common_steps)

other_is : (byte : ℕ) → (byte ≡ line_feed → ⊥) → is_not_feed byte ≡ true
other_is byte other = grind (arith, common_steps)

lined_here : (size : Option ℕ) (bytes line body : List ℕ) (m t : Reading) → length line ≤ 255 → t.place ≡ Whole → IsSizeOf (line ++ line_feed ∷ []) size
    → m ≡ after_line size (reading Line line body) → Goes m bytes t → Lined (line_feed ∷ bytes) line body t
lined_here None bytes line body m t few whole told is goes = absurd (malformed_stays bytes line body t whole (from_is m _ t bytes is goes))
lined_here (Some size) bytes line body m t few whole told is goes = record {
  text = [];
  rest = bytes;
  size = size;
  bytes_are = refl;
  alone = refl;
  few = omega arith;
  told = subst (λ (l : List ℕ). IsSizeOf (l ++ line_feed ∷ []) (Some size)) (sym (append-nil line)) told;
  on = from_is m _ t bytes (is ∙ ap (λ (l : List ℕ). after_line (Some size) (reading Line l body)) (sym (append-nil line))) goes;
}

lined_on : (byte : ℕ) (bytes line body : List ℕ) (t : Reading) → (byte ≡ line_feed → ⊥) → Lined bytes (line ++ byte ∷ []) body t → Lined (byte ∷ bytes) line body t
lined_on byte bytes line body t other x = record {
  text = byte ∷ x.text;
  rest = x.rest;
  size = x.size;
  bytes_are = ap (λ (l : List ℕ). byte ∷ l) x.bytes_are;
  alone = ap (λ (b : Bool). b && list_all is_not_feed x.text) (other_is byte other) ∙ x.alone;
  few = let e = length-append line (byte ∷ []) in let f = x.few in omega (arith, e, f);
  told = subst (λ (l : List ℕ). IsSizeOf (l ++ line_feed ∷ []) (Some x.size)) (append_assoc line (byte ∷ []) x.text) x.told;
  on = from_is _ _ t x.rest (ap (λ (l : List ℕ). after_line (Some x.size) (reading Line l body)) (append_assoc line (byte ∷ []) x.text)) x.on;
}

goes_lined : (bytes line body : List ℕ) (t : Reading) → length line ≤ 255 → t.place ≡ Whole → Goes (reading Line line body) bytes t → Lined bytes line body t
goes_lined [] line body t few whole goes = let e : t.place ≡ Line = ap (λ (r : Reading). r.place) goes in absurd (cc (e, whole))
goes_lined (byte ∷ bytes) line body t few whole (m, step, goes) = elim (decide byte line_feed (nat_eq byte line_feed) refl) [
  | inl is ↦ let x = step.ended is in
      subst (λ (b : ℕ). Lined (b ∷ bytes) line body t) (sym is)
      (lined_here x.0 bytes line body m t few whole (subst (λ (b : ℕ). IsSizeOf (line ++ b ∷ []) x.0) is x.1) x.2 goes)
  | inr other ↦ elim (long_or_not (length line)) [
    | inl long ↦ absurd (malformed_stays bytes line body t whole (from_is m _ t bytes (step.goes_on other ∙ too_long byte line body long) goes))
    | inr short ↦ lined_on byte bytes line body t other
        (goes_lined bytes (line ++ byte ∷ []) body t (let e = length-append line (byte ∷ []) in omega (arith, e)) whole
        (from_is m _ t bytes (step.goes_on other ∙ inside byte line body short) goes))
  ]
]

-- the whole body, or a chunk and what follows
record Parsed (bytes body : List ℕ) (t : Reading) : Type 0 where
  pub chunks : List OneChunk
  pub last : List ℕ
  pub are_chunks : AreChunks (length body) chunks
  pub last_line : IsLine last 0
  pub bytes_are : bytes ≡ print_chunks chunks ++ (last ++ (carriage_return ∷ line_feed ∷ []))
  pub body_is : t ≡ reading Whole [] (body ++ held chunks)

record Chunked (bytes body : List ℕ) (t : Reading) : Type 0 where
  pub chunk : OneChunk
  pub rest : List ℕ
  pub line : IsLine chunk.line (length chunk.bytes)
  pub some : 0 < length chunk.bytes
  pub few : length body + length chunk.bytes ≤ 25_165_824
  pub bytes_are : bytes ≡ chunk.line ++ (chunk.bytes ++ (carriage_return ∷ line_feed ∷ rest))
  pub on : Goes (reading Line [] (body ++ chunk.bytes)) rest t

none_or_some : (size : ℕ) → (size ≡ 0) ⊎ (0 < size)
none_or_some size = grind (arith, common_steps)

within_or_not : (n : ℕ) → (n ≤ 25_165_824) ⊎ (25_165_824 < n)
within_or_not n = grind (arith, common_steps)

after_many : (size : ℕ) (line body : List ℕ) → 0 < size → 25_165_824 < length body + size
    → after_line (Some size) (reading Line line body) ≡ reading TooLarge line body
after_many size line body some many = grind (arith, common_steps)

line_of : (bytes body : List ℕ) (t : Reading) (size : ℕ) (x : Lined bytes [] body t) → x.size ≡ size → IsLine (x.text ++ line_feed ∷ []) size
line_of bytes body t size x is = record {
  text = x.text;
  ends = refl;
  alone = x.alone;
  few = let few : length {A = ℕ} [] + length x.text ≤ 255 = x.few in omega (arith, few);
  told = subst (λ (n : ℕ). IsSizeOf (x.text ++ line_feed ∷ []) (Some n)) is x.told;
}

behind_line : (text rest : List ℕ) → text ++ line_feed ∷ rest ≡ (text ++ line_feed ∷ []) ++ rest
behind_line text rest = sym (append_assoc text (line_feed ∷ []) rest)

parsed_last : (bytes body : List ℕ) (t : Reading) (x : Lined bytes [] body t) → t.place ≡ Whole → x.size ≡ 0 → Parsed bytes body t
parsed_last bytes body t x whole none =
    let r = last_returned x.rest [] body t whole (from_is _ _ t x.rest (ap (λ (n : ℕ). after_line (Some n) (reading Line x.text body)) none) x.on) in
    let e = whole_stays r.rest [] body t r.on in
    record {
      chunks = [];
      last = x.text ++ line_feed ∷ [];
      are_chunks = record {};
      last_line = line_of bytes body t 0 x none;
      bytes_are = x.bytes_are ∙ behind_line x.text x.rest
          ∙ ap (λ (l : List ℕ). (x.text ++ line_feed ∷ []) ++ l) (r.bytes_are ∙ ap (λ (l : List ℕ). carriage_return ∷ line_feed ∷ l) e.0);
      body_is = e.1 ∙ ap (λ (l : List ℕ). reading Whole [] l) (sym (append-nil body));
    }

parsed_chunk : (bytes body : List ℕ) (t : Reading) (x : Lined bytes [] body t) → t.place ≡ Whole → 0 < x.size → length body + x.size ≤ 25_165_824 → Chunked bytes body t
parsed_chunk bytes body t x whole some few =
    let h = goes_held x.rest [] body x.size t some whole (from_is _ _ t x.rest (after_some x.size x.text body some few) x.on) in
    let r = chunk_returned h.rest [] (body ++ h.run) t whole h.on in
    let count : length h.run ≡ x.size = h.count in
    record {
      chunk = record { line = x.text ++ line_feed ∷ []; bytes = h.run };
      rest = r.rest;
      line = line_of bytes body t (length h.run) x (sym count);
      some = omega (arith, count);
      few = omega (arith, count);
      bytes_are = x.bytes_are ∙ behind_line x.text x.rest
          ∙ ap (λ (l : List ℕ). (x.text ++ line_feed ∷ []) ++ l) (h.bytes_are ∙ ap (λ (l : List ℕ). h.run ++ l) r.bytes_are);
      on = r.on;
    }

parsed_or_chunk : (bytes body : List ℕ) (t : Reading) (x : Lined bytes [] body t) → t.place ≡ Whole → Parsed bytes body t ⊎ Chunked bytes body t
parsed_or_chunk bytes body t x whole = elim (none_or_some x.size) [
  | inl none ↦ inl (parsed_last bytes body t x whole none)
  | inr some ↦ elim (within_or_not (length body + x.size)) [
    | inl few ↦ inr (parsed_chunk bytes body t x whole some few)
    | inr many ↦ absurd (large_stays x.rest x.text body t whole (from_is _ _ t x.rest (after_many x.size x.text body some many) x.on))
  ]
]

shorter : (line run rest bytes : List ℕ) → bytes ≡ line ++ (run ++ (carriage_return ∷ line_feed ∷ rest)) → length rest < length bytes
shorter line run rest bytes is =
    let a = length-append line (run ++ (carriage_return ∷ line_feed ∷ rest)) in
    let b = length-append run (carriage_return ∷ line_feed ∷ rest) in
    let c : length bytes ≡ length (line ++ (run ++ (carriage_return ∷ line_feed ∷ rest))) = ap length is in
    omega (arith, a, b, c)

parsed_more : (bytes body : List ℕ) (t : Reading) (x : Chunked bytes body t) → Parsed x.rest (body ++ x.chunk.bytes) t → Parsed bytes body t
parsed_more bytes body t x p = record {
  chunks = x.chunk ∷ p.chunks;
  last = p.last;
  are_chunks = (x.line, x.some, x.few, subst (λ (n : ℕ). AreChunks n p.chunks) (length-append body x.chunk.bytes) p.are_chunks);
  last_line = p.last_line;
  bytes_are = x.bytes_are ∙ ap (λ (l : List ℕ). x.chunk.line ++ (x.chunk.bytes ++ (carriage_return ∷ line_feed ∷ l))) p.bytes_are
      ∙ sym (print_more x.chunk (print_chunks p.chunks) (p.last ++ (carriage_return ∷ line_feed ∷ [])));
  body_is = p.body_is ∙ ap (λ (l : List ℕ). reading Whole [] l) (append_assoc body x.chunk.bytes (held p.chunks));
}

parsed_on : (bytes body fuel : List ℕ) (t : Reading) → length bytes ≤ length fuel + 1
    → ((rest more : List ℕ) → length rest ≤ length fuel → Goes (reading Line [] more) rest t → Parsed rest more t)
    → Parsed bytes body t ⊎ Chunked bytes body t → Parsed bytes body t
parsed_on bytes body fuel t few again (inl p) = p
parsed_on bytes body fuel t few again (inr x) =
    let less = shorter x.chunk.line x.chunk.bytes x.rest bytes x.bytes_are in
    parsed_more bytes body t x (again x.rest (body ++ x.chunk.bytes) (omega (arith, less, few)) x.on)

goes_parsed : (fuel bytes body : List ℕ) (t : Reading) → t.place ≡ Whole → length bytes ≤ length fuel → Goes (reading Line [] body) bytes t → Parsed bytes body t
goes_parsed [] [] body t whole few goes = let e : t.place ≡ Line = ap (λ (r : Reading). r.place) goes in absurd (cc (e, whole))
goes_parsed [] (byte ∷ bytes) body t whole few goes = absurd (omega arith)
goes_parsed (one ∷ fuel) bytes body t whole few goes =
    parsed_on bytes body fuel t (omega arith) (λ rest more less on. goes_parsed fuel rest more t whole less on)
    (parsed_or_chunk bytes body t (goes_lined bytes [] body t (omega arith) whole goes) whole)

pub goes_chunked : (bytes body line : List ℕ) → Goes (reading Line [] []) bytes (reading Whole line body) → IsChunked bytes body
goes_chunked bytes body line goes =
    let p = goes_parsed bytes bytes [] (reading Whole line body) refl (omega arith) goes in
    record {
      chunks = p.chunks;
      last = p.last;
      are_chunks = p.are_chunks;
      last_line = p.last_line;
      bytes_are = p.bytes_are;
      body_is = ap (λ (r : Reading). r.body) p.body_is;
    }
