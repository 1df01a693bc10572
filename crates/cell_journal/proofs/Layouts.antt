-- What the first bytes and the bytes at a gate say.
use Rattle.std.proofs.Common.{◌≡◌, inl, inr, ℕ, zero, suc, ◌+◌, ◌-◌, ◌≤◌, ◌<◌, min, List, [], ◌∷◌, ◌++◌, length, take, drop, Some, None, refl, sym, ◌∙◌, ap, arith}
use Rattle.std.proofs.Common.{IfSome, length-drop, get_or}
use Rattle.std.proofs.Math.Seq.{take-length}
use Rattle.compact_values.specs.Compact.{little_endian}
use Rattle.compact_values.specs.Reading.{number_of}
use Rattle.compact_values.proofs.LittleEndian.{IsBytes, little_endian-number_of}
use Rattle.std.proofs.lemmas.Grind.{common_steps}
use lib.Seq.{take-add, drop-drop}
use Rattle.std.proofs.lemmas.List.{take_at, take_all}
use Rattle.std.proofs.lemmas.Bool.{cases_eq}
use Rattle.std.proofs.lemmas.Bool.Decides.{nat_tests}
use Rattle.std.specs.declared.option.Option.{Option}
use Rattle.compact_values.specs.declared.guid.Guid.{Guid}
use Rattle.compact_values.specs.GuidBytes.{guid_bytes}
use Rattle.cell_journal.specs.Layout.{header}
use Rattle.cell_journal.specs.Faults.{signature, differs, header_fault}

-- where nothing differs the bytes begin with these
pub same_front : (place : ℕ) (wants bytes : List ℕ) → differs place wants bytes ≡ None → bytes ≡ wants ++ drop (length wants) bytes
same_front place [] bytes none = refl
same_front place (want ∷ wants) [] none = absurd (cc none)
same_front place (want ∷ wants) (byte ∷ bytes) none = elim (cases_eq byte want) [
  | inl same ↦
      let rest : differs (place + 1) wants bytes ≡ None = (grind (arith, nat_tests, none, same)) in
      cc (same, same_front (place + 1) wants bytes rest)
  | inr other ↦
      let here : differs place (want ∷ wants) (byte ∷ bytes) ≡ Some place = grind (arith, nat_tests) in
      absurd (cc (here, none))
]

-- the signature and a GUID's bytes are a header
pub header_is : (bytes : List ℕ) (guid : Guid) → differs 0 signature bytes ≡ None → guid_bytes guid.number ≡ take (length bytes - 8) (drop 8 bytes) → bytes ≡ header guid
header_is bytes guid none is =
    same_front 0 signature bytes none ∙ ap (λ (l : List ℕ). signature ++ l) (sym (is ∙ take_all (length bytes - 8) (drop 8 bytes) (omega (arith, length-drop 8 bytes))))

pub header_short : (bytes : List ℕ) (total : ℕ) → differs 0 signature bytes ≡ None → length bytes < 24 → length bytes ≡ total → header_fault bytes ≡ Some total
header_short bytes total none short is = grind (arith, nat_tests, none, is)

pub header_whole : (bytes : List ℕ) → differs 0 signature bytes ≡ None → 24 ≤ length bytes → header_fault bytes ≡ None
header_whole bytes none long = grind (arith, nat_tests, none)

pub header_differs : (bytes : List ℕ) (place : ℕ) → differs 0 signature bytes ≡ Some place → header_fault bytes ≡ Some place
header_differs bytes place some = grind (arith, nat_tests, some)

-- what is read of a front tells
pub differs-take : (place n : ℕ) (wants bytes : List ℕ) → length wants ≤ n → differs place wants (take n bytes) ≡ differs place wants bytes
differs-take place n [] bytes le = refl
differs-take place zero (want ∷ wants) bytes le = absurd (omega arith)
differs-take place (suc n) (want ∷ wants) [] le = refl
differs-take place (suc n) (want ∷ wants) (byte ∷ bytes) le = elim (cases_eq byte want) [
  | inl same ↦ grind (arith, nat_tests, same, differs-take (place + 1) n wants bytes (omega arith))
  | inr other ↦ grind (arith, nat_tests)
]

-- an open gate and eight bytes
pub spelled : (bytes : List ℕ) (size : ℕ) → length bytes ≤ 9 → 9 ≤ length bytes → get_or bytes 0 0 ≡ 1 → IsBytes bytes
    → size ≡ number_of (take (length bytes - 1) (drop 1 bytes)) → bytes ≡ 1 ∷ little_endian 8 size
spelled [] size most least gate fits is = absurd (omega arith)
spelled (first ∷ tail) size most least gate fits is =
    let less : suc (length tail) - 1 ≡ length tail = omega arith in
    let size_is : size ≡ number_of tail = is ∙ ap (λ (n : ℕ). number_of (take n tail)) less ∙ ap number_of (take-length tail) in
    let eight : length tail ≡ 8 = omega arith in
    let back : little_endian 8 size ≡ tail =
    ap (little_endian 8) size_is ∙ ap (λ (n : ℕ). little_endian n (number_of tail)) (sym eight) ∙ little_endian-number_of tail (λ i. fits (suc i)) in
    ap (λ (b : ℕ). b ∷ tail) gate ∙ ap (λ (l : List ℕ). 1 ∷ l) (sym back)

-- what a read of n bytes gave
pub read_is : (read : Option (List ℕ)) (c into : List ℕ) (n got at : ℕ) → read ≡ Some c → IfSome read (λ bytes. got ≡ min n (length bytes - at))
    → IfSome read (λ bytes. take got into ≡ take got (drop at bytes)) → take got into ≡ take n (drop at c)
read_is read c into n got at told count bytes =
    let counted : got ≡ min n (length c - at) = rw told at count in
    let copied : take got into ≡ take got (drop at c) = rw told at bytes in
    copied ∙ take_as_far (drop at c) n got (omega (arith, counted, length-drop at c))
  where
    take_as_far : (xs : List ℕ) (n got : ℕ) → got ≡ min n (length xs) → take got xs ≡ take n xs
    take_as_far xs n got is = grind (arith, common_steps)

-- one chunk more
pub chunk_more : (c chunk : List ℕ) (place done want : ℕ) → chunk ≡ take want (drop (place + done) c) → take done (drop place c) ++ chunk ≡ take (done + want) (drop place c)
chunk_more c chunk place done want is =
    ap (λ (l : List ℕ). take done (drop place c) ++ l) (is ∙ ap (λ (l : List ℕ). take want l) (sym (drop-drop done place c))) ∙ sym (take-add done want (drop place c))

pub chunk_read : (read : Option (List ℕ)) (old new c into rest : List ℕ) (place done want got : ℕ) → read ≡ Some c → old ≡ take done (drop place c)
    → new ≡ old ++ take want (into ++ rest) → length into ≡ want → want ≤ got → got ≤ length into
    → IfSome read (λ bytes. take got into ≡ take got (drop (place + done) bytes)) → new ≡ take (done + want) (drop place c)
chunk_read read old new c into rest place done want got told was is long least most bytes =
    let all : got ≡ want = omega (arith, long, least, most) in
    let copied : take got into ≡ take got (drop (place + done) c) = rw told at bytes in
    let chunk : take want (into ++ rest) ≡ take want (drop (place + done) c) =
    take_at into rest want long ∙ sym (take_all want into (omega (arith, long))) ∙ (rw all at copied) in
    is ∙ ap (λ (l : List ℕ). old ++ l) chunk ∙ ap (λ (l : List ℕ). l ++ take want (drop (place + done) c)) was
    ∙ chunk_more c (take want (drop (place + done) c)) place done want refl
