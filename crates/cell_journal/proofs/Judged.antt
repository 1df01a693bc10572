-- Bytes are a journal, or there is a place where they fail.
use Rattle.std.proofs.Common.{◌≡◌, ◌⊎◌, inl, inr, ⊎_elim, ℕ, zero, suc, ◌+◌, ◌<◌, ◌≤◌, ◌^◌, List, [], ◌∷◌, ◌++◌, length, take, drop, Some, None, refl, sym, ◌∙◌, ap, subst, arith, append_assoc, length-append, length-drop, take-append-drop}
use Rattle.std.proofs.lemmas.Grind.{common_steps}
use Rattle.std.proofs.lemmas.List.{append-nil, get_or-drop}
use Rattle.std.proofs.lemmas.Bool.{cases_lt, cases_eq}
use Rattle.std.proofs.lemmas.Bool.Decides.{nat_tests}
use lib.Seq.{drop-drop}
use Rattle.std.specs.declared.option.Option.{Option}
use Rattle.compact_values.specs.declared.guid.Guid.{Guid}
use Rattle.compact_values.specs.Compact.{little_endian}
use Rattle.compact_values.specs.Reading.{number_of}
use Rattle.compact_values.specs.GuidBytes.{guid_bytes, guid_number}
use Rattle.compact_values.proofs.LittleEndian.{little_endian-number_of}
use Rattle.compact_values.proofs.GuidLemmas.{guid_back, guid_number_below}
use Rattle.cell_journal.specs.Layout.{header, measured, front, IsBody, AreBodies, Image}
use Rattle.cell_journal.specs.Faults.{AreBytes, IsJournal, FailsSomewhere, signature, differs, header_fault, measured_at, step_at, FailsAt, Fails}
use Rattle.cell_journal.proofs.Images.{front-more, AreBodies-more}
use Rattle.cell_journal.proofs.Layouts.{same_front}

-- A whole body stands behind an open gate.
record StandsFirst (bytes : List ℕ) : Type 0 where
  pub body : List ℕ
  pub rest : List ℕ
  pub fit : IsBody body
  pub bytes_are : bytes ≡ measured body ++ rest

abbrev Measured : ℕ → List ℕ → Type 0
Measured place bytes = ((at : ℕ) × (measured_at place bytes ≡ Fails at)) ⊎ StandsFirst bytes

bytes-drop : (n : ℕ) (bytes : List ℕ) → AreBytes bytes → AreBytes (drop n bytes)
bytes-drop n bytes fits i = rw (get_or-drop n bytes i 0) (fits (n + i))

bytes-take : (n : ℕ) (bytes : List ℕ) → AreBytes bytes → AreBytes (take n bytes)
bytes-take zero bytes fits i = omega arith
bytes-take (suc n) [] fits i = fits i
bytes-take (suc n) (b ∷ bytes) fits zero = fits 0
bytes-take (suc n) (b ∷ bytes) fits (suc i) = bytes-take n bytes (λ k. fits (suc k)) i

cut_length : (place : ℕ) (bytes : List ℕ) → length bytes < 8 → measured_at place bytes ≡ Fails (place + length bytes)
cut_length place bytes short = grind (arith, nat_tests)

no_body : (place : ℕ) (bytes : List ℕ) (size : ℕ) → 8 ≤ length bytes → number_of (take 8 bytes) ≡ size → size < 1 → measured_at place bytes ≡ Fails place
no_body place bytes size long is none = grind (arith, nat_tests, is)

too_long : (place : ℕ) (bytes : List ℕ) (size : ℕ) → 8 ≤ length bytes → number_of (take 8 bytes) ≡ size → 33554432 < size → measured_at place bytes ≡ Fails place
too_long place bytes size long is most = grind (arith, nat_tests, is)

cut_body : (place : ℕ) (bytes : List ℕ) (size : ℕ) → 8 ≤ length bytes → number_of (take 8 bytes) ≡ size → 1 ≤ size → size ≤ 33554432 → length bytes < 8 + size
    → measured_at place bytes ≡ Fails (place + length bytes)
cut_body place bytes size long is some most short = grind (arith, nat_tests, is)

body_first : (bytes : List ℕ) (size : ℕ) → AreBytes bytes → 8 ≤ length bytes → number_of (take 8 bytes) ≡ size → 1 ≤ size → size ≤ 33554432 → 8 + size ≤ length bytes
    → StandsFirst bytes
body_first bytes size fits long is some most whole =
    let body = take size (drop 8 bytes) in
    let size_is : length body ≡ size = grind (arith, common_steps) in
    let eight : length (take 8 bytes) ≡ 8 = grind (arith, common_steps) in
    let spelled : little_endian 8 (length body) ≡ take 8 bytes =
    ap (little_endian 8) (size_is ∙ sym is) ∙ ap (λ (n : ℕ). little_endian n (number_of (take 8 bytes))) (sym eight) ∙ little_endian-number_of (take 8 bytes) (bytes-take 8 bytes fits) in
    record {
      body = body;
      rest = drop size (drop 8 bytes);
      fit = record { some = omega (arith, size_is, some); most = omega (arith, size_is, most) };
      bytes_are = sym (ap (λ (l : List ℕ). (l ++ body) ++ drop size (drop 8 bytes)) spelled ∙ append_assoc (take 8 bytes) body (drop size (drop 8 bytes))
          ∙ ap (λ (l : List ℕ). take 8 bytes ++ l) (take-append-drop size (drop 8 bytes)) ∙ take-append-drop 8 bytes);
    }

measured_or_not : (place : ℕ) (bytes : List ℕ) → AreBytes bytes → Measured place bytes
measured_or_not place bytes fits = ⊎_elim (λ short. inl (place + length bytes, cut_length place bytes short)) (λ long. sized (number_of (take 8 bytes)) long refl) (cases_lt (length bytes) 8)
  where
    sized : (size : ℕ) → 8 ≤ length bytes → number_of (take 8 bytes) ≡ size → Measured place bytes
    sized size long is = ⊎_elim
        (λ none. inl (place, no_body place bytes size long is none))
        (λ some. ⊎_elim
        (λ more. inl (place, too_long place bytes size long is more))
        (λ most. ⊎_elim
        (λ short. inl (place + length bytes, cut_body place bytes size long is some most short))
        (λ whole. inr (body_first bytes size fits long is some most whole))
        (cases_lt (length bytes) (8 + size)))
        (cases_lt 33554432 size))
        (cases_lt size 1)

-- what stands behind some bodies goes on to the end, or fails
abbrev Goes : Guid → List (List ℕ) → List ℕ → Type 0
Goes guid taken rest = ((bodies : List (List ℕ)) × Image guid bodies (front guid taken ++ rest)) ⊎ ((place : ℕ) × FailsAt place (front guid taken ++ rest))

fails_here : (guid : Guid) (taken : List (List ℕ)) (rest : List ℕ) (place : ℕ) → AreBodies taken → step_at (length (front guid taken)) rest ≡ Fails place → Goes guid taken rest
fails_here guid taken rest place fit fails = inr (place, inr (record { guid = guid; bodies = taken; rest = rest; fit = fit; bytes_are = refl; fails = fails }))

goes : (n : ℕ) (guid : Guid) (taken : List (List ℕ)) (rest : List ℕ) → length rest ≤ n → AreBodies taken → AreBytes rest → Goes guid taken rest
goes n guid taken [] le fit fits = fails_here guid taken [] (length (front guid taken)) fit refl
goes zero guid taken (gate ∷ rest) le fit fits = absurd (omega (arith, le))
goes (suc n) guid taken (gate ∷ rest) le fit fits = ⊎_elim (opened (λ first. goes n guid (taken ++ first.body ∷ []) first.rest (behind first) (AreBodies-more taken first.body fit first.fit) (rest_fits first))) (λ shut. inl (taken, (gate, shut, record { rest = rest; bytes_are = refl; fit = fit }))) (cases_eq gate 1)
  where
    one_more : (first : StandsFirst rest) → gate ≡ 1 → front guid (taken ++ first.body ∷ []) ++ first.rest ≡ front guid taken ++ gate ∷ rest
    one_more first is =
        ap (λ (l : List ℕ). l ++ first.rest) (front-more guid taken first.body) ∙ append_assoc (front guid taken) (1 ∷ measured first.body) first.rest
        ∙ ap (λ (l : List ℕ). front guid taken ++ 1 ∷ l) (sym first.bytes_are) ∙ ap (λ (b : ℕ). front guid taken ++ b ∷ rest) (sym is)

    behind : (first : StandsFirst rest) → length first.rest ≤ n
    behind first = omega (arith, le, ap length first.bytes_are, length-append (measured first.body) first.rest)

    rest_fits : (first : StandsFirst rest) → AreBytes first.rest
    rest_fits first =
        let parts : drop (length (measured first.body)) rest ≡ first.rest = ap (λ (l : List ℕ). drop (length (measured first.body)) l) first.bytes_are ∙ dropped (measured first.body) first.rest in
        subst AreBytes parts (bytes-drop (length (measured first.body)) rest (λ i. fits (suc i)))
      where
        dropped : (xs ys : List ℕ) → drop (length xs) (xs ++ ys) ≡ ys
        dropped xs ys = grind (arith, common_steps)

    opened : ((first : StandsFirst rest) → Goes guid (taken ++ first.body ∷ []) first.rest) → gate ≡ 1 → Goes guid taken (gate ∷ rest)
    opened later is = ⊎_elim
        (λ fails. fails_here guid taken (gate ∷ rest) fails.0 fit (ap (λ (b : ℕ). step_at (length (front guid taken)) (b ∷ rest)) is ∙ fails.1))
        (λ first. subst (λ (l : List ℕ). ((bodies : List (List ℕ)) × Image guid bodies l) ⊎ ((place : ℕ) × FailsAt place l)) (one_more first is) (later first))
        (measured_or_not (length (front guid taken) + 1) rest (λ i. fits (suc i)))

-- the first 24 bytes
none_differs : (bytes : List ℕ) → header_fault bytes ≡ None → (differs 0 signature bytes ≡ None) × (24 ≤ length bytes)
none_differs bytes none = by_case (differs 0 signature bytes) refl
  where
    by_case : (found : Option ℕ) → differs 0 signature bytes ≡ found → (differs 0 signature bytes ≡ None) × (24 ≤ length bytes)
    by_case None is = (is, ⊎_elim (λ short. absurd (too_short short is)) (λ long. long) (cases_lt (length bytes) 24))
      where
        too_short : length bytes < 24 → differs 0 signature bytes ≡ None → ⊥
        too_short short is =
            let fault : header_fault bytes ≡ Some (length bytes) = grind (arith, nat_tests, is) in
            cc (fault, none)
    by_case (Some place) is =
        let fault : header_fault bytes ≡ Some place = grind (arith, nat_tests, is) in
        absurd (cc (fault, none))

abbrev guid_in : List ℕ → Guid
guid_in bytes = record { number = guid_number (take 16 (drop 8 bytes)) }

header_first : (bytes : List ℕ) → AreBytes bytes → header_fault bytes ≡ None → (bytes ≡ header (guid_in bytes) ++ drop 24 bytes) × ((guid_in bytes).number < 2 ^ 128)
header_first bytes fits none =
    let checked = none_differs bytes none in
    let sixteen : length (take 16 (drop 8 bytes)) ≡ 16 = long_enough bytes checked.1 in
    let are = bytes-take 16 (drop 8 bytes) (bytes-drop 8 bytes fits) in
    let back : guid_bytes (guid_number (take 16 (drop 8 bytes))) ≡ take 16 (drop 8 bytes) = guid_back (take 16 (drop 8 bytes)) sixteen are in (
      same_front 0 signature bytes checked.0
          ∙ ap (λ (l : List ℕ). signature ++ l) (sym (take-append-drop 16 (drop 8 bytes)) ∙ ap (λ (l : List ℕ). take 16 (drop 8 bytes) ++ l) (drop-drop 16 8 bytes)
          ∙ ap (λ (l : List ℕ). l ++ drop 24 bytes) (sym back)),
      guid_number_below (take 16 (drop 8 bytes)) are,
    )
  where
    length_of_front : (n : ℕ) (xs : List ℕ) → n ≤ length xs → length (take n xs) ≡ n
    length_of_front n xs le = grind (arith, common_steps, le)

    long_enough : (bytes : List ℕ) → 24 ≤ length bytes → length (take 16 (drop 8 bytes)) ≡ 16
    long_enough bytes long = length_of_front 16 (drop 8 bytes) (omega (arith, long, length-drop 8 bytes))

pub judged : (bytes : List ℕ) → AreBytes bytes → IsJournal bytes ⊎ FailsSomewhere bytes
judged bytes fits = by_header (header_fault bytes) refl
  where
    by_header : (found : Option ℕ) → header_fault bytes ≡ found → IsJournal bytes ⊎ FailsSomewhere bytes
    by_header (Some place) is = inr (place, inl is)
    by_header None is =
        let first = header_first bytes fits is in
        let same : front (guid_in bytes) [] ++ drop 24 bytes ≡ bytes = ap (λ (l : List ℕ). l ++ drop 24 bytes) (append-nil (header (guid_in bytes))) ∙ sym first.0 in
        ⊎_elim
        (λ is. inl (guid_in bytes, is.0, first.1, subst (Image (guid_in bytes) is.0) same is.1))
        (λ fails. inr (fails.0, subst (FailsAt fails.0) same fails.1))
        (goes (length (drop 24 bytes)) (guid_in bytes) [] (drop 24 bytes) (omega arith) tt (bytes-drop 24 bytes fits))
