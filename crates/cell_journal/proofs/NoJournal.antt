-- Bytes that fail at a place are no journal.
use Rattle.std.proofs.Common.{◌≡◌, ◌≢◌, ⊎_elim, ℕ, ◌+◌, ◌≤◌, List, [], ◌∷◌, ◌++◌, length, take, drop, Some, None, refl, sym, ◌∙◌, ap, arith, append_assoc, length-append}
use Rattle.std.proofs.lemmas.List.{take_at, drop_at}
use Rattle.std.proofs.lemmas.Bool.Decides.{nat_tests}
use Rattle.std.specs.declared.option.Option.{Option}
use Rattle.compact_values.specs.declared.guid.Guid.{Guid}
use Rattle.compact_values.specs.Compact.{little_endian}
use Rattle.compact_values.specs.Reading.{number_of}
use Rattle.compact_values.proofs.LittleEndian.{number_of-little_endian, length-little_endian}
use Rattle.cell_journal.specs.Layout.{header, measured, entries, front, IsBody, AreBodies, Image}
use Rattle.cell_journal.specs.Faults.{header_fault, measured_at, step_at, FailsBehind, FailsAt, Whole, Closed, Fails}
use Rattle.cell_journal.proofs.Unique.{front_same, back_same, parted, tail_same, head_same, small}

-- a whole body is read
whole : (place : ℕ) (body rest : List ℕ) → IsBody body → measured_at place (measured body ++ rest) ≡ Whole body
whole place body rest fit =
    let eight = length-little_endian 8 (length body) in
    let apart : measured body ++ rest ≡ little_endian 8 (length body) ++ (body ++ rest) = append_assoc (little_endian 8 (length body)) body rest in
    let long : length (measured body ++ rest) ≡ 8 + length body + length rest =
    omega (arith, length-append (measured body) rest, length-append (little_endian 8 (length body)) body, eight) in
    let size : number_of (take 8 (measured body ++ rest)) ≡ length body =
    ap (λ (l : List ℕ). number_of (take 8 l)) apart ∙ ap number_of (take_at (little_endian 8 (length body)) (body ++ rest) 8 eight) ∙ number_of-little_endian 8 (length body) (small body fit) in
    let bytes : take (length body) (drop 8 (measured body ++ rest)) ≡ body =
    ap (λ (l : List ℕ). take (length body) (drop 8 l)) apart ∙ ap (λ (l : List ℕ). take (length body) l) (drop_at (little_endian 8 (length body)) (body ++ rest) 8 eight)
    ∙ take_at body rest (length body) refl in
    by_size place (measured body ++ rest) (length body) body long_enough size fit.some fit.most bytes
  where
    long_enough : 8 + length body ≤ length (measured body ++ rest)
    long_enough = omega (arith, length-append (measured body) rest, length-append (little_endian 8 (length body)) body, length-little_endian 8 (length body))

    by_size : (at : ℕ) (bytes : List ℕ) (size : ℕ) (found : List ℕ) → 8 + size ≤ length bytes → number_of (take 8 bytes) ≡ size → 1 ≤ size → size ≤ 33554432
        → take size (drop 8 bytes) ≡ found → measured_at at bytes ≡ Whole found
    by_size at bytes size found long is some most there = grind (arith, nat_tests, is, there)

step_open : (place : ℕ) (rest : List ℕ) → step_at place (1 ∷ rest) ≡ measured_at (place + 1) rest
step_open place rest = refl

step_shut : (place gate : ℕ) (rest : List ℕ) → gate ≢ 1 → step_at place (gate ∷ rest) ≡ Closed
step_shut place gate rest shut = grind (arith, nat_tests)

-- where whole bodies stand and then something fails, no closed list of bodies stands
entries-fail : (bodies others : List (List ℕ)) (gate place at : ℕ) (rest more : List ℕ) → gate ≢ 1 → AreBodies bodies → AreBodies others
    → entries bodies ++ rest ≡ entries others ++ gate ∷ more → step_at at rest ≡ Fails place → ⊥
entries-fail [] [] gate place at rest more shut fit fit_too same fails =
    let closed : step_at at rest ≡ Closed = ap (step_at at) same ∙ step_shut at gate more shut in
    cc (closed, fails)
entries-fail [] (m ∷ others) gate place at rest more shut fit fit_too same fails =
    let there : step_at at rest ≡ Whole m = ap (step_at at) (same ∙ ap (λ (l : List ℕ). 1 ∷ l) (append_assoc (measured m) (entries others) (gate ∷ more)))
    ∙ whole (at + 1) m (entries others ++ gate ∷ more) fit_too.0 in
    cc (there, fails)
entries-fail (b ∷ bodies) [] gate place at rest more shut fit fit_too same fails =
    absurd (shut (sym (head_same 1 gate (measured b ++ entries bodies ++ rest) more same)))
entries-fail (b ∷ bodies) (m ∷ others) gate place at rest more shut fit fit_too same fails =
    let apart = sym (parted b (entries bodies) rest) ∙ tail_same 1 1 (measured b ++ entries bodies ++ rest) (measured m ++ entries others ++ gate ∷ more) same
    ∙ parted m (entries others) (gate ∷ more) in
    let eights : length (little_endian 8 (length b)) ≡ length (little_endian 8 (length m)) = length-little_endian 8 (length b) ∙ sym (length-little_endian 8 (length m)) in
    let lengths = front_same (little_endian 8 (length b)) (little_endian 8 (length m)) (b ++ (entries bodies ++ rest)) (m ++ (entries others ++ gate ∷ more)) eights apart in
    let long : length b ≡ length m =
    sym (number_of-little_endian 8 (length b) (small b fit.0)) ∙ ap number_of lengths ∙ number_of-little_endian 8 (length m) (small m fit_too.0) in
    let behind = back_same (little_endian 8 (length b)) (little_endian 8 (length m)) (b ++ (entries bodies ++ rest)) (m ++ (entries others ++ gate ∷ more)) eights apart in
    entries-fail bodies others gate place at rest more shut fit.1 fit_too.1 (back_same b m (entries bodies ++ rest) (entries others ++ gate ∷ more) long behind) fails

header_whole : (guid : Guid) (rest : List ℕ) → header_fault (header guid ++ rest) ≡ None
header_whole guid rest = grind (arith, nat_tests)

pub no_journal : (bytes : List ℕ) (place : ℕ) (guid : Guid) (bodies : List (List ℕ)) → FailsAt place bytes → Image guid bodies bytes → ⊥
no_journal bytes place guid bodies fails is = ⊎_elim in_header behind fails
  where
    whole_header : header_fault bytes ≡ None
    whole_header = ap header_fault (is.2.bytes_are ∙ append_assoc (header guid) (entries bodies) (is.0 ∷ is.2.rest)) ∙ header_whole guid (entries bodies ++ is.0 ∷ is.2.rest)

    in_header : header_fault bytes ≡ Some place → ⊥
    in_header fault = cc (fault, whole_header)

    behind : FailsBehind place bytes → ⊥
    behind f =
        let apart = sym (append_assoc (header f.guid) (entries f.bodies) f.rest) ∙ sym f.bytes_are ∙ is.2.bytes_are ∙ append_assoc (header guid) (entries bodies) (is.0 ∷ is.2.rest) in
        entries-fail f.bodies bodies is.0 place (length (front f.guid f.bodies)) f.rest is.2.rest is.1 f.fit is.2.fit
        (back_same (header f.guid) (header guid) (entries f.bodies ++ f.rest) (entries bodies ++ is.0 ∷ is.2.rest) refl apart) f.fails

fails_injective : (a b : ℕ) → Fails a ≡ Fails b → a ≡ b
fails_injective a b same = cc same

-- whole bodies, and then something that fails, in two ways
fails-same : (bodies others : List (List ℕ)) (base first second : ℕ) (rest more : List ℕ) → AreBodies bodies → AreBodies others
    → entries bodies ++ rest ≡ entries others ++ more → step_at (base + length (entries bodies)) rest ≡ Fails first → step_at (base + length (entries others)) more ≡ Fails second
    → first ≡ second
fails-same [] [] base first second rest more fit fit_too same fails also = fails_injective first second (sym fails ∙ ap (step_at (base + 0)) same ∙ also)
fails-same [] (m ∷ others) base first second rest more fit fit_too same fails also =
    let there : step_at (base + 0) rest ≡ Whole m = ap (step_at (base + 0)) (same ∙ ap (λ (l : List ℕ). 1 ∷ l) (append_assoc (measured m) (entries others) more))
    ∙ whole (base + 0 + 1) m (entries others ++ more) fit_too.0 in
    absurd (cc (there, fails))
fails-same (b ∷ bodies) [] base first second rest more fit fit_too same fails also =
    let there : step_at (base + 0) more ≡ Whole b = ap (step_at (base + 0)) (sym same ∙ ap (λ (l : List ℕ). 1 ∷ l) (append_assoc (measured b) (entries bodies) rest))
    ∙ whole (base + 0 + 1) b (entries bodies ++ rest) fit.0 in
    absurd (cc (there, also))
fails-same (b ∷ bodies) (m ∷ others) base first second rest more fit fit_too same fails also =
    let apart = sym (parted b (entries bodies) rest) ∙ tail_same 1 1 (measured b ++ entries bodies ++ rest) (measured m ++ entries others ++ more) same
    ∙ parted m (entries others) more in
    let eights : length (little_endian 8 (length b)) ≡ length (little_endian 8 (length m)) = length-little_endian 8 (length b) ∙ sym (length-little_endian 8 (length m)) in
    let lengths = front_same (little_endian 8 (length b)) (little_endian 8 (length m)) (b ++ (entries bodies ++ rest)) (m ++ (entries others ++ more)) eights apart in
    let long : length b ≡ length m =
    sym (number_of-little_endian 8 (length b) (small b fit.0)) ∙ ap number_of lengths ∙ number_of-little_endian 8 (length m) (small m fit_too.0) in
    let behind = back_same (little_endian 8 (length b)) (little_endian 8 (length m)) (b ++ (entries bodies ++ rest)) (m ++ (entries others ++ more)) eights apart in
    let here : base + length (entries (b ∷ bodies)) ≡ base + (9 + length b) + length (entries bodies) =
    omega (arith, length-append (measured b) (entries bodies), length-append (little_endian 8 (length b)) b, length-little_endian 8 (length b)) in
    let there : base + length (entries (m ∷ others)) ≡ base + (9 + length b) + length (entries others) =
    omega (arith, long, length-append (measured m) (entries others), length-append (little_endian 8 (length m)) m, length-little_endian 8 (length m)) in
    fails-same bodies others (base + (9 + length b)) first second rest more fit.1 fit_too.1 (back_same b m (entries bodies ++ rest) (entries others ++ more) long behind)
    (ap (λ (n : ℕ). step_at n rest) (sym here) ∙ fails) (ap (λ (n : ℕ). step_at n more) (sym there) ∙ also)

behind_header : (bytes : List ℕ) (place : ℕ) → FailsBehind place bytes → header_fault bytes ≡ None
behind_header bytes place f =
    ap header_fault (f.bytes_are ∙ append_assoc (header f.guid) (entries f.bodies) f.rest) ∙ header_whole f.guid (entries f.bodies ++ f.rest)

front_long : (guid : Guid) (bodies : List (List ℕ)) → length (front guid bodies) ≡ 24 + length (entries bodies)
front_long guid bodies = length-append (header guid) (entries bodies)

pub one_place : (bytes : List ℕ) (first second : ℕ) → FailsAt first bytes → FailsAt second bytes → first ≡ second
one_place bytes first second fails also = ⊎_elim (λ f. ⊎_elim (both_in_header f) (λ g. absurd (apart second first g f)) also) (λ f. ⊎_elim (λ g. absurd (apart first second f g)) (both_behind f) also) fails
  where
    both_in_header : header_fault bytes ≡ Some first → header_fault bytes ≡ Some second → first ≡ second
    both_in_header f g = some_same first second (sym f ∙ g)
      where
        some_same : (a b : ℕ) → ◌≡◌ {A = Option ℕ} (Some a) (Some b) → a ≡ b
        some_same a b same = cc same

    apart : (a b : ℕ) → FailsBehind a bytes → header_fault bytes ≡ Some b → ⊥
    apart a b f g = let none : header_fault bytes ≡ None = behind_header bytes a f in cc (g, none)

    both_behind : FailsBehind first bytes → FailsBehind second bytes → first ≡ second
    both_behind f g =
        let apart = sym (append_assoc (header f.guid) (entries f.bodies) f.rest) ∙ sym f.bytes_are ∙ g.bytes_are ∙ append_assoc (header g.guid) (entries g.bodies) g.rest in
        fails-same f.bodies g.bodies 24 first second f.rest g.rest f.fit g.fit
        (back_same (header f.guid) (header g.guid) (entries f.bodies ++ f.rest) (entries g.bodies ++ g.rest) refl apart)
        (ap (λ (n : ℕ). step_at n f.rest) (sym (front_long f.guid f.bodies)) ∙ f.fails) (ap (λ (n : ℕ). step_at n g.rest) (sym (front_long g.guid g.bodies)) ∙ g.fails)
