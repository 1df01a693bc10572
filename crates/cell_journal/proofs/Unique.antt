-- Bytes are one journal at most.
use Rattle.std.proofs.Common.{◌≡◌, ◌≢◌, ℕ, ◌<◌, ◌^◌, List, [], ◌∷◌, ◌++◌, length, take, drop, refl, sym, ◌∙◌, ap, arith, append_assoc}
use Rattle.std.proofs.lemmas.List.{take_at, drop_at}
use Rattle.compact_values.specs.declared.guid.Guid.{Guid}
use Rattle.compact_values.specs.Compact.{little_endian}
use Rattle.compact_values.specs.Reading.{number_of}
use Rattle.compact_values.proofs.LittleEndian.{number_of-little_endian, length-little_endian}
use Rattle.compact_values.specs.GuidBytes.{guid_number}
use Rattle.compact_values.proofs.GuidLemmas.{guid_again}
use Rattle.cell_journal.specs.Layout.{header, measured, entries, front, IsBody, AreBodies, Image}

-- parts of equal length
pub front_same : (xs ys cs ds : List ℕ) → length xs ≡ length ys → xs ++ cs ≡ ys ++ ds → xs ≡ ys
front_same xs ys cs ds long same =
    sym (take_at xs cs (length xs) refl) ∙ ap (λ (l : List ℕ). take (length xs) l) same ∙ take_at ys ds (length xs) (sym long)

pub back_same : (xs ys cs ds : List ℕ) → length xs ≡ length ys → xs ++ cs ≡ ys ++ ds → cs ≡ ds
back_same xs ys cs ds long same =
    sym (drop_at xs cs (length xs) refl) ∙ ap (λ (l : List ℕ). drop (length xs) l) same ∙ drop_at ys ds (length xs) (sym long)

-- behind an open gate: the length, the body, the rest
pub parted : (body rest more : List ℕ) → measured body ++ rest ++ more ≡ little_endian 8 (length body) ++ (body ++ (rest ++ more))
parted body rest more = append_assoc (measured body) rest more ∙ append_assoc (little_endian 8 (length body)) body (rest ++ more)

pub tail_same : (a b : ℕ) (cs ds : List ℕ) → a ∷ cs ≡ b ∷ ds → cs ≡ ds
tail_same a b cs ds same = cc same

pub head_same : (a b : ℕ) (cs ds : List ℕ) → a ∷ cs ≡ b ∷ ds → a ≡ b
head_same a b cs ds same = cc same

pub small : (body : List ℕ) → IsBody body → length body < 256 ^ 8
small body fit = omega (arith, fit.most)

entries-unique : (bodies others : List (List ℕ)) (gate other : ℕ) (rest more : List ℕ) → gate ≢ 1 → other ≢ 1 → AreBodies bodies → AreBodies others
    → entries bodies ++ gate ∷ rest ≡ entries others ++ other ∷ more → bodies ≡ others
entries-unique [] [] gate other rest more shut shut_too fit fit_too same = refl
entries-unique [] (m ∷ others) gate other rest more shut shut_too fit fit_too same =
    absurd (shut (head_same gate 1 rest (measured m ++ entries others ++ other ∷ more) same))
entries-unique (b ∷ bodies) [] gate other rest more shut shut_too fit fit_too same =
    absurd (shut_too (sym (head_same 1 other (measured b ++ entries bodies ++ gate ∷ rest) more same)))
entries-unique (b ∷ bodies) (m ∷ others) gate other rest more shut shut_too fit fit_too same =
    let apart = sym (parted b (entries bodies) (gate ∷ rest)) ∙ tail_same 1 1 (measured b ++ entries bodies ++ gate ∷ rest) (measured m ++ entries others ++ other ∷ more) same
    ∙ parted m (entries others) (other ∷ more) in
    let eights : length (little_endian 8 (length b)) ≡ length (little_endian 8 (length m)) = length-little_endian 8 (length b) ∙ sym (length-little_endian 8 (length m)) in
    let lengths = front_same (little_endian 8 (length b)) (little_endian 8 (length m)) (b ++ (entries bodies ++ gate ∷ rest)) (m ++ (entries others ++ other ∷ more)) eights apart in
    let long : length b ≡ length m =
    sym (number_of-little_endian 8 (length b) (small b fit.0)) ∙ ap number_of lengths ∙ number_of-little_endian 8 (length m) (small m fit_too.0) in
    let behind = back_same (little_endian 8 (length b)) (little_endian 8 (length m)) (b ++ (entries bodies ++ gate ∷ rest)) (m ++ (entries others ++ other ∷ more)) eights apart in
    let body = front_same b m (entries bodies ++ gate ∷ rest) (entries others ++ other ∷ more) long behind in
    let left = entries-unique bodies others gate other rest more shut shut_too fit.1 fit_too.1 (back_same b m (entries bodies ++ gate ∷ rest) (entries others ++ other ∷ more) long behind) in
    ap (λ (x : List ℕ). x ∷ bodies) body ∙ ap (λ (xs : List (List ℕ)). m ∷ xs) left

-- whole bodies that stand first
entries-first : (bodies others : List (List ℕ)) (gate : ℕ) (rest more : List ℕ) → gate ≢ 1 → AreBodies bodies → AreBodies others
    → entries bodies ++ gate ∷ rest ≡ entries others ++ more → (left : List (List ℕ)) × (bodies ≡ others ++ left)
entries-first bodies [] gate rest more shut fit fit_too same = (bodies, refl)
entries-first [] (m ∷ others) gate rest more shut fit fit_too same =
    absurd (shut (head_same gate 1 rest (measured m ++ entries others ++ more) same))
entries-first (b ∷ bodies) (m ∷ others) gate rest more shut fit fit_too same =
    let apart = sym (parted b (entries bodies) (gate ∷ rest)) ∙ tail_same 1 1 (measured b ++ entries bodies ++ gate ∷ rest) (measured m ++ entries others ++ more) same
    ∙ parted m (entries others) more in
    let eights : length (little_endian 8 (length b)) ≡ length (little_endian 8 (length m)) = length-little_endian 8 (length b) ∙ sym (length-little_endian 8 (length m)) in
    let lengths = front_same (little_endian 8 (length b)) (little_endian 8 (length m)) (b ++ (entries bodies ++ gate ∷ rest)) (m ++ (entries others ++ more)) eights apart in
    let long : length b ≡ length m =
    sym (number_of-little_endian 8 (length b) (small b fit.0)) ∙ ap number_of lengths ∙ number_of-little_endian 8 (length m) (small m fit_too.0) in
    let behind = back_same (little_endian 8 (length b)) (little_endian 8 (length m)) (b ++ (entries bodies ++ gate ∷ rest)) (m ++ (entries others ++ more)) eights apart in
    let body = front_same b m (entries bodies ++ gate ∷ rest) (entries others ++ more) long behind in
    let found = entries-first bodies others gate rest more shut fit.1 fit_too.1 (back_same b m (entries bodies ++ gate ∷ rest) (entries others ++ more) long behind) in
    (found.0, ap (λ (x : List ℕ). x ∷ bodies) body ∙ ap (λ (xs : List (List ℕ)). m ∷ xs) found.1)

abbrev guid_with : ℕ → Guid
guid_with n = record { number = n }

guids : (a b : Guid) → a.number ≡ b.number → a ≡ b
guids a b same = ap guid_with same

pub one : (bytes : List ℕ) (first second : Guid) (bodies others : List (List ℕ)) → first.number < 2 ^ 128 → second.number < 2 ^ 128
    → Image first bodies bytes → Image second others bytes → (first ≡ second) × (bodies ≡ others)
one bytes first second bodies others fits fits_too is also =
    let apart = sym (append_assoc (header first) (entries bodies) (is.0 ∷ is.2.rest)) ∙ sym is.2.bytes_are ∙ also.2.bytes_are ∙ append_assoc (header second) (entries others) (also.0 ∷ also.2.rest) in
    let headers = front_same (header first) (header second) (entries bodies ++ is.0 ∷ is.2.rest) (entries others ++ also.0 ∷ also.2.rest) refl apart in
    let numbers : first.number ≡ second.number = sym (guid_again first.number fits) ∙ ap (λ (l : List ℕ). guid_number (drop 8 l)) headers ∙ guid_again second.number fits_too in (
      guids first second numbers,
      entries-unique bodies others is.0 also.0 is.2.rest also.2.rest is.1 also.1 is.2.fit also.2.fit
          (back_same (header first) (header second) (entries bodies ++ is.0 ∷ is.2.rest) (entries others ++ also.0 ∷ also.2.rest) refl apart),
    )

pub come_first : (bytes rest : List ℕ) (first second : Guid) (bodies others : List (List ℕ)) → first.number < 2 ^ 128 → second.number < 2 ^ 128
    → Image first bodies bytes → AreBodies others → bytes ≡ front second others ++ rest → (first ≡ second) × ((more : List (List ℕ)) × (bodies ≡ others ++ more))
come_first bytes rest first second bodies others fits fits_too is fit_too begins =
    let apart = sym (append_assoc (header first) (entries bodies) (is.0 ∷ is.2.rest)) ∙ sym is.2.bytes_are ∙ begins ∙ append_assoc (header second) (entries others) rest in
    let headers = front_same (header first) (header second) (entries bodies ++ is.0 ∷ is.2.rest) (entries others ++ rest) refl apart in
    let numbers : first.number ≡ second.number = sym (guid_again first.number fits) ∙ ap (λ (l : List ℕ). guid_number (drop 8 l)) headers ∙ guid_again second.number fits_too in (
      guids first second numbers,
      entries-first bodies others is.0 is.2.rest rest is.1 is.2.fit fit_too (back_same (header first) (header second) (entries bodies ++ is.0 ∷ is.2.rest) (entries others ++ rest) refl apart),
    )
