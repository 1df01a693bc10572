-- One turn of the loop over a value: what is before `from` is written, and the bytes from there up to `i` stand for themselves.
use Rattle.std.proofs.Common.{◌≡◌, ℕ, ◌+◌, ◌-◌, ◌<◌, ◌≤◌, List, [], ◌∷◌, ◌++◌, length, get_or, take, drop, refl, sym, ap, ◌∙◌, append_assoc, arith}
use Rattle.std.proofs.lemmas.List.{at_drop_more, at_drop_all, append-nil, take_more, get_or-drop, length-drop}
use Rattle.envelope_write.specs.Xml.{escape, escaped}

-- what waits to be written
abbrev pub waiting : List ℕ → ℕ → ℕ → List ℕ
waiting value from i = take (i - from) (drop from value)

abbrev pub IsWritten : List ℕ → List ℕ → List ℕ → ℕ → ℕ → Type 0
IsWritten before out value from i = out ++ (waiting value from i ++ escaped (drop i value)) ≡ before ++ escaped value

pub written_none : (out value : List ℕ) → IsWritten out out value 0 0
written_none out value = refl

next : (value : List ℕ) (i : ℕ) → i < length value → escaped (drop i value) ≡ escape (get_or value i 0) ++ escaped (drop (i + 1) value)
unfolding escaped
next value i lt = at_drop_more escaped value i 0 lt

waiting_more : (value : List ℕ) (from i : ℕ) → from ≤ i → i < length value → waiting value from (i + 1) ≡ waiting value from i ++ get_or value i 0 ∷ []
waiting_more value from i le lt =
    let more : take ((i - from) + 1) (drop from value) ≡ take (i - from) (drop from value) ++ get_or (drop from value) (i - from) 0 ∷ []
    = take_more (drop from value) (i - from) 0 (omega (arith, length-drop from value)) in
    let here : get_or (drop from value) (i - from) 0 ≡ get_or value (from + (i - from)) 0 = get_or-drop from value (i - from) 0 in
    let place : from + (i - from) ≡ i = omega arith in
    let count : (i + 1) - from ≡ (i - from) + 1 = omega arith in
    rw (count, more, here, place) refl

pub written_plain : (before out value : List ℕ) (from i : ℕ) → from ≤ i → i < length value → escape (get_or value i 0) ≡ get_or value i 0 ∷ []
    → IsWritten before out value from i → IsWritten before out value from (i + 1)
written_plain before out value from i le lt plain done =
    rw (waiting_more value from i le lt, append_assoc (waiting value from i) (get_or value i 0 ∷ []) (escaped (drop (i + 1) value)))
    (let here : escaped (drop i value) ≡ get_or value i 0 ∷ escaped (drop (i + 1) value) = next value i lt ∙ ap (λ (l : List ℕ). l ++ escaped (drop (i + 1) value)) plain in
    rw here at done)

pub written_reference : (before out value text : List ℕ) (from i : ℕ) → i < length value → text ≡ escape (get_or value i 0)
    → IsWritten before out value from i → IsWritten before ((out ++ waiting value from i) ++ text) value (i + 1) (i + 1)
written_reference before out value text from i lt is done =
    let nothing : (i + 1) - (i + 1) ≡ 0 = omega arith in
    let e : escaped (drop i value) ≡ text ++ escaped (drop (i + 1) value) = next value i lt ∙ ap (λ (l : List ℕ). l ++ escaped (drop (i + 1) value)) (sym is) in
    rw (nothing, append_assoc (out ++ waiting value from i) text (escaped (drop (i + 1) value)), append_assoc out (waiting value from i) (text ++ escaped (drop (i + 1) value)), ← e) done

pub written_all : (before out value : List ℕ) (from i : ℕ) → length value ≤ i → i ≤ length value → IsWritten before out value from i
    → out ++ take (length value - from) (drop from value) ≡ before ++ escaped value
unfolding escaped
written_all before out value from i le ge done =
    let end : escaped (drop i value) ≡ [] = at_drop_all escaped value i le in
    let same : i ≡ length value = omega arith in
    (rw (end, append-nil, same) at done)
