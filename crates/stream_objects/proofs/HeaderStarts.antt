-- What the bytes at a place say of the header that begins there.
use Rattle.std.proofs.Common.{◌≡◌, ℕ, ◌+◌, ◌-◌, ◌*◌, ◌^◌, ◌/◌, ◌%◌, ◌<◌, ◌≤◌, Bool, true, false, List, [], ◌∷◌, ◌++◌, length, take, drop, inl, inr, refl, sym, ap, subst, ◌∙◌, append_assoc, arith}
use Rattle.std.specs.List.{slice_range}
use Rattle.std.proofs.Math.Seq.{take-length}
use Rattle.std.proofs.lemmas.Bool.{cases_eq}
use Rattle.compact_values.proofs.LittleEndian.{IsBytes}
use Rattle.compact_values.proofs.Codes.{one_spelling}
use Rattle.stream_objects.specs.HeaderReading.{header_at}
use Rattle.stream_objects.proofs.HeaderLaws.{header_code}
use Rattle.std.proofs.lemmas.List.{append-nil, take_at, drop_at, length-append, length-drop}
use Rattle.std.proofs.lemmas.List.Folds.{drop_split}
use Rattle.compact_values.specs.Spelled.{IsSpelledAt, EndsInside}
use Rattle.stream_objects.specs.Headers.{StartForm, small, wide, large, EndForm, small_end, wide_end, start_bytes, end_bytes, StartBegins, EndBegins}
use Rattle.stream_objects.specs.HeaderValues.{SpellsHeader}
use Rattle.stream_objects.specs.Faults.{Agree, BeginsHeader, Refuses}
use Rattle.stream_objects.specs.declared.headers.Header.{Header}
use Rattle.stream_objects.specs.declared.headers.Header.TheVariants.{Start, End}
use Rattle.stream_objects.specs.declared.reading.Open.{Open}
use Rattle.stream_objects.specs.declared.fault.TreeFault.{TreeFault}
use Rattle.stream_objects.specs.declared.fault.TreeFault.TheVariants.{Short, BadHeader, WrongEnd, TooDeep, TooMany, NoMemory}

-- ---- the first bit

start_even : (form : StartForm) (kind : ℕ) (compound : Bool) (len : ℕ) (more : List ℕ) → StartBegins (start_bytes form kind compound len ++ more)
start_even small kind true len more = omega arith
start_even small kind false len more = omega arith
start_even wide kind true len more = omega arith
start_even wide kind false len more = omega arith
start_even large kind true len more = omega arith
start_even large kind false len more = omega arith

end_odd : (form : EndForm) (kind : ℕ) (more : List ℕ) → EndBegins (end_bytes form kind ++ more)
end_odd small_end kind more = omega arith
end_odd wide_end kind more = omega arith

pub spelled_start : (kind : ℕ) (compound : Bool) (len : ℕ) (bytes more : List ℕ) → SpellsHeader (Start kind compound len) bytes → StartBegins (bytes ++ more)
spelled_start kind compound len bytes more s = subst (λ (b : List ℕ). StartBegins (b ++ more)) (sym s.bytes_are) (start_even s.form kind compound len more)

pub spelled_end : (kind : ℕ) (bytes more : List ℕ) → SpellsHeader (End kind) bytes → EndBegins (bytes ++ more)
spelled_end kind bytes more s = subst (λ (b : List ℕ). EndBegins (b ++ more)) (sym s.bytes_are) (end_odd s.form kind more)

pub start_begins : (input : List ℕ) (kind : ℕ) (compound : Bool) (len place next : ℕ) → IsSpelledAt SpellsHeader (Start kind compound len) input place next → StartBegins (drop place input)
start_begins input kind compound len place next h =
    subst (λ (b : List ℕ). StartBegins b) (sym (drop_split input place next h.order)) (spelled_start kind compound len (slice_range input place next) (drop next input) h.spelled)

pub end_begins : (input : List ℕ) (kind place next : ℕ) → IsSpelledAt SpellsHeader (End kind) input place next → EndBegins (drop place input)
end_begins input kind place next h =
    subst (λ (b : List ℕ). EndBegins b) (sym (drop_split input place next h.order)) (spelled_end kind (slice_range input place next) (drop next input) h.spelled)

pub not_both_begin : (bytes : List ℕ) → StartBegins bytes → EndBegins bytes → ⊥
not_both_begin [] s e = s
not_both_begin (b ∷ bytes) s e = omega (arith, s, e)

start_longer : (bytes more : List ℕ) → StartBegins bytes → StartBegins (bytes ++ more)
start_longer [] more s = absurd s
start_longer (b ∷ bytes) more s = s

end_longer : (bytes more : List ℕ) → EndBegins bytes → EndBegins (bytes ++ more)
end_longer [] more s = absurd s
end_longer (b ∷ bytes) more s = s

-- ---- a header, or as much of it as there is

agree_of : (xs more ys less : List ℕ) → xs ++ more ≡ ys ++ less → Agree xs ys
agree_of [] more ys less e = inr (ys, refl)
agree_of (x ∷ xs) more [] less e = inl (x ∷ xs, refl)
agree_of (x ∷ xs) more (y ∷ ys) less e =
    let head : x ≡ y = cc in
    let tail : xs ++ more ≡ ys ++ less = cc in
    elim (agree_of xs more ys less tail) [
      | inl r ↦ inl (r.0, ap (λ (l : List ℕ). x ∷ l) r.1 ∙ ap (λ (n : ℕ). n ∷ (ys ++ r.0)) head)
      | inr r ↦ inr (r.0, ap (λ (l : List ℕ). y ∷ l) r.1 ∙ ap (λ (n : ℕ). n ∷ (xs ++ r.0)) (sym head))
    ]

begins_shorter : (h : Header) (bytes more : List ℕ) → BeginsHeader h (bytes ++ more) → BeginsHeader h bytes
begins_shorter h bytes more b = (
  b.0,
  b.1,
  elim b.2 [
    | inl r ↦ agree_of bytes more b.0 r.0 r.1
    | inr r ↦ inr (more ++ r.0, r.1 ∙ append_assoc bytes more r.0)
  ],
)

pub header_begins : (input : List ℕ) (h : Header) (place next : ℕ) → IsSpelledAt SpellsHeader h input place next → BeginsHeader h (drop place input)
header_begins input h place next s = (slice_range input place next, s.spelled, inl (drop next input, drop_split input place next s.order))

-- where one header stands no other begins
pub one_begins : (input : List ℕ) (h k : Header) (place next : ℕ) → IsSpelledAt SpellsHeader h input place next → BeginsHeader k (drop place input) → h ≡ k
one_begins input h k place next s b =
    let whole = drop_split input place next s.order in
    elim b.2 [
      | inl r ↦
          (one_spelling SpellsHeader header_at header_code h k (slice_range input place next) b.0 (drop next input) r.0 s.spelled b.1 (sym whole ∙ r.1)).0
      | inr r ↦
          (one_spelling SpellsHeader header_at header_code h k (slice_range input place next) b.0 (drop next input ++ r.0) [] s.spelled b.1
          (sym (append_assoc (slice_range input place next) (drop next input) r.0) ∙ ap (λ (l : List ℕ). l ++ r.0) (sym whole) ∙ sym r.1 ∙ sym (append-nil b.0))).0
    ]

-- a header that stands at the rest of the bytes
pub spelled_rest : (bytes : List ℕ) (h : Header) (place : ℕ) → place ≤ length bytes → SpellsHeader h (drop place bytes) → IsSpelledAt SpellsHeader h bytes place (length bytes)
spelled_rest bytes h place le s =
    let all : slice_range bytes place (length bytes) ≡ drop place bytes =
    ap (λ (n : ℕ). take n (drop place bytes)) (sym (length-drop place bytes)) ∙ take-length (drop place bytes) in
    record { order = le; inside = omega arith; spelled = subst (λ (b : List ℕ). SpellsHeader h b) (sym all) s }

pub spelled_last : (input bytes : List ℕ) (h : Header) → SpellsHeader h bytes → IsSpelledAt SpellsHeader h (input ++ bytes) (length input) (length (input ++ bytes))
spelled_last input bytes h s =
    spelled_rest (input ++ bytes) h (length input) (omega (arith, length-append input bytes))
    (subst (λ (b : List ℕ). SpellsHeader h b) (sym (drop_at input bytes (length input) refl)) s)

-- no header where none begins, neither whole nor cut
pub none_begins : (input : List ℕ) (place : ℕ) → place ≤ length input → ¬ EndsInside SpellsHeader (drop place input)
    → ((h : Header) (next : ℕ) → ¬ IsSpelledAt SpellsHeader h input place next) → (h : Header) → ¬ BeginsHeader h (drop place input)
none_begins input place le outside none h b =
    elim b.2 [
      | inl r ↦
          let count : length (drop place input) ≡ length b.0 + length r.0 = ap (λ (l : List ℕ). length l) r.1 ∙ length-append b.0 r.0 in
          let slice : slice_range input place (place + length b.0) ≡ b.0 = take_front (drop place input) b.0 r.0 (place + length b.0 - place) r.1 (omega arith) in
          none h (place + length b.0)
          (record { order = omega arith; inside = omega (arith, count, length-drop place input, le); spelled = subst (λ (l : List ℕ). SpellsHeader h l) (sym slice) b.1 })
      | inr r ↦ cut r.0 r.1
    ]
  where
    take_front : (whole front back : List ℕ) (n : ℕ) → whole ≡ front ++ back → n ≡ length front → take n whole ≡ front
    take_front whole front back n e m = ap (λ (k : ℕ). take k whole) m ∙ ap (λ (l : List ℕ). take (length front) l) e ∙ take_at front back (length front) refl

    cut : (more : List ℕ) → b.0 ≡ drop place input ++ more → ⊥
    cut [] e =
        let whole : b.0 ≡ drop place input = e ∙ append-nil (drop place input) in
        none h (length input) (spelled_rest input h place le (subst (λ (l : List ℕ). SpellsHeader h l) whole b.1))
    cut (m ∷ more) e = outside (h, m ∷ more, omega arith, subst (λ (l : List ℕ). SpellsHeader h l) e b.1)

-- of any bytes whose first says so an end begins
pub odd_begins : (first : ℕ) (others : List ℕ) → IsBytes (first ∷ others) → first % 2 ≡ 1 → (h : Header) × BeginsHeader h (first ∷ others)
odd_begins first others fits odd =
    let byte : first < 256 = fits 0 in
    elim (cases_eq (first % 4) 1) [
      | inl one ↦
          let whole : (1 + 2 ^ 2 * (first / 4)) % 256 ≡ first = omega arith in
          (End (first / 4), (first ∷ [], record { form = small_end; fits = omega arith; bytes_are = ap (λ (n : ℕ). n ∷ []) (sym whole) }, inl (others, refl)))
      | inr other ↦ two others fits (omega (arith, odd, other))
    ]
  where
    two : (others : List ℕ) → IsBytes (first ∷ others) → first % 4 ≡ 3 → (h : Header) × BeginsHeader h (first ∷ others)
    two [] fits three =
        let byte : first < 256 = fits 0 in
        let low : (3 + 2 ^ 2 * (first / 4)) % 256 ≡ first = omega arith in
        let high : (3 + 2 ^ 2 * (first / 4)) / 256 % 256 ≡ 0 = omega arith in
        let spells : SpellsHeader (End (first / 4)) (first ∷ 0 ∷ []) =
        record { form = wide_end; fits = omega arith; bytes_are = ap (λ (n : ℕ). n ∷ 0 ∷ []) (sym low) ∙ ap (λ (n : ℕ). (3 + 2 ^ 2 * (first / 4)) % 256 ∷ n ∷ []) (sym high) } in
        (End (first / 4), (first ∷ 0 ∷ [], spells, inr (0 ∷ [], refl)))
    two (second ∷ rest) fits three =
        let byte : first < 256 = fits 0 in
        let next : second < 256 = fits 1 in
        let low : (3 + 2 ^ 2 * ((first + 256 * second) / 4)) % 256 ≡ first = omega arith in
        let high : (3 + 2 ^ 2 * ((first + 256 * second) / 4)) / 256 % 256 ≡ second = omega arith in
        let spells : SpellsHeader (End ((first + 256 * second) / 4)) (first ∷ second ∷ []) = record {
          form = wide_end;
          fits = omega arith;
          bytes_are = ap (λ (n : ℕ). n ∷ second ∷ []) (sym low) ∙ ap (λ (n : ℕ). (3 + 2 ^ 2 * ((first + 256 * second) / 4)) % 256 ∷ n ∷ []) (sym high);
        } in
        (End ((first + 256 * second) / 4), (first ∷ second ∷ [], spells, inl (rest, refl)))

-- and of no bytes at all anything
pub nothing_begins : BeginsHeader (End 0) []
nothing_begins = (1 ∷ [], record { form = small_end; fits = omega arith; bytes_are = refl }, inr (1 ∷ [], refl))

-- ---- a header that is refused is refused however the input goes on

pub refused_longer : (opened : List Open) (bytes more : List ℕ) (f : TreeFault) → Refuses opened bytes f → Refuses opened (bytes ++ more) f
refused_longer opened bytes more (BadHeader place) r =
    elim r [
      | inl e ↦ inl (end_longer bytes more e.0, e.1)
      | inr n ↦ inr (start_longer bytes more n.0, n.1, n.2, λ h b. n.3 h (begins_shorter h bytes more b))
    ]
refused_longer opened bytes more (WrongEnd place) r = (end_longer bytes more r.0, r.1, r.2, r.3, λ b. r.4 (begins_shorter (End r.2.kind) bytes more b))
refused_longer opened bytes more (TooDeep place) r = (start_longer bytes more r.0, r.1)
refused_longer opened bytes more (TooMany place) r = (start_longer bytes more r.0, r.1, r.2)
refused_longer opened bytes more (Short place) r = r
refused_longer opened bytes more NoMemory r = r
