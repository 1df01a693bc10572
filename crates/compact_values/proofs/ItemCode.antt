-- The reader of binary items recognises their spellings, and gives where the content stands.
use Rattle.std.proofs.Common.{◌≡◌, ◌≢◌, ℕ, ◌+◌, ◌-◌, ◌≤◌, ◌<◌, ◌^◌, ◌↔◌, inl, inr, List, ◌++◌, length, take, drop, Result, Ok, Err, refl, sym, ap, subst, ◌∙◌, append_assoc, arith}
use Rattle.std.specs.Prelude.{replicate}
use Rattle.std.specs.List.{slice_range}
use Rattle.std.proofs.lemmas.Bool.{cases_lt, lt-ltb, le-ltb}
use Rattle.std.proofs.lemmas.List.{take-append-drop, length-take, length-drop, length-append, take_at, drop_at, length-replicate}
use Rattle.compact_values.specs.Answers.{IsShortAt, IsOutOfFormAt}
use Rattle.compact_values.specs.Compact.{compact}
use Rattle.compact_values.specs.Items.{SpellsItem, IsItemAt}
use Rattle.compact_values.specs.ItemReading.{content_at, content_behind, item_at, span_answer}
use Rattle.compact_values.specs.Reading.{Reading, Value, Cut, Malformed, compact_at, answer_at}
use Rattle.compact_values.specs.Spelled.{IsSpelledAt, EndsInside}
use Rattle.compact_values.specs.declared.fault.ValueFault.{ValueFault}
use Rattle.compact_values.specs.declared.fault.ValueFault.TheVariants.{Short, OutOfForm, NoMemory}
use Rattle.compact_values.specs.declared.span.Span.{Span}
use Rattle.compact_values.proofs.LittleEndian.{IsBytes}
use Rattle.compact_values.proofs.Codes.{Recognises, cases_reading, IsFoundAt-of, IsShortAt-of, IsOutOfFormAt-of}
use Rattle.compact_values.proofs.CompactCode.{compact_code}
use Rattle.compact_values.proofs.BothCode.{take-both}
use Rattle.compact_values.proofs.ReadingSteps.{drop-both}

item_as : (b : List ℕ) (r : Reading ℕ) → compact_at b ≡ r → item_at b ≡ content_behind r b
unfolding item_at
item_as b r e = ap (λ (q : Reading ℕ). content_behind q b) e

whole : (count used : ℕ) (rest : List ℕ) → count ≤ length rest → content_at count used rest ≡ Value (take count rest) (used + count)
whole count used rest le = rw (le-ltb (length rest) count le) refl

short : (count used : ℕ) (rest : List ℕ) → length rest < count → content_at count used rest ≡ Cut
short count used rest lt = rw (lt-ltb (length rest) count lt) refl

again : (v : List ℕ) (b more : List ℕ) → SpellsItem v b → item_at (b ++ more) ≡ Value v (length b)
again v b more s =
    let head = compact (length v) in
    let bytes : b ++ more ≡ head ++ (v ++ more) = ap (λ (l : List ℕ). l ++ more) s.bytes_are ∙ append_assoc head v more in
    let count = compact_code.again (length v) head (v ++ more) (record { range = s.range; bytes_are = refl }) in
    let behind : drop (length head) (head ++ (v ++ more)) ≡ v ++ more = drop_at head (v ++ more) (length head) refl in
    let sum : length head + length v ≡ length b = omega (arith, length-append head v, ap (λ (l : List ℕ). length l) s.bytes_are) in
    ap item_at bytes ∙ item_as (head ++ (v ++ more)) (Value (length v) (length head)) count ∙ ap (content_at (length v) (length head)) behind
    ∙ whole (length v) (length head) (v ++ more) (omega (arith, length-append v more)) ∙ ap (λ (l : List ℕ). Value l (length head + length v)) (take_at v more (length v) refl)
    ∙ ap (λ (n : ℕ). Value v n) sum

takes : (b : List ℕ) (v : List ℕ) (used : ℕ) → IsBytes b → item_at b ≡ Value v used → (used ≤ length b) × SpellsItem v (take used b)
takes b v used fits e =
    elim (cases_reading (compact_at b)) [
      | inl r ↦
          let t = compact_code.takes b r.0 r.1 fits r.2 in
          elim (cases_lt (length (drop r.1 b)) r.0) [
            | inl lt ↦ let bad = item_as b (Value r.0 r.1) r.2 ∙ short r.0 r.1 (drop r.1 b) lt in absurd cc
            | inr le ↦
                let is = item_as b (Value r.0 r.1) r.2 ∙ whole r.0 r.1 (drop r.1 b) le in
                let same : Value (take r.0 (drop r.1 b)) (r.1 + r.0) ≡ Value v used = sym is ∙ e in
                let content : take r.0 (drop r.1 b) ≡ v = cc in
                let total : r.1 + r.0 ≡ used = cc in
                let count : r.0 ≡ length v = omega (arith, ap (λ (l : List ℕ). length l) content, length-take r.0 (drop r.1 b), le) in
                let bytes : take (r.1 + r.0) b ≡ compact (length v) ++ v =
                take-both r.1 r.0 b t.0 ∙ ap (λ (l : List ℕ). take r.1 b ++ l) content ∙ ap (λ (l : List ℕ). l ++ v) (t.1.bytes_are ∙ ap compact count) in (
                  omega (arith, total, le, length-drop r.1 b, t.0),
                  record { range = subst (λ (n : ℕ). n < 2 ^ 64) count t.1.range; bytes_are = ap (λ (n : ℕ). take n b) (sym total) ∙ bytes },
                )
          ]
      | inr (inl r) ↦ let bad = item_as b Cut r in absurd cc
      | inr (inr r) ↦ let bad = item_as b Malformed r in absurd cc
    ]

cut : (b : List ℕ) → IsBytes b → item_at b ≡ Cut → EndsInside SpellsItem b
cut b fits e =
    elim (cases_reading (compact_at b)) [
      | inl r ↦
          let t = compact_code.takes b r.0 r.1 fits r.2 in
          let rest = drop r.1 b in
          elim (cases_lt (length rest) r.0) [
            | inl lt ↦
                let n : ℕ = r.0 - length rest in
                let zeros : List ℕ = replicate n 0 in
                let zero_count : length zeros ≡ n = length-replicate {A = ℕ} n 0 in
                let count : r.0 ≡ length (rest ++ zeros) = omega (arith, length-append rest zeros, zero_count, lt) in (
                  rest ++ zeros,
                  zeros,
                  omega (arith, zero_count, lt),
                  record {
                    range = subst (λ (k : ℕ). k < 2 ^ 64) count t.1.range;
                    bytes_are =
                        ap (λ (l : List ℕ). l ++ zeros) (sym (take-append-drop r.1 b)) ∙ append_assoc (take r.1 b) rest zeros
                        ∙ ap (λ (l : List ℕ). l ++ (rest ++ zeros)) (t.1.bytes_are ∙ ap compact count);
                  },
                )
            | inr le ↦ let bad = item_as b (Value r.0 r.1) r.2 ∙ whole r.0 r.1 rest le in absurd cc
          ]
      | inr (inl r) ↦
          let h = compact_code.cut b fits r in
          let content : List ℕ = replicate h.0 0 in
          let count : length content ≡ h.0 = length-replicate {A = ℕ} h.0 0 in (
            content,
            h.1 ++ content,
            omega (arith, h.2, length-append h.1 content),
            record {
              range = subst (λ (k : ℕ). k < 2 ^ 64) (sym count) h.3.range;
              bytes_are = sym (append_assoc b h.1 content) ∙ ap (λ (l : List ℕ). l ++ content) (h.3.bytes_are ∙ ap compact (sym count));
            },
          )
      | inr (inr r) ↦ let bad = item_as b Malformed r in absurd cc
    ]

stays : (b more : List ℕ) → IsBytes b → item_at b ≡ Malformed → item_at (b ++ more) ≡ Malformed
stays b more fits e =
    elim (cases_reading (compact_at b)) [
      | inl r ↦
          elim (cases_lt (length (drop r.1 b)) r.0) [
            | inl lt ↦ let bad = item_as b (Value r.0 r.1) r.2 ∙ short r.0 r.1 (drop r.1 b) lt in absurd cc
            | inr le ↦ let bad = item_as b (Value r.0 r.1) r.2 ∙ whole r.0 r.1 (drop r.1 b) le in absurd cc
          ]
      | inr (inl r) ↦ let bad = item_as b Cut r in absurd cc
      | inr (inr r) ↦ item_as (b ++ more) Malformed (compact_code.stays b more fits r)
    ]

pub item_code : Recognises SpellsItem item_at
item_code = record { again = again; takes = takes; cut = cut; stays = stays }

same_span : (span : Span) (next from to : ℕ) → from ≡ span.from → to ≡ span.to → span.to ≡ next → ◌≡◌ {A = Result (Span × ℕ) ValueFault} (Ok (record { from = from; to = to }, to)) (Ok (span, next))
same_span span next from to e f g =
    ap (λ (n : ℕ). Ok (record { from = n; to = to }, to)) e ∙ ap (λ (n : ℕ). Ok (record { from = span.from; to = n }, n)) f ∙ ap (λ (n : ℕ). Ok (span, n)) g

-- ---- the answers

module _ (bytes : List ℕ) (at : ℕ) (le : at ≤ length bytes) (fits : IsBytes bytes) (answer : Result (Span × ℕ) ValueFault) (e : answer ≡ span_answer (length bytes) at (item_at (drop at bytes))) where
  abbrev len : ℕ
  len = length bytes

  abbrev read : Reading (List ℕ)
  read = item_at (drop at bytes)

  to_short : (r : Reading (List ℕ)) (place : ℕ) → span_answer len at r ≡ Err (Short place) → answer_at len at r ≡ Err (Short place)
  to_short (Value v used) place f = absurd cc
  to_short Cut place f = cc
  to_short Malformed place f = absurd cc

  of_short : (r : Reading (List ℕ)) (place : ℕ) → answer_at len at r ≡ Err (Short place) → span_answer len at r ≡ Err (Short place)
  of_short (Value v used) place f = absurd cc
  of_short Cut place f = cc
  of_short Malformed place f = absurd cc

  to_malformed : (r : Reading (List ℕ)) (place : ℕ) → span_answer len at r ≡ Err (OutOfForm place) → answer_at len at r ≡ Err (OutOfForm place)
  to_malformed (Value v used) place f = absurd cc
  to_malformed Cut place f = absurd cc
  to_malformed Malformed place f = cc

  of_malformed : (r : Reading (List ℕ)) (place : ℕ) → answer_at len at r ≡ Err (OutOfForm place) → span_answer len at r ≡ Err (OutOfForm place)
  of_malformed (Value v used) place f = absurd cc
  of_malformed Cut place f = absurd cc
  of_malformed Malformed place f = cc

  pub short_item : IsShortAt SpellsItem bytes at answer
  short_item place =
      let both = IsShortAt-of SpellsItem item_at item_code bytes at le fits (answer_at len at read) refl place in
      (λ err. both.0 (to_short read place (sym e ∙ err)), λ h. e ∙ of_short read place (both.1 h))

  pub out_of_form_item : IsOutOfFormAt SpellsItem bytes at answer
  out_of_form_item place =
      let both = IsOutOfFormAt-of SpellsItem item_at item_code bytes at le fits (answer_at len at read) refl place in
      (λ err. both.0 (to_malformed read place (sym e ∙ err)), λ h. e ∙ of_malformed read place (both.1 h))

  pub item_takes_no_memory : answer ≢ Err NoMemory
  item_takes_no_memory f = go read (sym e ∙ f) where
    go : (r : Reading (List ℕ)) → span_answer len at r ≢ Err NoMemory
    go (Value v used) g = absurd cc
    go Cut g = absurd cc
    go Malformed g = absurd cc

  value_in : (r : Reading (List ℕ)) (v : List ℕ) (next : ℕ) → answer_at len at r ≡ Ok (v, next) → (used : ℕ) × (r ≡ Value v used) × (next ≡ at + used)
  value_in (Value w used) v next f =
      let pair : ◌≡◌ {A = List ℕ × ℕ} (w, at + used) (v, next) = cc in
      (used, ap (λ (p : List ℕ × ℕ). Value p.0 used) pair, sym (ap (λ (p : List ℕ × ℕ). p.1) pair))
  value_in Cut v next f = absurd cc
  value_in Malformed v next f = absurd cc

  span_in : (r : Reading (List ℕ)) (span : Span) (next : ℕ) → span_answer len at r ≡ Ok (span, next)
      → (v : List ℕ) × (used : ℕ) × (r ≡ Value v used) × (span.from ≡ at + used - length v) × (span.to ≡ at + used) × (next ≡ at + used)
  span_in (Value v used) span next f =
      let made : Span = record { from = at + used - length v; to = at + used } in
      let pair : ◌≡◌ {A = Span × ℕ} (span, next) (made, at + used) = cc in
      (v, used, refl, ap (λ (p : Span × ℕ). p.0.from) pair, ap (λ (p : Span × ℕ). p.0.to) pair, ap (λ (p : Span × ℕ). p.1) pair)
  span_in Cut span next f = absurd cc
  span_in Malformed span next f = absurd cc

  -- the content of an item that is spelled up to `next` stands at its end
  content_is : (v : List ℕ) (next from : ℕ) → IsSpelledAt SpellsItem v bytes at next → from ≡ next - length v → slice_range bytes from next ≡ v
  content_is v next from s place =
      let head = compact (length v) in
      let behind = drop (next - at) (drop at bytes) in
      let front : slice_range bytes at next ≡ head ++ v = s.spelled.bytes_are in
      let parts : drop at bytes ≡ head ++ (v ++ behind) = sym (take-append-drop (next - at) (drop at bytes)) ∙ ap (λ (l : List ℕ). l ++ behind) front ∙ append_assoc head v behind in
      let count : next - at ≡ length head + length v = omega (
        arith,
        ap (λ (l : List ℕ). length l) front,
        length-append head v,
        length-take (next - at) (drop at bytes),
        length-drop at bytes,
        s.order,
        s.inside,
      ) in
      let start : from ≡ at + length head = omega (arith, place, count, s.order) in
      let there : drop from bytes ≡ v ++ behind =
      ap (λ (n : ℕ). drop n bytes) start ∙ drop-both at (length head) bytes ∙ ap (λ (l : List ℕ). drop (length head) l) parts ∙ drop_at head (v ++ behind) (length head) refl in
      let size : next - from ≡ length v = omega (arith, start, count, s.order) in
      ap (λ (l : List ℕ). take (next - from) l) there ∙ take_at v behind (next - from) (sym size)

  pub found_item : (span : Span) (next : ℕ) → (answer ≡ Ok (span, next)) ↔ IsItemAt span bytes at next
  found_item span next = (
    λ ok.
        let h = span_in read span next (sym e ∙ ok) in
        let v = h.0 in
        let there : answer_at len at read ≡ Ok (v, next) = ap (λ (r : Reading (List ℕ)). answer_at len at r) h.2 ∙ ap (λ (n : ℕ). Ok (v, n)) (sym h.5) in
        let s = (IsFoundAt-of SpellsItem item_at item_code bytes at le fits (answer_at len at read) refl v next).0 there in
        let ends : span.to ≡ next = h.4 ∙ sym h.5 in
        let content : slice_range bytes span.from span.to ≡ v = ap (λ (n : ℕ). slice_range bytes span.from n) ends ∙ content_is v next span.from s (omega (arith, h.3, h.5)) in
        record {
          order = omega (arith, h.3, h.4);
          ends = ends;
          spelled = subst (λ (l : List ℕ). IsSpelledAt SpellsItem l bytes at next) (sym content) s;
        },
    λ h.
        let content = slice_range bytes span.from span.to in
        let found = (IsFoundAt-of SpellsItem item_at item_code bytes at le fits (answer_at len at read) refl content next).1 h.spelled in
        let r = value_in read content next found in
        let size : length content ≡ span.to - span.from = omega (arith, length-take (span.to - span.from) (drop span.from bytes), length-drop span.from bytes, h.order, h.ends, h.spelled.inside) in
        let from : at + r.0 - length content ≡ span.from = omega (arith, size, r.2, h.ends, h.order) in
        let to : at + r.0 ≡ span.to = omega (arith, r.2, h.ends) in
        e ∙ ap (λ (q : Reading (List ℕ)). span_answer len at q) r.1 ∙ same_span span next (at + r.0 - length content) (at + r.0) from to h.ends,
  )

  -- the content that was read, and how many bytes the item takes
  pub item_value : (span : Span) (next : ℕ) → answer ≡ Ok (span, next) → (used : ℕ) × (read ≡ Value (slice_range bytes span.from span.to) used) × (next ≡ at + used)
  item_value span next ok =
      let content = slice_range bytes span.from span.to in
      value_in read content next ((IsFoundAt-of SpellsItem item_at item_code bytes at le fits (answer_at len at read) refl content next).1 ((found_item span next).0 ok).spelled)
