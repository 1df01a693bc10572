-- What is taken from the front is what a reader at place 0 answers.
use Rattle.std.proofs.Common.{◌≡◌, ℕ, ◌+◌, ◌-◌, List, length, take, drop, Some, None, Ok, Err, refl, sym, ap, ◌∙◌, arith}
use Rattle.std.specs.List.{slice_range}
use Rattle.std.proofs.Math.Seq.{take-length}
use Rattle.std.proofs.lemmas.List.{length-drop}
use Rattle.compact_values.specs.ItemReading.{item_at, span_answer}
use Rattle.compact_values.specs.Placed.{PartReading, Whole, Ends, NoForm, joined, answer_in}
use Rattle.compact_values.specs.Reading.{Reading}
use Rattle.compact_values.specs.Taking.{taken, take_item}
use Rattle.compact_values.specs.declared.fault.ValueFault.{ValueFault}
use Rattle.compact_values.specs.declared.span.Span.{Span}
use Rattle.compact_values.proofs.ItemCode.{item_value}
use Rattle.compact_values.proofs.LittleEndian.{IsBytes}

-- the rest of the input from a place on
rest_from : (bytes : List ℕ) (next used : ℕ) → next ≡ 0 + used → take (length bytes - next) (drop next bytes) ≡ drop used bytes
rest_from bytes next used e =
    let same : next ≡ used = omega arith in
    ap (λ (n : ℕ). take n (drop next bytes)) (sym (length-drop next bytes)) ∙ take-length (drop next bytes) ∙ ap (λ (n : ℕ). drop n bytes) same

pub parts_taken : {V : Type 0} (bytes : List ℕ) (r : PartReading V) (v : V) (next : ℕ) → Ok (v, next) ≡ answer_in (length bytes) 0 r
    → Some (v, take (length bytes - next) (drop next bytes)) ≡ taken (joined r) bytes
parts_taken {V} bytes (Whole w used) v next e =
    let pair : ◌≡◌ {A = V × ℕ} (v, next) (w, 0 + used) = cc in
    let place : next ≡ 0 + used = ap (λ (p : V × ℕ). p.1) pair in
    ap (λ (p : V × ℕ). Some (p.0, take (length bytes - next) (drop next bytes))) pair ∙ ap (λ (l : List ℕ). Some (w, l)) (rest_from bytes next used place)
parts_taken bytes Ends v next e = absurd cc
parts_taken bytes (NoForm n) v next e = absurd cc

pub none_taken : {V : Type 0} (bytes : List ℕ) (r : PartReading V) (fault : ValueFault) → Err fault ≡ answer_in (length bytes) 0 r → None ≡ taken (joined r) bytes
none_taken bytes (Whole w used) fault e = absurd cc
none_taken bytes Ends fault e = refl
none_taken bytes (NoForm n) fault e = refl

pub item_taken : (bytes : List ℕ) → IsBytes bytes → (span : Span) (next : ℕ) → Ok (span, next) ≡ span_answer (length bytes) 0 (item_at bytes)
    → Some (slice_range bytes span.from span.to, take (length bytes - next) (drop next bytes)) ≡ take_item bytes
unfolding take_item
item_taken bytes fits span next e =
    let content = slice_range bytes span.from span.to in
    let v = item_value bytes 0 (omega arith) fits (Ok (span, next)) e span next refl in
    ap (λ (l : List ℕ). Some (content, l)) (rest_from bytes next v.0 v.2) ∙ ap (λ (r : Reading (List ℕ)). taken r bytes) (sym v.1)
