-- The reading of requests on lists gives the request that the bytes are.
use Rattle.std.proofs.Common.{◌≡◌, ◌≢◌, ℕ, ◌≤◌, Bool, true, false, ◌&&◌, List, length, cond, Option, Some, None, Result, Ok, Err, refl, ap, subst, ◌∙◌, ◌↔◌, arith}
use Rattle.std.specs.Prelude.{nat_le, option_and_then}
use Rattle.std.specs.List.{slice_range}
use Rattle.std.specs.Str.{bytes_eq}
use Rattle.std.proofs.lemmas.Bool.{cond-true, and_from, and_parts}
use Rattle.std.proofs.lemmas.Bool.Decides.{nat_tests}
use Rattle.std.proofs.lemmas.Option.{cond_some}
use Rattle.std.proofs.lemmas.Slice.Eq.{bytes_eq-Decides}
use Rattle.compact_values.specs.Reading.{number_of}
use Rattle.compact_values.proofs.LittleEndian.{IsBytes}
use Rattle.stream_objects.specs.declared.tree.Tree.{Tree}
use Rattle.stream_objects.proofs.ReadTrees.{and_then_parts, read_stands, stands_is_read}
use Rattle.doc_model.specs.wire.Fronts.{HasVersions, HasSignature}
use Rattle.doc_model.specs.rules.Limits.{most_elements}
use Rattle.doc_model.specs.wire.Requests.{IsRequest}
use Rattle.doc_model.specs.declared.request.CellRequest.{CellRequest}
use Rattle.data_elements.specs.declared.wire_fault.WireFault.{WireFault}
use Rattle.data_elements.specs.declared.wire_fault.WireFault.TheVariants as faults
use Rattle.wire_requests.specs.RequestAnswers.{IsResult}
use Rattle.wire_requests.specs.RequestOf.{versions_fit, signature, has_front, tree_behind_front, if_few, request_of, Computes}
use Rattle.wire_requests.specs.RequestReading.{request_at}
use Rattle.wire_requests.proofs.OneAnswer.{says, one_only, no_request}
use Rattle.wire_requests.proofs.RequestLaws.{again_request}

-- ---- the front

fits_from : (v w : ℕ) → 12 ≤ v → v ≤ 14 → w ≤ 12 → versions_fit v w ≡ true
fits_from v w a b c = and_from (nat_le 12 v) (nat_le v 14 && nat_le w 12) (grind (arith, nat_tests, a)) (and_from (nat_le v 14) (nat_le w 12) (grind (arith, nat_tests, b)) (grind (arith, nat_tests, c)))

fits_parts : (v w : ℕ) → versions_fit v w ≡ true → (12 ≤ v) × (v ≤ 14) × (w ≤ 12)
fits_parts v w e =
    let p = and_parts (nat_le 12 v) (nat_le v 14 && nat_le w 12) e in
    let q = and_parts (nat_le v 14) (nat_le w 12) p.1 in
    (grind (arith, nat_tests, p.0), grind (arith, nat_tests, q.0), grind (arith, nat_tests, q.1))

module _ (bytes : List ℕ) where
  abbrev version : ℕ
  version = number_of (slice_range bytes 0 2)

  abbrev least : ℕ
  least = number_of (slice_range bytes 2 4)

  abbrev is_signed : Bool
  is_signed = bytes_eq (slice_range bytes 4 12) signature

  front_from : HasVersions bytes → HasSignature bytes → has_front bytes ≡ true
  unfolding has_front
  front_from v s =
      and_from (nat_le 12 (length bytes)) (versions_fit version least && is_signed) (grind (arith, nat_tests, v.long))
      (and_from (versions_fit version least) is_signed (fits_from version least v.low v.high v.least) ((bytes_eq-Decides (slice_range bytes 4 12) signature).1 s))

  front_parts : has_front bytes ≡ true → HasVersions bytes × HasSignature bytes
  unfolding has_front
  front_parts e =
      let p = and_parts (nat_le 12 (length bytes)) (versions_fit version least && is_signed) e in
      let q = and_parts (versions_fit version least) is_signed p.1 in
      let f = fits_parts version least q.0 in
      (record { long = grind (arith, nat_tests, p.0); low = f.0; high = f.1; least = f.2 }, (bytes_eq-Decides (slice_range bytes 4 12) signature).0 q.1)

-- ---- the request

when_found : {A : Type 0} (b : Bool) (o : Option A) (x : A) → cond b o None ≡ Some x → (b ≡ true) × (o ≡ Some x)
when_found {A} true o x e = (refl, e)
when_found {A} false o x e = absurd cc

few_parts : (x : Result CellRequest ℕ) (r : CellRequest) → if_few x ≡ Some r → (x ≡ Ok r) × (length r.elements ≤ 8192)
few_parts (Ok q) r e =
    let c = cond_some (nat_le (length q.elements) most_elements) q r e in
    let few : length q.elements ≤ 8192 = grind (arith, nat_tests, c.0) in
    (ap (λ (s : CellRequest). Ok s) c.1, subst (λ (s : CellRequest). length s.elements ≤ 8192) c.1 few)
few_parts (Err place) r e = absurd cc

module _ (bytes : List ℕ) (fits : IsBytes bytes) where
  abbrev said : Tree → Option CellRequest
  said t = if_few (request_at bytes t)

  -- what is computed is a request
  pub computed_is : (r : CellRequest) → request_of bytes ≡ Some r → IsRequest bytes r
  unfolding request_of
  computed_is r e =
      let w = when_found (has_front bytes) (option_and_then said (tree_behind_front bytes)) r e in
      let front = front_parts bytes w.0 in
      let t = and_then_parts said (tree_behind_front bytes) r w.1 in
      let q = few_parts (request_at bytes t.0) r t.2 in
      record { versions = front.0; signature = front.1; tree = t.0; stands = read_stands bytes t.0 12 fits front.0.long t.1; form = says bytes fits t.0 r q.0; few_elements = q.1 }

  -- a request is computed
  pub request_is_computed : (r : CellRequest) → IsRequest bytes r → request_of bytes ≡ Some r
  unfolding request_of
  request_is_computed r q =
      let few : nat_le (length r.elements) most_elements ≡ true = grind (arith, nat_tests, q.few_elements) in
      cond-true (has_front bytes) (option_and_then said (tree_behind_front bytes)) None (front_from bytes q.versions q.signature)
      ∙ ap (option_and_then said) (stands_is_read bytes q.tree 12 q.stands)
      ∙ ap if_few (again_request bytes fits q.tree r q.form)
      ∙ cond-true (nat_le (length r.elements) most_elements) (Some r) None few

  pub none_is_computed : ((r : CellRequest) → IsRequest bytes r → ⊥) → request_of bytes ≡ None
  none_is_computed none = go (request_of bytes) refl where
    go : (o : Option CellRequest) → request_of bytes ≡ o → request_of bytes ≡ None
    go (Some r) e = absurd (none r (computed_is r e))
    go None e = e

  refused : (f : WireFault) → IsResult bytes (Err f) → f ≢ faults.NoMemory → request_of bytes ≡ None
  refused f a some = none_is_computed (no_request bytes f (one_only bytes fits (Err f) a) some)

  -- what a reader answers is computed
  pub answer_is_computed : (x : Result CellRequest WireFault) → IsResult bytes x → Computes x (request_of bytes)
  answer_is_computed (Ok r) a = request_is_computed r a
  answer_is_computed (Err faults.BadFront) a = refused faults.BadFront a (λ e. absurd cc)
  answer_is_computed (Err faults.BadSignature) a = refused faults.BadSignature a (λ e. absurd cc)
  answer_is_computed (Err (faults.TreeFault f)) a = refused (faults.TreeFault f) a (λ e. absurd cc)
  answer_is_computed (Err (faults.Extra place)) a = refused (faults.Extra place) a (λ e. absurd cc)
  answer_is_computed (Err (faults.SchemaFault place)) a = refused (faults.SchemaFault place) a (λ e. absurd cc)
  answer_is_computed (Err faults.TooMany) a = refused faults.TooMany a (λ e. absurd cc)
  answer_is_computed (Err faults.NoMemory) a = tt

pub computed_exactly : (bytes : List ℕ) (r : CellRequest) → IsBytes bytes → (request_of bytes ≡ Some r) ↔ IsRequest bytes r
computed_exactly bytes r fits = (computed_is bytes fits r, request_is_computed bytes fits r)
