-- Bytes have one answer, where memory doesn't run out.
use Rattle.std.proofs.Common.{◌≡◌, ◌≢◌, ℕ, ◌<◌, List, length, Option, Some, None, Result, Ok, Err, inl, inr, refl, sym, ap, subst, arith}
use Rattle.compact_values.proofs.LittleEndian.{IsBytes}
use Rattle.stream_objects.specs.declared.tree.Tree.{Tree}
use Rattle.stream_objects.specs.declared.fault.TreeFault.{TreeFault}
use Rattle.stream_objects.specs.declared.fault.TreeFault.TheVariants as trees
use Rattle.stream_objects.specs.Answers.{IsFaultAt}
use Rattle.stream_objects.specs.Answers as stream
use Rattle.stream_objects.specs.Trees.{IsTreeAt}
use Rattle.stream_objects.proofs.Stops.{one_answer, object_inside}
use Rattle.stream_objects.specs.Parts.{IsFirstBroken}
use Rattle.compact_values.proofs.Takes.{some_pair}
use Rattle.stream_objects.proofs.Broken.{Judges, one_broken, none_broken}
use Rattle.doc_model.specs.declared.response.CellResponse.{CellResponse}
use Rattle.data_elements.specs.declared.wire_fault.WireFault.{WireFault}
use Rattle.data_elements.specs.declared.wire_fault.WireFault.TheVariants as faults
use Rattle.doc_model.specs.wire.SeenResponses.{HasVersions, HasSignature, IsCellResponse, ReadsAs}
use Rattle.doc_model.specs.readers.ResponseSites.{InOwnForm, site_start, response_sites}
use Rattle.wire_responses.specs.ResponseReading.{response_at}
use Rattle.wire_responses.specs.ResponseAnswers.{IsResult, IsOnlyResult, GivesFew}
use Rattle.wire_responses.proofs.ResponseLaws.{judges_response, again_response}

module _ (bytes : List ℕ) (fits : IsBytes bytes) where
  abbrev Answer : Type 0
  Answer = Result CellResponse WireFault

  -- one tree, or one fault, stands behind the front
  one_stands : HasVersions bytes → (a b : Result (Tree × ℕ) TreeFault) → stream.IsResult bytes 12 a → stream.IsResult bytes 12 b → a ≢ Err trees.NoMemory → b ≢ Err trees.NoMemory → a ≡ b
  one_stands v a b p q x y = one_answer bytes 12 v.long a b p q x y

  found : Tree → ℕ → Result (Tree × ℕ) TreeFault
  found t n = Ok (t, n)

  failed : TreeFault → Result (Tree × ℕ) TreeFault
  failed f = Err f

  same_tree : HasVersions bytes → (t u : Tree) (m n : ℕ) → IsTreeAt bytes t 12 m → IsTreeAt bytes u 12 n → (t ≡ u) × (m ≡ n)
  unfolding found
  same_tree v t u m n p q =
      let e : found t m ≡ found u n = one_stands v (found t m) (found u n) p q (λ e. absurd cc) (λ e. absurd cc) in
      some_pair (t, m) (u, n) (ap some_of e)
    where
      some_of : Result (Tree × ℕ) TreeFault → Option (Tree × ℕ)
      some_of (Ok x) = Some x
      some_of (Err f) = None

  no_fault : HasVersions bytes → (t : Tree) (f : TreeFault) (m : ℕ) → IsTreeAt bytes t 12 m → IsFaultAt bytes 12 f → f ≢ trees.NoMemory → ⊥
  unfolding found failed
  no_fault v t f m p q ne =
      let e : found t m ≡ failed f = one_stands v (found t m) (failed f) p q (λ e. absurd cc) (λ e. ne cc) in
      absurd cc

  same_fault : HasVersions bytes → (f g : TreeFault) → IsFaultAt bytes 12 f → IsFaultAt bytes 12 g → f ≢ trees.NoMemory → g ≢ trees.NoMemory → f ≡ g
  unfolding failed
  same_fault v f g p q x y =
      let e : failed f ≡ failed g = one_stands v (failed f) (failed g) p q (λ e. x cc) (λ e. y cc) in
      cc

  -- a tree that takes all of the input
  pub whole_is : (t : Tree) (next : ℕ) → (next < length bytes → ⊥) → IsTreeAt bytes t 12 next → IsTreeAt bytes t 12 (length bytes)
  whole_is t next ge p =
      let end : next ≡ length bytes = omega (arith, object_inside bytes 12 t 12 next p.object, ge) in
      subst (λ (n : ℕ). IsTreeAt bytes t 12 n) end p

  form_is : (t : Tree) (response : CellResponse) → response_at bytes t ≡ Ok response → IsCellResponse bytes t response
  form_is t response g = go (response_at bytes t) g (judges_response bytes fits t) where
    go : (r : Result CellResponse ℕ) → r ≡ Ok response → Judges (InOwnForm bytes) site_start (IsCellResponse bytes t) (response_sites bytes t) r → IsCellResponse bytes t response
    go (Ok read) e j = let same : read ≡ response = cc in subst (IsCellResponse bytes t) same j.0
    go (Err place) e j = absurd cc

  broken_is : (t : Tree) (place : ℕ) → response_at bytes t ≡ Err place → IsFirstBroken (InOwnForm bytes) site_start (response_sites bytes t) place
  broken_is t place g = go (response_at bytes t) g (judges_response bytes fits t) where
    go : (r : Result CellResponse ℕ) → r ≡ Err place → Judges (InOwnForm bytes) site_start (IsCellResponse bytes t) (response_sites bytes t) r
        → IsFirstBroken (InOwnForm bytes) site_start (response_sites bytes t) place
    go (Ok read) e j = absurd cc
    go (Err p) e j = let same : p ≡ place = cc in subst (IsFirstBroken (InOwnForm bytes) site_start (response_sites bytes t)) same j

  pub answer_is : HasVersions bytes → HasSignature bytes → (t : Tree) → IsTreeAt bytes t 12 (length bytes) → (r : Result CellResponse WireFault) → GivesFew r (response_at bytes t) → IsResult bytes r
  answer_is v s t at (Ok response) g = record { versions = v; signature = s; tree = t; stands = at; form = form_is t response g.0; few = g.1 }
  answer_is v s t at (Err (faults.SchemaFault place)) g = (v, s, (t, at, broken_is t place g))
  answer_is v s t at (Err faults.TooMany) g = (v, s, (t, at, g.0, form_is t g.0 g.1, g.2))
  answer_is v s t at (Err faults.NoMemory) g = tt
  answer_is v s t at (Err faults.BadFront) g = absurd g
  answer_is v s t at (Err faults.BadSignature) g = absurd g
  answer_is v s t at (Err (faults.TreeFault f)) g = absurd g
  answer_is v s t at (Err (faults.Extra p)) g = absurd g

  -- ---- one answer

  -- the answer where the tree takes all of the input
  whole_expected : HasVersions bytes → (t u : Tree) → IsTreeAt bytes t 12 (length bytes) → IsTreeAt bytes u 12 (length bytes) → t ≡ u
  whole_expected v t u p q = (same_tree v t u (length bytes) (length bytes) p q).0

  both_whole : HasVersions bytes → (t u : Tree) → IsTreeAt bytes t 12 (length bytes) → IsTreeAt bytes u 12 (length bytes) → (x y : CellResponse) → IsCellResponse bytes t x → IsCellResponse bytes u y → x ≡ y
  both_whole v t u p q x y f g =
      let one = again_response bytes fits t x f in
      let two = again_response bytes fits u y g in
      let same = whole_expected v t u p q in
      let e : response_at bytes t ≡ response_at bytes u = ap (response_at bytes) same in
      cc

  form_or_broken : HasVersions bytes → (t u : Tree) → IsTreeAt bytes t 12 (length bytes) → IsTreeAt bytes u 12 (length bytes) → (x : CellResponse) (place : ℕ) → IsCellResponse bytes t x
      → IsFirstBroken (InOwnForm bytes) site_start (response_sites bytes u) place → ⊥
  form_or_broken v t u p q x place f b = go (response_at bytes t) (again_response bytes fits t x f) (judges_response bytes fits t) where
    go : (r : Result CellResponse ℕ) → r ≡ Ok x → Judges (InOwnForm bytes) site_start (IsCellResponse bytes t) (response_sites bytes t) r → ⊥
    go (Ok ds) e j =
        none_broken (InOwnForm bytes) site_start (response_sites bytes t) place j.1
        (subst (λ (w : Tree). IsFirstBroken (InOwnForm bytes) site_start (response_sites bytes w) place) (sym (whole_expected v t u p q)) b)
    go (Err n) e j = absurd cc

  versions_in : (y : Result CellResponse WireFault) → IsResult bytes y → y ≢ Err faults.NoMemory → y ≢ Err faults.BadFront → HasVersions bytes
  versions_in (Ok n) q some ne = q.versions
  versions_in (Err (faults.TreeFault n)) q some ne = q.0
  versions_in (Err (faults.Extra n)) q some ne = q.0
  versions_in (Err (faults.SchemaFault n)) q some ne = q.0
  versions_in (Err faults.TooMany) q some ne = q.0
  versions_in (Err faults.BadFront) q some ne = absurd (ne refl)
  versions_in (Err faults.BadSignature) q some ne = q.0
  versions_in (Err faults.NoMemory) q some ne = absurd (some refl)

  signature_in : (y : Result CellResponse WireFault) → IsResult bytes y → HasVersions bytes → y ≢ Err faults.NoMemory → y ≢ Err faults.BadSignature → HasSignature bytes
  signature_in (Ok n) q v some ne = q.signature
  signature_in (Err (faults.TreeFault n)) q v some ne = q.1
  signature_in (Err (faults.Extra n)) q v some ne = q.1
  signature_in (Err (faults.SchemaFault n)) q v some ne = q.1
  signature_in (Err faults.TooMany) q v some ne = q.1
  signature_in (Err faults.BadFront) q v some ne = absurd (q v)
  signature_in (Err faults.BadSignature) q v some ne = absurd (ne refl)
  signature_in (Err faults.NoMemory) q v some ne = absurd (some refl)

  one_of_two : (x y : Result CellResponse WireFault) → IsResult bytes x → IsResult bytes y → x ≢ Err faults.NoMemory → y ≢ Err faults.NoMemory → x ≡ y
  one_of_two (Err faults.NoMemory) y p q a b = absurd (a refl)
  one_of_two (Err faults.BadFront) (Err faults.BadFront) p q a b = refl
  one_of_two (Err faults.BadFront) y p q a b = absurd (p (versions_in y q b (λ e. absurd cc)))
  one_of_two (Err faults.BadSignature) (Err faults.BadSignature) p q a b = refl
  one_of_two (Err faults.BadSignature) y p q a b = absurd (p.1 (signature_in y q p.0 b (λ e. absurd cc)))
  one_of_two (Ok d) (Err faults.BadFront) p q a b = absurd (q p.versions)
  one_of_two (Ok d) (Err faults.BadSignature) p q a b = absurd (q.1 p.signature)
  one_of_two (Ok d) (Err faults.NoMemory) p q a b = absurd (b refl)
  one_of_two (Ok d) (Ok e) p q a b = ap (λ (h : CellResponse). Ok h) (both_whole p.versions p.tree q.tree p.stands q.stands d e p.form q.form)
  one_of_two (Ok d) (Err (faults.TreeFault e)) p q a b = absurd (no_fault p.versions p.tree e (length bytes) p.stands q.2 q.3)
  one_of_two (Ok d) (Err (faults.Extra e)) p q a b = absurd (omega (arith, q.2, (same_tree p.versions p.tree q.3.0 (length bytes) e p.stands q.3.1).1))
  one_of_two (Ok d) (Err (faults.SchemaFault e)) p q a b = absurd (form_or_broken p.versions p.tree q.2.0 p.stands q.2.1 d e p.form q.2.2)
  one_of_two (Ok d) (Err faults.TooMany) p q a b = absurd (omega (arith, p.few, q.2.4, ap (λ (h : CellResponse). length h.elements) (both_whole p.versions p.tree q.2.0 p.stands q.2.1 d q.2.2 p.form q.2.3)))
  one_of_two (Err (faults.TreeFault d)) (Err faults.BadFront) p q a b = absurd (q p.0)
  one_of_two (Err (faults.TreeFault d)) (Err faults.BadSignature) p q a b = absurd (q.1 p.1)
  one_of_two (Err (faults.TreeFault d)) (Err faults.NoMemory) p q a b = absurd (b refl)
  one_of_two (Err (faults.TreeFault d)) (Ok e) p q a b = absurd (no_fault p.0 q.tree d (length bytes) q.stands p.2 p.3)
  one_of_two (Err (faults.TreeFault d)) (Err (faults.TreeFault e)) p q a b = ap (λ (h : TreeFault). Err (faults.TreeFault h)) (same_fault p.0 d e p.2 q.2 p.3 q.3)
  one_of_two (Err (faults.TreeFault d)) (Err (faults.Extra e)) p q a b = absurd (no_fault p.0 q.3.0 d e q.3.1 p.2 p.3)
  one_of_two (Err (faults.TreeFault d)) (Err (faults.SchemaFault e)) p q a b = absurd (no_fault p.0 q.2.0 d (length bytes) q.2.1 p.2 p.3)
  one_of_two (Err (faults.TreeFault d)) (Err faults.TooMany) p q a b = absurd (no_fault p.0 q.2.0 d (length bytes) q.2.1 p.2 p.3)
  one_of_two (Err (faults.Extra d)) (Err faults.BadFront) p q a b = absurd (q p.0)
  one_of_two (Err (faults.Extra d)) (Err faults.BadSignature) p q a b = absurd (q.1 p.1)
  one_of_two (Err (faults.Extra d)) (Err faults.NoMemory) p q a b = absurd (b refl)
  one_of_two (Err (faults.Extra d)) (Ok e) p q a b = absurd (omega (arith, p.2, (same_tree p.0 p.3.0 q.tree d (length bytes) p.3.1 q.stands).1))
  one_of_two (Err (faults.Extra d)) (Err (faults.TreeFault e)) p q a b = absurd (no_fault p.0 p.3.0 e d p.3.1 q.2 q.3)
  one_of_two (Err (faults.Extra d)) (Err (faults.Extra e)) p q a b = ap (λ (h : ℕ). Err (faults.Extra h)) (same_tree p.0 p.3.0 q.3.0 d e p.3.1 q.3.1).1
  one_of_two (Err (faults.Extra d)) (Err (faults.SchemaFault e)) p q a b = absurd (omega (arith, p.2, (same_tree p.0 p.3.0 q.2.0 d (length bytes) p.3.1 q.2.1).1))
  one_of_two (Err (faults.Extra d)) (Err faults.TooMany) p q a b = absurd (omega (arith, p.2, (same_tree p.0 p.3.0 q.2.0 d (length bytes) p.3.1 q.2.1).1))
  one_of_two (Err (faults.SchemaFault d)) (Err faults.BadFront) p q a b = absurd (q p.0)
  one_of_two (Err (faults.SchemaFault d)) (Err faults.BadSignature) p q a b = absurd (q.1 p.1)
  one_of_two (Err (faults.SchemaFault d)) (Err faults.NoMemory) p q a b = absurd (b refl)
  one_of_two (Err (faults.SchemaFault d)) (Ok e) p q a b = absurd (form_or_broken p.0 q.tree p.2.0 q.stands p.2.1 e d q.form p.2.2)
  one_of_two (Err (faults.SchemaFault d)) (Err (faults.TreeFault e)) p q a b = absurd (no_fault p.0 p.2.0 e (length bytes) p.2.1 q.2 q.3)
  one_of_two (Err (faults.SchemaFault d)) (Err (faults.Extra e)) p q a b = absurd (omega (arith, q.2, (same_tree p.0 p.2.0 q.3.0 (length bytes) e p.2.1 q.3.1).1))
  one_of_two (Err (faults.SchemaFault d)) (Err (faults.SchemaFault e)) p q a b = ap (λ (h : ℕ). Err (faults.SchemaFault h)) (one_broken (InOwnForm bytes) site_start (response_sites bytes p.2.0) d e p.2.2 (subst (λ (w : Tree). IsFirstBroken (InOwnForm bytes) site_start (response_sites bytes w) e) (sym (whole_expected p.0 p.2.0 q.2.0 p.2.1 q.2.1)) q.2.2))
  one_of_two (Err (faults.SchemaFault d)) (Err faults.TooMany) p q a b = absurd (form_or_broken p.0 q.2.0 p.2.0 q.2.1 p.2.1 q.2.2 d q.2.3 p.2.2)
  one_of_two (Err faults.TooMany) (Err faults.BadFront) p q a b = absurd (q p.0)
  one_of_two (Err faults.TooMany) (Err faults.BadSignature) p q a b = absurd (q.1 p.1)
  one_of_two (Err faults.TooMany) (Err faults.NoMemory) p q a b = absurd (b refl)
  one_of_two (Err faults.TooMany) (Ok e) p q a b = absurd (omega (arith, q.few, p.2.4, ap (λ (h : CellResponse). length h.elements) (both_whole p.0 p.2.0 q.tree p.2.1 q.stands p.2.2 e p.2.3 q.form)))
  one_of_two (Err faults.TooMany) (Err (faults.TreeFault e)) p q a b = absurd (no_fault p.0 p.2.0 e (length bytes) p.2.1 q.2 q.3)
  one_of_two (Err faults.TooMany) (Err (faults.Extra e)) p q a b = absurd (omega (arith, q.2, (same_tree p.0 p.2.0 q.3.0 (length bytes) e p.2.1 q.3.1).1))
  one_of_two (Err faults.TooMany) (Err (faults.SchemaFault e)) p q a b = absurd (form_or_broken p.0 p.2.0 q.2.0 p.2.1 q.2.1 p.2.2 e p.2.3 q.2.2)
  one_of_two (Err faults.TooMany) (Err faults.TooMany) p q a b = refl

  pub one_only : (x : Result CellResponse WireFault) → IsResult bytes x → IsOnlyResult bytes x
  one_only (Err faults.NoMemory) p other q some = inl refl
  one_only x p other q some = inr (one_of_two x other p q (λ e. absurd cc) some)

  pub one_response : (r s : CellResponse) → ReadsAs bytes r → ReadsAs bytes s → r ≡ s
  one_response r s p q = both_whole p.versions p.tree q.tree p.stands q.stands r s p.form q.form
