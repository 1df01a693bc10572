-- Bytes have one answer, where memory doesn't run out.
use Rattle.std.proofs.Common.{◌≡◌, ◌≢◌, ◌⊎◌, ℕ, ◌<◌, ◌≤◌, zero, suc, List, [], ◌∷◌, length, Option, Some, None, Result, Ok, Err, inl, inr, refl, sym, ap, subst, arith}
use Rattle.std.specs.List.{AllByRecursion}
use Rattle.compact_values.proofs.LittleEndian.{IsBytes}
use Rattle.compact_values.proofs.Takes.{some_pair}
use Rattle.stream_objects.specs.declared.tree.Tree.{Tree}
use Rattle.stream_objects.specs.declared.fault.TreeFault.{TreeFault}
use Rattle.stream_objects.specs.declared.fault.TreeFault.TheVariants as trees
use Rattle.stream_objects.specs.Answers.{IsFaultAt}
use Rattle.stream_objects.specs.Answers as stream
use Rattle.stream_objects.specs.Trees.{IsTreeAt}
use Rattle.stream_objects.specs.Parts.{IsFirstBroken}
use Rattle.stream_objects.proofs.Stops.{one_answer, object_inside}
use Rattle.stream_objects.proofs.Broken.{Judges, one_broken, none_broken}
use Rattle.doc_model.specs.wire.Fronts.{HasVersions, HasSignature}
use Rattle.doc_model.specs.wire.Requests.{SaysRequest, IsRequest}
use Rattle.doc_model.specs.readers.RequestSites.{InOwnForm, site_start, request_sites}
use Rattle.doc_model.specs.declared.request.CellRequest.{CellRequest}
use Rattle.data_elements.specs.declared.wire_fault.WireFault.{WireFault}
use Rattle.data_elements.specs.declared.wire_fault.WireFault.TheVariants as faults
use Rattle.wire_requests.specs.RequestReading.{request_at}
use Rattle.wire_requests.specs.RequestAnswers.{IsFramed, IsResult, IsOnlyResult, GivesRequest}
use Rattle.wire_requests.proofs.RequestLaws.{judges_request, again_request}

module _ (bytes : List ℕ) (fits : IsBytes bytes) where
  abbrev Answer : Type 0
  Answer = Result CellRequest WireFault

  -- one tree, or one fault, stands behind the front
  one_stands : HasVersions bytes → (a b : Result (Tree × ℕ) TreeFault) → stream.IsResult bytes 12 a → stream.IsResult bytes 12 b → a ≢ Err trees.NoMemory → b ≢ Err trees.NoMemory → a ≡ b
  one_stands v a b p q x y = one_answer bytes 12 v.long a b p q x y

  found : Tree → ℕ → Result (Tree × ℕ) TreeFault
  found t n = Ok (t, n)

  failed : TreeFault → Result (Tree × ℕ) TreeFault
  failed f = Err f

  same_tree : HasVersions bytes → (t u : Tree) (m n : ℕ) → IsTreeAt bytes t 12 m → IsTreeAt bytes u 12 n → (t ≡ u) × (m ≡ n)
  unfolding found
  same_tree v t u m n p q =
      let e : found t m ≡ found u n = one_stands v (found t m) (found u n) p q (λ e. absurd cc) (λ e. absurd cc) in
      some_pair (t, m) (u, n) (ap some_of e)
    where
      some_of : Result (Tree × ℕ) TreeFault → Option (Tree × ℕ)
      some_of (Ok x) = Some x
      some_of (Err f) = None

  no_fault : HasVersions bytes → (t : Tree) (f : TreeFault) (m : ℕ) → IsTreeAt bytes t 12 m → IsFaultAt bytes 12 f → f ≢ trees.NoMemory → ⊥
  unfolding found failed
  no_fault v t f m p q ne =
      let e : found t m ≡ failed f = one_stands v (found t m) (failed f) p q (λ e. absurd cc) (λ e. ne cc) in
      absurd cc

  same_fault : HasVersions bytes → (f g : TreeFault) → IsFaultAt bytes 12 f → IsFaultAt bytes 12 g → f ≢ trees.NoMemory → g ≢ trees.NoMemory → f ≡ g
  unfolding failed
  same_fault v f g p q x y =
      let e : failed f ≡ failed g = one_stands v (failed f) (failed g) p q (λ e. x cc) (λ e. y cc) in
      cc

  -- a tree that takes all of the input
  pub whole_is : (t : Tree) (next : ℕ) → (next < length bytes → ⊥) → IsTreeAt bytes t 12 next → IsTreeAt bytes t 12 (length bytes)
  whole_is t next ge p =
      let end : next ≡ length bytes = omega (arith, object_inside bytes 12 t 12 next p.object, ge) in
      subst (λ (n : ℕ). IsTreeAt bytes t 12 n) end p

  -- ---- the answer of a tree that takes all of the input

  abbrev J : Tree → Result CellRequest ℕ → Type 0
  J t = Judges (InOwnForm bytes) site_start (SaysRequest bytes t) (request_sites bytes t)

  pub says : (t : Tree) (r : CellRequest) → request_at bytes t ≡ Ok r → SaysRequest bytes t r
  says t r e = go (request_at bytes t) e (judges_request bytes fits t) where
    go : (x : Result CellRequest ℕ) → x ≡ Ok r → J t x → SaysRequest bytes t r
    go (Ok s) e j = let same : s ≡ r = cc in subst (SaysRequest bytes t) same j.0
    go (Err place) e j = absurd cc

  breaks : (t : Tree) (place : ℕ) → request_at bytes t ≡ Err place → IsFirstBroken (InOwnForm bytes) site_start (request_sites bytes t) place
  breaks t place e = go (request_at bytes t) e (judges_request bytes fits t) where
    go : (x : Result CellRequest ℕ) → x ≡ Err place → J t x → IsFirstBroken (InOwnForm bytes) site_start (request_sites bytes t) place
    go (Ok s) e j = absurd cc
    go (Err p) e j = let same : p ≡ place = cc in subst (IsFirstBroken (InOwnForm bytes) site_start (request_sites bytes t)) same j

  pub answer_is : HasVersions bytes → HasSignature bytes → (t : Tree) → IsTreeAt bytes t 12 (length bytes) → (x : Answer) → GivesRequest x (request_at bytes t) → IsResult bytes x
  answer_is v s t at (Ok r) g = record { versions = v; signature = s; tree = t; stands = at; form = says t r g.0; few_elements = g.1 }
  answer_is v s t at (Err (faults.SchemaFault place)) g = (t, record { versions = v; signature = s; stands = at }, breaks t place g)
  answer_is v s t at (Err faults.TooMany) g = (t, record { versions = v; signature = s; stands = at }, (g.0, says t g.0 g.1, g.2))
  answer_is v s t at (Err faults.NoMemory) g = tt
  answer_is v s t at (Err faults.BadFront) g = absurd g
  answer_is v s t at (Err faults.BadSignature) g = absurd g
  answer_is v s t at (Err (faults.TreeFault f)) g = absurd g
  answer_is v s t at (Err (faults.Extra p)) g = absurd g

  -- ---- one answer

  same_whole : (t u : Tree) → IsFramed bytes t → IsFramed bytes u → t ≡ u
  same_whole t u p q = (same_tree p.versions t u (length bytes) (length bytes) p.stands q.stands).0

  both_say : (t u : Tree) → IsFramed bytes t → IsFramed bytes u → (x y : CellRequest) → SaysRequest bytes t x → SaysRequest bytes u y → x ≡ y
  both_say t u p q x y f g =
      let one = again_request bytes fits t x f in
      let two = again_request bytes fits u y g in
      let same = same_whole t u p q in
      let e : request_at bytes t ≡ request_at bytes u = ap (request_at bytes) same in
      cc

  form_or_broken : (t u : Tree) → IsFramed bytes t → IsFramed bytes u → (x : CellRequest) (place : ℕ) → SaysRequest bytes t x → IsFirstBroken (InOwnForm bytes) site_start (request_sites bytes u) place → ⊥
  form_or_broken t u p q x place f b = go (request_at bytes t) (again_request bytes fits t x f) (judges_request bytes fits t) where
    go : (r : Result CellRequest ℕ) → r ≡ Ok x → J t r → ⊥
    go (Ok s) e j =
        none_broken (InOwnForm bytes) site_start (request_sites bytes t) place j.1
        (subst (λ (w : Tree). IsFirstBroken (InOwnForm bytes) site_start (request_sites bytes w) place) (sym (same_whole t u p q)) b)
    go (Err n) e j = absurd cc

  both_broken : (t u : Tree) → IsFramed bytes t → IsFramed bytes u → (m n : ℕ) → IsFirstBroken (InOwnForm bytes) site_start (request_sites bytes t) m → IsFirstBroken (InOwnForm bytes) site_start (request_sites bytes u) n → m ≡ n
  both_broken t u p q m n a b =
      one_broken (InOwnForm bytes) site_start (request_sites bytes t) m n a
      (subst (λ (w : Tree). IsFirstBroken (InOwnForm bytes) site_start (request_sites bytes w) n) (sym (same_whole t u p q)) b)

  -- What is answered where the front is that of a request, without the front.
  abbrev Framed : Answer → Type 0
  Framed (Ok r) = (t : Tree) × IsFramed bytes t × (SaysRequest bytes t r × (length r.elements ≤ 8192))
  Framed (Err (faults.TreeFault f)) = IsFaultAt bytes 12 f × (f ≢ trees.NoMemory)
  Framed (Err (faults.Extra place)) = (place < length bytes) × ((t : Tree) × IsTreeAt bytes t 12 place)
  Framed (Err (faults.SchemaFault place)) = (t : Tree) × IsFramed bytes t × IsFirstBroken (InOwnForm bytes) site_start (request_sites bytes t) place
  Framed (Err faults.TooMany) = (t : Tree) × IsFramed bytes t × ((r : CellRequest) × SaysRequest bytes t r × (8192 < length r.elements))
  Framed (Err faults.BadFront) = ⊥
  Framed (Err faults.BadSignature) = ⊥
  Framed (Err faults.NoMemory) = ⊥

  framed : (r : CellRequest) (q : IsRequest bytes r) → IsFramed bytes q.tree
  framed r q = record { versions = q.versions; signature = q.signature; stands = q.stands }

  -- an answer but for want of memory is about the front, or it is behind one
  sorted : (y : Answer) → IsResult bytes y → y ≢ Err faults.NoMemory → ((y ≡ Err faults.BadFront) × (¬ HasVersions bytes)) ⊎ ((HasVersions bytes × ((y ≡ Err faults.BadSignature) × (¬ HasSignature bytes))) ⊎ (HasVersions bytes × (HasSignature bytes × Framed y)))
  sorted (Ok r) q some = inr (inr (q.versions, (q.signature, (q.tree, framed r q, (q.form, q.few_elements)))))
  sorted (Err faults.BadFront) q some = inl (refl, q)
  sorted (Err faults.BadSignature) q some = inr (inl (q.0, (refl, q.1)))
  sorted (Err (faults.TreeFault f)) q some = inr (inr (q.0, (q.1, (q.2, q.3))))
  sorted (Err (faults.Extra n)) q some = inr (inr (q.0, (q.1, (q.2, q.3))))
  sorted (Err (faults.SchemaFault n)) q some = inr (inr (q.1.versions, (q.1.signature, q)))
  sorted (Err faults.TooMany) q some = inr (inr (q.1.versions, (q.1.signature, q)))
  sorted (Err faults.NoMemory) q some = absurd (some refl)

  more_or_few : (t u : Tree) → IsFramed bytes t → IsFramed bytes u → (x y : CellRequest) → SaysRequest bytes t x → SaysRequest bytes u y → length x.elements ≤ 8192 → 8192 < length y.elements → ⊥
  more_or_few t u p q x y f g few many = omega (arith, few, many, ap (λ (r : CellRequest). length r.elements) (both_say t u p q x y f g))

  one_framed : HasVersions bytes → (x y : Answer) → Framed x → Framed y → x ≡ y
  one_framed v (Ok d) (Ok e) p q = ap (λ (r : CellRequest). Ok r) (both_say p.0 q.0 p.1 q.1 d e p.2.0 q.2.0)
  one_framed v (Ok d) (Err (faults.TreeFault g)) p q = absurd (no_fault v p.0 g (length bytes) p.1.stands q.0 q.1)
  one_framed v (Ok d) (Err (faults.Extra n)) p q = absurd (omega (arith, q.0, (same_tree v p.0 q.1.0 (length bytes) n p.1.stands q.1.1).1))
  one_framed v (Ok d) (Err (faults.SchemaFault n)) p q = absurd (form_or_broken p.0 q.0 p.1 q.1 d n p.2.0 q.2)
  one_framed v (Ok d) (Err faults.TooMany) p q = absurd (more_or_few p.0 q.0 p.1 q.1 d q.2.0 p.2.0 q.2.1 p.2.1 q.2.2)
  one_framed v (Err (faults.TreeFault f)) (Ok e) p q = absurd (no_fault v q.0 f (length bytes) q.1.stands p.0 p.1)
  one_framed v (Err (faults.TreeFault f)) (Err (faults.TreeFault g)) p q = ap (λ (h : TreeFault). Err (faults.TreeFault h)) (same_fault v f g p.0 q.0 p.1 q.1)
  one_framed v (Err (faults.TreeFault f)) (Err (faults.Extra n)) p q = absurd (no_fault v q.1.0 f n q.1.1 p.0 p.1)
  one_framed v (Err (faults.TreeFault f)) (Err (faults.SchemaFault n)) p q = absurd (no_fault v q.0 f (length bytes) q.1.stands p.0 p.1)
  one_framed v (Err (faults.TreeFault f)) (Err faults.TooMany) p q = absurd (no_fault v q.0 f (length bytes) q.1.stands p.0 p.1)
  one_framed v (Err (faults.Extra m)) (Ok e) p q = absurd (omega (arith, p.0, (same_tree v p.1.0 q.0 m (length bytes) p.1.1 q.1.stands).1))
  one_framed v (Err (faults.Extra m)) (Err (faults.TreeFault g)) p q = absurd (no_fault v p.1.0 g m p.1.1 q.0 q.1)
  one_framed v (Err (faults.Extra m)) (Err (faults.Extra n)) p q = ap (λ (h : ℕ). Err (faults.Extra h)) (same_tree v p.1.0 q.1.0 m n p.1.1 q.1.1).1
  one_framed v (Err (faults.Extra m)) (Err (faults.SchemaFault n)) p q = absurd (omega (arith, p.0, (same_tree v p.1.0 q.0 m (length bytes) p.1.1 q.1.stands).1))
  one_framed v (Err (faults.Extra m)) (Err faults.TooMany) p q = absurd (omega (arith, p.0, (same_tree v p.1.0 q.0 m (length bytes) p.1.1 q.1.stands).1))
  one_framed v (Err (faults.SchemaFault m)) (Ok e) p q = absurd (form_or_broken q.0 p.0 q.1 p.1 e m q.2.0 p.2)
  one_framed v (Err (faults.SchemaFault m)) (Err (faults.TreeFault g)) p q = absurd (no_fault v p.0 g (length bytes) p.1.stands q.0 q.1)
  one_framed v (Err (faults.SchemaFault m)) (Err (faults.Extra n)) p q = absurd (omega (arith, q.0, (same_tree v p.0 q.1.0 (length bytes) n p.1.stands q.1.1).1))
  one_framed v (Err (faults.SchemaFault m)) (Err (faults.SchemaFault n)) p q = ap (λ (h : ℕ). Err (faults.SchemaFault h)) (both_broken p.0 q.0 p.1 q.1 m n p.2 q.2)
  one_framed v (Err (faults.SchemaFault m)) (Err faults.TooMany) p q = absurd (form_or_broken q.0 p.0 q.1 p.1 q.2.0 m q.2.1 p.2)
  one_framed v (Err faults.TooMany) (Ok e) p q = absurd (more_or_few q.0 p.0 q.1 p.1 e p.2.0 q.2.0 p.2.1 q.2.1 p.2.2)
  one_framed v (Err faults.TooMany) (Err (faults.TreeFault g)) p q = absurd (no_fault v p.0 g (length bytes) p.1.stands q.0 q.1)
  one_framed v (Err faults.TooMany) (Err (faults.Extra n)) p q = absurd (omega (arith, q.0, (same_tree v p.0 q.1.0 (length bytes) n p.1.stands q.1.1).1))
  one_framed v (Err faults.TooMany) (Err (faults.SchemaFault n)) p q = absurd (form_or_broken p.0 q.0 p.1 q.1 p.2.0 n p.2.1 q.2)
  one_framed v (Err faults.TooMany) (Err faults.TooMany) p q = refl
  one_framed v (Err faults.BadFront) y p q = absurd p
  one_framed v (Err faults.BadSignature) y p q = absurd p
  one_framed v (Err faults.NoMemory) y p q = absurd p
  one_framed v x (Err faults.BadFront) p q = absurd q
  one_framed v x (Err faults.BadSignature) p q = absurd q
  one_framed v x (Err faults.NoMemory) p q = absurd q

  one_of_two : (x y : Answer) → IsResult bytes x → IsResult bytes y → x ≢ Err faults.NoMemory → y ≢ Err faults.NoMemory → x ≡ y
  one_of_two x y p q a b =
      elim (sorted x p a) [
        | inl r ↦ elim (sorted y q b) [ inl s ↦ cc | inr (inl s) ↦ absurd (r.1 s.0) | inr (inr s) ↦ absurd (r.1 s.0) ]
        | inr (inl r) ↦ elim (sorted y q b) [ inl s ↦ absurd (s.1 r.0) | inr (inl s) ↦ let e = r.1.0 in let f = s.1.0 in cc | inr (inr s) ↦ absurd (r.1.1 s.1.0) ]
        | inr (inr r) ↦ elim (sorted y q b) [ inl s ↦ absurd (s.1 r.0) | inr (inl s) ↦ absurd (s.1.1 r.1.0) | inr (inr s) ↦ one_framed r.0 x y r.1.1 s.1.1 ]
      ]

  pub one_only : (x : Answer) → IsResult bytes x → IsOnlyResult bytes x
  one_only (Err faults.NoMemory) p other q some = inl refl
  one_only x p other q some = inr (one_of_two x other p q (λ e. absurd cc) some)

  -- bytes are at most one request
  pub one_request : (x y : CellRequest) → IsRequest bytes x → IsRequest bytes y → x ≡ y
  one_request x y p q = both_say p.tree q.tree (framed x p) (framed y q) x y p.form q.form

pub all_bytes : (bytes : List ℕ) → AllByRecursion (λ b. b < 256) bytes → IsBytes bytes
all_bytes [] h i = omega arith
all_bytes (b ∷ bytes) h zero = h.0
all_bytes (b ∷ bytes) h (suc i) = all_bytes bytes h.1 i

-- Where a fault other than want of memory is the only answer, the bytes are no request.
pub no_request : (bytes : List ℕ) (fault : WireFault) → IsOnlyResult bytes (Err fault) → fault ≢ faults.NoMemory → (r : CellRequest) → IsRequest bytes r → ⊥
no_request bytes fault only some r request = go (only (Ok r) request (λ e. absurd cc)) where
  failed : WireFault → Result CellRequest WireFault
  failed f = Err f

  go : (failed fault ≡ failed faults.NoMemory) ⊎ (failed fault ≡ Ok r) → ⊥
  go (inl e) = some cc
  go (inr e) = cc
