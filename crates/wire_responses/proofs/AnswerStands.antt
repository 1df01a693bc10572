-- The written form of an answer stands as a sub-response that says it.
use Rattle.std.proofs.Common.{◌≡◌, ℕ, suc, ◌+◌, ◌/◌, ◌^◌, ◌<◌, ◌≤◌, true, List, [], ◌∷◌, ◌++◌, length, Option, Some, None, refl, sym, ap, subst, append_assoc, arith}
use Rattle.std.specs.Prelude.{IsSome, unwrap_or}
use Rattle.std.specs.List.{AllByRecursion}
use Rattle.std.specs.Int.{w32, to_le_bytes}
use Rattle.std.proofs.lemmas.List.{length-append}
use Rattle.compact_values.specs.Compact.{compact, little_endian, SpellsCompact}
use Rattle.compact_values.specs.GuidBytes.{guid_bytes}
use Rattle.compact_values.specs.Ids.{exguid, FitsGuid, FitsExGuid, SpellsGuid, SpellsExGuid}
use Rattle.compact_values.specs.Sequences.{◌▹◌, SpellsByte}
use Rattle.compact_values.specs.declared.guid.Guid.{Guid}
use Rattle.compact_values.specs.declared.ids.ExGuid.{ExGuid}
use Rattle.stream_objects.specs.Objects.{HasFields, One, kind_of}
use Rattle.stream_objects.specs.Written.{started, simple_object, compound_object}
use Rattle.stream_objects.proofs.Standing.{At, at_front, at_back, inside_at, Whole, leaf, whole_map}
use Rattle.doc_model.specs.wire.ElementObjects.{IsNothing}
use Rattle.doc_model.specs.wire.FittingElements.{FitsRange}
use Rattle.doc_model.specs.wire.Knowledges.{IsKnowledge}
use Rattle.doc_model.specs.wire.Responses.{code_number, error_object, success_object, status_byte, reply_objects, sub_response}
use Rattle.doc_model.specs.wire.SeenResponses.{cell_error, hresult_error, SpellsNumber, ErrorNumber, IsCellError, IsSuccess, IsAccess, QueryFields, AllocateFields, reply_form, blank, IsSeen}
use Rattle.doc_model.specs.wire.WrittenElements.{knowledge_bytes}
use Rattle.doc_model.specs.declared.knowledge.Knowledge.{Knowledge}
use Rattle.doc_model.specs.declared.reply.Answer.{Answer}
use Rattle.doc_model.specs.declared.reply.Code.{Code}
use Rattle.doc_model.specs.declared.reply.Code.TheVariants as codes
use Rattle.doc_model.specs.declared.reply.Reply.TheVariants as replies
use Rattle.doc_model.specs.declared.reply.Submitted.{Submitted}
use Rattle.doc_model.specs.declared.reply.Submitted.TheVariants.{Answered, DiskFault, JournalFull, NoMemory}
use Rattle.doc_model.specs.declared.response.ReplyForm.TheVariants.{Failed, Access, Pulled, Stored, Drawn}
use Rattle.doc_model.specs.declared.response.Seen.{Seen}
use Rattle.data_elements.proofs.PackageStands.{knowledge_stands}
use Rattle.data_elements.proofs.Runs.{Of}
use Rattle.data_elements.proofs.Spelled.{id_spelled, guid_spelled, compact_spelled, id_short, compact_short, pair, pair_as, length_three}
use Rattle.wire_responses.specs.Seeing.{seen_as, seen_answer, FitsReply, FitsAnswer, reply_objects_written, answer_objects_written}
use Rattle.wire_responses.proofs.Stands.{holder, both_held}

-- ---- numbers

four : (n : ℕ) → to_le_bytes w32 n ≡ little_endian 4 n
four n = cc (div-2 n, div-3 n) where
  div-2 : (n : ℕ) → n / 65536 ≡ n / 256 / 256
  div-2 n = omega arith

  div-3 : (n : ℕ) → n / 16777216 ≡ n / 256 / 256 / 256
  div-3 n = omega arith

four_spelled : (n : ℕ) → n < 2 ^ 32 → SpellsNumber n (to_le_bytes w32 n)
four_spelled n f = record { range = f; bytes_are = four n }

-- the number of a code has its place in 4 bytes
number_small : (code : Code) → unwrap_or (code_number code) 0 < 2 ^ 32
number_small codes.InvalidObject = omega arith
number_small codes.NotSupported = omega arith
number_small codes.Coherency = omega arith
number_small codes.NotFound = omega arith
number_small codes.StorageLimit = omega arith
number_small codes.Unserializable = omega arith
number_small codes.AlreadyLocked = omega arith
number_small codes.NotLocked = omega arith
number_small codes.TooManyCoauthors = omega arith
number_small codes.ManyClients = omega arith
number_small codes.LeftOnFailedConversion = omega arith
number_small codes.EditorsFull = omega arith
number_small codes.EditorUnknown = omega arith
number_small codes.MetadataFull = omega arith
number_small codes.MetadataLong = omega arith
number_small codes.VersionUnknown = omega arith
number_small codes.NoNumbers = omega arith

some_number : (o : Option ℕ) → IsSome o → o ≡ Some (unwrap_or o 0)
some_number (Some n) e = refl
some_number None e = absurd cc

module _ (input : List ℕ) (n : ℕ) where
  -- ---- errors

  pub error_stands : (number p : ℕ) → number < 2 ^ 32 → At input p (error_object number) → Whole input (suc (suc n)) (λ t. Of 0x4D (IsCellError input) t number) 2 p (p + length (error_object number))
  error_stands number p f a =
      let fields = guid_bytes cell_error.number in
      let x = simple_object 0x66 (to_le_bytes w32 number) in
      let q = p + length (started 0x4D true fields) in
      holder input (suc n) p 0x4D 0x66 SpellsGuid cell_error fields x (ErrorNumber input) number 1 (omega arith) (omega arith) (guid_spelled cell_error (omega arith)) a
      (leaf input n q 0x66 SpellsNumber number (to_le_bytes w32 number) (omega arith) (omega arith) (four_spelled number f) (inside_at input p 0x4D fields x a))

  success_stands : (p : ℕ) → At input p success_object → Whole input (suc (suc n)) (λ t. Of 0x4D (IsSuccess input) t tt) 2 p (p + length success_object)
  success_stands p a =
      let fields = guid_bytes hresult_error.number in
      let x = simple_object 0x52 (to_le_bytes w32 0) in
      let q = p + length (started 0x4D true fields) in
      holder input (suc n) p 0x4D 0x52 SpellsGuid hresult_error fields x (ErrorNumber input) 0 1 (omega arith) (omega arith) (guid_spelled hresult_error (omega arith)) a
      (leaf input n q 0x52 SpellsNumber 0 (to_le_bytes w32 0) (omega arith) (omega arith) (four_spelled 0 (omega arith)) (inside_at input p 0x4D fields x a))

  access_stands : (kind p : ℕ) → kind ≤ 16383 → At input p (compound_object kind [] success_object)
      → Whole input (suc (suc (suc n))) (λ t. Of kind (IsAccess input) t tt) 3 p (p + length (compound_object kind [] success_object))
  access_stands kind p le a =
      let q = p + length (started kind true []) in
      holder input (suc (suc n)) p kind 0x4D IsNothing tt [] success_object (IsSuccess input) tt 2 le (omega arith) refl a (success_stands q (inside_at input p kind [] success_object a))

  -- ---- queries and numbers

  query_stands : (i : ExGuid) (p : ℕ) → FitsExGuid i → At input p (simple_object 0x5F (exguid i ++ 0 ∷ [])) → Whole input (suc n) (λ t. Of 0x5F (QueryFields input) t i) 1 p (p + length (simple_object 0x5F (exguid i ++ 0 ∷ [])))
  query_stands i p f a =
      leaf input n p 0x5F (SpellsExGuid ▹ SpellsByte) (i, 0) (exguid i ++ 0 ∷ []) (omega arith) (omega (arith, id_short i, length-append (exguid i) (0 ∷ [])))
      (pair SpellsExGuid SpellsByte i 0 (exguid i) (0 ∷ []) (id_spelled i f) refl) a

  allocate_stands : (g : Guid) (first last p : ℕ) → FitsGuid g → first < 2 ^ 64 → last < 2 ^ 64 → At input p (simple_object 0x81 (guid_bytes g.number ++ compact first ++ compact last))
      → Whole input (suc n) (λ t. Of 0x81 (AllocateFields input) t (g, (first, last))) 1 p (p + length (simple_object 0x81 (guid_bytes g.number ++ compact first ++ compact last)))
  allocate_stands g first last p f l m a =
      let x = guid_bytes g.number in
      let y = compact first in
      let z = compact last in
      leaf input n p 0x81 (SpellsGuid ▹ SpellsCompact ▹ SpellsCompact) (g, (first, last)) (x ++ y ++ z) (omega arith) (omega (arith, length_three x y z, compact_short first, compact_short last))
      (
      pair_as SpellsGuid (SpellsCompact ▹ SpellsCompact) g (first, last) x (y ++ z) (x ++ y ++ z) (append_assoc x y z) (guid_spelled g f)
      (pair SpellsCompact SpellsCompact first last y z (compact_spelled first l) (compact_spelled last m))
      )
      a

-- ---- sub-responses

abbrev Row : ℕ × (ℕ × ℕ) → List ℕ → Type 0
Row = SpellsCompact ▹ SpellsCompact ▹ SpellsByte

abbrev row : ℕ → ℕ → ℕ → List ℕ
row id kind status = compact id ++ compact kind ++ status ∷ []

row_spelled : (id kind status : ℕ) → id < 2 ^ 64 → kind < 2 ^ 64 → Row (id, (kind, status)) (row id kind status)
row_spelled id kind status i k =
    pair_as SpellsCompact (SpellsCompact ▹ SpellsByte) id (kind, status) (compact id) (compact kind ++ status ∷ []) (row id kind status) (append_assoc (compact id) (compact kind) (status ∷ [])) (compact_spelled id i)
    (pair SpellsCompact SpellsByte kind status (compact kind) (status ∷ []) (compact_spelled kind k) refl)

row_short : (id kind status : ℕ) → length (row id kind status) < 2 ^ 64
row_short id kind status = omega (arith, length_three (compact id) (compact kind) (status ∷ []), compact_short id, compact_short kind)

module _ (input : List ℕ) (n : ℕ) (id kind : ℕ) (i : id < 2 ^ 64) (k : kind < 2 ^ 64) where
  abbrev levels : ℕ
  levels = suc (suc (suc (suc (suc n))))

  abbrev Stands : Seen → List ℕ → ℕ → ℕ → Type 0
  Stands s bytes count p = Whole input levels (λ t. Of 0x41 (IsSeen input) t s) count p (p + length bytes)

  failed_stands : (number p : ℕ) → number < 2 ^ 32 → At input p (compound_object 0x41 (row id kind 1) (error_object number))
      → Stands (record (blank id kind) { fault = Some number }) (compound_object 0x41 (row id kind 1) (error_object number)) 3 p
  failed_stands number p f a =
      let fields = row id kind 1 in
      let x = error_object number in
      let q = p + length (started 0x41 true fields) in
      whole_map input levels 3 p (p + length (compound_object 0x41 fields x)) (λ t. (kind_of t ≡ 0x41) × (HasFields true Row input t (id, (kind, 1)) × One 0x4D (IsCellError input) t number))
      (λ t. Of 0x41 (IsSeen input) t (record (blank id kind) { fault = Some number }))
      (λ t h. (h.0, record { id = id; kind = kind; status = 1; fields = h.1.0; form = Failed; form_is = refl; says = (number, h.1.1, refl) }))
      (holder input (suc (suc (suc (suc n)))) p 0x41 0x4D Row (id, (kind, 1)) fields x (IsCellError input) number 2 (omega arith) (row_short id kind 1) (row_spelled id kind 1 i k) a
      (error_stands input (suc (suc n)) number q f (inside_at input p 0x41 fields x a)))

  answered_access_stands : (p : ℕ) → kind ≡ 1 → At input p (compound_object 0x41 (row id kind 0) (compound_object 0x43 [] success_object ++ compound_object 0x46 [] success_object))
      → Stands (blank id kind) (compound_object 0x41 (row id kind 0) (compound_object 0x43 [] success_object ++ compound_object 0x46 [] success_object)) 7 p
  answered_access_stands p is a =
      let fields = row id kind 0 in
      let x = compound_object 0x43 [] success_object in
      let y = compound_object 0x46 [] success_object in
      let q = p + length (started 0x41 true fields) in
      let held = inside_at input p 0x41 fields (x ++ y) a in
      whole_map input levels 7 p (p + length (compound_object 0x41 fields (x ++ y)))
      (λ t. (kind_of t ≡ 0x41) × (HasFields true Row input t (id, (kind, 0)) × (One 0x43 (IsAccess input) t tt × One 0x46 (IsAccess input) t tt))) (λ t. Of 0x41 (IsSeen input) t (blank id kind))
      (λ t h. (h.0, record { id = id; kind = kind; status = 0; fields = h.1.0; form = Access; form_is = ap (λ (m : ℕ). reply_form m 0) is; says = (h.1.1.0, h.1.1.1, refl) }))
      (both_held input (suc (suc (suc (suc n)))) p 0x41 0x43 0x46 Row (id, (kind, 0)) fields x y (IsAccess input) (IsAccess input) tt tt 3 3 (λ e. omega (arith, e)) (omega arith) (row_short id kind 0) (row_spelled id kind 0 i k) a
      (access_stands input (suc n) 0x43 q (omega arith) (at_front input q x y held)) (access_stands input (suc n) 0x46 (q + length x) (omega arith) (at_back input q x y held)))

  pulled_stands : (index : ExGuid) (known : Knowledge) (p : ℕ) → kind ≡ 2 → FitsExGuid index → AllByRecursion FitsRange known.ranges
      → At input p (compound_object 0x41 (row id kind 0) (simple_object 0x5F (exguid index ++ 0 ∷ []) ++ knowledge_bytes known))
      → Stands (record (blank id kind) { index = index; knowledge = known }) (compound_object 0x41 (row id kind 0) (simple_object 0x5F (exguid index ++ 0 ∷ []) ++ knowledge_bytes known)) (1 + (1 + (3 + length known.ranges))) p
  pulled_stands index known p is f g a =
      let fields = row id kind 0 in
      let x = simple_object 0x5F (exguid index ++ 0 ∷ []) in
      let y = knowledge_bytes known in
      let q = p + length (started 0x41 true fields) in
      let held = inside_at input p 0x41 fields (x ++ y) a in
      whole_map input levels (1 + (1 + (3 + length known.ranges))) p (p + length (compound_object 0x41 fields (x ++ y)))
      (λ t. (kind_of t ≡ 0x41) × (HasFields true Row input t (id, (kind, 0)) × (One 0x5F (QueryFields input) t index × One 0x10 (IsKnowledge input) t known)))
      (λ t. Of 0x41 (IsSeen input) t (record (blank id kind) { index = index; knowledge = known }))
      (λ t h. (h.0, record { id = id; kind = kind; status = 0; fields = h.1.0; form = Pulled; form_is = ap (λ (m : ℕ). reply_form m 0) is; says = (index, known, h.1.1.0, h.1.1.1, refl) }))
      (both_held input (suc (suc (suc (suc n)))) p 0x41 0x5F 0x10 Row (id, (kind, 0)) fields x y (QueryFields input) (IsKnowledge input) index known 1 (3 + length known.ranges) (λ e. omega (arith, e)) (omega arith)
      (row_short id kind 0) (row_spelled id kind 0 i k) a (query_stands input (suc (suc (suc n))) index q f (at_front input q x y held)) (knowledge_stands input n known (q + length x) g (at_back input q x y held)))

  stored_stands : (known : Knowledge) (p : ℕ) → kind ≡ 5 → AllByRecursion FitsRange known.ranges → At input p (compound_object 0x41 (row id kind 0) (knowledge_bytes known))
      → Stands (record (blank id kind) { knowledge = known }) (compound_object 0x41 (row id kind 0) (knowledge_bytes known)) (1 + (3 + length known.ranges)) p
  stored_stands known p is g a =
      let fields = row id kind 0 in
      let x = knowledge_bytes known in
      let q = p + length (started 0x41 true fields) in
      whole_map input levels (1 + (3 + length known.ranges)) p (p + length (compound_object 0x41 fields x)) (λ t. (kind_of t ≡ 0x41) × (HasFields true Row input t (id, (kind, 0)) × One 0x10 (IsKnowledge input) t known))
      (λ t. Of 0x41 (IsSeen input) t (record (blank id kind) { knowledge = known }))
      (λ t h. (h.0, record { id = id; kind = kind; status = 0; fields = h.1.0; form = Stored; form_is = ap (λ (m : ℕ). reply_form m 0) is; says = (known, h.1.1, refl) }))
      (holder input (suc (suc (suc (suc n)))) p 0x41 0x10 Row (id, (kind, 0)) fields x (IsKnowledge input) known (3 + length known.ranges) (omega arith) (row_short id kind 0) (row_spelled id kind 0 i k) a
      (knowledge_stands input n known q g (inside_at input p 0x41 fields x a)))

  drawn_stands : (g : Guid) (first last p : ℕ) → kind ≡ 11 → FitsGuid g → first < 2 ^ 64 → last < 2 ^ 64 → At input p (compound_object 0x41 (row id kind 0) (simple_object 0x81 (guid_bytes g.number ++ compact first ++ compact last)))
      → Stands (record (blank id kind) { guid = g; least = first; greatest = last }) (compound_object 0x41 (row id kind 0) (simple_object 0x81 (guid_bytes g.number ++ compact first ++ compact last))) 2 p
  drawn_stands g first last p is f l m a =
      let fields = row id kind 0 in
      let x = simple_object 0x81 (guid_bytes g.number ++ compact first ++ compact last) in
      let q = p + length (started 0x41 true fields) in
      whole_map input levels 2 p (p + length (compound_object 0x41 fields x)) (λ t. (kind_of t ≡ 0x41) × (HasFields true Row input t (id, (kind, 0)) × One 0x81 (AllocateFields input) t (g, (first, last))))
      (λ t. Of 0x41 (IsSeen input) t (record (blank id kind) { guid = g; least = first; greatest = last }))
      (λ t h. (h.0, record { id = id; kind = kind; status = 0; fields = h.1.0; form = Drawn; form_is = ap (λ (m : ℕ). reply_form m 0) is; says = ((g, (first, last)), h.1.1, refl) }))
      (holder input (suc (suc (suc (suc n)))) p 0x41 0x81 Row (id, (kind, 0)) fields x (AllocateFields input) (g, (first, last)) 1 (omega arith) (row_short id kind 0) (row_spelled id kind 0 i k) a
      (allocate_stands input (suc (suc (suc n))) g first last q f l m (inside_at input p 0x41 fields x a)))

  submitted_stands : (s : Submitted) (p : ℕ) → FitsReply kind s → At input p (compound_object 0x41 (row id kind (status_byte s)) (reply_objects s))
      → Stands (seen_as id kind s) (compound_object 0x41 (row id kind (status_byte s)) (reply_objects s)) (1 + reply_objects_written s) p
  submitted_stands (Answered replies.Access) p f a = answered_access_stands p f a
  submitted_stands (Answered (replies.Pulled g index elements known)) p f a = pulled_stands index known p f.0 f.2 f.4 a
  submitted_stands (Answered (replies.Stored known)) p f a = stored_stands known p f.0 f.1 a
  submitted_stands (Answered (replies.Drawn g first last)) p f a = drawn_stands g first last p f.0 f.1 f.2 f.3 a
  submitted_stands (Answered (replies.Refused code)) p f a =
      subst (λ (o : Option ℕ). Stands (record (blank id kind) { fault = o }) (compound_object 0x41 (row id kind 1) (error_object (unwrap_or (code_number code) 0))) 3 p) (sym (some_number (code_number code) f))
      (failed_stands (unwrap_or (code_number code) 0) p (number_small code) a)
  submitted_stands (Answered replies.Done) p f a = absurd f
  submitted_stands (Answered (replies.Locked g lock status)) p f a = absurd f
  submitted_stands (Answered (replies.VersionList commits)) p f a = absurd f
  submitted_stands (Answered (replies.File bytes)) p f a = absurd f
  submitted_stands (Answered (replies.Lone alone)) p f a = absurd f
  submitted_stands (Answered (replies.Me user)) p f a = absurd f
  submitted_stands DiskFault p f a = failed_stands 1002 p (omega arith) a
  submitted_stands JournalFull p f a = failed_stands 1003 p (omega arith) a
  submitted_stands NoMemory p f a = failed_stands 1004 p (omega arith) a

pub answer_stands : (input : List ℕ) (n : ℕ) (a : Answer) (p : ℕ) → FitsAnswer a → At input p (sub_response a)
    → Whole input (suc (suc (suc (suc (suc n))))) (λ t. Of 0x41 (IsSeen input) t (seen_answer a)) (answer_objects_written a) p (p + length (sub_response a))
unfolding sub_response
answer_stands input n a p f at = submitted_stands input n a.id a.kind f.0 f.1 a.submitted p f.2 at
