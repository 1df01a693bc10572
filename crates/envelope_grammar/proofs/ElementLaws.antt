-- Elements among white space: what is read is such an element, and such an element is read.
use Rattle.std.proofs.Common.{◌≡◌, ℕ, ◌≤◌, ◌⊎◌, inl, inr, Bool, true, false, cond, List, [], ◌∷◌, ◌++◌, length, Option, Some, None, refl, sym, ap, subst, ◌∙◌, append_assoc, arith}
use Rattle.std.specs.Prelude.{codes}
use Rattle.std.specs.Str.{bytes_eq}
use Rattle.std.proofs.lemmas.List.{length-append}
use Rattle.envelope_grammar.specs.declared.tag.Tag.{Tag}
use Rattle.envelope_grammar.specs.declared.tag.Attribute.{Attribute}
use Rattle.envelope_grammar.specs.declared.raw.RawRequest.{RawRequest}
use Rattle.envelope_grammar.specs.Grammar.{◌▸◌, Is, White, SpellsEndName, Element, SpellsChildren, SpellsElements, SpellsSub, SpellsRequest, SpellsCollection}
use Rattle.envelope_grammar.specs.Reading.{◌>>=◌, past, past_white, Step, More, Last, one_more, all_of, tag_at, end_tag_at, child_from, element_step, elements, is_named, sub_of, request_with, request_of, collection_of}
use Rattle.envelope_grammar.proofs.Runs.{past_white-append, past_white-takes, past-elsewhere, past_takes, bind_some, guard_some, pair_is, bytes_same, bytes_eq_true}
use Rattle.envelope_grammar.proofs.Attributes.{regroup}
use Rattle.envelope_grammar.proofs.TagLaws.{tag_again, tag_takes, end_again, end_takes}
use Rattle.envelope_grammar.proofs.Steps.{ReadsSteps, all_again, all_takes}

-- What stands behind a start tag is read, with its value.
pub record ReadsChild {V : Type 0} (Child : V → Tag → List ℕ → Type 0) (child : Tag → List ℕ → Option (V × List ℕ)) : Type 0 where
  pub again : (v : V) (tag : Tag) (b more : List ℕ) → Child v tag b → child tag (b ++ more) ≡ Some (v, more)
  pub takes : (tag : Tag) (bytes : List ℕ) (v : V) (rest : List ℕ) → child tag bytes ≡ Some (v, rest) → (b : List ℕ) × Child v tag b × (bytes ≡ b ++ rest)

module _ {V : Type 0} (Child : V → Tag → List ℕ → Type 0) (child : Tag → List ℕ → Option (V × List ℕ)) (reads : ReadsChild Child child) where
  abbrev Item : V → List ℕ → Type 0
  Item v = White ▸ Element (Child v)

  abbrev End : Unit {0} → List ℕ → Type 0
  End e = White ▸ Is (60 ∷ 47 ∷ [])

  abbrev Always : List ℕ → Type 0
  Always more = Unit {0}

  child_more : (v : V) (b rest : List ℕ) → Item v b → element_step child (b ++ rest) ≡ Some (More v, rest)
  unfolding element_step
  child_more v b rest h =
      let element = h.second in
      let t = tag_again element.tag element.spelled.front (element.spelled.back ++ rest) element.spelled.first in
      let e1 : h.back ++ rest ≡ 60 ∷ t.0 = regroup h.back rest element.spelled ∙ t.1 in
      let all : b ++ rest ≡ h.front ++ (60 ∷ t.0) = regroup b rest h ∙ ap (λ (l : List ℕ). h.front ++ l) e1 in
      rw (all, past_white-append h.front (60 ∷ t.0) h.first refl, past-elsewhere 47 t.0 t.3, t.2, reads.again v element.tag element.spelled.back rest element.spelled.second) refl

  child_last : (e : Unit {0}) (b rest : List ℕ) → End e b → Unit {0} → element_step child (b ++ rest) ≡ Some (Last e, rest)
  unfolding element_step
  child_last e b rest h stop =
      let all : b ++ rest ≡ h.front ++ (60 ∷ 47 ∷ rest) = regroup b rest h ∙ ap (λ (l : List ℕ). h.front ++ (l ++ rest)) h.second in
      rw (all, past_white-append h.front (60 ∷ 47 ∷ rest) h.first refl) refl

  item_some : (v : V) (b : List ℕ) → Item v b → 1 ≤ length b
  item_some v b h =
      let t = h.second.spelled in
      let one : length t.first.front ≡ 1 = ap length t.first.first in
      omega (arith, ap length h.bytes_are, length-append h.front h.back, ap length t.bytes_are, length-append t.front t.back, ap length t.first.bytes_are, length-append t.first.front t.first.back)

  end_some : (e : Unit {0}) (b rest : List ℕ) → End e b → Unit {0} → 1 ≤ length (b ++ rest)
  end_some e b rest h stop =
      let two : length h.back ≡ 2 = ap length h.second in
      omega (arith, length-append b rest, ap length h.bytes_are, length-append h.front h.back)

  child_takes_by : (bytes behind : List ℕ) (o : Option (List ℕ)) (s : Step V (Unit {0})) (rest : List ℕ) (w : (b : List ℕ) × White b × (bytes ≡ b ++ (60 ∷ behind)))
      → past 47 behind ≡ o → child_from child behind o ≡ Some (s, rest)
      → ((s ≡ Last tt) × ((b : List ℕ) × End tt b × (bytes ≡ b ++ rest))) ⊎ ((v : V) × (s ≡ More v) × ((b : List ℕ) × Item v b × (bytes ≡ b ++ rest)))
  child_takes_by bytes behind (Some after) s rest w p e =
      let q = pair_is {A = Step V (Unit {0})} {B = List ℕ} (Last tt, after) (s, rest) e in
      let t : End tt (w.0 ++ (60 ∷ 47 ∷ [])) = record { front = w.0; back = 60 ∷ 47 ∷ []; first = w.1; second = refl; bytes_are = refl } in
      let here : behind ≡ 47 ∷ rest = past_takes 47 behind after p ∙ ap (λ (l : List ℕ). 47 ∷ l) q.1 in
      let all : bytes ≡ (w.0 ++ (60 ∷ 47 ∷ [])) ++ rest = w.2 ∙ ap (λ (l : List ℕ). w.0 ++ (60 ∷ l)) here ∙ sym (append_assoc w.0 (60 ∷ 47 ∷ []) rest) in
      inl (sym q.0, (w.0 ++ (60 ∷ 47 ∷ []), t, all))
  child_takes_by bytes behind None s rest w p e =
      let g = bind_some (tag_at behind) (λ tag. child tag.0 tag.1 >>= one_more) (s, rest) e in
      let k = bind_some (child g.0.0 g.0.1) one_more (s, rest) g.2 in
      let q = pair_is {A = Step V (Unit {0})} {B = List ℕ} (More k.0.0, k.0.1) (s, rest) k.2 in
      let tag = tag_takes behind g.0.0 g.0.1 g.1 in
      let inner = reads.takes g.0.0 g.0.1 k.0.0 k.0.1 k.1 in
      let element : Element (Child k.0.0) (tag.0 ++ inner.0) = record { tag = g.0.0; spelled = record { front = tag.0; back = inner.0; first = tag.1; second = inner.1; bytes_are = refl } } in
      let t : Item k.0.0 (w.0 ++ (tag.0 ++ inner.0)) = record { front = w.0; back = tag.0 ++ inner.0; first = w.1; second = element; bytes_are = refl } in
      let all : bytes ≡ (w.0 ++ (tag.0 ++ inner.0)) ++ rest =
      w.2 ∙ ap (λ (l : List ℕ). w.0 ++ l) (tag.2 ∙ ap (λ (l : List ℕ). tag.0 ++ l) (inner.2 ∙ ap (λ (l : List ℕ). inner.0 ++ l) q.1)) ∙ (simp append_assoc) in
      inr (k.0.0, sym q.0, (w.0 ++ (tag.0 ++ inner.0), t, all))

  child_cases : (bytes : List ℕ) (s : Step V (Unit {0})) (rest : List ℕ) → element_step child bytes ≡ Some (s, rest)
      → ((s ≡ Last tt) × ((b : List ℕ) × End tt b × (bytes ≡ b ++ rest))) ⊎ ((v : V) × (s ≡ More v) × ((b : List ℕ) × Item v b × (bytes ≡ b ++ rest)))
  unfolding element_step
  child_cases bytes s rest e =
      let o = bind_some (past 60 (past_white bytes)) (λ behind. child_from child behind (past 47 behind)) (s, rest) e in
      let w = past_white-takes bytes in
      let here = past_takes 60 (past_white bytes) o.0 o.1 in
      child_takes_by bytes o.0 (past 47 o.0) s rest (w.0, w.1, w.2 ∙ ap (λ (l : List ℕ). w.0 ++ l) here) refl o.2

  child_takes : (bytes : List ℕ) (v : V) (rest : List ℕ) → element_step child bytes ≡ Some (More v, rest) → (b : List ℕ) × Item v b × (bytes ≡ b ++ rest)
  child_takes bytes v rest e =
      elim (child_cases bytes (More v) rest e) [
        | inl h ↦ let m = h.0 in absurd cc
        | inr h ↦ let m = h.1 in let same : h.0 ≡ v = cc in subst (λ (u : V). (b : List ℕ) × Item u b × (bytes ≡ b ++ rest)) same h.2
      ]

  child_ends : (bytes : List ℕ) (u : Unit {0}) (rest : List ℕ) → element_step child bytes ≡ Some (Last u, rest) → (b : List ℕ) × End u b × (bytes ≡ b ++ rest)
  child_ends bytes u rest e =
      elim (child_cases bytes (Last u) rest e) [
        | inl h ↦ h.1
        | inr h ↦ let m = h.1 in absurd cc
      ]

  child_steps : ReadsSteps Item End Always (element_step child)
  child_steps = record { more = child_more; some = item_some; last = child_last; end = end_some; takes = child_takes; ends = child_ends }

  elements_again : (vs : List V) (tag : Tag) (b more : List ℕ) → SpellsElements Child vs tag b → elements child tag (b ++ more) ≡ Some (vs, more)
  unfolding elements
  elements_again vs tag b more (inl h) = rw (h.0, h.1.1, h.1.0) refl
  elements_again vs tag b more (inr h) =
      let parts = h.1 in
      rw (h.0, regroup b more parts, all_again Item End Always (element_step child) child_steps vs tt parts.front (parts.back ++ more) parts.first tt, end_again tag.name parts.back more parts.second) refl

  elements_takes_by : (tag : Tag) (t : Bool) (bytes : List ℕ) (vs : List V) (rest : List ℕ) → tag.closed ≡ t
      → cond {A = Option (List V × List ℕ)} t (Some ([], bytes)) (all_of (element_step child) bytes >>= λ inside. end_tag_at tag.name inside.2 >>= λ r. Some (inside.0, r)) ≡ Some (vs, rest)
      → (b : List ℕ) × SpellsElements Child vs tag b × (bytes ≡ b ++ rest)
  elements_takes_by tag true bytes vs rest c e =
      let q = pair_is {A = List V} {B = List ℕ} ([], bytes) (vs, rest) e in
      ([], inl (c, (sym q.0, refl)), q.1)
  elements_takes_by tag false bytes vs rest c e =
      let m = bind_some (all_of (element_step child) bytes) (λ inside. end_tag_at tag.name inside.2 >>= λ r. Some (inside.0, r)) (vs, rest) e in
      let z = bind_some (end_tag_at tag.name m.0.2) (λ r. Some (m.0.0, r)) (vs, rest) m.2 in
      let q = pair_is {A = List V} {B = List ℕ} (m.0.0, z.0) (vs, rest) z.2 in
      let t = all_takes Item End Always (element_step child) child_steps bytes m.0.0 m.0.1 m.0.2 m.1 in
      let x = end_takes tag.name m.0.2 z.0 z.1 in
      let kids : SpellsChildren Child vs t.0 = subst (λ (us : List V). SpellsChildren Child us t.0) q.0 t.1 in
      let both : (SpellsChildren Child vs ▸ SpellsEndName tag.name) (t.0 ++ x.0) = record { front = t.0; back = x.0; first = kids; second = x.1; bytes_are = refl } in
      (t.0 ++ x.0, inr (c, both), t.2 ∙ ap (λ (l : List ℕ). t.0 ++ l) (x.2 ∙ ap (λ (l : List ℕ). x.0 ++ l) q.1) ∙ sym (append_assoc t.0 x.0 rest))

  pub elements_reads : ReadsChild (SpellsElements Child) (elements child)
  unfolding elements
  elements_reads = record { again = elements_again; takes = λ tag bytes vs rest e. elements_takes_by tag tag.closed bytes vs rest refl e }

-- ---- from subrequests up

module _ (sub_reads : ReadsChild SpellsSub sub_of) where
  request_again : (r : RawRequest) (tag : Tag) (b more : List ℕ) → SpellsRequest r tag b → request_of tag (b ++ more) ≡ Some (r, more)
  unfolding request_of
  request_again r tag b more h =
      let named : is_named (codes "Request") tag ≡ true = ap (λ (l : List ℕ). bytes_eq l (codes "Request")) h.named ∙ bytes_same (codes "Request") in
      let subs = elements_reads SpellsSub sub_of sub_reads in
      rw (named, subs.again r.subs tag b more h.spelled) (ap (λ (a : List Attribute). Some (record r { attributes = a }, more)) (sym h.attributes))

  request_takes : (tag : Tag) (bytes : List ℕ) (r : RawRequest) (rest : List ℕ) → request_of tag bytes ≡ Some (r, rest) → (b : List ℕ) × SpellsRequest r tag b × (bytes ≡ b ++ rest)
  unfolding request_of
  request_takes tag bytes r rest e =
      let g = guard_some (is_named (codes "Request") tag) (elements sub_of tag bytes >>= request_with tag.attributes) (r, rest) e in
      let m = bind_some (elements sub_of tag bytes) (request_with tag.attributes) (r, rest) g.1 in
      let made : RawRequest = record { attributes = tag.attributes; subs = m.0.0 } in
      let q = pair_is {A = RawRequest} {B = List ℕ} (made, m.0.1) (r, rest) m.2 in
      let subs = elements_reads SpellsSub sub_of sub_reads in
      let t = subs.takes tag bytes m.0.0 m.0.1 m.1 in
      let spelled : SpellsRequest made tag t.0 = record { named = bytes_eq_true tag.name.local (codes "Request") g.0; attributes = refl; spelled = t.1 } in
      (t.0, subst (λ (x : RawRequest). SpellsRequest x tag t.0) q.0 spelled, t.2 ∙ ap (λ (l : List ℕ). t.0 ++ l) q.1)

  collection_again : (rs : List RawRequest) (tag : Tag) (b more : List ℕ) → SpellsCollection rs tag b → collection_of tag (b ++ more) ≡ Some (rs, more)
  unfolding collection_of
  collection_again rs tag b more h =
      let named : is_named (codes "RequestCollection") tag ≡ true = ap (λ (l : List ℕ). bytes_eq l (codes "RequestCollection")) h.0 ∙ bytes_same (codes "RequestCollection") in
      let requests = elements_reads SpellsRequest request_of (record { again = request_again; takes = request_takes }) in
      rw named (requests.again rs tag b more h.1)

  collection_takes : (tag : Tag) (bytes : List ℕ) (rs : List RawRequest) (rest : List ℕ) → collection_of tag bytes ≡ Some (rs, rest) → (b : List ℕ) × SpellsCollection rs tag b × (bytes ≡ b ++ rest)
  unfolding collection_of
  collection_takes tag bytes rs rest e =
      let g = guard_some (is_named (codes "RequestCollection") tag) (elements request_of tag bytes) (rs, rest) e in
      let requests = elements_reads SpellsRequest request_of (record { again = request_again; takes = request_takes }) in
      let t = requests.takes tag bytes rs rest g.1 in
      (t.0, (bytes_eq_true tag.name.local (codes "RequestCollection") g.0, t.1), t.2)

  pub collection_reads : ReadsChild SpellsCollection collection_of
  collection_reads = record { again = collection_again; takes = collection_takes }
