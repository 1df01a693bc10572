-- Subrequests: what is read is one, and one is read.
use Rattle.std.proofs.Common.{◌≡◌, ℕ, inl, inr, Bool, true, false, cond, List, [], ◌∷◌, ◌++◌, Option, Some, None, refl, sym, ap, subst, ◌∙◌, append_assoc}
use Rattle.std.specs.Prelude.{codes}
use Rattle.std.specs.List.{concat}
use Rattle.std.specs.Str.{bytes_eq}
use Rattle.std.proofs.lemmas.Bool.{false≢true}
use Rattle.envelope_grammar.specs.declared.tag.Tag.{Tag}
use Rattle.envelope_grammar.specs.declared.tag.Attribute.{Attribute}
use Rattle.envelope_grammar.specs.declared.raw.Payload.{Payload}
use Rattle.envelope_grammar.specs.declared.raw.RawSub.{RawSub}
use Rattle.envelope_grammar.specs.Grammar.{◌▸◌, Is, SpellsEndName, Element, SpellsOwn, IsSkippedBehind, SpellsContent, IsNamed, SpellsPayload, SpellsSubChild, present, AtMostOne, SpellsSub, SpellsCollection}
use Rattle.envelope_grammar.specs.Reading.{◌>>=◌, all_of, inside_step, skipped, content_at, end_tag_at, elements, is_named, data_with, payload_of, sub_child_of, at_most_one, sub_with, sub_of, collection_of}
use Rattle.envelope_grammar.proofs.Runs.{bind_some, guard_some, some_is, pair_is, bytes_same, bytes_eq_true}
use Rattle.envelope_grammar.proofs.Attributes.{regroup}
use Rattle.envelope_grammar.proofs.TagLaws.{end_again, end_takes}
use Rattle.envelope_grammar.proofs.Steps.{all_again, all_takes}
use Rattle.envelope_grammar.proofs.Skipped.{inside_steps, skipped_reads}
use Rattle.envelope_grammar.proofs.ElementLaws.{ReadsChild, elements_reads, collection_reads}

abbrev Item : List ℕ → List ℕ → Type 0
Item text = SpellsOwn text ▸ Element (IsSkippedBehind 16)

abbrev End : List ℕ → List ℕ → Type 0
End text = SpellsOwn text ▸ Is (60 ∷ 47 ∷ [])

abbrev Always : List ℕ → Type 0
Always more = Unit {0}

content_again : (text b more : List ℕ) → SpellsContent text b → content_at (skipped 16) (b ++ more) ≡ Some (text, more)
unfolding content_at
content_again text b more h =
    let steps = inside_steps (IsSkippedBehind 16) (skipped 16) (skipped_reads 16) in
    rw (all_again Item End Always (inside_step (skipped 16)) steps h.texts h.last b more h.mixed tt, h.text_is) refl

content_takes : (bytes text rest : List ℕ) → content_at (skipped 16) bytes ≡ Some (text, rest) → (b : List ℕ) × SpellsContent text b × (bytes ≡ b ++ rest)
unfolding content_at
content_takes bytes text rest e =
    let steps = inside_steps (IsSkippedBehind 16) (skipped 16) (skipped_reads 16) in
    let m = bind_some (all_of (inside_step (skipped 16)) bytes) (λ inside. Some (concat inside.0 ++ inside.1, inside.2)) (text, rest) e in
    let q = pair_is {A = List ℕ} {B = List ℕ} (concat m.0.0 ++ m.0.1, m.0.2) (text, rest) m.2 in
    let t = all_takes Item End Always (inside_step (skipped 16)) steps bytes m.0.0 m.0.1 m.0.2 m.1 in
    let spelled : SpellsContent text t.0 = record { texts = m.0.0; last = m.0.1; mixed = t.1; text_is = sym q.0 } in
    (t.0, spelled, t.2 ∙ ap (λ (l : List ℕ). t.0 ++ l) q.1)

payload_again : (p : Payload) (tag : Tag) (b more : List ℕ) → SpellsPayload p tag b → payload_of tag (b ++ more) ≡ Some (p, more)
unfolding payload_of
payload_again p tag b more h =
    elim h.1 [
      | inl k ↦
          let made : data_with tag.attributes [] ≡ p = ap (λ (a : List Attribute). data_with a []) (sym h.0) ∙ ap (λ (x : List ℕ). data_with p.attributes x) (sym k.1.0) in
          rw (k.0, k.1.1) (ap (λ (x : Payload). Some (x, more)) made)
      | inr k ↦
          let parts = k.1 in
          let made : data_with tag.attributes p.text ≡ p = ap (λ (a : List Attribute). data_with a p.text) (sym h.0) in
          rw (k.0, regroup b more parts, content_again p.text parts.front (parts.back ++ more) parts.first, end_again tag.name parts.back more parts.second) (ap (λ (x : Payload). Some (x, more)) made)
    ]

payload_takes_by : (tag : Tag) (t : Bool) (bytes : List ℕ) (p : Payload) (rest : List ℕ) → tag.closed ≡ t
    → cond {A = Option (Payload × List ℕ)} t (Some (data_with tag.attributes [], bytes)) (content_at (skipped 16) bytes >>= λ content. end_tag_at tag.name content.1 >>= λ r. Some (data_with tag.attributes content.0, r)) ≡ Some (p, rest)
    → (b : List ℕ) × SpellsPayload p tag b × (bytes ≡ b ++ rest)
payload_takes_by tag true bytes p rest c e =
    let q = pair_is {A = Payload} {B = List ℕ} (data_with tag.attributes [], bytes) (p, rest) e in
    ([], (sym (ap (λ (x : Payload). x.attributes) q.0), inl (c, (sym (ap (λ (x : Payload). x.text) q.0), refl))), q.1)
payload_takes_by tag false bytes p rest c e =
    let m = bind_some (content_at (skipped 16) bytes) (λ content. end_tag_at tag.name content.1 >>= λ r. Some (data_with tag.attributes content.0, r)) (p, rest) e in
    let z = bind_some (end_tag_at tag.name m.0.1) (λ r. Some (data_with tag.attributes m.0.0, r)) (p, rest) m.2 in
    let q = pair_is {A = Payload} {B = List ℕ} (data_with tag.attributes m.0.0, z.0) (p, rest) z.2 in
    let t = content_takes bytes m.0.0 m.0.1 m.1 in
    let x = end_takes tag.name m.0.1 z.0 z.1 in
    let text : m.0.0 ≡ p.text = ap (λ (d : Payload). d.text) q.0 in
    let content : SpellsContent p.text t.0 = subst (λ (v : List ℕ). SpellsContent v t.0) text t.1 in
    let both : (SpellsContent p.text ▸ SpellsEndName tag.name) (t.0 ++ x.0) = record { front = t.0; back = x.0; first = content; second = x.1; bytes_are = refl } in
    (t.0 ++ x.0, (sym (ap (λ (d : Payload). d.attributes) q.0), inr (c, both)), t.2 ∙ ap (λ (l : List ℕ). t.0 ++ l) (x.2 ∙ ap (λ (l : List ℕ). x.0 ++ l) q.1) ∙ sym (append_assoc t.0 x.0 rest))

payload_takes : (tag : Tag) (bytes : List ℕ) (p : Payload) (rest : List ℕ) → payload_of tag bytes ≡ Some (p, rest) → (b : List ℕ) × SpellsPayload p tag b × (bytes ≡ b ++ rest)
unfolding payload_of
payload_takes tag bytes p rest e = payload_takes_by tag tag.closed bytes p rest refl e

-- ---- parts

not_named : (word : List ℕ) (tag : Tag) (t : Bool) → is_named word tag ≡ t → ¬ IsNamed word tag → t ≡ false
not_named word tag true e no_name = absurd (no_name (bytes_eq_true tag.name.local word e))
not_named word tag false e no_name = refl

named : (word : List ℕ) (tag : Tag) → IsNamed word tag → is_named word tag ≡ true
named word tag h = ap (λ (l : List ℕ). bytes_eq l word) h ∙ bytes_same word

sub_child_again : (o : Option Payload) (tag : Tag) (b more : List ℕ) → SpellsSubChild o tag b → sub_child_of tag (b ++ more) ≡ Some (o, more)
unfolding sub_child_of
sub_child_again (Some p) tag b more h = rw (named (codes "SubRequestData") tag h.0, payload_again p tag b more h.1) refl
sub_child_again None tag b more h =
    let skip = skipped_reads 16 in
    rw (not_named (codes "SubRequestData") tag (is_named (codes "SubRequestData") tag) refl h.0, skip.again tag b more h.1) refl

part_takes_by : (tag : Tag) (t : Bool) (bytes : List ℕ) (o : Option Payload) (rest : List ℕ) → is_named (codes "SubRequestData") tag ≡ t
    → cond {A = Option (Option Payload × List ℕ)} t (payload_of tag bytes >>= (λ x. Some (Some x.0, x.1))) (skipped 16 tag bytes >>= λ r. Some (None, r)) ≡ Some (o, rest)
    → (b : List ℕ) × SpellsSubChild o tag b × (bytes ≡ b ++ rest)
part_takes_by tag true bytes o rest n e =
    let m = bind_some (payload_of tag bytes) (λ x. Some (Some x.0, x.1)) (o, rest) e in
    let q = pair_is {A = Option Payload} {B = List ℕ} (Some m.0.0, m.0.1) (o, rest) m.2 in
    let t = payload_takes tag bytes m.0.0 m.0.1 m.1 in
    let part : SpellsSubChild (Some m.0.0) tag t.0 = (bytes_eq_true tag.name.local (codes "SubRequestData") n, t.1) in
    (t.0, subst (λ (x : Option Payload). SpellsSubChild x tag t.0) q.0 part, t.2 ∙ ap (λ (l : List ℕ). t.0 ++ l) q.1)
part_takes_by tag false bytes o rest n e =
    let m = bind_some (skipped 16 tag bytes) (λ r. Some (None, r)) (o, rest) e in
    let q = pair_is {A = Option Payload} {B = List ℕ} (None, m.0) (o, rest) m.2 in
    let skip = skipped_reads 16 in
    let t = skip.takes tag bytes m.0 m.1 in
    let part : SpellsSubChild None tag t.0 = (λ h. false≢true (sym n ∙ named (codes "SubRequestData") tag h), t.1) in
    (t.0, subst (λ (x : Option Payload). SpellsSubChild x tag t.0) q.0 part, t.2 ∙ ap (λ (l : List ℕ). t.0 ++ l) q.1)

sub_child_takes : (tag : Tag) (bytes : List ℕ) (o : Option Payload) (rest : List ℕ) → sub_child_of tag bytes ≡ Some (o, rest) → (b : List ℕ) × SpellsSubChild o tag b × (bytes ≡ b ++ rest)
unfolding sub_child_of
sub_child_takes tag bytes o rest e = part_takes_by tag (is_named (codes "SubRequestData") tag) bytes o rest refl e

-- ---- subrequests

one_again : {V : Type 0} (vs : List V) (o : Option V) → AtMostOne vs o → at_most_one vs ≡ Some o
one_again vs None h = rw h refl
one_again vs (Some v) h = rw h refl

one_takes : {V : Type 0} (vs : List V) (o : Option V) → at_most_one vs ≡ Some o → AtMostOne vs o
one_takes {V} [] o e = subst (λ (x : Option V). AtMostOne [] x) (some_is None o e) refl
one_takes {V} (v ∷ []) o e = subst (λ (x : Option V). AtMostOne (v ∷ []) x) (some_is (Some v) o e) refl
one_takes (v ∷ w ∷ vs) o e = absurd cc

sub_again : (s : RawSub) (tag : Tag) (b more : List ℕ) → SpellsSub s tag b → sub_of tag (b ++ more) ≡ Some (s, more)
unfolding sub_of
sub_again s tag b more h =
    let parts = elements_reads SpellsSubChild sub_child_of (record { again = sub_child_again; takes = sub_child_takes }) in
    rw (named (codes "SubRequest") tag h.named, parts.again h.parts tag b more h.spelled, one_again (present h.parts) s.payload h.one) (ap (λ (a : List Attribute). Some (record s { attributes = a }, more)) (sym h.attributes))

sub_takes : (tag : Tag) (bytes : List ℕ) (s : RawSub) (rest : List ℕ) → sub_of tag bytes ≡ Some (s, rest) → (b : List ℕ) × SpellsSub s tag b × (bytes ≡ b ++ rest)
unfolding sub_of
sub_takes tag bytes s rest e =
    let g = guard_some (is_named (codes "SubRequest") tag) (elements sub_child_of tag bytes >>= sub_with tag.attributes) (s, rest) e in
    let m = bind_some (elements sub_child_of tag bytes) (sub_with tag.attributes) (s, rest) g.1 in
    let o = bind_some (at_most_one (present m.0.0)) (λ payload. Some (record { attributes = tag.attributes; payload = payload }, m.0.1)) (s, rest) m.2 in
    let made : RawSub = record { attributes = tag.attributes; payload = o.0 } in
    let q = pair_is {A = RawSub} {B = List ℕ} (made, m.0.1) (s, rest) o.2 in
    let parts = elements_reads SpellsSubChild sub_child_of (record { again = sub_child_again; takes = sub_child_takes }) in
    let t = parts.takes tag bytes m.0.0 m.0.1 m.1 in
    let spelled : SpellsSub made tag t.0 = record { named = bytes_eq_true tag.name.local (codes "SubRequest") g.0; attributes = refl; parts = m.0.0; one = one_takes (present m.0.0) o.0 o.1; spelled = t.1 } in
    (t.0, subst (λ (x : RawSub). SpellsSub x tag t.0) q.0 spelled, t.2 ∙ ap (λ (l : List ℕ). t.0 ++ l) q.1)

-- the requests of a RequestCollection
pub requests_read : ReadsChild SpellsCollection collection_of
requests_read = collection_reads (record { again = sub_again; takes = sub_takes })
