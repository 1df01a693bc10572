-- The document: what is read is one, and one is read.
use Rattle.std.proofs.Common.{◌≡◌, ℕ, inl, inr, Bool, true, false, eqb, not, ◌&&◌, List, [], ◌∷◌, ◌++◌, length, Option, Some, None, Result, Ok, Err, refl, sym, ap, subst, ◌∙◌, append_assoc}
use Rattle.std.specs.Prelude.{codes, IfOk, ◌↔◌}
use Rattle.envelope_grammar.specs.Front.{or_all, past_word, past_mark, declaration_from, past_declaration, Declaration, IsEnvelopeText, text_at}
use Rattle.envelope_grammar.proofs.Fronts.{word_takes, mark_takes, declaration_takes, declared_again}
use Rattle.envelope_grammar.specs.Answers.{Gives}
use Rattle.envelope_grammar.specs.declared.fault.ReadFault.{ReadFault}
use Rattle.envelope_grammar.specs.declared.fault.ReadFault.TheVariants as faults
use Rattle.std.specs.Str.{bytes_eq, is_utf8}
use Rattle.std.proofs.lemmas.Str.{IsUtf8-from_is_utf8, is_utf8-from_IsUtf8}
use Rattle.std.proofs.lemmas.Bool.{false≢true, eqb-true}
use Rattle.envelope_grammar.specs.declared.tag.Tag.{Tag}
use Rattle.envelope_grammar.specs.declared.tag.Name.{Name}
use Rattle.envelope_grammar.specs.declared.raw.RawRequest.{RawRequest}
use Rattle.envelope_grammar.specs.Bytes.{is_white, run_len}
use Rattle.envelope_grammar.specs.Grammar.{◌▸◌, Then, Is, begins, White, SpellsTag, SpellsEndName, Element, Behind, Several, SpellsElements, SpellsCollection, Holding, SpellsVersion, SpellsBody, SpellsEnvelope, SpellsDocument}
use Rattle.envelope_grammar.specs.Reading.{◌>>=◌, past, past_white, word_at, name_at, tag_at, end_tag_at, is_named, elements, no_child, version_of, collection_of, open_at, close_at, holding, body_from, body_at, envelope_at, whole, document_at}
use Rattle.envelope_grammar.proofs.Runs.{and_parts, run_len-all, every_from_run, past_white-append, past_white-takes, past_takes, bind_some, guard_some, some_is, pair_is, eqb_same, bytes_same, bytes_eq_true}
use Rattle.envelope_grammar.proofs.Attributes.{regroup}
use Rattle.envelope_grammar.proofs.TagLaws.{tag_again, tag_takes, end_again, end_takes}
use Rattle.envelope_grammar.proofs.ElementLaws.{ReadsChild, elements_reads}
use Rattle.envelope_grammar.proofs.SubLaws.{requests_read}

open_again : (B : Tag → List ℕ → Type 0) (b more : List ℕ) (h : Then White (Element B) b) → open_at (b ++ more) ≡ Some (h.second.tag, h.second.spelled.back ++ more)
unfolding open_at
open_again B b more h =
    let element = h.second in
    let t = tag_again element.tag element.spelled.front (element.spelled.back ++ more) element.spelled.first in
    let e1 : h.back ++ more ≡ 60 ∷ t.0 = regroup h.back more element.spelled ∙ t.1 in
    let all : b ++ more ≡ h.front ++ (60 ∷ t.0) = regroup b more h ∙ ap (λ (l : List ℕ). h.front ++ l) e1 in
    rw (all, past_white-append h.front (60 ∷ t.0) h.first refl) t.2

open_takes : (bytes : List ℕ) (tag : Tag) (rest : List ℕ) → open_at bytes ≡ Some (tag, rest)
    → (w : List ℕ) × (t : List ℕ) × White w × SpellsTag tag t × (bytes ≡ w ++ (t ++ rest))
unfolding open_at
open_takes bytes tag rest e =
    let o = bind_some (past 60 (past_white bytes)) tag_at (tag, rest) e in
    let w = past_white-takes bytes in
    let here = past_takes 60 (past_white bytes) o.0 o.1 in
    let t = tag_takes o.0 tag rest o.2 in
    (w.0, t.0, w.1, t.1, w.2 ∙ ap (λ (l : List ℕ). w.0 ++ l) (here ∙ t.2))

-- the element behind a start tag that was read
made : (B : Tag → List ℕ → Type 0) (tag : Tag) (w t b : List ℕ) → White w → SpellsTag tag t → B tag b → (White ▸ Element B) (w ++ (t ++ b))
made B tag w t b white spelled behind = record { front = w; back = t ++ b; first = white; second = record { tag = tag; spelled = record { front = t; back = b; first = spelled; second = behind; bytes_are = refl } }; bytes_are = refl }

close_again : (name : Name) (b more : List ℕ) → (White ▸ Is (60 ∷ 47 ∷ []) ▸ SpellsEndName name) b → close_at name (b ++ more) ≡ Some more
unfolding close_at
close_again name b more h =
    let h1 = h.second in
    let e1 : h.back ++ more ≡ 60 ∷ 47 ∷ (h1.back ++ more) = regroup h.back more h1 ∙ ap (λ (l : List ℕ). l ++ (h1.back ++ more)) h1.first in
    let all : b ++ more ≡ h.front ++ (60 ∷ 47 ∷ (h1.back ++ more)) = regroup b more h ∙ ap (λ (l : List ℕ). h.front ++ l) e1 in
    rw (all, past_white-append h.front (60 ∷ 47 ∷ (h1.back ++ more)) h.first refl) (end_again name h1.back more h1.second)

close_takes : (name : Name) (bytes rest : List ℕ) → close_at name bytes ≡ Some rest → (b : List ℕ) × (White ▸ Is (60 ∷ 47 ∷ []) ▸ SpellsEndName name) b × (bytes ≡ b ++ rest)
unfolding close_at
close_takes name bytes rest e =
    let o = bind_some (past 60 (past_white bytes)) (λ behind. past 47 behind >>= end_tag_at name) rest e in
    let s = bind_some (past 47 o.0) (end_tag_at name) rest o.2 in
    let w = past_white-takes bytes in
    let x = end_takes name s.0 rest s.2 in
    let here : past_white bytes ≡ 60 ∷ 47 ∷ (x.0 ++ rest) = past_takes 60 (past_white bytes) o.0 o.1 ∙ ap (λ (l : List ℕ). 60 ∷ l) (past_takes 47 o.0 s.0 s.1 ∙ ap (λ (l : List ℕ). 47 ∷ l) x.2) in
    let t1 : (Is (60 ∷ 47 ∷ []) ▸ SpellsEndName name) (60 ∷ 47 ∷ x.0) = record { front = 60 ∷ 47 ∷ []; back = x.0; first = refl; second = x.1; bytes_are = refl } in
    let t0 : (White ▸ Is (60 ∷ 47 ∷ []) ▸ SpellsEndName name) (w.0 ++ (60 ∷ 47 ∷ x.0)) = record { front = w.0; back = 60 ∷ 47 ∷ x.0; first = w.1; second = t1; bytes_are = refl } in
    (w.0 ++ (60 ∷ 47 ∷ x.0), t0, w.2 ∙ ap (λ (l : List ℕ). w.0 ++ l) here ∙ sym (append_assoc w.0 (60 ∷ 47 ∷ x.0) rest))

-- What stands in an element is read.
pub record ReadsInner {V : Type 0} (Inner : V → List ℕ → Type 0) (inner : List ℕ → Option (V × List ℕ)) : Type 0 where
  pub again : (v : V) (b more : List ℕ) → Inner v b → inner (b ++ more) ≡ Some (v, more)
  pub takes : (bytes : List ℕ) (v : V) (rest : List ℕ) → inner bytes ≡ Some (v, rest) → (b : List ℕ) × Inner v b × (bytes ≡ b ++ rest)

module _ {V : Type 0} (word : List ℕ) (Inner : V → List ℕ → Type 0) (inner : List ℕ → Option (V × List ℕ)) (reads : ReadsInner Inner inner) where
  holding_again : (v : V) (tag : Tag) (b more : List ℕ) → Holding word (Inner v) tag b → holding word inner tag (b ++ more) ≡ Some (v, more)
  unfolding holding
  holding_again v tag b more h =
      let named : is_named word tag ≡ true = ap (λ (l : List ℕ). bytes_eq l word) h.named ∙ bytes_same word in
      rw (named, h.opened, regroup b more h.spelled, reads.again v h.spelled.front (h.spelled.back ++ more) h.spelled.first, close_again tag.name h.spelled.back more h.spelled.second) refl

  holding_takes : (tag : Tag) (bytes : List ℕ) (v : V) (rest : List ℕ) → holding word inner tag bytes ≡ Some (v, rest) → (b : List ℕ) × Holding word (Inner v) tag b × (bytes ≡ b ++ rest)
  unfolding holding
  holding_takes tag bytes v rest e =
      let g = guard_some (is_named word tag && not tag.closed) (inner bytes >>= (λ x. close_at tag.name x.1 >>= λ r. Some (x.0, r))) (v, rest) e in
      let tests = and_parts (is_named word tag) (not tag.closed) g.0 in
      let m = bind_some (inner bytes) (λ x. close_at tag.name x.1 >>= λ r. Some (x.0, r)) (v, rest) g.1 in
      let z = bind_some (close_at tag.name m.0.1) (λ r. Some (m.0.0, r)) (v, rest) m.2 in
      let q = pair_is {A = V} {B = List ℕ} (m.0.0, z.0) (v, rest) z.2 in
      let i = reads.takes bytes m.0.0 m.0.1 m.1 in
      let c = close_takes tag.name m.0.1 z.0 z.1 in
      let held : Holding word (Inner v) tag (i.0 ++ c.0) = record {
        named = bytes_eq_true tag.name.local word tests.0;
        opened = not_true tag.closed tests.1;
        spelled = record { front = i.0; back = c.0; first = subst (λ (u : V). Inner u i.0) q.0 i.1; second = c.1; bytes_are = refl };
      } in
      (i.0 ++ c.0, held, i.2 ∙ ap (λ (l : List ℕ). i.0 ++ l) (c.2 ∙ ap (λ (l : List ℕ). c.0 ++ l) q.1) ∙ sym (append_assoc i.0 c.0 rest))
    where
      not_true : (t : Bool) → not t ≡ true → t ≡ false
      not_true false h = refl
      not_true true h = absurd (false≢true h)

-- ---- the version

NoChild : Unit {0} → Tag → List ℕ → Type 0
NoChild v tag b = ⊥

no_child_reads : ReadsChild NoChild no_child
unfolding NoChild
no_child_reads = record { again = λ v tag b more h. absurd h; takes = λ tag bytes v rest e. absurd cc }

version_again : (tag : Tag) (b more : List ℕ) → SpellsVersion tag b → version_of tag (b ++ more) ≡ Some more
version_again tag b more h =
    let reads = elements_reads NoChild no_child no_child_reads in
    elim h.1 [
      | inl k ↦ rw (reads.again [] tag b more (inl (k.0, (refl, k.1)))) refl
      | inr k ↦ rw (reads.again [] tag b more (inr k)) refl
    ]

version_takes : (tag : Tag) (bytes rest : List ℕ) → version_of tag bytes ≡ Some rest → (b : List ℕ) × Behind (Is []) (White ▸ Is (60 ∷ 47 ∷ [])) tag b × (bytes ≡ b ++ rest)
unfolding NoChild
version_takes tag bytes rest e =
    let reads = elements_reads NoChild no_child no_child_reads in
    let m = bind_some (elements no_child tag bytes) (λ x. Some x.1) rest e in
    let t = reads.takes tag bytes m.0.0 m.0.1 m.1 in
    let same : m.0.1 ≡ rest = some_is m.0.1 rest m.2 in
    (t.0, empty m.0.0 t.0 t.1, t.2 ∙ ap (λ (l : List ℕ). t.0 ++ l) same)
  where
    several : (vs : List (Unit {0})) (c : List ℕ) → Several (λ v. White ▸ Element (NoChild v)) (λ _. White ▸ Is (60 ∷ 47 ∷ [])) vs (tt {0}) c → (White ▸ Is (60 ∷ 47 ∷ [])) c
    several [] c h = h
    several (v ∷ vs) c h = absurd h.first.second.spelled.second

    empty : (vs : List (Unit {0})) (b : List ℕ) → SpellsElements NoChild vs tag b → Behind (Is []) (White ▸ Is (60 ∷ 47 ∷ [])) tag b
    empty vs b (inl h) = inl (h.0, h.1.1)
    empty vs b (inr h) = inr (h.0, record { front = h.1.front; back = h.1.back; first = several vs h.1.front h.1.first; second = h.1.second; bytes_are = h.1.bytes_are })

-- ---- Body, Envelope, document

body_again : (rs : List RawRequest) (b more : List ℕ) → SpellsBody rs b → body_at (b ++ more) ≡ Some (rs, more)
unfolding body_at
body_again rs b more (inl h) =
    let tag = h.second.tag in
    let other : is_named (codes "RequestVersion") tag ≡ false = rw h.second.spelled.second.0 refl in
    rw (open_again (SpellsCollection rs) b more h, other) (requests_read.again rs tag h.second.spelled.back more h.second.spelled.second)
body_again rs b more (inr h) =
    let version = h.first.second in
    let named : is_named (codes "RequestVersion") version.tag ≡ true = ap (λ (l : List ℕ). bytes_eq l (codes "RequestVersion")) version.spelled.second.0 ∙ bytes_same (codes "RequestVersion") in
    let second = h.second.second in
    rw (regroup b more h, open_again SpellsVersion h.front (h.back ++ more) h.first, named, version_again version.tag version.spelled.back (h.back ++ more) version.spelled.second, open_again (SpellsCollection rs) h.back more h.second)
    (requests_read.again rs second.tag second.spelled.back more second.spelled.second)

body_takes_by : (bytes : List ℕ) (tag : Tag) (behind : List ℕ) (t : Bool) (rs : List RawRequest) (rest : List ℕ) → open_at bytes ≡ Some (tag, behind) → is_named (codes "RequestVersion") tag ≡ t → body_from tag behind t ≡ Some (rs, rest)
    → (b : List ℕ) × SpellsBody rs b × (bytes ≡ b ++ rest)
body_takes_by bytes tag behind false rs rest o n e =
    let w = open_takes bytes tag behind o in
    let t = requests_read.takes tag behind rs rest e in
    (w.0 ++ (w.1 ++ t.0), inl (made (SpellsCollection rs) tag w.0 w.1 t.0 w.2 w.3 t.1), w.4 ∙ ap (λ (l : List ℕ). w.0 ++ (w.1 ++ l)) t.2 ∙ (simp append_assoc))
body_takes_by bytes tag behind true rs rest o n e =
    let w = open_takes bytes tag behind o in
    let v = bind_some (version_of tag behind) (λ r. open_at r >>= λ second. collection_of second.0 second.1) (rs, rest) e in
    let s = bind_some (open_at v.0) (λ second. collection_of second.0 second.1) (rs, rest) v.2 in
    let x = version_takes tag behind v.0 v.1 in
    let y = open_takes v.0 s.0.0 s.0.1 s.1 in
    let t = requests_read.takes s.0.0 s.0.1 rs rest s.2 in
    let named = bytes_eq_true tag.name.local (codes "RequestVersion") n in
    let front = made SpellsVersion tag w.0 w.1 x.0 w.2 w.3 (named, x.1) in
    let back = made (SpellsCollection rs) s.0.0 y.0 y.1 t.0 y.2 y.3 t.1 in
    let both : ((White ▸ Element SpellsVersion) ▸ White ▸ Element (SpellsCollection rs)) ((w.0 ++ (w.1 ++ x.0)) ++ (y.0 ++ (y.1 ++ t.0))) = record { front = w.0 ++ (w.1 ++ x.0); back = y.0 ++ (y.1 ++ t.0); first = front; second = back; bytes_are = refl } in (
      (w.0 ++ (w.1 ++ x.0)) ++ (y.0 ++ (y.1 ++ t.0)),
      inr both,
      w.4 ∙ ap (λ (l : List ℕ). w.0 ++ (w.1 ++ l)) (x.2 ∙ ap (λ (l : List ℕ). x.0 ++ l) (y.4 ∙ ap (λ (l : List ℕ). y.0 ++ (y.1 ++ l)) t.2)) ∙ (simp append_assoc),
    )

body_reads : ReadsInner SpellsBody body_at
unfolding body_at
body_reads = record {
  again = body_again;
  takes = λ bytes rs rest e.
      let o = bind_some (open_at bytes) (λ first. body_from first.0 first.1 (is_named (codes "RequestVersion") first.0)) (rs, rest) e in
      body_takes_by bytes o.0.0 o.0.1 (is_named (codes "RequestVersion") o.0.0) rs rest o.1 refl o.2;
}

envelope_again : (rs : List RawRequest) (b more : List ℕ) → SpellsEnvelope rs b → envelope_at (b ++ more) ≡ Some (rs, more)
unfolding envelope_at
envelope_again rs b more h =
    rw (open_again (Holding (codes "Body") (SpellsBody rs)) b more h) (holding_again (codes "Body") SpellsBody body_at body_reads rs h.second.tag h.second.spelled.back more h.second.spelled.second)

envelope_takes : (bytes : List ℕ) (rs : List RawRequest) (rest : List ℕ) → envelope_at bytes ≡ Some (rs, rest) → (b : List ℕ) × SpellsEnvelope rs b × (bytes ≡ b ++ rest)
unfolding envelope_at
envelope_takes bytes rs rest e =
    let o = bind_some (open_at bytes) (λ body. holding (codes "Body") body_at body.0 body.1) (rs, rest) e in
    let w = open_takes bytes o.0.0 o.0.1 o.1 in
    let t = holding_takes (codes "Body") SpellsBody body_at body_reads o.0.0 o.0.1 rs rest o.2 in
    (w.0 ++ (w.1 ++ t.0), made (Holding (codes "Body") (SpellsBody rs)) o.0.0 w.0 w.1 t.0 w.2 w.3 t.1, w.4 ∙ ap (λ (l : List ℕ). w.0 ++ (w.1 ++ l)) t.2 ∙ (simp append_assoc))

envelope_grammars : ReadsInner SpellsEnvelope envelope_at
envelope_grammars = record { again = envelope_again; takes = envelope_takes }

pub document_again : (rs : List RawRequest) (text : List ℕ) → SpellsDocument rs text → document_at text ≡ Some rs
unfolding document_at
document_again rs text h =
    let element = h.first.second in
    let all : text ≡ h.front ++ h.back = h.bytes_are in
    rw (all, open_again (Holding (codes "Envelope") (SpellsEnvelope rs)) h.front h.back h.first, holding_again (codes "Envelope") SpellsEnvelope envelope_at envelope_grammars rs element.tag element.spelled.back h.back element.spelled.second, run_len-all is_white h.back h.second, eqb_same (length h.back)) refl

pub document_takes : (text : List ℕ) (rs : List RawRequest) → document_at text ≡ Some rs → SpellsDocument rs text
unfolding document_at
document_takes text rs e =
    let o = bind_some (open_at text) (λ envelope. holding (codes "Envelope") envelope_at envelope.0 envelope.1 >>= whole) rs e in
    let m = bind_some (holding (codes "Envelope") envelope_at o.0.0 o.0.1) whole rs o.2 in
    let g = guard_some (eqb (run_len is_white m.0.1) (length m.0.1)) (Some m.0.0) rs m.2 in
    let same : m.0.0 ≡ rs = some_is m.0.0 rs g.1 in
    let w = open_takes text o.0.0 o.0.1 o.1 in
    let t = holding_takes (codes "Envelope") SpellsEnvelope envelope_at envelope_grammars o.0.0 o.0.1 m.0.0 m.0.1 m.1 in
    let white : White m.0.1 = every_from_run is_white m.0.1 (eqb-true _ _ g.0) in
    let front = made (Holding (codes "Envelope") (SpellsEnvelope m.0.0)) o.0.0 w.0 w.1 t.0 w.2 w.3 t.1 in
    let parts : text ≡ (w.0 ++ (w.1 ++ t.0)) ++ m.0.1 = w.4 ∙ ap (λ (l : List ℕ). w.0 ++ (w.1 ++ l)) t.2 ∙ (simp append_assoc) in
    subst (λ (x : List RawRequest). SpellsDocument x text) same (record { front = w.0 ++ (w.1 ++ t.0); back = m.0.1; first = front; second = white; bytes_are = parts })

-- ---- the clauses

text_takes : (text : List ℕ) (rs : List RawRequest) → text_at text ≡ Some rs → IsEnvelopeText rs text
unfolding text_at
text_takes text rs e =
    let g = guard_some (is_utf8 text) (past_declaration (past_mark text) >>= document_at) rs e in
    let m = bind_some (past_declaration (past_mark text)) document_at rs g.1 in
    let mark = mark_takes text in
    let front = declaration_takes (past_mark text) m.0 m.1 in
    let behind : (Declaration ▸ SpellsDocument rs) (past_mark text) = record { front = front.0; back = m.0; first = front.1; second = document_takes m.0 rs m.2; bytes_are = front.2 } in
    record { utf8 = IsUtf8-from_is_utf8 text g.0; spelled = record { front = mark.0; back = past_mark text; first = mark.1; second = behind; bytes_are = mark.2 } }

question_is_none : (r : List ℕ) → document_at (60 ∷ 63 ∷ r) ≡ None
unfolding document_at open_at tag_at name_at word_at
question_is_none r = refl

mark_is_none : (r : List ℕ) → document_at (239 ∷ r) ≡ None
unfolding document_at open_at
mark_is_none r = refl

not_both : {A B : Type 0} (o : Option A) (x : A) → o ≡ Some x → o ≡ None → B
not_both o x some none = absurd cc

undeclared_by : (bytes : List ℕ) (rs : List RawRequest) (o : Option (List ℕ)) → document_at bytes ≡ Some rs → past_word (codes "<?xml") bytes ≡ o → declaration_from bytes o ≡ Some bytes
undeclared_by bytes rs None d e = refl
undeclared_by bytes rs (Some r) d e =
    let is : bytes ≡ 60 ∷ 63 ∷ (120 ∷ 109 ∷ 108 ∷ r) = word_takes (codes "<?xml") bytes r e in
    not_both (document_at bytes) rs d (ap document_at is ∙ question_is_none (120 ∷ 109 ∷ 108 ∷ r))

undeclared : (bytes : List ℕ) (rs : List RawRequest) → document_at bytes ≡ Some rs → past_declaration bytes ≡ Some bytes
unfolding past_declaration
undeclared bytes rs d = undeclared_by bytes rs (past_word (codes "<?xml") bytes) d refl

behind_again : (bytes : List ℕ) (rs : List RawRequest) → (Declaration ▸ SpellsDocument rs) bytes → (past_declaration bytes >>= document_at) ≡ Some rs
behind_again bytes rs h =
    elim h.first [
      | inl none ↦
          let is : bytes ≡ h.back = h.bytes_are ∙ ap (λ (l : List ℕ). l ++ h.back) none in
          let d = document_again rs h.back h.second in
          rw (is, undeclared h.back rs d) d
      | inr declared ↦ rw (h.bytes_are, declared_again h.front h.back declared) (document_again rs h.back h.second)
    ]

unmarked_by : (bytes : List ℕ) (rs : List RawRequest) (o : Option (List ℕ)) → (Declaration ▸ SpellsDocument rs) bytes → past_word (239 ∷ 187 ∷ 191 ∷ []) bytes ≡ o → or_all bytes o ≡ bytes
unmarked_by bytes rs None h e = refl
unmarked_by bytes rs (Some r) h e =
    let is : bytes ≡ 239 ∷ 187 ∷ 191 ∷ r = word_takes (239 ∷ 187 ∷ 191 ∷ []) bytes r e in
    elim h.first [
      | inl none ↦
          let same : h.back ≡ 239 ∷ 187 ∷ 191 ∷ r = sym (h.bytes_are ∙ ap (λ (l : List ℕ). l ++ h.back) none) ∙ is in
          not_both (document_at h.back) rs (document_again rs h.back h.second) (ap document_at same ∙ mark_is_none (187 ∷ 191 ∷ r))
      | inr declared ↦
          let starts : h.front ++ h.back ≡ 60 ∷ (63 ∷ 120 ∷ 109 ∷ 108 ∷ (declared.back ++ h.back)) = ap (λ (l : List ℕ). l ++ h.back) (declared.bytes_are ∙ ap (λ (l : List ℕ). l ++ declared.back) declared.first) in
          let same : 239 ∷ 187 ∷ 191 ∷ r ≡ 60 ∷ (63 ∷ 120 ∷ 109 ∷ 108 ∷ (declared.back ++ h.back)) = sym is ∙ h.bytes_are ∙ starts in
          absurd (false≢true (ap (begins (λ c. eqb c 60)) same))
    ]

text_again : (text : List ℕ) (rs : List RawRequest) → IsEnvelopeText rs text → text_at text ≡ Some rs
unfolding text_at
text_again text rs h =
    let utf8 : is_utf8 text ≡ true = is_utf8-from_IsUtf8 text h.utf8 in
    let s = h.spelled in
    let behind = behind_again s.back rs s.second in
    let mark : past_mark text ≡ s.back = elim s.first [
      | inl none ↦
          let is : text ≡ s.back = s.bytes_are ∙ ap (λ (l : List ℕ). l ++ s.back) none in
          ap past_mark is ∙ unmarked_by s.back rs (past_word (239 ∷ 187 ∷ 191 ∷ []) s.back) s.second refl
      | inr mark ↦
          let is : text ≡ 239 ∷ 187 ∷ 191 ∷ s.back = s.bytes_are ∙ ap (λ (l : List ℕ). l ++ s.back) mark in
          ap past_mark is
    ] in
    rw (utf8, mark) behind

pub is_found : (text : List ℕ) (r : Result (List RawRequest) ReadFault) → Gives (λ x. x) r (text_at text) → IfOk r (λ rs. IsEnvelopeText rs text)
is_found text (Ok rs) given = text_takes text rs given
is_found text (Err fault) given = tt

pub is_only : (text : List ℕ) (r : Result (List RawRequest) ReadFault) → Gives (λ x. x) r (text_at text) → (rs : List RawRequest) → IsEnvelopeText rs text → Gives (λ x. x) r (Some rs)
is_only text r given rs h = subst (λ (o : Option (List RawRequest)). Gives (λ x. x) r o) (text_again text rs h) given

pub is_refused : (text : List ℕ) (r : Result (List RawRequest) ReadFault) → Gives (λ x. x) r (text_at text) → r ≡ Err faults.NotInGrammar → (rs : List RawRequest) → ¬ IsEnvelopeText rs text
is_refused text r given e rs h =
    let here : Gives (λ (x : List RawRequest). x) (Err faults.NotInGrammar) (Some rs) = subst (λ (q : Result (List RawRequest) ReadFault). Gives (λ x. x) q (Some rs)) e (is_only text r given rs h) in
    absurd cc

-- ---- the laws

pub one_tree : (text : List ℕ) (one other : List RawRequest) → IsEnvelopeText one text → IsEnvelopeText other text → one ≡ other
one_tree text one other h k = some_is one other (sym (text_again text one h) ∙ text_again text other k)

pub grammar_is_read : (text : List ℕ) (rs : List RawRequest) → IsEnvelopeText rs text ↔ (text_at text ≡ Some rs)
grammar_is_read text rs = (text_again text rs, text_takes text rs)
