-- Elements that the tests call equal are equal, and each is equal to itself.
use Rattle.std.proofs.Common.{◌≡◌, refl, sym, ◌∙◌, ap, subst, Bool, true, false, ◌&&◌, List, [], ◌∷◌, nat_eq}
use Rattle.std.specs.Prelude.{bytes_eq, IsTrue, ◌↔◌}
use Rattle.std.specs.Cmp.Lexicographic.{pointwise}
use Rattle.std.specs.Bool.{one_answer}
use Rattle.compact_values.specs.declared.ids.Serial.{Serial}
use Rattle.compact_values.specs.declared.ids.Serial.TheVariants as serial
use Rattle.compact_values.specs.SameIds.{same_guid, same_id, same_serial, same_cell}
use Rattle.compact_values.proofs.SameIds.{both, number, reflexive, guid-same, id-same, cell-same, same-guid, same-id, same-cell}
use Rattle.doc_model.specs.declared.element.Body.{Body}
use Rattle.doc_model.specs.declared.element.Body.TheVariants.{Index, Storage, Cell, Revision, Group, Blob}
use Rattle.doc_model.specs.declared.element.Content.{Content}
use Rattle.doc_model.specs.declared.element.Content.TheVariants.{Inline, Apart}
use Rattle.doc_model.specs.rules.Contents.{same_manifest_map, same_cell_map, same_revision_map, same_root, same_revision_root, same_content, same_object, same_body}

-- a test that tells equal values, and only those
pub record Exact {X : Type 0} (test : X → X → Bool) : Type 0 where
  pub equal : (x y : X) → test x y ≡ true → x ≡ y
  pub same : (x : X) → test x x ≡ true

pub and-true : (a b : Bool) → a ≡ true → b ≡ true → (a && b) ≡ true
and-true true b p q = q
and-true false b p q = p

module _ {X : Type 0} {test : X → X → Bool} (e : Exact test) where
  lists-equal : (xs ys : List X) → pointwise test xs ys ≡ true → xs ≡ ys
  lists-equal [] [] h = refl
  lists-equal [] (y ∷ ys) h = cc
  lists-equal (x ∷ xs) [] h = cc
  lists-equal (x ∷ xs) (y ∷ ys) h =
      let t = both (test x y) (pointwise test xs ys) h in
      let p = e.equal x y t.0 in
      let q = lists-equal xs ys t.1 in
      cc

  lists-same : (xs : List X) → pointwise test xs xs ≡ true
  lists-same [] = refl
  lists-same (x ∷ xs) = and-true (test x x) (pointwise test xs xs) (e.same x) (lists-same xs)

  pub exact-list : Exact (pointwise test)
  exact-list = record { equal = lists-equal; same = lists-same }

-- through a function that forgets nothing, from two tests of its parts
pub exact-via : {X A B : Type 0} {s : A → A → Bool} {t : B → B → Bool} (f : X → A) (g : X → B) (back : A → B → X) → ((x : X) → back (f x) (g x) ≡ x)
    → Exact s → Exact t → Exact (λ x y. s (f x) (f y) && t (g x) (g y))
exact-via {s = s} {t = t} f g back law es et = record {
  equal = λ x y h.
      let p = both (s (f x) (f y)) (t (g x) (g y)) h in
      sym (law x) ∙ ap (λ a. back a (g x)) (es.equal (f x) (f y) p.0) ∙ ap (back (f y)) (et.equal (g x) (g y) p.1) ∙ law y;
  same = λ x. and-true (s (f x) (f x)) (t (g x) (g x)) (es.same (f x)) (et.same (g x));
}

pub exact-number : Exact nat_eq
exact-number = record { equal = number; same = reflexive }

pub exact-id : Exact same_id
exact-id = record { equal = id-same; same = same-id }

pub exact-cell : Exact same_cell
exact-cell = record { equal = cell-same; same = same-cell }

pub exact-guid : Exact same_guid
exact-guid = record { equal = guid-same; same = same-guid }

pub exact-pair : {A B : Type 0} {s : A → A → Bool} {t : B → B → Bool} → Exact s → Exact t → Exact (λ (p q : A × B). s p.0 q.0 && t p.1 q.1)
exact-pair es et = exact-via (λ p. p.0) (λ p. p.1) (λ a b. (a, b)) (λ p. refl) es et

serial-equal : (a b : Serial) → same_serial a b ≡ true → a ≡ b
serial-equal serial.Null serial.Null h = refl
serial-equal serial.Null (serial.Number g v) h = cc
serial-equal (serial.Number g v) serial.Null h = cc
serial-equal (serial.Number g v) (serial.Number k w) h =
    let t = both (same_guid g k) (nat_eq v w) h in
    let e = guid-same g k t.0 in
    let f = number v w t.1 in
    cc

serial-same : (a : Serial) → same_serial a a ≡ true
serial-same serial.Null = refl
serial-same (serial.Number g v) = and-true (same_guid g g) (nat_eq v v) (same-guid g) (reflexive v)

pub exact-serial : Exact same_serial
exact-serial = record { equal = serial-equal; same = serial-same }

exact-manifest-map : Exact same_manifest_map
exact-manifest-map = exact-via (λ m. m.target) (λ m. m.serial) (λ a b. record { target = a; serial = b }) (λ m. refl) exact-id exact-serial

exact-cell-map : Exact same_cell_map
exact-cell-map =
    exact-via (λ m. (m.cell, m.target)) (λ m. m.serial) (λ a b. record { cell = a.0; target = a.1; serial = b }) (λ m. refl)
    (exact-pair exact-cell exact-id) exact-serial

exact-revision-map : Exact same_revision_map
exact-revision-map =
    exact-via (λ m. (m.revision, m.target)) (λ m. m.serial) (λ a b. record { revision = a.0; target = a.1; serial = b }) (λ m. refl)
    (exact-pair exact-id exact-id) exact-serial

exact-root : Exact same_root
exact-root = exact-via (λ r. r.root) (λ r. r.cell) (λ a b. record { root = a; cell = b }) (λ r. refl) exact-id exact-cell

exact-revision-root : Exact same_revision_root
exact-revision-root = exact-via (λ r. r.root) (λ r. r.object) (λ a b. record { root = a; object = b }) (λ r. refl) exact-id exact-id

pub exact-bytes : Exact bytes_eq
exact-bytes = exact-list exact-number

content-equal : (a b : Content) → same_content a b ≡ true → a ≡ b
content-equal (Inline b) (Inline c) h = ap Inline (exact-bytes.equal b c h)
content-equal (Inline b) (Apart c) h = cc
content-equal (Apart b) (Inline c) h = cc
content-equal (Apart b) (Apart c) h = ap Apart (exact-id.equal b c h)

content-same : (a : Content) → same_content a a ≡ true
content-same (Inline b) = exact-bytes.same b
content-same (Apart b) = exact-id.same b

exact-content : Exact same_content
exact-content = record { equal = content-equal; same = content-same }

exact-object : Exact same_object
exact-object =
    exact-via (λ o. (((((o.id, o.partition), o.size), o.references), o.cells))) (λ o. o.content)
    (λ a b. record { id = a.0.0.0.0; partition = a.0.0.0.1; size = a.0.0.1; references = a.0.1; cells = a.1; content = b }) (λ o. refl)
    (exact-pair (exact-pair (exact-pair (exact-pair exact-id exact-number) exact-number) (exact-list exact-id)) (exact-list exact-cell)) exact-content

body-equal : (a b : Body) → same_body a b ≡ true → a ≡ b
body-equal (Index a0 a1 a2) (Index b0 b1 b2) h = ap (λ p. Index p.0.0 p.0.1 p.1) ((exact-pair (exact-pair (exact-list exact-manifest-map) (exact-list exact-cell-map)) (exact-list exact-revision-map)).equal ((a0, a1), a2) ((b0, b1), b2) h)
body-equal (Index a0 a1 a2) (Storage b0 b1) h = cc
body-equal (Index a0 a1 a2) (Cell b0) h = cc
body-equal (Index a0 a1 a2) (Revision b0 b1 b2 b3) h = cc
body-equal (Index a0 a1 a2) (Group b0) h = cc
body-equal (Index a0 a1 a2) (Blob b0) h = cc
body-equal (Storage a0 a1) (Index b0 b1 b2) h = cc
body-equal (Storage a0 a1) (Storage b0 b1) h = ap (λ p. Storage p.0 p.1) ((exact-pair exact-guid (exact-list exact-root)).equal (a0, a1) (b0, b1) h)
body-equal (Storage a0 a1) (Cell b0) h = cc
body-equal (Storage a0 a1) (Revision b0 b1 b2 b3) h = cc
body-equal (Storage a0 a1) (Group b0) h = cc
body-equal (Storage a0 a1) (Blob b0) h = cc
body-equal (Cell a0) (Index b0 b1 b2) h = cc
body-equal (Cell a0) (Storage b0 b1) h = cc
body-equal (Cell a0) (Cell b0) h = ap (λ p. Cell p) (exact-id.equal a0 b0 h)
body-equal (Cell a0) (Revision b0 b1 b2 b3) h = cc
body-equal (Cell a0) (Group b0) h = cc
body-equal (Cell a0) (Blob b0) h = cc
body-equal (Revision a0 a1 a2 a3) (Index b0 b1 b2) h = cc
body-equal (Revision a0 a1 a2 a3) (Storage b0 b1) h = cc
body-equal (Revision a0 a1 a2 a3) (Cell b0) h = cc
body-equal (Revision a0 a1 a2 a3) (Revision b0 b1 b2 b3) h = ap (λ p. Revision p.0.0.0 p.0.0.1 p.0.1 p.1) ((exact-pair (exact-pair (exact-pair exact-id exact-id) (exact-list exact-revision-root)) (exact-list exact-id)).equal (((a0, a1), a2), a3) (((b0, b1), b2), b3) h)
body-equal (Revision a0 a1 a2 a3) (Group b0) h = cc
body-equal (Revision a0 a1 a2 a3) (Blob b0) h = cc
body-equal (Group a0) (Index b0 b1 b2) h = cc
body-equal (Group a0) (Storage b0 b1) h = cc
body-equal (Group a0) (Cell b0) h = cc
body-equal (Group a0) (Revision b0 b1 b2 b3) h = cc
body-equal (Group a0) (Group b0) h = ap (λ p. Group p) ((exact-list exact-object).equal a0 b0 h)
body-equal (Group a0) (Blob b0) h = cc
body-equal (Blob a0) (Index b0 b1 b2) h = cc
body-equal (Blob a0) (Storage b0 b1) h = cc
body-equal (Blob a0) (Cell b0) h = cc
body-equal (Blob a0) (Revision b0 b1 b2 b3) h = cc
body-equal (Blob a0) (Group b0) h = cc
body-equal (Blob a0) (Blob b0) h = ap (λ p. Blob p) (exact-bytes.equal a0 b0 h)

body-same : (a : Body) → same_body a a ≡ true
body-same (Index a0 a1 a2) = (exact-pair (exact-pair (exact-list exact-manifest-map) (exact-list exact-cell-map)) (exact-list exact-revision-map)).same ((a0, a1), a2)
body-same (Storage a0 a1) = (exact-pair exact-guid (exact-list exact-root)).same (a0, a1)
body-same (Cell a0) = exact-id.same a0
body-same (Revision a0 a1 a2 a3) = (exact-pair (exact-pair (exact-pair exact-id exact-id) (exact-list exact-revision-root)) (exact-list exact-id)).same (((a0, a1), a2), a3)
body-same (Group a0) = (exact-list exact-object).same a0
body-same (Blob a0) = exact-bytes.same a0

pub exact-body : Exact same_body
exact-body = record { equal = body-equal; same = body-same }

-- what tells whether two bodies are equal is what the test answers
pub told : (a b : Body) (r : Bool) → (IsTrue r ↔ (a ≡ b)) → r ≡ same_body a b
told a b r h = one_answer r (same_body a b) h (exact-body.equal a b, λ e. subst (λ (x : Body). same_body a x ≡ true) e (exact-body.same a))
