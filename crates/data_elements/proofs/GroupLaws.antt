-- What is read of a group is the objects that its halves say, or where the first object that isn't in its form starts.
use Rattle.std.proofs.Common.{◌≡◌, ◌⊎◌, ℕ, Bool, true, false, List, [], ◌∷◌, ◌++◌, map, Option, Some, None, Result, Ok, inl, inr, refl, sym, ap, subst, ◌∙◌, append_assoc, arith}
use Rattle.std.specs.Prelude.{is_some, ◌||◌, ◌==◌, option_map}
use Rattle.std.specs.List.{AllByRecursion, flat_map}
use Rattle.std.proofs.lemmas.Bool.{cases_Bool, or_cases, eqb-true}
use Rattle.std.proofs.lemmas.Bool.Decides.{eqb_tells}
use Rattle.std.proofs.lemmas.List.{append-nil}
use Rattle.compact_values.specs.declared.guid.Guid.{Guid}
use Rattle.compact_values.specs.declared.ids.ExGuid.{ExGuid}
use Rattle.compact_values.specs.declared.ids.ExGuid.TheVariants.{Null, Id}
use Rattle.compact_values.specs.declared.ids.Serial.{Serial}
use Rattle.compact_values.specs.declared.ids.CellId.{CellId}
use Rattle.compact_values.proofs.LittleEndian.{IsBytes}
use Rattle.stream_objects.specs.declared.tree.Tree.{Tree}
use Rattle.stream_objects.specs.declared.tree.Tree.TheViews.{out-Tree}
use Rattle.stream_objects.specs.Objects.{Each, kind_of, is_kind, start_of, children_of}
use Rattle.stream_objects.specs.ObjectFields.{single}
use Rattle.stream_objects.specs.Gathering.{and_then}
use Rattle.stream_objects.proofs.Children.{single_some, single_none}
use Rattle.doc_model.specs.wire.ElementObjects.{ElementFields, BlobDeclaration, BlobReference}
use Rattle.doc_model.specs.wire.Groups.{declarations_in, data_in, SaysContent, EachPair, SaysGroup, Agrees, EachAgrees, HalvesAgree}
use Rattle.doc_model.specs.wire.Elements.{SaysBody}
use Rattle.doc_model.specs.readers.ElementSites.{has_place, child_sites, members_in, ChildInForm, MemberInForm, KindInForm}
use Rattle.doc_model.specs.declared.element.Object.{Object}
use Rattle.doc_model.specs.declared.element.Content.{Content}
use Rattle.doc_model.specs.declared.element.Content.TheVariants.{Inline, Apart}
use Rattle.doc_model.specs.declared.element.Body.{Body}
use Rattle.doc_model.specs.declared.element.Body.TheVariants.{Group}
use Rattle.data_elements.specs.declared.group.Carrier.{Carrier}
use Rattle.data_elements.specs.declared.group.Carrier.TheVariants as carriers
use Rattle.data_elements.specs.declared.group.Declaration.{Declaration}
use Rattle.data_elements.specs.Rows.{declaration_row, declared_row, data_row, reference_row, child_ok, member_ok}
use Rattle.data_elements.specs.Checking.{check_members, child_fault, check_at, or_broken, collect_from}
use Rattle.data_elements.specs.GroupReading.{carrier_of, blob_of, named_blob, carrier_at, same_id, carrier_agrees, carriers_agree, declaration_of, blob_declaration_of, declaration_at, inline_object, apart_object, object_at, objects_from, objects_at, halves_agree, group_of, halves_at, group_at}
use Rattle.data_elements.proofs.RowLaws.{no_fields_again, ok_declarations, ok_data_of}
use Rattle.data_elements.proofs.MemberLaws.{declaration_again, declared_found, declared_again, data_again, reference_found, reference_again, ok_blob_declaration, ok_object_data, ok_declaration, ok_blob_reference}
use Rattle.data_elements.proofs.Carriers.{second_half}
use Rattle.data_elements.proofs.CheckLaws.{filter_all, Own, Holds, holds, JudgesBody, by_children, not_itself, AllOk, each_ok, either_ok, check_none}

-- ---- ids

same_when : (a b : ExGuid) → same_id a b ≡ true → a ≡ b
same_when Null Null e = refl
same_when Null (Id h w) e = absurd cc
same_when (Id g v) Null e = absurd cc
same_when (Id g v) (Id h w) e =
    elim (cases_Bool (g.number == h.number)) [
      | inl y ↦
          elim (cases_Bool (v == w)) [
            | inl z ↦ made g h v w (eqb-true g.number h.number y) (eqb-true v w z)
            | inr n ↦ let bad = rw (y, n) at e in absurd cc
          ]
      | inr n ↦ let bad = rw n at e in absurd cc
    ] where
      made : (g h : Guid) (v w : ℕ) → g.number ≡ h.number → v ≡ w → Id g v ≡ Id h w
      made g h v w a b = ap (λ (n : ℕ). Id (record { number = n }) v) a ∙ ap (λ (n : ℕ). Id h n) b

same_self : (a : ExGuid) → same_id a a ≡ true
same_self Null = refl
same_self (Id g v) =
    elim (eqb_tells g.number g.number) [
      | inl y ↦
          elim (eqb_tells v v) [
            | inl z ↦ rw (y.0, z.0) refl
            | inr n ↦ absurd (n.1 refl)
          ]
      | inr n ↦ absurd (n.1 refl)
    ]

same_ids : (a b : ExGuid) → a ≡ b → same_id a b ≡ true
same_ids a b e = subst (λ (x : ExGuid). same_id a x ≡ true) e (same_self a)

-- ---- the types of what the halves hold

abbrev IsDeclaration : Tree → Type 0
IsDeclaration d = (kind_of d ≡ 0x18) ⊎ (kind_of d ≡ 0x05)

abbrev IsData : Tree → Type 0
IsData e = (kind_of e ≡ 0x16) ⊎ (kind_of e ≡ 0x1C)

either_kind : (j k : ℕ) (c : Tree) → (is_kind j c || is_kind k c) ≡ true → (kind_of c ≡ j) ⊎ (kind_of c ≡ k)
either_kind j k c e = elim (or_cases (is_kind j c) (is_kind k c) e) [ inl y ↦ inl (eqb-true (kind_of c) j y) | inr y ↦ inr (eqb-true (kind_of c) k y) ]

all_either : (j k : ℕ) (cs : List Tree) → AllByRecursion (λ c. (is_kind j c || is_kind k c) ≡ true → (kind_of c ≡ j) ⊎ (kind_of c ≡ k)) cs
all_either j k [] = tt
all_either j k (c ∷ cs) = (either_kind j k c, all_either j k cs)

declarations_are : (t : Tree) → AllByRecursion IsDeclaration (declarations_in t)
declarations_are t = filter_all (λ c. is_kind 0x18 c || is_kind 0x05 c) IsDeclaration (out-Tree t).children (all_either 0x18 0x05 (out-Tree t).children)

data_are : (t : Tree) → AllByRecursion IsData (data_in t)
data_are t = filter_all (λ c. is_kind 0x16 c || is_kind 0x1C c) IsData (out-Tree t).children (all_either 0x16 0x1C (out-Tree t).children)

module _ (input : List ℕ) (fits : IsBytes input) where
  -- ---- carriers

  inline_18 : (d : Tree) → kind_of d ≡ 0x18 → carrier_at input d ≡ carriers.Inline
  unfolding carrier_at
  inline_18 d e = rw e refl

  inline_16 : (d : Tree) → kind_of d ≡ 0x16 → carrier_at input d ≡ carriers.Inline
  unfolding carrier_at
  inline_16 d e = rw e refl

  link_05 : (d : Tree) → kind_of d ≡ 0x05 → carrier_at input d ≡ carrier_of (option_map blob_of (declared_row input d))
  unfolding carrier_at
  link_05 d e = rw e refl

  link_1C : (d : Tree) → kind_of d ≡ 0x1C → carrier_at input d ≡ carrier_of (option_map named_blob (reference_row input d))
  unfolding carrier_at
  link_1C d e = rw e refl

  -- what is apart is never inline
  not_inline : (o : Option ExGuid) → carrier_agrees carriers.Inline (carrier_of o) ≡ false
  not_inline (Some b) = refl
  not_inline None = refl

  never_inline : (o : Option ExGuid) → carrier_agrees (carrier_of o) carriers.Inline ≡ false
  never_inline (Some b) = refl
  never_inline None = refl

  -- two blobs agree where they are the same, as far as they are read
  blobs_when : (o p : Option ExGuid) → carrier_agrees (carrier_of o) (carrier_of p) ≡ true → (b c : ExGuid) → o ≡ Some b → p ≡ Some c → b ≡ c
  blobs_when (Some x) (Some y) e b c f g = let same = same_when x y e in cc
  blobs_when None p e b c f g = absurd cc
  blobs_when (Some x) None e b c f g = absurd cc

  blobs_agree : (o p : Option ExGuid) → ((b c : ExGuid) → o ≡ Some b → p ≡ Some c → b ≡ c) → carrier_agrees (carrier_of o) (carrier_of p) ≡ true
  blobs_agree (Some x) (Some y) h = same_ids x y (h x y refl refl)
  blobs_agree None (Some y) h = refl
  blobs_agree (Some x) None h = refl
  blobs_agree None None h = refl

  abbrev SameCarrier : Tree → Tree → Type 0
  SameCarrier d e = carrier_agrees (carrier_at input d) (carrier_at input e) ≡ true

  blob_is : (d : Tree) (id blob : ExGuid) (partition size : ℕ) → BlobDeclaration input d id blob partition size → option_map blob_of (declared_row input d) ≡ Some blob
  blob_is d id blob partition size h = ap (option_map blob_of) (declared_again input fits d id blob partition size h)

  named_is : (e : Tree) (references : List ExGuid) (cells : List CellId) (named : ExGuid) → BlobReference input e references cells named → option_map named_blob (reference_row input e) ≡ Some named
  named_is e references cells named h = ap (option_map named_blob) (reference_again input fits e references cells named h)

  same_carrier : (d e : Tree) → IsDeclaration d → IsData e → SameCarrier d e → Agrees input d e
  same_carrier d e (inl k) (inl m) l = record { with_data = λ y. m; with_blob = λ y. absurd (omega (arith, k, y)); same_blob = λ y. absurd (omega (arith, k, y)) }
  same_carrier d e (inl k) (inr m) l =
      let no : SameCarrier d e → false ≡ true = λ x. sym (ap (λ (n : Carrier). carrier_agrees carriers.Inline n) (link_1C e m) ∙ not_inline (option_map named_blob (reference_row input e))) ∙ sym (ap (λ (n : Carrier). carrier_agrees n (carrier_at input e)) (inline_18 d k)) ∙ x in
      let bad = no l in absurd cc
  same_carrier d e (inr k) (inl m) l =
      let no : SameCarrier d e → false ≡ true = λ x. sym (ap (λ (n : Carrier). carrier_agrees n carriers.Inline) (link_05 d k) ∙ never_inline (option_map blob_of (declared_row input d))) ∙ sym (ap (λ (n : Carrier). carrier_agrees (carrier_at input d) n) (inline_16 e m)) ∙ x in
      let bad = no l in absurd cc
  same_carrier d e (inr k) (inr m) l = record {
    with_data = λ y. absurd (omega (arith, k, y));
    with_blob = λ y. m;
    same_blob = λ y id blob partition size h references cells named g.
        blobs_when (option_map blob_of (declared_row input d)) (option_map named_blob (reference_row input e))
        (sym (ap (λ (n : Carrier). carrier_agrees n (carrier_of (option_map named_blob (reference_row input e)))) (link_05 d k)) ∙ sym (ap (λ (n : Carrier). carrier_agrees (carrier_at input d) n) (link_1C e m)) ∙ l)
        blob named (blob_is d id blob partition size h) (named_is e references cells named g);
  }

  option_value : {A B : Type 0} (f : A → B) (o : Option A) (b : B) → option_map f o ≡ Some b → (a : A) × (o ≡ Some a) × (f a ≡ b)
  option_value f (Some a) b e = (a, refl, cc)
  option_value f None b e = absurd cc

  agreed : (d e : Tree) → IsDeclaration d → IsData e → Agrees input d e → SameCarrier d e
  agreed d e (inl k) m h = ap (λ (n : Carrier). carrier_agrees n (carrier_at input e)) (inline_18 d k) ∙ ap (λ (n : Carrier). carrier_agrees carriers.Inline n) (inline_16 e (h.with_data k))
  agreed d e (inr k) m h =
      let g = h.with_blob k in
      ap (λ (n : Carrier). carrier_agrees n (carrier_at input e)) (link_05 d k) ∙ ap (λ (n : Carrier). carrier_agrees (carrier_of (option_map blob_of (declared_row input d))) n) (link_1C e g)
      ∙ blobs_agree (option_map blob_of (declared_row input d)) (option_map named_blob (reference_row input e)) (λ b c f i.
      let x = option_value blob_of (declared_row input d) b f in
      let y = option_value named_blob (reference_row input e) c i in
      let same = h.same_blob k x.0.0 x.0.1.0 x.0.1.1.0 x.0.1.1.1 (declared_found input fits d x.0 x.1) y.0.0 y.0.1.0 y.0.1.1 (reference_found input fits e y.0 y.1) in
      sym x.2 ∙ same ∙ y.2)

  abbrev SameCarriers : List Tree → List Tree → Bool
  SameCarriers ds es = carriers_agree (map (carrier_at input) ds) (map (carrier_at input) es)

  same_carriers : (ds es : List Tree) → AllByRecursion IsDeclaration ds → AllByRecursion IsData es → SameCarriers ds es ≡ true → EachAgrees input ds es
  same_carriers [] [] p q l = tt
  same_carriers [] (e ∷ es) p q l = absurd cc
  same_carriers (d ∷ ds) [] p q l = absurd cc
  same_carriers (d ∷ ds) (e ∷ es) p q l =
      elim (cases_Bool (carrier_agrees (carrier_at input d) (carrier_at input e))) [
        | inl y ↦ (same_carrier d e p.0 q.0 y, same_carriers ds es p.1 q.1 (rw y at l))
        | inr n ↦ let bad = rw n at l in absurd cc
      ]

  all_agreed : (ds es : List Tree) → AllByRecursion IsDeclaration ds → AllByRecursion IsData es → EachAgrees input ds es → SameCarriers ds es ≡ true
  all_agreed [] [] p q h = refl
  all_agreed [] (e ∷ es) p q h = absurd h
  all_agreed (d ∷ ds) [] p q h = absurd h
  all_agreed (d ∷ ds) (e ∷ es) p q h = rw (agreed d e p.0 q.0 h.0) (all_agreed ds es p.1 q.1 h.1)

  -- ---- the objects

  declaration_18 : (d : Tree) → kind_of d ≡ 0x18 → declaration_at input d ≡ option_map declaration_of (declaration_row input d)
  unfolding declaration_at
  declaration_18 d e = rw e refl

  declaration_05 : (d : Tree) → kind_of d ≡ 0x05 → declaration_at input d ≡ option_map blob_declaration_of (declared_row input d)
  unfolding declaration_at
  declaration_05 d e = rw e refl

  object_16 : (v : Declaration) (e : Tree) → kind_of e ≡ 0x16 → object_at input v e ≡ option_map (inline_object v) (data_row input e)
  unfolding object_at
  object_16 v e k = rw k refl

  object_1C : (v : Declaration) (e : Tree) → kind_of e ≡ 0x1C → object_at input v e ≡ option_map (apart_object v) (reference_row input e)
  unfolding object_at
  object_1C v e k = rw k refl

  abbrev Says : Tree → Tree → Object → Type 0
  Says d e o = SaysContent input d e o o.content

  -- what a declaration and data that are in form and agree say
  record Paired (d e : Tree) : Type 0 where
    declared : Declaration
    object : Object
    first : declaration_at input d ≡ Some declared
    second : object_at input declared e ≡ Some object
    says : Says d e object

  paired : (d e : Tree) → IsDeclaration d → Agrees input d e → MemberInForm input d → MemberInForm input e → Paired d e
  paired d e (inl k) a m n =
      let g = a.with_data k in
      let x = m.declaration k in
      let y = n.object_data g in
      let v : Declaration = record { id = x.0; partition = x.1; size = x.2 } in
      record {
        declared = v;
        object = record { id = x.0; partition = x.1; size = x.2; references = y.0; cells = y.1; content = Inline y.2 };
        first = declaration_18 d k ∙ ap (option_map declaration_of) (declaration_again input fits d x.0 x.1 x.2 x.3);
        second = object_16 v e g ∙ ap (option_map (inline_object v)) (data_again input fits e y.0 y.1 y.2 y.3);
        says = (k, g, x.3, y.3);
      }
  paired d e (inr k) a m n =
      let g = a.with_blob k in
      let x = m.blob_declaration k in
      let y = n.blob_reference g in
      let v : Declaration = record { id = x.0; partition = x.2; size = x.3 } in
      let same = a.same_blob k x.0 x.1 x.2 x.3 x.4 y.0 y.1 y.2 y.3 in
      record {
        declared = v;
        object = record { id = x.0; partition = x.2; size = x.3; references = y.0; cells = y.1; content = Apart y.2 };
        first = declaration_05 d k ∙ ap (option_map blob_declaration_of) (declared_again input fits d x.0 x.1 x.2 x.3 x.4);
        second = object_1C v e g ∙ ap (option_map (apart_object v)) (reference_again input fits e y.0 y.1 y.2 y.3);
        says = (k, g, subst (λ (b : ExGuid). BlobDeclaration input d x.0 b x.2 x.3) same x.4, y.3);
      }

  -- declarations and data of these objects are read as them
  abbrev Reads : List Tree → List Tree → List Object → Type 0
  Reads ds es objects = (vs : List Declaration)
      × ((acc : List Declaration) → collect_from declaration_at input acc ds ≡ Ok (acc ++ vs))
      × ((acc : List Object) → objects_from input acc vs es ≡ Ok (acc ++ objects))

  reads_next : (d e : Tree) (ds es : List Tree) (v : Declaration) (o : Object) (os : List Object) → declaration_at input d ≡ Some v → object_at input v e ≡ Some o → Reads ds es os → Reads (d ∷ ds) (e ∷ es) (o ∷ os)
  reads_next d e ds es v o os f s r = (
    v ∷ r.0,
    λ acc. ap (λ (x : Option Declaration). and_then (or_broken (start_of d) x) (λ y. collect_from declaration_at input (acc ++ y ∷ []) ds)) f ∙ r.1 (acc ++ v ∷ []) ∙ ap Ok (append_assoc acc (v ∷ []) r.0),
    λ acc. ap (λ (x : Option Object). and_then (or_broken (start_of e) x) (λ y. objects_from input (acc ++ y ∷ []) r.0 es)) s ∙ r.2 (acc ++ o ∷ []) ∙ ap Ok (append_assoc acc (o ∷ []) os),
  )

  reads_none : Reads [] [] []
  reads_none = ([], λ acc. ap Ok (sym (append-nil acc)), λ acc. ap Ok (sym (append-nil acc)))

  record ReadPairs (ds es : List Tree) : Type 0 where
    objects : List Object
    reads : Reads ds es objects
    pairs : EachPair Says ds es objects

  pairs_read : (ds es : List Tree) → AllByRecursion IsDeclaration ds → EachAgrees input ds es → AllByRecursion (MemberInForm input) ds → AllByRecursion (MemberInForm input) es → ReadPairs ds es
  pairs_read [] [] p a m n = record { objects = []; reads = reads_none; pairs = tt }
  pairs_read [] (e ∷ es) p a m n = absurd a
  pairs_read (d ∷ ds) [] p a m n = absurd a
  pairs_read (d ∷ ds) (e ∷ es) p a m n =
      let one = paired d e p.0 a.0 m.0 n.0 in
      let rest = pairs_read ds es p.1 a.1 m.1 n.1 in
      record {
        objects = one.object ∷ rest.objects;
        reads = reads_next d e ds es one.declared one.object rest.objects one.first one.second rest.reads;
        pairs = (one.says, rest.pairs);
      }

  objects_read : (declarations data_of : Tree) (objects : List Object) → Reads (declarations_in declarations) (data_in data_of) objects → objects_at input declarations data_of ≡ Ok objects
  objects_read declarations data_of objects r = ap (λ (x : Result (List Declaration) ℕ). and_then x (λ ds. objects_from input [] ds (data_in data_of))) (r.1 []) ∙ r.2 []

  -- ---- a group

  kinds : (k : ℕ) (cs : List Tree) → AllByRecursion (λ c. is_kind k c ≡ true → kind_of c ≡ k) cs
  kinds k [] = tt
  kinds k (c ∷ cs) = (λ y. eqb-true (kind_of c) k y, kinds k cs)

  kind_one : (k : ℕ) (t c : Tree) → children_of k t ≡ c ∷ [] → kind_of c ≡ k
  kind_one k t c one =
      let all : AllByRecursion (λ (x : Tree). kind_of x ≡ k) (c ∷ []) =
      subst (λ (l : List Tree). AllByRecursion (λ (x : Tree). kind_of x ≡ k) l) one (filter_all (is_kind k) (λ (x : Tree). kind_of x ≡ k) (out-Tree t).children (kinds k (out-Tree t).children)) in
      all.0

  first_half : (t : Tree) → kind_of t ≡ 0x1D → members_in t ≡ declarations_in t
  first_half t e = rw e refl

  place_1D : (c : Tree) → kind_of c ≡ 0x1D → has_place 5 c ≡ true
  place_1D c e = rw e refl

  place_1E : (c : Tree) → kind_of c ≡ 0x1E → has_place 5 c ≡ true
  place_1E c e = rw e refl

  abbrev Both : Tree → Type 0
  Both c = ChildInForm input c × AllByRecursion (MemberInForm input) (members_in c)

  both_of : (k : ℕ) → ((c : Tree) → kind_of c ≡ k → has_place 5 c ≡ true) → (cs : List Tree) → AllByRecursion (Holds input fits) cs → AllByRecursion (λ c. is_kind k c ≡ true → Both c) cs
  both_of k place [] h = tt
  both_of k place (c ∷ cs) h = (λ y. h.0 (place c (eqb-true (kind_of c) k y)), both_of k place cs h.1)

  half_holds : (k : ℕ) (t c : Tree) → ((x : Tree) → kind_of x ≡ k → has_place 5 x ≡ true) → children_of k t ≡ c ∷ [] → AllByRecursion (Holds input fits) (out-Tree t).children → Both c
  half_holds k t c place one h =
      let all : AllByRecursion Both (c ∷ []) = subst (λ (l : List Tree). AllByRecursion Both l) one (filter_all (is_kind k) Both (out-Tree t).children (both_of k place (out-Tree t).children h)) in
      all.0

  group_form : (t d h : Tree) → children_of 0x1D t ≡ d ∷ [] → children_of 0x1E t ≡ h ∷ [] → halves_agree input d h ≡ true → KindInForm input 5 t
  group_form t d h one two l = record {
    known = inr (inr (inr (inr (inl refl))));
    storage = λ e. absurd (omega arith);
    cell = λ e. absurd (omega arith);
    revision = λ e. absurd (omega arith);
    group = λ e. record {
      declarations = d;
      data_of = h;
      one_declarations = one;
      one_data = two;
      agree = same_carriers (declarations_in d) (data_in h) (declarations_are d) (data_are h) l;
    };
    blob = λ e. absurd (omega arith);
  }

  only_two : (c d : Tree) → c ∷ [] ≡ d ∷ [] → c ≡ d
  only_two c d e = cc

  do_agree : (t d h : Tree) → children_of 0x1D t ≡ d ∷ [] → children_of 0x1E t ≡ h ∷ [] → HalvesAgree input t → halves_agree input d h ≡ true
  do_agree t d h one two g =
      let first = only_two g.declarations d (sym g.one_declarations ∙ one) in
      let second = only_two g.data_of h (sym g.one_data ∙ two) in
      let l = all_agreed (declarations_in g.declarations) (data_in g.data_of) (declarations_are g.declarations) (data_are g.data_of) g.agree in
      subst (λ (x : Tree). halves_agree input x h ≡ true) first (subst (λ (y : Tree). halves_agree input g.declarations y ≡ true) second l)

  pub judges_group : (t : Tree) (id : ExGuid) (serial : Serial) → ElementFields input t id serial 5 → JudgesBody input fits t 5 (group_at input t)
  unfolding group_at
  judges_group t id serial has = go (single (children_of 0x1D t)) refl (single (children_of 0x1E t)) refl where
    read : (d h : Tree) → children_of 0x1D t ≡ d ∷ [] → children_of 0x1E t ≡ h ∷ [] → halves_agree input d h ≡ true
        → AllByRecursion (Own input fits) (flat_map (child_sites 5) (out-Tree t).children) → (body : Body) × (group_of (objects_at input d h) ≡ Ok body) × SaysBody input t 5 body
    read d h one two y own =
        let all = holds input fits (out-Tree t).children own in
        let p = half_holds 0x1D t d place_1D one all in
        let q = half_holds 0x1E t h place_1E two all in
        let k = kind_one 0x1D t d one in
        let l = kind_one 0x1E t h two in
        let m = subst (λ (ts : List Tree). AllByRecursion (MemberInForm input) ts) (first_half d k) p.1 in
        let n = subst (λ (ts : List Tree). AllByRecursion (MemberInForm input) ts) (second_half h l) q.1 in
        let r = pairs_read (declarations_in d) (data_in h) (declarations_are d) (same_carriers (declarations_in d) (data_in h) (declarations_are d) (data_are h) y) m n in (
          Group r.objects,
          ap group_of (objects_read d h r.objects r.reads),
          (
            refl,
            record {
              declarations = d;
              data_of = h;
              one_declarations = one;
              one_data = two;
              declarations_form = p.0.declarations k;
              data_form = q.0.data_of l;
              pairs = r.pairs;
            },
          ),
        )

    go : (s : Option Tree) → single (children_of 0x1D t) ≡ s → (r : Option Tree) → single (children_of 0x1E t) ≡ r → JudgesBody input fits t 5 (halves_at input t s r)
    go None e r f = not_itself input fits t id serial 5 has (λ k. single_none (children_of 0x1D t) e (k.group refl).declarations (k.group refl).one_declarations)
    go (Some d) e None f = not_itself input fits t id serial 5 has (λ k. single_none (children_of 0x1E t) f (k.group refl).data_of (k.group refl).one_data)
    go (Some d) e (Some h) f =
        let one = single_some (children_of 0x1D t) d e in
        let two = single_some (children_of 0x1E t) h f in
        elim (cases_Bool (halves_agree input d h)) [
          | inl y ↦ rw y (by_children input fits t id serial 5 has (group_form t d h one two y) (group_of (objects_at input d h)) (read d h one two y))
          | inr n ↦ rw n (not_itself input fits t id serial 5 has (λ k. let agree = do_agree t d h one two (k.group refl) in absurd cc))
        ]

  -- ---- a group in form is read

  says_agrees : (d e : Tree) (o : Object) (c : Content) → SaysContent input d e o c → Agrees input d e
  says_agrees d e o (Inline bytes) s = record { with_data = λ y. s.1; with_blob = λ y. absurd (omega (arith, s.0, y)); same_blob = λ y. absurd (omega (arith, s.0, y)) }
  says_agrees d e o (Apart blob) s = record {
    with_data = λ y. absurd (omega (arith, s.0, y));
    with_blob = λ y. s.1;
    same_blob = λ y id other partition size h references cells named g.
        let a = blob_is d id other partition size h in
        let b = blob_is d o.id blob o.partition o.size s.2 in
        let x = named_is e references cells named g in
        let z = named_is e o.references o.cells blob s.3 in
        cc;
  }

  says_read : (d e : Tree) (o : Object) (c : Content) → SaysContent input d e o c
      → (v : Declaration) × (declaration_at input d ≡ Some v) × (object_at input v e ≡ Some (record { id = o.id; partition = o.partition; size = o.size; references = o.references; cells = o.cells; content = c }))
  says_read d e o (Inline bytes) s =
      let v : Declaration = record { id = o.id; partition = o.partition; size = o.size } in (
        v,
        declaration_18 d s.0 ∙ ap (option_map declaration_of) (declaration_again input fits d o.id o.partition o.size s.2),
        object_16 v e s.1 ∙ ap (option_map (inline_object v)) (data_again input fits e o.references o.cells bytes s.3),
      )
  says_read d e o (Apart blob) s =
      let v : Declaration = record { id = o.id; partition = o.partition; size = o.size } in (
        v,
        declaration_05 d s.0 ∙ ap (option_map blob_declaration_of) (declared_again input fits d o.id blob o.partition o.size s.2),
        object_1C v e s.1 ∙ ap (option_map (apart_object v)) (reference_again input fits e o.references o.cells blob s.3),
      )

  says_ok : (d e : Tree) (o : Object) (c : Content) → SaysContent input d e o c → (member_ok input d ≡ true) × (member_ok input e ≡ true)
  says_ok d e o (Inline bytes) s = (
    ok_declaration input fits d s.0 ∙ ap is_some (declaration_again input fits d o.id o.partition o.size s.2),
    ok_object_data input fits e s.1 ∙ ap is_some (data_again input fits e o.references o.cells bytes s.3),
  )
  says_ok d e o (Apart blob) s = (
    ok_blob_declaration input fits d s.0 ∙ ap is_some (declared_again input fits d o.id blob o.partition o.size s.2),
    ok_blob_reference input fits e s.1 ∙ ap is_some (reference_again input fits e o.references o.cells blob s.3),
  )

  -- what holds of pairs in form
  record InPairs (ds es : List Tree) (os : List Object) : Type 0 where
    agree : EachAgrees input ds es
    reads : Reads ds es os
    first : check_members input ds ≡ None
    second : check_members input es ≡ None

  in_pairs : (ds es : List Tree) (os : List Object) → EachPair Says ds es os → InPairs ds es os
  in_pairs [] [] [] p = record { agree = tt; reads = reads_none; first = refl; second = refl }
  in_pairs [] [] (o ∷ os) p = absurd p
  in_pairs [] (e ∷ es) os p = absurd p
  in_pairs (d ∷ ds) [] os p = absurd p
  in_pairs (d ∷ ds) (e ∷ es) [] p = absurd p
  in_pairs (d ∷ ds) (e ∷ es) (o ∷ os) p =
      let rest = in_pairs ds es os p.1 in
      let v = says_read d e o o.content p.0 in
      let ok = says_ok d e o o.content p.0 in
      record {
        agree = (says_agrees d e o o.content p.0, rest.agree);
        reads = reads_next d e ds es v.0 o os v.1 v.2 rest.reads;
        first = rw ok.0 rest.first;
        second = rw ok.1 rest.second;
      }

  half_fine : (c : Tree) → child_ok input c ≡ true → check_members input (members_in c) ≡ None → child_fault input 5 c ≡ None
  unfolding child_fault
  half_fine c y n = rw (y, n) refl

  one_fine : (k : ℕ) (t c : Tree) → children_of k t ≡ c ∷ [] → child_fault input 5 c ≡ None → AllOk input fits 5 (is_kind k) (out-Tree t).children
  one_fine k t c one f =
      each_ok input fits {V = Unit {0}} 5 k (λ x v. child_fault input 5 x ≡ None) (λ x v y h. h) (out-Tree t).children (tt ∷ [])
      (subst (λ (l : List Tree). Each (λ (x : Tree) (v : Unit {0}). child_fault input 5 x ≡ None) l (tt ∷ [])) (sym one) (f, tt))

  pub again_group : (t : Tree) (objects : List Object) → SaysGroup input t objects → group_at input t ≡ Ok (Group objects)
  unfolding group_at
  again_group t objects s =
      let d = s.declarations in
      let h = s.data_of in
      let k = kind_one 0x1D t d s.one_declarations in
      let l = kind_one 0x1E t h s.one_data in
      let p = in_pairs (declarations_in d) (data_in h) objects s.pairs in
      let agree : halves_agree input d h ≡ true = all_agreed (declarations_in d) (data_in h) (declarations_are d) (data_are h) p.agree in
      let a = half_fine d (ok_declarations input fits d k ∙ no_fields_again input fits d s.declarations_form) (ap (check_members input) (first_half d k) ∙ p.first) in
      let b = half_fine h (ok_data_of input fits h l ∙ no_fields_again input fits h s.data_form) (ap (check_members input) (second_half h l) ∙ p.second) in
      let none : check_at input 5 (out-Tree t).children ≡ None =
      check_none input fits 5 (out-Tree t).children (either_ok input fits 5 (is_kind 0x1D) (is_kind 0x1E) (out-Tree t).children (one_fine 0x1D t d s.one_declarations a) (one_fine 0x1E t h s.one_data b)) in
      ap (λ (x : Option Tree). halves_at input t x (single (children_of 0x1E t))) (ap single s.one_declarations) ∙ ap (λ (x : Option Tree). halves_at input t (Some d) x) (ap single s.one_data)
      ∙ rw (agree, none) (ap group_of (objects_read d h objects p.reads))
