-- How many bytes the objects of a written element take.
use Rattle.std.proofs.Common.{◌≡◌, ℕ, ◌+◌, ◌≤◌, Bool, true, List, [], ◌++◌, length, refl, sym, ap, ◌∙◌, arith}
use Rattle.std.specs.List.{flat_map}
use Rattle.std.proofs.lemmas.Bool.Decides.{nat_tests}
use Rattle.std.proofs.lemmas.List.{length-append}
use Rattle.stream_objects.specs.Written.{started, compound_object}
use Rattle.stream_objects.specs.Headers.{end_bytes, end_form}
use Rattle.doc_model.specs.rules.Weights.{started_size}
use Rattle.doc_model.specs.wire.WrittenElements.{declaration_bytes, data_bytes, declarations_bytes, datas_bytes, kind_number}
use Rattle.doc_model.specs.declared.element.Object.{Object}
use Rattle.doc_model.specs.declared.element.Body.{Body}
use Rattle.doc_model.specs.declared.element.Body.TheVariants.{Index, Storage, Cell, Revision, Group, Blob}
use Rattle.compact_values.specs.Compact.{compact}

pub length_started : (kind : ℕ) (compound : Bool) (fields : List ℕ) → kind ≤ 63 → length (started kind compound fields) ≡ started_size (length fields)
unfolding started
length_started kind compound fields k = grind (arith, nat_tests, length-append)

-- the same, where the length of the fields and of the object are known under other names
pub sized : (kind : ℕ) (compound : Bool) (fields : List ℕ) (n r : ℕ) → kind ≤ 63 → n ≡ length fields → r ≡ started_size n → r ≡ length (started kind compound fields)
sized kind compound fields n r k e f = f ∙ ap started_size e ∙ sym (length_started kind compound fields k)

pub length_three : (x y z : List ℕ) → length (x ++ y ++ z) ≡ length x + length y + length z
length_three x y z = omega (arith, length-append (x ++ y) z, length-append x y)

-- a compound object of a type of six bits, which has an end of one byte
pub length_compound : (kind : ℕ) (fields children : List ℕ) → kind ≤ 63 → length (compound_object kind fields children) ≡ started_size (length fields) + length children + 1
length_compound kind fields children k =
    let e = end_bytes (end_form kind) kind in
    let one : length e ≡ 1 = grind (arith, nat_tests) in
    omega (arith, length-append (started kind true fields) (children ++ e), length-append children e, length_started kind true fields k, one)

pub length_declarations : (objects : List Object) → length (declarations_bytes objects) ≡ 2 + length (flat_map declaration_bytes objects) + 1
unfolding declarations_bytes
length_declarations objects = length_compound 0x1D [] (flat_map declaration_bytes objects) (omega arith)

pub length_datas : (objects : List Object) → length (datas_bytes objects) ≡ 2 + length (flat_map data_bytes objects) + 1
unfolding datas_bytes
length_datas objects = length_compound 0x1E [] (flat_map data_bytes objects) (omega arith)

pub length_kind : (body : Body) → length (compact (kind_number body)) ≡ 1
length_kind (Index manifests cells revisions) = refl
length_kind (Storage schema roots) = refl
length_kind (Cell current) = refl
length_kind (Revision id base roots groups) = refl
length_kind (Group objects) = refl
length_kind (Blob bytes) = refl
