use Rattle.std.proofs.Common.{◌≡◌, ℕ, ◌+◌, ◌∷◌, ◌++◌, [], length, ap, ◌∙◌, arith}
use Rattle.compact_values.specs.Compact.{compact}
use Rattle.compact_values.specs.Ids.{exguid}
use Rattle.doc_model.specs.rules.Weights.{weight, started_size}
use Rattle.doc_model.specs.wire.WrittenElements.{element_bytes, body_bytes, kind_number}
use Rattle.doc_model.specs.declared.element.Element.{Element}
use Rattle.doc_model.proofs.SizeLemmas.{length_compound, length_three, length_kind}
use Rattle.doc_model.proofs.weighing.weight.Goals as goal

-- a kind takes one byte, and a null serial number one
weight_is : (e : Element) → weight e ≡ started_size (length (exguid e.id) + 2) + length (body_bytes e.body) + 1
unfolding weight element_bytes
weight_is e =
    let fields = exguid e.id ++ (0 ∷ []) ++ compact (kind_number e.body) in
    let len : length fields ≡ length (exguid e.id) + 2 = omega (arith, length_three (exguid e.id) (0 ∷ []) (compact (kind_number e.body)), length_kind e.body) in
    length_compound 1 fields (body_bytes e.body) (omega arith) ∙ ap (λ (n : ℕ). started_size n + length (body_bytes e.body) + 1) len

pub returns : goal.returns
returns c =
    let e = c.args.element.now in
    let head : c.started_size.result ≡ started_size (length (exguid e.id) + 2) = c.started_size.ensures ∙ ap (λ (n : ℕ). started_size (n + 2)) c.exguid_size.ensures.length in
    omega (arith, weight_is e, head, c.body_weight.ensures.length)
