use Rattle.std.proofs.Common.{◌≡◌, ℕ, List, [], ◌-◌, ◌++◌, length, eqb, refl, ap, sym, subst, ◌∙◌}
use Rattle.std.specs.Result.{OnOk}
use Rattle.std.proofs.lemmas.List.{append-nil}
use Rattle.compact_values.specs.declared.ids.ExGuid.{ExGuid}
use Rattle.file_nodes.specs.Links.{file_from}
use Rattle.file_nodes.proofs.Joins.{nothing_from, absent_from, childless_from, leaf_from, node_from, file_more, file_end}
use Rattle.file_nodes.proofs.join.+append_file.Goals as goal

nothing : (out file : List ℕ) → file ≡ [] → out ≡ out ++ file
nothing out file e = sym (ap (λ (l : List ℕ). out ++ l) e ∙ append-nil out)

pub returns-then-levels-eq0 : goal.returns-then-levels-eq0
returns-then-levels-eq0 t c = nothing _ _ (nothing_from c.args.objects.now c.args.children.now c.args.levels c.args.place c.if-levels-eq0.true)

pub returns-in_default : goal.returns-in_default
returns-in_default t c = nothing _ _ (absent_from c.args.objects.now c.args.children.now c.args.levels c.args.place c.if-levels-eq0.false c.in_default.ensures.lookup.3)

pub returns-in_default-get : goal.returns-in_default-get
returns-in_default-get t c =
    nothing _ _ (childless_from c.args.objects.now c.args.children.now c.args.levels c.args.place c.if-levels-eq0.false c.in-Some.object.now c.in-Some.ensures.lookup.3.0 c.in-Some.ensures.lookup.1 c.in_default-get.ensures.lookup.3)

pub returns-then-is_empty : goal.returns-then-is_empty
returns-then-is_empty t c =
    let leaf = leaf_from c.args.objects.now c.args.children.now c.args.levels c.args.place c.if-levels-eq0.false c.in-Some.object.now c.in-Some.ensures.lookup.3.0 c.in-Some.ensures.lookup.1
    c.in-Some-get.places.now c.in-Some-get.ensures.lookup.3.0 c.in-Some-get.ensures.lookup.1 (sym (c.if-is_empty.ensures ∙ ap (λ (ids : List ExGuid). eqb (length ids) 0) c.references.ensures)) in
    subst (λ (l : List ℕ). OnOk c.extend_from_slice.result (c.extend_from_slice.new.self ≡ c.args.out.now ++ l)) (c.bytes.ensures ∙ sym leaf) c.extend_from_slice.ensures.ok

pub loop-child-init : goal.loop-child-init
loop-child-init t c = refl

pub loop-child-preserved : goal.loop-child-preserved
loop-child-preserved t c =
    file_more (file_from c.args.objects.now c.args.children.now (c.args.levels - 1)) c.as_slice-child-items.result.now c.loop-child.child-index c.loop-child.out c.append_file.new.out _
    c.loop-child-test.true c.in_ok-append_file.ensures c.loop-child.invariant

pub returns : goal.returns
returns t c =
    let node = node_from c.args.objects.now c.args.children.now c.args.levels c.args.place c.if-levels-eq0.false c.in-Some.object.now c.in-Some.ensures.lookup.3.0 c.in-Some.ensures.lookup.1
    c.in-Some-get.places.now c.in-Some-get.ensures.lookup.3.0 c.in-Some-get.ensures.lookup.1 (sym (c.if-is_empty.ensures ∙ ap (λ (ids : List ExGuid). eqb (length ids) 0) c.references.ensures)) in
    file_end (file_from c.args.objects.now c.args.children.now (c.args.levels - 1)) c.as_slice-child-items.result.now c.in-Some-get.places.now c.loop-child.child-index c.loop-child.out c.args.out.now _
    c.loop-child-test.false c.loop-child.auto.child-index-end c.as_slice-child-items.ensures node c.loop-child.invariant
