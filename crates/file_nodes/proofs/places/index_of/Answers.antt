use Rattle.std.proofs.Common.{◌≡◌, ℕ, ◌+◌, ◌-◌, get_or, Some, drop, ap, ◌∙◌, arith}
use Rattle.std.specs.Prelude.{cond}
use Rattle.std.specs.BTreeMap.{get, is_at}
use Rattle.compact_values.specs.declared.ids.ExGuid.{ExGuid}
use Rattle.file_nodes.specs.Index.{key_of, key_cmp}
use Rattle.file_nodes.specs.Links.{place_of}
use Rattle.file_nodes.proofs.IndexSteps.{index_step}
use Rattle.file_nodes.proofs.places.index_of.Goals as goal

pub loop-left-preserved : goal.loop-left-preserved
loop-left-preserved c =
    let objects = c.args.objects.now in
    let i = c.loop-left.left - 1 in
    let own : c.id.result ≡ (get_or objects i c.index-objects-left.result).id = cc (c.id.ensures, c.index-objects-left.is) in
    let key : c.key_of.result ≡ key_of (get_or objects i c.index-objects-left.result).id = c.key_of.ensures ∙ ap (λ (id : ExGuid). key_of id) own in
    let next : c.loop-left.left ≡ i + 1 = omega arith in (
      omega arith,
      index_step objects i c.index-objects-left.result c.loop-left.index c.insert.new.self (omega arith)
          (λ q. c.in-Ok.ensures.updates.0 q ∙ ap (λ (k : ℕ × ℕ). cond (is_at (key_cmp k) q) (Some i) (get key_cmp c.loop-left.index q)) key)
          (λ id. c.loop-left.invariant.1 id ∙ ap (λ (n : ℕ). n + place_of (drop n objects) id) next),
    )
