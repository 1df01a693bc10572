use Rattle.std.proofs.Common.{◌≡◌, ◌∙◌, sym, ap, subst, refl, List, ℕ, Contains}
use Rattle.document_store.specs.MemStores.{StoreState}
use Rattle.document_store.proofs.mem_store.MemStore.count_call.Goals as goal

pub returns-then-is_listed-clause-listed : goal.returns-then-is_listed-clause-listed
returns-then-is_listed-clause-listed c =
    let listed = c.is_listed.ensures.0 c.if-is_listed.true in
    let fail : c.deref.result.now ≡ c.args.self.now.fail = c.deref.ensures.value ∙ ap (λ (s : StoreState). s.fail) c.self.view_is in
    let calls : c.self.inside.calls ≡ c.args.self.now.calls = ap (λ (s : StoreState). s.calls) c.self.view_is in
    (λ _. subst (λ (l : List ℕ). Contains l c.args.self.now.calls) fail (subst (λ (n : ℕ). Contains c.deref.result.now n) calls listed), λ _. refl)
