use Rattle.std.proofs.Common.{◌≡◌, ℕ, Ok, Err, refl, arith}
use Rattle.data_elements.specs.declared.fault.ElementFault.{ElementFault}
use Rattle.data_elements.specs.declared.fault.ElementFault.TheVariants as faults
use Rattle.data_elements.specs.Answers.{Gives}
use Rattle.std.specs.Prelude.{Result}
use Rattle.doc_model.specs.declared.element.Element.{Element}
use Rattle.change_record.proofs.FrontElements.{element_is}
use Rattle.change_record.proofs.elements.element_of.Goals as goal

no_fault : {P : Type 0} (e : Element) (fault : ElementFault) (read : Result Element ℕ) → (fault ≡ faults.NoMemory → ⊥) → Gives (Err fault) read → read ≡ Ok e → P
no_fault e (faults.SchemaFault place) read other g is = absurd cc
no_fault e faults.NoMemory read other g is = absurd (other refl)
no_fault e faults.TooMany read other g is = absurd g

pub returns-in-Ok : goal.returns-in-Ok
returns-in-Ok c = λ e w is spelled.
    let there = element_is e c.args.bytes.now c.args.tree.now (λ i. omega (arith, c.type_inv.bytes i)) w is spelled in
    let read = c.in-Ok.ensures in
    cc

pub returns-else-element_lacks_memory : goal.returns-else-element_lacks_memory
returns-else-element_lacks_memory c = λ e w is spelled.
    let there = element_is e c.args.bytes.now c.args.tree.now (λ i. omega (arith, c.type_inv.bytes i)) w is spelled in
    no_fault e c.in-Err.fault _ (λ same. let t = c.element_lacks_memory.ensures.1 same in cc) c.in-Err.ensures there
