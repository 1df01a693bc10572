use Rattle.std.proofs.Common.{sym, ap, ◌∙◌, ◌++◌, List}
use Rattle.envelope_grammar.specs.declared.raw.Payload.{Payload}
use Rattle.envelope_grammar.specs.Grammar.{present}
use Rattle.envelope_grammar.proofs.Loops.{found_list, present_none, first_found, second_found}
use Rattle.envelope_grammar.proofs.elements.at_most_one.Goals as goal

pub returns-then-is_some : goal.returns-then-is_some
returns-then-is_some c =
    let e = rw c.in-Some-part.is at c.in-Some.ensures.items in
    second_found c.parts.parts.items c.pop.new.self.items c.in-Some-part.payload c.parts.found (present c.args.parts) e c.if-is_some.ensures c.parts.invariant

pub parts-preserved-in-Some-part : goal.parts-preserved-in-Some-part
parts-preserved-in-Some-part c =
    let e = rw c.in-Some-part.is at c.in-Some.ensures.items in
    first_found c.parts.parts.items c.pop.new.self.items c.in-Some-part.payload c.parts.found (present c.args.parts) e c.if-is_some.ensures c.parts.invariant

pub parts-preserved : goal.parts-preserved
parts-preserved c =
    let e = rw c.in_default-part.is at c.in-Some.ensures.items in
    ap (λ (l : List Payload). l ++ found_list c.parts.found) (sym (present_none c.parts.parts.items c.pop.new.self.items e)) ∙ c.parts.invariant
