use Rattle.change_record.proofs.FrontElements.{found_is, not_found}
use Rattle.change_record.proofs.elements.front_tree.Goals as goal

pub returns-in-Ok-clause-again : goal.returns-in-Ok-clause-again
returns-in-Ok-clause-again c = λ e rest w is. found_is e rest c.args.bytes.now w is c.in-Ok.found c.in-Ok.ensures.found

pub returns-else-tree_lacks_memory-clause-again : goal.returns-else-tree_lacks_memory-clause-again
returns-else-tree_lacks_memory-clause-again c = λ e rest w is.
    not_found e rest c.args.bytes.now w is c.in-Err.fault (λ same. let t = c.tree_lacks_memory.ensures.1 same in cc) c.in-Err.ensures.found
