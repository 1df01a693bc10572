use Rattle.std.proofs.Common.{◌≡◌, drop}
use Rattle.doc_model.specs.readers.ResponseSites.{comes_first}
use Rattle.wire_responses.proofs.sub_response.comes_first.Given as goal

abbrev pub invariant-loop-tree : goal.invariant-loop-tree
invariant-loop-tree l = comes_first l.one l.other (drop l.tree-index l.trees) ≡ comes_first l.one l.other l.trees
