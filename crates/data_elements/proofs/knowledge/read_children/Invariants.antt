use Rattle.std.proofs.Common.{◌≡◌, [], drop}
use Rattle.stream_objects.specs.Gathering.{gather}
use Rattle.data_elements.specs.KnowledgeReading.{specialized_at}
use Rattle.data_elements.proofs.knowledge.read_children.Given as goal

abbrev pub invariant-loop-tree : goal.invariant-loop-tree
invariant-loop-tree l = gather (specialized_at l.bytes) l.ranges (drop l.tree-index l.trees) ≡ gather (specialized_at l.bytes) [] l.trees
