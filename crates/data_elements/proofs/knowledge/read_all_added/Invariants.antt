use Rattle.std.proofs.Common.{◌≡◌, drop}
use Rattle.stream_objects.specs.Gathering.{gather}
use Rattle.data_elements.specs.KnowledgeReading.{added_at}
use Rattle.data_elements.proofs.knowledge.read_all_added.Given as goal

abbrev pub invariant-loop-tree : goal.invariant-loop-tree
invariant-loop-tree l = gather (added_at l.bytes) l.ranges (drop l.tree-index l.trees) ≡ gather (added_at l.bytes) l.fn.ranges l.trees
