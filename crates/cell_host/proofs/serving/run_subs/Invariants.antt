use Rattle.std.proofs.Common.{◌≡◌, ◌++◌, drop}
use Rattle.cell_host.specs.Serving.{answers_of}
use Rattle.cell_host.proofs.serving.run_subs.Given as goal

-- the answers so far, and those to come on the document as it is now
abbrev pub invariant-loop-sub : goal.invariant-loop-sub
invariant-loop-sub g l = record {
  answered : l.answers ++ answers_of l.moment l.elements (g.C.Core.doc l.core) (drop l.sub-index l.subs) ≡ answers_of l.moment l.elements (g.C.Core.doc l.fn.core) l.subs;
}
