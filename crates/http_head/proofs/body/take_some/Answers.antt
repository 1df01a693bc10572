use Rattle.std.proofs.Common.{ap, ◌∙◌}
use Rattle.http_head.specs.Bodies.{counted, chunked}
use Rattle.http_head.proofs.Goings.{Goes-counted_run, Goes-chunked_run}
use Rattle.http_head.proofs.body.take_some.Goals as goal

pub returns-in-Counted-clause-goes : goal.returns-in-Counted-clause-goes
returns-in-Counted-clause-goes c =
    Goes-counted_run _ _ c.in-Counted.left _ _ _ _ c.args.rest.now c.in-Counted.is c.run_length-run.ensures.some
    c.run_length-run.ensures.within c.run_length-run.ensures.left c.append_run.ensures.items
    (c.counted.ensures ∙ ap counted c.saturating_sub.ensures)

pub returns-in-Chunk-clause-goes : goal.returns-in-Chunk-clause-goes
returns-in-Chunk-clause-goes c =
    Goes-chunked_run _ _ c.in-Chunk.left _ _ _ _ c.args.rest.now c.in-Chunk.is c.run_length-run-in-Chunk.ensures.some
    c.run_length-run-in-Chunk.ensures.within c.run_length-run-in-Chunk.ensures.left c.append_run-in-Chunk.ensures.items
    (c.chunked.ensures ∙ ap chunked c.saturating_sub-in-Chunk.ensures)
