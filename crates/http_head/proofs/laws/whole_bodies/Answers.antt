use Rattle.http_head.proofs.Bodies.{length_found, length_holds, chunks_found, chunks_hold, refused_stays}
use Rattle.http_head.proofs.laws.whole_bodies.Goals as goal

pub returns : goal.returns
returns c = record {
  length = λ n used bytes body. (length_found n used bytes body, length_holds n used bytes body);
  chunks = λ used bytes body. (chunks_found used bytes body, chunks_hold used bytes body);
  refused = λ framing bytes more body t status used. refused_stays framing bytes more body t status used;
}
