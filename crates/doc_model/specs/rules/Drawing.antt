-- Drawing numbers of extended GUIDs: the numbers that a document hands out are those behind the ones already drawn.
use Rattle.std.specs.Prelude.{ℕ, ◌+◌, ◌-◌, ◌^◌, Bool, true, ◌&&◌, nat_le, if◌then◌else◌}
use Rattle.doc_model.specs.declared.doc.Doc.{Doc}
use Rattle.doc_model.specs.declared.reply.Reply.TheVariants.{Drawn}
use Rattle.doc_model.specs.declared.reply.Code.TheVariants.{NotSupported}
use Rattle.doc_model.specs.rules.Effects.{Effect, refused}

-- the last number that may be drawn
abbrev pub last_number : ℕ
last_number = 2 ^ 32 - 1

-- 1 to 100,000 numbers may be drawn at once, while there are that many left
abbrev pub can_draw : Doc → ℕ → Bool
can_draw doc count = nat_le 1 count && nat_le count 100_000 && nat_le (doc.drawn + count) last_number

-- a draw of so many numbers. Refused, it takes none.
abbrev pub draw : Doc → ℕ → Effect
draw doc count =
    if can_draw doc count then record {
      doc = record doc { drawn = doc.drawn + count };
      reply = Drawn doc.guid (doc.drawn + 1) (doc.drawn + count);
      moved = true;
    }
    else refused doc NotSupported
