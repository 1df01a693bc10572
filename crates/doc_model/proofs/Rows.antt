-- Small examples of the definitions, worked by computing.
use Rattle.std.proofs.Common.{◌≡◌, ℕ, refl, true, false, List, [], ◌∷◌, ◌++◌, map, take, Some, None}
use Rattle.compact_values.specs.declared.guid.Guid.{Guid}
use Rattle.compact_values.specs.declared.ids.ExGuid.{ExGuid}
use Rattle.compact_values.specs.declared.ids.ExGuid.TheVariants.{Null, Id}
use Rattle.compact_values.specs.declared.ids.Serial.TheVariants as serial
use Rattle.compact_values.specs.declared.ids.CellId.{CellId}
use Rattle.doc_model.specs.declared.element.Element.{Element}
use Rattle.doc_model.specs.declared.element.Body.TheVariants.{Index, Storage, Cell, Revision, Group}
use Rattle.doc_model.specs.declared.element.Content.TheVariants.{Inline}
use Rattle.doc_model.specs.declared.call.Put.{Put}
use Rattle.doc_model.specs.declared.doc.Doc.{Doc}
use Rattle.doc_model.specs.declared.knowledge.Range.{Range}
use Rattle.doc_model.specs.declared.lock.LockRecord.TheVariants.{Exclusive}
use Rattle.doc_model.specs.declared.reply.Reply.{Reply}
use Rattle.doc_model.specs.declared.reply.Reply.TheVariants as reply
use Rattle.doc_model.specs.declared.reply.Code.TheVariants as code
use Rattle.doc_model.specs.rules.Apply.{empty_doc}
use Rattle.doc_model.specs.rules.FileObjects.{file_below}
use Rattle.doc_model.specs.rules.Files.{file}
use Rattle.doc_model.specs.rules.Pulls.{pull}
use Rattle.doc_model.specs.rules.Puts.{put}
use Rattle.doc_model.specs.rules.Drawing.{last_number}
use Rattle.doc_model.specs.rules.Reached.{named_along, chain, absent, reached}
use Rattle.doc_model.specs.rules.Versions.{restore}
use Rattle.doc_model.specs.rules.Weights.{weight}
use Rattle.doc_model.specs.wire.WrittenElements.{element_bytes, body_bytes, declarations_bytes, declaration_bytes, datas_bytes, data_bytes}
use Rattle.stream_objects.specs.Written as written
use Rattle.wire_kinds.specs.Row.{row_bytes}

abbrev own : Guid
own = record { number = 7 }

abbrev id : ℕ → ExGuid
id n = Id own n

abbrev cell : CellId
cell = record { first = id 101; second = id 102 }

-- what a file without bytes is uploaded as: index, storage manifest, cell manifest, revision manifest, group
abbrev five : List Element
five =
    record {
      id = id 1;
      body = Index (record { target = id 2; serial = serial.Null } ∷ [])
          (record { cell = cell; target = id 3; serial = serial.Null } ∷ []) (record { revision = id 6; target = id 4; serial = serial.Null } ∷ []);
    }
    ∷ record { id = id 2; body = Storage own (record { root = id 103; cell = cell } ∷ []) }
    ∷ record { id = id 3; body = Cell (id 6) }
    ∷ record { id = id 4; body = Revision (id 6) Null (record { root = id 104; object = id 7 } ∷ []) (id 5 ∷ []) }
    ∷ record { id = id 5; body = Group (record { id = id 7; partition = 1; size = 3; references = []; cells = []; content = Inline (1 ∷ 2 ∷ 3 ∷ []) } ∷ []) } ∷ []

-- all five are reached from the index, and the file is empty
five_reached : reached five (id 1) ≡ Some five
unfolding named_along chain
five_reached = refl

empty_file : file five (id 1) ≡ Some []
unfolding chain file_below named_along
empty_file = refl

-- without the group it is absent, and nothing is reached
group_absent : absent (take 4 five) (id 1) ≡ Some (id 5)
unfolding named_along chain
group_absent = refl

nothing_reached : reached (take 4 five) (id 1) ≡ None
unfolding named_along chain
nothing_reached = refl

-- a commit whose revision stands on the first: index, cell manifest, revision manifest
abbrev three : List Element
three =
    record {
      id = id 11;
      body = Index (record { target = id 2; serial = serial.Null } ∷ [])
          (record { cell = cell; target = id 12; serial = serial.Null } ∷ [])
          (record { revision = id 6; target = id 4; serial = serial.Null } ∷ record { revision = id 14; target = id 13; serial = serial.Null } ∷ []);
    }
    ∷ record { id = id 12; body = Cell (id 14) }
    ∷ record { id = id 13; body = Revision (id 14) (id 6) [] [] } ∷ []

-- the document without a commit, with the first, and with both
abbrev start : Doc
start = record (empty_doc own) { drawn = 20 }

abbrev once : Doc
once = record start { added = five; commits = record { index = id 1; moment = 5; user = [] } ∷ [] }

abbrev twice : Doc
twice = record start { added = five ++ three; commits = record { index = id 1; moment = 5; user = [] } ∷ record { index = id 11; moment = 6; user = [] } ∷ [] }

-- what a pull answers: the index, the serials of its elements, and the ranges of what is known then
abbrev told : Reply → ExGuid × List ℕ × List Range
told (reply.Pulled g i es k) = (i, map (λ e. e.serial) es, k.ranges)
told _ = (Null, [], [])

abbrev from_to : ℕ → ℕ → Range
from_to a b = record { guid = own; from = a; to = b }

-- a client that knows the first five gets none of them, and of the second commit the new three
knows_all : told (pull once (from_to 1 5 ∷ [])) ≡ (id 1, [], from_to 1 5 ∷ [])
unfolding named_along
knows_all = refl

knows_five : told (pull twice (from_to 1 5 ∷ [])) ≡ (id 11, 6 ∷ 7 ∷ 8 ∷ [], from_to 1 8 ∷ [])
unfolding named_along
knows_five = refl

-- one that knows nothing gets what is reached, and that is what it knows; without a commit it is nothing
knows_nothing : told (pull twice []) ≡ (id 11, 2 ∷ 4 ∷ 5 ∷ 6 ∷ 7 ∷ 8 ∷ [], from_to 2 2 ∷ from_to 4 8 ∷ [])
unfolding named_along
knows_nothing = refl

no_commit : told (pull start []) ≡ (Null, [], [])
no_commit = refl

-- an upload of these elements, without flags
abbrev upload : List Element → ExGuid → ExGuid → Put
upload es index expected = record {
  index = index;
  expected = expected;
  imply_null = false;
  partial = false;
  last = false;
  last_writer_wins = false;
  carried = None;
  elements = es;
}

-- the two puts that make it
abbrev stored : ℕ → ℕ → Reply
stored a b = reply.Stored (record { ranges = from_to a b ∷ [] })

first_put : put start 5 [] (upload five (id 1) Null) ≡ record { doc = once; reply = stored 1 5; moved = true }
unfolding named_along chain file_below weight element_bytes written.started body_bytes declarations_bytes declaration_bytes datas_bytes data_bytes row_bytes
first_put = refl

second_put : put once 6 [] (upload three (id 11) (id 1)) ≡ record { doc = twice; reply = stored 6 8; moved = true }
unfolding named_along chain file_below weight element_bytes written.started body_bytes declarations_bytes declaration_bytes datas_bytes data_bytes row_bytes
second_put = refl

-- the first again is refused, and with the last writer winning too, since its index is committed
again : (put once 6 [] (upload five (id 1) Null)).reply ≡ reply.Refused code.Coherency
unfolding named_along chain file_below weight element_bytes written.started body_bytes declarations_bytes declaration_bytes datas_bytes data_bytes row_bytes
again = refl

again_wins : (put once 6 [] (record (upload five (id 1) Null) { last_writer_wins = true })).reply ≡ reply.Refused code.InvalidObject
unfolding named_along chain file_below weight element_bytes written.started body_bytes declarations_bytes declaration_bytes datas_bytes data_bytes row_bytes
again_wins = refl

-- one that names what isn't there
incomplete : (put start 5 [] (upload (take 4 five) (id 1) Null)).reply ≡ reply.Refused code.NotFound
unfolding named_along chain file_below weight element_bytes written.started body_bytes declarations_bytes declaration_bytes datas_bytes data_bytes row_bytes
incomplete = refl

-- an exclusive lock until 1000: it stands at 999 and not at 1000
abbrev locked : Doc
locked = record start { lock = Exclusive own 1000 }

at_999 : (put locked 999 [] (upload five (id 1) Null)).reply ≡ reply.Refused code.AlreadyLocked
unfolding named_along chain file_below
at_999 = refl

at_1000 : (put locked 1000 [] (upload five (id 1) Null)).moved ≡ true
unfolding named_along chain file_below weight element_bytes written.started body_bytes declarations_bytes declaration_bytes datas_bytes data_bytes row_bytes
at_1000 = refl

-- the first version restored: its index under the next number is the ninth element, and commits
abbrev thrice : Doc
thrice = record twice {
  added = five ++ three
      ++ record {
        id = id 21;
        body = Index (record { target = id 2; serial = serial.Null } ∷ [])
            (record { cell = cell; target = id 3; serial = serial.Null } ∷ []) (record { revision = id 6; target = id 4; serial = serial.Null } ∷ []);
      } ∷ [];
  commits = record { index = id 1; moment = 5; user = [] } ∷ record { index = id 11; moment = 6; user = [] } ∷ record { index = id 21; moment = 7; user = [] } ∷ [];
  drawn = 21;
}

restored_once : restore twice 7 [] 1 None ≡ record { doc = thrice; reply = reply.Done; moved = true }
unfolding named_along chain file_below weight element_bytes written.started body_bytes declarations_bytes declaration_bytes datas_bytes data_bytes row_bytes
restored_once = refl

restored_file : file thrice.added (id 21) ≡ file twice.added (id 1)
unfolding chain file_below named_along
restored_file = refl

-- who was sent all of the second version is sent what only the first one reaches, and the new index
knows_second : told (pull thrice (from_to 2 2 ∷ from_to 4 8 ∷ [])) ≡ (id 21, 3 ∷ 9 ∷ [], from_to 2 9 ∷ [])
unfolding named_along
knows_second = refl

-- a put on the version itself is refused, since the stored index is the new one
on_first : (put thrice 8 [] (upload [] (id 31) (id 1))).reply ≡ reply.Refused code.Coherency
unfolding named_along chain file_below weight element_bytes written.started body_bytes declarations_bytes declaration_bytes datas_bytes data_bytes row_bytes
on_first = refl

-- versions are counted from 1, a lock holds, and the numbers run out
no_version_0 : (restore twice 7 [] 0 None).reply ≡ reply.Refused code.VersionUnknown
no_version_0 = refl

no_version_3 : (restore twice 7 [] 3 None).reply ≡ reply.Refused code.VersionUnknown
no_version_3 = refl

locked_restore : (restore (record twice { lock = Exclusive own 1000 }) 999 [] 1 None).reply ≡ reply.Refused code.AlreadyLocked
locked_restore = refl

no_number_left : (restore (record twice { drawn = last_number }) 7 [] 1 None).reply ≡ reply.Refused code.NoNumbers
no_number_left = refl
