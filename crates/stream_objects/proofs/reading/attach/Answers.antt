use Rattle.std.proofs.Common.{◌≡◌, ◌<◌, ◌-◌, List, [], ◌∷◌, ◌++◌, length, take, ap, ◌∙◌, slice_set, slice_index_or}
use Rattle.std.specs.List.{refill}
use Rattle.stream_objects.specs.declared.reading.Open.{Open}
use Rattle.stream_objects.proofs.LastItem.{last_split, last_written}
use Rattle.stream_objects.proofs.reading.attach.Goals as goal

pub returns-in-Ok-clause-ok : goal.returns-in-Ok-clause-ok
returns-in-Ok-clause-ok c =
    let old : List Open = c.args.opened.now.items in
    let parent : Open = c.in-Some.parent.now in
    let lent = c.as_mut_slice.ensures.value in
    let some : 0 < length old = rw lent at c.in-Some.ensures.item.3.0 in
    let last : parent ≡ slice_index_or old (length old - 1) parent = rw lent at c.in-Some.ensures.item.1 in
    let grown : Open = record parent { children = c.push.new.self } in (
      take (length old - 1) old,
      parent,
      last_split old some parent last,
      ap (λ stack. refill (length old) old (slice_set stack (length stack - 1) grown)) lent
          ∙ last_written old some grown
          ∙ ap (λ children. take (length old - 1) old ++ record parent { children = children } ∷ []) c.in-Ok.ensures.ok,
    )
