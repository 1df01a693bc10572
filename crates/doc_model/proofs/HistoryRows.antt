-- Two callers of a document, worked by computing: what stands in its history, and what doesn't.
use Rattle.std.proofs.Common.{◌≡◌, ℕ, ◌≤◌, refl, ap, arith, true, List, [], ◌∷◌, length, Option, Some, None}
use Rattle.std.specs.List.{slice_get}
use Rattle.std.proofs.lemmas.Bool.{false≢true}
use Rattle.std.proofs.lemmas.List.Elements.{All-from_recursion}
use Rattle.compact_values.specs.declared.guid.Guid.{Guid}
use Rattle.doc_model.specs.declared.call.Call.{Call}
use Rattle.doc_model.specs.declared.call.Sub.{Sub}
use Rattle.doc_model.specs.declared.call.Sub.TheVariants.{Access, Draw, WhoAmI}
use Rattle.doc_model.specs.declared.doc.Doc.{Doc}
use Rattle.doc_model.specs.declared.reply.Code.TheVariants.{NotSupported}
use Rattle.doc_model.specs.declared.reply.Reply.{Reply}
use Rattle.doc_model.specs.declared.reply.Submitted.{Submitted}
use Rattle.doc_model.specs.declared.reply.Submitted.TheVariants.{Answered, DiskFault}
use Rattle.doc_model.specs.declared.reply.Reply.TheVariants as reply
use Rattle.doc_model.specs.rules.Apply.{empty_doc}
use Rattle.doc_model.specs.rules.Histories.{History, EachMoves, Placed, Stands, moves, effect_at, Attempt, Tried}
use Rattle.doc_model.specs.laws.Histories.{changes_of}
use Rattle.doc_model.proofs.Attempts.{tried-nothing, tried-with-next}
use Rattle.doc_model.proofs.Growing.{stands-nowhere, stands-later, stands-with-next}

abbrev own : Guid
own = record { number = 7 }

abbrev asks : Sub → Call
asks sub = record { moment = 5; user = 65 ∷ []; sub = sub }

abbrev placed : ℕ → Sub → Reply → Placed
placed at sub r = record { at = at; call = asks sub; reply = r }

abbrev doc : Doc
doc = empty_doc own

-- as they came: the last is refused, and only the draws of 10 and of 5 numbers move
abbrev history : History
history = (0, asks (Draw 10)) ∷ (1, asks (Draw 5)) ∷ []

as_they_came :
    changes_of doc ((0, asks (Draw 10)) ∷ (1, asks Access) ∷ (1, asks (Draw 5)) ∷ (0, asks WhoAmI) ∷ (1, asks (Draw 0)) ∷ []) ≡ history
as_they_came = refl

each_moves : EachMoves doc history
each_moves = (refl, (refl, tt))

-- calls stand in the history, by what is said of each
abbrev IsWithin : Placed → Type 0
IsWithin x = x.at ≤ length history

abbrev IsAnswered : Placed → Type 0
IsAnswered x = x.reply ≡ (effect_at doc history x.at x.call).reply

abbrev IsHeld : ℕ → Placed → Type 0
IsHeld n x = moves doc history x ≡ true → slice_get history x.at ≡ Some (n, x.call)

abbrev first_calls : List Placed
first_calls = placed 0 (Draw 10) (reply.Drawn own 1 10) ∷ placed 2 WhoAmI (reply.Me (65 ∷ [])) ∷ []

first_stands : Stands doc history 0 first_calls
first_stands = record {
  within = All-from_recursion IsWithin first_calls (omega arith, (omega arith, tt));
  replies = All-from_recursion IsAnswered first_calls (refl, (refl, tt));
  held = All-from_recursion (IsHeld 0) first_calls (λ m. refl, (λ m. absurd (false≢true m), tt));
  order = (omega arith, (omega arith, tt));
  changes = refl;
}

abbrev second_calls : List Placed
second_calls = placed 1 Access reply.Access ∷ placed 1 (Draw 5) (reply.Drawn own 11 15) ∷ placed 2 (Draw 0) (reply.Refused NotSupported) ∷ []

second_stands : Stands doc history 1 second_calls
second_stands = record {
  within = All-from_recursion IsWithin second_calls (omega arith, (omega arith, (omega arith, tt)));
  replies = All-from_recursion IsAnswered second_calls (refl, (refl, (refl, tt)));
  held = All-from_recursion (IsHeld 1) second_calls (λ m. absurd (false≢true m), (λ m. refl, (λ m. absurd (false≢true m), tt)));
  order = (omega arith, (omega arith, (omega arith, tt)));
  changes = refl;
}

-- the same, call by call as the history grew: behind another's change a read, its own change, and one that is refused
abbrev one_change : History
one_change = (0, asks (Draw 10)) ∷ []

abbrev one_read : List Placed
one_read = placed 1 Access reply.Access ∷ []

abbrev read_and_drew : List Placed
read_and_drew = placed 1 Access reply.Access ∷ placed 1 (Draw 5) (reply.Drawn own 11 15) ∷ []

second_grows : Stands doc history 1 second_calls
second_grows =
    let none = stands-later doc [] one_change 1 [] (stands-nowhere doc [] 1 refl) refl in
    let read = stands-with-next doc one_change 1 [] (placed 1 Access reply.Access) none refl refl in
    let drew = stands-with-next doc one_change 1 one_read (placed 1 (Draw 5) (reply.Drawn own 11 15)) read refl refl in
    stands-with-next doc history 1 read_and_drew (placed 2 (Draw 0) (reply.Refused NotSupported)) drew refl refl

-- not with the numbers that the document gave the other caller
abbrev least : Reply → ℕ
least (reply.Drawn guid a b) = a
least _ = 0

abbrev given_twice : List Placed
given_twice = placed 1 (Draw 5) (reply.Drawn own 1 5) ∷ []

not_given_twice : Stands doc history 1 given_twice → ⊥
not_given_twice s =
    let told = ap least (s.replies 0 (placed 1 (Draw 5) (reply.Drawn own 1 5)) (omega arith)) in omega (arith, told)

-- not where the other caller's change stands, with the reply that it would have there
abbrev number : Option (ℕ × Call) → ℕ
number (Some x) = x.0
number None = 0

abbrev too_early : List Placed
too_early = placed 0 (Draw 5) (reply.Drawn own 1 5) ∷ []

not_too_early : Stands doc history 1 too_early → ⊥
not_too_early s =
    let held = ap number (s.held 0 (placed 0 (Draw 5) (reply.Drawn own 1 5)) (omega arith) refl) in omega (arith, held)

-- not without its own change
abbrev left_out : List Placed
left_out = placed 1 Access reply.Access ∷ placed 2 (Draw 0) (reply.Refused NotSupported) ∷ []

not_left_out : Stands doc history 1 left_out → ⊥
not_left_out s = let as_many = ap (λ (cs : List Call). length cs) s.changes in omega (arith, as_many)

-- and not with a call behind its own change that saw the document before it
abbrev turned_round : List Placed
turned_round = placed 1 (Draw 5) (reply.Drawn own 11 15) ∷ placed 1 Access reply.Access ∷ []

not_turned_round : Stands doc history 1 turned_round → ⊥
not_turned_round s = omega (arith, s.order.1.0)

-- a draw that the disk failed, its one fault counted, and then the same draw answered: the history has it once
abbrev tried : Sub → Submitted → Attempt
tried sub submitted = record { at = 0; call = asks sub; made = record { submitted = submitted; before = 0; after = 1 } }

abbrev failed : List Attempt
failed = tried (Draw 10) DiskFault ∷ []

drawn_again : Tried doc 0 one_change 0 (tried (Draw 10) DiskFault ∷ tried (Draw 10) (Answered (reply.Drawn own 1 10)) ∷ [])
drawn_again =
    let first = tried-with-next doc 0 [] 0 [] (tried (Draw 10) DiskFault) (tried-nothing doc 0 [] 0 refl) refl (refl, omega arith) in
    tried-with-next doc 0 [] 0 failed (tried (Draw 10) (Answered (reply.Drawn own 1 10))) first refl refl

-- no fault of the disk keeps a call that reads from an answer
no_fault : Tried doc 0 [] 0 (tried Access DiskFault ∷ []) → ⊥
no_fault t = false≢true (t.causes 0 (tried Access DiskFault) (omega arith)).0
