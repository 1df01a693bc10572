-- What a document that is kept in a journal owes to a host, from what its calls promise.
use Rattle.std.proofs.Common.{◌≡◌, ℕ, ◌+◌, ◌<◌, ◌≤◌, Bool, true, false, List, [], ◌∷◌, ◌++◌, length, Option, Some, None, inl, inr, refl, sym, ap, subst, ◌∙◌, arith}
use Rattle.std.specs.Coded.{Coded-set, coded_ℕ, coded_bool, ×_prop, Unit-prop}
use Rattle.std.specs.List.{All}
use Rattle.std.specs.Prelude.{map}
use Rattle.std.specs.declared.snapshot.Snapshot.{Snapshot}
use Rattle.std.proofs.Math.Logic.{∥∥₁_elim}
use Rattle.std.proofs.lemmas.List.{append-nil}
use Rattle.std.proofs.lemmas.List.Elements.{All-push}
use Rattle.turn_board.specs.declared.kept.Last.{Last}
use Rattle.doc_model.specs.contracts.doc.Doc.{the_row as doc_row}
use Rattle.doc_model.specs.rules.Apply.{apply, replay}
use Rattle.doc_model.specs.rules.Histories.{History, EachMoves, Fits, is_answered}
use Rattle.doc_model.specs.laws.Histories.{gained, Became, MovesByKind}
use Rattle.doc_model.specs.rules.Limits.{most_bodies}
use Rattle.doc_model.specs.rules.Sound.{Sound, Valid}
use Rattle.doc_model.specs.rules.Effects.{Effect}
use Rattle.doc_model.specs.declared.call.Call.{Call}
use Rattle.doc_model.specs.declared.doc.Doc.{Doc}
use Rattle.doc_model.specs.declared.made.Made.{Made}
use Rattle.doc_model.specs.declared.reply.Reply.{Reply}
use Rattle.doc_model.specs.declared.reply.Submitted.{Submitted}
use Rattle.doc_model.specs.declared.reply.Submitted.TheVariants.{Answered, DiskFault, JournalFull, NoMemory}
use Rattle.doc_model.proofs.Following.{histories-follow}
use Rattle.doc_story.specs.Telling.{told}
use Rattle.doc_story.specs.declared.told.Told.{Told}
use Rattle.journaled_doc.specs.Docs.{history, HasCause, IsAnswered, IsLast, IsTold, IsJournaled, MayBeFull, SameOpening}
use Rattle.journaled_doc.specs.Standing.{IsStanding}
use Rattle.journaled_doc.specs.declared.doc.JournaledDoc.{JournaledDoc}
use Rattle.journaled_doc.specs.declared.kept.Kept.{Kept}
use Rattle.doc_host.specs.declared.journaled.Opening.{Opening}
use Rattle.doc_host.specs.Attempts.{has_changed, last_made}
use Rattle.doc_host.specs.Documents.{last_of}
use Rattle.doc_host.specs.Submits.{effect_after, HasRoom, HasSubmitted}

pub doc-set : (a b : Doc) → IsProp (a ≡ b)
doc-set a b = Coded-set doc_row.coded a b

pub each-moves-prop : (doc : Doc) (h : History) → IsProp (EachMoves doc h)
each-moves-prop doc [] = Unit-prop
each-moves-prop doc (x ∷ xs) = ×_prop (Coded-set coded_bool _ _) (each-moves-prop (apply doc x.1).doc xs)

-- the calls of a history with what it gains
pub valid_gained : (h : History) (n : ℕ) (call : Call) (s : Submitted) (m : Bool) → All (λ item. Valid item.1) h → Valid call → All (λ item. Valid item.1) (h ++ gained n call s m)
valid_gained h n call (Answered reply) true v c = All-push (λ item. Valid item.1) h (n, call) v c
valid_gained h n call (Answered reply) false v c = subst (All (λ item. Valid item.1)) (sym (append-nil h)) v
valid_gained h n call NoMemory m v c = subst (All (λ item. Valid item.1)) (sym (append-nil h)) v
valid_gained h n call DiskFault m v c = subst (All (λ item. Valid item.1)) (sym (append-nil h)) v
valid_gained h n call JournalFull m v c = subst (All (λ item. Valid item.1)) (sym (append-nil h)) v

-- what was told of a call that wasn't answered isn't asked
same_changed : (s : Submitted) (moves moved : Bool) → IsTold moves moved s → has_changed s moved ≡ has_changed s moves
same_changed (Answered reply) moves moved e = e
same_changed NoMemory moves moved e = refl
same_changed DiskFault moves moved e = refl
same_changed JournalFull moves moved e = refl

-- an answer and a fault aren't want of room
not_answered : (reply : Reply) → MayBeFull (Answered reply) → ⊥
not_answered reply (inl e) = absurd cc
not_answered reply (inr e) = absurd cc

not_fault : MayBeFull DiskFault → ⊥
not_fault (inl e) = absurd cc
not_fault (inr e) = absurd cc

noted_as : (caller : ℕ) (call : Call) (s : Submitted) (before after : ℕ) (moves : Bool) (t : Told) → IsLast caller call s before after moves t
    → last_of t.last ≡ Some (last_made caller call (record { submitted = s; before = before; after = after }) moves)
noted_as caller call s before after moves t l =
    ap last_of l.last
    ∙ ap (λ (b : Bool). Some (record { caller = caller; call = call; answer = record { submitted = s; before = before; after = after }; answered = is_answered s; moved = b })) (same_changed s moves l.moved l.as_told)

below : (most count : ℕ) → ((most ≤ count) → ⊥) → count < most
below most count h = omega (arith, h)

module _ (o : Opening) (old new : History) (caller : ℕ) (call : Call) (before after count : ℕ) (later : Doc) (t : Told) (valid : All (λ item. Valid item.1) old) (kinds : MovesByKind)
    (counted : count ≡ o.bodies + length old) where
  abbrev effect : Effect
  effect = effect_after o old call

  became_so : (s : Submitted) → IsAnswered effect (replay o.doc old) later s → HasCause before after effect.moved count s
      → Became effect o.bodies (record { at = length old; call = call; made = record { submitted = s; before = before; after = after } }) s
  became_so (Answered reply) a c = a.0
  became_so DiskFault a c = c.cause
  became_so JournalFull a c = (c.cause.0, subst (λ (n : ℕ). most_bodies ≤ n) counted c.cause.1)
  became_so NoMemory a c = tt

  has_room : (s : Submitted) → HasCause before after effect.moved count s → (effect.moved ≡ true → most_bodies ≤ count → MayBeFull s) → HasRoom effect.moved (o.bodies + length old) s
  has_room (Answered reply) c full = λ m. below most_bodies (o.bodies + length old) (λ le. not_answered reply (full m (subst (λ (n : ℕ). most_bodies ≤ n) (sym counted) le)))
  has_room DiskFault c full = below most_bodies (o.bodies + length old) (λ le. not_fault (full c.cause.0 (subst (λ (n : ℕ). most_bodies ≤ n) (sym counted) le)))
  has_room JournalFull c full = tt
  has_room NoMemory c full = tt

  fits_there : (s : Submitted) → IsAnswered effect (replay o.doc old) later s → HasCause before after effect.moved count s → Sound o.doc → Fits call s
  fits_there (Answered reply) a c sound = (replay o.doc old, (histories-follow o.doc old sound valid).0, sym a.0)
  fits_there DiskFault a c sound = kinds (replay o.doc old) call c.cause.0
  fits_there JournalFull a c sound = kinds (replay o.doc old) call c.cause.0
  fits_there NoMemory a c sound = tt

  pub submitted_so : (s : Submitted) → IsAnswered effect (replay o.doc old) later s → HasCause before after effect.moved count s → (effect.moved ≡ true → most_bodies ≤ count → MayBeFull s)
      → new ≡ old ++ gained caller call s effect.moved → IsLast caller call s before after effect.moved t → HasSubmitted o old new (last_of t.last) before after caller call s
  submitted_so s a c full gains last = record {
    became = became_so s a c;
    room = has_room s c full;
    fits = fits_there s a c;
    gains = gains;
    noted = noted_as caller call s before after effect.moved t last;
    faults = c.later;
  }

module _ {C D : Type 0} (doc : C → Doc) (may_leave : D → List ℕ → Type 0) where
  abbrev pub opening_of : JournaledDoc C D → Opening
  opening_of j = record { doc = doc j.first.value; bodies = j.before }

  module _ (j : JournaledDoc C D) (is : ∥ IsJournaled doc may_leave j ∥₁) where
    pub document_is : doc j.core ≡ replay (doc j.first.value) (history j)
    document_is = ∥∥₁_elim is (doc-set _ _) (λ x. x.document)

    pub count_is : j.kept.journal.count ≡ j.before + length (history j)
    count_is = ∥∥₁_elim is (Coded-set coded_ℕ _ _) (λ x. x.count)

    pub each_moves : EachMoves (doc j.first.value) (history j)
    each_moves = ∥∥₁_elim is (each-moves-prop _ _) (λ x. x.moves)

    pub submitted : (k : JournaledDoc C D) (caller : ℕ) (call : Call) (s : Submitted) (before after : ℕ) → All (λ item. Valid item.1) (history j) → MovesByKind
        → IsAnswered (apply (doc j.core) call) (doc j.core) (doc k.core) s → HasCause before after (apply (doc j.core) call).moved j.kept.journal.count s
        → ((apply (doc j.core) call).moved ≡ true → most_bodies ≤ j.kept.journal.count → MayBeFull s) → history k ≡ history j ++ gained caller call s (apply (doc j.core) call).moved
        → IsLast caller call s before after (apply (doc j.core) call).moved (told k.story)
        → HasSubmitted (opening_of j) (history j) (history k) (last_of (told k.story).last) before after caller call s
    submitted k caller call s before after valid kinds a c full gains last =
        let d = document_is in
        submitted_so (opening_of j) (history j) (history k) caller call before after j.kept.journal.count (doc k.core) (told k.story) valid kinds count_is s
        (subst (λ (x : Doc). IsAnswered (apply x call) x (doc k.core) s) d a)
        (subst (λ (x : Doc). HasCause before after (apply x call).moved j.kept.journal.count s) d c)
        (subst (λ (x : Doc). (apply x call).moved ≡ true → most_bodies ≤ j.kept.journal.count → MayBeFull s) d full)
        (subst (λ (x : Doc). history k ≡ history j ++ gained caller call s (apply x call).moved) d gains)
        (subst (λ (x : Doc). IsLast caller call s before after (apply x call).moved (told k.story)) d last)

  pub same_opening : (j k : JournaledDoc C D) → SameOpening j k → opening_of k ≡ opening_of j
  same_opening j k same =
      ap (λ (x : Snapshot C). record { doc = doc x.value; bodies = k.before }) same.first ∙ ap (λ (n : ℕ). record { doc = doc j.first.value; bodies = n }) same.before

  -- a document that differs in its last call alone
  pub still_journaled : (j k : JournaledDoc C D) → k.core ≡ j.core → k.kept ≡ j.kept → SameOpening j k → history k ≡ history j → IsJournaled doc may_leave j → IsJournaled doc may_leave k
  still_journaled j k core kept same hist is =
      let start : doc k.first.value ≡ doc j.first.value = ap (λ (x : Snapshot C). doc x.value) same.first in
      record {
        document = ap doc core ∙ is.document ∙ ap (λ (h : History). replay (doc j.first.value) h) (sym hist) ∙ ap (λ (d : Doc). replay d (history k)) (sym start);
        moves = subst (λ (d : Doc). EachMoves d (history k)) (sym start) (subst (λ (h : History). EachMoves (doc j.first.value) h) (sym hist) is.moves);
        guid = ap (λ (x : Kept D). x.journal.guid) kept ∙ is.guid ∙ ap (λ (x : Snapshot (Kept D)). x.value.journal.guid) (sym same.opened);
        before = same.before ∙ is.before ∙ ap (λ (x : Snapshot (Kept D)). x.value.journal.count) (sym same.opened);
        count = ap (λ (x : Kept D). x.journal.count) kept ∙ is.count ∙ ap (λ (n : ℕ). n + length (history j)) (sym same.before) ∙ ap (λ (h : History). k.before + length h) (sym hist);
        stands = λ before there.
            let old_there : IsStanding may_leave j.opened.value before = subst (λ (x : Snapshot (Kept D)). IsStanding may_leave x.value before) same.opened there in
            subst (λ (x : Kept D). IsStanding may_leave x (before ++ map (λ (item : ℕ × Call). item.1) (history k))) (sym kept)
            (subst (λ (h : History). IsStanding may_leave j.kept (before ++ map (λ (item : ℕ × Call). item.1) h)) (sym hist) (is.stands before old_there));
      }
