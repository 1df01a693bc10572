-- What a document stands for after a call.
use Rattle.std.proofs.Common.{◌≡◌, ℕ, ◌+◌, Bool, true, false, List, [], ◌∷◌, ◌++◌, length, Option, Some, None, inl, inr, refl, sym, ap, subst, ◌∙◌, append_assoc, arith, length-append}
use Rattle.std.specs.Prelude.{map, fold, if◌then◌else◌}
use Rattle.std.proofs.lemmas.List.{append-nil, map-append, length-map}
use Rattle.std.specs.List.{AllByRecursion}
use Rattle.std.specs.declared.snapshot.Snapshot.{Snapshot}
use Rattle.compact_values.specs.declared.guid.Guid.{Guid}
use Rattle.doc_model.specs.rules.Apply.{apply, empty_doc, replay}
use Rattle.doc_model.specs.rules.Histories.{History, EachMoves}
use Rattle.doc_model.specs.laws.Histories.{gained}
use Rattle.doc_model.specs.declared.call.Call.{Call}
use Rattle.doc_model.specs.declared.doc.Doc.{Doc}
use Rattle.doc_model.specs.declared.reply.Submitted.{Submitted}
use Rattle.doc_model.specs.declared.reply.Submitted.TheVariants.{Answered, DiskFault, JournalFull, NoMemory}
use Rattle.journaled_doc.specs.Eras.{Event, Acknowledged, NotAppended, NotMended, Era, after, era, document_of, IsKeepable, AreKeepable}
use Rattle.journaled_doc.specs.Standing.{IsStanding, tried_of}
use Rattle.doc_story.specs.declared.told.Last.{Last}
use Rattle.doc_story.specs.declared.told.Told.{Told}
use Rattle.journaled_doc.specs.Docs.{history, kept_calls, Attempted, InEra, Became, IsTold, IsLast, IsJournaled, SameOpening}
use Rattle.journaled_doc.specs.declared.kept.Kept.{Kept}
use Rattle.journaled_doc.specs.declared.doc.JournaledDoc.{JournaledDoc}
use Rattle.doc_model.proofs.Unmoved.{unmoved}
use Rattle.journaled_doc.proofs.Eras.{era_next}

-- the history's part is what the journal keeps
pub gained_calls : (caller : ℕ) (call : Call) (s : Submitted) (moved : Bool) → map (λ (item : ℕ × Call). item.1) (gained caller call s moved) ≡ kept_calls call moved s
gained_calls caller call (Answered reply) true = refl
gained_calls caller call (Answered reply) false = refl
gained_calls caller call DiskFault moved = refl
gained_calls caller call JournalFull moved = refl
gained_calls caller call NoMemory moved = refl

pub document_next : (guid : Guid) (calls : List Call) (call : Call) → document_of guid (calls ++ call ∷ []) ≡ (apply (document_of guid calls) call).doc
document_next guid calls call = go (empty_doc guid) calls where
  go : (d : Doc) (cs : List Call) → fold (λ x c. (apply x c).doc) d (cs ++ call ∷ []) ≡ (apply (fold (λ x c. (apply x c).doc) d cs) call).doc
  go d [] = refl
  go d (c ∷ cs) = go (apply d c).doc cs

pub keepable_next : (x : Era) (call : Call) → AreKeepable x → IsKeepable call → AreKeepable (after x (Acknowledged call))
keepable_next x call k one = (go x.calls k.0, tt) where
  go : (cs : List Call) → AllByRecursion IsKeepable cs → AllByRecursion IsKeepable (cs ++ call ∷ [])
  go [] a = (one, tt)
  go (c ∷ cs) a = (a.0, go cs a.1)

-- a history each call of which moves, with what it gains
moves-with : (doc : Doc) (history : History) (n : ℕ) (call : Call) → EachMoves doc history → (apply (replay doc history) call).moved ≡ true → EachMoves doc (history ++ (n, call) ∷ [])
moves-with doc [] n call h m = (m, tt)
moves-with doc (x ∷ xs) n call h m = (h.0, moves-with (apply doc x.1).doc xs n call h.1 m)

moves-still : (doc : Doc) (history : History) → EachMoves doc history → EachMoves doc (history ++ [])
moves-still doc history h = subst (λ (l : History). EachMoves doc l) (sym (append-nil history)) h

each-moves-with-gained : (doc : Doc) (history : History) (n : ℕ) (call : Call) (s : Submitted) → EachMoves doc history
    → EachMoves doc (history ++ gained n call s (apply (replay doc history) call).moved)
each-moves-with-gained doc history n call (Answered reply) h = go (apply (replay doc history) call).moved refl where
  go : (m : Bool) → (apply (replay doc history) call).moved ≡ m → EachMoves doc (history ++ gained n call (Answered reply) m)
  go true e = moves-with doc history n call h e
  go false e = moves-still doc history h
each-moves-with-gained doc history n call DiskFault h = moves-still doc history h
each-moves-with-gained doc history n call JournalFull h = moves-still doc history h
each-moves-with-gained doc history n call NoMemory h = moves-still doc history h

-- ---- the events of a call

module _ {C D : Type 0} (doc : C → Doc) (may_leave : D → List ℕ → Type 0) (moment : D → ℕ) (left_since : D → ℕ → List ℕ → Type 0) (faults : D → ℕ) where
  -- a document that stands where `x` leads to stands where events lead to that lead there too
  in_era : (j : JournaledDoc C D) (x : Era) (events : List Event) → era events ≡ x → doc j.core ≡ document_of j.kept.journal.guid x.calls → AreKeepable x → tried_of j.kept ≡ x.tried
      → IsStanding may_leave j.kept x.calls → InEra doc may_leave j events
  in_era j x events e d k t s = record {
    document = rw e d;
    keepable = rw e k;
    tried = rw e t;
    stands = rw e s;
  }

  module _ (old new : JournaledDoc C D) (events : List Event) (call : Call) (is : InEra doc may_leave old events) where
    A : List Call
    A = (era events).calls

    -- the call moved and was kept
    acknowledged : IsKeepable call → (effect_is : doc new.core ≡ (apply (doc old.core) call).doc) → new.kept.journal.guid ≡ old.kept.journal.guid → tried_of new.kept ≡ None → IsStanding may_leave new.kept (A ++ call ∷ [])
        → InEra doc may_leave new (events ++ Acknowledged call ∷ [])
    unfolding A
    acknowledged one d g t s =
        let leads : doc new.core ≡ document_of new.kept.journal.guid (A ++ call ∷ []) =
        d ∙ ap (λ (x : Doc). (apply x call).doc) is.document ∙ sym (document_next old.kept.journal.guid A call) ∙ ap (λ (x : Guid). document_of x (A ++ call ∷ [])) (sym g) in
        in_era new (after (era events) (Acknowledged call)) (events ++ Acknowledged call ∷ []) (era_next events (Acknowledged call)) leads (keepable_next (era events) call is.keepable one) t s

    -- nothing was kept, and the change that was tried stays
    unchanged : (e : Event) → after (era events) e ≡ era events → doc new.core ≡ doc old.core → new.kept.journal.guid ≡ old.kept.journal.guid → tried_of new.kept ≡ tried_of old.kept
        → IsStanding may_leave new.kept A → InEra doc may_leave new (events ++ e ∷ [])
    unfolding A
    unchanged e same d g t s =
        in_era new (era events) (events ++ e ∷ []) (era_next events e ∙ same) (d ∙ is.document ∙ ap (λ (x : Guid). document_of x A) (sym g)) is.keepable (t ∙ is.tried) s

    still : doc new.core ≡ doc old.core → new.kept.journal.guid ≡ old.kept.journal.guid → tried_of new.kept ≡ tried_of old.kept → IsStanding may_leave new.kept A → InEra doc may_leave new events
    unfolding A
    still d g t s = in_era new (era events) events refl (d ∙ is.document ∙ ap (λ (x : Guid). document_of x A) (sym g)) is.keepable (t ∙ is.tried) s

    -- the append failed
    not_appended : IsKeepable call → doc new.core ≡ doc old.core → new.kept.journal.guid ≡ old.kept.journal.guid → tried_of new.kept ≡ Some call → IsStanding may_leave new.kept A
        → InEra doc may_leave new (events ++ NotAppended call ∷ [])
    unfolding A
    not_appended one d g t s =
        in_era new (after (era events) (NotAppended call)) (events ++ NotAppended call ∷ []) (era_next events (NotAppended call)) (d ∙ is.document ∙ ap (λ (x : Guid). document_of x A) (sym g)) (is.keepable.0, one) t s

  pub became : (old new : JournaledDoc C D) (events : List Event) (call : Call) (moved : Bool) (s : Submitted) → Attempted doc may_leave moment left_since faults old new call moved s
      → InEra doc may_leave old events → Became doc may_leave new events call (apply (doc old.core) call).moved s
  unfolding A
  became old new events call moved (Answered reply) a is = go (apply (doc old.core) call).moved refl where
    go : (m : Bool) → (apply (doc old.core) call).moved ≡ m → Became doc may_leave new events call m (Answered reply)
    go true e =
        let moves : moved ≡ true = a.moves ∙ e in
        let kept = rw moves at (a.stands (era events).calls is.stands) in
        let tried = rw moves at a.tried in
        acknowledged old new events call is (a.keepable moves) a.answer.1 a.same.guid tried kept
    go false e =
        let moves : moved ≡ false = a.moves ∙ e in
        let kept = rw (moves, append-nil) at (a.stands (era events).calls is.stands) in
        let tried = rw moves at a.tried in
        still old new events call is (a.answer.1 ∙ unmoved (doc old.core) call e) a.same.guid tried kept
  became old new events call moved DiskFault a is =
      let kept = rw append-nil at (a.stands (era events).calls is.stands) in
      let tried = a.tried in
      elim tried [
        | inl same ↦ inl (unchanged old new events call is NotMended refl a.answer a.same.guid same kept)
        | inr some ↦ inr (not_appended old new events call is (a.keepable (a.moves ∙ a.cause.cause.0)) a.answer a.same.guid some kept)
      ]
  became old new events call moved JournalFull a is = still old new events call is a.answer a.same.guid a.tried (rw append-nil at (a.stands (era events).calls is.stands))
  became old new events call moved NoMemory a is = still old new events call is a.answer a.same.guid a.tried (rw append-nil at (a.stands (era events).calls is.stands))

  -- the same of a document that differs in its story alone
  pub like : (j k : JournaledDoc C D) (events : List Event) → k.core ≡ j.core → k.kept ≡ j.kept → InEra doc may_leave j events → InEra doc may_leave k events
  like j k events c e is = record { document = rw (c, e) is.document; keepable = is.keepable; tried = rw e is.tried; stands = rw e is.stands }

  pub became_like : (j k : JournaledDoc C D) (events : List Event) (call : Call) (m : Bool) (s : Submitted) → k.core ≡ j.core → k.kept ≡ j.kept → Became doc may_leave j events call m s
      → Became doc may_leave k events call m s
  became_like j k events call m (Answered reply) c e b = like j k (if m then events ++ Acknowledged call ∷ [] else events) c e b
  became_like j k events call m DiskFault c e (inl b) = inl (like j k (events ++ NotMended ∷ []) c e b)
  became_like j k events call m DiskFault c e (inr b) = inr (like j k (events ++ NotAppended call ∷ []) c e b)
  became_like j k events call m JournalFull c e b = like j k events c e b
  became_like j k events call m NoMemory c e b = like j k events c e b

pub gained_told : (caller : ℕ) (call : Call) (s : Submitted) (moved moves : Bool) → IsTold moves moved s → gained caller call s moved ≡ gained caller call s moves
gained_told caller call (Answered reply) moved moves e = ap (λ (m : Bool). gained caller call (Answered reply) m) e
gained_told caller call DiskFault moved moves e = refl
gained_told caller call JournalFull moved moves e = refl
gained_told caller call NoMemory moved moves e = refl

-- ---- the history and the last call

replay_next : (d : Doc) (h : History) (item : ℕ × Call) → replay d (h ++ item ∷ []) ≡ (apply (replay d h) item.1).doc
replay_next d [] item = refl
replay_next d (x ∷ h) item = replay_next (apply d x.1).doc h item

abbrev pub last_with : ℕ → Call → Submitted → Bool → ℕ → ℕ → Option Last
last_with caller call s moved before after = Some (record { caller = caller; call = call; made = record { submitted = s; before = before; after = after }; moved = moved })

pub last_is : (caller : ℕ) (call : Call) (s : Submitted) (moved : Bool) (b before a after : ℕ) (moves : Bool) (t : Told) → IsTold moves moved s → t.last ≡ last_with caller call s moved b a → b ≡ before → a ≡ after
    → IsLast caller call s before after moves t
last_is caller call s moved b before a after moves t m e p q = record {
  moved = moved;
  as_told = m;
  last = e ∙ ap (λ (n : ℕ). last_with caller call s moved n a) p ∙ ap (λ (n : ℕ). last_with caller call s moved before n) q;
}

module _ {C D : Type 0} (doc : C → Doc) (may_leave : D → List ℕ → Type 0) (moment : D → ℕ) (left_since : D → ℕ → List ℕ → Type 0) (faults : D → ℕ) where
  leads : (old mid : JournaledDoc C D) (caller : ℕ) (call : Call) (moved : Bool) (s : Submitted) → Attempted doc may_leave moment left_since faults old mid call moved s → IsJournaled doc may_leave old
      → doc mid.core ≡ replay (doc old.first.value) (history old ++ gained caller call s (apply (doc old.core) call).moved)
  leads old mid caller call moved (Answered reply) a is = go (apply (doc old.core) call).moved refl where
    go : (m : Bool) → (apply (doc old.core) call).moved ≡ m → doc mid.core ≡ replay (doc old.first.value) (history old ++ gained caller call (Answered reply) m)
    go true e = a.answer.1 ∙ ap (λ (d : Doc). (apply d call).doc) is.document ∙ sym (replay_next (doc old.first.value) (history old) (caller, call))
    go false e = a.answer.1 ∙ unmoved (doc old.core) call e ∙ is.document ∙ ap (λ (h : History). replay (doc old.first.value) h) (sym (append-nil (history old)))
  leads old mid caller call moved DiskFault a is = a.answer ∙ is.document ∙ ap (λ (h : History). replay (doc old.first.value) h) (sym (append-nil (history old)))
  leads old mid caller call moved JournalFull a is = a.answer ∙ is.document ∙ ap (λ (h : History). replay (doc old.first.value) h) (sym (append-nil (history old)))
  leads old mid caller call moved NoMemory a is = a.answer ∙ is.document ∙ ap (λ (h : History). replay (doc old.first.value) h) (sym (append-nil (history old)))

  pub journaled : (old mid k : JournaledDoc C D) (caller : ℕ) (call : Call) (moved : Bool) (s : Submitted) → Attempted doc may_leave moment left_since faults old mid call moved s → k.core ≡ mid.core → k.kept ≡ mid.kept
      → SameOpening mid k → history k ≡ history old ++ gained caller call s (apply (doc old.core) call).moved → IsJournaled doc may_leave old → IsJournaled doc may_leave k
  journaled old mid k caller call moved s a core kept same hist is =
      let first : k.first ≡ old.first = same.first ∙ a.same.first in
      let opened : k.opened ≡ old.opened = same.opened ∙ a.same.opened in
      let start : doc k.first.value ≡ doc old.first.value = ap (λ (x : Snapshot C). doc x.value) first in
      let told_same : gained caller call s moved ≡ gained caller call s (apply (doc old.core) call).moved = gained_told caller call s moved (apply (doc old.core) call).moved a.moves in
      let calls : map (λ (item : ℕ × Call). item.1) (gained caller call s (apply (doc old.core) call).moved) ≡ kept_calls call moved s =
      ap (λ (h : History). map (λ (item : ℕ × Call). item.1) h) (sym told_same) ∙ gained_calls caller call s moved in
      let grown : map (λ (item : ℕ × Call). item.1) (history k) ≡ map (λ (item : ℕ × Call). item.1) (history old) ++ kept_calls call moved s =
      ap (λ (h : History). map (λ (item : ℕ × Call). item.1) h) hist ∙ map-append (λ (item : ℕ × Call). item.1) (history old) _ ∙ ap (λ (l : List Call). map (λ (item : ℕ × Call). item.1) (history old) ++ l) calls in
      let each : EachMoves (doc old.first.value) (history old ++ gained caller call s (apply (doc old.core) call).moved) =
      subst (λ (d : Doc). EachMoves (doc old.first.value) (history old ++ gained caller call s (apply d call).moved)) (sym is.document)
      (each-moves-with-gained (doc old.first.value) (history old) caller call s is.moves) in
      let longer : length (history k) ≡ length (history old) + length (kept_calls call moved s) =
      ap length hist ∙ length-append (history old) _ ∙ ap (λ (n : ℕ). length (history old) + n) (sym (length-map _ (λ (item : ℕ × Call). item.1)) ∙ ap length calls) in
      record {
        document = ap doc core ∙ leads old mid caller call moved s a is ∙ ap (λ (h : History). replay (doc old.first.value) h) (sym hist) ∙ ap (λ (d : Doc). replay d (history k)) (sym start);
        moves = subst (λ (d : Doc). EachMoves d (history k)) (sym start) (subst (λ (h : History). EachMoves (doc old.first.value) h) (sym hist) each);
        guid = ap (λ (x : Kept D). x.journal.guid) kept ∙ a.same.guid ∙ is.guid ∙ ap (λ (x : Snapshot (Kept D)). x.value.journal.guid) (sym opened);
        before = same.before ∙ a.same.before ∙ is.before ∙ ap (λ (x : Snapshot (Kept D)). x.value.journal.count) (sym opened);
        count = ap (λ (x : Kept D). x.journal.count) kept ∙ omega (arith, a.count, is.count, longer, same.before, a.same.before);
        stands = λ before there.
            let old_there : IsStanding may_leave old.opened.value before = subst (λ (x : Snapshot (Kept D)). IsStanding may_leave x.value before) opened there in
            let now : IsStanding may_leave mid.kept ((before ++ map (λ (item : ℕ × Call). item.1) (history old)) ++ kept_calls call moved s) = a.stands _ (is.stands before old_there) in
            let list : (before ++ map (λ (item : ℕ × Call). item.1) (history old)) ++ kept_calls call moved s ≡ before ++ map (λ (item : ℕ × Call). item.1) (history k) =
            append_assoc before (map (λ (item : ℕ × Call). item.1) (history old)) (kept_calls call moved s) ∙ ap (λ (l : List Call). before ++ l) (sym grown) in
            subst (λ (x : Kept D). IsStanding may_leave x (before ++ map (λ (item : ℕ × Call). item.1) (history k))) (sym kept) (subst (λ (l : List Call). IsStanding may_leave mid.kept l) list now);
      }
