-- A history grows at its end, and stays one. All that a caller tried stays so, with one more attempt at the end too; and what
-- became of it fits.
use Rattle.std.proofs.Common.{◌≡◌, ℕ, ◌≤◌, ◌+◌, refl, sym, ◌∙◌, ap, subst, arith, Bool, true, false, ◌&&◌, cond, List, [], ◌∷◌, ◌++◌, length, get_or, length-append}
use Rattle.std.specs.List.{All, AllByRecursion as Each, cons_option}
use Rattle.std.proofs.lemmas.List.{append-nil}
use Rattle.std.proofs.lemmas.List.Elements.{All-push, All-nil, filter_map-append, recursion_from_All}
use Rattle.doc_model.specs.declared.call.Call.{Call}
use Rattle.doc_model.specs.declared.doc.Doc.{Doc}
use Rattle.doc_model.specs.declared.reply.Submitted.{Submitted}
use Rattle.doc_model.specs.declared.reply.Submitted.TheVariants.{Answered, DiskFault, JournalFull, NoMemory}
use Rattle.doc_model.specs.rules.Apply.{apply, replay}
use Rattle.doc_model.specs.rules.Histories.{History, EachMoves, IsHistory, Placed, GoOn, Stands, effect_at, moves, Attempt, placed, answered, is_answered, has_moved, HasCause, Tried}
use Rattle.doc_model.specs.laws.Histories.{gained, Became, TriedNothing, TriedLater, TriedWithNext, HistoryAtFirst, HistoryWithGained}
use Rattle.doc_model.specs.rules.Sound.{Valid}
use Rattle.doc_model.specs.rules.Effects.{Effect}
use Rattle.doc_model.proofs.EachItem.{each-as, each-both}
use Rattle.doc_model.proofs.Growing.{stands-nowhere, stands-later, stands-with-next, effect-longer, effect-end, same-order, next-order, are-in}

-- the causes, on a document with this history
abbrev pub Caused : Doc → ℕ → History → Attempt → Type 0
Caused doc bodies history x = HasCause (effect_at doc history x.at x.call).moved bodies x x.made.submitted

pub tried-nothing : TriedNothing
tried-nothing doc bodies history n e = record {
  order = tt;
  stands = stands-nowhere doc history n e;
  within = All-nil (λ x. x.at ≤ length history);
  causes = All-nil (Caused doc bodies history);
}

-- what holds of an attempt that was answered, by its place, its call and its reply
abbrev pub Replied : (Placed → Type 0) → ℕ → Call → Submitted → Type 0
Replied P at call (Answered reply) = P (record { at = at; call = call; reply = reply })
Replied P at call _ = Unit {0}

pub each-replied : (P : Placed → Type 0) (made : List Attempt) → Each P (answered made) → Each (λ x. Replied P x.at x.call x.made.submitted) made
each-replied P [] h = tt
each-replied P (x ∷ xs) h = at x.made.submitted h (each-replied P xs)
  where
    at : (s : Submitted) → Each P (cons_option (placed x.at x.call s) (answered xs)) → (Each P (answered xs) → Each (λ y. Replied P y.at y.call y.made.submitted) xs)
        → Replied P x.at x.call s × Each (λ y. Replied P y.at y.call y.made.submitted) xs
    at (Answered reply) h later = (h.0, later h.1)
    at NoMemory h later = (tt, later h)
    at DiskFault h later = (tt, later h)
    at JournalFull h later = (tt, later h)

-- the places and the causes in a longer history
module _ (doc : Doc) (bodies : ℕ) (history more : History) (n : ℕ) (made : List Attempt) (t : Tried doc bodies history n made) where
  within-longer : All (λ x. x.at ≤ length (history ++ more)) made
  within-longer = λ k d lt. let le = t.within k d lt in let long = length-append history more in omega arith

  causes-longer : All (Caused doc bodies (history ++ more)) made
  causes-longer = λ k d lt.
      let x = get_or made k d in
      subst (λ (u : Effect). HasCause u.moved bodies x x.made.submitted) (sym (effect-longer doc history more x.at x.call (t.within k d lt))) (t.causes k d lt)

  -- none moves at the end or behind it
  abbrev Ends : Placed → Type 0
  Ends y = cond (moves doc (history ++ more) y) (y.at + 1) y.at ≤ length history

  end-of : (at : ℕ) (call : Call) (s : Submitted) → Replied Ends at call s → at ≤ length history
      → cond (is_answered s && (effect_at doc (history ++ more) at call).moved) (at + 1) at ≤ length history
  end-of at call (Answered reply) h le = h
  end-of at call NoMemory h le = le
  end-of at call DiskFault h le = le
  end-of at call JournalFull h le = le

  ends-longer : Each (λ x. cond (has_moved doc (history ++ more) x) (x.at + 1) x.at ≤ length history) made
  ends-longer =
      each-as (λ x. Replied Ends x.at x.call x.made.submitted × (x.at ≤ length history)) (λ x. cond (has_moved doc (history ++ more) x) (x.at + 1) x.at ≤ length history) made
      (λ x h. end-of x.at x.call x.made.submitted h.0 h.1)
      (each-both (λ x. Replied Ends x.at x.call x.made.submitted) (λ x. x.at ≤ length history) made
      (each-replied Ends made (are-in doc history more n (answered made) t.stands).before_end)
      (recursion_from_All (λ x. x.at ≤ length history) made t.within))

  order-longer : GoOn (λ x. x.at) (has_moved doc (history ++ more)) 0 made
  order-longer =
      same-order (λ x. x.at) (has_moved doc history) (has_moved doc (history ++ more)) 0 made
      (recursion_from_All (λ x. has_moved doc (history ++ more) x ≡ has_moved doc history x) made
      (λ k d lt. let x = get_or made k d in ap (λ (u : Effect). is_answered x.made.submitted && u.moved) (effect-longer doc history more x.at x.call (t.within k d lt))))
      t.order

pub tried-later : TriedLater
tried-later doc bodies history more n made t e = record {
  order = order-longer doc bodies history more n made t;
  stands = stands-later doc history more n (answered made) t.stands e;
  within = within-longer doc bodies history more n made t;
  causes = causes-longer doc bodies history more n made t;
}

module _ (doc : Doc) (bodies : ℕ) (history : History) (n : ℕ) where
  -- without an answer nothing stands there, and the history stays
  unanswered : (made : List Attempt) (x : Attempt) → Stands doc history n (answered made) → answered (x ∷ []) ≡ [] → Stands doc (history ++ []) n (answered (made ++ x ∷ []))
  unanswered made x s e =
      subst (Stands doc (history ++ []) n)
      (sym (filter_map-append (λ y. placed y.at y.call y.made.submitted) made (x ∷ []) ∙ ap (λ ys. answered made ++ ys) e ∙ append-nil (answered made)))
      (stands-later doc history [] n (answered made) s refl)

  module _ (at : ℕ) (call : Call) (before after : ℕ) (here : at ≡ length history) where
    abbrev effect : Effect
    effect = apply (replay doc history) call

    abbrev tried : Submitted → Attempt
    tried submitted = record { at = at; call = call; made = record { submitted = submitted; before = before; after = after } }

    stands-next : (made : List Attempt) (submitted : Submitted) → Stands doc history n (answered made) → Became effect bodies (tried submitted) submitted
        → Stands doc (history ++ gained n call submitted effect.moved) n (answered (made ++ tried submitted ∷ []))
    stands-next made (Answered reply) s b =
        subst (Stands doc (history ++ gained n call (Answered reply) effect.moved) n)
        (sym (filter_map-append (λ y. placed y.at y.call y.made.submitted) made (tried (Answered reply) ∷ [])))
        (stands-with-next doc history n (answered made) (record { at = at; call = call; reply = reply }) s here b)
    stands-next made NoMemory s b = unanswered made (tried NoMemory) s refl
    stands-next made DiskFault s b = unanswered made (tried DiskFault) s refl
    stands-next made JournalFull s b = unanswered made (tried JournalFull) s refl

    cause-next : (submitted : Submitted) → Became effect bodies (tried submitted) submitted → HasCause effect.moved bodies (tried submitted) submitted
    cause-next (Answered reply) b = tt
    cause-next NoMemory b = b
    cause-next DiskFault b = b
    cause-next JournalFull b = b

  module _ (x : Attempt) (here : x.at ≡ length history) (b : Became (apply (replay doc history) x.call) bodies x x.made.submitted) where
    abbrev more : History
    more = gained n x.call x.made.submitted (apply (replay doc history) x.call).moved

    cause-there : Caused doc bodies (history ++ more) x
    cause-there =
        subst (λ (u : Effect). HasCause u.moved bodies x x.made.submitted) (sym (effect-end doc history more x.at x.call here))
        (cause-next x.at x.call x.made.before x.made.after here x.made.submitted b)

    tried-next : (made : List Attempt) → Tried doc bodies history n made → Tried doc bodies (history ++ more) n (made ++ x ∷ [])
    tried-next made t = record {
      order = next-order (λ y. y.at) (has_moved doc (history ++ more)) 0 made x
          (subst (λ (k : ℕ). Each (λ y. cond (has_moved doc (history ++ more) y) (y.at + 1) y.at ≤ k) made) (sym here) (ends-longer doc bodies history more n made t))
          (omega arith) (order-longer doc bodies history more n made t);
      stands = stands-next x.at x.call x.made.before x.made.after here made x.made.submitted t.stands b;
      within = All-push (λ y. y.at ≤ length (history ++ more)) made x (within-longer doc bodies history more n made t) (let long = length-append history more in omega (arith, here));
      causes = All-push (Caused doc bodies (history ++ more)) made x (causes-longer doc bodies history more n made t) cause-there;
    }

pub tried-with-next : TriedWithNext
tried-with-next doc bodies history n made x t here b = tried-next doc bodies history n x here b made t

-- one more change at the end
moves-with : (doc : Doc) (history : History) (n : ℕ) (call : Call) → EachMoves doc history → (apply (replay doc history) call).moved ≡ true
    → EachMoves doc (history ++ (n, call) ∷ [])
moves-with doc [] n call h m = (m, tt)
moves-with doc (x ∷ xs) n call h m = (h.0, moves-with (apply doc x.1).doc xs n call h.1 m)

pub history-at-first : HistoryAtFirst
history-at-first doc = record { valid = All-nil (λ item. Valid item.1); moving = tt }

module _ (doc : Doc) (history : History) (n : ℕ) (call : Call) (h : IsHistory doc history) (v : Valid call) where
  same-history : IsHistory doc (history ++ [])
  same-history = subst (IsHistory doc) (sym (append-nil history)) h

  with-answered : (b : Bool) → (apply (replay doc history) call).moved ≡ b → (s : Submitted) → IsHistory doc (history ++ gained n call s b)
  with-answered true m (Answered reply) = record {
    valid = All-push (λ item. Valid item.1) history (n, call) h.valid v;
    moving = moves-with doc history n call h.moving m;
  }
  with-answered false m (Answered reply) = same-history
  with-answered b m NoMemory = same-history
  with-answered b m DiskFault = same-history
  with-answered b m JournalFull = same-history

pub history-with-gained : HistoryWithGained
history-with-gained doc history n call submitted h v = with-answered doc history n call h v (apply (replay doc history) call).moved refl submitted
