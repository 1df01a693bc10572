-- What one turn does outside.
use Rattle.std.proofs.Common.{◌≡◌, ◌<◌, ℕ, List, [], ◌∷◌, drop, length, map, Option, Some, None, refl, sym, ap, subst, ◌∙◌}
use Rattle.std.specs.Prelude.{IfSome, set, slice_get, slice_index}
use Rattle.std.proofs.Math.ListN.{get_or}
use Rattle.std.proofs.lemmas.Option.{slice_get-map, slice_get-get_or}
use Rattle.std.specs.Option.{option_map}
use Rattle.std.specs.Io.KnownBytes.{Appends, Consumes, IsAtEnd, Keeps}
use Rattle.host_edge.specs.Causes.{Rose}
use Rattle.host_edge.specs.Streams.{AppendsFront}
use Rattle.std.proofs.lemmas.List.{append-nil, map-set}
use Rattle.std.proofs.KnownBytes.{Consumes-nil, Appends-nil}
use Rattle.doc_model.specs.declared.call.Call.{Call}
use Rattle.doc_model.specs.declared.reply.Submitted.{Submitted}
use Rattle.session_loop.specs.Courses.{ends, wrote, told, made, counted}
use Rattle.session_loop.specs.Documents.{Kept, IsSubmitted, IsLone}
use Rattle.session_loop.specs.Driving.{View, Tells, Passed, Stops, read_fault, write_fault, wanting, at_end, IsSourceEnd}
use Rattle.session_loop.specs.Sessions.{Machine, Future, Closes, WantsIs, IsSettled, IsCallOf}
use Rattle.session_loop.specs.declared.stage.Stage.{Stage}
use Rattle.session_loop.specs.declared.want.SessionEnd.{SessionEnd}
use Rattle.session_loop.specs.declared.want.SessionEnd.TheVariants.{ReadFault, WriteFault, NoMemory}
use Rattle.session_loop.specs.declared.want.Want.{Want}
use Rattle.session_loop.specs.declared.want.Want.TheVariants.{Bytes, Moment, Submit, Front, Write, End}
use Rattle.session_loop.proofs.Joining.{tells_nothing}
use Rattle.session_loop.proofs.Wanting.{writing, written_passes, told_passes, made_passes, counted_passes, bytes_end}

module _ (v : View) where
  pub read_passed : (left : Option (List ℕ)) (faults : ℕ) (bytes : List ℕ) → Consumes v.left left bytes → faults ≡ v.read_faults
      → Passed v (record v { left = left; read_faults = faults }) bytes []
  read_passed left faults bytes consumes same =
      record { left = consumes; read_faults = same; held = Appends-nil v.held; write_faults = refl; told = tells_nothing v.told; docs = refl }

  pub told_passed : (after : Option (List ℕ)) (moment : ℕ) → Tells v.told after (moment ∷ []) → Passed v (record v { told = after }) [] (told moment ∷ [])
  told_passed after moment tells =
      record { left = Consumes-nil v.left; read_faults = refl; held = Appends-nil v.held; write_faults = refl; told = tells; docs = refl }

  pub written_passed : (held : Option (List ℕ)) (faults : ℕ) (text : List ℕ) → Appends v.held held text → faults ≡ v.write_faults
      → Passed v (record v { held = held; write_faults = faults }) [] (wrote text ∷ [])
  written_passed held faults text appends same =
      record { left = Consumes-nil v.left; read_faults = refl; held = subst (Appends v.held held) (sym (append-nil text)) appends; write_faults = same; told = tells_nothing v.told; docs = refl }

  pub made_passed : (docs : List Kept) (doc : ℕ) (call : Call) (submitted : Submitted) (k n : Kept) → slice_get v.docs doc ≡ Some k → IsLone submitted → IsSubmitted k call submitted n → docs ≡ set v.docs doc n
      → Passed v (record v { docs = docs }) [] (made doc call submitted ∷ [])
  made_passed docs doc call submitted k n at lone is after =
      record { left = Consumes-nil v.left; read_faults = refl; held = Appends-nil v.held; write_faults = refl; told = tells_nothing v.told; docs = (k, n, at, lone, is, after) }

  pub made_of : {X : Type 0} (see : X → Kept) (docs : List X) (doc : ℕ) (d n : X) (call : Call) (submitted : Submitted) → v.docs ≡ map see docs → doc < length docs → IsLone submitted
      → IsSubmitted (see (get_or docs doc d)) call submitted (see n) → Passed v (record v { docs = map see (set docs doc n) }) [] (made doc call submitted ∷ [])
  made_of see docs doc d n call submitted docs_are within lone is =
      made_passed (map see (set docs doc n)) doc call submitted (see (get_or docs doc d)) (see n)
      (ap (λ (l : List Kept). slice_get l doc) docs_are ∙ slice_get-map see docs doc ∙ ap (option_map see) (slice_get-get_or docs doc d within)) lone is
      (map-set see docs doc n ∙ ap (λ (l : List Kept). set l doc (see n)) (sym docs_are))

  pub counted_passed : (doc count : ℕ) (k : Kept) → slice_get v.docs doc ≡ Some k → count ≡ k.front → Passed v v [] (counted doc count ∷ [])
  counted_passed doc count k at is =
      record { left = Consumes-nil v.left; read_faults = refl; held = Appends-nil v.held; write_faults = refl; told = tells_nothing v.told; docs = (k, at, is, refl) }

  pub counted_of : {X : Type 0} (see : X → Kept) (docs : List X) (doc count : ℕ) (d : X) → v.docs ≡ map see docs → doc < length docs → d ≡ get_or docs doc d → count ≡ (see d).front
      → Passed v v [] (counted doc count ∷ [])
  counted_of see docs doc count d docs_are within there is =
      counted_passed doc count (see d)
      (ap (λ (l : List Kept). slice_get l doc) docs_are ∙ slice_get-map see docs doc ∙ ap (option_map see) (slice_get-get_or docs doc d within ∙ ap Some (sym there))) is

-- ---- the end of the run

same_end : (a b : SessionEnd) → ◌≡◌ {A = Want} (End a) (End b) → a ≡ b
same_end a b e = cc

same_ends : (a b : SessionEnd) → ends a ≡ ends b → a ≡ b
same_ends a b e = cc

-- the source has ended, and the session with it
pub source_over : (v : View) (old left : Option (List ℕ)) (before faults : ℕ) (m n : Machine) (end : SessionEnd) → v.left ≡ old → v.read_faults ≡ before
    → Consumes old left [] → IsAtEnd left → faults ≡ before → Closes m n → WantsIs n.stage (End end)
    → IsSettled m → WantsIs m.stage Bytes → Stops v (record v { left = left; read_faults = faults }) m end
source_over v old left before faults m n end left_is before_is consumes none_left same closes over_now settled wants =
    let is : end ≡ closes.end = same_end end closes.end (subst (λ (st : Stage). WantsIs st (End end)) closes.stage over_now) in
    let e = bytes_end m settled wants in
    at_end end (read_passed v left faults [] (subst (λ (l : Option (List ℕ)). Consumes l left []) (sym left_is) consumes) (same ∙ sym before_is))
    none_left (subst IsSourceEnd (same_ends e.0 closes.end (closes.tracks (ends e.0) e.2) ∙ sym is) e.1) (subst (λ (x : SessionEnd). Future m [] (ends x)) (sym is) closes.leads)

pub source_failed : (v : View) (old left : Option (List ℕ)) (before faults : ℕ) (m : Machine) → v.left ≡ old → v.read_faults ≡ before
    → Keeps old left → Rose before faults → IsSettled m → WantsIs m.stage Bytes → Stops v (record v { left = left; read_faults = faults }) m ReadFault
source_failed v old left before faults m left_is before_is keeps rose settled wants =
    let e = bytes_end m settled wants in
    read_fault e.0 (record {
      rose = subst (λ (n : ℕ). Rose n faults) (sym before_is) rose;
      left = subst (λ (l : Option (List ℕ)). Keeps l left) (sym left_is) keeps;
      rest = refl;
    }) e.1 e.2

pub sink_failed : (v : View) (old held : Option (List ℕ)) (before faults : ℕ) (m : Machine) (text : List ℕ) → v.held ≡ old → v.write_faults ≡ before
    → AppendsFront old held text → text ≡ m.output → Rose before faults → WantsIs m.stage Write → Stops v (record v { held = held; write_faults = faults }) m WriteFault
sink_failed v old held before faults m text held_is before_is front text_is rose wants =
    write_fault m.output (record {
      rose = subst (λ (n : ℕ). Rose n faults) (sym before_is) rose;
      held = subst (λ (l : Option (List ℕ)). AppendsFront l held m.output) (sym held_is) (subst (AppendsFront old held) text_is front);
      rest = refl;
    }) (writing m wants)

-- no memory for the bytes that came
pub bytes_wanting : (v w : View) (m : Machine) (bytes : List ℕ) → Passed v w bytes [] → Stops v w m NoMemory
bytes_wanting v w m bytes passed = wanting bytes [] passed (λ rest c future. (c, refl))

pub told_wanting : (v w : View) (m : Machine) (moment : ℕ) → Passed v w [] (told moment ∷ []) → WantsIs m.stage Moment → Stops v w m NoMemory
told_wanting v w m moment passed wants =
    wanting [] (told moment ∷ []) passed (λ rest c future. let x = told_passes m moment wants rest c future in (x.0, (x.0, x.1, refl)))

pub written_wanting : (v w : View) (m : Machine) → Passed v w [] (wrote m.output ∷ []) → WantsIs m.stage Write → Stops v w m NoMemory
written_wanting v w m passed wants =
    wanting [] (wrote m.output ∷ []) passed (λ rest c future. let x = written_passes m wants rest c future in (x.0, (x.0, x.1, refl)))

pub made_wanting : (v w : View) (m : Machine) (doc : ℕ) (call : Call) (submitted : Submitted) → Passed v w [] (made doc call submitted ∷ []) → WantsIs m.stage (Submit doc) → IsCallOf m call
    → Stops v w m NoMemory
made_wanting v w m doc call submitted passed wants out =
    wanting [] (made doc call submitted ∷ []) passed (λ rest c future. let x = made_passes m doc call submitted wants out rest c future in (x.0, (x.0, x.1, refl)))

pub counted_wanting : (v w : View) (m : Machine) (doc count : ℕ) → Passed v w [] (counted doc count ∷ []) → WantsIs m.stage (Front doc) → Stops v w m NoMemory
counted_wanting v w m doc count passed wants =
    wanting [] (counted doc count ∷ []) passed (λ rest c future. let x = counted_passes m doc count wants rest c future in (x.0, (x.0, x.1, refl)))

-- ---- one moment

pub told_one : (old left : Option (List ℕ)) (moment : ℕ) → IfSome old (λ due. moment ≡ slice_index due 0) → left ≡ option_map (drop 1) old → Tells old left (moment ∷ [])
told_one None left moment first rest = tt
told_one (Some due) left moment first rest = subst (λ (l : Option (List ℕ)). Tells (Some due) l (moment ∷ [])) (sym rest) (first, refl)
