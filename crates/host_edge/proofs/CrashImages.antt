-- An image that a crash may leave, taken from the record of a disk's calls.
use Rattle.std.proofs.Common.{◌≡◌, ℕ, zero, suc, ◌+◌, ◌-◌, ◌≤◌, min, List, [], ◌∷◌, ◌++◌, length, length-drop, take, drop, refl, sym, ◌∙◌, ap, subst, arith, append_assoc, max, inr}
use Rattle.std.proofs.lemmas.Grind.{common_steps}
use Rattle.std.proofs.lemmas.List.{append-nil, take_all}
use lib.Seq.{drop-drop}
use Rattle.std.specs.Prelude.{replicate}
use Rattle.host_edge.specs.Disks.{written, Torn}
use Rattle.host_edge.specs.MemDisks.{Event, Nothing, Wrote, Synced, events, spent, event_of, size_of, read_after, images_after, Leaves, read_of, image_of}
use Rattle.host_edge.specs.declared.disk_call.DiskCall.{DiskCall}
use Rattle.host_edge.specs.declared.disk_call.DiskCall.TheVariants.{Asked, Write, Sync}
use Rattle.host_edge.specs.MemDiskLaws.{torn_nothing}
use Rattle.host_edge.proofs.MemDiskSteps.{read_of-more, image_of-more}

-- Some calls are done, and these are left, with the bytes that are still to be taken.
pub record Replayed (all : List Event) (left : List DiskCall) (bytes seen image : List ℕ) : Type 0 where
  pub done : List Event
  pub all_are : all ≡ done ++ events left bytes
  pub fits : spent left ≤ length bytes
  pub read : seen ≡ read_of done
  pub image_is : image_of done image

pub at_first : (calls : List DiskCall) (log : List ℕ) → spent calls ≤ length log → Replayed (events calls log) calls log [] []
at_first calls log fits = record { done = []; all_are = refl; fits = fits; read = refl; image_is = refl }

pub at_last : (all : List Event) (bytes seen image : List ℕ) → Replayed all [] bytes seen image → image_of all image
at_last all bytes seen image r = subst (λ (l : List Event). image_of l image) (sym (r.all_are ∙ append-nil r.done)) r.image_is

events-first : (call : DiskCall) (more : List DiskCall) (bytes : List ℕ)
    → events (call ∷ more) bytes ≡ event_of call (take (size_of call) bytes) ∷ events more (drop (size_of call) bytes)
events-first Asked more bytes = refl
events-first (Write place size done) more bytes = refl
events-first Sync more bytes = refl

pub spent-first : (call : DiskCall) (more : List DiskCall) → spent (call ∷ more) ≡ size_of call + spent more
spent-first Asked more = omega arith
spent-first (Write place size done) more = omega arith
spent-first Sync more = omega arith

image_goes_on : (event : Event) (seen old new : List ℕ) (images : List ℕ → Type 0) → images old → Leaves event seen old new → images_after event seen images new
image_goes_on Nothing seen old new images here is = subst images (sym is) here
image_goes_on (Wrote place bytes done) seen old new images here torn = (old, here, torn)
image_goes_on Synced seen old new images here is = is

pub replayed_on : (all : List Event) (call : DiskCall) (more : List DiskCall) (bytes seen image seen_now image_now : List ℕ)
    → Replayed all (call ∷ more) bytes seen image
    → seen_now ≡ read_after (event_of call (take (size_of call) bytes)) seen
    → Leaves (event_of call (take (size_of call) bytes)) seen image image_now
    → Replayed all more (drop (size_of call) bytes) seen_now image_now
replayed_on all call more bytes seen image seen_now image_now r read left =
    let event = event_of call (take (size_of call) bytes) in
    record {
      done = r.done ++ event ∷ [];
      all_are = r.all_are ∙ ap (λ (l : List Event). r.done ++ l) (events-first call more bytes)
          ∙ sym (append_assoc r.done (event ∷ []) (events more (drop (size_of call) bytes)));
      fits = less (spent more) (size_of call) bytes (spent-first call more) r.fits;
      read = read ∙ ap (read_after event) r.read ∙ sym (read_of-more r.done event);
      image_is = (image_of-more r.done event image_now).1 (subst (λ (s : List ℕ). images_after event s (image_of r.done) image_now) r.read (image_goes_on event seen image image_now (image_of r.done) r.image_is left));
    }
  where
    less : (rest size : ℕ) (bytes : List ℕ) → spent (call ∷ more) ≡ size + rest → spent (call ∷ more) ≤ length bytes → rest ≤ length (drop size bytes)
    less rest size bytes is le = grind (arith, common_steps, is, le)

drop_past : (xs ys : List ℕ) (k : ℕ) → length xs ≤ k → drop k (xs ++ ys) ≡ drop (k - length xs) ys
drop_past [] ys k le = ap (λ (n : ℕ). drop n ys) (omega arith)
drop_past (x ∷ xs) ys zero le = absurd (omega arith)
drop_past (x ∷ xs) ys (suc k) le = drop_past xs ys k (omega (arith, le)) ∙ ap (λ (n : ℕ). drop n ys) (omega arith)

length_before : (place : ℕ) (part old : List ℕ) → length (take place old ++ replicate (place - length old) 0 ++ part) ≡ place + length part
length_before place part old = grind (arith, common_steps)

-- one call more of a list
pub replayed_at : (all : List Event) (calls : List DiskCall) (at size : ℕ) (call : DiskCall) (bytes seen image seen_now image_now : List ℕ)
    → Replayed all (drop at calls) bytes seen image → drop at calls ≡ call ∷ drop (at + 1) calls → size ≡ size_of call
    → seen_now ≡ read_after (event_of call (take size bytes)) seen → Leaves (event_of call (take size bytes)) seen image image_now
    → Replayed all (drop (at + 1) calls) (take (length bytes - size) (drop size bytes)) seen_now image_now
replayed_at all calls at size call bytes seen image seen_now image_now r here size_is read left =
    let was : Replayed all (call ∷ drop (at + 1) calls) bytes seen image = subst (λ (l : List DiskCall). Replayed all l bytes seen image) here r in
    let now : Replayed all (drop (at + 1) calls) (drop (size_of call) bytes) seen_now image_now =
    replayed_on all call (drop (at + 1) calls) bytes seen image seen_now image_now was
    (read ∙ ap (λ (n : ℕ). read_after (event_of call (take n bytes)) seen) size_is) (subst (λ (n : ℕ). Leaves (event_of call (take n bytes)) seen image image_now) size_is left) in
    let same : drop (size_of call) bytes ≡ take (length bytes - size) (drop size bytes) =
    ap (λ (n : ℕ). drop n bytes) (sym size_is) ∙ sym (take_all (length bytes - size) (drop size bytes) (omega (arith, length-drop size bytes))) in
    subst (λ (l : List ℕ). Replayed all (drop (at + 1) calls) l seen_now image_now) same now

-- fewer bytes, written at the same place
module _ (place byte : ℕ) (more old : List ℕ) where
  abbrev part : List ℕ
  part = byte ∷ more

  part_before : take (min place (length old)) (written place part old) ≡ take place old
  part_before = grind (arith, common_steps)

  part_after : (bytes : List ℕ) → length part ≤ length bytes → drop (place + length bytes) (written place part old) ≡ drop (place + length bytes) old
  part_after bytes le =
      let xs = take place old ++ replicate (place - length old) 0 ++ part in
      let long : length xs ≡ place + length part = length_before place part old in
      drop_past xs (drop (place + length part) old) (place + length bytes) (omega (arith, long, le))
      ∙ drop-drop (place + length bytes - length xs) (place + length part) old
      ∙ ap (λ (k : ℕ). drop k old) (omega (arith, long, le))

  part_long : length (written place part old) ≡ max (length old) (place + length part)
  part_long = grind (arith, common_steps)

-- a front of the bytes may be all that was written of them
pub front_torn : (place n : ℕ) (bytes old : List ℕ) → n ≤ length bytes → Torn place bytes old (written place (take n bytes) old)
front_torn place zero bytes old le = torn_nothing place bytes old
front_torn place (suc n) [] old le = absurd (omega (arith, le))
front_torn place (suc n) (byte ∷ more) old le =
    let short : length (take n more) ≤ length more = grind (arith, common_steps) in
    record {
      before = part_before place byte (take n more) old;
      after = part_after place byte (take n more) old (byte ∷ more) (omega (arith, short));
      no_shorter = omega (arith, part_long place byte (take n more) old);
      no_longer = omega (arith, part_long place byte (take n more) old, short);
      none = λ empty. absurd (omega (arith, empty));
      one = λ long inside. inr (ap (λ (l : List ℕ). written place (byte ∷ l) old) (take_all n more (omega (arith, long))));
    }
