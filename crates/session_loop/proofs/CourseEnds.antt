-- No fault of a source or a sink is an end of a course.
use Rattle.std.proofs.Common.{◌-◌, ℕ, List, [], ◌∷◌, Bool, true, false, sym, subst}
use Rattle.std.specs.Prelude.{if◌then◌else◌}
use Rattle.doc_model.specs.declared.reply.Reply.TheVariants.{Done, Access, Pulled, Stored, Drawn, Locked, VersionList, File, Lone, Me, Refused}
use Rattle.doc_model.specs.declared.reply.Submitted.{Submitted}
use Rattle.doc_model.specs.declared.reply.Submitted.TheVariants.{Answered, DiskFault, JournalFull, NoMemory}
use Rattle.collection_run.specs.Collections.{process}
use Rattle.collection_run.specs.Processes.{Process, says, calls}
use Rattle.session_loop.specs.Cutting.{Wish, envelope, front, file, Request, Ending, ended, cut_off, refused, refused_envelope, is_last}
use Rattle.session_loop.specs.Courses.{Course, ends, writes, tells, makes, counts, Event, wrote, told, made, counted, Passes, PassesAll, run, file_answered, granted, ending_course, course}
use Rattle.session_loop.specs.Driving.{Served, IsCourseEnd}
use Rattle.session_loop.specs.declared.want.SessionEnd.{SessionEnd}
use Rattle.session_loop.specs.declared.want.SessionEnd.TheVariants.{Ended}

-- whatever it is told and given
abbrev EndsSo : Course → Type 0
EndsSo (ends end) = IsCourseEnd end
EndsSo (writes text go_on) = EndsSo go_on
EndsSo (tells go_on) = (moment : ℕ) → EndsSo (go_on moment)
EndsSo (makes doc call go_on) = (submitted : Submitted) → EndsSo (go_on submitted)
EndsSo (counts doc go_on) = (count : ℕ) → EndsSo (go_on count)

behind : (c : Course) (event : Event) (d : Course) → Passes c event d → EndsSo c → EndsSo d
behind (ends end) (wrote text) d passes so = absurd passes
behind (ends end) (told moment) d passes so = absurd passes
behind (ends end) (made doc call submitted) d passes so = absurd passes
behind (ends end) (counted doc count) d passes so = absurd passes
behind (writes text go_on) (wrote said) d passes so = subst EndsSo (sym passes.1) so
behind (writes text go_on) (told moment) d passes so = absurd passes
behind (writes text go_on) (made doc call submitted) d passes so = absurd passes
behind (writes text go_on) (counted doc count) d passes so = absurd passes
behind (tells go_on) (wrote text) d passes so = absurd passes
behind (tells go_on) (told moment) d passes so = subst EndsSo (sym passes) (so moment)
behind (tells go_on) (made doc call submitted) d passes so = absurd passes
behind (tells go_on) (counted doc count) d passes so = absurd passes
behind (makes doc call go_on) (wrote text) d passes so = absurd passes
behind (makes doc call go_on) (told moment) d passes so = absurd passes
behind (makes doc call go_on) (made place asked submitted) d passes so = subst EndsSo (sym passes.2) (so submitted)
behind (makes doc call go_on) (counted place count) d passes so = absurd passes
behind (counts doc go_on) (wrote text) d passes so = absurd passes
behind (counts doc go_on) (told moment) d passes so = absurd passes
behind (counts doc go_on) (made place call submitted) d passes so = absurd passes
behind (counts doc go_on) (counted place count) d passes so = subst EndsSo (sym passes.1) (so count)

behind_all : (events : List Event) (c d : Course) → PassesAll c events d → EndsSo c → EndsSo d
behind_all [] c d is so = subst EndsSo (sym is) so
behind_all (event ∷ events) c d (m, passes, rest) so = behind_all events m d rest (behind c event m passes so)

-- ---- the course of the requests

run_so : (p : Process) (go_on : List ℕ → Course) → ((text : List ℕ) → EndsSo (go_on text)) → EndsSo (run p go_on)
run_so (says text) go_on so = so text
run_so (calls doc call next) go_on so = λ submitted. run_so (next submitted) go_on so

file_so : (submitted : Submitted) (close : Bool) (go_on : Course) → EndsSo go_on → EndsSo (file_answered submitted close go_on)
file_so (Answered (File bytes)) close go_on so = so
file_so (Answered Done) close go_on so = tt
file_so (Answered Access) close go_on so = tt
file_so (Answered (Pulled guid index elements knowledge)) close go_on so = tt
file_so (Answered (Stored knowledge)) close go_on so = tt
file_so (Answered (Drawn guid least greatest)) close go_on so = tt
file_so (Answered (Locked guid kind status)) close go_on so = tt
file_so (Answered (VersionList commits)) close go_on so = tt
file_so (Answered (Lone alone)) close go_on so = tt
file_so (Answered (Me user)) close go_on so = tt
file_so (Answered (Refused code)) close go_on so = tt
file_so DiskFault close go_on so = tt
file_so JournalFull close go_on so = tt
file_so NoMemory close go_on so = tt

granted_so : (names : List (List ℕ)) (moment : ℕ) (user : List ℕ) (wish : Wish) (close : Bool) (go_on : Course) → EndsSo go_on → EndsSo (granted names moment user wish close go_on)
granted_so names moment user (envelope collection) close go_on so = run_so (process (record { names = names; moment = moment; user = user }) collection) _ (λ text. so)
granted_so names moment user (front doc) close go_on so = λ count. so
granted_so names moment user (file doc) close go_on so = λ submitted. file_so submitted close go_on so

ending_so : (ending : Ending) → EndsSo (ending_course ending)
ending_so ended = tt
ending_so cut_off = tt
ending_so (refused status) = tt
ending_so (refused_envelope status) = λ moment. tt

last_so : (last : Bool) (go_on : Course) → EndsSo go_on → EndsSo (if last then ends Ended else go_on)
last_so true go_on so = tt
last_so false go_on so = so

course_so : (requests : List Request) (names : List (List ℕ)) (left : ℕ) (ending : Ending) → EndsSo (course names left requests ending)
course_so [] names left ending = ending_so ending
course_so (r ∷ requests) names left ending = λ moment.
    granted_so names moment r.user r.wish (is_last left r.close) _ (last_so (is_last left r.close) _ (course_so requests names (left - 1) ending))

pub served_end : (names : List (List ℕ)) (bytes : List ℕ) (events : List Event) (end : SessionEnd) → Served names bytes events end → IsCourseEnd end
served_end names bytes events end s =
    behind_all events (course names 10_000 s.requests s.ending) (ends end) s.takes (course_so s.requests names 10_000 s.ending)
