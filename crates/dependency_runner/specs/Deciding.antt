-- Whether a subrequest is run, by those before it in its Request (MS-FSSHTTP 2.2.3, DependsOn and DependencyType).
use Rattle.std.specs.Prelude.{ℕ, List, [], ◌∷◌, Option, Some, None, if◌then◌else◌}
use Rattle.std.specs.Str.{bytes_eq}
use Rattle.dependency_runner.specs.declared.state.Before.{Before}
use Rattle.dependency_runner.specs.declared.deciding.Decision.{Decision}
use Rattle.dependency_runner.specs.declared.deciding.Decision.TheVariants.{Run, Skip}
use Rattle.envelope_read.specs.declared.collection.Depend.{Depend}
use Rattle.envelope_read.specs.declared.collection.Depend.TheVariants.{Free, On, Bad}
use Rattle.envelope_read.specs.declared.collection.DependWord.{DependWord}
use Rattle.envelope_read.specs.declared.collection.DependWord.TheVariants as words
use Rattle.envelope_read.specs.declared.outcome.Skip.TheVariants as reasons
use Rattle.dependency_runner.specs.declared.state.State.{State}
use Rattle.dependency_runner.specs.declared.state.State.TheVariants as states
use Rattle.envelope_read.specs.declared.outcome.CellWord.TheVariants.{Fine}
use Rattle.envelope_read.specs.declared.outcome.Outcome.{Outcome}
use Rattle.envelope_read.specs.declared.outcome.Outcome.TheVariants.{Plain, Cell, NotSupported, BadArgument, NoDocument, Skipped}
use Rattle.doc_model.specs.declared.reply.Reply.TheVariants.{Refused}
use Rattle.doc_model.specs.declared.reply.Submitted.TheVariants.{Answered}

-- ---- what became of a subrequest

-- by its ErrorCode: Success, RequestNotSupported, one of those that tell why it wasn't executed, or another
abbrev pub state_of : Outcome → State
state_of (Plain (Answered (Refused code))) = states.Failed
state_of (Plain (Answered reply)) = states.Success
state_of (Plain submitted) = states.Failed
state_of (Cell bytes Fine) = states.Success
state_of (Cell bytes word) = states.Failed
state_of NotSupported = states.Unsupported
state_of BadArgument = states.Failed
state_of NoDocument = states.Failed
state_of (Skipped why) = states.NotExecuted

abbrev pub or_else : Option State → Option State → Option State
or_else (Some later) found = Some later
or_else None found = found

-- the state of the latest with this token
abbrev pub latest : List ℕ → List Before → Option State
latest token [] = None
latest token (b ∷ later) = or_else (latest token later) (if bytes_eq b.token token then Some b.state else None)

-- ---- whether one is run

-- behind one in this state: behind one that wasn't executed none is, whatever the word
abbrev pub behind : DependWord → State → Decision
behind word states.NotExecuted = Skip reasons.NotExecuted
behind words.OnExecute state = Run
behind words.OnSuccess states.Success = Run
behind words.OnSuccess state = Skip reasons.OnSuccessFailed
behind words.OnSuccessOrNotSupported states.Success = Run
behind words.OnSuccessOrNotSupported states.Unsupported = Run
behind words.OnSuccessOrNotSupported state = Skip reasons.OnSuccessFailed
behind words.OnFail states.Success = Skip reasons.OnFailSucceeded
behind words.OnFail state = Run
behind words.OnNotSupported states.Unsupported = Run
behind words.OnNotSupported state = Skip reasons.OnNotSupportedSupported

abbrev pub behind_latest : DependWord → Option State → Decision
behind_latest word None = Skip reasons.BadDependency
behind_latest word (Some state) = behind word state

-- behind these of its Request
abbrev pub decide : Depend → List Before → Decision
decide Free earlier = Run
decide Bad earlier = Skip reasons.BadDependency
decide (On token word) earlier = behind_latest word (latest token earlier)
