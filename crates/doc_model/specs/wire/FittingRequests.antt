-- Requests that have a written form which is read again: the numbers are in the ranges of their fields, as all are that a
-- program holds, the kind of each sub-request is that of what it asks for, and the limits are kept.
use Rattle.std.specs.Prelude.{ℕ, ◌+◌, ◌<◌, ◌≤◌, ◌^◌, length}
use Rattle.std.specs.List.{sum_by, AllByRecursion}
use Rattle.compact_values.specs.Ids.{FitsExGuid}
use Rattle.doc_model.specs.wire.FittingElements.{FitsElement, FitsRange}
use Rattle.doc_model.specs.rules.Limits.{most_elements, most_objects, most_puts, most_sub_requests}
use Rattle.doc_model.specs.wire.Requests.{puts_in}
use Rattle.doc_model.specs.rules.Weights.{objects_written}
use Rattle.doc_model.specs.wire.WrittenRequests.{IsKindOf}
use Rattle.doc_model.specs.declared.request.CellRequest.{CellRequest}
use Rattle.doc_model.specs.declared.request.WireSub.{WireSub}
use Rattle.doc_model.specs.declared.request.WireKind.{WireKind}
use Rattle.doc_model.specs.declared.request.WireKind.TheVariants.{Access, Pull, Put, Draw, Unknown}

abbrev pub FitsWhat : WireKind → Type 0
FitsWhat Access = Unit {0}
FitsWhat (Pull knowledge) = AllByRecursion FitsRange knowledge.ranges
FitsWhat (Put index expected flags) = FitsExGuid index × FitsExGuid expected
FitsWhat (Draw count) = count < 2 ^ 64
FitsWhat Unknown = Unit {0}

pub record FitsSub (s : WireSub) : Type 0 where
  pub id : s.id < 2 ^ 64
  pub kind : s.kind < 2 ^ 64
  pub kind_of : IsKindOf s.what s.kind
  pub what : FitsWhat s.what

-- how many stream objects are written in a sub-request
abbrev pub objects_in : WireKind → ℕ
objects_in Access = 0
objects_in (Pull knowledge) = 4 + length knowledge.ranges
objects_in (Put index expected flags) = 1
objects_in (Draw count) = 1
objects_in Unknown = 0

-- for it and in it
abbrev pub sub_objects : WireSub → ℕ
sub_objects s = 1 + objects_in s.what

-- in a request
abbrev pub request_objects : CellRequest → ℕ
request_objects r = 2 + sum_by sub_objects r.subs + sum_by objects_written r.elements

pub record FitsRequest (r : CellRequest) : Type 0 where
  pub subs : AllByRecursion FitsSub r.subs
  pub elements : AllByRecursion FitsElement r.elements
  pub few_subs : length r.subs ≤ most_sub_requests
  pub few_puts : puts_in r.subs ≤ most_puts
  pub few_elements : length r.elements ≤ most_elements
  pub few_objects : request_objects r ≤ most_objects
