-- What the text of an envelope asks for, or the HTTP status that refuses it.
use Rattle.std.specs.Prelude.{◌≡◌, ◌≤◌, ℕ, ◌+◌, List, [], ◌∷◌, Result, Ok, Err, length, nat_lt, true, false, codes, if◌then◌else◌}
use Rattle.std.specs.declared.option.Option.{Option}
use Rattle.std.specs.declared.option.Option.TheVariants.{Some, None}
use Rattle.envelope_grammar.specs.Front.{text_at}
use Rattle.envelope_grammar.specs.declared.raw.RawRequest.{RawRequest}
use Rattle.envelope_grammar.specs.declared.raw.RawSub.{RawSub}
use Rattle.envelope_read.specs.declared.read.TheConstants.{MOST_SUBS}
use Rattle.envelope_read.specs.Asked.{sub_of}
use Rattle.envelope_read.specs.Lookup.{text_of}
use Rattle.envelope_read.specs.declared.collection.Ask.{Ask}
use Rattle.envelope_read.specs.declared.collection.Collection.{Collection}
use Rattle.envelope_read.specs.declared.collection.SubAsk.{SubAsk}
use Rattle.envelope_read.specs.declared.fault.EnvelopeFault.{EnvelopeFault}
use Rattle.envelope_read.specs.declared.fault.EnvelopeFault.TheVariants.{NotInGrammar, TooMany, BadBase64, NoMemory}

-- subrequests of an envelope
abbrev pub most_subs : ℕ
most_subs = MOST_SUBS

unfoldable pub sub_count : List RawRequest → ℕ
sub_count [] = 0
sub_count (request ∷ requests) = length request.subs + sub_count requests

abbrev pub then_ok : {A B E : Type 0} → Result A E → (A → Result B E) → Result B E
then_ok (Ok x) f = f x
then_ok (Err e) f = Err e

abbrev pub or_number : {A : Type 0} → ℕ → Option A → Result A ℕ
or_number n (Some x) = Ok x
or_number n None = Err n

-- The subrequests, the first of them being the n-th of the envelope, or the number of the first whose base64 is refused.
unfoldable pub subs_from : ℕ → List RawSub → Result (List SubAsk) ℕ
subs_from n [] = Ok []
subs_from n (sub ∷ subs) = then_ok (or_number n (sub_of sub)) (λ x. then_ok (subs_from (n + 1) subs) (λ xs. Ok (x ∷ xs)))

abbrev pub ask_with : RawRequest → List SubAsk → Ask
ask_with request subs = record { url = text_of (codes "Url") request.attributes; token = text_of (codes "RequestToken") request.attributes; subs = subs }

unfoldable pub asks_from : ℕ → List RawRequest → Result (List Ask) ℕ
asks_from n [] = Ok []
asks_from n (request ∷ requests) =
    then_ok (subs_from n request.subs) (λ subs. then_ok (asks_from (n + length request.subs) requests) (λ asks. Ok (ask_with request subs ∷ asks)))

abbrev pub verdict_by : Result (List Ask) ℕ → Result Collection ℕ
verdict_by (Ok asks) = Ok (record { requests = asks })
verdict_by (Err sub) = Err 400

abbrev pub verdict_from : Option (List RawRequest) → Result Collection ℕ
verdict_from None = Err 400
verdict_from (Some requests) = if nat_lt most_subs (sub_count requests) then Err 413 else verdict_by (asks_from 0 requests)

-- 400 where the text is not in the grammar, or holds bad base64; 413 where it has more than 64 subrequests
unfoldable pub verdict : List ℕ → Result Collection ℕ
verdict text = verdict_from (text_at text)

abbrev pub Reads : List ℕ → Result Collection EnvelopeFault → Type 0
Reads text (Ok collection) = verdict text ≡ Ok collection
Reads text (Err (NotInGrammar place)) = verdict text ≡ Err 400
Reads text (Err (BadBase64 sub)) = verdict text ≡ Err 400
Reads text (Err TooMany) = verdict text ≡ Err 413
Reads text (Err NoMemory) = Unit {0}

-- when each refusal comes: the first in this order that holds
abbrev pub Refuses : List ℕ → EnvelopeFault → Type 0
Refuses text (NotInGrammar place) = (text_at text ≡ None) × (place ≤ length text)
Refuses text TooMany = (requests : List RawRequest) × (text_at text ≡ Some requests) × (nat_lt most_subs (sub_count requests) ≡ true)
Refuses text (BadBase64 sub) = (requests : List RawRequest) × (text_at text ≡ Some requests) × (nat_lt most_subs (sub_count requests) ≡ false) × (asks_from 0 requests ≡ Err sub)
Refuses text NoMemory = Unit {0}
