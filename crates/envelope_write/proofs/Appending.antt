-- One turn of each loop over versions, subrequests and Requests.
use Rattle.std.proofs.Common.{◌≡◌, ℕ, ◌<◌, ◌≤◌, ◌+◌, List, ◌∷◌, ◌++◌, length, get_or, take, drop, sym, ap, ◌∙◌, append_assoc}
use Rattle.std.proofs.lemmas.List.{append-nil, drop_more, drop_all}
use Rattle.doc_model.specs.declared.doc.Commit.{Commit}
use Rattle.envelope_read.specs.Callable.{subs_of}
use Rattle.envelope_read.specs.declared.collection.Ask.{Ask}
use Rattle.envelope_read.specs.declared.collection.SubAsk.{SubAsk}
use Rattle.envelope_read.specs.declared.outcome.Outcome.{Outcome}
use Rattle.envelope_write.specs.AnswerText.{version_text, versions_text, sub_text, subs_text, response_text, responses_text}

here : {X : Type 0} (xs : List X) (i : ℕ) (x : X) → i < length xs → x ≡ get_or xs i x → drop i xs ≡ x ∷ drop (i + 1) xs
here {X} xs i x lt is = drop_more xs i x lt ∙ ap (λ (y : X). y ∷ drop (i + 1) xs) (sym is)

pub versions_more : (out : List ℕ) (commits : List Commit) (i : ℕ) (commit : Commit) → i < length commits → commit ≡ get_or commits i commit
    → out ++ versions_text (i + 1) (drop i commits) ≡ (out ++ version_text (i + 1) commit) ++ versions_text (i + 1 + 1) (drop (i + 1) commits)
unfolding versions_text
versions_more out commits i commit lt is =
    rw (here commits i commit lt is) (sym (append_assoc out (version_text (i + 1) commit) (versions_text (i + 1 + 1) (drop (i + 1) commits))))

pub versions_end : (out : List ℕ) (commits : List Commit) (number i : ℕ) → length commits ≤ i → out ++ versions_text number (drop i commits) ≡ out
unfolding versions_text
versions_end out commits number i le = ap (λ (l : List Commit). out ++ versions_text number l) (drop_all i commits le) ∙ append-nil out

pub subs_more : (out : List ℕ) (subs : List SubAsk) (outcomes : List Outcome) (i : ℕ) (sub : SubAsk) (outcome : Outcome) → i < length subs → i < length outcomes
    → sub ≡ get_or subs i sub → outcome ≡ get_or outcomes i outcome
    → out ++ subs_text (drop i subs) (drop i outcomes) ≡ (out ++ sub_text sub outcome) ++ subs_text (drop (i + 1) subs) (drop (i + 1) outcomes)
unfolding subs_text
subs_more out subs outcomes i sub outcome lt less s o =
    rw (here subs i sub lt s, here outcomes i outcome less o) (sym (append_assoc out (sub_text sub outcome) (subs_text (drop (i + 1) subs) (drop (i + 1) outcomes))))

pub subs_end : (out : List ℕ) (subs : List SubAsk) (outcomes : List Outcome) (i : ℕ) → length subs ≤ i → out ++ subs_text (drop i subs) (drop i outcomes) ≡ out
unfolding subs_text
subs_end out subs outcomes i le = ap (λ (l : List SubAsk). out ++ subs_text l (drop i outcomes)) (drop_all i subs le) ∙ append-nil out

pub responses_more : (out : List ℕ) (asks : List Ask) (rest : List Outcome) (i : ℕ) (ask : Ask) → i < length asks → ask ≡ get_or asks i ask
    → out ++ responses_text (drop i asks) rest
    ≡ (out ++ response_text ask (take (length ask.subs) rest)) ++ responses_text (drop (i + 1) asks) (drop (length ask.subs) rest)
unfolding responses_text
responses_more out asks rest i ask lt is =
    rw (here asks i ask lt is) (sym (append_assoc out (response_text ask (take (length ask.subs) rest)) (responses_text (drop (i + 1) asks) (drop (length ask.subs) rest))))

pub responses_end : (out : List ℕ) (asks : List Ask) (rest : List Outcome) (i : ℕ) → length asks ≤ i → out ++ responses_text (drop i asks) rest ≡ out
unfolding responses_text
responses_end out asks rest i le = ap (λ (l : List Ask). out ++ responses_text l rest) (drop_all i asks le) ∙ append-nil out

pub subs_of-more : (asks : List Ask) (i : ℕ) (ask : Ask) → i < length asks → ask ≡ get_or asks i ask → subs_of (drop i asks) ≡ length ask.subs + subs_of (drop (i + 1) asks)
subs_of-more asks i ask lt is = ap subs_of (here asks i ask lt is)
