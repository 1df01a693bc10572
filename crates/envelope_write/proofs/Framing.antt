-- The text before the Responses and behind them is that of the elements round them.
use Rattle.std.proofs.Common.{◌≡◌, ℕ, List, ◌++◌, sym, ap, ◌∙◌, append_assoc}
use Rattle.std.specs.Prelude.{codes}
use Rattle.envelope_write.specs.AnswerText.{envelope_holding}
use Rattle.envelope_write.specs.Xml.{escape, escaped, attributes_text, start_tag, end_tag}

abbrev pub front : List ℕ
front = codes "<?xml version=\"1.0\" encoding=\"utf-8\"?><s:Envelope xmlns:s=\"http://schemas.xmlsoap.org/soap/envelope/\"><s:Body><ResponseVersion Version=\"2\" MinorVersion=\"2\" xmlns=\"http://schemas.microsoft.com/sharepoint/soap/\"/><ResponseCollection WebUrl=\"/\" xmlns=\"http://schemas.microsoft.com/sharepoint/soap/\">"

abbrev pub back : List ℕ
back = codes "</ResponseCollection></s:Body></s:Envelope>"

ends : (r a b c : List ℕ) → ((r ++ a) ++ b) ++ c ≡ r ++ (a ++ (b ++ c))
ends r a b c = append_assoc (r ++ a) b c ∙ append_assoc r a (b ++ c)

pub framed : (responses : List ℕ) → (front ++ responses) ++ back ≡ envelope_holding responses
unfolding envelope_holding escape escaped attributes_text start_tag end_tag
framed responses =
    append_assoc front responses back
    ∙ ap (λ (l : List ℕ). front ++ l) (sym (ends responses (codes "</ResponseCollection>") (codes "</s:Body>") (codes "</s:Envelope>")))
