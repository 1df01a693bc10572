-- On which subrequest one depends.
use Rattle.std.specs.Prelude.{ℕ, List, [], ◌∷◌, codes, if◌then◌else◌}
use Rattle.std.specs.declared.option.Option.{Option}
use Rattle.std.specs.declared.option.Option.TheVariants.{Some, None}
use Rattle.std.specs.Str.{bytes_eq}
use Rattle.envelope_grammar.specs.declared.tag.Attribute.{Attribute}
use Rattle.envelope_read.specs.declared.collection.Depend.{Depend}
use Rattle.envelope_read.specs.declared.collection.Depend.TheVariants.{Free, On, Bad}
use Rattle.envelope_read.specs.declared.collection.DependWord.{DependWord}
use Rattle.envelope_read.specs.declared.collection.DependWord.TheVariants as words
use Rattle.envelope_read.specs.Lookup.{bytes_of, text_of}

unfoldable pub depend_word : List ℕ → Option DependWord
depend_word word =
    if bytes_eq word (codes "OnExecute") then Some words.OnExecute
    else if bytes_eq word (codes "OnSuccess") then Some words.OnSuccess
    else if bytes_eq word (codes "OnFail") then Some words.OnFail
    else if bytes_eq word (codes "OnNotSupported") then Some words.OnNotSupported
    else if bytes_eq word (codes "OnSuccessOrNotSupported") then Some words.OnSuccessOrNotSupported
    else None

abbrev pub depend_on : List ℕ → Option DependWord → Depend
depend_on token None = Bad
depend_on token (Some word) = On token word

abbrev pub depend_from : List ℕ → Option DependWord → Depend
depend_from [] word = Free
depend_from (c ∷ token) word = depend_on (c ∷ token) word

-- an absent or empty DependsOn is no dependency
abbrev pub depend_of : List Attribute → Depend
depend_of attributes = depend_from (text_of (codes "DependsOn") attributes) (depend_word (bytes_of (codes "DependencyType") attributes))
