-- Reading elements with their serial numbers, which aren't null: what they say, or where the fields of the first object start
-- that isn't in its form.
use Rattle.std.specs.Prelude.{ℕ, List, [], ◌∷◌, ◌++◌, Option, Some, None, Result, Ok, Err}
use Rattle.compact_values.specs.declared.ids.ExGuid.{ExGuid}
use Rattle.compact_values.specs.declared.ids.Serial.{Serial}
use Rattle.compact_values.specs.declared.ids.Serial.TheVariants.{Null, Number}
use Rattle.stream_objects.specs.declared.tree.Tree.{Tree}
use Rattle.stream_objects.specs.Objects.{start_of, children_of}
use Rattle.stream_objects.specs.Gathering.{and_then}
use Rattle.stream_objects.specs.declared.object_types.TheConstants.{DATA_ELEMENT}
use Rattle.doc_model.specs.readers.ElementSites.{element_row}
use Rattle.doc_model.specs.declared.element.Body.{Body}
use Rattle.doc_model.specs.declared.element.NumberedElement.{NumberedElement}
use Rattle.data_elements.specs.Rows.{package_row}
use Rattle.data_elements.specs.Reading.{body_at}

abbrev pub numbered_of : ExGuid → ℕ → Result Body ℕ → Result NumberedElement ℕ
numbered_of id value (Ok body) = Ok (record { serial = value; element = record { id = id; body = body } })
numbered_of id value (Err place) = Err place

abbrev pub numbered_by : List ℕ → Tree → ExGuid → ℕ → Serial → Result NumberedElement ℕ
numbered_by input t id kind (Number guid value) = numbered_of id value (body_at input kind t)
numbered_by input t id kind Null = Err (start_of t)

abbrev pub numbered_with : List ℕ → Tree → Option (ExGuid × (Serial × ℕ)) → Result NumberedElement ℕ
numbered_with input t (Some f) = numbered_by input t f.0 f.1.1 f.1.0
numbered_with input t None = Err (start_of t)

unfoldable pub numbered_at : List ℕ → Tree → Result NumberedElement ℕ
numbered_at input t = numbered_with input t (element_row input t)

abbrev pub numbered_from : List ℕ → List NumberedElement → List Tree → Result (List NumberedElement) ℕ
numbered_from input ns [] = Ok ns
numbered_from input ns (t ∷ ts) = and_then (numbered_at input t) (λ n. numbered_from input (ns ++ n ∷ []) ts)

abbrev pub numbered_package_with : List ℕ → Tree → Option ℕ → Result (List NumberedElement) ℕ
numbered_package_with input t (Some b) = numbered_from input [] (children_of DATA_ELEMENT t)
numbered_package_with input t None = Err (start_of t)

unfoldable pub numbered_package_at : List ℕ → Tree → Result (List NumberedElement) ℕ
numbered_package_at input t = numbered_package_with input t (package_row input t)
