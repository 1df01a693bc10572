-- Objects as they are written, in the header forms that are chosen on writing (MS-FSSHTTPB 2.2.1.5).
use Rattle.std.specs.Prelude.{ℕ, Bool, true, false, List, ◌++◌, length}
use Rattle.stream_objects.specs.Headers.{start_bytes, start_form, end_bytes, end_form}

-- a start and the fields behind it
unfoldable pub started : ℕ → Bool → List ℕ → List ℕ
started kind compound fields = start_bytes (start_form kind (length fields)) kind compound (length fields) ++ fields

abbrev pub simple_object : ℕ → List ℕ → List ℕ
simple_object kind fields = started kind false fields

-- the children, and the end behind them
abbrev pub compound_object : ℕ → List ℕ → List ℕ → List ℕ
compound_object kind fields children = started kind true fields ++ (children ++ end_bytes (end_form kind) kind)
