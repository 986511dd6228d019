-- The pages that the program writes by itself: `--help` alone and `--version` alone.
use Rattle.std.specs.Prelude.{ℕ, List, [], ◌∷◌, codes, bytes_eq, Option, Some, None, if◌then◌else◌}

abbrev pub page_of : (help version : List ℕ) → List (List ℕ) → Option (List ℕ)
page_of help version (word ∷ []) =
    if bytes_eq word (codes "--help") then Some help
    else if bytes_eq word (codes "--version") then Some version
    else None
page_of help version _ = None
