-- Texts in pieces.
pub use Rattle.byte_words.specs.Pieces.{in_front}
unfoldable pub use Rattle.byte_words.specs.Pieces.{pieces}
use Rattle.std.specs.Prelude.{ℕ, ◌==◌, Bool, not, List, filter, length}

-- a text is its bytes
abbrev pub Text : Type 0
Text = List ℕ

abbrev pub newline : ℕ
newline = 10

abbrev pub space : ℕ
space = 32

abbrev pub is_empty : Text → Bool
is_empty text = length text == 0

-- the words of a line, separated by one or more spaces
unfoldable pub words : Text → List Text
words line = filter (λ piece. not (is_empty piece)) (pieces space line)
