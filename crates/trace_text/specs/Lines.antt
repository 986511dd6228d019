-- The line of a system call, as strace writes one. Numbers are decimal, but for those that are said to have eight digits:
-- these are hexadecimal, with lower case letters and zeros in front.
use Rattle.std.specs.Prelude.{ℕ, ◌-◌, ◌^◌, ◌==◌, Bool, false, not, ◌||◌, ◌&&◌, nat_le, nat_lt, if◌then◌else◌, List, [], ◌∷◌, ◌++◌, length, replicate, take, codes, decimal, Option, Some, None}
use Rattle.std.specs.List.{flat_map}
use Rattle.std.specs.Fmt.{digits}
use Rattle.call_log.specs.Notes.{CallEntry}
use Rattle.call_log.specs.Lines.{joined, word_digits}
use Rattle.call_log.specs.Strings.{before_zero}
use Rattle.trace_text.specs.declared.call.Call.{Call}
use Rattle.trace_text.specs.declared.form.Form.{Form}
use Rattle.trace_text.specs.declared.form.Form.TheVariants.{Decimal, Word, Path, Data}
use Rattle.trace_text.specs.Calls.{call_of, call_name, replies_address}
use Rattle.trace_text.specs.Forms.{forms_of}
use Rattle.trace_text.specs.Errors.{is_error, error_text}

-- the name of the call with this number, or `call_N` where it isn't served
abbrev pub name_or_number : Option Call → ℕ → List ℕ
name_or_number (Some call) number = call_name call
name_or_number None number = codes "call_" ++ decimal number

abbrev pub name_text : ℕ → List ℕ
name_text number = name_or_number (call_of number) number

-- printable, and neither the quote nor the backslash
abbrev pub is_plain : ℕ → Bool
is_plain byte = nat_le 0x20 byte && nat_le byte 0x7e && not (byte == 0x22 || byte == 0x5c)

-- two digits
abbrev pub byte_digits : ℕ → List ℕ
byte_digits n = replicate (2 - length (digits 16 false n)) 48 ++ digits 16 false n

-- `\xHH`
abbrev pub escape : ℕ → List ℕ
escape byte = codes "\\x" ++ byte_digits byte

-- the byte itself, or its escape
abbrev pub quoted_byte : ℕ → List ℕ
quoted_byte byte = if is_plain byte then byte ∷ [] else escape byte

abbrev pub quoted : List ℕ → List ℕ
quoted bytes = codes "\"" ++ flat_map quoted_byte bytes ++ codes "\""

-- a word as a number of two's complement
abbrev pub signed_digits : ℕ → List ℕ
signed_digits word = if nat_lt word (2 ^ 31) then decimal word else codes "-" ++ decimal (2 ^ 32 - word)

-- a word with eight digits
abbrev pub word_text : ℕ → List ℕ
word_text word = codes "0x" ++ word_digits word

-- the most bytes that are shown of what a call wrote
abbrev pub most_shown : ℕ
most_shown = 32

-- where there are more
abbrev pub dots : List ℕ → List ℕ
dots sent = if nat_lt most_shown (length sent) then codes "..." else []

-- the first bytes, and dots where there are more
abbrev pub data_text : List ℕ → List ℕ
data_text sent = quoted (take most_shown sent) ++ dots sent

-- an argument of a call that read these bytes
abbrev pub arg_text : Form → (arg : ℕ) → (sent : List ℕ) → List ℕ
arg_text Decimal arg sent = signed_digits arg
arg_text Word arg sent = word_text arg
arg_text Path arg sent = quoted (before_zero sent)
arg_text Data arg sent = data_text sent

abbrev pub arg_texts : List Form → (args : List ℕ) → (sent : List ℕ) → List (List ℕ)
arg_texts [] args sent = []
arg_texts (form ∷ forms) [] sent = []
arg_texts (form ∷ forms) (arg ∷ args) sent = arg_text form arg sent ∷ arg_texts forms args sent

-- in front of the text at a place
abbrev pub separator : ℕ → List ℕ
separator place = if place == 0 then [] else codes ", "

-- with a comma and a space between each two
abbrev pub separated : List (List ℕ) → List ℕ
separated [] = []
separated (text ∷ texts) = text ++ flat_map (λ more. codes ", " ++ more) texts

-- an error behind a minus sign, an address with eight digits, or a number
abbrev pub reply_text : (call reply : ℕ) → List ℕ
reply_text call reply =
    if is_error reply then codes "-" ++ error_text (2 ^ 32 - reply)
    else if replies_address (call_of call) then word_text reply
    else decimal reply

-- `trace PID NAME(ARGS) = REPLY`
unfoldable pub trace_line : CallEntry → List ℕ
trace_line e = joined
    (codes "trace " ∷ decimal e.pid ∷ codes " " ∷ name_text e.call ∷ codes "(" ∷ separated (arg_texts (forms_of (call_of e.call)) e.args e.sent)
    ∷ codes ") = " ∷ reply_text e.call e.reply ∷ codes "\n" ∷ [])
