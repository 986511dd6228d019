-- The bytes that a system call reads from its caller's memory, in the order read: a function of its number, its
-- arguments and that memory (Linux, fs/read_write.c, fs/exec.c and include/uapi/linux/uio.h, in this project's profile).
use Rattle.std.specs.Prelude.{ℕ, zero, suc, ◌+◌, ◌-◌, ◌*◌, ◌%◌, ◌^◌, ◌==◌, Bool, ◌||◌, nat_le, nat_lt, min, if◌then◌else◌, List, [], ◌∷◌, ◌++◌, map, slice_index, Option, Some, None, Result, Ok, Err}
use Rattle.std.specs.List.{range_with_len, list_any}
use Rattle.byte_words.specs.Numbers.{low_first, number_at}
use Rattle.byte_words.specs.ByteMap.{Bytes}
use Rattle.call_log.specs.Numbers as numbers

-- addresses that a call reads or writes
pub record Span : Type 0 where
  pub addr : ℕ
  pub len : ℕ

-- a byte in front of others, if all are there
abbrev pub cons_byte : Option ℕ → Option (List ℕ) → Option (List ℕ)
cons_byte (Some b) (Some bs) = Some (b ∷ bs)
cons_byte (Some b) None = None
cons_byte None bs = None

-- the bytes from an address on, if all of them are there
abbrev pub bytes_from : Bytes → ℕ → ℕ → Option (List ℕ)
bytes_from m addr zero = Some []
bytes_from m addr (suc len) = cons_byte (m addr) (bytes_from m (addr + 1) len)

abbrev pub or_stray : Span → Option (List ℕ) → Result (List ℕ) Span
or_stray span (Some bytes) = Ok bytes
or_stray span None = Err span

-- the bytes of a span, or the span itself where it strays. One that passes 2^32 does
unfoldable pub read_span : Bytes → Span → Result (List ℕ) Span
read_span m span = if nat_le (span.addr + span.len) (2 ^ 32) then or_stray span (bytes_from m span.addr span.len) else Err span

-- what is read first, and what is read behind it
abbrev pub followed : Result (List ℕ) Span → (List ℕ → Result (List ℕ) Span) → Result (List ℕ) Span
followed (Err span) rest = Err span
followed (Ok front) rest = behind front (rest front)
  where
    behind : List ℕ → Result (List ℕ) Span → Result (List ℕ) Span
    behind front (Ok back) = Ok (front ++ back)
    behind front (Err span) = Err span

-- spans one behind the other
abbrev pub read_spans : Bytes → List Span → Result (List ℕ) Span
read_spans m [] = Ok []
read_spans m (span ∷ spans) = followed (read_span m span) (λ front. read_spans m spans)

-- the most bytes that one call moves
abbrev pub most_moved : ℕ
most_moved = 16777216

-- the most pieces of one call, Linux's UIO_MAXIOV
abbrev pub most_pieces : ℕ
most_pieces = 1024

-- struct iovec, of eight bytes: an address and a length
abbrev pub piece_spans : ℕ → ℕ → List Span
piece_spans at count = map (λ i. record { addr = (at + 8 * i) % 2 ^ 32; len = 8 }) (range_with_len 0 count)

abbrev pub piece_at : List ℕ → ℕ → Span
piece_at bytes i = record { addr = number_at low_first 4 bytes (8 * i); len = number_at low_first 4 bytes (8 * i + 4) }

-- the pieces cut where their sum would pass a limit
abbrev pub cut : ℕ → List Span → List Span
cut limit [] = []
cut limit (span ∷ spans) = record { addr = span.addr; len = min span.len limit } ∷ cut (limit - span.len) spans

abbrev pub data_spans : ℕ → List ℕ → List Span
data_spans count pieces = cut most_moved (map (piece_at pieces) (range_with_len 0 count))

-- write: the data
abbrev pub write_sent : Bytes → ℕ → ℕ → Result (List ℕ) Span
write_sent m at len = read_span m (record { addr = at; len = min len most_moved })

-- writev: the pieces, then the data; nothing where there are too many pieces
abbrev pub writev_sent : Bytes → ℕ → ℕ → Result (List ℕ) Span
writev_sent m at count =
    if nat_lt most_pieces count then Ok []
    else followed (read_spans m (piece_spans at count)) (λ pieces. read_spans m (data_spans count pieces))

-- readv: the pieces alone; nothing where there are too many
abbrev pub readv_sent : Bytes → ℕ → ℕ → Result (List ℕ) Span
readv_sent m at count = if nat_lt most_pieces count then Ok [] else read_spans m (piece_spans at count)

-- the most bytes that are read of a path
abbrev pub most_path : ℕ
most_path = 4096

-- behind a zero nothing more is read of a path
abbrev pub up_to_zero : Result (List ℕ) Span → List ℕ → Result (List ℕ) Span
up_to_zero more (zero ∷ []) = Ok []
up_to_zero more front = more

-- a path: byte by byte up to its zero, which is read too, or up to the most bytes
abbrev pub path_from : ℕ → Bytes → ℕ → Result (List ℕ) Span
path_from zero m at = Ok []
path_from (suc left) m at = followed (read_span m (record { addr = at % 2 ^ 32; len = 1 })) (up_to_zero (path_from left m (at + 1)))

abbrev pub path_sent : Bytes → ℕ → Result (List ℕ) Span
path_sent m at = path_from most_path m at

-- a zero is among the bytes
abbrev pub has_zero : List ℕ → Bool
has_zero bytes = list_any (λ b. b == 0) bytes

-- mkdirat, unlinkat and openat
abbrev pub has_path : ℕ → Bool
has_path number = number == numbers.mkdirat || number == numbers.unlinkat || number == numbers.openat

-- the most bytes of the arguments and the environment of a program: four for each pointer, and those of the strings with their zeros
abbrev pub most_strings : ℕ
most_strings = 1048576

-- a string, byte by byte up to its zero, and then what is read with what is left of those bytes; behind the byte that passes them
-- nothing more is read
unfoldable pub string_from : ℕ → Bytes → (at left : ℕ) → (ℕ → Result (List ℕ) Span) → Result (List ℕ) Span
string_from zero m at left more = Ok []
string_from (suc most) m at left more = followed (read_span m (record { addr = at % 2 ^ 32; len = 1 })) (λ byte.
    if left == 0 then Ok []
    else if slice_index byte 0 == 0 then more (left - 1)
    else string_from most m (at + 1) (left - 1) more)

-- a list of pointers to strings, each string behind its pointer, up to the pointer that is zero
unfoldable pub strings_from : ℕ → Bytes → (at left : ℕ) → (ℕ → Result (List ℕ) Span) → Result (List ℕ) Span
strings_from zero m at left more = Ok []
strings_from (suc most) m at left more = followed (read_span m (record { addr = at % 2 ^ 32; len = 4 })) (λ word.
    if number_at low_first 4 word 0 == 0 then more left
    else if nat_lt left 4 then Ok []
    else string_from (suc most_strings) m (number_at low_first 4 word 0) (left - 4) (λ left. strings_from most m (at + 4) left more))

-- no list stands at 0
abbrev pub list_sent : Bytes → (at left : ℕ) → (ℕ → Result (List ℕ) Span) → Result (List ℕ) Span
list_sent m at left more = if at == 0 then more left else strings_from (suc most_strings) m at left more

-- the arguments, then the environment
abbrev pub strings_sent : Bytes → (args env : ℕ) → Result (List ℕ) Span
strings_sent m args env = list_sent m args most_strings (λ left. list_sent m env left (λ left. Ok []))

-- execve: the path, and behind one that isn't too long the strings
abbrev pub exec_sent : Bytes → (path args env : ℕ) → Result (List ℕ) Span
exec_sent m path args env = followed (path_sent m path) (λ bytes. if has_zero bytes then strings_sent m args env else Ok [])

-- of a call with this number and these arguments; the other calls read nothing
unfoldable pub sent : ℕ → List ℕ → Bytes → Result (List ℕ) Span
sent number args m =
    if number == numbers.write then write_sent m (slice_index args 1) (slice_index args 2)
    else if number == numbers.writev then writev_sent m (slice_index args 1) (slice_index args 2)
    else if number == numbers.readv then readv_sent m (slice_index args 1) (slice_index args 2)
    else if has_path number then path_sent m (slice_index args 1)
    else if number == numbers.execve then exec_sent m (slice_index args 0) (slice_index args 1) (slice_index args 2)
    else Ok []
