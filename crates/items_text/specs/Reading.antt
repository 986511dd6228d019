-- How a text of items is read, and what reading it gives.
use Rattle.std.specs.Prelude.{◌≡◌, ℕ, ◌+◌, ◌%◌, ◌==◌, Bool, true, ◌&&◌, nat_le, if◌then◌else◌, List, [], ◌∷◌, ◌++◌, length, codes, Option, Some, None, option_map, Result, Ok, Err}
use Rattle.call_log.specs.Notes.{GotRange}
use Rattle.call_log.specs.Lines.{word_digits}
use Rattle.call_log.specs.Numbers as numbers
use Rattle.items_text.specs.declared.fault.ItemsFault.{ItemsFault}
use Rattle.items_text.specs.declared.fault.ItemsFault.TheVariants.{At, Memory}
use Rattle.items_text.specs.declared.items.Items.{Items}
use Rattle.items_text.specs.declared.heads.SpaceHead.{SpaceHead}
use Rattle.items_text.specs.declared.heads.CallHead.{CallHead}
use Rattle.items_text.specs.Items.{ItemValue, ItemsValue, page_size, lowest_base, highest_base, is_string}
use Rattle.items_text.specs.Values.{items_value}
use Rattle.items_text.specs.Lines.{space_line, call_head, end_line}
use Rattle.items_text.specs.Pieces.{◌>>=◌, Front, behind, cut_at, number_at, most_word, most_count, hex_of, bytes_at, many}

-- ---- the first line (`SpaceHead` is the code's record of its numbers)

abbrev pub space_text : SpaceHead → List ℕ
space_text h = space_line h.stack h.base h.pid h.events

-- its numbers, whatever stands between them
unfoldable pub space_numbers : List ℕ → Option SpaceHead
space_numbers text = do
  word ← cut_at 32 text
  word ← cut_at 32 word.1
  stack ← number_at 10 most_word 32 word.1
  word ← cut_at 120 stack.1
  base ← number_at 16 most_word 32 word.1
  word ← cut_at 32 base.1
  pid ← number_at 10 most_word 32 word.1
  word ← cut_at 32 pid.1
  events ← number_at 10 most_count 10 word.1
  Some (record { stack = stack.0; base = base.0; pid = pid.0; events = events.0 })

abbrev pub is_base : ℕ → Bool
is_base base = base % page_size == 0 && nat_le lowest_base base && nat_le base highest_base

unfoldable pub space_at : List ℕ → Front SpaceHead
space_at text = do
  head ← space_numbers text
  rest ← behind (space_text head) text
  if is_base head.base then Some (head, rest) else None

-- ---- strings

-- a string behind `arg ` or `env `
unfoldable pub string_at : (front text : List ℕ) → Front (List ℕ)
string_at front text = do
  rest ← behind front text
  read ← bytes_at 10 rest
  if is_string read.0 then Some read else None

-- ---- calls (`CallHead` is the code's record of the numbers of one)

abbrev pub head_text : CallHead → List ℕ
head_text h = call_head h.pid h.call h.args h.reply

-- its numbers, whatever stands between them
unfoldable pub call_numbers : List ℕ → Option CallHead
call_numbers text = do
  word ← cut_at 32 text
  pid ← number_at 10 most_word 32 word.1
  call ← number_at 10 most_word 32 pid.1
  a0 ← number_at 16 most_word 32 call.1
  a1 ← number_at 16 most_word 32 a0.1
  a2 ← number_at 16 most_word 32 a1.1
  a3 ← number_at 16 most_word 32 a2.1
  a4 ← number_at 16 most_word 32 a3.1
  a5 ← number_at 16 most_word 32 a4.1
  word ← cut_at 32 a5.1
  reply ← number_at 16 most_word 32 word.1
  Some (record { pid = pid.0; call = call.0; args = a0.0 ∷ a1.0 ∷ a2.0 ∷ a3.0 ∷ a4.0 ∷ a5.0 ∷ []; reply = reply.0 })

unfoldable pub head_at : List ℕ → Front CallHead
head_at text = do
  head ← call_numbers text
  rest ← behind (head_text head) text
  Some (head, rest)

-- a range that was written, `ADDR:HEX`
unfoldable pub range_of : List ℕ → Option GotRange
range_of word = do
  addr ← number_at 16 most_word 58 word
  digits ← behind (word_digits addr.0 ++ codes ":") word
  bytes ← hex_of digits
  Some (record { addr = addr.0; bytes = bytes })

-- one with the space behind it
unfoldable pub range_at : List ℕ → Front GotRange
range_at text = do
  piece ← cut_at 32 text
  range ← range_of piece.0
  Some (range, piece.1)

-- where there is no range, `- `
abbrev pub or_none : List GotRange × List ℕ → Front (List GotRange)
or_none ([], rest) = option_map (λ more. ([], more)) (behind (codes "- ") rest)
or_none (w ∷ ws, rest) = Some (w ∷ ws, rest)

unfoldable pub ranges_at : List ℕ → Front (List GotRange)
ranges_at text = or_none (many range_at text)

-- bytes were brought by mmap2 alone
abbrev pub may_bring : (call : ℕ) → (brought : List ℕ) → Bool
may_bring call [] = true
may_bring call (b ∷ bs) = call == numbers.mmap2

abbrev pub item_from : CallHead → (sent : List ℕ) → (got : List GotRange) → (brought : List ℕ) → ItemValue
item_from h sent got brought = record {
  entry = record { pid = h.pid; call = h.call; args = h.args; sent = sent; reply = h.reply; got = got };
  brought = brought;
}

unfoldable pub item_at : List ℕ → Front ItemValue
item_at text = do
  head ← head_at text
  sent ← bytes_at 32 head.1
  rest ← behind (codes "got ") sent.1
  got ← ranges_at rest
  rest ← behind (codes "brought ") got.1
  brought ← bytes_at 10 rest
  if may_bring head.0.call brought.0 then Some (item_from head.0 sent.0 got.0 brought.0, brought.1) else None

-- ---- the whole

-- behind so many lines the text ends; the items, or the line that isn't as it has to be
abbrev pub closed : (lines : ℕ) → ItemsValue → (end : Option (List ℕ)) → Result ItemsValue ℕ
closed lines items None = Err (lines + 1)
closed lines items (Some []) = Ok items
closed lines items (Some (b ∷ bs)) = Err (lines + 2)

abbrev pub items_behind : Front SpaceHead → Result ItemsValue ℕ
items_behind None = Err 1
items_behind (Some (head, text)) =
    let args = many (string_at (codes "arg ")) text in
    let env = many (string_at (codes "env ")) args.1 in
    let list = many item_at env.1 in
    closed (1 + length args.0 + length env.0 + length list.0)
    (record { stack = head.stack; base = head.base; pid = head.pid; events = head.events; args = args.0; env = env.0; list = list.0 })
    (behind end_line list.1)

-- the items whose text this is, or the first line that isn't as it has to be
unfoldable pub items_of : List ℕ → Result ItemsValue ℕ
items_of text = items_behind (space_at text)

-- ---- the code's results

-- it found what reading finds
abbrev pub Finds : {X Y : Type 0} → (X → Y) → Option X → Option Y → Type 0
Finds view None read = read ≡ None
Finds view (Some x) read = read ≡ Some (view x)

-- the call gives what reading gives, but for host memory
abbrev pub Gives : Result Items ItemsFault → Result ItemsValue ℕ → Type 0
Gives (Ok items) read = read ≡ Ok (items_value items)
Gives (Err (At line)) read = read ≡ Err line
Gives (Err Memory) read = Unit {0}
