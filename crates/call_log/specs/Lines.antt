-- The line of each note, with its newline. Numbers are decimal, but for those that are said to have eight digits: these
-- are hexadecimal, with lower case letters and zeros in front.
use Rattle.std.specs.Prelude.{ℕ, ◌-◌, false, List, [], ◌∷◌, ◌++◌, length, replicate, codes, decimal, slice_index_or}
use Rattle.std.specs.List.{flat_map}
use Rattle.std.specs.Fmt.{digits}
use Rattle.hex.specs.Hex.{encode_lower}
use Rattle.call_log.specs.declared.how.How.{How}
use Rattle.call_log.specs.declared.how.How.TheVariants.{Exit, Signal}
use Rattle.byte_words.specs.declared.access.Access.{Access}
use Rattle.byte_words.specs.declared.access.AccessKind.{AccessKind}
use Rattle.byte_words.specs.declared.access.AccessKind.TheVariants as access
use Rattle.call_log.specs.Notes.{GotRange, CallEntry, LoadEntry, Note, call_note, load_note, end_note, stray_note}

-- the pieces, one behind the other
abbrev pub joined : List (List ℕ) → List ℕ
joined [] = []
joined (piece ∷ pieces) = piece ++ joined pieces

-- eight digits
abbrev pub word_digits : ℕ → List ℕ
word_digits n = replicate (8 - length (digits 16 false n)) 48 ++ digits 16 false n

-- `load PID PATH base 0xBLOCK pages N`, with the path of the program
abbrev pub load_line : List ℕ → LoadEntry → List ℕ
load_line path e = joined
    (codes "load " ∷ decimal e.pid ∷ codes " " ∷ path ∷ codes " base 0x" ∷ word_digits e.base
    ∷ codes " pages " ∷ decimal e.pages ∷ codes "\n" ∷ [])

-- a word behind a space
abbrev pub arg_text : ℕ → List ℕ
arg_text n = codes " " ++ word_digits n

-- two digits a byte, or `-` where there is none
abbrev pub sent_text : List ℕ → List ℕ
sent_text [] = codes "-"
sent_text (b ∷ bs) = encode_lower (b ∷ bs)

-- a range that was written, `ADDR:HEX` behind a space
abbrev pub item_text : GotRange → List ℕ
item_text w = joined (codes " " ∷ word_digits w.addr ∷ codes ":" ∷ encode_lower w.bytes ∷ [])

-- each of them, or `-` where there is none
abbrev pub got_text : List GotRange → List ℕ
got_text [] = codes " -"
got_text (w ∷ ws) = flat_map item_text (w ∷ ws)

-- `call PID NUMBER A0 A1 A2 A3 A4 A5 = REPLY sent HEX got ITEMS`
abbrev pub call_line : CallEntry → List ℕ
call_line e = joined
    (codes "call " ∷ decimal e.pid ∷ codes " " ∷ decimal e.call ∷ flat_map arg_text e.args ∷ codes " = " ∷ word_digits e.reply
    ∷ codes " sent " ∷ sent_text e.sent ∷ codes " got" ∷ got_text e.got ∷ codes "\n" ∷ [])

abbrev pub how_text : How → List ℕ
how_text (Exit code) = codes "exit " ++ decimal code
how_text (Signal number) = codes "signal " ++ decimal number

-- `end PID exit CODE` or `end PID signal NUMBER`
abbrev pub end_line : ℕ → How → List ℕ
end_line pid how = joined (codes "end " ∷ decimal pid ∷ codes " " ∷ how_text how ∷ codes "\n" ∷ [])

abbrev pub kind_text : AccessKind → List ℕ
kind_text access.Fetch = codes "fetch"
kind_text access.Load = codes "load"
kind_text access.Store = codes "store"
kind_text access.Call = codes "call"

-- `stray PID pc 0xPC addr 0xADDR len LEN KIND`
abbrev pub stray_line : ℕ → Access → List ℕ
stray_line pid s = joined
    (codes "stray " ∷ decimal pid ∷ codes " pc 0x" ∷ word_digits s.pc ∷ codes " addr 0x" ∷ word_digits s.addr
    ∷ codes " len " ∷ decimal s.len ∷ codes " " ∷ kind_text s.kind ∷ codes "\n" ∷ [])

-- where the programs have these paths
abbrev pub line : List (List ℕ) → Note → List ℕ
line paths (call_note e) = call_line e
line paths (load_note e) = load_line (slice_index_or paths e.program []) e
line paths (end_note pid how) = end_line pid how
line paths (stray_note pid seen) = stray_line pid seen
