-- The text of items, line by line, each with its newline. Numbers are decimal, but for those that are said to have eight
-- digits: these are hexadecimal, with lower case letters and zeros in front. Bytes have two digits each, of the same kind.
use Rattle.std.specs.Prelude.{ℕ, List, [], ◌∷◌, codes, decimal}
use Rattle.std.specs.List.{flat_map}
use Rattle.call_log.specs.Lines.{joined, word_digits, arg_text, sent_text, got_text}
use Rattle.items_text.specs.Items.{ItemValue, ItemsValue}

-- `space stack S base 0xBLOCK pid PID events N`, the block's first address with eight digits
abbrev pub space_line : (stack base pid events : ℕ) → List ℕ
space_line stack base pid events = joined
    (codes "space stack " ∷ decimal stack ∷ codes " base 0x" ∷ word_digits base ∷ codes " pid " ∷ decimal pid
    ∷ codes " events " ∷ decimal events ∷ codes "\n" ∷ [])

-- `arg HEX`, HEX `-` for an empty string
abbrev pub arg_line : List ℕ → List ℕ
arg_line bytes = joined (codes "arg " ∷ sent_text bytes ∷ codes "\n" ∷ [])

-- `env HEX`
abbrev pub env_line : List ℕ → List ℕ
env_line bytes = joined (codes "env " ∷ sent_text bytes ∷ codes "\n" ∷ [])

-- what stands before the bytes that a call read: `call PID NUMBER A0 A1 A2 A3 A4 A5 = REPLY sent `, arguments and reply with
-- eight digits
abbrev pub call_head : (pid call : ℕ) (args : List ℕ) (reply : ℕ) → List ℕ
call_head pid call args reply = joined
    (codes "call " ∷ decimal pid ∷ codes " " ∷ decimal call ∷ flat_map arg_text args ∷ codes " = " ∷ word_digits reply
    ∷ codes " sent " ∷ [])

-- the line of a call in a run's report, with ` brought HEX` behind it
abbrev pub item_line : ItemValue → List ℕ
item_line i = joined
    (call_head i.entry.pid i.entry.call i.entry.args i.entry.reply ∷ sent_text i.entry.sent ∷ codes " got" ∷ got_text i.entry.got ∷ codes " brought " ∷ sent_text i.brought
    ∷ codes "\n" ∷ [])

-- the line behind all others
abbrev pub end_line : List ℕ
end_line = codes "end\n"

-- the whole text
unfoldable pub text_of : ItemsValue → List ℕ
text_of i = joined
    (space_line i.stack i.base i.pid i.events ∷ flat_map arg_line i.args ∷ flat_map env_line i.env ∷ flat_map item_line i.list
    ∷ end_line ∷ [])
