-- Worked examples, computed from the definitions: a program that writes "hi" with a newline and exits with 7.
use Rattle.std.proofs.Common.{◌≡◌, List, [], ◌∷◌, ◌++◌, ℕ, Ok, Err, refl}
use Rattle.std.specs.Prelude.{codes}
use Rattle.std.specs.Fmt.{digits}
use Rattle.hex.specs.Hex.{encode_with, decode_pairs}
use Rattle.call_log.specs.Notes.{call_note}
use Rattle.call_log.specs.Lines.{line}
use Rattle.items_text.specs.Items.{ItemValue, ItemsValue, is_string}
use Rattle.items_text.specs.Lines.{item_line, text_of}
use Rattle.items_text.specs.Pieces.{behind, cut_at, number_at, hex_of, bytes_of, bytes_at, many}
use Rattle.items_text.specs.Reading.{space_numbers, space_at, string_at, call_numbers, head_at, range_of, range_at, ranges_at, item_at, items_of}

written : ItemValue
written = record {
  entry = record { pid = 1; call = 64; args = 1 ∷ 0x800000a4 ∷ 3 ∷ 0 ∷ 0 ∷ 0 ∷ []; sent = 0x68 ∷ 0x69 ∷ 0x0a ∷ []; reply = 3; got = [] };
  brought = [];
}

exited : ItemValue
exited = record {
  entry = record { pid = 1; call = 93; args = 7 ∷ 0x800000a4 ∷ 3 ∷ 0 ∷ 0 ∷ 0 ∷ []; sent = []; reply = 0; got = [] };
  brought = [];
}

kept : ItemsValue
kept = record { stack = 4096; base = 0x80000000; pid = 1; events = 9; args = (0x2f ∷ 0x68 ∷ 0x69 ∷ []) ∷ []; env = []; list = written ∷ exited ∷ [] }

first_lines : List ℕ
first_lines = codes "space stack 4096 base 0x80000000 pid 1 events 9\n" ++ codes "arg 2f6869\n"

first_call : List ℕ
first_call = codes "call 1 64 00000001 800000a4 00000003 00000000 00000000 00000000 = 00000003 sent 68690a got - brought -\n"

second_call : List ℕ
second_call = codes "call 1 93 00000007 800000a4 00000003 00000000 00000000 00000000 = 00000000 sent - got - brought -\n"

its_text : text_of kept ≡ first_lines ++ (first_call ++ (second_call ++ codes "end\n"))
unfolding written exited kept first_lines first_call second_call text_of digits encode_with
its_text = refl

-- a line of the text, with its last words taken away, is the call's line in a run's report
reported : item_line written ≡ codes "call 1 64 00000001 800000a4 00000003 00000000 00000000 00000000 = 00000003 sent 68690a got -" ++ codes " brought -\n"
unfolding written digits encode_with
reported = refl

noted : line [] (call_note written.entry) ≡ codes "call 1 64 00000001 800000a4 00000003 00000000 00000000 00000000 = 00000003 sent 68690a got -\n"
unfolding written digits encode_with
noted = refl

its_items : items_of (first_lines ++ (first_call ++ (second_call ++ codes "end\n"))) ≡ Ok kept
unfolding written exited kept first_lines first_call second_call items_of space_at space_numbers string_at item_at head_at call_numbers ranges_at range_at range_of behind cut_at number_at hex_of bytes_of bytes_at many is_string decode_pairs digits encode_with
its_items = refl

-- without the last line
no_end : items_of (first_lines ++ (first_call ++ second_call)) ≡ Err 5
unfolding first_lines first_call second_call items_of space_at space_numbers string_at item_at head_at call_numbers ranges_at range_at range_of behind cut_at number_at hex_of bytes_of bytes_at many is_string decode_pairs digits encode_with
no_end = refl

-- an argument behind a call
late_argument : items_of (first_lines ++ (first_call ++ codes "arg -\nend\n")) ≡ Err 4
unfolding first_lines first_call items_of space_at space_numbers string_at item_at head_at call_numbers ranges_at range_at range_of behind cut_at number_at hex_of bytes_of bytes_at many is_string decode_pairs digits encode_with
late_argument = refl

-- nothing at all
empty : items_of [] ≡ Err 1
unfolding items_of space_at space_numbers cut_at
empty = refl
