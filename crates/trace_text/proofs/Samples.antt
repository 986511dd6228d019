-- Worked examples, computed from the definitions.
use Rattle.std.proofs.Common.{◌≡◌, List, [], ◌∷◌, ◌++◌, None, Some, true, refl}
use Rattle.std.specs.Prelude.{codes}
use Rattle.std.specs.Fmt.{digits}
use Rattle.call_log.specs.declared.how.How.TheVariants.{Exit}
use Rattle.call_log.specs.Notes.{CallEntry, Note, call_note, load_note, end_note}
use Rattle.trace_text.specs.Calls.{call_of}
use Rattle.trace_text.specs.Errors.{error_of}
use Rattle.trace_text.specs.Lines.{trace_line}
use Rattle.trace_text.specs.Counts.{counts_of, count_line}
use Rattle.trace_text.specs.Texts.{trace_texts}

-- ---- a program that writes "hi" with a newline and exits with 7

written : CallEntry
written = record { pid = 1; call = 64; args = 1 ∷ 0x800000a4 ∷ 3 ∷ 0 ∷ 0 ∷ 0 ∷ []; sent = 0x68 ∷ 0x69 ∷ 0x0a ∷ []; reply = 3; got = [] }

exited : CallEntry
exited = record { pid = 1; call = 93; args = 7 ∷ 0x800000a4 ∷ 3 ∷ 0 ∷ 0 ∷ 0 ∷ []; sent = []; reply = 0; got = [] }

notes : List Note
notes = load_note (record { pid = 1; program = 0; base = 0x80000000; pages = 2 }) ∷ call_note written ∷ call_note exited ∷ end_note 1 (Exit 7) ∷ []

with_counts : trace_texts None true (codes "/hi" ∷ []) notes ≡ codes "load 1 /hi base 0x80000000 pages 2\n"
    ++ codes "trace 1 write(1, \"hi\\x0a\", 3) = 3\n"
    ++ codes "trace 1 exit(7) = 0\n"
    ++ codes "end 1 exit 7\n"
    ++ codes "count 64 write calls 1 errors 0 sent 3 got 0\n"
    ++ codes "count 93 exit calls 1 errors 0 sent 0 got 0\n"
unfolding written exited notes trace_texts trace_line counts_of count_line call_of error_of digits
with_counts = refl

-- of a process that isn't there: no trace line and no count line
of_another : trace_texts (Some 2) true (codes "/hi" ∷ []) notes ≡ codes "load 1 /hi base 0x80000000 pages 2\n" ++ codes "end 1 exit 7\n"
unfolding written exited notes trace_texts counts_of digits
of_another = refl

-- ---- openat(-100, "/no", 0, 0), where there is no such file

opened : CallEntry
opened = record { pid = 1; call = 56; args = 0xffffff9c ∷ 0x80001fd0 ∷ 0 ∷ 0 ∷ 0 ∷ 0 ∷ []; sent = 0x2f ∷ 0x6e ∷ 0x6f ∷ 0 ∷ []; reply = 0xfffffffe; got = [] }

refused : trace_line opened ≡ codes "trace 1 openat(-100, \"/no\", 0x00000000, 0x00000000) = -ENOENT\n"
unfolding opened trace_line call_of error_of digits
refused = refl

-- ---- a call that isn't served, and one that replies with an address

unserved : trace_line (record opened { call = 1000; reply = 0xffffffda }) ≡ codes "trace 1 call_1000(0xffffff9c, 0x80001fd0, 0x00000000, 0x00000000, 0x00000000, 0x00000000) = -ENOSYS\n"
unfolding opened trace_line call_of error_of digits
unserved = refl

moved : trace_line (record opened { call = 214; reply = 0x80001000 }) ≡ codes "trace 1 brk(0xffffff9c) = 0x80001000\n"
unfolding opened trace_line call_of digits
moved = refl
