-- Commands: what each requests of the host and ends with, the statuses, the numbers of a small ELF file, and reports.
use Rattle.std.proofs.Common.{◌≡◌, ℕ, true, false, List, [], ◌∷◌, ◌++◌, map, Some, None, refl, ap}
use Rattle.std.specs.Prelude.{codes, replicate}
use Rattle.std.specs.Fmt.{digits}
use Rattle.byte_words.specs.Numbers.{byte_at, number_at}
use Rattle.byte_words.specs.Patches.{spans, patched, from_base, little_word}
use Rattle.byte_words.specs.Search.{any_below}
use Rattle.elf32_reader.specs.Header.{entry_of, table_of, count_of}
use Rattle.elf32_reader.specs.Faults.{has_table, header_fault, elf_fault}
use Rattle.elf32_reader.specs.Relas.{is_static_relocation, is_kept, rela_count, entry_offset, addend_word, rela}
use Rattle.elf32_reader.specs.Sections.{section, is_allocated, is_stored, has_content, content, is_of_kind}
use Rattle.elf32_reader.specs.Symbols.{is_symtab, symbol_count, symbol_offset, symbol, name_of}
use Rattle.bflt_format.specs.Fault.{header_fault as flat_header_fault, flat_fault}
use Rattle.flat_layout.specs.Extremes.{least_below, greatest_below}
use Rattle.flat_layout.specs.Layout.{off, stored_end, written_from, text_of, layout}
use Rattle.flat_layout.specs.Numbering.{lowest, highest, raised_start, distance, start_of}
use Rattle.psabi_relocs.specs.Class.{class, value_of}
use Rattle.psabi_relocs.specs.Row.{row_of}
use Rattle.psabi_relocs.specs.Reloc.{reloc}
use Rattle.psabi_relocs.specs.Field.{high_ends, ends_of, absolute, fields}
use Rattle.elf2flt_tool.specs.Relocs.{fields_in, fields_of}
use Rattle.elf2flt_tool.specs.Word.{numbered, words, records}
use Rattle.elf2flt_tool.specs.Fault.{fault}
use Rattle.elf2flt_tool.specs.Faults.{faults}
use Rattle.fault_texts.specs.Lines.{fault_line}
use Rattle.fault_texts.specs.Counts.{counts_of as subject_counts, kind_lines}
use Rattle.fault_texts.specs.Listing.{listing}
use Rattle.elf2flt_tool.proofs.Samples.{one_word, one_word_flat, flat-one_word, fault-one_word}
use Rattle.machine_world.specs.Turns.{all_ended, stuck, out_of_quanta, stray_at, log_full}
use Rattle.byte_words.specs.declared.access.AccessKind.TheVariants.{Load}
use Rattle.file_commands.specs.declared.status.Status.{Status}
use Rattle.file_commands.specs.declared.status.Status.TheVariants as status
use Rattle.file_commands.specs.Status.{code_of}
use Rattle.file_commands.specs.Sizes.{Sizes, sizes}
use Rattle.file_commands.specs.Texts.{convert_line, check_line}
use Rattle.file_commands.specs.Ending.{done_ending}
use Rattle.file_commands.specs.Outcome.{Request, load, store, Outcome, Inputs, after}
use Rattle.file_commands.specs.Load.{at_once}
use Rattle.file_commands.specs.Convert.{stored_outcome}
use Rattle.trace_text.specs.Calls.{call_of}
use Rattle.trace_text.specs.Lines.{trace_line}
use Rattle.trace_text.specs.Counts.{counts_of, count_line}
use Rattle.trace_text.specs.Texts.{trace_texts}
use Rattle.suite_top.specs.Report.{stop_word, stop_line, report_text, trace_report, status_of_end}
use Rattle.suite_top.specs.Result.{result_of}
use Rattle.definition_samples.proofs.Exits.{running, over}

-- ---- statuses

numbers-told :
    map code_of (status.Done ∷ status.Usage ∷ status.HostRead ∷ status.Refused ∷ status.Stray ∷ status.OutOfQuanta ∷ status.LogFull ∷ status.SinkWrite ∷ status.Memory ∷ status.HostWrite ∷ status.Stuck ∷ [])
    ≡ 0 ∷ 1 ∷ 2 ∷ 3 ∷ 4 ∷ 5 ∷ 6 ∷ 7 ∷ 8 ∷ 9 ∷ 10 ∷ []
numbers-told = refl

-- ---- commands: no file stands anywhere, or every name has this one

abbrev nowhere : Inputs
nowhere i name = None

abbrev everywhere : List ℕ → Inputs
everywhere bytes i name = Some bytes

-- nothing is asked of the host, or something, and the one line of the report
abbrev early : List Request → Status → (report : List ℕ) → Outcome
early requests s report = record { requests = requests; ending = record { status = s; out = []; report = report } }

abbrev lists : Inputs → Outcome
lists inputs = result_of (codes "list" ∷ codes "a.flt" ∷ []) inputs

abbrev checks : Inputs → Outcome
checks inputs = result_of (codes "check" ∷ codes "a.elf" ∷ []) inputs

abbrev lists_faults : Inputs → Outcome
lists_faults inputs = result_of (codes "check" ∷ codes "a.elf" ∷ codes "--all" ∷ []) inputs

abbrev converts : Inputs → Outcome
converts inputs = result_of (codes "convert" ∷ codes "a.elf" ∷ codes "a.flt" ∷ []) inputs

-- without arguments, with one that is no command, and without a name
usage :
    map (λ (words : List (List ℕ)). result_of words nowhere) ([] ∷ (codes "lists" ∷ codes "a" ∷ []) ∷ (codes "list" ∷ []) ∷ [])
    ≡ replicate 3 (early [] status.Usage (codes "usage: flatc COMMAND WORDS\n"))
usage = refl

-- a file that isn't there
missing-list : lists nowhere ≡ early (load (codes "a.flt") ∷ []) status.HostRead (codes "host: cannot read a.flt\n")
missing-list = refl

missing-check : checks nowhere ≡ early (load (codes "a.elf") ∷ []) status.HostRead (codes "host: cannot read a.elf\n")
missing-check = refl

missing-convert : converts nowhere ≡ early (load (codes "a.elf") ∷ []) status.HostRead (codes "host: cannot read a.elf\n")
missing-convert = refl

-- an empty file
empty-list : lists (everywhere []) ≡ early (load (codes "a.flt") ∷ []) status.Refused (codes "refused: flat 1 Short\n")
unfolding flat_header_fault flat_fault
empty-list = refl

empty-check : checks (everywhere []) ≡ early (load (codes "a.elf") ∷ []) status.Refused (codes "refused: elf 1 Short\n")
unfolding header_fault elf_fault fault
empty-check = refl

-- with all its faults
empty-listed :
    lists_faults (everywhere [])
    ≡ record {
      requests = load (codes "a.elf") ∷ [];
      ending = record { status = status.Refused; out = codes "elf 1 Short\ncount elf 1 Short 1\nfaults 1\n"; report = codes "refused: elf 1 Short\n" };
    }
unfolding digits header_fault elf_fault fault faults fault_line subject_counts kind_lines listing
empty-listed = refl

empty-convert : converts (everywhere []) ≡ early (load (codes "a.elf") ∷ []) status.Refused (codes "refused: elf 1 Short\n")
unfolding header_fault elf_fault fault
empty-convert = refl

-- ---- the worked example with one word

abbrev numbers : (stack : ℕ) → Sizes
numbers stack = record { text = 64; data_len = 12; bss = 0; stack = stack; records = 1; entry = 128 }

sizes-one_word : sizes one_word 4096 ≡ numbers 4096
unfolding byte_at number_at spans patched from_base little_word any_below entry_of table_of count_of has_table is_static_relocation is_kept rela_count entry_offset addend_word rela section is_allocated is_stored has_content content is_of_kind is_symtab symbol_count symbol_offset symbol name_of least_below greatest_below off stored_end written_from text_of layout lowest highest raised_start distance start_of class value_of row_of reloc high_ends ends_of absolute fields fields_in fields_of numbered words records
sizes-one_word = refl

-- a stack is rounded up to 16 bytes
sizes-stack : map (λ n. (sizes one_word n).stack) (16 ∷ 17 ∷ 32 ∷ []) ≡ 16 ∷ 32 ∷ 32 ∷ []
sizes-stack = refl

-- it is loaded, its flat file is stored, and the line is written
done-convert :
    converts (everywhere one_word)
    ≡ record {
      requests = load (codes "a.elf") ∷ store (codes "a.flt") one_word_flat ∷ [];
      ending = record { status = status.Done; out = codes "text 64 data 12 bss 0 stack 4096 records 1 entry 128\n"; report = [] };
    }
unfolding digits
done-convert =
    rw fault-one_word (rw flat-one_word (ap (λ (s : Sizes). after (load (codes "a.elf")) (stored_outcome (codes "a.flt") one_word_flat (convert_line s))) sizes-one_word))

done-check :
    checks (everywhere one_word)
    ≡ record { requests = load (codes "a.elf") ∷ []; ending = record { status = status.Done; out = codes "accepted text 64 data 12 bss 0 records 1\n"; report = [] } }
unfolding digits
done-check = rw fault-one_word (ap (λ (s : Sizes). after (load (codes "a.elf")) (at_once (done_ending (check_line s)))) sizes-one_word)

-- of a file without a fault nothing is listed
done-listed : lists_faults (everywhere one_word) ≡ checks (everywhere one_word)
done-listed = rw fault-one_word refl

-- ---- reports

-- of the program of two instructions, without its call and with it
told-short : report_text false [] over (Some all_ended) ≡ codes "load 1 /x base 0x80000000 pages 2\nend 1 exit 0\nstop done events 2\n"
unfolding digits report_text
told-short = refl

told-long :
    report_text true [] over (Some all_ended)
    ≡ codes "load 1 /x base 0x80000000 pages 2\n"
    ++ codes "call 1 93 00000000 00000000 00000000 00000000 00000000 00000000 = 00000000 sent - got -\n"
    ++ codes "end 1 exit 0\nstop done events 2\n"
unfolding digits report_text
told-long = refl

-- while it runs, with a dump
told-dump : report_text true (codes "dump ..\n") (running 0x8000_0080 0 0) None ≡ codes "load 1 /x base 0x80000000 pages 2\ndump ..\nstop quanta events 0\n"
unfolding digits report_text
told-dump = refl

-- with its call as a trace, counted behind the notes; and of a process that isn't there
told-trace : trace_report None true (codes "dump ..\n") over (Some all_ended)
    ≡ codes "load 1 /x base 0x80000000 pages 2\ntrace 1 exit(0) = 0\nend 1 exit 0\n"
    ++ codes "count 93 exit calls 1 errors 0 sent 0 got 0\ndump ..\nstop done events 2\n"
unfolding digits trace_report trace_texts trace_line counts_of count_line call_of
told-trace = refl

told-no-trace : trace_report (Some 2) true [] over (Some all_ended) ≡ codes "load 1 /x base 0x80000000 pages 2\nend 1 exit 0\nstop done events 2\n"
unfolding digits trace_report trace_texts counts_of
told-no-trace = refl

stops : stop_line (stop_word (Some stuck)) 123 ++ stop_line (stop_word (Some log_full)) 0 ++ stop_line (stop_word (Some out_of_quanta)) 7 ≡ codes "stop stuck events 123\nstop log events 0\nstop quanta events 7\n"
unfolding digits
stops = refl

-- what each end is to the program's caller
ends :
    map status_of_end (Some all_ended ∷ Some stuck ∷ Some (stray_at 1 (record { pc = 0; addr = 4; len = 4; kind = Load })) ∷ Some out_of_quanta ∷ Some log_full ∷ None ∷ [])
    ≡ status.Done ∷ status.Stuck ∷ status.Stray ∷ status.OutOfQuanta ∷ status.LogFull ∷ status.OutOfQuanta ∷ []
ends = refl
