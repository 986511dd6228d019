-- Two spaces of one run, computed from the definitions: a program maps a file and makes a child; the child writes, and leaves for a
-- space of its own, in which it maps a file; and the first one maps another file, and pages of no file.
use Rattle.std.proofs.Common.{◌≡◌, ℕ, List, [], ◌∷◌, Some, None, refl}
use Rattle.call_log.specs.declared.how.How.TheVariants.{Exit}
use Rattle.call_log.specs.Notes.{CallEntry, Note, call_note, load_note, end_note}
use Rattle.flat_loader.specs.Alone.{is_errno}
use Rattle.items_text.specs.Items.{ItemValue, ItemsValue}
use Rattle.machine_world.specs.World.{Launch}
use Rattle.recording_laws.specs.Homes.{loads_in, home, calls_at}
use Rattle.recording_laws.specs.Items.{with_lists}
use Rattle.recorded_items.specs.Recorded.{recorded}

abbrev call : (pid number flags reply : ℕ) → CallEntry
call pid number flags reply = record { pid = pid; call = number; args = 0 ∷ 4096 ∷ 1 ∷ flags ∷ 3 ∷ 0 ∷ []; sent = []; reply = reply; got = [] }

-- mmap2 of a file, and of no file
abbrev maps : (pid reply : ℕ) → CallEntry
maps pid reply = call pid 222 0x2 reply

abbrev maps_none : (pid reply : ℕ) → CallEntry
maps_none pid reply = call pid 222 0x22 reply

abbrev refused : ℕ → CallEntry
refused pid = call pid 222 0x2 0xfffffff4

abbrev forks : (pid child : ℕ) → CallEntry
forks pid child = call pid 220 0 child

abbrev writes : ℕ → CallEntry
writes pid = call pid 64 0 5

abbrev execs : ℕ → CallEntry
execs pid = call pid 221 0 0

abbrev loads : ℕ → Note
loads pid = load_note (record { pid = pid; program = 0; base = 0x80000000; pages = 4 })

-- newest first
abbrev notes : List Note
notes =
    end_note 2 (Exit 0) ∷ call_note (maps_none 1 0x80300000) ∷ call_note (maps 1 0x80200000) ∷ call_note (refused 1) ∷ call_note (maps 2 0x81000000)
    ∷ loads 2 ∷ call_note (execs 2) ∷ call_note (writes 2) ∷ call_note (forks 1 2) ∷ call_note (maps 1 0x80100000) ∷ loads 1 ∷ []

abbrev launch : ℕ → Launch
launch pid = record { stack = 4096; base = 0x80000000; pid = pid; args = (97 ∷ []) ∷ []; env = [] }

abbrev item : CallEntry → List ℕ → ItemValue
item e brought = record { entry = e; brought = brought }

abbrev items : (pid events : ℕ) → List ItemValue → ItemsValue
items pid events list = record { stack = 4096; base = 0x80000000; pid = pid; events = events; args = (97 ∷ []) ∷ []; env = []; list = list }

-- the child's calls up to its execve are the first space's, and each mapping of a file there has the next list
first_space :
    recorded (record { keep = 1; launch = Some (launch 1); events = 70; brought = (1 ∷ 2 ∷ []) ∷ (3 ∷ []) ∷ [] }) notes
    ≡ Some (items 1 70
    (item (maps 1 0x80100000) (1 ∷ 2 ∷ []) ∷ item (forks 1 2) [] ∷ item (writes 2) [] ∷ item (execs 2) [] ∷ item (refused 1) []
    ∷ item (maps 1 0x80200000) (3 ∷ []) ∷ item (maps_none 1 0x80300000) [] ∷ []))
unfolding loads_in home calls_at with_lists is_errno
first_space = refl

second_space :
    recorded (record { keep = 2; launch = Some (launch 2); events = 9; brought = (4 ∷ []) ∷ [] }) notes
    ≡ Some (items 2 9 (item (maps 2 0x81000000) (4 ∷ []) ∷ []))
unfolding loads_in home calls_at with_lists is_errno
second_space = refl

-- there is no third one
third_space : recorded (record { keep = 3; launch = None; events = 0; brought = [] }) notes ≡ None
third_space = refl
