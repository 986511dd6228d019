-- waitid and execve as whole events, computed from the definitions.
use Rattle.std.proofs.Common.{◌≡◌, ℕ, true, List, [], ◌∷◌, ◌++◌, map, Option, Some, None, refl}
use Rattle.std.specs.Prelude.{replicate, codes, false}
use Rattle.rv32im_step.specs.declared.regs.Regs.{Regs}
use Rattle.rv32im_step.specs.Registers.{register, with_register}
use Rattle.call_log.specs.declared.how.How.TheVariants.{Exit}
use Rattle.call_log.specs.Notes.{CallEntry, GotRange, call_note, load_note, has_room}
use Rattle.mmap_rules.specs.Space.{writable_in, may_use}
use Rattle.flat_loader.specs.Original.{block_pages}
use Rattle.flat_loader.specs.Frame.{frame_len, frame_start}
use Rattle.flat_loader.specs.Begin.{Loading, begin_space, begin_regs}
use Rattle.flat_loader.specs.Alone.{Item, is_errno}
use Rattle.fd_tables.specs.declared.open_file.Handle.TheVariants.{Input, Output}
use Rattle.fd_tables.specs.Files.{Table, table_at}
use Rattle.fd_tables.specs.Changes.{closed, exec_closed, all_descriptors}
use Rattle.vfork_exec.specs.declared.family.Who.TheVariants.{All}
use Rattle.vfork_exec.specs.declared.family.State.TheVariants.{Ready, Waiting, Lent}
use Rattle.vfork_exec.specs.declared.family.Ended.{Ended}
use Rattle.vfork_exec.specs.Keyed.{change}
use Rattle.vfork_exec.specs.Families.{resumed, first_ended, without_first, told}
use Rattle.machine_world.specs.World.{Process, World}
use Rattle.machine_world.specs.Families.{borrows, spaces_left, has_child}
use Rattle.machine_world.specs.FamilyCalls.{child_info}
use Rattle.machine_world.specs.Event.{Outcome, went, strays, full, idle, ask_of, served, waited, waitid, executed}
use Rattle.definition_samples.proofs.Exits.{loading}
use Rattle.definition_samples.proofs.EndSamples.{process, space, world, life, seen, files}

-- ---- waitid(P_ALL, 0, at, options, 0) of process 1, of which a child lives

abbrev asks : (at options : ℕ) → List ℕ
asks at options = 0 ∷ 0 ∷ at ∷ options ∷ 0 ∷ 0 ∷ []

abbrev caller : (at options : ℕ) → Process
caller at options = record (process 1 0 0 Ready) { regs = record { pc = 0x8000_0080; x = replicate 10 0 ++ asks at options ++ 0 ∷ 95 ∷ replicate 14 0 } }

abbrev two : (at options : ℕ) → List Ended → World
two at options gone = world (process 3 1 1 Ready ∷ caller at options ∷ []) gone

abbrev waits : (at options : ℕ) → List Ended → Outcome
waits at options gone = waitid (two at options gone) (ask_of (two at options gone) (caller at options) (space 0 0).space [])

abbrev entry : (at options reply : ℕ) → List GotRange → CallEntry
entry at options reply got = record { pid = 1; call = 95; args = asks at options; sent = []; reply = reply; got = got }

abbrev item : CallEntry → Item
item e = record { entry = e; brought = [] }

-- the child 2 has ended: its end is told, with its pid and its code, and it goes from the list
info : CallEntry
info = entry 0x8000_0100 4 0 (record { addr = 0x8000_0100; bytes = 17 ∷ replicate 7 0 ++ 1 ∷ 0 ∷ 0 ∷ 0 ∷ 2 ∷ replicate 7 0 ++ 7 ∷ 0 ∷ 0 ∷ 0 ∷ [] } ∷ [])

waitid-tells :
    seen (waits 0x8000_0100 4 (record { pid = 2; parent = 1; how = Exit 7 } ∷ []))
    ≡ Some (record {
      lives = life 3 1 1 Ready ∷ life 1 0 0 Ready ∷ [];
      ended = [];
      spaces = 1 ∷ 0 ∷ [];
      notes = call_note info ∷ [];
      events = 6;
      trace = record { space = 0; events = 1; items = item info ∷ []; begins = None; over = false };
    })
unfolding register with_register writable_in may_use is_errno has_room change first_ended without_first told has_child child_info served waitid info
waitid-tells = refl

-- none has ended: it waits, without a note, and its turn is over
waitid-waits :
    seen (waits 0x8000_0100 4 [])
    ≡ Some (record {
      lives = life 3 1 1 Ready ∷ life 1 0 0 (Waiting All) ∷ [];
      ended = [];
      spaces = 1 ∷ 0 ∷ [];
      notes = [];
      events = 6;
      trace = record { space = 0; events = 0; items = []; begins = None; over = true };
    })
unfolding register change first_ended told has_child waited waitid
waitid-waits = refl

-- WNOHANG: zeros, and not at 0
none_yet : CallEntry
none_yet = entry 0x8000_0100 5 0 (record { addr = 0x8000_0100; bytes = replicate 24 0 } ∷ [])

waitid-none_yet :
    map (λ (o : Outcome). seen o) (waits 0x8000_0100 5 [] ∷ waits 0 5 [] ∷ [])
    ≡ map
    (λ (e : CallEntry). Some (record {
      lives = life 3 1 1 Ready ∷ life 1 0 0 Ready ∷ [];
      ended = [];
      spaces = 1 ∷ 0 ∷ [];
      notes = call_note e ∷ [];
      events = 6;
      trace = record { space = 0; events = 1; items = item e ∷ []; begins = None; over = false };
    }))
    (none_yet ∷ entry 0 5 0 [] ∷ [])
unfolding register with_register writable_in may_use is_errno has_room change first_ended told has_child served waitid none_yet
waitid-none_yet = refl

-- ---- the execve of a vfork child, process 2, to a program in the last two pages

abbrev marked : Table
marked = Some (record { handle = Input; cloexec = false }) ∷ Some (record { handle = Output; cloexec = true }) ∷ replicate 30 None

abbrev child : Process
child = record (process 2 1 0 Ready) { regs = record { pc = 0x8000_0080; x = replicate 10 0 ++ 64 ∷ replicate 6 0 ++ 221 ∷ replicate 14 0 } }

abbrev lent : World
lent = record old { rest = record old.rest { files = record files { tables = None ∷ None ∷ Some marked ∷ [] } } }
  where
    old : World
    old = world (child ∷ process 1 0 0 (Lent 2) ∷ []) []

abbrev last : Loading
last = record loading { block = 0x8000_2000 }

abbrev execs : Outcome
execs = executed lent (ask_of lent child (space 0 0).space (codes "/x" ++ 0 ∷ [])) 3 last

abbrev exec_entry : CallEntry
exec_entry = record { pid = 2; call = 221; args = 64 ∷ replicate 5 0; sent = codes "/x" ++ 0 ∷ []; reply = 0; got = [] }

-- it begins in the next space, its lender goes on with the old one, and two notes are made
exec-begins :
    seen execs
    ≡ Some (record {
      lives = life 2 1 2 Ready ∷ life 1 0 0 Ready ∷ [];
      ended = [];
      spaces = 2 ∷ 1 ∷ 0 ∷ [];
      notes = load_note (record { pid = 2; program = 3; base = 0x8000_2000; pages = 2 }) ∷ call_note exec_entry ∷ [];
      events = 6;
      trace = record { space = 0; events = 1; items = item exec_entry ∷ []; begins = Some (record { loading = last; pid = 2 }); over = false };
    })
unfolding register block_pages begin_space has_room change resumed borrows spaces_left executed
exec-begins = refl

-- with the registers of a program that begins, and without the descriptor that is marked so
abbrev first_regs : Outcome → List Regs
first_regs (went w t) = map (λ (p : Process). p.regs) w.procs
first_regs (strays access) = []
first_regs full = []
first_regs idle = []

exec-regs : first_regs execs ≡ record { pc = 0x8000_2080; x = 0 ∷ 0 ∷ 0x8000_3fe0 ∷ replicate 29 0 } ∷ (process 1 0 0 Ready).regs ∷ []
unfolding register block_pages frame_len frame_start begin_regs has_room change executed
exec-regs = refl

abbrev table_behind : Outcome → Option Table
table_behind (went w t) = table_at w.rest.files 2
table_behind (strays access) = None
table_behind full = None
table_behind idle = None

exec-closes : table_behind execs ≡ Some (Some (record { handle = Input; cloexec = false }) ∷ replicate 31 None)
unfolding register has_room closed exec_closed all_descriptors executed
exec-closes = refl
