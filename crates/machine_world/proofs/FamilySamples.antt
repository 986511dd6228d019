-- waitid, clone, execve and ends, computed on worked examples.
use Rattle.std.proofs.Common.{◌≡◌, ℕ, List, [], ◌∷◌, ◌++◌, Option, Some, None, refl}
use Rattle.std.specs.Prelude.{true, Ok, Err, replicate, codes}
use Rattle.byte_words.specs.Pieces.{pieces}
use Rattle.rv32im_step.specs.declared.regs.Regs.{Regs}
use Rattle.rv32im_step.specs.Registers.{with_register}
use Rattle.page_runs.specs.declared.place.Kind.TheVariants.{First}
use Rattle.page_runs.specs.Free.{free_runs}
use Rattle.page_runs.specs.Place.{place}
use Rattle.call_log.specs.declared.errno.Errno.{Errno}
use Rattle.call_log.specs.declared.errno.Errno.TheVariants.{Enoent, E2big, Echild, Enomem, Eacces, Einval, Enametoolong}
use Rattle.call_log.specs.declared.how.How.TheVariants.{Exit, Signal}
use Rattle.call_log.specs.Notes.{has_room}
use Rattle.call_log.specs.Strings.{strings_in, program_strings}
use Rattle.nommu_regions.specs.declared.region.Source.TheVariants.{Own}
use Rattle.mem_files.specs.Inodes.{Inodes, file, folder, new_inode}
use Rattle.mem_files.specs.Paths.{names, is_too_long, walked, place_of}
use Rattle.mmap_rules.specs.Space.{Space}
use Rattle.flat_loader.specs.Original.{Original, block_pages}
use Rattle.flat_loader.specs.Frame.{frame_len, frame_start, frame_fits}
use Rattle.fd_tables.specs.Files.{nothing_open}
use Rattle.vfork_exec.specs.declared.family.Who.TheVariants.{All}
use Rattle.vfork_exec.specs.declared.family.State.{State}
use Rattle.vfork_exec.specs.declared.family.State.TheVariants.{Ready, Waiting, Lent}
use Rattle.vfork_exec.specs.declared.family.Ended.{Ended}
use Rattle.vfork_exec.specs.declared.family.Waited.TheVariants.{Child, NoneYet, Waits}
use Rattle.vfork_exec.specs.Keyed.{change, without}
use Rattle.vfork_exec.specs.Families.{resumed, state_behind, ended_behind, first_ended, told}
use Rattle.machine_world.specs.World.{Process, Rest, World}
use Rattle.machine_world.specs.Families.{is_full, all_left_by, has_child}
use Rattle.machine_world.specs.FamilyCalls.{waitid_fault, child_info}
use Rattle.machine_world.specs.Free.{free_runs_in}
use Rattle.machine_world.specs.Asks.{Ask, refuses}
use Rattle.machine_world.specs.PathCalls.{path_of}
use Rattle.machine_world.specs.Recordings.{nothing_recorded}
use Rattle.machine_world.specs.Event.{Outcome, went, strays, full, idle, departed, told_in, answered, forked, cloned, executed, exec}

-- ---- a small world

abbrev regs : Regs
regs = record { pc = 100; x = replicate 32 9 }

abbrev process : (pid parent space : ℕ) → State → Process
process pid parent space state = record { pid = pid; parent = parent; regs = regs; space = space; table = 0; state = state }

-- it holds the first two pages
abbrev own : Space
own = record {
  maps = record { first = 0; pages = 2; range = record { from = 0x8000_0040; size = 8128; writes = true; anonymous = true }; source = Own } ∷ [];
  brk = 0;
  brk_low = 0;
  brk_high = 0;
  bytes = λ a. None;
}

-- a program whose block has so many pages
abbrev program : (size : ℕ) → Original
program size = record { image = λ b a. None; size = size; entry = 64; stack = 4096 }

-- the root with the folder /d and the programs /three and /two, of so many pages
abbrev tree : Inodes
tree =
    None
    ∷ Some (new_inode (folder 1 (record { name = codes "d"; id = 2 } ∷ record { name = codes "three"; id = 3 } ∷ record { name = codes "two"; id = 4 } ∷ [])) None)
    ∷ Some (new_inode (folder 1 []) None)
    ∷ Some (new_inode (file []) (Some 0))
    ∷ Some (new_inode (file []) (Some 1))
    ∷ []

abbrev rest : Rest
rest = record {
  pages = 4;
  kind = First;
  programs = record { path = codes "/three"; original = program 4096 } ∷ record { path = codes "/two"; original = program 108 } ∷ [];
  tree = tree;
  files = nothing_open [];
  console = [];
  keep = 0;
}

abbrev world : List Process → List Ended → World
world procs ended = record {
  procs = procs;
  ended = ended;
  spaces = record { id = 0; space = own } ∷ [];
  loads = 1;
  next_pid = 9;
  rest = rest;
  notes = [];
  events = 0;
  recording = nothing_recorded 0;
}

abbrev parent : Process
parent = process 1 0 0 Ready

abbrev ask : (args sent : List ℕ) → Ask
ask args sent = record { process = parent; space = own; spaces = record { id = 0; space = own } ∷ []; rest = rest; number = 0; args = args; sent = sent }

abbrev alone : World
alone = world (parent ∷ []) []

-- what a call of process 1 comes to that is refused
abbrev refused : Ask → Errno → Outcome
refused a errno = answered alone a (refuses a errno)

-- ---- waitid

info-exit : child_info 2 (Exit 7) ≡ 17 ∷ replicate 7 0 ++ 1 ∷ 0 ∷ 0 ∷ 0 ∷ 2 ∷ replicate 7 0 ++ 7 ∷ 0 ∷ 0 ∷ 0 ∷ []
unfolding child_info
info-exit = refl

info-signal : child_info 2 (Signal 4) ≡ 17 ∷ replicate 7 0 ++ 2 ∷ 0 ∷ 0 ∷ 0 ∷ 2 ∷ replicate 7 0 ++ 4 ∷ 0 ∷ 0 ∷ 0 ∷ []
unfolding child_info
info-signal = refl

-- waitid(kind, 2, 0, options, usage)
abbrev fault : (kind options usage : ℕ) → Option Errno
fault kind options usage = waitid_fault (ask (kind ∷ 2 ∷ 0 ∷ options ∷ usage ∷ 0 ∷ []) [])

-- P_PGID; no WEXITED; WSTOPPED; a struct rusage
fault-kind : fault 2 4 0 ≡ Some Einval
fault-kind = refl

fault-none : fault 0 0 0 ≡ Some Einval
fault-none = refl

fault-stopped : fault 0 2 0 ≡ Some Einval
fault-stopped = refl

fault-usage : fault 0 4 1 ≡ Some Einval
fault-usage = refl

-- WEXITED, and WEXITED with WNOHANG
no_fault-exited : fault 0 4 0 ≡ None
no_fault-exited = refl

no_fault-no_hang : fault 1 5 0 ≡ None
no_fault-no_hang = refl

-- process 1 asks for its children
abbrev asks_for : (kind id options : ℕ) → Ask
asks_for kind id options = ask (kind ∷ id ∷ 0 ∷ options ∷ 0 ∷ 0 ∷ []) []

-- its children 3 and 2 have ended, in this order, and a child of process 4 before them
abbrev two_ended : World
two_ended =
    world (process 4 1 1 Ready ∷ parent ∷ [])
    (record { pid = 5; parent = 4; how = Exit 5 } ∷ record { pid = 3; parent = 1; how = Signal 4 } ∷ record { pid = 2; parent = 1; how = Exit 7 } ∷ [])

told-first : told_in two_ended (asks_for 0 0 4) ≡ Ok (Child 3 (Signal 4))
unfolding told first_ended has_child
told-first = refl

told-meant : told_in two_ended (asks_for 1 2 4) ≡ Ok (Child 2 (Exit 7))
unfolding told first_ended has_child
told-meant = refl

-- one lives
told-waits : told_in two_ended (asks_for 1 4 4) ≡ Ok Waits
unfolding told first_ended has_child
told-waits = refl

told-none_yet : told_in two_ended (asks_for 1 4 5) ≡ Ok NoneYet
unfolding told first_ended has_child
told-none_yet = refl

-- process 5 isn't its child
told-no_child : told_in two_ended (asks_for 1 5 4) ≡ Err Echild
unfolding told first_ended has_child
told-no_child = refl

-- ---- clone, as vfork

abbrev procs_after : Outcome → List Process
procs_after (went now t) = now.procs
procs_after (strays access) = []
procs_after full = []
procs_after idle = []

abbrev clones : (flags stack : ℕ) → Ask
clones flags stack = ask (flags ∷ stack ∷ 0 ∷ 0 ∷ 0 ∷ 0 ∷ []) []

-- SIGCHLD alone, as fork asks
clone-fork : cloned alone (clones 17 0) ≡ refused (clones 17 0) Einval
unfolding cloned
clone-fork = refl

-- the registers behind the call, with these sp and a0
abbrev behind : (sp a0 : ℕ) → Regs
behind sp a0 = record { pc = 104; x = 9 ∷ 9 ∷ sp ∷ replicate 7 9 ++ a0 ∷ replicate 21 9 }

abbrev vforked : (sp : ℕ) → List Process
vforked sp =
    record { pid = 9; parent = 1; regs = behind sp 0; space = 0; table = 0; state = Ready }
    ∷ record { pid = 1; parent = 0; regs = behind 9 9; space = 0; table = 0; state = Lent 9 }
    ∷ []

clone-vfork : procs_after (cloned alone (clones 0x4111 0)) ≡ vforked 9
unfolding cloned is_full forked has_room with_register change
clone-vfork = refl

clone-stack : procs_after (cloned alone (clones 0x4111 64)) ≡ vforked 64
unfolding cloned is_full forked has_room with_register change
clone-stack = refl

-- ---- an end

-- 5 and 2 are children of 3, which borrows the space of 1; 2 lent its space to 4
abbrev family : World
family =
    world
    (process 5 3 2 Ready ∷ process 4 2 1 Ready ∷ process 3 1 0 Ready ∷ process 2 3 1 (Lent 4) ∷ process 1 0 0 (Lent 3) ∷ [])
    (record { pid = 6; parent = 3; how = Exit 0 } ∷ record { pid = 7; parent = 1; how = Exit 1 } ∷ [])

end-procs :
    (departed family (process 3 1 0 Ready) (Exit 7)).procs
    ≡ process 5 0 2 Ready ∷ process 4 2 1 Ready ∷ process 2 0 1 (Lent 4) ∷ process 1 0 0 Ready ∷ []
unfolding all_left_by without state_behind resumed
end-procs = refl

end-ended : (departed family (process 3 1 0 Ready) (Exit 7)).ended ≡ record { pid = 7; parent = 1; how = Exit 1 } ∷ record { pid = 3; parent = 1; how = Exit 7 } ∷ []
unfolding ended_behind
end-ended = refl

-- a parent that waits goes on
end-wakes : (departed (world (process 2 1 1 Ready ∷ process 1 0 0 (Waiting All) ∷ []) []) (process 2 1 1 Ready) (Exit 0)).procs ≡ parent ∷ []
unfolding all_left_by without state_behind resumed
end-wakes = refl

-- of one without a parent nothing is told
end-no_parent : (departed two_ended parent (Exit 0)).ended ≡ record { pid = 5; parent = 4; how = Exit 5 } ∷ []
unfolding ended_behind
end-no_parent = refl

-- ---- execve

-- of a process with this path, no arguments and no environment
abbrev execs : List ℕ → Ask
execs path = ask (64 ∷ 0 ∷ 0 ∷ 0 ∷ 0 ∷ 0 ∷ []) (path ++ 0 ∷ [])

-- with the list of arguments at 128, of which nothing was read
abbrev stops : (sent : List ℕ) → Ask
stops sent = ask (64 ∷ 128 ∷ 0 ∷ 0 ∷ 0 ∷ 0 ∷ []) sent

exec-long : exec alone (stops (codes "/no")) ≡ refused (stops (codes "/no")) Enametoolong
unfolding exec
exec-long = refl

exec-too_many : exec alone (stops (codes "/no" ++ 0 ∷ [])) ≡ refused (stops (codes "/no" ++ 0 ∷ [])) E2big
unfolding exec program_strings strings_in
exec-too_many = refl

exec-nothing : exec alone (execs (codes "/no")) ≡ refused (execs (codes "/no")) Enoent
unfolding exec program_strings path_of pieces names is_too_long walked place_of
exec-nothing = refl

exec-folder : exec alone (execs (codes "/d")) ≡ refused (execs (codes "/d")) Eacces
unfolding exec program_strings path_of pieces names is_too_long walked place_of
exec-folder = refl

-- of four pages the caller holds two while its new program looks for a place
exec-no_pages : exec alone (execs (codes "/three")) ≡ refused (execs (codes "/three")) Enomem
unfolding exec program_strings path_of pieces names is_too_long walked place_of frame_fits frame_len frame_start block_pages free_runs_in free_runs place
exec-no_pages = refl

exec-last_pages : exec alone (execs (codes "/two")) ≡ executed alone (execs (codes "/two")) 1 (record { original = program 108; block = 0x8000_2000; args = []; env = [] })
unfolding exec program_strings path_of pieces names is_too_long walked place_of frame_fits frame_len frame_start block_pages free_runs_in free_runs place
exec-last_pages = refl
