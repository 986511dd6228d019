-- Calls on descriptors that are copied and close, computed from the definitions.
use Rattle.std.proofs.Common.{◌≡◌, ℕ, Bool, true, List, [], ◌∷◌, ◌++◌, map, Option, Some, None, refl}
use Rattle.std.specs.Prelude.{replicate, codes, false}
use Rattle.page_runs.specs.declared.place.Kind.TheVariants.{First}
use Rattle.call_log.specs.Errno.{refusal}
use Rattle.call_log.specs.Notes.{GotRange}
use Rattle.mem_files.specs.Inodes.{Inodes, file, folder, new_inode}
use Rattle.fd_tables.specs.declared.view.Target.TheVariants.{Console}
use Rattle.fd_tables.specs.declared.view.View.{View}
use Rattle.fd_tables.specs.Files.{nothing_open, view, lowest_free}
use Rattle.fd_tables.specs.Changes.{closed, duplicated, replaced, with_table}
use Rattle.vfork_exec.specs.declared.family.State.TheVariants.{Ready}
use Rattle.machine_world.specs.World.{Rest}
use Rattle.machine_world.specs.Asks.{Ask, Row, replies, waits}
use Rattle.machine_world.specs.Descriptors.{dup_row, dup3_row, ioctl_row, close_row}
use Rattle.machine_world.specs.Rows.{row}

-- ---- process 2, whose parent is process 1, beside the root with the folder /d, in which the file ab stands, and the file /f; five
-- bytes of input are left

abbrev tree : Inodes
tree =
    None
    ∷ Some (new_inode (folder 1 (record { name = codes "d"; id = 2 } ∷ record { name = codes "f"; id = 4 } ∷ [])) None)
    ∷ Some (new_inode (folder 1 (record { name = codes "ab"; id = 3 } ∷ [])) None)
    ∷ Some (new_inode (file []) None)
    ∷ Some (new_inode (file (codes "abc")) None)
    ∷ []

abbrev pub rest : Rest
rest = record { pages = 4; kind = First; programs = []; tree = tree; files = with_table (nothing_open (codes "hello")); console = codes "> "; keep = 0 }

abbrev pub ask : Rest → ℕ → List ℕ → List ℕ → Ask
ask r number args sent = record {
  process = record { pid = 2; parent = 1; regs = record { pc = 0; x = replicate 32 0 }; space = 0; table = 0; state = Ready };
  space = record { maps = []; brk = 70; brk_low = 64; brk_high = 128; bytes = λ a. None };
  spaces = [];
  rest = r;
  number = number;
  args = args ++ replicate 3 0;
  sent = sent;
}

-- a call of three arguments, and one with what it reads
abbrev pub call : ℕ → (a b c : ℕ) → Row
call number a b c = row (ask rest number (a ∷ b ∷ c ∷ []) [])

abbrev pub reading : ℕ → (a b c : ℕ) → List ℕ → Row
reading number a b c sent = row (ask rest number (a ∷ b ∷ c ∷ []) sent)

-- what a call is answered and gives, whether the turn is over, and the break
pub record Seen : Type 0 where
  pub value : ℕ
  pub got : List GotRange
  pub over : Bool
  pub brk : ℕ

abbrev pub seen : Row → Option Seen
seen (replies r) = Some (record { value = r.value; got = r.got; over = r.over; brk = r.space.brk })
seen (waits who) = None

-- nothing but a reply
abbrev pub only : ℕ → Option Seen
only value = Some (record { value = value; got = []; over = false; brk = 70 })

-- what is left behind it
abbrev pub after : Row → Rest
after (replies r) = r.rest
after (waits who) = rest

-- ---- descriptors

abbrev to_console : (cloexec : Bool) → Option View
to_console cloexec = Some (record { target = Console; way = record { read = false; write = true; append = false; cloexec = cloexec }; at = 0 })

-- dup(1) gets the lowest that is free, which shows what 1 does; dup(9) has nothing to copy
dup-lowest : seen (call 23 1 0 0) ≡ only 3
unfolding row dup_row view lowest_free duplicated with_table
dup-lowest = refl

dup-shows : map (view (after (call 23 1 0 0)).files 0) (1 ∷ 3 ∷ 4 ∷ []) ≡ to_console false ∷ to_console false ∷ None ∷ []
unfolding row dup_row view lowest_free duplicated with_table
dup-shows = refl

dup-none : seen (call 23 9 0 0) ≡ only 0xffff_fff7
unfolding row dup_row view lowest_free with_table refusal
dup-none = refl

-- dup3(1, 0, O_CLOEXEC) takes the place of the input
dup3-shows : seen (call 24 1 0 0x80000) ≡ only 0
unfolding row dup3_row view closed replaced duplicated with_table
dup3-shows = refl

dup3-replaces : map (view (after (call 24 1 0 0x80000)).files 0) (0 ∷ 1 ∷ []) ≡ to_console true ∷ to_console false ∷ []
unfolding row dup3_row view closed replaced duplicated with_table
dup3-replaces = refl

-- other flags, onto itself, onto a descriptor that there isn't, and of one that isn't open
dup3-refused : map seen (call 24 1 0 1 ∷ call 24 1 1 0 ∷ call 24 1 32 0 ∷ call 24 9 0 0 ∷ []) ≡ map only (0xffff_ffea ∷ 0xffff_ffea ∷ 0xffff_fff7 ∷ 0xffff_fff7 ∷ [])
unfolding row dup3_row view with_table refusal
dup3-refused = refl

-- ioctl: no terminal, and not open
ioctl-refused : map seen (call 29 1 0x5413 0 ∷ call 29 9 0x5413 0 ∷ []) ≡ only 0xffff_ffe7 ∷ only 0xffff_fff7 ∷ []
unfolding row ioctl_row view with_table refusal
ioctl-refused = refl

-- close(1), and that of one that isn't open
close-one : seen (call 57 1 0 0) ≡ only 0
unfolding row close_row view closed with_table
close-one = refl

close-shows : map (view (after (call 57 1 0 0)).files 0) (1 ∷ 2 ∷ []) ≡ None ∷ to_console false ∷ []
unfolding row close_row view closed with_table
close-shows = refl

close-none : seen (call 57 3 0 0) ≡ only 0xffff_fff7
unfolding row close_row view with_table refusal
close-none = refl
