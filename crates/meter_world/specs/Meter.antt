-- What a meter tells of a run: of each program that was loaded how deep its stack came and how high its break, and of all how much memory
-- they held at once, and why requests failed (the stack grows downward, and x2 is its pointer: RISC-V ELF psABI, "Integer Register
-- Convention"; nothing below it is in use).
use Rattle.std.specs.Prelude.{ℕ, ◌+◌, ◌-◌, ◌*◌, ◌==◌, Bool, false, not, ◌&&◌, nat_le, if◌then◌else◌, List, [], ◌∷◌, ◌++◌, map, filter, length, Option, Some, None}
use Rattle.std.specs.List.{list_any}
use Rattle.rv32im_step.specs.Registers.{register}
use Rattle.call_log.specs.Notes.{LoadEntry}
use Rattle.vfork_exec.specs.Keyed.{find}
use Rattle.mmap_rules.specs.Space.{page_size}
use Rattle.flat_loader.specs.Original.{header_len}
use Rattle.alone_laws.specs.Stays.{loads_of}
use Rattle.machine_world.specs.World.{Process, LiveSpace, World, pid_of, id_of}
use Rattle.meter_world.specs.Steps.{Step, world_behind}
use Rattle.meter_world.specs.Requests.{Request, request_of, is_granted, held_with, lies_in_pieces, falls_short}

-- the greatest of some numbers, 0 of none
unfoldable pub greatest : List ℕ → ℕ
greatest [] = 0
greatest (n ∷ ns) = if nat_le n (greatest ns) then greatest ns else n

-- the opening world, and the world behind each step
abbrev pub walk : World → List Step → List World
walk w taken = w ∷ map world_behind taken

abbrev pub last_of : World → List World → World
last_of w [] = w
last_of w (v ∷ vs) = last_of v vs

-- ---- a stack

abbrev pub stack_pointer : Process → ℕ
stack_pointer p = register p.regs.x 2

-- the end of a program's block, from where its stack grows down
abbrev pub block_end : LoadEntry → ℕ
block_end l = l.base + page_size * l.pages

-- an address of the block, its end included, but not of the flat file's header
abbrev pub is_in_block : LoadEntry → ℕ → Bool
is_in_block l at = nat_le (l.base + header_len) at && nat_le at (block_end l)

-- how deep a stack is that has come there; what isn't in the block is no stack of it
abbrev pub depth_at : LoadEntry → ℕ → ℕ
depth_at l at = if is_in_block l at then block_end l - at else 0

-- the processes that run in the space of this load note: its owner, and those that borrow it
abbrev pub runs_in : (space : ℕ) → World → List Process
runs_in space w = filter (λ p. p.space == space) w.procs

abbrev pub depth_in : (space : ℕ) → LoadEntry → World → ℕ
depth_in space l w = greatest (map (λ p. depth_at l (stack_pointer p)) (runs_in space w))

-- the deepest in all worlds
unfoldable pub depth : (space : ℕ) → LoadEntry → List World → ℕ
depth space l worlds = greatest (map (depth_in space l) worlds)

-- the stack pointer of a process before an event, or, of one that the event made, of its parent
abbrev pub pointer_or : Option Process → Option ℕ → Option ℕ
pointer_or (Some p) other = Some (stack_pointer p)
pointer_or None other = other

abbrev pub pointer_of : World → (pid : ℕ) → Option ℕ
pointer_of w pid = pointer_or (find pid_of pid w.procs) None

abbrev pub pointer_before : World → Process → Option ℕ
pointer_before w p = pointer_or (find pid_of p.pid w.procs) (pointer_of w p.parent)

abbrev pub is_pointer : ℕ → Option ℕ → Bool
is_pointer at None = false
is_pointer at (Some old) = old == at

-- it has left the block, for an address at which it wasn't before
abbrev pub has_left : LoadEntry → World → Process → Bool
has_left l old p = not (is_in_block l (stack_pointer p)) && not (is_pointer (stack_pointer p) (pointer_before old p))

abbrev pub leaves : (space : ℕ) → LoadEntry → Step → Bool
leaves space l s = list_any (has_left l s.before) (runs_in space s.after)

-- how many events left a stack pointer outside of its block with a new value
unfoldable pub outside : (space : ℕ) → LoadEntry → List Step → ℕ
outside space l taken = length (filter (leaves space l) taken)

-- ---- a break

abbrev pub break_of : Option LiveSpace → ℕ
break_of None = 0
break_of (Some s) = s.space.brk - s.space.brk_low

-- how far the break of a load note's space ever was from where it may begin
unfoldable pub top : (space : ℕ) → List World → ℕ
top space worlds = greatest (map (λ w. break_of (find id_of space w.spaces)) worlds)

-- ---- requests

abbrev pub asked_by : Step → List Request
asked_by s = request_of s.before s.need

unfoldable pub step_requests : List Step → List Request
step_requests [] = []
step_requests (s ∷ ss) = asked_by s ++ step_requests ss

-- ---- all of it

pub record Metered : Type 0 where
  pub pid : ℕ
  pub program : ℕ
  pub depth : ℕ
  pub outside : ℕ
  pub top : ℕ

-- of the load notes from number `space` on
unfoldable pub metered : (space : ℕ) → World → List Step → List LoadEntry → List Metered
metered space w taken [] = []
metered space w taken (l ∷ ls) =
    record {
      pid = l.pid;
      program = l.program;
      depth = depth space l (walk w taken);
      outside = outside space l taken;
      top = top space (walk w taken);
    } ∷ metered (space + 1) w taken ls

abbrev pub need_of_request : Request → ℕ
need_of_request r = r.need

-- `most`: the most pages that were held at once, those of a block that is left among them
pub record MeterValue : Type 0 where
  pub stays : List Metered
  pub most : ℕ
  pub largest : ℕ
  pub fragmented : ℕ
  pub short : ℕ

unfoldable pub meter_of : (starts : List Request) → World → List Step → MeterValue
meter_of starts w taken =
    let all = starts ++ step_requests taken in
    record {
      stays = metered 0 w taken (loads_of (last_of w (map world_behind taken)).notes);
      most = greatest (map held_with (filter is_granted all));
      largest = greatest (map need_of_request all);
      fragmented = length (filter lies_in_pieces all);
      short = length (filter falls_short all);
    }
