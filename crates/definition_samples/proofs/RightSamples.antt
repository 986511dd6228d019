-- What is right of stays for a world: of a program that is loaded, runs and exits; and what is told wrongly.
use Rattle.std.proofs.Common.{◌≡◌, ℕ, zero, suc, ◌+◌, ◌≤◌, Bool, true, false, List, [], ◌∷◌, map, sum, length, Option, Some, None, refl, ap, sym, ◌∙◌, subst, arith}
use Rattle.std.specs.Prelude.{◌==◌, if◌then◌else◌, slice_get}
use Rattle.std.proofs.lemmas.Bool.Decides.{nat_tests}
use Rattle.std.proofs.lemmas.Option.{none-some, same_Some}
use Rattle.call_log.specs.Notes.{CallEntry, call_note, load_note}
use Rattle.flat_loader.specs.Original.{Original}
use Rattle.flat_loader.specs.Alone.{Runner, Solo, Item, memory_of}
use Rattle.vfork_exec.specs.Keyed.{find}
use Rattle.machine_world.specs.World.{Process}
use Rattle.alone_laws.specs.Stays.{Stay, runners, kept_calls_of, loads_of, belonging, alone_end, IsOver, Agrees, AllAgree, AreRight}
use Rattle.definition_samples.proofs.Exits.{exits, loading, regs, exit_entry, exit_item, process, space, load, running, over}
use Rattle.definition_samples.proofs.StaysSamples.{stay, alone-first, alone-one, alone-all, alone-untold}

-- ---- the parts

-- of the processes those of a space, newest first, with their registers
abbrev in_space : (pid space : ℕ) → Process
in_space pid space = record (process pid 0) { pid = pid; space = space }

processes : runners 4 (in_space 9 4 ∷ in_space 8 5 ∷ in_space 7 4 ∷ []) ≡ record { pid = 9; regs = regs 9 0 } ∷ record { pid = 7; regs = regs 7 0 } ∷ []
unfolding runners
processes = refl

processes-none : runners 6 (in_space 9 4 ∷ in_space 8 5 ∷ []) ≡ []
unfolding runners
processes-none = refl

-- calls and loads, oldest first
abbrev by : ℕ → CallEntry
by pid = record exit_entry { pid = pid }

calls : kept_calls_of (call_note (by 3) ∷ load ∷ call_note (by 2) ∷ over.notes) ≡ exit_entry ∷ by 2 ∷ by 3 ∷ []
unfolding kept_calls_of
calls = refl

loads : loads_of (load_note (record { pid = 2; program = 1; base = 0x8000_2000; pages = 1 }) ∷ over.notes)
    ≡ record { pid = 1; program = 0; base = 0x8000_0000; pages = 2 } ∷ record { pid = 2; program = 1; base = 0x8000_2000; pages = 1 } ∷ []
unfolding loads_of
loads = refl

-- the second and the fourth belong to place 1, and none to place 3
belong : belonging {A = ℕ} 1 (0 ∷ 1 ∷ 2 ∷ 1 ∷ []) (10 ∷ 11 ∷ 12 ∷ 13 ∷ []) ≡ 11 ∷ 13 ∷ []
unfolding belonging
belong = refl

belong-none : belonging {A = ℕ} 3 (0 ∷ 1 ∷ 2 ∷ 1 ∷ []) (10 ∷ 11 ∷ 12 ∷ 13 ∷ []) ≡ []
unfolding belonging
belong-none = refl

-- ---- right while the program runs: its stay has no call, and its run alone comes to its process

module _ (pc a7 n : ℕ) (alone : alone_end (stay [] n) ≡ Some (record { stack = record { pid = 1; regs = regs pc a7 } ∷ []; memory = memory_of space.space })) where
  agree-running : AllAgree (stay [] n ∷ []) (running pc a7 n)
  unfolding find runners
  agree-running zero y is = subst (λ (z : Stay). Agrees 0 (running pc a7 n).procs z (Some space)) (same_Some (stay [] n) y is) alone
  agree-running (suc i) y is = absurd cc

  pub right-running : AreRight (stay [] n ∷ []) (running pc a7 n)
  unfolding kept_calls_of loads_of belonging
  right-running = record {
    count = refl;
    loads = refl;
    agree = agree-running;
    told = record {
      places = [];
      each = refl;
      entries = λ i y is. entries i y is;
      no_others = λ i behind. refl;
    };
  }
    where
      entries : (i : ℕ) (y : Stay) → slice_get (stay [] n ∷ []) i ≡ Some y → map (λ (x : Item). x.entry) y.items ≡ []
      entries zero y is = ap (λ (z : Stay). map (λ (x : Item). x.entry) z.items) (sym (same_Some (stay [] n) y is))
      entries (suc i) y is = absurd cc

-- at boot, and behind its first instruction
right-first : AreRight (stay [] 0 ∷ []) (running 0x8000_0080 0 0)
right-first = right-running 0x8000_0080 0 0 alone-first

right-one : AreRight (stay [] 1 ∷ []) (running 0x8000_0084 93 1)
right-one = right-running 0x8000_0084 93 1 alone-one

-- ---- right when it has ended: its run alone leaves no process, and the one call is its own

abbrev ended : Stay
ended = stay (exit_item ∷ []) 2

agree-over : AllAgree (ended ∷ []) over
unfolding find
agree-over zero y is = subst IsOver (same_Some ended y is) (record { end = record { stack = []; memory = memory_of space.space }; is = alone-all; empty = refl })
agree-over (suc i) y is = absurd cc

told-entries : (i : ℕ) (y : Stay) → slice_get (ended ∷ []) i ≡ Some y → map (λ (x : Item). x.entry) y.items ≡ belonging i (0 ∷ []) (kept_calls_of over.notes)
unfolding kept_calls_of belonging
told-entries zero y is = ap (λ (z : Stay). map (λ (x : Item). x.entry) z.items) (sym (same_Some ended y is))
told-entries (suc i) y is = absurd cc

told-no_others : (i : ℕ) → 1 ≤ i → belonging i (0 ∷ []) (kept_calls_of over.notes) ≡ []
unfolding kept_calls_of belonging
told-no_others zero behind = absurd (omega (arith, behind))
told-no_others (suc i) behind = grind (arith, nat_tests)

right-over : AreRight (ended ∷ []) over
unfolding kept_calls_of loads_of
right-over = record { count = refl; loads = refl; agree = agree-over; told = record { places = 0 ∷ []; each = refl; entries = told-entries; no_others = told-no_others } }

-- ---- told wrongly

-- no stay
refuted-none : AreRight [] over → ⊥
refuted-none r = let is : 0 ≡ 1 = r.count in omega (arith, is)

-- without its call: its run alone is refuted
refuted-untold : AreRight (stay [] 2 ∷ []) over → ⊥
unfolding find
refuted-untold r = let over : IsOver (stay [] 2) = r.agree 0 (stay [] 2) refl in none-some over.end (sym alone-untold ∙ over.is)

-- an event less: a process would be left
refuted-short : AreRight (stay [] 1 ∷ []) over → ⊥
unfolding find
refuted-short r = left (r.agree 0 (stay [] 1) refl)
  where
    stands : List Runner
    stands = record { pid = 1; regs = regs 0x8000_0084 93 } ∷ []

    left : IsOver (stay [] 1) → ⊥
    left o = nobody (ap (λ (s : Solo). s.stack) (same_Some (record { stack = stands; memory = memory_of space.space }) o.end (sym alone-one ∙ o.is)) ∙ o.empty)
      where
        nobody : stands ≡ [] → ⊥
        nobody is = cc

-- with another reply than the one that was noted
abbrev other : Item
other = record { entry = record exit_entry { reply = 1 }; brought = [] }

refuted-reply : AreRight (stay (other ∷ []) 2 ∷ []) over → ⊥
unfolding kept_calls_of belonging
refuted-reply r = by r.told.places r.told.each (r.told.entries 0 (stay (other ∷ []) 2) refl)
  where
    first : (b : Bool) → other.entry ∷ [] ≡ (if b then exit_entry ∷ [] else []) → ⊥
    first true is = let replies : 1 ≡ 0 = ap (λ (es : List CallEntry). sum (map (λ (e : CallEntry). e.reply) es)) is in omega (arith, replies)
    first false is = cc

    by : (places : List ℕ) → length places ≡ 1 → other.entry ∷ [] ≡ belonging 0 places (exit_entry ∷ []) → ⊥
    by [] each is = omega (arith, each)
    by (n ∷ []) each is = first (n == 0) is
    by (n ∷ m ∷ ns) each is = omega (arith, each)

-- of another program than the one that the load note names
abbrev larger : Original
larger = record exits { size = exits.size + 1 }

sizes : List (ℕ × ℕ × Option Original) → ℕ
sizes [] = 0
sizes ((pid, block, None) ∷ heads) = 0
sizes ((pid, block, Some original) ∷ heads) = original.size

refuted-program : AreRight (record (stay [] 0) { loading = record loading { original = larger } } ∷ []) (running 0x8000_0080 0 0) → ⊥
unfolding loads_of sizes
refuted-program r = let is : exits.size + 1 ≡ exits.size = ap sizes r.loads in omega (arith, is)
