-- execve: the program and its header are laid in a run that was free.
use Rattle.std.proofs.Common.{◌≡◌, ℕ, ◌+◌, ◌-◌, ◌*◌, ◌/◌, ◌^◌, ◌<◌, ◌≤◌, Bool, true, false, inl, inr, List, [], ◌∷◌, map, Option, Some, None, Result, Ok, Err, refl, sym, ap, subst, ◌∙◌, arith}
use Rattle.std.specs.Prelude.{◌==◌, not, ◌||◌, ◌&&◌, nat_le, nat_lt, is_some, slice_get, if◌then◌else◌}
use Rattle.std.proofs.lemmas.Bool.{cases_Bool, cases_lt, false≢true, false_from_ne_true}
use Rattle.std.proofs.lemmas.Bool.Decides.{nat_tests}
use Rattle.std.proofs.lemmas.Option.{same_Some}
use Rattle.byte_words.specs.ByteMap.{Bytes}
use Rattle.call_log.specs.declared.errno.Errno.{Errno}
use Rattle.call_log.specs.declared.errno.Errno.TheVariants.{E2big, Enomem, Enametoolong}
use Rattle.call_log.specs.Notes.{LoadEntry, Note, call_note, load_note, weight_of}
use Rattle.call_log.specs.Sent.{has_zero}
use Rattle.call_log.specs.Strings.{ProgramStrings, program_strings}
use Rattle.mmap_rules.specs.declared.mapping.Mapping.{Mapping}
use Rattle.mmap_rules.specs.Space.{in_range, own_in}
use Rattle.mmap_rules.specs.Mappings.{page_at}
use Rattle.mmap_rules.proofs.Lists.{each_one}
use Rattle.region_watch.specs.Private.{only}
use Rattle.flat_loader.specs.Original.{block_pages}
use Rattle.flat_loader.specs.Frame.{frame_fits}
use Rattle.flat_loader.specs.Begin.{Loading, in_block, own_range, begin_byte, begin_bytes, begin_space}
use Rattle.vfork_exec.specs.Keyed.{find}
use Rattle.vfork_exec.proofs.Keyed.{find_head}
use Rattle.machine_world.specs.World.{Process, LiveSpace, World, id_of}
use Rattle.machine_world.specs.Families.{spaces_left}
use Rattle.machine_world.specs.FamilyCalls.{runs}
use Rattle.machine_world.specs.Free.{is_held, free}
use Rattle.machine_world.specs.Found.{Found, address_of, taken}
use Rattle.machine_world.specs.Asks.{Ask, arg, refuses}
use Rattle.machine_world.specs.PathCalls.{path_of}
use Rattle.machine_world.specs.Recordings.{room_in}
use Rattle.machine_world.specs.Event.{Trace, counted_in, noted, ask_of, entry_of, plain_item, answered, with_exec, load_of, executed, exec_at, exec_program, exec_strings, exec}
use Rattle.alone_laws.specs.Sound.{IsSound}
use Rattle.alone_laws.proofs.SharedPages.{IsFree}
use Rattle.alone_laws.proofs.SoundBegins.{some_pages, pages_free}
use Rattle.alone_laws.proofs.SpacesLeft.{falls_spaces, space_was}
use Rattle.memory_world.specs.Physical.{Physical, in_memory, or_below, shown_space, bytes_in, is_free_at, headed, laid_behind, behind, after, carried}
use Rattle.go_on_laws.specs.Alike.{AreHeaders, Stands}
use Rattle.go_on_laws.proofs.Pages.{not_free, own_not_free}
use Rattle.go_on_laws.proofs.Behind.{HasSource, IsIn, in_elsewhere, Behind, behind_shown, Goes, goes_carried, goes_room, is_in}
use Rattle.go_on_laws.proofs.Writes.{only_at, only_off, bytes_there}
use Rattle.go_on_laws.proofs.Ends.{goes_refused}
use Rattle.go_on_laws.proofs.Laid.{none_in, laid, laid_free, laid_some, laid_none, free_space}
use Rattle.alone_laws.proofs.Bytes.{bytes_before, bytes_behind}

-- ---- a header

-- it lies in the first 64 bytes of its block
module _ (headers : List (List ℕ)) (l : LoadEntry) (notes : List Note) (memory : Bytes) where
  pub header_off : AreHeaders headers → (a : ℕ) → (nat_le l.base a && nat_lt a (l.base + 64)) ≡ false → headed headers (load_note l ∷ notes) memory a ≡ memory a
  header_off are a away = by (slice_get headers l.program) refl
    where
      by : (o : Option (List ℕ)) → slice_get headers l.program ≡ o → headed headers (load_note l ∷ notes) memory a ≡ memory a
      by None is = rw is refl
      by (Some header) is = rw is (elim (cases_lt a l.base) [
        | inl low ↦ bytes_before memory l.base header a low
        | inr high ↦ bytes_behind memory l.base header a
            (let most = are l.program header is in let past : l.base + 64 ≤ a = grind (arith, nat_tests) in omega (arith, most, past))
      ])

  pub header_there : (a : ℕ) → is_some (memory a) ≡ true → is_some (headed headers (load_note l ∷ notes) memory a) ≡ true
  header_there a there = by (slice_get headers l.program) refl
    where
      by : (o : Option (List ℕ)) → slice_get headers l.program ≡ o → is_some (headed headers (load_note l ∷ notes) memory a) ≡ true
      by None is = rw is there
      by (Some header) is = rw is (bytes_there memory l.base header a there)

-- ---- a program at its block

pub below_some : (x y : Option ℕ) → is_some y ≡ true → is_some (or_below x y) ≡ true
below_some (Some b) y is = refl
below_some None y is = is

pub own_one : (m : Mapping) (a : ℕ) → own_in (m ∷ []) a ≡ in_range m.range a
unfolding own_in
own_one m a = by (in_range m.range a)
  where
    by : (b : Bool) → (b || false) ≡ b
    by true = refl
    by false = refl

module _ (w : World) (page : ℕ) (l : Loading) (is : l.block ≡ address_of page) (run : IsFree w.rest.pages w.spaces page (block_pages l.original)) where
  pub block_free : (a : ℕ) → in_block l a ≡ true → is_free_at w a ≡ true
  block_free a inside =
      let low : 2 ^ 31 + 4096 * page ≤ a = grind (arith, nat_tests) in
      let high : a < 2 ^ 31 + 4096 * page + 4096 * block_pages l.original = grind (arith, nat_tests) in
      let above : page ≤ (a - 2 ^ 31) / 4096 = omega arith in
      let below : (a - 2 ^ 31) / 4096 < page + block_pages l.original = omega arith in
      let none : is_held w.spaces (page_at a) ≡ false = run.free (page_at a) above below in
      let base : nat_le (2 ^ 31) a ≡ true = grind (arith, nat_tests) in
      (λ i. base i && not (none i))

  pub block_inside : (a : ℕ) → in_block l a ≡ true → in_memory w a ≡ true
  block_inside a inside = let all = run.inside in grind (arith, nat_tests)

  pub held_beside : (a : ℕ) → is_free_at w a ≡ false → in_block l a ≡ false
  held_beside a held = false_from_ne_true (in_block l a) (λ inside. false≢true (sym held ∙ block_free a inside))

module _ (l : Loading) where
  pub own_block : (a : ℕ) → in_range (own_range l) a ≡ true → in_block l a ≡ true
  own_block a inside = let some = some_pages l.original in grind (arith, nat_tests)

  pub begin_at : (a : ℕ) → in_range (own_range l) a ≡ true → begin_bytes l a ≡ Some (begin_byte l a)
  begin_at a inside = ap (λ (b : Bool). if b then Some (begin_byte l a) else None) inside

  pub begin_off : (a : ℕ) → in_range (own_range l) a ≡ false → begin_bytes l a ≡ None
  begin_off a away = ap (λ (b : Bool). if b then Some (begin_byte l a) else None) away

  pub beside_own : (a : ℕ) → in_block l a ≡ false → in_range (own_range l) a ≡ false
  beside_own a away = false_from_ne_true (in_range (own_range l) a) (λ inside. false≢true (sym away ∙ own_block a inside))

  pub beside_header : (a : ℕ) → in_block l a ≡ false → (nat_le l.block a && nat_lt a (l.block + 64)) ≡ false
  beside_header a away = let some = some_pages l.original in grind (arith, nat_tests)

  -- its space is in a memory that has its bytes
  pub begun_in_it : (memory : Bytes) (w : World) → ((a : ℕ) → in_range (own_range l) a ≡ true → memory a ≡ begin_bytes l a) → IsIn memory w.rest.tree (begin_space l)
  unfolding begin_space
  begun_in_it memory w here = record {
    shown = λ i a. at a i;
    files = each_one (λ m. HasSource memory w.rest.tree m m.source) _ tt;
  }
    where
      at : (a : ℕ) → begin_bytes l a ≡ only (own_in (begin_space l).maps) memory a
      at a = elim (cases_Bool (in_range (own_range l) a)) [
        | inl inside ↦ sym (here a inside) ∙ sym (only_at (own_in (begin_space l).maps) memory a (own_one _ a ∙ inside))
        | inr away ↦ begin_off a away ∙ sym (only_off (own_in (begin_space l).maps) memory a (own_one _ a ∙ away))
      ]

-- ---- the call

module _ (p : Physical) (sound : IsSound p.world) (stands : Stands p.world p) (q : Process) (s : LiveSpace) (has : find id_of q.space p.world.spaces ≡ Some s) (bytes : List ℕ) where
  abbrev the_ask : Ask
  the_ask = ask_of p.world q s.space bytes

  abbrev others : List LiveSpace
  others = spaces_left q p.world.procs p.world.spaces

  module _ (index page : ℕ) (l : Loading) (is : l.block ≡ address_of page) (chosen : taken p.world (block_pages l.original) (free p.world) ≡ Some page) where
    run : IsFree p.world.rest.pages p.world.spaces page (block_pages l.original)
    run = pages_free p.world page l chosen

    abbrev its : LiveSpace
    its = record { id = p.world.loads; space = begin_space l }

    abbrev spaces : List LiveSpace
    spaces = its ∷ others

    abbrev now : World
    now = noted (load_of q index l) (noted (call_note (entry_of the_ask 0 [])) (counted_in q.space (with_exec p.world q l)))

    abbrev trace : Trace
    trace = record {
      space = q.space;
      events = 1;
      items = plain_item (entry_of the_ask 0 []) ∷ [];
      begins = Some (record { loading = l; pid = q.pid });
      over = false;
    }

    abbrev its_load : LoadEntry
    its_load = record { pid = q.pid; program = index; base = l.block; pages = block_pages l.original }

    abbrev its_notes : List Note
    its_notes = call_note (entry_of the_ask 0 []) ∷ p.world.notes

    abbrev begun : Bytes
    begun = headed p.headers now.notes p.memory

    abbrev memory : Bytes
    memory = laid p.world spaces begun

    beside : (a : ℕ) → in_block l a ≡ false → memory a ≡ p.memory a
    unfolding begin_space
    beside a away =
        laid_none p.world spaces begun a
        (λ free. ap (λ (x : Option ℕ). or_below x (bytes_in others a)) (begin_off l a (beside_own l a away))
        ∙ none_in p.world.loads others a (falls_spaces q p.world.procs p.world.spaces p.world.loads sound.numbers)
        (λ k t found. free_space p sound stands k t a (space_was q p.world.procs p.world.spaces k t found) free))
        ∙ header_off p.headers its_load its_notes p.memory stands.headers a (beside_header l a away)

    here : (a : ℕ) → in_range (own_range l) a ≡ true → memory a ≡ begin_bytes l a
    unfolding begin_space
    here a inside =
        laid_some p.world spaces begun a (begin_byte l a) (block_free p.world page l is run a (own_block l a inside)) (ap (λ (x : Option ℕ). or_below x (bytes_in others a)) (begin_at l a inside))
        ∙ sym (begin_at l a inside)

    held_still : (a : ℕ) → is_free_at p.world a ≡ false → memory a ≡ p.memory a
    held_still a held = beside a (held_beside p.world page l is run a held)

    all_laid : (a : ℕ) → is_some (memory a) ≡ in_memory p.world a
    all_laid a = elim (cases_Bool (in_block l a)) [
      | inl inside ↦ (
          let in_it = block_inside p.world page l is run a inside in
          ap is_some (laid_free p.world spaces begun a (block_free p.world page l is run a inside))
          ∙ below_some (bytes_in spaces a) (begun a) (header_there p.headers its_load its_notes p.memory a (stands.all a ∙ in_it)) ∙ sym in_it)
      | inr away ↦ ap is_some (beside a away) ∙ stands.all a
    ]

    other_in : (k : ℕ) (t : LiveSpace) → find id_of k p.world.spaces ≡ Some t → IsIn memory p.world.rest.tree t.space
    other_in k t found =
        in_elsewhere p.memory memory p.world.rest.tree t.space (λ a own. held_still a (own_not_free p.world sound k t found a own))
        (λ j n there copy a inside. held_still a (not_free p.world k t j n a found there inside)) (is_in p sound stands k t found)

    left_laid : Behind p.world (p.world.loads + 1) spaces memory
    left_laid = record {
      falls = (omega arith, falls_spaces q p.world.procs p.world.spaces p.world.loads sound.numbers);
      each = λ k t found. elim (cases_Bool (p.world.loads == k)) [
        | inl that ↦
            subst (λ (x : LiveSpace). IsIn memory p.world.rest.tree x.space) (same_Some its t (sym (find_head id_of k its others true that) ∙ found))
            (begun_in_it l memory p.world here)
        | inr other ↦ other_in k t (space_was q p.world.procs p.world.spaces k t (sym (find_head id_of k its others false other) ∙ found))
      ];
      all = all_laid;
    }

    laid_is : laid_behind p p.memory now trace ≡ memory
    unfolding laid_behind
    laid_is = refl

    behind_is : behind p p.memory now trace ≡ record p { world = now; memory = memory }
    behind_is =
        ap (λ (b : Bytes). record p { world = record now { spaces = map (shown_space b) spaces }; memory = b }) laid_is
        ∙ ap (λ (ss : List LiveSpace). record p { world = record now { spaces = ss }; memory = memory }) (behind_shown p.world (p.world.loads + 1) spaces memory left_laid)

    goes_executed : Goes p (executed p.world the_ask index l) (carried p p.memory (executed p.world the_ask index l))
    unfolding executed
    goes_executed =
        goes_room p p.memory (room_in p.world (weight_of bytes [])) now now trace trace
        (record { behind = record p { world = now; memory = memory }; is = ap (λ z. after z false) behind_is; world = refl; headers = refl; left = left_laid })

  goes_at : (f : Found) (strings : ProgramStrings) (page : Option ℕ) → taken p.world (block_pages f.original) (free p.world) ≡ page
      → Goes p (exec_at p.world the_ask f strings page) (carried p p.memory (exec_at p.world the_ask f strings page))
  goes_at f strings None chosen = goes_refused p sound stands q s has bytes Enomem
  goes_at f strings (Some page) chosen =
      goes_executed f.index page (record { original = f.original; block = address_of page; args = strings.args; env = strings.env }) refl chosen

  goes_program : (strings : ProgramStrings) (o : Result Found Errno) → Goes p (exec_program p.world the_ask strings o) (carried p p.memory (exec_program p.world the_ask strings o))
  goes_program strings (Ok f) =
      goes_carried p p.memory (frame_fits f.original strings.args strings.env) (exec_at p.world the_ask f strings (taken p.world (block_pages f.original) (free p.world)))
      (answered p.world the_ask (refuses the_ask E2big)) (goes_at f strings (taken p.world (block_pages f.original) (free p.world)) refl) (goes_refused p sound stands q s has bytes E2big)
  goes_program strings (Err errno) = goes_refused p sound stands q s has bytes errno

  goes_strings : (o : Option ProgramStrings) → Goes p (exec_strings p.world the_ask o) (carried p p.memory (exec_strings p.world the_ask o))
  goes_strings (Some strings) = goes_program strings (runs p.world.rest (path_of the_ask))
  goes_strings None = goes_refused p sound stands q s has bytes E2big

  pub goes_exec : Goes p (exec p.world the_ask) (carried p p.memory (exec p.world the_ask))
  unfolding exec
  goes_exec =
      goes_carried p p.memory (has_zero bytes) (exec_strings p.world the_ask (program_strings bytes (arg the_ask 1) (arg the_ask 2))) (answered p.world the_ask (refuses the_ask Enametoolong))
      (goes_strings (program_strings bytes (arg the_ask 1) (arg the_ask 2))) (goes_refused p sound stands q s has bytes Enametoolong)
