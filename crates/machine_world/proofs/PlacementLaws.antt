-- Which pages a program's block and a mapping of its own get.
use Rattle.std.proofs.Common.{◌≡◌, ℕ, true, false, Option, Some, None, Ok, refl, ap, ◌∙◌}
use Rattle.std.specs.Prelude.{Result, option_map}
use Rattle.call_log.specs.declared.errno.Errno.{Errno}
use Rattle.mmap_rules.specs.declared.mapping.Mapping.{Mapping}
use Rattle.mmap_rules.specs.declared.want.Want.{Want}
use Rattle.mmap_rules.specs.declared.want.Want.TheVariants.{Anon, File}
use Rattle.mmap_rules.specs.Held.{page_address}
use Rattle.mmap_rules.specs.Want.{wanted}
use Rattle.mmap_rules.specs.Copies.{wanted_bytes}
use Rattle.machine_world.specs.Asks.{Ask, arg, leaves, with_ok}
use Rattle.machine_world.specs.MapCalls.{file_side, in_copy, own_run, with_mapping, maps, or_own, mapped, mmap2_row}
use Rattle.machine_world.specs.Rows.{row}
use Rattle.machine_world.specs.Boot.{placed, fitting, located, started}
use Rattle.machine_world.specs.Event.{exec_strings, exec_program, exec_fitting, exec_at, exec}
use Rattle.machine_world.specs.Placements.{placed_page, MapsExactly, MapsAreExact, StartsAreExact, ExecsAreExact}

is_mmap2 : (a : Ask) → a.number ≡ 222 → row a ≡ with_ok a (wanted (arg a 0) (arg a 1) (arg a 2) (arg a 3) (arg a 5) (file_side a)) (mapped a)
unfolding row mmap2_row
is_mmap2 a is = rw is refl

own_address : (want : Want) (page : ℕ) → (own_run want page).range.from ≡ page_address page
own_address (Anon pages) page = refl
own_address (File pages first true id change) page = refl
own_address (File pages first false id change) page = refl

module _ (a : Ask) (want : Want) (number : a.number ≡ 222) (asks : wanted (arg a 0) (arg a 1) (arg a 2) (arg a 3) (arg a 5) (file_side a) ≡ Ok want) where
  by_choice : (shared : Option Mapping) (page : Option ℕ) → in_copy a.spaces want ≡ shared → placed_page a want ≡ page →
      row a ≡ maps a want (or_own shared (option_map (own_run want) page))
  by_choice shared page copy at =
      is_mmap2 a number
      ∙ ap (λ (r : Result Want Errno). with_ok a r (mapped a)) asks
      ∙ (λ i. maps a want (or_own (copy i) (option_map (own_run want) (at i))))

  maps_exactly : MapsExactly a want
  maps_exactly = record {
    shared = λ m copy. by_choice (Some m) (placed_page a want) copy refl;
    own = λ page none at.
        by_choice None (Some page) none at
        ∙ ap (λ (addr : ℕ). leaves a addr (with_mapping a.space (own_run want page) (wanted_bytes a.rest.tree want))) (own_address want page);
    full = λ none at. by_choice None None none at;
  }

pub maps_are_exact : MapsAreExact
maps_are_exact a want number asks = maps_exactly a want number asks

pub starts_are_exact : StartsAreExact
unfolding started
starts_are_exact w s f there fits =
    let begins = ap (located w s) there ∙ ap (fitting w s f) fits in
    record { own = λ page at. begins ∙ ap (placed w s f) at; full = λ none. begins ∙ ap (placed w s f) none }

pub execs_are_exact : ExecsAreExact
unfolding exec
execs_are_exact w a f s zero read leads fits =
    let begins = rw zero (ap (exec_strings w a) read) ∙ ap (exec_program w a s) leads ∙ ap (exec_fitting w a f s) fits in
    record { own = λ page at. begins ∙ ap (exec_at w a f s) at; full = λ none. begins ∙ ap (exec_at w a f s) none }
