-- What isn't granted lacks a run, and no other call asks in vain.
use Rattle.std.proofs.Common.{◌≡◌, ℕ, ◌==◌, Bool, true, false, if◌then◌else◌, List, Option, Some, None, Result, Ok, Err, inl, inr, is_some, option_map, refl, sym, ap, subst, ◌∙◌}
use Rattle.page_runs.specs.declared.place.Kind.{Kind}
use Rattle.page_runs.specs.declared.run.Run.{Run}
use Rattle.page_runs.specs.Place.{place, first_of, Placed}
use Rattle.page_runs.proofs.Places.{placed}
use Rattle.call_log.specs.declared.errno.Errno.{Errno}
use Rattle.call_log.specs.Sent.{has_zero}
use Rattle.call_log.specs.Strings.{ProgramStrings, program_strings}
use Rattle.mmap_rules.specs.declared.mapping.Mapping.{Mapping}
use Rattle.mmap_rules.specs.declared.want.Want.{Want}
use Rattle.mmap_rules.specs.Want.{wanted}
use Rattle.mmap_rules.specs.Copies.{pages_of}
use Rattle.mmap_rules.specs.Space.{Space}
use Rattle.flat_loader.specs.Original.{block_pages}
use Rattle.flat_loader.specs.Frame.{frame_fits}
use Rattle.machine_world.specs.World.{Process, World}
use Rattle.machine_world.specs.Free.{free}
use Rattle.machine_world.specs.Asks.{Ask, arg}
use Rattle.machine_world.specs.MapCalls.{file_side, in_copy}
use Rattle.machine_world.specs.PathCalls.{path_of}
use Rattle.machine_world.specs.FamilyCalls.{runs}
use Rattle.machine_world.specs.Boot.{Found}
use Rattle.machine_world.specs.Event.{ask_of}
use Rattle.alone_laws.proofs.Lists.{eqb_is}
use Rattle.refusal_laws.specs.NoRun.{LacksRunToMap, LacksRunToExec, LacksRun}
use Rattle.meter_world.specs.Requests.{need_of_own, need_of_want, need_to_map, need_of_found, need_of_strings, need_to_exec, need_of, is_granted}
use Rattle.meter_world.specs.Laws.{AsksInVain, RequestsAreExact}

-- ---- a run is chosen exactly where it has a first page

module _ (kind : Kind) (list : List Run) (need : ℕ) where
  no_page : (o : Option ℕ) → Placed kind list need o → is_some o ≡ false → first_of list o ≡ None
  no_page None is none = refl
  no_page (Some i) is none = absurd cc

  no_index : (o : Option ℕ) → Placed kind list need o → first_of list o ≡ None → is_some o ≡ false
  no_index None is none = refl
  no_index (Some i) is none = let some : first_of list (Some i) ≡ Some is.run.first = ap (option_map (λ (r : Run). r.first)) is.there in absurd cc

  without_page : is_some (place kind list need) ≡ false → first_of list (place kind list need) ≡ None
  without_page = no_page (place kind list need) (placed kind list need)

  without_index : first_of list (place kind list need) ≡ None → is_some (place kind list need) ≡ false
  without_index = no_index (place kind list need) (placed kind list need)

module _ (w : World) (p : Process) (s : Space) (bytes : List ℕ) where
  abbrev asked : Ask
  asked = ask_of w p s bytes

  abbrev IsRefused : ℕ → Type 0
  IsRefused need = is_granted (record { need = need; world = w }) ≡ false

  -- ---- mmap2

  map_lacks : (r : Result Want Errno) (need : ℕ) → wanted (arg asked 0) (arg asked 1) (arg asked 2) (arg asked 3) (arg asked 5) (file_side asked) ≡ r →
      need_of_want asked r ≡ Some need → IsRefused need → LacksRunToMap asked
  map_lacks (Err errno) need is asks refused = absurd cc
  map_lacks (Ok want) need is asks refused = by_copy (in_copy asked.spaces want) refl asks
    where
      by_copy : (o : Option Mapping) → in_copy asked.spaces want ≡ o → need_of_own want o ≡ Some need → LacksRunToMap asked
      by_copy (Some copy) shared asks = absurd cc
      by_copy None own asks =
          let same : pages_of want ≡ need = cc in
          record { want = want; asks = is; no_copy = own; no_run = without_page w.rest.kind (free w) (pages_of want) (subst IsRefused (sym same) refused) }

  map_asks : (l : LacksRunToMap asked) → need_to_map asked ≡ Some (pages_of l.want)
  map_asks l = ap (need_of_want asked) l.asks ∙ ap (need_of_own l.want) l.no_copy

  -- ---- execve

  exec_lacks : (need : ℕ) → need_to_exec w asked ≡ Some need → IsRefused need → LacksRunToExec w asked
  exec_lacks need asks refused = by_zero (has_zero bytes) refl asks
    where
      by_fit : (strings : ProgramStrings) (f : Found) (fits : Bool) → has_zero bytes ≡ true → program_strings bytes (arg asked 1) (arg asked 2) ≡ Some strings →
          runs w.rest (path_of asked) ≡ Ok f → frame_fits f.original strings.args strings.env ≡ fits →
          (if fits then Some (block_pages f.original) else None) ≡ Some need → LacksRunToExec w asked
      by_fit strings f true ends read leads fits asks =
          let same : block_pages f.original ≡ need = cc in
          record {
            ends = ends;
            strings = strings;
            read = read;
            program = f;
            leads = leads;
            fits = fits;
            no_run = without_page w.rest.kind (free w) (block_pages f.original) (subst IsRefused (sym same) refused);
          }
      by_fit strings f false ends read leads fits asks = absurd cc

      by_program : (strings : ProgramStrings) (r : Result Found Errno) → has_zero bytes ≡ true → program_strings bytes (arg asked 1) (arg asked 2) ≡ Some strings →
          runs w.rest (path_of asked) ≡ r → need_of_found strings r ≡ Some need → LacksRunToExec w asked
      by_program strings (Ok f) ends read leads asks = by_fit strings f (frame_fits f.original strings.args strings.env) ends read leads refl asks
      by_program strings (Err errno) ends read leads asks = absurd cc

      by_strings : (o : Option ProgramStrings) → has_zero bytes ≡ true → program_strings bytes (arg asked 1) (arg asked 2) ≡ o → need_of_strings w asked o ≡ Some need → LacksRunToExec w asked
      by_strings (Some strings) ends read asks = by_program strings (runs w.rest (path_of asked)) ends read refl asks
      by_strings None ends read asks = absurd cc

      by_zero : (b : Bool) → has_zero bytes ≡ b → (if b then need_of_strings w asked (program_strings bytes (arg asked 1) (arg asked 2)) else None) ≡ Some need → LacksRunToExec w asked
      by_zero true ends asks = by_strings (program_strings bytes (arg asked 1) (arg asked 2)) ends refl asks
      by_zero false ends asks = absurd cc

  exec_asks : (l : LacksRunToExec w asked) → need_to_exec w asked ≡ Some (block_pages l.program.original)
  exec_asks l =
      ap (λ (b : Bool). if b then need_of_strings w asked (program_strings bytes (arg asked 1) (arg asked 2)) else None) l.ends
      ∙ ap (need_of_strings w asked) l.read ∙ ap (need_of_found l.strings) l.leads
      ∙ ap (λ (b : Bool). if b then Some (block_pages l.program.original) else None) l.fits

  -- ---- by the call's number

  lacks : AsksInVain w p s bytes → LacksRun w asked
  unfolding need_of
  lacks v = by_number (asked.number == 222) refl (asked.number == 221) refl v.asks
    where
      by_number : (maps : Bool) → (asked.number == 222) ≡ maps → (execs : Bool) → (asked.number == 221) ≡ execs →
          (if maps then need_to_map asked else if execs then need_to_exec w asked else None) ≡ Some v.need → LacksRun w asked
      by_number true maps execs is asks = inl (eqb_is asked.number 222 maps, map_lacks (wanted (arg asked 0) (arg asked 1) (arg asked 2) (arg asked 3) (arg asked 5) (file_side asked)) v.need refl asks v.refused)
      by_number false maps true is asks = inr (eqb_is asked.number 221 is, exec_lacks v.need asks v.refused)
      by_number false maps false is asks = absurd cc

  abbrev by_call : ℕ → Option ℕ
  by_call number = if number == 222 then need_to_map asked else if number == 221 then need_to_exec w asked else None

  asks : LacksRun w asked → AsksInVain w p s bytes
  unfolding need_of
  asks (inl l) = record {
    need = pages_of l.1.want;
    asks = ap by_call l.0 ∙ map_asks l.1;
    refused = without_index w.rest.kind (free w) (pages_of l.1.want) l.1.no_run;
  }
  asks (inr l) = record {
    need = block_pages l.1.program.original;
    asks = ap by_call l.0 ∙ exec_asks l.1;
    refused = without_index w.rest.kind (free w) (block_pages l.1.program.original) l.1.no_run;
  }

pub requests_are_exact : RequestsAreExact
requests_are_exact w p s bytes = record { lacks = lacks w p s bytes; asks = asks w p s bytes }
