-- Which way an execve goes, by its path and its strings.
use Rattle.std.proofs.Common.{◌≡◌, ℕ, zero, suc, Bool, true, false, List, [], ◌∷◌, map, length, Option, Some, None, refl, sym, ap, subst, ◌∙◌, add-zero}
use Rattle.std.specs.Prelude.{option_map, slice_get, slice_index, Result, Ok, Err}
use Rattle.std.specs.declared.alloc.AllocError.{AllocError}
use Rattle.bflt_format.specs.Values.{Values}
use Rattle.call_log.specs.declared.errno.Errno.{Errno}
use Rattle.call_log.specs.declared.errno.Errno.TheVariants.{Enoent, Eacces, E2big, Enomem, Enametoolong}
use Rattle.call_log.specs.Errno.{refusal}
use Rattle.call_log.specs.Notes.{weight_of}
use Rattle.call_log.specs.Sent.{has_zero}
use Rattle.call_log.specs.Strings.{ProgramStrings, before_zero, program_strings}
use Rattle.mem_files.specs.Inodes.{program_of}
use Rattle.mem_files.specs.Paths.{lookup}
use Rattle.flat_loader.specs.Original.{Original, flat_original, block_pages}
use Rattle.flat_loader.specs.Frame.{frame_fits}
use Rattle.flat_loader.specs.Begin.{Loading}
use Rattle.vfork_exec.specs.declared.entry.Entry.{Entry}
use Rattle.file_calls.specs.declared.call.Call.{Call}
use Rattle.mmap_rules.specs.Held.{Held}
use Rattle.machine_world.specs.World.{Program, Rest, World}
use Rattle.machine_world.specs.Free.{free}
use Rattle.machine_world.specs.Found.{Found, found_program, found_mark, address_of, taken}
use Rattle.machine_world.specs.Asks.{Ask, answers, refuses}
use Rattle.machine_world.specs.PathCalls.{path_of}
use Rattle.machine_world.specs.FamilyCalls.{runs_node}
use Rattle.machine_world.specs.FamilyCalls.{or_eacces as or_eacces_found}
use Rattle.machine_world.specs.Event.{Outcome, answered, executed, exec_at, exec_fitting, exec_program, exec_strings, exec}
use Rattle.kept_parts.specs.declared.task.Task.{Task}
use Rattle.kept_parts.specs.declared.effect.Effect.TheVariants.{Answer}
use Rattle.kept_parts.specs.declared.served.Served.{Served}
use Rattle.kept_parts.specs.declared.served.Served.TheVariants.{LogFull}
use Rattle.kept_parts.specs.Kept.{Kept}
use Rattle.kept_parts.specs.Recorded.{room_beside}
use Rattle.kept_parts.specs.Flats.{original_of, AreFlats}
use Rattle.kept_parts.specs.Families.{or_eacces, mark_at}
use Rattle.kept_parts.specs.Stands.{About, world_of}
use Rattle.kept_parts.specs.Serves.{Answered, Serves}
use Rattle.kept_parts.specs.Calls.{LivesIn, IsCall, ask_in}
use Rattle.kept_parts.proofs.Replies.Outcomes.{effect_full}

-- ---- the program of a number

pub got_map : {A B : Type 0} (g : A → B) (xs : List A) (i : ℕ) → slice_get (map g xs) i ≡ option_map g (slice_get xs i)
got_map g [] i = refl
got_map g (x ∷ xs) zero = refl
got_map g (x ∷ xs) (suc i) = got_map g xs i

abbrev found_as : ℕ → Original → Found
found_as index o = record { index = index; original = o }

by_original : (index : ℕ) (p : Option Program) → found_program index p ≡ option_map (found_as index) (option_map original_of p)
by_original index (Some p) = refl
by_original index None = refl

flat_found : (programs : List Program) (flats : List Values) (index : ℕ) (o : Option Values) → AreFlats programs flats → slice_get flats index ≡ o
    → found_program index (slice_get programs index) ≡ option_map (found_as index) (option_map flat_original o)
flat_found programs flats index o same is =
    by_original index (slice_get programs index)
    ∙ ap (option_map (found_as index)) (sym (got_map original_of programs index) ∙ ap (λ (os : List Original). slice_get os index) same ∙ got_map flat_original flats index ∙ ap (option_map flat_original) is)

-- ---- the program at a path

module _ (rest : Rest) where
  mark_fails : (p : Option ℕ) (errno : Errno) → or_eacces p ≡ Err errno → or_eacces_found (found_mark rest.programs p) ≡ Err errno
  mark_fails (Some index) errno is = absurd cc
  mark_fails None errno is = let same : Eacces ≡ errno = cc in ap Err same

  mark_goes : (p : Option ℕ) (index : ℕ) → or_eacces p ≡ Ok index → or_eacces_found (found_mark rest.programs p) ≡ or_eacces_found (found_program index (slice_get rest.programs index))
  mark_goes (Some n) index is =
      let same : n ≡ index = cc in
      ap (λ (m : ℕ). or_eacces_found (found_program m (slice_get rest.programs m))) same
  mark_goes None index is = absurd cc

  node_fails : (found : Result (Option ℕ) Errno) (errno : Errno) → mark_at rest.tree found ≡ Err errno → runs_node rest found ≡ Err errno
  node_fails (Ok (Some node)) errno is = mark_fails (program_of rest.tree node) errno is
  node_fails (Ok None) errno is = let same : Enoent ≡ errno = cc in ap Err same
  node_fails (Err e) errno is = let same : e ≡ errno = cc in ap Err same

  node_goes : (found : Result (Option ℕ) Errno) (index : ℕ) → mark_at rest.tree found ≡ Ok index
      → runs_node rest found ≡ or_eacces_found (found_program index (slice_get rest.programs index))
  node_goes (Ok (Some node)) index is = mark_goes (program_of rest.tree node) index is
  node_goes (Ok None) index is = absurd cc
  node_goes (Err e) index is = absurd cc

-- ---- the call

exec_without_zero : (w : World) (ask : Ask) → has_zero ask.sent ≡ false → exec w ask ≡ answered w ask (refuses ask Enametoolong)
unfolding exec
exec_without_zero w ask is = rw is refl

exec_with_zero : (w : World) (ask : Ask) (s : Option ProgramStrings) → has_zero ask.sent ≡ true → program_strings ask.sent (slice_index ask.args 1) (slice_index ask.args 2) ≡ s
    → exec w ask ≡ exec_strings w ask s
unfolding exec
exec_with_zero w ask s is strings = rw is (ap (exec_strings w ask) strings)

path_is : (ask : Ask) → path_of ask ≡ before_zero ask.sent
unfolding path_of
path_is ask = refl

module _ (a : About) (k : Kept) (e : Entry Task) (h : Held) (call : Call) (is : IsCall e call) where
  abbrev ask : Ask
  ask = ask_in a k e h call

  pub no_path : has_zero call.sent.items ≡ false → exec (world_of a k) (ask_in a k e h call) ≡ answered (world_of a k) (ask_in a k e h call) (refuses (ask_in a k e h call) Enametoolong)
  no_path none = exec_without_zero (world_of a k) ask none

  module _ (some : has_zero call.sent.items ≡ true) where
    by_strings : (s : Option ProgramStrings) → s ≡ program_strings call.sent.items (slice_index call.args 1) (slice_index call.args 2) → exec (world_of a k) ask ≡ exec_strings (world_of a k) ask s
    by_strings s strings =
        exec_with_zero (world_of a k) ask s some (ap (λ (args : List ℕ). program_strings call.sent.items (slice_index args 1) (slice_index args 2)) (sym is.args) ∙ sym strings)

    pub no_strings : None ≡ program_strings call.sent.items (slice_index call.args 1) (slice_index call.args 2)
        → exec (world_of a k) (ask_in a k e h call) ≡ answered (world_of a k) (ask_in a k e h call) (refuses (ask_in a k e h call) E2big)
    no_strings strings = by_strings None strings

    module _ (s : ProgramStrings) (strings : Some s ≡ program_strings call.sent.items (slice_index call.args 1) (slice_index call.args 2)) (path : List ℕ) (at : path ≡ before_zero call.sent.items) where
      by_node : (found : Result Found Errno) → runs_node (world_of a k).rest (lookup (world_of a k).rest.tree path) ≡ found → exec (world_of a k) ask ≡ exec_program (world_of a k) ask s found
      by_node found goes =
          by_strings (Some s) strings
          ∙ ap (λ (p : List ℕ). exec_program (world_of a k) ask s (runs_node (world_of a k).rest (lookup (world_of a k).rest.tree p))) (path_is ask ∙ sym at)
          ∙ ap (exec_program (world_of a k) ask s) goes

      pub no_program : (errno : Errno) → mark_at k.tree (lookup k.tree path) ≡ Err errno
          → exec (world_of a k) (ask_in a k e h call) ≡ answered (world_of a k) (ask_in a k e h call) (refuses (ask_in a k e h call) errno)
      unfolding world_of
      no_program errno fails = by_node (Err errno) (node_fails (world_of a k).rest (lookup k.tree path) errno fails)

      module _ (index : ℕ) (marked : mark_at k.tree (lookup k.tree path) ≡ Ok index) (flats : List Values) (same : AreFlats a.programs flats) where
        by_flat : (o : Option Values) → slice_get flats index ≡ o
            → exec (world_of a k) ask ≡ exec_program (world_of a k) ask s (or_eacces_found (option_map (found_as index) (option_map flat_original o)))
        unfolding world_of
        by_flat o there =
            by_node (or_eacces_found (option_map (found_as index) (option_map flat_original o)))
            (node_goes (world_of a k).rest (lookup k.tree path) index marked ∙ ap or_eacces_found (flat_found a.programs flats index o same there))

        pub no_flat : slice_get flats index ≡ None
            → exec (world_of a k) (ask_in a k e h call) ≡ answered (world_of a k) (ask_in a k e h call) (refuses (ask_in a k e h call) Eacces)
        no_flat there = by_flat None there

        pub runs_flat : (f : Values) → slice_get flats index ≡ Some f
            → exec (world_of a k) (ask_in a k e h call)
            ≡ exec_fitting (world_of a k) (ask_in a k e h call) (record { index = index; original = flat_original f }) s (frame_fits (flat_original f) s.args s.env)
        runs_flat f there = by_flat (Some f) there

  -- ---- what comes of it

  module _ (new : Kept) (result : Result Served AllocError) where
    pub by_outcome : (o : Outcome) → exec (world_of a k) (ask_in a k e h call) ≡ o → Serves a o k new call.pid result → Serves a (exec (world_of a k) (ask_in a k e h call)) k new call.pid result
    by_outcome o goes serves = subst (λ (x : Outcome). Serves a x k new call.pid result) (sym goes) serves

    -- a refusal replies with its errno
    pub by_refusal : (errno : Errno) (value : ℕ) → value ≡ refusal errno → exec (world_of a k) (ask_in a k e h call) ≡ answered (world_of a k) (ask_in a k e h call) (refuses (ask_in a k e h call) errno)
        → Serves a (answered (world_of a k) (ask_in a k e h call) (answers (ask_in a k e h call) value)) k new call.pid result
        → Serves a (exec (world_of a k) (ask_in a k e h call)) k new call.pid result
    by_refusal errno value same goes serves =
        by_outcome (answered (world_of a k) ask (refuses ask errno)) goes
        (subst (λ (v : ℕ). Serves a (answered (world_of a k) ask (answers ask v)) k new call.pid result) same serves)

  -- ---- a log without room, whichever way it goes

  module _ (runs : LivesIn k call.pid e h) (room : room_beside k (length call.sent.items) ≡ false) where
    abbrev Full : Outcome → Type 0
    Full o = Answered a o k k call.pid LogFull

    refusal_full : (errno : Errno) → Full (answered (world_of a k) ask (refuses ask errno))
    refusal_full errno = effect_full a k e h call runs is (Answer (refusal errno)) room

    executed_full : (index : ℕ) (l : Loading) → Full (executed (world_of a k) ask index l)
    unfolding executed world_of
    executed_full index l =
        let none : room_beside k (weight_of call.sent.items []) ≡ false = ap (room_beside k) (add-zero (length call.sent.items)) ∙ room in
        rw none refl

    at_full : (f : Found) (s : ProgramStrings) (page : Option ℕ) → Full (exec_at (world_of a k) ask f s page)
    at_full f s None = refusal_full Enomem
    at_full f s (Some page) = executed_full f.index (record { original = f.original; block = address_of page; args = s.args; env = s.env })

    fitting_full : (f : Found) (s : ProgramStrings) (fits : Bool) → Full (exec_fitting (world_of a k) ask f s fits)
    fitting_full f s true = at_full f s (taken (world_of a k) (block_pages f.original) (free (world_of a k)))
    fitting_full f s false = refusal_full E2big

    program_full : (s : ProgramStrings) (found : Result Found Errno) → Full (exec_program (world_of a k) ask s found)
    program_full s (Ok f) = fitting_full f s (frame_fits f.original s.args s.env)
    program_full s (Err errno) = refusal_full errno

    strings_full : (s : Option ProgramStrings) → Full (exec_strings (world_of a k) ask s)
    strings_full (Some s) = program_full s (runs_node (world_of a k).rest (lookup (world_of a k).rest.tree (path_of ask)))
    strings_full None = refusal_full E2big

    pub exec_full : Answered a (exec (world_of a k) (ask_in a k e h call)) k k call.pid LogFull
    exec_full = by_zero (has_zero call.sent.items) refl
      where
        by_zero : (b : Bool) → has_zero call.sent.items ≡ b → Full (exec (world_of a k) ask)
        by_zero true some =
            subst Full (sym (exec_with_zero (world_of a k) ask (program_strings ask.sent (slice_index ask.args 1) (slice_index ask.args 2)) some refl))
            (strings_full (program_strings ask.sent (slice_index ask.args 1) (slice_index ask.args 2)))
        by_zero false none = subst Full (sym (exec_without_zero (world_of a k) ask none)) (refusal_full Enametoolong)
