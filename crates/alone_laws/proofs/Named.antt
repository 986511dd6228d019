-- The program to which a path leads is the one of its number.
use Rattle.std.proofs.Common.{◌≡◌, ℕ, List, Option, Some, None, Result, Ok, Err, refl, sym, ap, ◌∙◌}
use Rattle.std.specs.Prelude.{option_map, slice_get}
use Rattle.std.proofs.lemmas.Option.{same_Some}
use Rattle.call_log.specs.declared.errno.Errno.{Errno}
use Rattle.mem_files.specs.Inodes.{program_of}
use Rattle.mem_files.specs.Paths.{lookup}
use Rattle.machine_world.specs.World.{Program, Rest}
use Rattle.machine_world.specs.Found.{Found, found_program, found_mark, found_node, found}
use Rattle.machine_world.specs.FamilyCalls.{or_eacces, runs_node, runs}
use Rattle.alone_laws.specs.Stays.{original_at}

abbrev Names : List Program → Found → Type 0
Names programs f = Some f.original ≡ original_at programs f.index

program_names : (programs : List Program) (f : Found) (i : ℕ) (p : Option Program) → slice_get programs i ≡ p → found_program i p ≡ Some f → Names programs f
program_names programs f i None there same = absurd cc
program_names programs f i (Some p) there same =
    let index : i ≡ f.index = ap (λ (g : Found). g.index) (same_Some _ _ same) in
    let original : p.original ≡ f.original = ap (λ (g : Found). g.original) (same_Some _ _ same) in
    ap Some (sym original) ∙ sym (ap (option_map (λ (q : Program). q.original)) there) ∙ ap (original_at programs) index

mark_names : (programs : List Program) (f : Found) (mark : Option ℕ) → found_mark programs mark ≡ Some f → Names programs f
mark_names programs f None same = absurd cc
mark_names programs f (Some i) same = program_names programs f i (slice_get programs i) refl same

pub found_names : (rest : Rest) (path : List ℕ) (f : Found) → found rest path ≡ Some f → Names rest.programs f
found_names rest path f is = by_node (lookup rest.tree path) is
  where
    by_node : (node : Result (Option ℕ) Errno) → found_node rest node ≡ Some f → Names rest.programs f
    by_node (Ok (Some node)) same = mark_names rest.programs f (program_of rest.tree node) same
    by_node (Ok None) same = absurd cc
    by_node (Err errno) same = absurd cc

mark_runs : (o : Option Found) (f : Found) → or_eacces o ≡ Ok f → o ≡ Some f
mark_runs None f is = absurd cc
mark_runs (Some g) f is = let same : g ≡ f = cc in ap Some same

pub runs_names : (rest : Rest) (path : List ℕ) (f : Found) → runs rest path ≡ Ok f → Names rest.programs f
runs_names rest path f is = by_node (lookup rest.tree path) is
  where
    by_node : (node : Result (Option ℕ) Errno) → runs_node rest node ≡ Ok f → Names rest.programs f
    by_node (Ok (Some node)) same =
        mark_names rest.programs f (program_of rest.tree node) (mark_runs (found_mark rest.programs (program_of rest.tree node)) f same)
    by_node (Ok None) same = absurd cc
    by_node (Err errno) same = absurd cc
