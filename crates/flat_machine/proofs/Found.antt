-- The program to which a path leads, and the start of a start line.
use Rattle.std.proofs.Common.{◌≡◌, ℕ, zero, suc, ◌<◌, ◌≤◌, List, [], ◌∷◌, length, map, get_or, Option, Some, None, Result, Ok, Err, refl, sym, ap, subst, ◌∙◌, arith}
use Rattle.std.specs.Prelude.{Vec, ⊤, slice_get}
use Rattle.std.specs.List.{slice_index_or}
use Rattle.std.proofs.lemmas.List.{length-map}
use Rattle.std.proofs.lemmas.Option.{same_Some}
use Rattle.bflt_format.specs.Values.{Values}
use Rattle.call_log.specs.declared.errno.Errno.{Errno}
use Rattle.call_log.specs.Programs.{paths_of}
use Rattle.mem_files.specs.Inodes.{Inodes}
use Rattle.mem_files.specs.Paths.{lookup}
use Rattle.flat_loader.specs.Original.{flat_original}
use Rattle.flat_loader.specs.Frame.{frame_fits}
use Rattle.machine_world.specs.World.{World, Program, Rest}
use Rattle.machine_world.specs.Programs.{programs_of}
use Rattle.machine_world.specs.Boot.{StartLine, BootFault, Found, found, found_node, found_mark, found_program, start_path, fitting, located, started}
use Rattle.kept_parts.specs.declared.start.StartRefusal.TheVariants as start
use Rattle.kept_parts.specs.Kept.{Kept}
use Rattle.kept_parts.specs.Stands.{About, world_of}
use Rattle.kept_parts.specs.Starts.{Started}
use Rattle.flat_machine.specs.declared.boot.BootRefusal.{BootRefusal}
use Rattle.flat_machine.specs.declared.boot.BootRefusal.TheVariants as refusal
use Rattle.flat_machine.specs.Boots.{marked, IsFault, Begins}

-- ---- the program to which a path leads

module _ {Y : Type 0} (rest : Rest) (path : List ℕ) (paths : List (Vec ℕ Y)) (flats : List Values) (same : length paths ≡ length flats) (programs : rest.programs ≡ programs_of (paths_of paths) flats) where
  -- a program stands at the place of its flat file, and there is none past the end
  program_at : (ps : List (List ℕ)) (fs : List Values) (i : ℕ) (flat : Values) → length ps ≡ length fs → slice_get fs i ≡ Some flat
      → found_program i (slice_get (programs_of ps fs) i) ≡ Some (record { index = i; original = flat_original flat })
  program_at ps fs i flat many is = at ps fs i many is
    where
      at : (ps : List (List ℕ)) (fs : List Values) (k : ℕ) → length ps ≡ length fs → slice_get fs k ≡ Some flat
          → found_program i (slice_get (programs_of ps fs) k) ≡ Some (record { index = i; original = flat_original flat })
      at [] [] k many is = absurd cc
      at [] (f ∷ fs) k many is = absurd (omega (arith, many))
      at (p ∷ ps) [] k many is = absurd (omega (arith, many))
      at (p ∷ ps) (f ∷ fs) zero many is = ap (λ (v : Values). Some (record { index = i; original = flat_original v })) (same_Some f flat is)
      at (p ∷ ps) (f ∷ fs) (suc k) many is = at ps fs k (omega (arith, many)) is

  none_at : (ps : List (List ℕ)) (fs : List Values) (i k : ℕ) → slice_get fs k ≡ None → found_program i (slice_get (programs_of ps fs) k) ≡ None
  none_at [] fs i k is = refl
  none_at (p ∷ ps) [] i k is = refl
  none_at (p ∷ ps) (f ∷ fs) i zero is = absurd cc
  none_at (p ∷ ps) (f ∷ fs) i (suc k) is = none_at ps fs i k is

  by_mark : found rest path ≡ found_mark rest.programs (marked rest.tree (lookup rest.tree path))
  by_mark = by_node (lookup rest.tree path)
    where
      by_node : (r : Result (Option ℕ) Errno) → found_node rest r ≡ found_mark rest.programs (marked rest.tree r)
      by_node (Ok (Some node)) = refl
      by_node (Ok None) = refl
      by_node (Err errno) = refl

  pub program_found : (i : ℕ) (flat : Values) → Some i ≡ marked rest.tree (lookup rest.tree path) → slice_get flats i ≡ Some flat → found rest path ≡ Some (record { index = i; original = flat_original flat })
  program_found i flat is there =
      by_mark ∙ ap (found_mark rest.programs) (sym is) ∙ ap (λ (ps : List Program). found_program i (slice_get ps i)) programs
      ∙ program_at (paths_of paths) flats i flat (length-map paths (λ v. v.items) ∙ same) there

  pub program_past : (i : ℕ) → Some i ≡ marked rest.tree (lookup rest.tree path) → slice_get flats i ≡ None → found rest path ≡ None
  program_past i is past =
      by_mark ∙ ap (found_mark rest.programs) (sym is) ∙ ap (λ (ps : List Program). found_program i (slice_get ps i)) programs ∙ none_at (paths_of paths) flats i i past

  pub program_none : None ≡ marked rest.tree (lookup rest.tree path) → found rest path ≡ None
  program_none is = by_mark ∙ ap (found_mark rest.programs) (sym is)

-- the files and programs of the world that the parts stand for
pub rest_tree : (a : About) (k : Kept) (tree : Inodes) → k.tree ≡ tree → (world_of a k).rest.tree ≡ tree
unfolding world_of
rest_tree a k tree is = is

pub rest_programs : (a : About) (k : Kept) → (world_of a k).rest.programs ≡ a.programs
unfolding world_of
rest_programs a k = refl

-- what stands at a place of a list, and nothing past its end
pub stands_at : {A : Type 0} (xs : List A) (i : ℕ) (x : A) → i < length xs → x ≡ get_or xs i x → slice_get xs i ≡ Some x
stands_at [] i x below is = absurd (omega (arith, below))
stands_at (y ∷ xs) zero x below is = ap Some (sym is)
stands_at (y ∷ xs) (suc i) x below is = stands_at xs i x (omega (arith, below)) is

pub none_stands : {A : Type 0} (xs : List A) (i : ℕ) → length xs ≤ i → slice_get xs i ≡ None
none_stands [] i past = refl
none_stands (y ∷ xs) zero past = absurd (omega (arith, past))
none_stands (y ∷ xs) (suc i) past = none_stands xs i (omega (arith, past))

-- the path of a start line is its first argument
first_arg : {Y : Type 0} (args : List (Vec ℕ Y)) (d : Vec ℕ Y) → 0 < length args → slice_index_or (map (λ v. v.items) args) 0 [] ≡ (get_or args 0 d).items
first_arg [] d some = absurd (omega arith)
first_arg (x ∷ xs) d some = refl

pub path_is : {Y : Type 0} (args : List (Vec ℕ Y)) (x : Vec ℕ Y) (path : List ℕ) → 0 < length args → x ≡ get_or args 0 x → path ≡ x.items → slice_index_or (map (λ v. v.items) args) 0 [] ≡ path
path_is args x path some at is = first_arg args x some ∙ ap (λ v. v.items) (sym at) ∙ sym is

-- ---- its start

module _ (a : About) (old new : Kept) (s : StartLine) where
  starts_with : (f : Found) → found (world_of a old).rest (start_path s) ≡ Some f → started (world_of a old) s ≡ fitting (world_of a old) s f (frame_fits f.original s.args [])
  unfolding started
  starts_with f is = ap (located (world_of a old) s) is

  pub no_program : (line : ℕ) → line ≡ s.line → found (world_of a old).rest (start_path s) ≡ None → Begins a (started (world_of a old) s) new (Err (refusal.BadStart line))
  unfolding started
  no_program line same is =
      let P : Result World BootFault → Type 0 = λ r. Begins a r new (Err (refusal.BadStart line)) in
      subst P (sym (ap (located (world_of a old) s) is)) same

  module _ (f : Found) (is : found (world_of a old).rest (start_path s) ≡ Some f) where
    begins : (r : Result ⊤ BootRefusal) → Begins a (fitting (world_of a old) s f (frame_fits f.original s.args [])) new r → Begins a (started (world_of a old) s) new r
    begins r x = subst (λ (w : Result World BootFault). Begins a w new r) (sym (starts_with f is)) x

    done_with : (w : Result World BootFault) (done : ⊤) → Started a w s.line old new (Ok done) → Begins a w new (Ok done)
    done_with (Ok now) done x = x
    done_with (Err fault) done x = absurd x

    big_with : (w : Result World BootFault) → Started a w s.line old new (Err start.E2big) → Begins a w new (Err (refusal.E2big s.line))
    big_with (Ok now) x = absurd x
    big_with (Err fault) x = subst (λ (e : BootFault). IsFault e (refusal.E2big s.line)) (sym x.0) refl

    no_run_with : (w : Result World BootFault) → Started a w s.line old new (Err start.NoRun) → Begins a w new (Err (refusal.NoRun s.line))
    no_run_with (Ok now) x = absurd x
    no_run_with (Err fault) x = subst (λ (e : BootFault). IsFault e (refusal.NoRun s.line)) (sym x.0) refl

    pub program_begins : (done : ⊤) → Started a (fitting (world_of a old) s f (frame_fits f.original s.args [])) s.line old new (Ok done) → Begins a (started (world_of a old) s) new (Ok done)
    program_begins done x = begins (Ok done) (done_with (fitting (world_of a old) s f (frame_fits f.original s.args [])) done x)

    pub program_too_big : Started a (fitting (world_of a old) s f (frame_fits f.original s.args [])) s.line old new (Err start.E2big) → Begins a (started (world_of a old) s) new (Err (refusal.E2big s.line))
    program_too_big x = begins (Err (refusal.E2big s.line)) (big_with (fitting (world_of a old) s f (frame_fits f.original s.args [])) x)

    pub program_no_run : Started a (fitting (world_of a old) s f (frame_fits f.original s.args [])) s.line old new (Err start.NoRun) → Begins a (started (world_of a old) s) new (Err (refusal.NoRun s.line))
    program_no_run x = begins (Err (refusal.NoRun s.line)) (no_run_with (fitting (world_of a old) s f (frame_fits f.original s.args [])) x)
