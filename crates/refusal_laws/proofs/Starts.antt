-- A start line finds no run exactly where it lacks one, and a boot ends so exactly at such a line.
use Rattle.std.proofs.Common.{◌≡◌, ℕ, Bool, true, false, List, [], ◌∷◌, ◌++◌, Option, Some, None, Result, Ok, Err, refl, sym, ap, subst, ◌∙◌}
use Rattle.flat_loader.specs.Original.{block_pages}
use Rattle.flat_loader.specs.Frame.{frame_fits}
use Rattle.machine_world.specs.World.{World}
use Rattle.machine_world.specs.Free.{free}
use Rattle.machine_world.specs.Found.{Found, found, taken}
use Rattle.machine_world.specs.Boot.{StartLine, BootFault, bad_start, args_too_big, no_run, start_path, placed, fitting, located, started, all_started, then_started, empty_world, boot}
use Rattle.refusal_laws.specs.NoRun.{LacksRunToStart}
use Rattle.refusal_laws.specs.Laws.{NoRunIsExact, BootsWithoutRunAreExact}

-- ---- one start line

-- how it ends: where it finds no run, it lacks one
abbrev Ends : World → StartLine → Result World BootFault → Type 0
Ends w s (Ok now) = Unit {0}
Ends w s (Err (bad_start line)) = Unit {0}
Ends w s (Err (args_too_big line)) = Unit {0}
Ends w s (Err (no_run line)) = (line ≡ s.line) × LacksRunToStart w s

module _ (w : World) (s : StartLine) where
  ends_placed : (f : Found) → found w.rest (start_path s) ≡ Some f → frame_fits f.original s.args [] ≡ true → (o : Option ℕ) → taken w (block_pages f.original) (free w) ≡ o → Ends w s (placed w s f o)
  ends_placed f leads fits None none = (refl, record { program = f; leads = leads; fits = fits; no_run = none })
  ends_placed f leads fits (Some page) is = tt

  ends_fitting : (f : Found) → found w.rest (start_path s) ≡ Some f → (b : Bool) → frame_fits f.original s.args [] ≡ b → Ends w s (fitting w s f b)
  ends_fitting f leads true fits = ends_placed f leads fits (taken w (block_pages f.original) (free w)) refl
  ends_fitting f leads false fits = tt

  ends_located : (o : Option Found) → found w.rest (start_path s) ≡ o → Ends w s (located w s o)
  ends_located None leads = tt
  ends_located (Some f) leads = ends_fitting f leads (frame_fits f.original s.args []) refl

  ends : Ends w s (started w s)
  unfolding started
  ends = ends_located (found w.rest (start_path s)) refl

  lacks : LacksRunToStart w s → started w s ≡ Err (no_run s.line)
  unfolding started
  lacks l = ap (located w s) l.leads ∙ ap (fitting w s l.program) l.fits ∙ ap (placed w s l.program) l.no_run

pub no_run_is_exact : NoRunIsExact
no_run_is_exact w s line = (
  λ is. subst (Ends w s) is (ends w s),
  λ h. lacks w s h.1 ∙ ap (λ (n : ℕ). Err (no_run n)) (sym h.0),
)

-- ---- all of them, from any world on

record Stops (w : World) (starts : List StartLine) (line : ℕ) : Type 0 where
  before : List StartLine
  start : StartLine
  others : List StartLine
  are : starts ≡ before ++ start ∷ others
  world : World
  begins : all_started w before ≡ Ok world
  lacks : LacksRunToStart world start
  number : line ≡ start.line

begins_with : (w now : World) (s : StartLine) (ss : List StartLine) → started w s ≡ Ok now → all_started w (s ∷ ss) ≡ all_started now ss
unfolding all_started
begins_with w now s ss is = ap (λ (r : Result World BootFault). then_started r (λ v. all_started v ss)) is

fails_with : (w : World) (fault : BootFault) (s : StartLine) (ss : List StartLine) → started w s ≡ Err fault → all_started w (s ∷ ss) ≡ Err fault
unfolding all_started
fails_with w fault s ss is = ap (λ (r : Result World BootFault). then_started r (λ v. all_started v ss)) is

nothing_started : (w : World) → all_started w [] ≡ Ok w
unfolding all_started
nothing_started w = refl

stops : (w : World) (starts : List StartLine) (line : ℕ) → all_started w starts ≡ Err (no_run line) → Stops w starts line
stops w [] line is = let no : Ok w ≡ Err (no_run line) = sym (nothing_started w) ∙ is in absurd cc
stops w (s ∷ ss) line is = by (started w s) refl (λ now. stops now ss line)
  where
    by : (r : Result World BootFault) → started w s ≡ r → ((now : World) → all_started now ss ≡ Err (no_run line) → Stops now ss line) → Stops w (s ∷ ss) line
    by (Ok now) first on =
        let h : Stops now ss line = on now (sym (begins_with w now s ss first) ∙ is) in
        record {
          before = s ∷ h.before;
          start = h.start;
          others = h.others;
          are = ap (λ (xs : List StartLine). s ∷ xs) h.are;
          world = h.world;
          begins = begins_with w now s h.before first ∙ h.begins;
          lacks = h.lacks;
          number = h.number;
        }
    by (Err fault) first on =
        let all : Err fault ≡ Err (no_run line) = sym (fails_with w fault s ss first) ∙ is in
        let same : fault ≡ no_run line = cc in
        let h = subst (Ends w s) (first ∙ ap (λ (x : BootFault). Err x) same) (ends w s) in
        record { before = []; start = s; others = ss; are = refl; world = w; begins = nothing_started w; lacks = h.1; number = h.0 }

stopped : (w : World) (before : List StartLine) (s : StartLine) (others : List StartLine) (world : World) → all_started w before ≡ Ok world → LacksRunToStart world s
    → all_started w (before ++ s ∷ others) ≡ Err (no_run s.line)
stopped w [] s others world is l =
    let same : w ≡ world = let e = sym (nothing_started w) ∙ is in cc in
    fails_with w (no_run s.line) s others (lacks w s (subst (λ (v : World). LacksRunToStart v s) (sym same) l))
stopped w (x ∷ xs) s others world is l = by (started w x) refl (λ now begins. stopped now xs s others world begins l)
  where
    by : (r : Result World BootFault) → started w x ≡ r → ((now : World) → all_started now xs ≡ Ok world → all_started now (xs ++ s ∷ others) ≡ Err (no_run s.line))
        → all_started w (x ∷ (xs ++ s ∷ others)) ≡ Err (no_run s.line)
    by (Ok now) first on = begins_with w now x (xs ++ s ∷ others) first ∙ on now (sym (begins_with w now x xs first) ∙ is)
    by (Err fault) first on = let no : Err fault ≡ Ok world = sym (fails_with w fault x xs first) ∙ is in absurd cc

pub boots_without_run_are_exact : BootsWithoutRunAreExact
unfolding boot
boots_without_run_are_exact rest starts line = (
  λ is. (
      let h : Stops (empty_world rest) starts line = stops (empty_world rest) starts line is in
      record { before = h.before; start = h.start; others = h.others; are = h.are; world = h.world; begins = h.begins; lacks = h.lacks; number = h.number }),
  λ h. (
      ap (all_started (empty_world rest)) h.are ∙ stopped (empty_world rest) h.before h.start h.others h.world h.begins h.lacks ∙ ap (λ (n : ℕ). Err (no_run n)) (sym h.number)),
)
