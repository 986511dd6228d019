-- A replay says yes to the items of each stay of a run.
use Rattle.std.proofs.Common.{◌≡◌, ℕ, ◌+◌, ◌≤◌, false, List, [], ◌∷◌, map, Option, Some, None, Ok, Err, refl, ap, subst, ◌∙◌, arith}
use Rattle.std.specs.Prelude.{◌||◌, nat_lt}
use Rattle.std.proofs.lemmas.Bool.Decides.{nat_tests}
use Rattle.elf2flt_tool.specs.declared.refusal.Refusal.{Refusal}
use Rattle.vfork_exec.specs.Keyed.{find}
use Rattle.flat_loader.specs.Original.{Original, block_len}
use Rattle.flat_loader.specs.Frame.{frame_fits}
use Rattle.flat_loader.specs.Alone.{Item, Solo}
use Rattle.originals.specs.Originals.{elf_original}
use Rattle.machine_world.specs.World.{LiveSpace, Process, id_of}
use Rattle.alone_laws.specs.Stays.{Stay, Agrees, alone_end}
use Rattle.alone_laws.proofs.Lists.{if_yes, if_no}
use Rattle.replay_check.specs.declared.fault.ReplayFault.TheVariants as why
use Rattle.replay_check.specs.declared.verdict.Verdict.{Verdict}
use Rattle.replay_check.specs.declared.verdict.Verdict.TheVariants.{Yes, No}
use Rattle.replay_check.specs.Loops.{items_alone}
use Rattle.replay_check.specs.Replays.{OriginalFile, elf_file, flat_file, loading_of, memory_end, placed_verdict, with_stack, unless_refused, replayed}
use Rattle.replay_check.specs.Verdicts.{verdict, Judges}
use Rattle.replay_check.proofs.Judged.{all_judged}
use Rattle.recorded_items.specs.Recorded.{told_item}
use Rattle.recorded_items.specs.Spelled.{IsLoaded}
use Rattle.recorded_items.specs.Laws.{items_of_stay}
use Rattle.recorded_items.proofs.KeptItems.{has_loaded}
use Rattle.replay_laws.specs.Files.{IsElfOf, IsFileOf}
use Rattle.replay_laws.specs.Laws.{StaysAreAccepted}

-- ---- the run of a stay by itself isn't refuted

is_yes : (v : Verdict) (o : Option Solo) (s : Solo) → Judges v o → o ≡ Some s → v ≡ Yes
is_yes Yes o s judges is = refl
is_yes (No item events) o s judges is = absurd (subst (Judges (No item events)) is judges)

not_refuted : (i : ℕ) (procs : List Process) (y : Stay) (o : Option LiveSpace) → Agrees i procs y o → (s : Solo) × (alone_end y ≡ Some s)
not_refuted i procs y None over = (over.end, over.is)
not_refuted i procs y (Some s) is = (_, is)

told_alone : (items : List Item) → items_alone (map told_item items) ≡ items
told_alone [] = refl
told_alone (i ∷ items) = ap (λ (l : List Item). i ∷ l) (told_alone items)

-- ---- where it was loaded, it is loaded again

module _ (y : Stay) (s : Solo) (stands : alone_end y ≡ Some s) (loaded : IsLoaded y.loading) where
  inside : nat_lt memory_end (y.loading.block + block_len y.loading.original) ≡ false
  inside =
      let at = loaded.block in
      let within = loaded.inside in
      let few : y.loading.block + block_len y.loading.original ≤ memory_end = omega (arith, at, within) in
      grind (arith, nat_tests)

  judged : verdict (loading_of y.loading.original (items_of_stay y)) y.pid (items_alone (map told_item y.items)) y.events ≡ Yes
  judged =
      ap (λ (items : List Item). verdict y.loading y.pid items y.events) (told_alone y.items)
      ∙ is_yes (verdict y.loading y.pid y.items y.events) (alone_end y) s (all_judged y.loading y.pid y.items y.events) stands

  placed : placed_verdict y.loading.original (items_of_stay y) ≡ Ok Yes
  unfolding placed_verdict
  placed =
      if_yes (frame_fits y.loading.original y.loading.args y.loading.env) _ (Err why.Args) loaded.fits
      ∙ if_no (nat_lt memory_end (y.loading.block + block_len y.loading.original)) (Err why.Base) _ inside
      ∙ ap (λ (v : Verdict). Ok v) judged

  stacked : (e : List ℕ) → IsElfOf e y.loading.original → with_stack (elf_original e y.loading.original.stack) (items_of_stay y) ≡ Ok Yes
  stacked e is =
      if_no (nat_lt y.loading.original.stack 16 || nat_lt 1048576 y.loading.original.stack) (Err why.Stack) _ (in_range y.loading.original.stack is.least is.most)
      ∙ ap (λ (o : Original). placed_verdict o (items_of_stay y)) is.is ∙ placed
    where
      in_range : (n : ℕ) → 16 ≤ n → n ≤ 1048576 → (nat_lt n 16 || nat_lt 1048576 n) ≡ false
      in_range n least most = grind (arith, nat_tests)

  pub accepted : (file : OriginalFile) → IsFileOf file y.loading.original → replayed file (items_of_stay y) ≡ Ok Yes
  unfolding replayed
  accepted (flat_file f) is = ap (λ (o : Original). placed_verdict o (items_of_stay y)) is ∙ placed
  accepted (elf_file e) is = ap (λ (o : Option Refusal). unless_refused o (with_stack (elf_original e y.loading.original.stack) (items_of_stay y))) is.sound ∙ stacked e is

pub stays_are_accepted : StaysAreAccepted
stays_are_accepted ys w i y file right are there is =
    let stands = not_refuted i w.procs y (find id_of i w.spaces) (right.agree i y there) in
    accepted y stands.0 stands.1 (has_loaded ys i y are.loads there) file is
