-- An item that tells of a call, and the processes of a program.
use Rattle.std.proofs.Common.{◌≡◌, ℕ, zero, suc, Bool, true, false, List, [], ◌∷◌, ◌++◌, length, map, take, get_or, refl, sym, ap, ◌∙◌, arith}
use Rattle.std.specs.Prelude.{Result, Ok, Err, reverse, slice_index, slice_set}
use Rattle.std.proofs.lemmas.List.{map-append, reverse-append}
use Rattle.rv32im_step.specs.declared.regs.Regs.{Regs}
use Rattle.rv32im_step.specs.Registers.{register}
use Rattle.call_log.specs.Notes.{CallEntry}
use Rattle.call_log.specs.Sent.{Span, sent}
use Rattle.region_watch.specs.declared.instructions.Progress.{Progress}
use Rattle.region_watch.specs.Instructions.{Ran, ran, instructions}
use Rattle.flat_loader.specs.Alone.{Runner, OwnMemory, writable_of, number_of, args_of, is_call}
use Rattle.replay_check.specs.declared.lone.Runner.{Runner as Stored}
use Rattle.replay_check.specs.Answers.{GivesOrRefutes, put_own, told}
use Rattle.replay_check.specs.Solos.{runner_value, Runs}

-- ---- the call

number_is : (regs : Regs) → slice_index regs.x 17 ≡ number_of regs
unfolding register
number_is regs = refl

module _ (top : Runner) (m : OwnMemory) (e : CallEntry) (number : ℕ) (args : List ℕ) (at : number ≡ slice_index top.regs.x 17) (args_are : args ≡ args_of top.regs) where
  read : (o : Result (List ℕ) Span) → sent number args m.bytes ≡ o → sent (number_of top.regs) (args_of top.regs) m.bytes ≡ o
  read o is = (λ i. sent (sym (number_is top.regs) i) (args_of top.regs) m.bytes) ∙ (λ i. sent (sym at i) (sym args_are i) m.bytes) ∙ is

  pub told_put : (bytes : List ℕ) (right : Bool) (new : OwnMemory) → sent number args m.bytes ≡ Ok bytes → is_call top bytes e ≡ true → GivesOrRefutes (put_own m e.got) right new → GivesOrRefutes (told top m e) right new
  unfolding told
  told_put bytes right new is tells leaves = rw (read (Ok bytes) is, tells) leaves

  pub told_other : (bytes : List ℕ) (new : OwnMemory) → sent number args m.bytes ≡ Ok bytes → is_call top bytes e ≡ false → GivesOrRefutes (told top m e) false new
  unfolding told
  told_other bytes new is tells = rw (read (Ok bytes) is, tells) tt

  pub told_stray : (span : Span) (new : OwnMemory) → sent number args m.bytes ≡ Err span → GivesOrRefutes (told top m e) false new
  unfolding told
  told_stray span new is = rw (read (Err span) is) tt

-- ---- the processes, of which the last one runs

pub stacked : (below : List Stored) (top : Stored) → reverse (map runner_value (below ++ top ∷ [])) ≡ runner_value top ∷ reverse (map runner_value below)
stacked below top = ap reverse (map-append runner_value below (top ∷ [])) ∙ reverse-append (map runner_value below) (runner_value top ∷ [])

last_is : (k : ℕ) (xs : List Stored) (x : Stored) → length xs ≡ suc k → x ≡ get_or xs k x → xs ≡ take k xs ++ x ∷ []
last_is k [] x len is = absurd (omega (arith, len))
last_is zero (y ∷ []) x len is = ap (λ (z : Stored). z ∷ []) (sym is)
last_is zero (y ∷ z ∷ xs) x len is = absurd (omega (arith, len))
last_is (suc k) (y ∷ xs) x len is = ap (λ (l : List Stored). y ∷ l) (last_is k xs x (omega (arith, len)) is)

set_last : (k : ℕ) (xs : List Stored) (x : Stored) → length xs ≡ suc k → slice_set xs k x ≡ take k xs ++ x ∷ []
set_last k [] x len = absurd (omega (arith, len))
set_last zero (y ∷ []) x len = refl
set_last zero (y ∷ z ∷ xs) x len = absurd (omega (arith, len))
set_last (suc k) (y ∷ xs) x len = ap (λ (l : List Stored). y ∷ l) (set_last k xs x (omega (arith, len)))

pub runs_last : (most : ℕ) (old new : OwnMemory) (stack : List Stored) (k : ℕ) (top : Stored) (regs : Regs) (p : Progress) → length stack ≡ suc k → top ≡ get_or stack k top
    → ran regs new.bytes p.done p.stop ≡ instructions most (writable_of old.ranges) top.regs old.bytes → new.ranges ≡ old.ranges
    → Runs most (record { stack = reverse (map runner_value stack); memory = old })
    (record { stack = reverse (map runner_value (slice_set stack k (record { pid = top.pid; regs = regs }))); memory = new }) p
runs_last most old new stack k top regs p len is leaves same =
    let below = take k stack in
    record {
      top = runner_value top;
      below = reverse (map runner_value below);
      stack = ap (λ (l : List Stored). reverse (map runner_value l)) (last_is k stack top len is) ∙ stacked below top;
      new_is = (λ i. record { stack = (ap (λ (l : List Stored). reverse (map runner_value l)) (set_last k stack (record { pid = top.pid; regs = regs }) len) ∙ stacked below (record { pid = top.pid; regs = regs })) i; memory = new })
          ∙ (λ i. record { stack = record { pid = top.pid; regs = (leaves i).regs } ∷ reverse (map runner_value below); memory = record { ranges = same i; bytes = (leaves i).bytes } });
      done = ap (λ (r : Ran). r.done) leaves;
      stop = ap (λ (r : Ran). r.stop) leaves;
    }
