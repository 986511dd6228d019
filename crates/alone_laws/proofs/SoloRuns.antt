-- A run alone goes on behind its events, with more items.
use Rattle.std.proofs.Common.{◌≡◌, ℕ, zero, suc, ◌+◌, Bool, true, false, List, [], ◌∷◌, ◌++◌, Option, Some, None, refl, sym, ap, subst, ◌∙◌, arith}
use Rattle.std.specs.Prelude.{Result, Ok, Err, if◌then◌else◌}
use Rattle.rv32im_step.specs.Meaning.{Meaning, next, call, trap, refused, meaning}
use Rattle.call_log.specs.Sent.{Span, sent}
use Rattle.flat_loader.specs.Begin.{Loading}
use Rattle.flat_loader.specs.Alone.{Runner, OwnMemory, Solo, Item, Left, writable_of, number_of, args_of, put_got, is_call, with_items, solo_put, solo_taken, solo_called, solo_moved, solo_top, solo_step, then_left, solo_run, none_left, solo_begin, alone}

-- the same, and more items are left
abbrev Behind : List Item → Left → Left → Type 0
Behind more None other = Unit {0}
Behind more (Some (s, items)) other = other ≡ Some (s, items ++ more)

module _ (more : List Item) where
  with_more : (o : Option Solo) (items : List Item) → Behind more (with_items items o) (with_items (items ++ more) o)
  with_more None items = tt
  with_more (Some s) items = refl

  if_more : (b : Bool) (o : Option Solo) (items : List Item)
      → Behind more (if b then with_items items o else None) (if b then with_items (items ++ more) o else None)
  if_more true o items = with_more o items
  if_more false o items = tt

  module _ (top : Runner) (below : List Runner) (m : OwnMemory) where
    taken_more : (bytes : List ℕ) (items : List Item) → Behind more (solo_taken top below m bytes items) (solo_taken top below m bytes (items ++ more))
    taken_more bytes [] = tt
    taken_more bytes (i ∷ items) = if_more (is_call top bytes i.entry) (solo_put top below m i (put_got m.bytes (writable_of m.ranges) i.entry.got)) items

    called_more : (items : List Item) (r : Result (List ℕ) Span) → Behind more (solo_called top below m items r) (solo_called top below m (items ++ more) r)
    called_more items (Ok bytes) = taken_more bytes items
    called_more items (Err span) = tt

    moved_more : (items : List Item) (mean : Meaning) → Behind more (solo_moved top below m items mean) (solo_moved top below m (items ++ more) mean)
    moved_more items (next regs bytes) = refl
    moved_more items call = called_more items (sent (number_of top.regs) (args_of top.regs) m.bytes)
    moved_more items (trap signal) = refl
    moved_more items (refused access) = tt

  top_more : (m : OwnMemory) (items : List Item) (stack : List Runner) → Behind more (solo_top m items stack) (solo_top m (items ++ more) stack)
  top_more m items [] = tt
  top_more m items (top ∷ below) = moved_more top below m items (meaning top.regs m.bytes (writable_of m.ranges))

  step_more : (s : Solo) (items : List Item) → Behind more (solo_step s items) (solo_step s (items ++ more))
  unfolding solo_step
  step_more s items = top_more s.memory items s.stack

  run_more : (n : ℕ) (s : Solo) (items : List Item) → Behind more (solo_run n s items) (solo_run n s (items ++ more))
  unfolding solo_run
  run_more zero s items = refl
  run_more (suc n) s items = on (λ now left. run_more n now left) (solo_step s items) (solo_step s (items ++ more)) (step_more s items)
    where
      on : ((now : Solo) (left : List Item) → Behind more (solo_run n now left) (solo_run n now (left ++ more))) → (o other : Left) → Behind more o other
          → Behind more (then_left (solo_run n) o) (then_left (solo_run n) other)
      on ran None other same = tt
      on ran (Some (now, left)) other same = subst (λ (l : Left). Behind more (solo_run n now left) (then_left (solo_run n) l)) (sym same) (ran now left)

-- the last event behind the others
run_last : (n : ℕ) (s : Solo) (items : List Item) → solo_run (suc n) s items ≡ then_left solo_step (solo_run n s items)
unfolding solo_run
run_last zero s items = by (solo_step s items)
  where
    by : (o : Left) → then_left (solo_run zero) o ≡ o
    by None = refl
    by (Some (now, left)) = refl
run_last (suc n) s items = by (λ now left. run_last n now left) (solo_step s items)
  where
    by : ((now : Solo) (left : List Item) → solo_run (suc n) now left ≡ then_left solo_step (solo_run n now left)) → (o : Left)
        → then_left (solo_run (suc n)) o ≡ then_left solo_step (then_left (solo_run n) o)
    by last None = refl
    by last (Some (now, left)) = last now left

nothing_left : (l : Left) (s : Solo) → none_left l ≡ Some s → l ≡ Some (s, [])
nothing_left None s is = absurd cc
nothing_left (Some (now, [])) s is = ap (λ (o : Option Solo). with_items [] o) is
nothing_left (Some (now, i ∷ items)) s is = absurd cc

-- an event more
pub alone_more : (l : Loading) (pid : ℕ) (items more : List Item) (events : ℕ) (s : Solo) → alone l pid items events ≡ Some s
    → alone l pid (items ++ more) (events + 1) ≡ none_left (solo_step s more)
unfolding alone
alone_more l pid items more events s is =
    let begins = solo_begin l pid in
    let one : events + 1 ≡ suc events = omega arith in
    let ran : solo_run events begins items ≡ Some (s, []) = nothing_left (solo_run events begins items) s is in
    let behind : solo_run events begins (items ++ more) ≡ Some (s, more) =
    subst (λ (o : Left). Behind more o (solo_run events begins (items ++ more))) ran (run_more more events begins items) in
    ap (λ n. none_left (solo_run n begins (items ++ more))) one ∙ ap none_left (run_last events begins (items ++ more)) ∙ ap (λ o. none_left (then_left solo_step o)) behind

-- no event, and no call
pub begins_alone : (l : Loading) (pid : ℕ) → alone l pid [] 0 ≡ Some (solo_begin l pid)
unfolding alone solo_run
begins_alone l pid = refl
