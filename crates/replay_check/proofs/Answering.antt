-- What answered calls leave.
use Rattle.std.proofs.Common.{◌≡◌, ℕ, Bool, true, false, List, [], ◌∷◌, ◌++◌, length, map, Option, Some, None, refl, sym, ap, subst, ◌∙◌, arith}
use Rattle.std.specs.Prelude.{Result, Ok, Err, reverse, IfOk, ◌&&◌, if◌then◌else◌}
use Rattle.rv32im_step.specs.declared.regs.Regs.{Regs}
use Rattle.call_log.specs.Notes.{CallEntry}
use Rattle.mmap_rules.specs.declared.mapping.Range.{Range}
use Rattle.flat_loader.specs.Alone.{Runner, OwnMemory, Solo, Item, replied, is_errno, leaves_space, new_range, new_bytes, brings_all, is_placed, may_lie, may_map, with_range, solo_effect, solo_answered}
use Rattle.replay_check.specs.declared.lone.Runner.{Runner as Stored}
use Rattle.replay_check.specs.Answers.{GivesOrRefutes, told, answered_over, answered_on, answered, mapped}
use Rattle.replay_check.specs.Solos.{runner_value}
use Rattle.replay_check.proofs.Telling.{stacked}

-- ---- mmap2

and_none : (x : Bool) → (x && false) ≡ false
and_none true = refl
and_none false = refl

module _ (m : OwnMemory) (e : CallEntry) (brought : List ℕ) (new : OwnMemory) where
  abbrev item : Item
  item = record { entry = e; brought = brought }

  pub unplaced : is_placed (new_range e) ≡ false → GivesOrRefutes (mapped m item) false new
  unfolding may_map
  unplaced is = rw is tt

  module _ (r : Range) (same : r ≡ new_range e) where
    not_mapped : may_map m r brought ≡ false → GivesOrRefutes (mapped m item) false new
    not_mapped is = subst (λ (x : Range). GivesOrRefutes (if may_map m x brought then Some (with_range m x (new_bytes x brought)) else None) false new) same (rw is tt)

    pub unbrought : brings_all r brought ≡ false → GivesOrRefutes (mapped m item) false new
    unfolding may_map
    unbrought is = not_mapped (ap (λ (b : Bool). is_placed r && b && may_lie m r.writes r.from (new_bytes r brought)) is ∙ ap (λ (b : Bool). b && may_lie m r.writes r.from (new_bytes r brought)) (and_none (is_placed r)))

    pub unlaid : may_lie m r.writes r.from (new_bytes r brought) ≡ false → GivesOrRefutes (mapped m item) false new
    unfolding may_map
    unlaid is = not_mapped (ap (λ (b : Bool). is_placed r && brings_all r brought && b) is ∙ and_none (is_placed r && brings_all r brought))

    pub may_be : is_placed r ≡ true → brings_all r brought ≡ true → may_lie m r.writes r.from (new_bytes r brought) ≡ true → may_map m r brought ≡ true
    unfolding may_map
    may_be at brings lies = rw (at, brings, lies) refl

    pub is_mapped : may_map m r brought ≡ true → new ≡ with_range m r (new_bytes r brought) → GivesOrRefutes (mapped m item) true new
    is_mapped is now = subst (λ (x : Range). GivesOrRefutes (if may_map m x brought then Some (with_range m x (new_bytes x brought)) else None) true new) same (rw is now)

-- ---- a call

none_of : (xs : List Stored) → length xs ≡ 0 → xs ≡ []
none_of [] len = refl
none_of (x ∷ xs) len = absurd (omega (arith, len))

pub nobody : (stack : List Stored) (m : OwnMemory) (i : Item) (new : Solo) → length stack ≡ 0 → GivesOrRefutes (answered (record { stack = reverse (map runner_value stack); memory = m }) i) false new
unfolding answered
nobody stack m i new len = subst (λ (l : List Stored). GivesOrRefutes (answered_on m i (reverse (map runner_value l))) false new) (sym (none_of stack len)) tt

module _ (stack below : List Stored) (top : Stored) (m : OwnMemory) (i : Item) (items : stack ≡ below ++ top ∷ []) where
  abbrev others : List Runner
  others = reverse (map runner_value below)

  is_on : answered (record { stack = reverse (map runner_value stack); memory = m }) i ≡ answered_over (runner_value top) others i (told (runner_value top) m i.entry)
  unfolding answered
  is_on = ap (answered_on m i) (ap (λ (l : List Stored). reverse (map runner_value l)) items ∙ stacked below top)

  pub untold : (x : OwnMemory) (new : Solo) → GivesOrRefutes (told (runner_value top) m i.entry) false x → GivesOrRefutes (answered (record { stack = reverse (map runner_value stack); memory = m }) i) false new
  untold x new leaves = subst (λ o. GivesOrRefutes o false new) (sym is_on) (by (told (runner_value top) m i.entry) leaves)
    where
      by : (o : Option OwnMemory) → GivesOrRefutes o false x → GivesOrRefutes (answered_over (runner_value top) others i o) false new
      by None is = tt
      by (Some y) is = absurd is

  module _ (now : OwnMemory) (tells : GivesOrRefutes (told (runner_value top) m i.entry) true now) where
    told_now : answered (record { stack = reverse (map runner_value stack); memory = m }) i ≡ solo_answered (runner_value top) others now i now.bytes
    told_now = is_on ∙ by (told (runner_value top) m i.entry) tells
      where
        by : (o : Option OwnMemory) → GivesOrRefutes o true now → answered_over (runner_value top) others i o ≡ solo_answered (runner_value top) others now i now.bytes
        by None is = absurd is
        by (Some y) is = ap (λ (x : OwnMemory). solo_answered (runner_value top) others x i x.bytes) (sym is)

    pub space_left : leaves_space i.entry ≡ true → GivesOrRefutes (answered (record { stack = reverse (map runner_value stack); memory = m }) i) true (record { stack = others; memory = now })
    space_left is = subst (λ o. GivesOrRefutes o true (record { stack = others; memory = now })) (sym told_now) (rw is refl)

    module _ (stays : leaves_space i.entry ≡ false) (pushed : List Stored) (regs : Regs) (reply : regs ≡ replied top.regs i.entry.reply)
        (push : pushed ≡ below ++ record { pid = top.pid; regs = regs } ∷ []) where
      abbrev after : Solo
      after = record { stack = reverse (map runner_value pushed); memory = now }

      after_is : after ≡ record { stack = record (runner_value top) { regs = replied top.regs i.entry.reply } ∷ others; memory = now }
      after_is =
          (λ k. record { stack = (ap (λ (l : List Stored). reverse (map runner_value l)) push ∙ stacked below (record { pid = top.pid; regs = regs })) k; memory = now })
          ∙ (λ k. record { stack = record { pid = top.pid; regs = reply k } ∷ others; memory = now })

      pub call_refused : is_errno i.entry.reply ≡ true → GivesOrRefutes (answered (record { stack = reverse (map runner_value stack); memory = m }) i) true after
      call_refused is = subst (λ o. GivesOrRefutes o true after) (sym told_now) (rw (stays, is) after_is)

      pub call_done : is_errno i.entry.reply ≡ false → (right : Bool) (new : Solo) → GivesOrRefutes (solo_effect after top.regs i) right new
          → GivesOrRefutes (answered (record { stack = reverse (map runner_value stack); memory = m }) i) right new
      call_done is right new leaves =
          subst (λ o. GivesOrRefutes o right new) (sym told_now)
          (rw (stays, is) (subst (λ (s : Solo). GivesOrRefutes (solo_effect s top.regs i) right new) after_is leaves))

pub each_ok : {Y : Type 0} (result : Result Bool Y) (P Q : Bool → Type 0) → ((b : Bool) → P b → Q b) → IfOk result P → IfOk result Q
each_ok (Ok b) P Q each ok = each b ok
each_ok (Err e) P Q each ok = ok
