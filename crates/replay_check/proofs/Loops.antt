-- What is left behind an event.
use Rattle.std.proofs.Common.{◌≡◌, ℕ, zero, suc, ◌+◌, ◌-◌, ◌<◌, ◌≤◌, true, false, List, [], ◌∷◌, length, drop, map, get_or, Option, Some, None, refl, sym, ap, subst, ◌∙◌, arith}
use Rattle.std.specs.Prelude.{slice_get}
use Rattle.std.specs.List.{AllByRecursion}
use Rattle.region_watch.specs.declared.instructions.Progress.{Progress}
use Rattle.rv32im_step.specs.Meaning.{call, trap, refused}
use Rattle.flat_loader.specs.Alone.{Solo, Item, Left, with_items, solo_step}
use Rattle.items_text.specs.declared.items.Item.{Item as Stored}
use Rattle.items_text.specs.Items.{IsItem}
use Rattle.items_text.specs.Values.{item_value}
use Rattle.replay_check.specs.declared.verdict.Verdict.TheVariants.{Yes, No}
use Rattle.replay_check.specs.Verdicts.{at_end, verdict_behind, verdict_from}
use Rattle.replay_check.specs.Answers.{GivesOrRefutes, answered}
use Rattle.replay_check.specs.Solos.{item_of, Runs, Pops}
use Rattle.replay_check.specs.Loops.{items_alone}
use Rattle.replay_check.proofs.Steps.{steps}
use Rattle.replay_check.proofs.Stops.{Means, nobody_steps, refused_steps, trap_steps, missing_steps, answer_steps}

-- an event
behind : (n used done : ℕ) (s : Solo) (items : List Item) (o : Left) → solo_step s items ≡ o → verdict_from (suc n) used done s items ≡ verdict_behind (verdict_from n) used done (length items) o
unfolding verdict_from
behind n used done s items o is = ap (verdict_behind (verdict_from n) used done (length items)) is

-- instructions
pub ran_on : (most : ℕ) (old new : Solo) (p : Progress) → Runs most old new p → (left used before : ℕ) (items : List Item)
    → verdict_from (p.done + left) used before old items ≡ verdict_from left used (before + p.done) new items
ran_on most old new p r left used before items =
    let whole : old ≡ record { stack = r.top ∷ r.below; memory = old.memory } = (λ i. record { stack = r.stack i; memory = old.memory }) in
    (λ i. verdict_from (r.done i + left) used before (whole i) items)
    ∙ steps most left used before r.top r.below old.memory items
    ∙ (λ i. verdict_from left used (before + sym r.done i) (sym r.new_is i) items)

-- no process is left
pub nobody_left : (count left used before : ℕ) (s : Solo) (items : List Item) → 0 < count → s.stack ≡ [] → verdict_from (count + left) used before s items ≡ No (used + 1) (before + 0)
nobody_left count left used before s items some none =
    let more : count + left ≡ suc (count - 1 + left) = omega (arith, some) in
    let same : before ≡ before + 0 = omega arith in
    ap (λ n. verdict_from n used before s items) more
    ∙ behind (count - 1 + left) used before s items None (nobody_steps s items none)
    ∙ ap (No (used + 1)) same

-- refuted behind some instructions
pub refuted : (most : ℕ) (old new : Solo) (p : Progress) → Runs most old new p → p.done < most → (left used before : ℕ) (items : List Item) → solo_step new items ≡ None
    → verdict_from (most + left) used before old items ≡ No (used + 1) (before + p.done)
refuted most old new p r less left used before items none =
    let sum : most + left ≡ p.done + suc (most - p.done - 1 + left) = omega (arith, less) in
    ap (λ n. verdict_from n used before old items) sum
    ∙ ran_on most old new p r (suc (most - p.done - 1 + left)) used before items
    ∙ behind (most - p.done - 1 + left) used (before + p.done) new items None none

-- an event more behind them, that uses these items
goes_on : (most : ℕ) (old mid new : Solo) (p : Progress) → Runs most old mid p → (left used now before : ℕ) (items rest : List Item)
    → used + (length items - length rest) ≡ now → solo_step mid items ≡ Some (new, rest)
    → verdict_from (p.done + 1 + left) used before old items ≡ verdict_from left now (before + (p.done + 1)) new rest
goes_on most old mid new p r left used now before items rest taken is =
    let sum : p.done + 1 + left ≡ p.done + suc left = omega arith in
    let end : before + p.done + 1 ≡ before + (p.done + 1) = omega arith in
    ap (λ n. verdict_from n used before old items) sum
    ∙ ran_on most old mid p r (suc left) used before items
    ∙ behind left used (before + p.done) mid items (Some (new, rest)) is
    ∙ (λ i. verdict_from left (taken i) (end i) new rest)

pub pops_on : (most : ℕ) (old mid new : Solo) (p : Progress) → Runs most old mid p → (signal : _) → Means mid (trap signal) → Pops mid new → (left used before : ℕ) (items : List Item)
    → verdict_from (p.done + 1 + left) used before old items ≡ verdict_from left used (before + (p.done + 1)) new items
pops_on most old mid new p r signal means pops left used before items = goes_on most old mid new p r left used used before items items (omega arith) (trap_steps mid new signal means pops items)

pub refused_on : (most : ℕ) (old mid : Solo) (p : Progress) → Runs most old mid p → p.done < most → (access : _) → Means mid (refused access) → (left used before : ℕ) (items : List Item)
    → verdict_from (most + left) used before old items ≡ No (used + 1) (before + p.done)
refused_on most old mid p r less access means left used before items = refuted most old mid p r less left used before items (refused_steps mid access means items)

-- ---- the next item

next_of : (items : List Item) (k : ℕ) (i : Item) → slice_get items k ≡ Some i → drop k items ≡ i ∷ drop (k + 1) items
next_of [] k i there = absurd cc
next_of (x ∷ items) zero i there = ap (λ (o : Option Item). by_item o) there
  where
    by_item : Option Item → List Item
    by_item (Some y) = y ∷ items
    by_item None = []
next_of (x ∷ items) (suc k) i there =
    let sum : suc (k + 1) ≡ suc k + 1 = omega arith in
    next_of items k i there ∙ ap (λ (m : ℕ). i ∷ drop m (x ∷ items)) sum

pub none_behind : (items : List Item) (k : ℕ) → length items ≤ k → drop k items ≡ []
none_behind [] zero up = refl
none_behind [] (suc k) up = refl
none_behind (i ∷ items) zero up = absurd (omega (arith, up))
none_behind (i ∷ items) (suc k) up = none_behind items k (omega (arith, up))

module _ (most : ℕ) (old mid : Solo) (p : Progress) (r : Runs most old mid p) (less : p.done < most) (means : Means mid call) (all : List Item) (used : ℕ) where
  pub missing_on : length all ≤ used → (left before : ℕ) → verdict_from (most + left) used before old (drop used all) ≡ No (used + 1) (before + p.done)
  missing_on none left before =
      refuted most old mid p r less left used before (drop used all) (ap (solo_step mid) (none_behind all used none) ∙ missing_steps mid means)

  module _ (i : Item) (there : slice_get all used ≡ Some i) (new : Solo) where
    step : (o : Option Solo) → answered mid i ≡ o → solo_step mid (drop used all) ≡ with_items (drop (used + 1) all) o
    step o is = ap (solo_step mid) (next_of all used i there) ∙ answer_steps mid means i (drop (used + 1) all) ∙ ap (with_items (drop (used + 1) all)) is

    pub answers_on : GivesOrRefutes (answered mid i) true new → (left before : ℕ)
        → verdict_from (p.done + 1 + left) used before old (drop used all) ≡ verdict_from left (used + 1) (before + (p.done + 1)) new (drop (used + 1) all)
    answers_on leaves left before = by (answered mid i) refl leaves
      where
        taken : used + (length (drop used all) - length (drop (used + 1) all)) ≡ used + 1
        taken = (let more : length (drop used all) ≡ suc (length (drop (used + 1) all)) = ap length (next_of all used i there) in omega (arith, more))

        by : (o : Option Solo) → answered mid i ≡ o → GivesOrRefutes o true new
            → verdict_from (p.done + 1 + left) used before old (drop used all) ≡ verdict_from left (used + 1) (before + (p.done + 1)) new (drop (used + 1) all)
        by None is l = absurd l
        by (Some now) is l = goes_on most old mid new p r left used (used + 1) before (drop used all) (drop (used + 1) all) taken (step (Some now) is ∙ (λ k. Some (sym l k, drop (used + 1) all)))

    pub wrong_on : GivesOrRefutes (answered mid i) false new → (left before : ℕ) → verdict_from (most + left) used before old (drop used all) ≡ No (used + 1) (before + p.done)
    wrong_on leaves left before = by (answered mid i) refl leaves
      where
        by : (o : Option Solo) → answered mid i ≡ o → GivesOrRefutes o false new → verdict_from (most + left) used before old (drop used all) ≡ No (used + 1) (before + p.done)
        by None is l = refuted most old mid p r less left used before (drop used all) (step None is)
        by (Some now) is l = absurd l

-- ---- at the end

pub all_used : (all : List Item) (used n before : ℕ) (s : Solo) → length all ≤ used → n ≡ 0 → verdict_from n used before s (drop used all) ≡ Yes
unfolding verdict_from
all_used all used n before s none zero_is = rw zero_is (ap (at_end used before) (none_behind all used none))

pub some_left : (all : List Item) (used n before : ℕ) (s : Solo) → used < length all → n ≡ 0 → verdict_from n used before s (drop used all) ≡ No (used + 1) before
unfolding verdict_from
some_left all used n before s less zero_is = rw zero_is (by all used less)
  where
    by : (xs : List Item) (k : ℕ) → k < length xs → at_end used before (drop k xs) ≡ No (used + 1) before
    by [] k less = absurd (omega (arith, less))
    by (x ∷ xs) zero less = refl
    by (x ∷ xs) (suc k) less = by xs k (omega (arith, less))

-- ---- the code's items

pub length_alone : (items : List Stored) → length (items_alone (map item_value items)) ≡ length items
length_alone [] = refl
length_alone (x ∷ xs) = ap suc (length_alone xs)

pub alone_at : (items : List Stored) (k : ℕ) (x : Stored) → k < length items → x ≡ get_or items k x → slice_get (items_alone (map item_value items)) k ≡ Some (item_of x.entry x.brought.items)
alone_at [] k x less is = absurd (omega (arith, less))
alone_at (y ∷ ys) zero x less is = ap (λ (z : Stored). Some (item_of z.entry z.brought.items)) (sym is)
alone_at (y ∷ ys) (suc k) x less is = alone_at ys k x (omega (arith, less)) is

pub spelled_at : (items : List Stored) (k : ℕ) (x : Stored) → k < length items → x ≡ get_or items k x → AllByRecursion IsItem (map item_value items) → IsItem (item_value x)
spelled_at [] k x less is all = absurd (omega (arith, less))
spelled_at (y ∷ ys) zero x less is all = subst (λ (z : Stored). IsItem (item_value z)) (sym is) all.0
spelled_at (y ∷ ys) (suc k) x less is all = spelled_at ys k x (omega (arith, less)) is all.1
