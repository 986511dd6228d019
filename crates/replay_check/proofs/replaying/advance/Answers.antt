use Rattle.std.proofs.Common.{◌≡◌, ◌≤◌, length, map, arith}
use Rattle.items_text.specs.Values.{item_value}
use Rattle.replay_check.specs.Solos.{solo_of, item_of}
use Rattle.replay_check.specs.Loops.{items_alone}
use Rattle.replay_check.proofs.Stops.{stands}
use Rattle.replay_check.proofs.Loops.{ran_on, nobody_left, pops_on, refused_on, missing_on, answers_on, wrong_on, length_alone, alone_at, spelled_at}
use Rattle.replay_check.proofs.replaying.advance.Goals as goal

pub returns-in_default : goal.returns-in_default
returns-in_default c = (c.requires.some, λ left before. nobody_left c.args.count left c.args.used before _ _ c.requires.some c.in_default.ensures.0)

pub overflow_add-result : goal.overflow_add-result
overflow_add-result c =
    let st = rw c.in-Trap.is at (stands c.args.count (solo_of c.args.lone.now) (solo_of c.run.new.self) c.in-Some.progress c.in-Some.ensures) in
    let less = st.0 in
    let fits = c.ranges.count.fits in
    omega (arith, less, fits)

pub overflow_add-result-in-Call : goal.overflow_add-result-in-Call
overflow_add-result-in-Call c =
    let st = rw c.in-Call.is at (stands c.args.count (solo_of c.args.lone.now) (solo_of c.run.new.self) c.in-Some.progress c.in-Some.ensures) in
    let less = st.0 in
    let fits = c.ranges.count.fits in
    omega (arith, less, fits)

pub returns-in-Next : goal.returns-in-Next
returns-in-Next c =
    let all : c.in-Some.progress.done ≡ c.args.count = (rw c.in-Next.is at (stands c.args.count (solo_of c.args.lone.now) (solo_of c.run.new.self) c.in-Some.progress c.in-Some.ensures)) in
    let some = c.requires.some in
    let used = c.requires.used in
    let len = length_alone c.args.items.now in
    (omega (arith, all, some), omega (arith, all), omega (arith, used, len), λ left before. ran_on _ _ _ _ c.in-Some.ensures left c.args.used before _)

pub returns-in-Refused : goal.returns-in-Refused
returns-in-Refused c =
    let st = rw c.in-Refused.is at (stands c.args.count (solo_of c.args.lone.now) (solo_of c.run.new.self) c.in-Some.progress c.in-Some.ensures) in
    (st.0, λ left before. refused_on _ _ _ _ c.in-Some.ensures st.0 c.in-Refused.field-0 st.1 left c.args.used before _)

pub returns-in-Trap : goal.returns-in-Trap
returns-in-Trap c =
    let st = rw c.in-Trap.is at (stands c.args.count (solo_of c.args.lone.now) (solo_of c.run.new.self) c.in-Some.progress c.in-Some.ensures) in
    let less = st.0 in
    let used = c.requires.used in
    let len = length_alone c.args.items.now in
    (omega arith, omega (arith, less), omega (arith, used, len), λ left before. pops_on _ _ _ _ _ c.in-Some.ensures c.in-Trap.field-0 st.1 c.pop.ensures left c.args.used before _)

pub returns-then-used-items : goal.returns-then-used-items
returns-then-used-items c =
    let st = rw c.in-Call.is at (stands c.args.count (solo_of c.args.lone.now) (solo_of c.run.new.self) c.in-Some.progress c.in-Some.ensures) in
    let all = items_alone (map item_value c.args.items.now) in
    let up : length all ≤ c.args.used = (let test = c.if-used-items.true in let len = length_alone c.args.items.now in omega (arith, test, len)) in
    (st.0, missing_on _ _ _ _ c.in-Some.ensures st.0 st.1 all c.args.used up)

pub answer-requires : goal.answer-requires
answer-requires c = (spelled_at c.args.items.now c.args.used c.index-items-used.result c.if-used-items.false c.index-items-used.is c.requires.spelled).got

pub returns-then-not-branch : goal.returns-then-not-branch
returns-then-not-branch c =
    let st = rw c.in-Call.is at (stands c.args.count (solo_of c.args.lone.now) (solo_of c.run.new.self) c.in-Some.progress c.in-Some.ensures) in
    let x = c.index-items-used.result in
    let there = alone_at c.args.items.now c.args.used x c.if-used-items.false c.index-items-used.is in (
      st.0,
      wrong_on _ _ _ _ c.in-Some.ensures st.0 st.1 (items_alone (map item_value c.args.items.now)) c.args.used (item_of x.entry x.brought.items) there (solo_of c.answer.new.self)
          (rw (c.if-not-branch.true, c.deref.ensures.value) at c.in_ok-answer-in-Call.ensures),
    )

pub returns-else-not-branch : goal.returns-else-not-branch
returns-else-not-branch c =
    let st = rw c.in-Call.is at (stands c.args.count (solo_of c.args.lone.now) (solo_of c.run.new.self) c.in-Some.progress c.in-Some.ensures) in
    let x = c.index-items-used.result in
    let fewer = st.0 in
    let less = c.if-used-items.false in
    let len = length_alone c.args.items.now in
    let there = alone_at c.args.items.now c.args.used x c.if-used-items.false c.index-items-used.is in (
      omega arith,
      omega (arith, fewer),
      omega (arith, less, len),
      answers_on _ _ _ _ c.in-Some.ensures st.0 st.1 (items_alone (map item_value c.args.items.now)) c.args.used (item_of x.entry x.brought.items) there (solo_of c.answer.new.self)
          (rw (c.if-not-branch.false, c.deref.ensures.value) at c.in_ok-answer-in-Call.ensures),
    )
