-- Instructions one after the other: what was done and what is left give the whole.
use Rattle.std.proofs.Common.{◌≡◌, ◌≢◌, ℕ, suc, ◌+◌, ◌-◌, ◌<◌, Bool, true, List, [], Option, refl, sym, ◌∙◌, arith}
use Rattle.byte_words.specs.ByteMap.{Bytes}
use Rattle.rv32im_step.specs.declared.regs.Regs.{Regs}
use Rattle.rv32im_step.specs.declared.stop.Stop.{Stop}
use Rattle.rv32im_step.specs.declared.stop.Stop.TheVariants.{Next}
use Rattle.rv32im_step.specs.Meaning.{Meaning, next, call, trap, refused, meaning, Means}
use Rattle.mmap_rules.specs.declared.page_owner.PageOwner.{PageOwner}
use Rattle.byte_words.specs.declared.access.Access.{Access}
use Rattle.rv32im_step.specs.Asked.{Asked, asked}
use Rattle.region_watch.specs.declared.mode.Mode.{Mode}
use Rattle.region_watch.specs.Private.{passes, passed_bytes, kept_bytes}
use Rattle.region_watch.specs.Instructions.{Ran, ran, one_more, goes_on, instructions, asked_behind, all_asked}
use Rattle.region_watch.specs.Strays.{stray_after_all, stray_after_on}

-- what is left, after k instructions
abbrev pub after_first : ℕ → Ran → Ran
after_first k r = record r { done = k + r.done }

after_one : (k : ℕ) (r : Ran) → after_first k (one_more r) ≡ after_first (k + 1) r
after_one k r = let sum : k + (r.done + 1) ≡ k + 1 + r.done = omega arith in rw sum

pub none_done : (r : Ran) → after_first 0 r ≡ r
none_done r = let sum : 0 + r.done ≡ r.done = omega arith in rw sum

goes : (k : ℕ) (more : Regs → Bytes → Ran) (x : Meaning) (regs after : Regs) (m now : Bytes) → Means x regs after m now Next
    → after_first k (goes_on regs m more x) ≡ after_first (k + 1) (more after now)
goes k more (next regs' m') regs after m now is = rw (is.0, is.1) (after_one k (more regs' m'))
goes k more call regs after m now is = absurd (let e = is.2 in cc)
goes k more (trap signal) regs after m now is = absurd (let e = is.2 in cc)
goes k more (refused access) regs after m now is = absurd (let e = is.2 in cc)

stops : (k : ℕ) (more : Regs → Bytes → Ran) (x : Meaning) (regs after : Regs) (m now : Bytes) (stop : Stop) → Means x regs after m now stop → stop ≢ Next
    → after_first k (goes_on regs m more x) ≡ ran after now k stop
stops k more (next regs' m') regs after m now stop is other = absurd (other is.2)
stops k more call regs after m now stop is other = let sum : k + 0 ≡ k = omega arith in rw (is.0, is.1, is.2, sum)
stops k more (trap signal) regs after m now stop is other = let sum : k + 0 ≡ k = omega arith in rw (is.0, is.1, is.2, sum)
stops k more (refused access) regs after m now stop is other = let sum : k + 0 ≡ k = omega arith in rw (is.0, is.1, is.2, sum)

pub run_goes : (k n : ℕ) (w : ℕ → Bool) (regs after : Regs) (m now : Bytes) (stop : Stop) → k < n → Means (meaning regs m w) regs after m now stop → stop ≡ Next
    → after_first k (instructions (n - k) w regs m) ≡ after_first (k + 1) (instructions (n - (k + 1)) w after now)
unfolding instructions
run_goes k n w regs after m now stop less means is =
    let left : n - k ≡ suc (n - (k + 1)) = omega arith in
    rw left (goes k (λ r b. instructions (n - (k + 1)) w r b) (meaning regs m w) regs after m now (rw is at means))

pub run_stops : (k n : ℕ) (w : ℕ → Bool) (regs after : Regs) (m now : Bytes) (stop : Stop) → k < n → Means (meaning regs m w) regs after m now stop → stop ≢ Next
    → after_first k (instructions (n - k) w regs m) ≡ ran after now k stop
unfolding instructions
run_stops k n w regs after m now stop less means other =
    let left : n - k ≡ suc (n - (k + 1)) = omega arith in
    rw left (stops k (λ r b. instructions (n - (k + 1)) w r b) (meaning regs m w) regs after m now stop means other)

pub run_ends : (k n : ℕ) (w : ℕ → Bool) (regs : Regs) (m : Bytes) → k ≡ n → after_first k (instructions (n - k) w regs m) ≡ ran regs m n Next
unfolding instructions
run_ends k n w regs m all =
    let left : n - k ≡ 0 = omega arith in
    let sum : k + 0 ≡ n = omega arith in
    rw (left, sum) refl

-- ---- what was asked and what is left to ask

behind_goes : (more : Regs → Bytes → List Asked) (x : Meaning) (regs after : Regs) (m now : Bytes) → Means x regs after m now Next
    → asked_behind more x ≡ more after now
behind_goes more (next regs' m') regs after m now is = rw (is.0, is.1) refl
behind_goes more call regs after m now is = absurd (let e = is.2 in cc)
behind_goes more (trap signal) regs after m now is = absurd (let e = is.2 in cc)
behind_goes more (refused access) regs after m now is = absurd (let e = is.2 in cc)

behind_stops : (more : Regs → Bytes → List Asked) (x : Meaning) (regs after : Regs) (m now : Bytes) (stop : Stop) → Means x regs after m now stop → stop ≢ Next
    → asked_behind more x ≡ []
behind_stops more (next regs' m') regs after m now stop is other = absurd (other is.2)
behind_stops more call regs after m now stop is other = refl
behind_stops more (trap signal) regs after m now stop is other = refl
behind_stops more (refused access) regs after m now stop is other = refl

asks_on : (k n : ℕ) (w : ℕ → Bool) (regs after : Regs) (m now : Bytes) (stop : Stop) (table : List PageOwner) (f g : Option Access) → k < n
    → Means (meaning regs m w) regs after m now stop → stop ≡ Next → g ≡ stray_after_all table f (asked regs m w)
    → stray_after_all table g (all_asked (n - (k + 1)) w after now) ≡ stray_after_all table f (all_asked (n - k) w regs m)
unfolding all_asked
asks_on k n w regs after m now stop table f g less means is here =
    let left : n - k ≡ suc (n - (k + 1)) = omega arith in
    let behind = behind_goes (λ r b. all_asked (n - (k + 1)) w r b) (meaning regs m w) regs after m now (rw is at means) in
    rw (left, behind) (stray_after_on table table f g _ (asked regs m w) (all_asked (n - (k + 1)) w after now) refl here refl)

asks_no_more : (k n : ℕ) (w : ℕ → Bool) (regs after : Regs) (m now : Bytes) (stop : Stop) (table : List PageOwner) (f g : Option Access) → k < n
    → Means (meaning regs m w) regs after m now stop → stop ≢ Next → g ≡ stray_after_all table f (asked regs m w)
    → g ≡ stray_after_all table f (all_asked (n - k) w regs m)
unfolding all_asked
asks_no_more k n w regs after m now stop table f g less means other here =
    let left : n - k ≡ suc (n - (k + 1)) = omega arith in
    let behind = behind_stops (λ r b. all_asked (n - (k + 1)) w r b) (meaning regs m w) regs after m now stop means other in
    rw (left, behind) (stray_after_on table table f g _ (asked regs m w) [] refl here refl)

pub asked_ends : (k n : ℕ) (w : ℕ → Bool) (regs : Regs) (m : Bytes) (table : List PageOwner) (f : Option Access) → k ≡ n
    → stray_after_all table f (all_asked (n - k) w regs m) ≡ f
unfolding all_asked
asked_ends k n w regs m table f all =
    let left : n - k ≡ 0 = omega arith in
    rw left refl

-- ---- a step over memory, in modes and under tables that are one

pub whole_on : (k n : ℕ) (mode was is : Mode) (table before now : List PageOwner) (mem after : List ℕ) (regs left : Regs) (stop : Stop) (whole : Ran) → k < n
    → was ≡ mode → is ≡ was → before ≡ table → now ≡ before
    → Means (meaning regs (passed_bytes was before mem) (passes was before true)) regs left (passed_bytes was before mem) (passed_bytes is now after) stop → stop ≡ Next
    → after_first k (instructions (n - k) (passes mode table true) regs (passed_bytes mode table mem)) ≡ whole
    → after_first (k + 1) (instructions (n - (k + 1)) (passes mode table true) left (passed_bytes mode table after)) ≡ whole
whole_on k n mode was is table before now mem after regs left stop whole less mode_was mode_is one two means carried same =
    sym (run_goes k n (passes mode table true) regs left (passed_bytes mode table mem) (passed_bytes mode table after) stop less
    (rw (mode_is, mode_was, two, one) at means) carried) ∙ same

pub whole_stops : (k n : ℕ) (mode was is : Mode) (table before now : List PageOwner) (mem after : List ℕ) (regs left : Regs) (stop : Stop) (whole : Ran) (done : ℕ) (ended : Stop) → k < n
    → was ≡ mode → is ≡ was → before ≡ table → now ≡ before
    → Means (meaning regs (passed_bytes was before mem) (passes was before true)) regs left (passed_bytes was before mem) (passed_bytes is now after) stop → stop ≢ Next
    → after_first k (instructions (n - k) (passes mode table true) regs (passed_bytes mode table mem)) ≡ whole
    → done ≡ k → stop ≡ ended → ran left (passed_bytes mode table after) done ended ≡ whole
whole_stops k n mode was is table before now mem after regs left stop whole done ended less mode_was mode_is one two means other same came stopped =
    (λ i. ran left (passed_bytes mode table after) (came i) (sym stopped i))
    ∙ sym (run_stops k n (passes mode table true) regs left (passed_bytes mode table mem) (passed_bytes mode table after) stop less
    (rw (mode_is, mode_was, two, one) at means) other) ∙ same

pub asked_on : (k n : ℕ) (mode was is : Mode) (table before now : List PageOwner) (mem after : List ℕ) (regs left : Regs) (stop : Stop) (f g whole : Option Access) → k < n
    → was ≡ mode → is ≡ was → before ≡ table → now ≡ before
    → Means (meaning regs (passed_bytes was before mem) (passes was before true)) regs left (passed_bytes was before mem) (passed_bytes is now after) stop → stop ≡ Next
    → g ≡ stray_after_all before f (asked regs (passed_bytes was before mem) (passes was before true))
    → stray_after_all table f (all_asked (n - k) (passes mode table true) regs (passed_bytes mode table mem)) ≡ whole
    → stray_after_all table g (all_asked (n - (k + 1)) (passes mode table true) left (passed_bytes mode table after)) ≡ whole
asked_on k n mode was is table before now mem after regs left stop f g whole less mode_was mode_is one two means carried here same =
    asks_on k n (passes mode table true) regs left (passed_bytes mode table mem) (passed_bytes mode table after) stop table f g less
    (rw (mode_is, mode_was, two, one) at means) carried (rw (mode_was, one) at here) ∙ same

pub asked_stops : (k n : ℕ) (mode was is : Mode) (table before now : List PageOwner) (mem after : List ℕ) (regs left : Regs) (stop : Stop) (f g whole : Option Access) → k < n
    → was ≡ mode → is ≡ was → before ≡ table → now ≡ before
    → Means (meaning regs (passed_bytes was before mem) (passes was before true)) regs left (passed_bytes was before mem) (passed_bytes is now after) stop → stop ≢ Next
    → g ≡ stray_after_all before f (asked regs (passed_bytes was before mem) (passes was before true))
    → stray_after_all table f (all_asked (n - k) (passes mode table true) regs (passed_bytes mode table mem)) ≡ whole
    → g ≡ whole
asked_stops k n mode was is table before now mem after regs left stop f g whole less mode_was mode_is one two means other here same =
    asks_no_more k n (passes mode table true) regs left (passed_bytes mode table mem) (passed_bytes mode table after) stop table f g less
    (rw (mode_is, mode_was, two, one) at means) other (rw (mode_was, one) at here) ∙ same

pub kept_on : (mode was is : Mode) (table before now : List PageOwner) (mem after first : List ℕ) → was ≡ mode → is ≡ was → before ≡ table → now ≡ before
    → kept_bytes is now after ≡ kept_bytes was before mem → kept_bytes mode table mem ≡ kept_bytes mode table first → kept_bytes mode table after ≡ kept_bytes mode table first
kept_on mode was is table before now mem after first mode_was mode_is one two here same = (rw (mode_is, mode_was, two, one) at here) ∙ same

pub ruleset runs = (none_done, run_stops, run_ends, asked_ends)
