-- Instructions of the process at the head are as many events, that use no item.
use Rattle.std.proofs.Common.{◌≡◌, ℕ, zero, suc, ◌+◌, ◌-◌, List, ◌∷◌, length, refl, ap, ◌∙◌, arith}
use Rattle.byte_words.specs.ByteMap.{Bytes}
use Rattle.rv32im_step.specs.declared.regs.Regs.{Regs}
use Rattle.rv32im_step.specs.declared.stop.Stop.TheVariants.{Next, Call, Trap, Refused}
use Rattle.rv32im_step.specs.Meaning.{Meaning, next, call, trap, refused, meaning}
use Rattle.region_watch.specs.Instructions.{Ran, ran, goes_on, instructions}
use Rattle.flat_loader.specs.Alone.{Runner, OwnMemory, Solo, Item, writable_of, solo_moved, solo_step}
use Rattle.replay_check.specs.Verdicts.{verdict_behind, verdict_from}
use Rattle.replay_check.specs.Solos.{moved}

abbrev solo : Runner → List Runner → OwnMemory → Solo
solo top below m = record { stack = top ∷ below; memory = m }

abbrev Goes : (left used done : ℕ) → Runner → List Runner → OwnMemory → List Item → Ran → Type 0
Goes left used done top below m items r =
    verdict_from (r.done + left) used done (solo top below m) items ≡ verdict_from left used (done + r.done) (moved top below m r) items

none : (left used done : ℕ) (top : Runner) (below : List Runner) (m : OwnMemory) (items : List Item) (stop : _) → Goes left used done top below m items (ran top.regs m.bytes 0 stop)
none left used done top below m items stop =
    let sum : 0 + left ≡ left = omega arith in
    let same : done + 0 ≡ done = omega arith in
    rw (sum, same) refl

one : (n used done : ℕ) (top : Runner) (below : List Runner) (m : OwnMemory) (items : List Item) (after : Regs) (now : Bytes)
    → meaning top.regs m.bytes (writable_of m.ranges) ≡ next after now
    → verdict_from (suc n) used done (solo top below m) items ≡ verdict_from n used (done + 1) (solo (record top { regs = after }) below (record m { bytes = now })) items
unfolding verdict_from solo_step
one n used done top below m items after now is =
    let nothing : used + (length items - length items) ≡ used = omega arith in
    ap (λ x. verdict_behind (verdict_from n) used done (length items) (solo_moved top below m items x)) is
    ∙ ap (λ u. verdict_from n u (done + 1) (solo (record top { regs = after }) below (record m { bytes = now })) items) nothing

pub steps : (k left used done : ℕ) (top : Runner) (below : List Runner) (m : OwnMemory) (items : List Item)
    → Goes left used done top below m items (instructions k (writable_of m.ranges) top.regs m.bytes)
unfolding instructions
steps zero left used done top below m items = none left used done top below m items Next
steps (suc k) left used done top below m items = first (meaning top.regs m.bytes (writable_of m.ranges)) refl (λ d t o. steps k left used d t below o items)
  where
    first : (x : Meaning) → meaning top.regs m.bytes (writable_of m.ranges) ≡ x
        → ((d : ℕ) (t : Runner) (o : OwnMemory) → Goes left used d t below o items (instructions k (writable_of o.ranges) t.regs o.bytes))
        → Goes left used done top below m items (goes_on top.regs m.bytes (λ after now. instructions k (writable_of m.ranges) after now) x)
    first (next after now) is more =
        let t : Runner = record top { regs = after } in
        let o : OwnMemory = record m { bytes = now } in
        let r : Ran = instructions k (writable_of m.ranges) after now in
        let begin : r.done + 1 + left ≡ suc (r.done + left) = omega arith in
        let end : done + 1 + r.done ≡ done + (r.done + 1) = omega arith in
        ap (λ n. verdict_from n used done (solo top below m) items) begin
        ∙ one (r.done + left) used done top below m items after now is
        ∙ more (done + 1) t o
        ∙ ap (λ d. verdict_from left used d (moved top below m r) items) end
    first call is more = none left used done top below m items Call
    first (trap signal) is more = none left used done top below m items (Trap signal)
    first (refused access) is more = none left used done top below m items (Refused access)
