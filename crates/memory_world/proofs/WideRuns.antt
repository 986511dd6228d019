-- Several instructions over a part of memory, and over all of it; and the bytes that a call writes.
use Rattle.std.proofs.Common.{◌≡◌, ℕ, zero, suc, ◌+◌, ◌^◌, Bool, true, false, List, [], ◌∷◌, length, arith, refl, ap, subst, ◌∙◌}
use Rattle.std.specs.Prelude.{◌&&◌, nat_le, if◌then◌else◌, Ok, Err}
use Rattle.std.proofs.lemmas.Bool.Decides.{nat_tests}
use Rattle.byte_words.specs.ByteMap.{Bytes, with_byte, with_bytes}
use Rattle.rv32im_step.specs.declared.regs.Regs.{Regs}
use Rattle.rv32im_step.specs.declared.stop.Stop.{Stop}
use Rattle.rv32im_step.specs.declared.stop.Stop.TheVariants.{Next, Call, Trap, Refused}
use Rattle.rv32im_step.specs.Meaning.{Meaning, next, call, trap, refused, meaning}
use Rattle.mmap_rules.specs.Space.{all_pass, may_use}
use Rattle.region_watch.specs.Private.{only}
use Rattle.region_watch.specs.Instructions.{Ran, one_more, goes_on, instructions}
use Rattle.region_watch.proofs.Maps.{with_bytes-only}
use Rattle.call_log.specs.Notes.{GotRange}
use Rattle.flat_loader.specs.Alone.{put_got}
use Rattle.memory_world.specs.Wider.{IsWithin, Grows, Widens, RanWider, PutWider}
use Rattle.memory_world.proofs.Widened.{wide_meaning}

untouched : (own may : ℕ → Bool) (mem : Bytes) → Grows own may mem (only own mem) mem
untouched own may mem = record { seen = refl; rest = λ a locked. refl }

grows_on : (own may : ℕ → Bool) (mem mid part all : Bytes) → ((a : ℕ) → may a ≡ false → mid a ≡ mem a) → Grows own may mid part all → Grows own may mem part all
grows_on own may mem mid part all before g = record { seen = g.seen; rest = λ a locked. g.rest a locked ∙ before a locked }

-- ---- instructions

one_more_wide : (own may : ℕ → Bool) (mem mid : Bytes) (small large : Ran) (stop : Stop) → ((a : ℕ) → may a ≡ false → mid a ≡ mem a)
    → RanWider own may mid small large stop → RanWider own may mem (one_more small) (one_more large) stop
one_more_wide own may mem mid small large Next before (regs, done, stop, g) = (regs, ap (λ n. n + 1) done, stop, grows_on own may mem mid small.bytes large.bytes before g)
one_more_wide own may mem mid small large Call before (regs, done, stop, g) = (regs, ap (λ n. n + 1) done, stop, grows_on own may mem mid small.bytes large.bytes before g)
one_more_wide own may mem mid small large (Trap signal) before (regs, done, stop, g) = (regs, ap (λ n. n + 1) done, stop, grows_on own may mem mid small.bytes large.bytes before g)
one_more_wide own may mem mid small large (Refused access) before wide = tt

pub wide_run : (n : ℕ) (own may wide : ℕ → Bool) (regs : Regs) (mem : Bytes) → IsWithin own may → IsWithin wide may
    → RanWider own may mem (instructions n may regs (only own mem)) (instructions n wide regs mem) (instructions n may regs (only own mem)).stop
unfolding instructions
wide_run zero own may wide regs mem within inside = (refl, refl, refl, untouched own may mem)
wide_run (suc n) own may wide regs mem within inside =
    stepped (meaning regs (only own mem) may) (meaning regs mem wide) (wide_meaning own may wide regs mem within inside) (λ after all. wide_run n own may wide after all within inside)
  where
    stepped : (small large : Meaning) → Widens own may mem small large
        → ((after : Regs) (all : Bytes) → RanWider own may all (instructions n may after (only own all)) (instructions n wide after all) (instructions n may after (only own all)).stop)
        → RanWider own may mem (goes_on regs (only own mem) (λ after now. instructions n may after now) small) (goes_on regs mem (λ after now. instructions n wide after now) large) (goes_on regs (only own mem) (λ after now. instructions n may after now) small).stop
    stepped (next after part) (next there all) (same, g) more =
        rw (same, ← g.seen) (one_more_wide own may mem all (instructions n may after (only own all)) (instructions n wide after all) (instructions n may after (only own all)).stop g.rest (more after all))
    stepped call call is more = (refl, refl, refl, untouched own may mem)
    stepped (trap signal) (trap other) is more = (refl, refl, ap Trap is, untouched own may mem)
    stepped (refused access) large is more = tt
    stepped (next after part) call is more = absurd is
    stepped (next after part) (trap signal) is more = absurd is
    stepped (next after part) (refused access) is more = absurd is
    stepped call (next after all) is more = absurd is
    stepped call (trap signal) is more = absurd is
    stepped call (refused access) is more = absurd is
    stepped (trap signal) (next after all) is more = absurd is
    stepped (trap signal) call is more = absurd is
    stepped (trap signal) (refused access) is more = absurd is

-- ---- bytes that a call writes

both : (a b : Bool) → (a && b) ≡ true → (a ≡ true) × (b ≡ true)
both true true is = (refl, refl)
both true false is = absurd (cc)
both false b is = absurd (cc)

pass_within : (own may : ℕ → Bool) (a len : ℕ) → IsWithin own may → all_pass may a len ≡ true → all_pass own a len ≡ true
pass_within own may a zero within is = refl
pass_within own may a (suc len) within is =
    let parts = both (may a) (all_pass may (a + 1) len) is in
    rw (within a parts.0, pass_within own may (a + 1) len within parts.1) refl

locked_byte : (may : ℕ → Bool) (mem now : Bytes) (a b i : ℕ) → may a ≡ true → may i ≡ false → now i ≡ mem i → with_byte now a b i ≡ mem i
locked_byte may mem now a b i may_a locked before = grind (arith, nat_tests)

locked : (may : ℕ → Bool) (mem : Bytes) (a : ℕ) (bs : List ℕ) (i : ℕ) → all_pass may a (length bs) ≡ true → may i ≡ false → with_bytes mem a bs i ≡ mem i
locked may mem a [] i pass is = refl
locked may mem a (b ∷ bs) i pass is =
    let parts = both (may a) (all_pass may (a + 1) (length bs)) pass in
    locked_byte may mem (with_bytes mem (a + 1) bs) a b i parts.0 is (locked may mem (a + 1) bs i parts.1 is)

ok_same : (wide : ℕ → Bool) (x y : Bytes) → put_got x wide [] ≡ Ok y → x ≡ y
ok_same wide x y is = cc

pub wide_put : (own may wide : ℕ → Bool) (mem part : Bytes) (got : List GotRange) → IsWithin own may → IsWithin wide may
    → put_got (only own mem) may got ≡ Ok part → PutWider own may wide mem part got
unfolding may_use
wide_put own may wide mem part [] within inside is = record { all = mem; put = refl; grows = subst (λ (p : Bytes). Grows own may mem p mem) (ok_same may (only own mem) part is) (untouched own may mem) }
wide_put own may wide mem part (g ∷ gs) within inside is =
    tested (nat_le (g.addr + length g.bytes) (2 ^ 32)) (all_pass may g.addr (length g.bytes)) refl refl is (λ now is. wide_put own may wide now part gs within inside is)
  where
    tested : (fits pass : Bool) → nat_le (g.addr + length g.bytes) (2 ^ 32) ≡ fits → all_pass may g.addr (length g.bytes) ≡ pass
        → (if fits && pass then put_got (with_bytes (only own mem) g.addr g.bytes) may gs else Err (record { addr = g.addr; len = length g.bytes })) ≡ Ok part
        → ((now : Bytes) → put_got (only own now) may gs ≡ Ok part → PutWider own may wide now part gs) → PutWider own may wide mem part (g ∷ gs)
    tested true true fits pass is more =
        let now : Bytes = with_bytes mem g.addr g.bytes in
        let cut : only own now ≡ with_bytes (only own mem) g.addr g.bytes = with_bytes-only own mem g.addr g.bytes (pass_within own may g.addr (length g.bytes) within pass) in
        let rest = more now (ap (λ (m : Bytes). put_got m may gs) cut ∙ is) in
        record {
          all = rest.all;
          put = rw (fits, pass_within wide may g.addr (length g.bytes) inside pass) rest.put;
          grows = grows_on own may mem now part rest.all (λ i is. locked may mem g.addr g.bytes i pass is) rest.grows;
        }
    tested true false fits pass is more = absurd (cc)
    tested false pass fits all is more = absurd (cc)
