use Rattle.std.proofs.Common.{◌+◌, ◌<◌, ◌≤◌, sym, ap, ◌∙◌, map, arith}
use Rattle.flat_loader.specs.Original.{flat_original, block_len}
use Rattle.flat_loader.specs.Frame.{texts, frame_fits}
use Rattle.flat_loader.specs.Begin.{flat_loading}
use Rattle.flat_loader.specs.Alone.{solo_begin}
use Rattle.items_text.specs.Values.{item_value, items_value}
use Rattle.replay_check.specs.Verdicts.{verdict_from}
use Rattle.replay_check.specs.Solos.{solo_of}
use Rattle.replay_check.specs.Loops.{items_alone}
use Rattle.replay_check.specs.Replays.{memory_end}
use Rattle.replay_check.proofs.Placing.{no_frame, no_place, is_placed}
use Rattle.replay_check.proofs.program.replay_flat.Goals as goal

pub returns-then-not-frame_fits : goal.returns-then-not-frame_fits
returns-then-not-frame_fits c =
    no_frame (flat_original c.args.flat.now) (items_value c.args.items.now)
    ((λ i. frame_fits (flat_original c.args.flat.now) (texts (sym c.deref.ensures.value i)) (texts (sym c.deref-2.ensures.value i))) ∙ sym c.frame_fits.ensures ∙ c.if-not-frame_fits.true)

pub returns-then-from-gt-MEMORY_END : goal.returns-then-from-gt-MEMORY_END
returns-then-from-gt-MEMORY_END c =
    let past : memory_end < c.args.items.now.base + block_len (flat_original c.args.flat.now) = (let test = c.if-from-gt-MEMORY_END.true in let base = c.from.ensures in let len = c.from-2.ensures in let value = c.block_len.ensures.value in omega (arith, test, base, len, value)) in
    no_place (flat_original c.args.flat.now) (items_value c.args.items.now)
    ((λ i. frame_fits (flat_original c.args.flat.now) (texts (sym c.deref.ensures.value i)) (texts (sym c.deref-2.ensures.value i))) ∙ sym c.frame_fits.ensures ∙ c.if-not-frame_fits.false) past

pub returns : goal.returns
returns c =
    let within : c.args.items.now.base + block_len (flat_original c.args.flat.now) ≤ memory_end = (let test = c.if-from-gt-MEMORY_END.false in let base = c.from.ensures in let len = c.from-2.ensures in let value = c.block_len.ensures.value in omega (arith, test, base, len, value)) in
    is_placed (flat_original c.args.flat.now) (items_value c.args.items.now)
    ((λ i. frame_fits (flat_original c.args.flat.now) (texts (sym c.deref.ensures.value i)) (texts (sym c.deref-2.ensures.value i))) ∙ sym c.frame_fits.ensures ∙ c.if-not-frame_fits.false) within
    c.in_ok-replay_all.field-0 (solo_of c.in_ok-lone.lone)
    (c.in_ok-replay_all.ensures ∙ ap (λ xs. verdict_from c.args.items.now.events 0 0 (solo_of c.in_ok-lone.lone) (items_alone (map item_value xs))) c.deref-5.ensures.value)
    (c.in_ok-lone.ensures ∙ (λ i. solo_begin (flat_loading c.args.flat.now c.args.items.now.base (texts (c.deref-3.ensures.value i)) (texts (c.deref-4.ensures.value i))) c.args.items.now.pid))
