-- One load after the other.
use Rattle.std.proofs.lemmas.List.{length-map, map-append}
use Rattle.std.proofs.lemmas.Result.{err_from_is_err_and}
use Rattle.manifest_text.specs.Values.{item_value}
use Rattle.manifest_text.specs.Laws.{IsItem}
use Rattle.run_setup.proofs.Opened.{opened, each_at}
use Rattle.file_commands.proofs.LoadedItems.{no_loads, loads_more, ends_within, runs_out_within, all_loaded}
use Rattle.file_commands.proofs.items.load_items.Goals as goal

pub loop-item-init : goal.loop-item-init
loop-item-init g c = rw c.new-files.ensures.items (no_loads _ _)

pub load_item-requires : goal.load_item-requires
load_item-requires g c = each_at IsItem item_value _ _ _ c.loop-item-test.true c.item-item.is c.requires

pub returns-in_err-push : goal.returns-in_err-push
returns-in_err-push g c =
    let p = err_from_is_err_and c.from_residual-in_err-push.result c.from_residual-in_err-push.ensures.1 in
    let so_far = c.loop-item.invariant in
    rw (p.1, p.2)
    (runs_out_within _ _ _ _ _ _ (loads_more _ _ _ _ _ _ so_far (item_value c.item-item.result) (opened item_value _ _ _ c.loop-item-test.true c.item-item.is) _ _ c.in_ok-bytes.ensures))

pub returns-in_err-bytes : goal.returns-in_err-bytes
returns-in_err-bytes g c =
    let p = err_from_is_err_and c.from_residual.result c.from_residual.ensures.1 in
    rw (p.1, p.2)
    (ends_within _ _ _ _ _ _ c.loop-item.invariant (item_value c.item-item.result) (opened item_value _ _ _ c.loop-item-test.true c.item-item.is) _ _ c.in_err-bytes.ensures)

pub loop-item-preserved : goal.loop-item-preserved
loop-item-preserved g c =
    let so_far = c.loop-item.invariant in
    let more = loads_more _ _ _ _ _ _ so_far (item_value c.item-item.result) (opened item_value _ _ _ c.loop-item-test.true c.item-item.is) _ _ c.in_ok-bytes.ensures in
    rw (c.in_ok-push.ensures.items, map-append, c.len.ensures, c.in_ok-bytes.bytes.ok.0) more

pub returns : goal.returns
returns g c = all_loaded _ _ _ _ _ _ c.loop-item.invariant (rw (length-map c.args.items.now item_value) c.loop-item-test.false) (rw (length-map c.args.items.now item_value) c.loop-item.auto.item-index-end)
