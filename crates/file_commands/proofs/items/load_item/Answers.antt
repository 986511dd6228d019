-- A folder has no file, and the file of another line is loaded.
use Rattle.std.proofs.Common.{sym, ◌∙◌}
use Rattle.manifest_text.specs.Values.{item_value}
use Rattle.file_commands.proofs.LoadedItems.{no_file, loads_item}
use Rattle.file_commands.proofs.items.load_item.Goals as goal

pub returns-then-not-has_file : goal.returns-then-not-has_file
returns-then-not-has_file g c = rw c.new.ensures.items (no_file _ (item_value c.args.item.now) c.args.left (sym c.has_file.ensures ∙ c.if-not-has_file.true))

pub returns : goal.returns
returns g c =
    let loads = rw (c.load_limit-limit.ensures, c.name_of.ensures) at c.load_limited.ensures in
    loads_item _ _ (item_value c.args.item.now) c.args.left _ (sym c.has_file.ensures ∙ c.if-not-has_file.false) loads
