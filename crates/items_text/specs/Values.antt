-- The code's items as plain values.
use Rattle.std.specs.Prelude.{map}
use Rattle.call_log.specs.Programs.{paths_of as texts_of}
use Rattle.call_log.specs.Values.{entry_value}
use Rattle.items_text.specs.declared.items.Item.{Item}
use Rattle.items_text.specs.declared.items.Items.{Items}
use Rattle.items_text.specs.Items.{ItemValue, ItemsValue}

abbrev pub item_value : Item → ItemValue
item_value i = record { entry = entry_value i.entry; brought = i.brought.items }

abbrev pub items_value : Items → ItemsValue
items_value i = record {
  stack = i.stack;
  base = i.base;
  pid = i.pid;
  events = i.events;
  args = texts_of i.args.items;
  env = texts_of i.env.items;
  list = map item_value i.list.items;
}
