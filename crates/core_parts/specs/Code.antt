-- What contracts see of the code's types.
use Rattle.std.specs.Prelude.{ℕ, List, map, reverse, Option, option_map, option_to_list}
use Rattle.core_file.specs.declared.process.Core as code_core
use Rattle.core_file.specs.Text.{SegmentValue}
use Rattle.core_world.specs.Segments.{Interval}
use Rattle.core_parts.specs.declared.bytes.Copied as code_copied
use Rattle.core_parts.specs.declared.interval.Interval as code_interval

abbrev pub interval_value : code_interval.Interval → Interval
interval_value i = record { addr = i.addr; len = i.len; write = i.write }

-- of intervals of which the last one is the lowest, the lowest first
abbrev pub lowest_first : List code_interval.Interval → List Interval
lowest_first is = reverse (map interval_value is)

-- one, or none
abbrev pub listed : Option code_interval.Interval → List Interval
listed i = option_to_list (option_map interval_value i)

abbrev pub copy_value : code_copied.Copied → SegmentValue
copy_value c = record { addr = c.addr; write = c.write; bytes = c.bytes.items }

abbrev pub load_of : code_core.Core → ℕ
load_of c = c.load
