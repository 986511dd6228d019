-- What contracts see of the code's types.
use Rattle.std.specs.Prelude.{List, map}
use Rattle.core_file.specs.declared.process.Core as code_core
use Rattle.core_file.specs.declared.process.Segment as code_segment
use Rattle.core_file.specs.Text.{CoreValue, SegmentValue}

abbrev pub segment_value : code_segment.Segment → SegmentValue
segment_value s = record { addr = s.addr; write = s.write; bytes = s.bytes.items }

abbrev pub segment_values : List code_segment.Segment → List SegmentValue
segment_values ss = map segment_value ss

abbrev pub core_value : code_core.Core → CoreValue
core_value c = record { signal = c.signal; pid = c.pid; parent = c.parent; regs = c.regs; segments = segment_values c.segments.items }
