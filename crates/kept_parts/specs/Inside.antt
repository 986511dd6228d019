-- The fields of `KeptParts` as what is kept.
use Rattle.kept_parts.specs.declared.kept.KeptParts.TheInside.{Inside}
use Rattle.kept_parts.specs.Kept.{Kept}

abbrev pub kept_of : Inside → Kept
kept_of p = record {
  mem = p.mem;
  regions = p.regions.regions;
  starts = p.regions.starts;
  spaces = p.spaces.items;
  tree = p.tree;
  files = p.files.open_files;
  procs = p.procs;
  notes = p.log.notes;
  console = p.console.items;
  recording = p.recording;
}
