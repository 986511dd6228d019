-- The fields of a recording as its value.
use Rattle.std.specs.Prelude.{◌≡◌, option_map}
use Rattle.flat_loader.specs.Frame.{texts}
use Rattle.machine_world.specs.World.{Launch, Recording}
use Rattle.machine_world.specs.Recordings.{with_brought}
use Rattle.recordings.specs.declared.recording.Launch.{Launch as Launched}
use Rattle.recordings.specs.declared.recording.Recording.TheInside.{Inside}

abbrev pub launch_value : Launched → Launch
launch_value l = record { stack = l.stack; base = l.base; pid = l.pid; args = texts l.args.items; env = texts l.env.items }

abbrev pub recorded : Inside → Recording
recorded r = record { keep = r.keep; launch = option_map launch_value r.launch; events = r.events; brought = texts r.brought.items }

-- the sum is that of what was brought
abbrev pub IsWeighed : Inside → Type 0
IsWeighed r = r.weight ≡ with_brought (texts r.brought.items) 0
