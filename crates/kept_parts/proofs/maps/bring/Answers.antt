-- What was brought is little, and a mapping brings less than fits.
use Rattle.std.proofs.Common.{length, arith}
use Rattle.recordings.proofs.Weights.{beside}
use Rattle.kept_parts.proofs.maps.bring.Goals as goal

pub bring-requires : goal.bring-requires
bring-requires c =
    let few = c.in_ok-file_pages.ensures.few in
    omega (arith, few, c.requires.few, beside c.args.recording.now.brought (length c.in_ok-file_pages.field-0.items))
