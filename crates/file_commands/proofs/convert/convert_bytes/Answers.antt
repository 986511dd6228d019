-- The flat file is stored, or the refusal is written.
use Rattle.file_commands.proofs.Conversions.{convert_accepts, convert_refuses}
use Rattle.file_commands.proofs.convert.convert_bytes.Goals as goal

pub returns-in-Ok : goal.returns-in-Ok
returns-in-Ok g c =
    convert_accepts c.args.bytes.items c.args.stack _ c.in-Ok.ensures.0 c.in-Ok.ensures.1 _ _ _ c.args.flt.now c.store_flat.ensures

pub returns-in-Err : goal.returns-in-Err
returns-in-Err g c =
    convert_refuses c.args.bytes.items c.in-Err.refusal _ c.in-Err.ensures c.refuse.ensures.ending c.refuse.ensures.memory _ c.args.flt.now c.args.stack
