-- A step's accesses are the fetch's and then the instruction's.
use Rattle.std.specs.Prelude.{Ok, Err}
use Rattle.rv32im_step.specs.Parts.{registers}
use Rattle.rv32im_step.proofs.AskedLaws.{meaning_on, asked_on}
use Rattle.rv32im_step.proofs.hart.step_at.Goals as goal

pub returns-in-Ok-Some-clause-means : goal.returns-in-Ok-Some-clause-means
returns-in-Ok-Some-clause-means g c =
    let means = rw (c.instr.ensures.bytes, c.instr.ensures.writable) at c.execute.ensures.means in
    rw (meaning_on (registers c.args.pc.now c.args.x.now) (g.B.Bus.byte c.args.bus.now) (g.B.Bus.writable c.args.bus.now) (Ok c.in-Ok-Some.field-0) c.in-Ok-Some.ensures.answer, c.in-Ok-Some.field-0-is) means

pub returns-in-Ok-Some-clause-did : goal.returns-in-Ok-Some-clause-did
returns-in-Ok-Some-clause-did g c =
    let both = g.met.B.Bus.did_more _ _ _ _ _ c.instr.ensures.did c.execute.ensures.did in
    let here = rw (c.instr.ensures.bytes, c.instr.ensures.writable) at both in
    rw (asked_on (registers c.args.pc.now c.args.x.now) (g.B.Bus.byte c.args.bus.now) (g.B.Bus.writable c.args.bus.now) (Ok c.in-Ok-Some.field-0) c.in-Ok-Some.ensures.answer, c.in-Ok-Some.field-0-is) here

pub returns-in-Ok-None-clause-means : goal.returns-in-Ok-None-clause-means
returns-in-Ok-None-clause-means g c =
    rw (c.instr.ensures.bytes, meaning_on (registers c.args.pc.now c.args.x.now) (g.B.Bus.byte c.args.bus.now) (g.B.Bus.writable c.args.bus.now) (Ok c.in-Ok-None.field-0) c.in-Ok-None.ensures.answer, c.in-Ok-None.field-0-is) search

pub returns-in-Ok-None-clause-did : goal.returns-in-Ok-None-clause-did
returns-in-Ok-None-clause-did g c =
    rw (asked_on (registers c.args.pc.now c.args.x.now) (g.B.Bus.byte c.args.bus.now) (g.B.Bus.writable c.args.bus.now) (Ok c.in-Ok-None.field-0) c.in-Ok-None.ensures.answer, c.in-Ok-None.field-0-is) c.instr.ensures.did

pub returns-in-Err-clause-means : goal.returns-in-Err-clause-means
returns-in-Err-clause-means g c =
    rw (c.instr.ensures.bytes, meaning_on (registers c.args.pc.now c.args.x.now) (g.B.Bus.byte c.args.bus.now) (g.B.Bus.writable c.args.bus.now) (Err c.in-Err.access) c.in-Err.ensures.answer) search

pub returns-in-Err-clause-did : goal.returns-in-Err-clause-did
returns-in-Err-clause-did g c =
    rw (asked_on (registers c.args.pc.now c.args.x.now) (g.B.Bus.byte c.args.bus.now) (g.B.Bus.writable c.args.bus.now) (Err c.in-Err.access) c.in-Err.ensures.answer) c.instr.ensures.did
