-- Out of reach of its own bytes an access strays, and out of memory it ends its process.
use Rattle.std.proofs.Common.{◌≡◌, Ok, ap}
use Rattle.byte_words.specs.declared.access.Access.{Access}
use Rattle.kept_parts.specs.declared.served.Served.TheVariants.{Stray, Ended}
use Rattle.kept_parts.specs.InMemory.{physical_of}
use Rattle.memory_world.specs.Physical.{died_in, outside}
use Rattle.syscall_layer.specs.Parts.{RunParts}
use Rattle.flat_machine.specs.declared.turn.After.TheVariants.{Strays}
use Rattle.flat_machine.proofs.EventsIn.{dies_not, ended_turn}
use Rattle.flat_machine.proofs.turn.refused.Goals as goal

-- ---- it ended its process

pub returns-in_default-clause-strays : goal.returns-in_default-clause-strays
returns-in_default-clause-strays c quiet =
    let strays : Ok c.in_ok-served.served ≡ Ok (Stray c.args.access) = (c.in_ok-served.ensures.strays quiet).0 in
    let same : c.in_ok-served.served ≡ Stray c.args.access = cc in
    absurd (c.in_default.not-Stray c.args.access same)

pub returns-in_default-clause-memory : goal.returns-in_default-clause-memory
returns-in_default-clause-memory c was headers a =
    ended_turn headers a c.args.parts.now.kept c.beyond_reach.new.self.kept c.args.pid (died_in (physical_of headers a c.args.parts.now.kept) c.args.pid outside) c.in_ok-served.served
    (c.in_ok-served.ensures.ends was) (c.in_ok-served.ensures.memory was headers a)

-- ---- it strays

pub returns-clause-strays : goal.returns-clause-strays
returns-clause-strays c quiet =
    let strays = c.in_ok-served.ensures.strays quiet in
    let same : Ok c.in_ok-served.served ≡ Ok (Stray c.args.access) = strays.0 in
    let at : c.in_ok-served.served ≡ Stray c.in-Stray.access = c.in-Stray.is in
    let access : c.in-Stray.access ≡ c.args.access = cc in
    (ap (λ (x : Access). Ok (Strays x)) access, strays.1)

pub returns-clause-memory : goal.returns-clause-memory
returns-clause-memory c was =
    let ends : c.in_ok-served.served ≡ Ended = c.in_ok-served.ensures.ends was in
    let at : c.in_ok-served.served ≡ Stray c.in-Stray.access = c.in-Stray.is in
    absurd cc

-- ---- out of memory

pub returns-in_err-served-clause-strays : goal.returns-in_err-served-clause-strays
returns-in_err-served-clause-strays c quiet =
    let strays = (c.in_err-served.ensures.strays quiet).0 in
    absurd cc

pub returns-in_err-served-clause-memory : goal.returns-in_err-served-clause-memory
returns-in_err-served-clause-memory c was headers a =
    dies_not headers a c.args.parts.now.kept c.beyond_reach.new.self.kept c.args.pid (died_in (physical_of headers a c.args.parts.now.kept) c.args.pid outside) c.from_residual.result c.from_residual.ensures.0
    (ap (λ (p : RunParts). p.kept) c.in_err-served.ensures.unchanged)
