-- The count rises in the space that is recorded, and in no other one.
use Rattle.std.proofs.Common.{rules, ◌≡◌, ℕ, ◌+◌, Bool, true, min, sym, ap, ◌∙◌}
use Rattle.std.specs.Prelude.{if◌then◌else◌}
use Rattle.machine_world.specs.World.{Recording}
use Rattle.machine_world.specs.Recordings.{most_count, is_recorded, raised, raised_in}
use Rattle.recordings.specs.Inside.{recorded}
use Rattle.recordings.proofs.Raised.{raised_is}
use Rattle.recordings.proofs.recording.Recording.pass.Goals as goal

raised_when : (r : Recording) (space n : ℕ) (b : Bool) → is_recorded r space ≡ b → raised_in r space n ≡ raised (if b then n else 0) r.events
raised_when r space n b is = ap (λ (t : Bool). raised (if t then n else 0) r.events) is

pub returns-then-has : goal.returns-then-has
returns-then-has c =
    let count : c.saturating_add-self-inside.result ≡ min (c.self.inside.events + c.args.events) most_count = search rules in
    let rises : raised_in (recorded c.self.inside) c.args.space c.args.events ≡ raised c.args.events c.self.inside.events =
    raised_when (recorded c.self.inside) c.args.space c.args.events true (search rules) in
    let is : raised c.args.events c.self.inside.events ≡ c.saturating_add-self-inside.result = raised_is c.args.events c.self.inside.events (search rules) ∙ sym count in
    (λ i. record (recorded c.self.inside) { events = sym (rises ∙ is) i }) ∙ (λ i. record (c.self.view_is i) { events = raised_in (c.self.view_is i) c.args.space c.args.events })
