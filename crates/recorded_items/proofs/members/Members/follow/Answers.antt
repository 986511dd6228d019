-- One note more, by its kind.
use Rattle.std.proofs.Common.{ap, sym, subst, ◌∙◌}
use Rattle.std.specs.Prelude.{◌==◌}
use Rattle.call_log.specs.Values.{entry_value, note_value}
use Rattle.recorded_items.specs.Members.{Puts}
use Rattle.recorded_items.proofs.Homes.{after_load, after_fork, after_call, after_end, after_stray, becomes}
use Rattle.recorded_items.proofs.members.Members.follow.Goals as goal

pub returns-in_ok-put-in-Load : goal.returns-in_ok-put-in-Load
returns-in_ok-put-in-Load c = λ space notes f.
    let m = c.args.self.now in
    let now = c.put.new.pids in
    let put = subst (λ from. Puts c.in-Load.pid (m.loads == from) m.pids now) c.from.ensures c.in_ok-put-in-Load.ensures in
    becomes (ap note_value c.in-Load.is) (after_load space m.space m.loads m.pids notes f (record { pid = c.in-Load.pid; program = c.in-Load.program; base = c.in-Load.base; pages = c.in-Load.pages }) now put)

pub returns-in_ok-put-in-Call : goal.returns-in_ok-put-in-Call
returns-in_ok-put-in-Call c = λ space notes f.
    let m = c.args.self.now in
    let e = entry_value c.in-Call.entry in
    let now = c.put-then-forks.new.pids in
    let put = subst (λ inside. Puts e.reply inside m.pids now) c.has-inside.ensures c.in_ok-put-in-Call.ensures in
    becomes (ap note_value c.in-Call.is) (after_fork space m.space m.loads m.pids notes f e now (sym c.forks.ensures ∙ c.if-forks.true) put)

pub returns-else-forks : goal.returns-else-forks
returns-else-forks c = λ space notes f.
    let m = c.args.self.now in
    becomes (ap note_value c.in-Call.is) (after_call space m.space m.loads m.pids notes f (entry_value c.in-Call.entry) (sym c.forks.ensures ∙ c.if-forks.false))

pub returns-in-End : goal.returns-in-End
returns-in-End c = λ space notes f.
    let m = c.args.self.now in
    becomes (ap note_value c.in-End.is) (after_end space m.space m.loads m.pids notes f c.in-End.pid c.in-End.how)

pub returns-in-Stray : goal.returns-in-Stray
returns-in-Stray c = λ space notes f.
    let m = c.args.self.now in
    becomes (ap note_value c.in-Stray.is) (after_stray space m.space m.loads m.pids notes f c.in-Stray.pid c.in-Stray.access)
