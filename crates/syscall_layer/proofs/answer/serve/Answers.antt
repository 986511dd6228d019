-- Within reach, or with its range noted.
use Rattle.std.proofs.Common.{◌≡◌, refl, sym, ap, subst, rules, ◌∙◌}
use Rattle.std.specs.Prelude.{Ok, IfOk, OnErr}
use Rattle.std.proofs.lemmas.Result.{on_ok_weaker}
use Rattle.page_runs.specs.Choosers.{kind_of}
use Rattle.memory_world.specs.Physical.{called_in}
use Rattle.kept_parts.specs.InMemory.{headers_of, physical_of, InReach}
use Rattle.kept_parts.specs.Reach.{is_whole}
use Rattle.region_watch.specs.declared.mode.Mode.{Mode}
use Rattle.kept_parts.proofs.Copies.BehindStrays.{unstrayed_holds}
use Rattle.kept_parts.specs.Kept.{Kept}
use Rattle.syscall_layer.specs.Inside.{parts_of}
use Rattle.syscall_layer.specs.Parts.{RunParts, noted_by}
use Rattle.syscall_layer.proofs.CallsKeep.{parts_with}
use Rattle.syscall_layer.specs.ByMode.{LeavesBehind}
use Rattle.syscall_layer.proofs.CallsOn.{serves_unstrayed, notes_unstrayed, serves_first, strays_by, leaves_behind, goes_on_behind}
use Rattle.syscall_layer.proofs.answer.serve.Given.{Over}
use Rattle.syscall_layer.proofs.answer.serve.Goals as goal

pub returns-in_default : goal.returns-in_default
returns-in_default g c =
    let v = c.parts.view_is in
    let k = c.parts.inside.kept in
    let headers = headers_of c.parts.inside.programs.items in
    let new = c.serve_within.new.parts in
    let gives = rw c.deref.ensures.value at c.in_ok-served.ensures in
    let own_by = c.call_mode-within.ensures.halts in
    let on = c.call_mode-within.ensures.goes_on in
    let strayed = rw (← v) at c.watch_mode.ensures.strayed in
    rw (← v) (record {
      keeps = record { programs = refl; mode = refl; noted = c.parts.invariant.noted ∙ sym gives.keeps.notes };
      halts = λ halt. record {
        serves = λ a kind flats. gives.comes.serves (own_by halt) a kind flats;
        within = λ a kind flats.
            subst (λ (mode : Mode). InReach mode headers a (called_in (physical_of headers a k) c.args.pid) k new c.args.pid (Ok c.in_ok-served.served)) (own_by halt) (gives.comes.memory a kind flats);
        holds = gives.comes.holds (own_by halt);
        noted = refl;
        stray = λ access is. absurd (c.in_default.not-Stray access (let same : c.in_ok-served.served ≡ _ = cc in same));
      };
      goes_on = λ goes. record {
        memory = λ a kind flats.
            serves_unstrayed headers a k c.args.pid c.call_mode-within.result (strayed ∙ ap is_whole (sym (on goes))) new c.in_ok-served.served c.in_default.not-Stray
            (λ own. gives.comes.serves own a kind flats (unstrayed_holds k (strayed ∙ ap is_whole (sym (on goes) ∙ own)))) (gives.comes.memory a kind flats);
        unnoted = λ is a kind flats.
            notes_unstrayed headers a k c.args.pid c.watch_mode.result strayed new c.in_ok-served.served c.in_default.not-Stray
            (λ own. gives.comes.serves (on goes ∙ own) a kind flats (unstrayed_holds k (strayed ∙ ap is_whole own))) (gives.told.unnoted is);
        first = λ quiet a kind flats.
            serves_first headers a k c.args.pid c.watch_mode.result strayed new c.in_ok-served.served c.in_default.not-Stray
            (λ own. gives.comes.serves (on goes ∙ own) a kind flats (unstrayed_holds k (strayed ∙ ap is_whole own))) quiet;
      };
      unchanged = tt;
      told = record { yields = gives.told.yields; waits = λ is. gives.told.waits is c.parts.invariant.unmarked };
    })

pub returns-in-Halt-clause-halts : goal.returns-in-Halt-clause-halts
returns-in-Halt-clause-halts g c =
    let v = c.parts.view_is in
    let i = c.parts.inside in
    let gives = rw (c.deref.ensures.value, c.in-Stray.is) at c.in_ok-served.ensures in
    let own_by = c.call_mode-within.ensures.halts in
    rw (← v) (λ halt. record {
      serves = λ a kind flats. gives.comes.serves (own_by halt) a kind flats;
      within = λ a kind flats. tt;
      holds = gives.comes.holds (own_by halt);
      noted = refl;
      stray = λ access is. ap (λ (k : Kept). record { kept = k; programs = i.programs.items; mode = i.mode; noted = i.noted }) (gives.told.stray c.in-Stray.access refl);
    })

-- the parts behind the call within reach
abbrev unserved : (g : Over) (c : goal.After-behind_note g) → RunParts
unserved g c = parts_with c.parts.inside.programs.items c.parts.inside.mode c.parts.inside.noted c.serve_within.new.parts

-- what the call leaves behind the note of its range
behind : (g : Over) (c : goal.After-behind_note g)
    → IfOk c.behind_note.result (λ done. LeavesBehind (kind_of c.args.chooser.now) c.args.pid (noted_by c.args.pid c.in-Stray.access (unserved g c)) c.behind_note.new.self c.behind_note.result)
behind g c =
    on_ok_weaker c.behind_note.result (λ gave.
    let left : LeavesBehind (kind_of c.args.chooser.now) c.args.pid gave.parts.now gave.left.0.now c.behind_note.result = search rules in
    leaves_behind (kind_of c.args.chooser.now) c.args.pid c.behind_note.result gave.parts.now gave.left.0.now (noted_by c.args.pid c.in-Stray.access (unserved g c)) c.behind_note.new.self gave.shows.0 gave.leaves.0 left)
    c.behind_note.ensures.gives

pub returns-in-GoOn-clause-goes_on : goal.returns-in-GoOn-clause-goes_on
returns-in-GoOn-clause-goes_on g c =
    let v = c.parts.view_is in
    let k = c.parts.inside.kept in
    let headers = headers_of c.parts.inside.programs.items in
    let gives = rw c.deref.ensures.value at c.in_ok-served.ensures in
    let strayed = rw (← v) at c.watch_mode.ensures.strayed in
    let same : unserved g c ≡ parts_of c.parts.inside = ap (parts_with c.parts.inside.programs.items c.parts.inside.mode c.parts.inside.noted) (gives.told.stray c.in-Stray.access (ap Ok c.in-Stray.is)) in
    rw (← v) (λ goes.
    goes_on_behind (kind_of c.args.chooser.now) c.args.pid c.in-Stray.access (parts_of c.parts.inside) c.behind_note.new.self
    (λ a kind flats.
    strays_by headers a k c.args.pid c.call_mode-within.result (strayed ∙ ap is_whole (sym (c.call_mode-within.ensures.goes_on goes))) c.serve_within.new.parts c.in-Stray.access c.in_ok-served.served c.in-Stray.is
    (λ own quiet. gives.comes.serves own a kind flats (unstrayed_holds k quiet)) (gives.comes.memory a kind flats))
    c.behind_note.result (subst (λ (p : RunParts). OnErr c.behind_note.result (c.behind_note.new.self ≡ p)) same c.behind_note.ensures.unchanged)
    (subst (λ (p : RunParts). IfOk c.behind_note.result (λ done. LeavesBehind (kind_of c.args.chooser.now) c.args.pid (noted_by c.args.pid c.in-Stray.access p) c.behind_note.new.self c.behind_note.result)) same (behind g c)))
