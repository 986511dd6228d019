-- Which way the call goes, and what comes of it.
use Rattle.std.proofs.Common.{rules, ◌≡◌, ◌<◌, ◌≤◌, arith, true, false, length, Some, None, refl, sym, ap, subst, ◌∙◌}
use Rattle.std.specs.Prelude.{slice_get, slice_index}
use Rattle.call_log.specs.Errno.{refusal}
use Rattle.std.proofs.lemmas.Option.{slice_get_past, slice_get_read}
use Rattle.std.proofs.lemmas.Result.{IfOk-weaker}
use Rattle.std.proofs.lemmas.Bool.Decides.{nat_tests}
use Rattle.mem_files.specs.Paths.{lookup}
use Rattle.call_log.specs.declared.errno.Errno.TheVariants.{Eacces, E2big, Enametoolong}
use Rattle.call_log.specs.Sent.{has_zero}
use Rattle.call_log.specs.Strings.{ProgramStrings, before_zero, program_strings}
use Rattle.flat_loader.specs.Frame.{texts}
use Rattle.kept_parts.specs.declared.served.Served.{Served}
use Rattle.kept_parts.specs.Kept.{Kept}
use Rattle.kept_parts.specs.Serves.{Tells}
use Rattle.kept_parts.specs.Families.{mark_at}
use Rattle.kept_parts.specs.InMemory.{headers_of}
use Rattle.kept_parts.proofs.Execs.Ways.{no_path, no_strings, no_program, no_flat, runs_flat, by_outcome, by_refusal, exec_full}
use Rattle.kept_parts.proofs.Execs.Memory.{full_in, header_listed, by_outcome_in, by_refusal_in}
use Rattle.syscall_layer.proofs.family.answer_exec.Given.{Over}
use Rattle.syscall_layer.proofs.family.answer_exec.Goals.{After-program_strings, After-program_at}
use Rattle.syscall_layer.proofs.family.answer_exec.Goals as goal

pub returns-in_default-clause-serves : goal.returns-in_default-clause-serves
returns-in_default-clause-serves g c = λ a kind flats caller.
    let none : has_zero c.args.call.sent.items ≡ false = ap has_zero (sym c.deref.ensures.value) ∙ c.in_default.ensures in
    by_refusal a c.args.parts.now caller.entry caller.held c.args.call caller.stands c.refuse.new.parts c.refuse.result Enametoolong (refusal Enametoolong) refl
    (no_path a c.args.parts.now caller.entry caller.held c.args.call caller.stands none) (c.refuse.ensures.serves a caller)

zero_there : (g : Over) (c : After-program_strings g) → has_zero c.args.call.sent.items ≡ true
zero_there g c = ap has_zero (sym c.deref.ensures.value) ∙ c.in-Some.ensures.0

pub returns-in_default-2-clause-serves : goal.returns-in_default-2-clause-serves
returns-in_default-2-clause-serves g c = λ a kind flats caller.
    let at = (goal.at.returns-in_default-2-clause-serves g c).After-program_strings in
    let call = c.args.call in
    let none : None ≡ program_strings call.sent.items (slice_index call.args 1) (slice_index call.args 2) = search rules in
    by_refusal a c.args.parts.now caller.entry caller.held call caller.stands c.refuse-in_default-2.new.parts c.refuse-in_default-2.result E2big (refusal E2big) refl
    (no_strings a c.args.parts.now caller.entry caller.held call caller.stands (zero_there g at) none) (c.refuse-in_default-2.ensures.serves a caller)

-- ---- with its strings

abbrev strings : (g : Over) → After-program_at g → ProgramStrings
strings g c = record { args = texts c.in-Some-2.strings.args.items; env = texts c.in-Some-2.strings.env.items }

strings_are : (g : Over) (c : After-program_at g) → Some (strings g c) ≡ program_strings c.args.call.sent.items (slice_index c.args.call.args 1) (slice_index c.args.call.args 2)
strings_are g c = search rules

path_is : (g : Over) (c : After-program_at g) → c.in-Some.path.now ≡ before_zero c.args.call.sent.items
path_is g c = c.in-Some.ensures.1 ∙ ap before_zero c.deref.ensures.value

marked : (g : Over) (c : After-program_at g) → c.program_at.result ≡ mark_at c.args.parts.now.tree (lookup c.args.parts.now.tree c.in-Some.path.now)
marked g c = c.program_at.ensures ∙ ap (λ (k : Kept). mark_at k.tree (lookup k.tree c.in-Some.path.now)) c.parts.view_is

pub returns-in-Err-clause-serves : goal.returns-in-Err-clause-serves
returns-in-Err-clause-serves g c = λ a kind flats caller.
    let at = (goal.at.returns-in-Err-clause-serves g c).After-program_at in
    let zero = zero_there g (goal.at.returns-in-Err-clause-serves g c).After-program_strings in
    let k = c.args.parts.now in
    let call = c.args.call in
    by_refusal a k caller.entry caller.held call caller.stands c.refuse-in-Err.new.parts c.refuse-in-Err.result c.in-Err.errno (refusal c.in-Err.errno) refl
    (no_program a k caller.entry caller.held call caller.stands zero (strings g at) (strings_are g at) c.in-Some.path.now (path_is g at) c.in-Err.errno (sym (marked g at) ∙ c.in-Err.is))
    (c.refuse-in-Err.ensures.serves a caller)

pub returns-in_default-get-clause-serves : goal.returns-in_default-get-clause-serves
returns-in_default-get-clause-serves g c = λ a kind flats caller.
    let at = (goal.at.returns-in_default-get-clause-serves g c).After-program_at in
    let zero = zero_there g (goal.at.returns-in_default-get-clause-serves g c).After-program_strings in
    let past : length c.args.programs.now ≤ c.in-Ok.index = let e = c.in_default-get.ensures.lookup.0 in grind (arith, nat_tests, e) in
    let k = c.args.parts.now in
    let call = c.args.call in
    by_refusal a k caller.entry caller.held call caller.stands c.refuse-in_default-get.new.parts c.refuse-in_default-get.result Eacces (refusal Eacces) refl
    (no_flat a k caller.entry caller.held call caller.stands zero (strings g at) (strings_are g at) c.in-Some.path.now (path_is g at) c.in-Ok.index (sym (marked g at) ∙ c.in-Ok.is)
    c.args.programs.now flats (slice_get_past c.args.programs.now c.in-Ok.index past))
    (c.refuse-in_default-get.ensures.serves a caller)

pub returns-then-not-has_room-clause-serves : goal.returns-then-not-has_room-clause-serves
returns-then-not-has_room-clause-serves g c = λ a kind flats caller.
    let k = c.args.parts.now in
    let call = c.args.call in
    exec_full a k caller.entry caller.held call caller.stands caller.runs (sym c.has_room.ensures.room ∙ c.if-not-has_room.true)

pub returns-clause-serves : goal.returns-clause-serves
returns-clause-serves g c = λ a kind flats caller.
    let at = (goal.at.returns-clause-serves g c).After-program_at in
    let zero = zero_there g (goal.at.returns-clause-serves g c).After-program_strings in
    let below : c.in-Ok.index < length c.args.programs.now = let e = c.in-Some-get.ensures.lookup.0 in grind (arith, nat_tests, e) in
    let k = c.args.parts.now in
    let call = c.args.call in
    by_outcome a k caller.entry caller.held call caller.stands c.exec.new.self c.exec.result _
    (runs_flat a k caller.entry caller.held call caller.stands zero (strings g at) (strings_are g at) c.in-Some.path.now (path_is g at) c.in-Ok.index (sym (marked g at) ∙ c.in-Ok.is)
    c.args.programs.now flats c.in-Some-get.flat.now
    (slice_get_read c.args.programs.now (length c.args.programs.now) c.in-Ok.index c.in-Some-get.flat.now refl below c.in-Some-get.ensures.lookup.1))
    (c.exec.ensures.serves a kind caller)

pub returns-in_default-clause-memory : goal.returns-in_default-clause-memory
returns-in_default-clause-memory g c = λ a kind flats caller.
    let none : has_zero c.args.call.sent.items ≡ false = ap has_zero (sym c.deref.ensures.value) ∙ c.in_default.ensures in
    by_refusal_in (headers_of c.args.programs.now) a c.args.parts.now caller.entry caller.held c.args.call c.refuse.new.parts c.refuse.result Enametoolong (refusal Enametoolong) refl
    (no_path a c.args.parts.now caller.entry caller.held c.args.call caller.stands none) c.refuse.ensures.memory (c.refuse.ensures.serves a caller)

pub returns-in_default-2-clause-memory : goal.returns-in_default-2-clause-memory
returns-in_default-2-clause-memory g c = λ a kind flats caller.
    let at = (goal.at.returns-in_default-2-clause-memory g c).After-program_strings in
    let call = c.args.call in
    let none : None ≡ program_strings call.sent.items (slice_index call.args 1) (slice_index call.args 2) = search rules in
    by_refusal_in (headers_of c.args.programs.now) a c.args.parts.now caller.entry caller.held call c.refuse-in_default-2.new.parts c.refuse-in_default-2.result E2big (refusal E2big) refl
    (no_strings a c.args.parts.now caller.entry caller.held call caller.stands (zero_there g at) none) c.refuse-in_default-2.ensures.memory (c.refuse-in_default-2.ensures.serves a caller)

pub returns-in-Err-clause-memory : goal.returns-in-Err-clause-memory
returns-in-Err-clause-memory g c = λ a kind flats caller.
    let at = (goal.at.returns-in-Err-clause-memory g c).After-program_at in
    let zero = zero_there g (goal.at.returns-in-Err-clause-memory g c).After-program_strings in
    let k = c.args.parts.now in
    let call = c.args.call in
    by_refusal_in (headers_of c.args.programs.now) a k caller.entry caller.held call c.refuse-in-Err.new.parts c.refuse-in-Err.result c.in-Err.errno (refusal c.in-Err.errno) refl
    (no_program a k caller.entry caller.held call caller.stands zero (strings g at) (strings_are g at) c.in-Some.path.now (path_is g at) c.in-Err.errno (sym (marked g at) ∙ c.in-Err.is))
    c.refuse-in-Err.ensures.memory (c.refuse-in-Err.ensures.serves a caller)

pub returns-in_default-get-clause-memory : goal.returns-in_default-get-clause-memory
returns-in_default-get-clause-memory g c = λ a kind flats caller.
    let at = (goal.at.returns-in_default-get-clause-memory g c).After-program_at in
    let zero = zero_there g (goal.at.returns-in_default-get-clause-memory g c).After-program_strings in
    let past : length c.args.programs.now ≤ c.in-Ok.index = let e = c.in_default-get.ensures.lookup.0 in grind (arith, nat_tests, e) in
    let k = c.args.parts.now in
    let call = c.args.call in
    by_refusal_in (headers_of c.args.programs.now) a k caller.entry caller.held call c.refuse-in_default-get.new.parts c.refuse-in_default-get.result Eacces (refusal Eacces) refl
    (no_flat a k caller.entry caller.held call caller.stands zero (strings g at) (strings_are g at) c.in-Some.path.now (path_is g at) c.in-Ok.index (sym (marked g at) ∙ c.in-Ok.is)
    c.args.programs.now flats (slice_get_past c.args.programs.now c.in-Ok.index past))
    c.refuse-in_default-get.ensures.memory (c.refuse-in_default-get.ensures.serves a caller)

pub returns-then-not-has_room-clause-memory : goal.returns-then-not-has_room-clause-memory
returns-then-not-has_room-clause-memory g c = λ a kind flats caller.
    let k = c.args.parts.now in
    let call = c.args.call in
    full_in (headers_of c.args.programs.now) a k call.pid _
    (exec_full a k caller.entry caller.held call caller.stands caller.runs (sym c.has_room.ensures.room ∙ c.if-not-has_room.true))

pub returns-clause-memory : goal.returns-clause-memory
returns-clause-memory g c = λ a kind flats caller.
    let at = (goal.at.returns-clause-memory g c).After-program_at in
    let zero = zero_there g (goal.at.returns-clause-memory g c).After-program_strings in
    let programs = c.args.programs.now in
    let index = c.in-Ok.index in
    let flat = c.in-Some-get.flat.now in
    let below : index < length programs = let e = c.in-Some-get.ensures.lookup.0 in grind (arith, nat_tests, e) in
    let there : slice_get programs index ≡ Some flat = slice_get_read programs (length programs) index flat refl below c.in-Some-get.ensures.lookup.1 in
    let k = c.args.parts.now in
    let call = c.args.call in
    by_outcome_in (headers_of programs) a k caller.entry caller.held call c.exec.new.self c.exec.result _
    (runs_flat a k caller.entry caller.held call caller.stands zero (strings g at) (strings_are g at) c.in-Some.path.now (path_is g at) index (sym (marked g at) ∙ c.in-Ok.is) programs flats flat there)
    (c.exec.ensures.memory (headers_of programs) a kind (header_listed programs index flat there) caller)

-- ---- what each answer leaves

pub returns-in_default-clause-leaves : goal.returns-in_default-clause-leaves
returns-in_default-clause-leaves g c = c.refuse.ensures.leaves c.requires.ready

pub returns-in_default-2-clause-leaves : goal.returns-in_default-2-clause-leaves
returns-in_default-2-clause-leaves g c = c.refuse-in_default-2.ensures.leaves c.requires.ready

pub returns-in-Err-clause-leaves : goal.returns-in-Err-clause-leaves
returns-in-Err-clause-leaves g c = c.refuse-in-Err.ensures.leaves c.requires.ready

pub returns-in_default-get-clause-leaves : goal.returns-in_default-get-clause-leaves
returns-in_default-get-clause-leaves g c = c.refuse-in_default-get.ensures.leaves c.requires.ready

pub returns-clause-leaves : goal.returns-clause-leaves
returns-clause-leaves g c =
    IfOk-weaker c.exec.result _ _ (λ (served : Served) is. subst (λ (s : Served). Tells c.args.parts.now c.exec.new.self c.args.call.pid s) (sym is) tt) c.exec.ensures.replied
