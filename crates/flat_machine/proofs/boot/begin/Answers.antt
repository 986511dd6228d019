-- The start of the program to which the path leads.
use Rattle.std.proofs.Common.{◌<◌, ◌≤◌, length, refl, sym, ap, ◌∙◌, arith}
use Rattle.std.proofs.lemmas.Bool.Decides.{nat_tests}
use Rattle.page_runs.specs.Choosers.{kind_of}
use Rattle.flat_loader.specs.Original.{flat_original}
use Rattle.machine_world.specs.World.{Rest}
use Rattle.machine_world.specs.Boot.{found}
use Rattle.kept_parts.specs.Kept.{Kept}
use Rattle.kept_parts.specs.Stands.{world_of}
use Rattle.flat_machine.specs.State.{line_of, about_boot}
use Rattle.flat_machine.proofs.Found.{rest_tree, rest_programs, program_found, program_past, program_none, path_is, stands_at, none_stands, no_program, program_begins, program_too_big, program_no_run}
use Rattle.kept_parts.specs.InMemory.{headers_of}
use Rattle.flat_machine.proofs.BootedIn.{header_at}
use Rattle.flat_machine.proofs.boot.begin.Goals as goal

pub returns-in_default-clause-begins : goal.returns-in_default-clause-begins
returns-in_default-clause-begins g c =
    let a = about_boot (kind_of c.args.chooser.now) c.args.paths.now c.args.programs.now in
    let k = c.args.parts.now in
    let rest : Rest = (world_of a k).rest in
    let at = path_is c.args.start.now.args.items c.index.result.now c.deref.result.now c.requires.args c.index.ensures c.deref.ensures.value in
    let tree = rest_tree a k c.parts.inside.tree (sym (ap (λ (x : Kept). x.tree) c.parts.view_is)) in
    let none = rw (← tree) at c.in_default.ensures in
    let is = ap (found rest) at ∙ program_none rest c.deref.result.now c.args.paths.now c.args.programs.now c.requires.paths (rest_programs a k) none in
    no_program a k k (line_of c.args.start.now) c.args.start.now.line refl is

pub returns-in_default-get-clause-begins : goal.returns-in_default-get-clause-begins
returns-in_default-get-clause-begins g c =
    let a = about_boot (kind_of c.args.chooser.now) c.args.paths.now c.args.programs.now in
    let k = c.args.parts.now in
    let rest : Rest = (world_of a k).rest in
    let at = path_is c.args.start.now.args.items c.index.result.now c.deref.result.now c.requires.args c.index.ensures c.deref.ensures.value in
    let tree = rest_tree a k c.parts.inside.tree (sym (ap (λ (x : Kept). x.tree) c.parts.view_is)) in
    let marks = rw (← tree) at c.in-Some.ensures in
    let past : length c.args.programs.now ≤ c.in-Some.index = let e = c.in_default-get.ensures.lookup.0 in grind (arith, nat_tests, e) in
    let is = ap (found rest) at ∙ program_past rest c.deref.result.now c.args.paths.now c.args.programs.now c.requires.paths (rest_programs a k) c.in-Some.index marks (none_stands c.args.programs.now c.in-Some.index past) in
    no_program a k k (line_of c.args.start.now) c.args.start.now.line refl is

pub returns-in-Ok-clause-begins : goal.returns-in-Ok-clause-begins
returns-in-Ok-clause-begins g c =
    let a = about_boot (kind_of c.args.chooser.now) c.args.paths.now c.args.programs.now in
    let k = c.args.parts.now in
    let rest : Rest = (world_of a k).rest in
    let at = path_is c.args.start.now.args.items c.index.result.now c.deref.result.now c.requires.args c.index.ensures c.deref.ensures.value in
    let tree = rest_tree a k c.parts.inside.tree (sym (ap (λ (x : Kept). x.tree) c.parts.view_is)) in
    let marks = rw (← tree) at c.in-Some.ensures in
    let flat = c.in-Some-get.flat.now in
    let below : c.in-Some.index < length c.args.programs.now = let e = c.in-Some-get.ensures.lookup.0 in grind (arith, nat_tests, e) in
    let there = stands_at c.args.programs.now c.in-Some.index flat below c.in-Some-get.ensures.lookup.1 in
    let is = ap (found rest) at ∙ program_found rest c.deref.result.now c.args.paths.now c.args.programs.now c.requires.paths (rest_programs a k) c.in-Some.index flat marks there in
    let starts = rw c.deref-2.ensures.value at c.in-Ok.ensures.starts in
    program_begins a k c.start.new.self (line_of c.args.start.now) (record { index = c.in-Some.index; original = flat_original flat }) is c.in-Ok.field-0 (starts.started a (line_of c.args.start.now) refl refl)

pub returns-in-Err-E2big-clause-begins : goal.returns-in-Err-E2big-clause-begins
returns-in-Err-E2big-clause-begins g c =
    let a = about_boot (kind_of c.args.chooser.now) c.args.paths.now c.args.programs.now in
    let k = c.args.parts.now in
    let rest : Rest = (world_of a k).rest in
    let at = path_is c.args.start.now.args.items c.index.result.now c.deref.result.now c.requires.args c.index.ensures c.deref.ensures.value in
    let tree = rest_tree a k c.parts.inside.tree (sym (ap (λ (x : Kept). x.tree) c.parts.view_is)) in
    let marks = rw (← tree) at c.in-Some.ensures in
    let flat = c.in-Some-get.flat.now in
    let below : c.in-Some.index < length c.args.programs.now = let e = c.in-Some-get.ensures.lookup.0 in grind (arith, nat_tests, e) in
    let there = stands_at c.args.programs.now c.in-Some.index flat below c.in-Some-get.ensures.lookup.1 in
    let is = ap (found rest) at ∙ program_found rest c.deref.result.now c.args.paths.now c.args.programs.now c.requires.paths (rest_programs a k) c.in-Some.index flat marks there in
    let starts = rw (c.deref-2.ensures.value, c.in-Err-E2big.field-0-is) at c.in-Err-E2big.ensures.starts in
    program_too_big a k c.start.new.self (line_of c.args.start.now) (record { index = c.in-Some.index; original = flat_original flat }) is (starts.started a (line_of c.args.start.now) refl refl)

pub returns-in-Err-NoRun-clause-begins : goal.returns-in-Err-NoRun-clause-begins
returns-in-Err-NoRun-clause-begins g c =
    let a = about_boot (kind_of c.args.chooser.now) c.args.paths.now c.args.programs.now in
    let k = c.args.parts.now in
    let rest : Rest = (world_of a k).rest in
    let at = path_is c.args.start.now.args.items c.index.result.now c.deref.result.now c.requires.args c.index.ensures c.deref.ensures.value in
    let tree = rest_tree a k c.parts.inside.tree (sym (ap (λ (x : Kept). x.tree) c.parts.view_is)) in
    let marks = rw (← tree) at c.in-Some.ensures in
    let flat = c.in-Some-get.flat.now in
    let below : c.in-Some.index < length c.args.programs.now = let e = c.in-Some-get.ensures.lookup.0 in grind (arith, nat_tests, e) in
    let there = stands_at c.args.programs.now c.in-Some.index flat below c.in-Some-get.ensures.lookup.1 in
    let is = ap (found rest) at ∙ program_found rest c.deref.result.now c.args.paths.now c.args.programs.now c.requires.paths (rest_programs a k) c.in-Some.index flat marks there in
    let starts = rw (c.deref-2.ensures.value, c.in-Err-NoRun.field-0-is) at c.in-Err-NoRun.ensures.starts in
    program_no_run a k c.start.new.self (line_of c.args.start.now) (record { index = c.in-Some.index; original = flat_original flat }) is (starts.started a (line_of c.args.start.now) refl refl)

pub returns-in-Ok-clause-memory : goal.returns-in-Ok-clause-memory
returns-in-Ok-clause-memory g c =
    let flat = c.in-Some-get.flat.now in
    let below : c.in-Some.index < length c.args.programs.now = let e = c.in-Some-get.ensures.lookup.0 in grind (arith, nat_tests, e) in
    let there = stands_at c.args.programs.now c.in-Some.index flat below c.in-Some-get.ensures.lookup.1 in
    c.in-Ok.ensures.memory (headers_of c.args.programs.now) (header_at c.args.programs.now c.in-Some.index flat there)
