-- What the numbers so far give.
use Rattle.std.proofs.Common.{◌≡◌}
use Rattle.manifest_text.specs.Values.{vec_texts}
use Rattle.elf_maker.specs.Demo.{demo_file}
use Rattle.suite_top.specs.Demo.{each_of}
use Rattle.suite_top.proofs.demo_run.demo_files.Given as goal

abbrev pub invariant-loop-before : goal.invariant-loop-before
invariant-loop-before l = vec_texts l.files.items ≡ each_of demo_file l.before
