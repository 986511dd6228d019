-- A manifest that is read has bounded numbers.
use Rattle.manifest_text.proofs.Bounds.{manifests_are_reasonable}
use Rattle.machine_tests.proofs.tests.machine.machine_of.Goals as goal

pub booted-requires : goal.booted-requires
booted-requires c = manifests_are_reasonable _ _ c.in-Ok.ensures
