-- The manifest of a demo, computed.
use Rattle.std.proofs.Common.{◌≡◌, [], ◌∷◌, refl}
use Rattle.std.specs.Prelude.{codes}
use Rattle.std.specs.Fmt.{digits}
use Rattle.manifest_text.specs.declared.manifest.ItemKind.TheVariants.{Elf}
use Rattle.suite_top.specs.Demo.{each_of, demo_manifest}

-- the lines by which two programs run
two_programs : demo_manifest 2 ≡ record {
  pages = 128;
  items = record { line = 1; kind = Elf; path = codes "/p1"; name = []; stack = 4096 } ∷ record { line = 2; kind = Elf; path = codes "/p2"; name = []; stack = 4096 } ∷ [];
  starts = record { line = 1; args = codes "/p1" ∷ [] } ∷ record { line = 2; args = codes "/p2" ∷ [] } ∷ [];
  quanta = record { pick = 0; count = 50 } ∷ record { pick = 1; count = 30 } ∷ record { pick = 2; count = 70 } ∷ [];
  repeat = 100000;
  dumps = [];
  watches = [];
}
unfolding digits demo_manifest each_of
two_programs = refl
