-- The command `demo N`: the programs 1 to N of the demo run by turns in one memory, of which each takes two pages.
use Rattle.std.specs.Prelude.{ℕ, zero, suc, List, [], ◌∷◌, ◌++◌, codes, decimal}
use Rattle.quantum_sched.specs.declared.Quantum.{Quantum}
use Rattle.manifest_text.specs.declared.manifest.ItemKind.TheVariants.{Elf}
use Rattle.manifest_text.specs.Values.{Item, Start, Manifest}
use Rattle.elf_maker.specs.Demo.{demo_file}
use Rattle.suite_top.specs.Telling.{Demo}
use Rattle.file_commands.specs.Arguments.{default_stack}
use Rattle.file_commands.specs.Ending.{Ending}
use Rattle.file_commands.specs.Outcome.{Outcome, Inputs}
use Rattle.file_commands.specs.Load.{at_once}
use Rattle.suite_top.specs.Run.{files_outcome}

-- what is made of each of the numbers 1 to n, in their order
unfoldable pub each_of : {A : Type 0} → (ℕ → A) → (n : ℕ) → List A
each_of of zero = []
each_of of (suc n) = each_of of n ++ of (suc n) ∷ []

-- program i stands at `/p` with i behind it
abbrev pub demo_path : (i : ℕ) → List ℕ
demo_path i = codes "/p" ++ decimal i

-- the lines of a manifest that would bring it in and start it, both with the number i. No file of the host has its bytes
abbrev pub demo_item : (i : ℕ) → Item
demo_item i = record { line = i; kind = Elf; path = demo_path i; name = []; stack = default_stack }

abbrev pub demo_start : (i : ℕ) → Start
demo_start i = record { line = i; args = demo_path i ∷ [] }

abbrev pub demo_quanta : List Quantum
demo_quanta = record { pick = 0; count = 50 } ∷ record { pick = 1; count = 30 } ∷ record { pick = 2; count = 70 } ∷ []

abbrev pub demo_pages : ℕ
demo_pages = 128

abbrev pub demo_repeat : ℕ
demo_repeat = 100000

unfoldable pub demo_manifest : (n : ℕ) → Manifest
demo_manifest n = record {
  pages = demo_pages;
  items = each_of demo_item n;
  starts = each_of demo_start n;
  quanta = demo_quanta;
  repeat = demo_repeat;
  dumps = [];
  watches = [];
}

-- a run with these files, which takes the first free run that fits, and keeps no items
unfoldable pub demo_run : (n : ℕ) → Outcome
demo_run n = files_outcome (Demo n) (demo_manifest n) (each_of demo_file n)

-- what it ends with
abbrev pub demo_ending : (n : ℕ) → Ending
demo_ending n = (demo_run n).ending

-- nothing is requested
abbrev pub demo_outcome : (n : ℕ) → Inputs → Outcome
demo_outcome n inputs = at_once (demo_ending n)
