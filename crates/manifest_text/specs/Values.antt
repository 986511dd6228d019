-- The values of a manifest, and the code's as these.
use Rattle.std.specs.Prelude.{ℕ, List, map, Vec}
use Rattle.quantum_sched.specs.declared.Quantum.{Quantum}
use Rattle.manifest_text.specs.declared.manifest.ItemKind.{ItemKind}
use Rattle.manifest_text.specs.declared.manifest.Dump.{Dump}
use Rattle.manifest_text.specs.declared.manifest.WatchLine.{WatchLine}
use Rattle.manifest_text.specs.declared.manifest.Item.{Item as StoredItem}
use Rattle.manifest_text.specs.declared.manifest.Start.{Start as StoredStart}
use Rattle.manifest_text.specs.declared.manifest.Manifest.{Manifest as Stored}
use Rattle.std.specs.Borrow.{Bor}

-- a line that brings in a file, or makes a folder
pub record Item : Type 0 where
  pub line : ℕ
  pub kind : ItemKind
  pub path : List ℕ
  pub name : List ℕ
  pub stack : ℕ

-- a line that starts a process
pub record Start : Type 0 where
  pub line : ℕ
  pub args : List (List ℕ)

pub record Manifest : Type 0 where
  pub pages : ℕ
  pub items : List Item
  pub starts : List Start
  pub quanta : List Quantum
  pub repeat : ℕ
  pub dumps : List Dump
  pub watches : List WatchLine

-- slices and vectors as the texts that they hold
abbrev pub texts : List (Bor (List ℕ)) → List (List ℕ)
texts slices = map (λ slice. slice.now) slices

abbrev pub vec_texts : {Y : Type 0} → List (Vec ℕ Y) → List (List ℕ)
vec_texts vecs = map (λ v. v.items) vecs

abbrev pub item_value : StoredItem → Item
item_value s = record { line = s.line; kind = s.kind; path = s.path.items; name = s.name.items; stack = s.stack }

abbrev pub start_value : StoredStart → Start
start_value s = record { line = s.line; args = vec_texts s.args.items }

abbrev pub manifest_value : Stored → Manifest
manifest_value s = record {
  pages = s.pages;
  items = map item_value s.items.items;
  starts = map start_value s.starts.items;
  quanta = s.quanta.items;
  repeat = s.repeat;
  dumps = s.dumps.items;
  watches = s.watches.items;
}
