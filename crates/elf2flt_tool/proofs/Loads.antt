-- Linux loads what is written, by the law that it loads each flat file whose values can be said.
use Rattle.std.proofs.Common.{◌≡◌, ℕ, ◌+◌, List, Option, ap, sym, subst, ◌∙◌, arith}
use Rattle.std.specs.Option.{unwrap_or}
use Rattle.bflt_format.specs.Header.{entry, data_end, reloc_start, flat_values}
use Rattle.bflt_format.specs.Spelling.{Spells}
use Rattle.bflt_format.specs.Image.{flat_image}
use Rattle.bflt_format.proofs.Spelled.{has_words}
use Rattle.flat_layout.specs.Layout.{layout}
use Rattle.linux_loader.specs.Laws.{LoadsAs}
use Rattle.linux_loader.proofs.Returns.{flat_loads}
use Rattle.elf2flt_tool.specs.Image.{image}
use Rattle.elf2flt_tool.specs.Converted.{converted, flat}
use Rattle.elf2flt_tool.specs.Laws.{LinuxLaw}
use Rattle.elf2flt_tool.proofs.Spelled.{spells_converted}
use Rattle.elf2flt_tool.proofs.ImageLaw.{values_of_flat, image_law, flat_law}

leaves_same : (y : List ℕ) (args k : ℕ) (one other : ℕ → Option ℕ) (start begin : ℕ) → one ≡ other → start ≡ begin → LoadsAs y args k one start → LoadsAs y args k other begin
leaves_same y args k one other start begin same starts left = record {
  process = left.process;
  loaded = left.loaded;
  bytes = λ a low high. left.bytes a low high ∙ ap (λ picture. unwrap_or (picture a) 0) same;
  entry = left.entry ∙ starts;
}

table_follows : (e : List ℕ) (stack : ℕ) → Spells (converted e stack) → reloc_start (flat e stack) ≡ data_end (flat e stack)
unfolding flat
table_follows e stack s = let words = has_words (converted e stack) s in words.reloc_start ∙ sym words.data_end

entry_is : (e : List ℕ) (stack : ℕ) → Spells (converted e stack) → entry (flat e stack) ≡ 64 + (layout e).entry
unfolding flat converted
entry_is e stack s = (has_words (converted e stack) s).entry

pub linux_law : LinuxLaw
linux_law e stack args k bytes none limit low placed =
    let y = flat e stack in
    let s = spells_converted e stack bytes none limit in
    let is = entry_is e stack s in
    let starts : k + entry y ≡ k + 64 + (layout e).entry = omega arith in
    leaves_same y args k (flat_image (flat_values y) (k + 64)) (image e (k + 64)) (k + entry y) (k + 64 + (layout e).entry) (image_law e stack (k + 64) bytes none limit) starts
    (flat_loads y args k (subst Spells (sym (values_of_flat e stack bytes none limit)) s) (flat_law e stack bytes none limit)
    (record { records = λ some. table_follows e stack s; entry = omega arith }) placed)
