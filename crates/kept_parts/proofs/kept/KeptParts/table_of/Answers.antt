-- A process reaches its own bytes, or all of memory.
use Rattle.std.proofs.Common.{◌≡◌, length, sym, ap, subst, ◌∙◌, List, Option, Some}
use Rattle.std.specs.Prelude.{slice_get}
use Rattle.std.proofs.lemmas.Option.{same_Some}
use Rattle.mmap_rules.specs.Held.{Held}
use Rattle.kept_parts.specs.Kept.{Kept}
use Rattle.kept_parts.specs.Inside.{kept_of}
use Rattle.region_watch.specs.declared.mode.Mode.{Mode}
use Rattle.kept_parts.specs.Reach.{Reaches}
use Rattle.kept_parts.proofs.Common.WholeMemory.{own_reaches, whole_reaches}
use Rattle.kept_parts.proofs.kept.KeptParts.table_of.Goals as goal

pub returns-in-Halt : goal.returns-in-Halt
returns-in-Halt c =
    let k = kept_of c.self.inside in
    let number = c.args.number in
    let table = c.owners.result.now in
    subst (λ (now : Kept). (h : Held) → slice_get now.spaces number ≡ Some (Some h) → Reaches c.args.mode (length now.regions) h table) c.self.view_is
    (λ h there.
    let found = sym c.home.ensures ∙ ap (λ (ss : List (Option Held)). slice_get ss number) c.deref.ensures.value ∙ there in
    let same = same_Some c.home.result.now h (same_Some _ _ found) in
    subst (λ (mode : Mode). Reaches mode (length k.regions) h table) (sym c.in-Halt.is)
    (own_reaches k c.self.invariant.0.0 number h table there (rw same at c.owners.ensures.own) (rw same at c.owners.ensures.writable) (rw same at c.owners.ensures.pages)))

pub returns-in-GoOn : goal.returns-in-GoOn
returns-in-GoOn c =
    let k = kept_of c.self.inside in
    let table = c.self.inside.whole in
    subst (λ (now : Kept). (h : Held) → slice_get now.spaces c.args.number ≡ Some (Some h) → Reaches c.args.mode (length now.regions) h table) c.self.view_is
    (λ h there.
    subst (λ (mode : Mode). Reaches mode (length k.regions) h table) (sym c.in-GoOn.is) (whole_reaches (length k.regions) h table c.self.invariant.2))
