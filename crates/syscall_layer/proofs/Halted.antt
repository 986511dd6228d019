-- Where a run has ended that ends at its first stray access.
use Rattle.std.proofs.Common.{◌≡◌, false, List, reverse, Option, Some, None, refl, sym, ap, ◌∙◌}
use Rattle.std.specs.Prelude.{is_some}
use Rattle.byte_words.specs.declared.access.Access.{Access}
use Rattle.call_log.specs.Notes.{Note}
use Rattle.region_watch.specs.declared.mode.Mode.{Mode}
use Rattle.region_watch.specs.declared.mode.Mode.TheVariants.{Halt, GoOn}
use Rattle.memory_world.specs.Physical.{has_stray}
use Rattle.kept_parts.specs.Noted.{first_noted}
use Rattle.kept_parts.proofs.Common.NotedStrays.{stray_first, stray_reversed}
use Rattle.syscall_layer.specs.Parts.{halted_at}

pub none_noted : (mode : Mode) (notes : List Note) → has_stray notes ≡ false → halted_at mode notes ≡ None
none_noted Halt notes none = is_none (first_noted (reverse notes)) (sym (stray_first (reverse notes)) ∙ stray_reversed notes ∙ none)
  where
    is_none : (o : Option Access) → is_some o ≡ false → o ≡ None
    is_none None none = refl
    is_none (Some seen) none = absurd cc
none_noted GoOn notes none = refl

-- as the code finds it
pub none_halted : (mode : Mode) (notes : List Note) (o : Option Access) (access : Access) → o ≡ halted_at mode notes → o ≡ Some access → has_stray notes ≡ false → ⊥
none_halted mode notes o access found is none =
    let both : Some access ≡ None = sym is ∙ found ∙ none_noted mode notes none in
    absurd cc
