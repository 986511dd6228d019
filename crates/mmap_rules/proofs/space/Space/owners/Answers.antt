use Rattle.std.proofs.Common.{length, refl, ap, ◌∙◌}
use Rattle.mmap_rules.specs.Space.{own_in, writable_in}
use Rattle.mmap_rules.specs.Held.{Held}
use Rattle.mmap_rules.proofs.TableOwns.{table_owns, table_writable}
use Rattle.mmap_rules.proofs.space.Space.owners.Goals as goal

pub returns-clause-own : goal.returns-clause-own
returns-clause-own c =
    let s = c.self.inside in
    table_owns (length s.owners) s.owners s.maps.items c.self.invariant.table c.self.invariant.mappings refl ∙ ap (λ (h : Held). own_in h.maps) c.self.view_is

pub returns-clause-writable : goal.returns-clause-writable
returns-clause-writable c =
    let s = c.self.inside in
    table_writable (length s.owners) s.owners s.maps.items c.self.invariant.table c.self.invariant.mappings refl ∙ ap (λ (h : Held). writable_in h.maps) c.self.view_is
