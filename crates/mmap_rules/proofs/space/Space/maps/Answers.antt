use Rattle.std.proofs.Common.{subst}
use Rattle.mmap_rules.specs.Held.{Held, AreMappings}
use Rattle.mmap_rules.proofs.space.Space.maps.Goals as goal

pub returns-clause-mappings : goal.returns-clause-mappings
returns-clause-mappings c = subst (λ (h : Held). AreMappings h.pages h.maps) c.self.view_is c.self.invariant.mappings
