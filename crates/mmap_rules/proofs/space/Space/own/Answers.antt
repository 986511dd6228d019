use Rattle.std.proofs.Common.{ℕ, Bool, length, refl, ap, ◌∙◌}
use Rattle.mmap_rules.specs.Space.{own_in, writable_in, may_use}
use Rattle.mmap_rules.specs.Owners.{owns}
use Rattle.mmap_rules.specs.Held.{Held}
use Rattle.mmap_rules.proofs.TableOwns.{table_owns, table_writable}
use Rattle.mmap_rules.proofs.space.Space.own.Goals as goal

pub returns-clause-own : goal.returns-clause-own
returns-clause-own c asked =
    let s = c.self.inside in
    let all = table_owns (length s.owners) s.owners s.maps.items c.self.invariant.table c.self.invariant.mappings refl ∙ ap (λ (h : Held). own_in h.maps) c.self.view_is in
    c.own.ensures ∙ ap (λ (w : Bool). may_use (owns s.owners w) c.args.addr c.args.len) asked ∙ ap (λ (test : ℕ → Bool). may_use test c.args.addr c.args.len) all

pub returns-clause-writable : goal.returns-clause-writable
returns-clause-writable c asked =
    let s = c.self.inside in
    let all = table_writable (length s.owners) s.owners s.maps.items c.self.invariant.table c.self.invariant.mappings refl ∙ ap (λ (h : Held). writable_in h.maps) c.self.view_is in
    c.own.ensures ∙ ap (λ (w : Bool). may_use (owns s.owners w) c.args.addr c.args.len) asked ∙ ap (λ (test : ℕ → Bool). may_use test c.args.addr c.args.len) all
