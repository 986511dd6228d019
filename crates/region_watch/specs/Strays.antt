-- Stray accesses: one of the bytes isn't the program's own, or is written and may not be, or the range passes 2^32. The
-- word is this project's; RISC-V unprivileged ISA, "Memory", has the execution environment say what a program may access.
use Rattle.std.specs.Prelude.{◌≡◌, ℕ, Bool, true, false, if◌then◌else◌, Option, Some, None, List, [], ◌∷◌, ◌++◌}
use Rattle.std.proofs.Common.{refl, ap, sym, ◌∙◌}
use Rattle.byte_words.specs.declared.access.Access.{Access}
use Rattle.byte_words.specs.declared.access.AccessKind.{AccessKind}
use Rattle.byte_words.specs.declared.access.AccessKind.TheVariants.{Store, Call}
use Rattle.rv32im_step.specs.declared.stop.Stop.{Stop}
use Rattle.rv32im_step.specs.declared.stop.Stop.TheVariants.{Refused}
use Rattle.rv32im_step.specs.Asked.{Asked}
use Rattle.mmap_rules.specs.declared.page_owner.PageOwner.{PageOwner}
use Rattle.mmap_rules.specs.Space.{may_use}
use Rattle.mmap_rules.specs.Owners.{owns}

-- a range that a system call reads or writes
abbrev pub call_of : ℕ → ℕ → ℕ → Access
call_of pc addr len = record { pc = pc; addr = addr; len = len; kind = Call }

-- the first stray access after one more access, of which is told whether it is allowed
abbrev pub stray_after : Option Access → Access → Bool → Option Access
stray_after (Some first) access allowed = Some first
stray_after None access allowed = if allowed then None else Some access

-- an access of an instruction writes if it is a store
abbrev pub is_write : AccessKind → Bool
is_write Store = true
is_write other = false

-- whether a table allows it
abbrev pub allows : List PageOwner → Access → Bool
allows table access = may_use (owns table (is_write access.kind)) access.addr access.len

-- the first stray access, by a table, after a list of accesses
abbrev pub stray_after_all : List PageOwner → Option Access → List Asked → Option Access
stray_after_all table first [] = first
stray_after_all table first (one ∷ more) = stray_after_all table (stray_after first one.access (allows table one.access)) more

-- two lists, one after the other: a law, for a bus that makes both
stray_after_both : (table : List PageOwner) (first : Option Access) (xs ys : List Asked) → stray_after_all table first (xs ++ ys) ≡ stray_after_all table (stray_after_all table first xs) ys
stray_after_both table first [] ys = refl
stray_after_both table first (x ∷ xs) ys = stray_after_both table (stray_after first x.access (allows table x.access)) xs ys

pub stray_after_on : (table next : List PageOwner) (a b c : Option Access) (xs ys : List Asked) → next ≡ table → b ≡ stray_after_all table a xs → c ≡ stray_after_all next b ys
    → c ≡ stray_after_all table a (xs ++ ys)
stray_after_on table next a b c xs ys same p q =
    q ∙ ap (λ (t : List PageOwner). stray_after_all t b ys) same ∙ ap (λ (first : Option Access). stray_after_all table first ys) p ∙ sym (stray_after_both table a xs ys)

-- the first stray access after a run that ended so, where what strays is refused
abbrev pub stray_after_stop : Option Access → Stop → Option Access
stray_after_stop first (Refused access) = stray_after first access false
stray_after_stop first other = first
