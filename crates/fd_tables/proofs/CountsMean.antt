-- What the counts mean, and that they are exact while nothing is open.
use Rattle.std.proofs.Common.{IfSome, ◌≡◌, ℕ, ◌≤◌, Bool, true, false, List, [], Option, Some, None, refl, sym, ap, ◌∙◌, arith}
use Rattle.std.specs.Prelude.{◌||◌, ◌&&◌, not, is_some, nat_lt}
use Rattle.std.proofs.lemmas.Bool.{lt-ltb, le-ltb}
use Rattle.mem_files.specs.Inodes.{Inode, Inodes, inode_at}
use Rattle.mem_files.specs.Changes.{held}
use Rattle.fd_tables.specs.declared.open_file.OpenFile.{OpenFile}
use Rattle.vfork_exec.specs.Keyed.{find}
use Rattle.fd_tables.specs.Files.{Pipe, nothing_open, at_number}
use Rattle.fd_tables.specs.Changes.{Storage, storage}
use Rattle.fd_tables.specs.Pipes.{pipe_id, pipe_at, pipe_view}
use Rattle.fd_tables.specs.Counts.{shares_of, uses_in, opens_of, holds_in, ends_of, Counted}
use Rattle.fd_tables.proofs.KeptNodes.{IsKept, kept_by, held_unnamed}
use Rattle.fd_tables.proofs.Sharing.{one}
use Rattle.fd_tables.proofs.EndCounts.{IsOpen, is_open, view_read, view_write}
use Rattle.fd_tables.proofs.Sound.{IsUsed}

there_by : (o : Option OpenFile) (count : ℕ) → uses_in o ≡ count → IsUsed o → is_some o ≡ nat_lt 0 count
there_by None count is used = sym (le-ltb 0 count (omega arith))
there_by (Some f) count is used = sym (lt-ltb 0 count (omega (arith, used)))

pub stays_while_shared : (s : Storage) (n : ℕ) → Counted s → is_some (at_number s.files.files n) ≡ nat_lt 0 (shares_of s.files n)
stays_while_shared s n c = there_by (at_number s.files.files n) (shares_of s.files n) (c.uses n) (c.used n)

held_by : (o : Option Inode) → 1 ≤ holds_in o → is_some o ≡ true
held_by None held = absurd (omega arith)
held_by (Some n) held = refl

pub stays_while_open : (s : Storage) (id : ℕ) → Counted s → 1 ≤ opens_of s.files id → is_some (inode_at s.nodes id) ≡ true
stays_while_open s id c open_files = held_by (inode_at s.nodes id) (omega (arith, c.holds id))

unnamed_by : (o : Option Inode) (opens : ℕ) → holds_in o ≡ opens → IsKept o → IfSome o (λ n. n.linked ≡ false → 1 ≤ opens)
unnamed_by None opens is stays = tt
unnamed_by (Some n) opens is stays = λ unnamed. omega (arith, is, held_unnamed n unnamed stays)

pub unnamed_while_open : (s : Storage) (id : ℕ) → Counted s → IfSome (inode_at s.nodes id) (λ n. n.linked ≡ false → 1 ≤ opens_of s.files id)
unnamed_while_open s id c = unnamed_by (inode_at s.nodes id) (opens_of s.files id) (c.holds id) (c.remains id)

-- ---- ends of pipes

end_by : (b : Bool) (count : ℕ) → count ≡ one b → b ≡ nat_lt 0 count
end_by true count is = sym (lt-ltb 0 count (omega arith))
end_by false count is = sym (le-ltb 0 count (omega arith))

there_by_ends : (o : Option Pipe) → IsOpen o → is_some o ≡ (is_open false o || is_open true o)
there_by_ends None some = refl
there_by_ends (Some p) some = by p.read_open p.write_open some
  where
    by : (read write : Bool) → (not read && not write) ≡ false → true ≡ (read || write)
    by true write some = refl
    by false true some = refl
    by false false some = let no : ⊥ = cc in absurd no

pub ends_stay_while_open : (s : Storage) (id : ℕ) → Counted s →
    ((pipe_view s.files id).read_open ≡ nat_lt 0 (ends_of s.files id false)) × ((pipe_view s.files id).write_open ≡ nat_lt 0 (ends_of s.files id true))
    × (is_some (pipe_at s.files id) ≡ ((pipe_view s.files id).read_open || (pipe_view s.files id).write_open))
ends_stay_while_open s id c = (
  end_by (pipe_view s.files id).read_open (ends_of s.files id false) (c.read_ends id),
  end_by (pipe_view s.files id).write_open (ends_of s.files id true) (c.write_ends id),
  there_by_ends (pipe_at s.files id) (c.open_pipes id) ∙ sym (ap (λ (b : Bool). b || (pipe_view s.files id).write_open) (view_read s.files id) ∙ ap (λ (b : Bool). is_open false (pipe_at s.files id) || b) (view_write s.files id)),
)

-- ---- the opening

named : (o : Option Inode) → IfSome o (λ n. (n.linked ≡ true) × (n.holds ≡ 0)) → (holds_in o ≡ 0) × IsKept o
named None is = (refl, tt)
named (Some n) is = (is.1, kept_by n (ap (λ (b : Bool). b || nat_lt 0 n.holds) is.0))

nothing_found : (write : Bool) (id : ℕ) → is_open write (find pipe_id id []) ≡ false
unfolding find
nothing_found write id = refl

nothing_closed : (id : ℕ) → IsOpen (find pipe_id id [])
unfolding find
nothing_closed id = tt

pub counted-nothing_open : (nodes : Inodes) (stdin : List ℕ) → ((id : ℕ) → IfSome (inode_at nodes id) (λ n. (n.linked ≡ true) × (n.holds ≡ 0))) → Counted (storage nodes (nothing_open stdin))
counted-nothing_open nodes stdin each = record {
  uses = λ n. refl;
  used = λ n. tt;
  holds = λ id. (named (inode_at nodes id) (each id)).0;
  remains = λ id. (named (inode_at nodes id) (each id)).1;
  whole = λ t. tt;
  read_ends = λ id. sym (ap one (view_read (nothing_open stdin) id ∙ nothing_found false id));
  write_ends = λ id. sym (ap one (view_write (nothing_open stdin) id ∙ nothing_found true id));
  open_pipes = λ id. nothing_closed id;
  pipe_numbers = tt;
  few_files = omega arith;
  few_tables = omega arith;
}
