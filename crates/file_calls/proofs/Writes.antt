-- The rows of write and writev.
use Rattle.std.proofs.Common.{◌≡◌, ℕ, ◌+◌, ◌*◌, ◌<◌, ◌≤◌, ◌==◌, Bool, true, false, not, if◌then◌else◌, List, [], ◌++◌, length, drop, min, Option, Some, None, Result, Ok, Err, refl, sym, subst, ◌∙◌, arith}
use Rattle.std.specs.Prelude.{nat_lt, is_ok}
use Rattle.std.specs.Result.{IfOk, IfErr}
use Rattle.std.proofs.lemmas.List.{drop_all}
use Rattle.std.proofs.lemmas.Bool.Decides.{nat_tests}
use Rattle.call_log.specs.declared.errno.Errno as log
use Rattle.call_log.specs.declared.errno.Errno.TheVariants.{Ebadf, Einval, Efbig}
use Rattle.mem_files.specs.declared.fault.FileFault.{FileFault}
use Rattle.mem_files.specs.declared.fault.FileFault.TheVariants.{Errno, Memory}
use Rattle.mem_files.specs.Inodes.{Inodes, most_of_one}
use Rattle.mem_files.specs.Changes.{written}
use Rattle.mem_files.specs.Calls.{Writes}
use Rattle.fd_tables.specs.declared.view.View.{View}
use Rattle.fd_tables.specs.declared.view.Target.TheVariants.{Console}
use Rattle.fd_tables.specs.Files.{OpenFiles}
use Rattle.fd_tables.specs.Changes.{storage}
use Rattle.fd_tables.specs.Calls.{view_or_errno}
use Rattle.machine_world.specs.Asks.{Ask, arg, Row, gives, refuses, with_ok, view_of, with_storage}
use Rattle.machine_world.specs.Transfers.{after_write, node_write, target_write, write_row, writev_row}
use Rattle.file_calls.specs.Answers.{Answers}

-- ---- a node

writes_one : (a : Ask) (w : Result Inodes log.Errno) (row : Inodes → Row) (new : Inodes) → Writes w a.rest.tree new (Ok tt) → with_ok a w row ≡ row new
writes_one a (Ok now) row new h = rw h refl
writes_one a (Err fault) row new h = absurd h

-- what was written
node_written : (a : Ask) (node at : ℕ) (bytes : List ℕ) (new : Inodes) → Writes (written a.rest.tree node at bytes) a.rest.tree new (Ok tt) →
    node_write a node at bytes ≡ gives a (length bytes) [] (record a.rest { tree = new; files = after_write a at bytes })
node_written a node at bytes new h =
    writes_one a (written a.rest.tree node at bytes) (λ nodes. gives a (length bytes) [] (record a.rest { tree = nodes; files = after_write a at bytes })) new h

pub node_says : (a : Ask) (node at : ℕ) (bytes : List ℕ) (new : Inodes) (files : OpenFiles) → Writes (written a.rest.tree node at bytes) a.rest.tree new (Ok tt) → files ≡ after_write a at bytes →
    node_write a node at bytes ≡ gives a (length bytes) [] (with_storage a.rest (storage new files))
node_says a node at bytes new files h f = rw f (node_written a node at bytes new h)

writes_none : (a : Ask) (w : Result Inodes log.Errno) (row : Inodes → Row) (new : Inodes) (fault : FileFault) →
    Writes w a.rest.tree new (Err fault) → Answers a (with_ok a w row) (record a.rest { tree = new }) (Err fault)
writes_none a (Ok now) row new (Errno errno) h = absurd h
writes_none a (Ok now) row new Memory h = rw h refl
writes_none a (Err first) row new (Errno errno) h = (rw h.0 refl, rw h.1 refl)
writes_none a (Err first) row new Memory h = absurd h

-- what wasn't
pub node_refused : (a : Ask) (node at : ℕ) (bytes : List ℕ) (new : Inodes) (fault : FileFault) → Writes (written a.rest.tree node at bytes) a.rest.tree new (Err fault) →
    (files : OpenFiles) → a.rest.files ≡ files → Answers a (node_write a node at bytes) (with_storage a.rest (storage new files)) (Err fault)
node_refused a node at bytes new fault h files f =
    subst (λ (files : OpenFiles). Answers a (node_write a node at bytes) (with_storage a.rest (storage new files)) (Err fault)) f
    (writes_none a (written a.rest.tree node at bytes) (λ nodes. gives a (length bytes) [] (record a.rest { tree = nodes; files = after_write a at bytes })) new fault h)

too_big : (old new : Inodes) (w : Result Inodes log.Errno) → w ≡ Err Efbig → Writes w old new (Ok tt) → ⊥
too_big old new w e h = absurd (rw e at h)

-- what is written fits a file
pub written_fits : (ns new : Inodes) (node at : ℕ) (bytes : List ℕ) → 0 < length bytes → Writes (written ns node at bytes) ns new (Ok tt) → at + length bytes ≤ 16777216
unfolding written
written_fits ns new node at bytes some h = by_test (nat_lt most_of_one (at + length bytes)) refl
  where
    by_test : (test : Bool) → test ≡ nat_lt most_of_one (at + length bytes) → at + length bytes ≤ 16777216
    by_test true e = absurd (too_big ns new (written ns node at bytes) (rw (not_empty, sym e) refl) h)
      where
        not_empty : (length bytes == 0) ≡ false
        not_empty = grind (arith, nat_tests)
    by_test false e = grind (arith, nat_tests)

-- and so its end is a number, and its length a smaller one
pub written_end : (ns new : Inodes) (node at : ℕ) (bytes : List ℕ) → at < 18446744073709551616 → Writes (written ns node at bytes) ns new (Ok tt) → at + length bytes < 18446744073709551616
written_end ns new node at bytes fits h = by_test (nat_lt 0 (length bytes)) refl
  where
    by_test : (test : Bool) → test ≡ nat_lt 0 (length bytes) → at + length bytes < 18446744073709551616
    by_test true e =
        let some : 0 < length bytes = grind (arith, nat_tests) in
        let end : at + length bytes ≤ 16777216 = written_fits ns new node at bytes some h in
        omega arith
    by_test false e =
        let none : length bytes ≤ 0 = grind (arith, nat_tests) in
        omega arith

pub written_small : (ns new : Inodes) (node at : ℕ) (bytes : List ℕ) → Writes (written ns node at bytes) ns new (Ok tt) → length bytes < 4294967296
written_small ns new node at bytes h = by_test (nat_lt 0 (length bytes)) refl
  where
    by_test : (test : Bool) → test ≡ nat_lt 0 (length bytes) → length bytes < 4294967296
    by_test true e =
        let some : 0 < length bytes = grind (arith, nat_tests) in
        let end : at + length bytes ≤ 16777216 = written_fits ns new node at bytes some h in
        omega arith
    by_test false e =
        let none : length bytes ≤ 0 = grind (arith, nat_tests) in
        omega arith

-- ---- what is open

pub view_is : (o : Option View) (v : View) → Ok v ≡ view_or_errno o → o ≡ Some v
view_is None v e = cc
view_is (Some w) v e = cc

pub view_none : (o : Option View) (errno : log.Errno) → Err errno ≡ view_or_errno o → (o ≡ None) × (errno ≡ Ebadf)
view_none None errno e = (refl, cc)
view_none (Some w) errno e = cc

pub write_closed : (a : Ask) (bytes : List ℕ) → view_of a (arg a 0) ≡ None → write_row a bytes ≡ refuses a Ebadf
unfolding write_row
write_closed a bytes e = rw e refl

pub write_blind : (a : Ask) (bytes : List ℕ) (errno : log.Errno) → Err errno ≡ view_or_errno (view_of a (arg a 0)) → write_row a bytes ≡ refuses a errno
write_blind a bytes errno e = let n = view_none (view_of a (arg a 0)) errno e in rw n.1 (write_closed a bytes n.0)

pub not_true : (b : Bool) → not b ≡ true → b ≡ false
not_true true e = cc
not_true false e = refl

pub not_false : (b : Bool) → not b ≡ false → b ≡ true
not_false true e = refl
not_false false e = cc

pub write_unfit : (a : Ask) (bytes : List ℕ) (v : View) → view_of a (arg a 0) ≡ Some v → v.way.write ≡ false → write_row a bytes ≡ refuses a Ebadf
unfolding write_row
write_unfit a bytes v e may = rw (e, may) refl

pub write_goes : (a : Ask) (bytes : List ℕ) (v : View) → view_of a (arg a 0) ≡ Some v → v.way.write ≡ true → write_row a bytes ≡ target_write a v bytes v.target
unfolding write_row
write_goes a bytes v e may = rw (e, may) refl

-- ---- the console

pub console_takes : (a : Ask) (v : View) (bytes new : List ℕ) (r : Result ℕ FileFault) → IfOk r (λ n. n ≡ length bytes) →
    new ≡ (if is_ok r then a.rest.console ++ bytes else a.rest.console) → IfErr r (λ fault. fault ≡ Memory) →
    Answers a (target_write a v bytes Console) (record a.rest { console = new }) r
console_takes a v bytes new (Ok n) count console memory = rw (count, console) refl
console_takes a v bytes new (Err fault) count console memory = rw (memory, console) refl

-- ---- writev

pub writev_many : (a : Ask) → 1024 < arg a 2 → writev_row a ≡ refuses a Einval
unfolding writev_row
writev_many a many = rw over refl
  where
    over : nat_lt 1024 (arg a 2) ≡ true
    over = grind (arith, nat_tests)

pub writev_few : (a : Ask) → arg a 2 ≤ 1024 → writev_row a ≡ write_row a (drop (8 * arg a 2) a.sent)
unfolding writev_row
writev_few a few = rw under refl
  where
    under : nat_lt 1024 (arg a 2) ≡ false
    under = grind (arith, nat_tests)

-- past the end of a list stands nothing
pub drop_up_to : (xs : List ℕ) (n : ℕ) → drop (min (length xs) n) xs ≡ drop n xs
drop_up_to xs n = by_test (nat_lt n (length xs)) refl
  where
    by_test : (test : Bool) → test ≡ nat_lt n (length xs) → drop (min (length xs) n) xs ≡ drop n xs
    by_test true e =
        let less : n < length xs = grind (arith, nat_tests) in
        let same : min (length xs) n ≡ n = omega arith in
        rw same refl
    by_test false e =
        let more : length xs ≤ n = grind (arith, nat_tests) in
        let same : min (length xs) n ≡ length xs = omega arith in
        rw same (drop_all (length xs) xs (omega arith) ∙ sym (drop_all n xs more))
