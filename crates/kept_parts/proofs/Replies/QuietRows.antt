-- The calls that change files give no bytes.
use Rattle.std.proofs.Common.{◌≡◌, ℕ, ◌*◌, length, take, drop, Bool, not, ◌&&◌, true, false, List, [], Option, Some, None, Ok, Err, inl, inr, refl, sym, ◌∙◌}
use Rattle.std.specs.Prelude.{◌==◌, ◌||◌, nat_lt, Result, if◌then◌else◌}
use Rattle.std.proofs.lemmas.Bool.{false≢true}
use Rattle.call_log.specs.declared.errno.Errno.{Errno}
use Rattle.call_log.specs.declared.errno.Errno.TheVariants.{Enoent, Ebadf, Einval, Epipe}
use Rattle.fd_tables.specs.Changes.{closed, duplicated, replaced}
use Rattle.fd_tables.specs.declared.view.View.{View}
use Rattle.fd_tables.specs.declared.view.Target.{Target}
use Rattle.fd_tables.specs.declared.view.Target.TheVariants.{Console, Node as a_node, Pipe}
use Rattle.fd_tables.specs.Pipes.{pipe_view}
use Rattle.vfork_exec.specs.declared.family.State.TheVariants.{OnPipe}
use Rattle.machine_world.specs.Asks.{Ask, arg, Row, replies, waits, gives, answers, refuses, unless, with_ok, view_of, with_view, free_of, with_free, with_files, with_storage, storage_of}
use Rattle.machine_world.specs.Descriptors.{table_of, close_on_exec, dup_row, dup3_row, close_row}
use Rattle.machine_world.specs.Transfers.{write_position, after_write, write_waits, pipe_room, put_write, pipe_write, target_write, write_row, writev_row}
use Rattle.machine_world.specs.PathCalls.{path_fault, path_of, with_path, changes_tree, remove_folder, creates, asks_folder, access, emptied, opens, open_fault, opens_new, opens_found, mkdirat_row, unlinkat_row, openat_row}
use Rattle.mem_files.specs.Paths.{lookup}
use Rattle.mem_files.specs.Changes.{with_folder, with_file, unlinked, written}
use Rattle.fd_tables.specs.Calls.{dup_number, dup3_fault, close_fault}
use Rattle.machine_world.specs.Rows.{row}
use Rattle.file_calls.specs.Calls.{IsChange, WaitsOn, is_change}
use Rattle.call_bytes.proofs.Places.{decide}
use Rattle.kept_parts.proofs.Common.UseCounts.{eqb_is}

-- a reply without bytes, or a wait
abbrev pub IsMute : Row → Type 0
IsMute (replies r) = r.got ≡ []
IsMute (waits state) = Unit {0}

-- a reply without bytes
abbrev pub Quiet : Row → Type 0
Quiet (replies r) = r.got ≡ []
Quiet (waits state) = ⊥

pub quiet_mute : (r : Row) → Quiet r → IsMute r
quiet_mute (replies r) quiet = quiet
quiet_mute (waits state) quiet = absurd quiet

-- which a call gives that doesn't wait
quiet_reply : (r : Row) → WaitsOn r None → IsMute r → Quiet r
quiet_reply (replies r) replied mute = mute
quiet_reply (waits state) waiting mute = absurd waiting

module _ (a : Ask) where
  quiet_ok : {A : Type 0} (r : Result A Errno) (rows : A → Row) → ((x : A) → IsMute (rows x)) → IsMute (with_ok a r rows)
  quiet_ok (Ok x) rows each = each x
  quiet_ok (Err errno) rows each = refl

  quiet_unless : (fault : Option Errno) (x : Row) → IsMute x → IsMute (unless a fault x)
  quiet_unless (Some errno) x quiet = refl
  quiet_unless None x quiet = quiet

  quiet_view : (v : Option View) (rows : View → Row) → ((x : View) → IsMute (rows x)) → IsMute (with_view a v rows)
  quiet_view (Some v) rows each = each v
  quiet_view None rows each = refl

  quiet_free : (fd : Option ℕ) (rows : ℕ → Row) → ((x : ℕ) → IsMute (rows x)) → IsMute (with_free a fd rows)
  quiet_free (Some fd) rows each = each fd
  quiet_free None rows each = refl

quiet_if : (b : Bool) (x y : Row) → IsMute x → IsMute y → IsMute (if b then x else y)
quiet_if true x y quiet other = quiet
quiet_if false x y other quiet = quiet

-- ---- each row

quiet_dup : (a : Ask) → IsMute (dup_row a)
unfolding dup_row
quiet_dup a =
    quiet_ok a (dup_number (view_of a (arg a 0)) (free_of a))
    (λ free. gives a free [] (with_files a.rest (duplicated a.rest.files (table_of a) (arg a 0) free false))) (λ x. refl)

quiet_dup3 : (a : Ask) → IsMute (dup3_row a)
unfolding dup3_row
quiet_dup3 a =
    quiet_if (not (arg a 2 == 0 || arg a 2 == close_on_exec)) (refuses a Einval)
    (unless a (dup3_fault (view_of a (arg a 0)) (arg a 0) (arg a 1))
    (gives a (arg a 1) [] (with_storage a.rest (replaced (storage_of a.rest) (table_of a) (arg a 0) (arg a 1) (arg a 2 == close_on_exec)))))
    refl
    (quiet_unless a (dup3_fault (view_of a (arg a 0)) (arg a 0) (arg a 1))
    (gives a (arg a 1) [] (with_storage a.rest (replaced (storage_of a.rest) (table_of a) (arg a 0) (arg a 1) (arg a 2 == close_on_exec)))) refl)

quiet_close : (a : Ask) → IsMute (close_row a)
unfolding close_row
quiet_close a =
    quiet_unless a (close_fault (view_of a (arg a 0))) (gives a 0 [] (with_storage a.rest (closed (storage_of a.rest) (table_of a) (arg a 0)))) refl

quiet_path : (a : Ask) (rows : List ℕ → Row) → ((path : List ℕ) → IsMute (rows path)) → IsMute (with_path a rows)
quiet_path a rows each = quiet_unless a (path_fault (arg a 0) (path_of a)) (rows (path_of a)) (each (path_of a))

quiet_mkdirat : (a : Ask) → IsMute (mkdirat_row a)
unfolding mkdirat_row
quiet_mkdirat a = quiet_path a _ (λ path. quiet_ok a (with_folder a.rest.tree path) (changes_tree a) (λ x. refl))

quiet_unlinkat : (a : Ask) → IsMute (unlinkat_row a)
unfolding unlinkat_row
quiet_unlinkat a =
    quiet_if (not (arg a 2 == 0 || arg a 2 == remove_folder)) (refuses a Einval) _ refl
    (quiet_path a _ (λ path. quiet_ok a (unlinked a.rest.tree path (arg a 2 == remove_folder)) (changes_tree a) (λ x. refl)))

quiet_new : (a : Ask) (path : List ℕ) → IsMute (opens_new a path)
quiet_new a path =
    quiet_if (creates (arg a 2)) _ (refuses a Enoent)
    (quiet_free a (free_of a) (λ fd. with_ok a (with_file a.rest.tree path [] None) (opens a fd (length a.rest.tree)))
    (λ fd. quiet_ok a (with_file a.rest.tree path [] None) (opens a fd (length a.rest.tree)) (λ x. refl))) refl

quiet_found : (a : Ask) (path : List ℕ) (node : Option ℕ) → IsMute (opens_found a path node)
quiet_found a path (Some node) =
    quiet_unless a (open_fault a.rest.tree node (arg a 2)) _
    (quiet_free a (free_of a) (λ fd. opens a fd node (emptied a.rest.tree node (arg a 2))) (λ fd. refl))
quiet_found a path None = quiet_new a path

quiet_openat : (a : Ask) → IsMute (openat_row a)
unfolding openat_row
quiet_openat a =
    quiet_if (access (arg a 2) == 3 || (creates (arg a 2) && asks_folder (arg a 2))) (refuses a Einval) _ refl
    (quiet_path a _ (λ path. quiet_ok a (lookup a.rest.tree path) (opens_found a path) (λ node. quiet_found a path node)))

quiet_pipe : (a : Ask) (id : ℕ) (bytes : List ℕ) → IsMute (pipe_write a id bytes)
quiet_pipe a id bytes =
    let v = pipe_view a.rest.files id in
    quiet_if (length bytes == 0) (answers a 0) _ refl
    (quiet_if (not v.read_open) (refuses a Epipe) _ refl
    (quiet_if (write_waits (length bytes) v) (waits (OnPipe id)) (put_write a id (take (pipe_room v) bytes)) tt refl))

quiet_target : (a : Ask) (v : View) (bytes : List ℕ) (t : Target) → IsMute (target_write a v bytes t)
quiet_target a v bytes Console = refl
quiet_target a v bytes (a_node node) =
    quiet_ok a (written a.rest.tree node (write_position a v node) bytes)
    (λ nodes. gives a (length bytes) [] (record a.rest { tree = nodes; files = after_write a (write_position a v node) bytes })) (λ x. refl)
quiet_target a v bytes (Pipe id write) = quiet_pipe a id bytes

quiet_write : (a : Ask) (bytes : List ℕ) → IsMute (write_row a bytes)
unfolding write_row
quiet_write a bytes =
    quiet_view a (view_of a (arg a 0)) (λ v. if v.way.write then target_write a v bytes v.target else refuses a Ebadf)
    (λ v. quiet_if v.way.write (target_write a v bytes v.target) (refuses a Ebadf) (quiet_target a v bytes v.target) refl)

quiet_writev : (a : Ask) → IsMute (writev_row a)
unfolding writev_row
quiet_writev a =
    quiet_if (nat_lt 1024 (arg a 2)) (refuses a Einval) (write_row a (drop (8 * arg a 2) a.sent)) refl (quiet_write a (drop (8 * arg a 2) a.sent))

-- ---- the rows of all changes

module _ (a : Ask) where
  quiet_23 : a.number ≡ 23 → IsMute (row a)
  unfolding row
  quiet_23 is = rw is (quiet_dup (record a { number = 23 }))

  quiet_24 : a.number ≡ 24 → IsMute (row a)
  unfolding row
  quiet_24 is = rw is (quiet_dup3 (record a { number = 24 }))

  quiet_34 : a.number ≡ 34 → IsMute (row a)
  unfolding row
  quiet_34 is = rw is (quiet_mkdirat (record a { number = 34 }))

  quiet_35 : a.number ≡ 35 → IsMute (row a)
  unfolding row
  quiet_35 is = rw is (quiet_unlinkat (record a { number = 35 }))

  quiet_56 : a.number ≡ 56 → IsMute (row a)
  unfolding row
  quiet_56 is = rw is (quiet_openat (record a { number = 56 }))

  quiet_57 : a.number ≡ 57 → IsMute (row a)
  unfolding row
  quiet_57 is = rw is (quiet_close (record a { number = 57 }))

  quiet_64 : a.number ≡ 64 → IsMute (row a)
  unfolding row
  quiet_64 is = rw is (quiet_write (record a { number = 64 }) a.sent)

  quiet_66 : a.number ≡ 66 → IsMute (row a)
  unfolding row
  quiet_66 is = rw is (quiet_writev (record a { number = 66 }))

  no_other : (a.number == 23) ≡ false → (a.number == 24) ≡ false → (a.number == 34) ≡ false → (a.number == 35) ≡ false → (a.number == 56) ≡ false → (a.number == 57) ≡ false
      → (a.number == 64) ≡ false → (a.number == 66) ≡ false → is_change a.number ≡ false
  no_other n23 n24 n34 n35 n56 n57 n64 n66 = rw (n23, n24, n34, n35, n56, n57, n64, n66) refl

  pub mute_row : IsChange a.number → IsMute (row a)
  mute_row change = elim (decide (a.number == 23)) [
    | inl is ↦ quiet_23 (eqb_is a.number 23 is)
    | inr n23 ↦ elim (decide (a.number == 24)) [
      | inl is ↦ quiet_24 (eqb_is a.number 24 is)
      | inr n24 ↦ elim (decide (a.number == 34)) [
        | inl is ↦ quiet_34 (eqb_is a.number 34 is)
        | inr n34 ↦ elim (decide (a.number == 35)) [
          | inl is ↦ quiet_35 (eqb_is a.number 35 is)
          | inr n35 ↦ elim (decide (a.number == 56)) [
            | inl is ↦ quiet_56 (eqb_is a.number 56 is)
            | inr n56 ↦ elim (decide (a.number == 57)) [
              | inl is ↦ quiet_57 (eqb_is a.number 57 is)
              | inr n57 ↦ elim (decide (a.number == 64)) [
                | inl is ↦ quiet_64 (eqb_is a.number 64 is)
                | inr n64 ↦ elim (decide (a.number == 66)) [
                  | inl is ↦ quiet_66 (eqb_is a.number 66 is)
                  | inr n66 ↦ absurd (false≢true (sym (no_other n23 n24 n34 n35 n56 n57 n64 n66) ∙ change))
                ]
              ]
            ]
          ]
        ]
      ]
    ]
  ]

  pub quiet_row : IsChange a.number → WaitsOn (row a) None → Quiet (row a)
  quiet_row change replied = quiet_reply (row a) replied (mute_row change)
