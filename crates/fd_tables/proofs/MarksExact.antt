-- Which pipes are marked after a change: those that were marked, and those that show something else.
use Rattle.std.proofs.Common.{◌≡◌, ◌≢◌, ℕ, ◌≤◌, Bool, true, false, not, cond, List, [], ◌∷◌, ◌++◌, length, drop, Option, Some, None, refl, sym, ap, ◌∙◌, subst, ◌⊎◌, inl, inr, arith, length-append, length-drop}
use Rattle.std.specs.Prelude.{◌==◌, ◌&&◌, ◌||◌, nat_lt, nat_le}
use Rattle.std.specs.List.{list_any}
use Rattle.std.proofs.lemmas.Bool.{cases_eq, eqb-false, ne_eqb}
use Rattle.vfork_exec.specs.Keyed.{find}
use Rattle.vfork_exec.proofs.Keyed.{eqb_is, eqb_same, eqb_other, find_key}
use Rattle.fd_tables.specs.declared.open_file.OpenFile.{OpenFile}
use Rattle.fd_tables.specs.declared.open_file.Object.{Object}
use Rattle.fd_tables.specs.declared.open_file.Object.TheVariants.{File, PipeEnd}
use Rattle.fd_tables.specs.declared.open_file.Handle.{Handle}
use Rattle.fd_tables.specs.declared.open_file.Handle.TheVariants.{Input, Output, Open}
use Rattle.fd_tables.specs.declared.open_file.Descriptor.{Descriptor}
use Rattle.fd_tables.specs.declared.pipe_view.PipeView.{PipeView}
use Rattle.fd_tables.specs.Files.{Pipe, OpenFiles, at_number, descriptor}
use Rattle.fd_tables.specs.Pipes.{pipe_id, pipe_at, shown_pipe, pipe_view, with_number, marked, is_marked, changed_to, with_changed, with_closed, unless_closed, pipe_taken, pipe_put}
use Rattle.fd_tables.specs.Changes.{Storage, storage, with_descriptor, with_file, let_go, dropped, dropped_file, closed, closed_descriptor}
use Rattle.fd_tables.specs.Counts.{Counted}
use Rattle.fd_tables.specs.CountLaws.{same_flag, shows_same, MarksExactly}
use Rattle.fd_tables.proofs.EndCounts.{HasNumber, changed_there, changed_other, end_open, EndsCounted, EndThere, end_there, without_end_is, unless_number, closed_id}
use Rattle.fd_tables.proofs.Sound.{counted_ends}

-- ---- one more mark

third_first : (x y z : Bool) → (z || (x || y)) ≡ ((x || y) || z)
third_first true true true = refl
third_first true true false = refl
third_first true false true = refl
third_first true false false = refl
third_first false true true = refl
third_first false true false = refl
third_first false false true = refl
third_first false false false = refl

together : (x y z : Bool) → (x || (y || z)) ≡ ((x || y) || z)
together true y z = refl
together false y z = refl

once : (x y : Bool) → (x || y) ≡ ((x || y) || x)
once true y = refl
once false true = refl
once false false = refl

marked_by : (id k x : ℕ) (xs : List ℕ) (b c : Bool) → (x == id) ≡ b → nat_lt x id ≡ c → list_any (λ x. x == k) (with_number id xs) ≡ (list_any (λ x. x == k) xs || id == k) →
    list_any (λ x. x == k) (with_number id (x ∷ xs)) ≡ (list_any (λ x. x == k) (x ∷ xs) || id == k)
marked_by id k x xs true c e f rest = rw e (once (x == k) (list_any (λ x. x == k) xs) ∙ ap (λ (j : ℕ). (x == k || list_any (λ x. x == k) xs) || j == k) (eqb_is x id e))
marked_by id k x xs false true e f rest = rw (e, f) (ap (λ (b : Bool). x == k || b) rest ∙ together (x == k) (list_any (λ x. x == k) xs) (id == k))
marked_by id k x xs false false e f rest = rw (e, f) (third_first (x == k) (list_any (λ x. x == k) xs) (id == k))

pub number_marked : (id k : ℕ) (xs : List ℕ) → list_any (λ x. x == k) (with_number id xs) ≡ (list_any (λ x. x == k) xs || id == k)
number_marked id k [] = third_first false false (id == k)
number_marked id k (x ∷ xs) = marked_by id k x xs (x == id) (nat_lt x id) refl refl (number_marked id k xs)

-- ---- a change that marks

flag_self : (b : Bool) → same_flag b b ≡ true
flag_self true = refl
flag_self false = refl

shows_itself : (v : PipeView) → shows_same v v ≡ true
shows_itself v = ap (λ (b : Bool). b && same_flag v.read_open v.read_open && same_flag v.write_open v.write_open) (eqb_same v.held v.held refl)
    ∙ ap (λ (b : Bool). b && same_flag v.write_open v.write_open) (flag_self v.read_open) ∙ flag_self v.write_open

-- the law over what is found
abbrev Exact : (old new : OpenFiles) → Type 0
Exact old new = (k : ℕ) → is_marked k new ≡ (is_marked k old || not (shows_same (shown_pipe (pipe_at old k)) (shown_pipe (pipe_at new k))))

or_false : (x : Bool) → x ≡ (x || false)
or_false true = refl
or_false false = refl

exact_same : (fs : OpenFiles) → Exact fs fs
exact_same fs k = or_false (is_marked k fs) ∙ ap (λ (b : Bool). is_marked k fs || not b) (sym (shows_itself (shown_pipe (pipe_at fs k))))

exact_changed : (fs : OpenFiles) (id : ℕ) (p : Pipe) (q : Option Pipe) → pipe_at fs id ≡ Some p → HasNumber id q → shows_same (shown_pipe (Some p)) (shown_pipe q) ≡ false →
    Exact fs (marked id (record fs { pipes = changed_to fs id q }))
exact_changed fs id p q there is differs k = number_marked id k fs.changed ∙ ap (λ (b : Bool). is_marked k fs || b) (by (cases_eq k id))
  where
    by : (k ≡ id) ⊎ (k ≡ id → ⊥) → (id == k) ≡ not (shows_same (shown_pipe (pipe_at fs k)) (shown_pipe (find pipe_id k (changed_to fs id q))))
    by (inl e) =
        subst (λ (j : ℕ). (id == j) ≡ not (shows_same (shown_pipe (pipe_at fs j)) (shown_pipe (find pipe_id j (changed_to fs id q))))) (sym e)
        (eqb_same id id refl ∙ sym (ap (λ o. not (shows_same (shown_pipe o) (shown_pipe (find pipe_id id (changed_to fs id q))))) there
        ∙ ap (λ o. not (shows_same (shown_pipe (Some p)) (shown_pipe o))) (changed_there fs id p q there is) ∙ ap not differs))
    by (inr other) =
        eqb_other id k (λ e. other (sym e)) ∙ sym (ap (λ o. not (shows_same (shown_pipe (pipe_at fs k)) (shown_pipe o))) (changed_other fs id k q other is) ∙ ap not (shows_itself (shown_pipe (pipe_at fs k))))

-- ---- bytes

fewer_shown : (a b : ℕ) (read write : Bool) → a ≢ b → (a == b && same_flag read read && same_flag write write) ≡ false
fewer_shown a b read write other = ap (λ (c : Bool). c && same_flag read read && same_flag write write) (ne_eqb a b other)

exact_bytes : (fs : OpenFiles) (id : ℕ) (f : List ℕ → List ℕ) (o : Option Pipe) → pipe_at fs id ≡ o → ((p : Pipe) → o ≡ Some p → length p.bytes ≢ length (f p.bytes)) →
    Exact fs (with_changed (λ p. Some (record p { bytes = f p.bytes })) fs id o)
exact_bytes fs id f None is other = exact_same fs
exact_bytes fs id f (Some p) is other =
    exact_changed fs id p (Some (record p { bytes = f p.bytes })) is (find_key pipe_id id fs.pipes p is) (fewer_shown (length p.bytes) (length (f p.bytes)) p.read_open p.write_open (other p refl))

exact_unless : (fs new : OpenFiles) (b : Bool) → (b ≡ false → Exact fs new) → Exact fs (cond b fs new)
exact_unless fs new true exact = exact_same fs
exact_unless fs new false exact = exact refl

few_held : (o : Option Pipe) (p : Pipe) (n : ℕ) → n ≤ (shown_pipe o).held → o ≡ Some p → n ≤ length p.bytes
few_held o p n few is = subst (λ (o : Option Pipe). n ≤ (shown_pipe o).held) is few

pub marks-pipe_taken : (fs : OpenFiles) (id n : ℕ) → n ≤ (pipe_view fs id).held → MarksExactly fs (pipe_taken fs id n)
unfolding pipe_view pipe_taken
marks-pipe_taken fs id n few =
    exact_unless fs (with_changed (λ p. Some (record p { bytes = drop n p.bytes })) fs id (pipe_at fs id)) (n == 0)
    (λ some. exact_bytes fs id (λ bytes. drop n bytes) (pipe_at fs id) refl
    (λ p is same. eqb-false n 0 some (omega (arith, length-drop n p.bytes, few_held (pipe_at fs id) p n few is))))

pub marks-pipe_put : (fs : OpenFiles) (id : ℕ) (bytes : List ℕ) → MarksExactly fs (pipe_put fs id bytes)
unfolding pipe_view pipe_put
marks-pipe_put fs id bytes =
    exact_unless fs (with_changed (λ p. Some (record p { bytes = p.bytes ++ bytes })) fs id (pipe_at fs id)) (length bytes == 0)
    (λ some. exact_bytes fs id (λ held. held ++ bytes) (pipe_at fs id) refl
    (λ p is same. eqb-false (length bytes) 0 some (omega (arith, length-append p.bytes bytes))))

-- ---- a descriptor closes

and_false : (a b : Bool) → (a && false && b) ≡ false
and_false true b = refl
and_false false b = refl

and_last_false : (a b : Bool) → (a && b && false) ≡ false
and_last_false true true = refl
and_last_false true false = refl
and_last_false false b = refl

shut_by : (w read write : Bool) (id : ℕ) (bytes : List ℕ) → end_open w (record { id = id; bytes = bytes; read_open = read; write_open = write }) ≡ true →
    shows_same (record { held = length bytes; read_open = read; write_open = write }) (shown_pipe (unless_closed (with_closed w (record { id = id; bytes = bytes; read_open = read; write_open = write })))) ≡ false
shut_by true true true id bytes is = and_last_false (length bytes == length bytes) true
shut_by true false true id bytes is = and_last_false (length bytes == 0) true
shut_by true read false id bytes is = let no : ⊥ = cc in absurd no
shut_by false true true id bytes is = and_false (length bytes == length bytes) true
shut_by false true false id bytes is = and_false (length bytes == 0) true
shut_by false false write id bytes is = let no : ⊥ = cc in absurd no

exact_end : (fs : OpenFiles) (id : ℕ) (write : Bool) (p : Pipe) → pipe_at fs id ≡ Some p → end_open write p ≡ true →
    Exact fs (marked id (record fs { pipes = changed_to fs id (unless_closed (with_closed write p)) }))
exact_end fs id write p there open_end =
    exact_changed fs id p (unless_closed (with_closed write p)) there
    (subst (λ (k : ℕ). HasNumber k (unless_closed (with_closed write p))) (closed_id write p ∙ find_key pipe_id id fs.pipes p there) (unless_number (with_closed write p) _ refl))
    (shut_by write p.read_open p.write_open p.id p.bytes open_end)

exact_gone : (s : Storage) (n : ℕ) (f : OpenFile) (o : Object) → f.object ≡ o → at_number s.files.files n ≡ Some f → EndsCounted s.files.files s.files.pipes s.files.next_pipe →
    Exact s.files (let_go (storage s.nodes (with_file (λ f. None) s.files n)) f o).files
exact_gone s n f (File node) is there c = exact_same s.files
exact_gone s n f (PipeEnd id) is there c =
    let e : EndThere s.files id f.write = end_there s.files.files s.files n id f there is c in
    subst (λ (fs : OpenFiles). Exact s.files fs) (sym (without_end_is (with_file (λ f. None) s.files n) id f.write e.pipe e.there))
    (exact_end (with_file (λ f. None) s.files n) id f.write e.pipe e.there e.end)

exact_last : (s : Storage) (n : ℕ) (f : OpenFile) (b : Bool) → nat_le f.uses 1 ≡ b → at_number s.files.files n ≡ Some f → EndsCounted s.files.files s.files.pipes s.files.next_pipe →
    Exact s.files (dropped_file s n (Some f)).files
exact_last s n f true e there c = rw e (exact_gone s n f f.object refl there c)
exact_last s n f false e there c = rw e (exact_same s.files)

exact_file : (s : Storage) (n : ℕ) (o : Option OpenFile) → at_number s.files.files n ≡ o → EndsCounted s.files.files s.files.pipes s.files.next_pipe → Exact s.files (dropped_file s n o).files
exact_file s n None there c = exact_same s.files
exact_file s n (Some f) there c = exact_last s n f _ refl there c

exact_dropped : (s : Storage) (h : Handle) → EndsCounted s.files.files s.files.pipes s.files.next_pipe → Exact s.files (dropped s h).files
exact_dropped s Input c = exact_same s.files
exact_dropped s Output c = exact_same s.files
exact_dropped s (Open n) c = exact_file s n (at_number s.files.files n) refl c

exact_descriptor : (s : Storage) (t fd : ℕ) (o : Option Descriptor) → EndsCounted s.files.files s.files.pipes s.files.next_pipe → Exact s.files (closed_descriptor s t fd o).files
exact_descriptor s t fd None c = exact_same s.files
exact_descriptor s t fd (Some d) c = exact_dropped (storage s.nodes (with_descriptor s.files t fd None)) d.handle c

pub marks-closed : (s : Storage) (t fd : ℕ) → Counted s → MarksExactly s.files (closed s t fd).files
unfolding pipe_view closed
marks-closed s t fd c = exact_descriptor s t fd (descriptor s.files t fd) (counted_ends s c)

pub marks_are_exact : (s : Storage) (t fd id n : ℕ) (bytes : List ℕ) → Counted s →
    MarksExactly s.files (closed s t fd).files × (n ≤ (pipe_view s.files id).held → MarksExactly s.files (pipe_taken s.files id n)) × MarksExactly s.files (pipe_put s.files id bytes)
marks_are_exact s t fd id n bytes c = (marks-closed s t fd c, λ few. marks-pipe_taken s.files id n few, marks-pipe_put s.files id bytes)
