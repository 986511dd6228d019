-- The ends of pipes: each is open while one open file is it, and a pipe goes with its last end.
use Rattle.std.proofs.Common.{◌≡◌, ◌≢◌, ℕ, ◌+◌, ◌≤◌, Bool, true, false, not, cond, List, [], ◌∷◌, Option, Some, None, IfSome, refl, sym, ap, subst, ◌∙◌, ◌⊎◌, inl, inr, arith}
use Rattle.std.specs.Prelude.{◌==◌, ◌&&◌, count_by, option_map}
use Rattle.std.proofs.lemmas.Bool.{cases_eq}
use Rattle.vfork_exec.specs.Keyed.{find, change, Falls}
use Rattle.vfork_exec.proofs.Keyed.{decide, eqb_is, eqb_same, eqb_other, change_head, find_changed, find_beside_change, find_beside_without, find_gone, find_key, find_below, find_head, find_later, falls_change, falls_without}
use Rattle.fd_tables.specs.declared.open_file.OpenFile.{OpenFile}
use Rattle.fd_tables.specs.declared.open_file.Object.{Object}
use Rattle.fd_tables.specs.declared.open_file.Object.TheVariants.{File, PipeEnd}
use Rattle.fd_tables.specs.Files.{Pipe, OpenFiles, at_number, with_next}
use Rattle.fd_tables.specs.Pipes.{pipe_id, pipe_at, shown_pipe, pipe_view, changed_to, with_changed, marked, with_closed, is_closed, unless_closed, without_end, with_pipe}
use Rattle.fd_tables.specs.Changes.{Storage, with_item, let_go, pipe_end}
use Rattle.fd_tables.specs.Counts.{is_end_of, has_way, opens_end}
use Rattle.fd_tables.proofs.AtNumbers.{made}
use Rattle.fd_tables.proofs.Items.{sum-item, sum-item_same, sum-next}
use Rattle.fd_tables.proofs.Sharing.{one}

-- ---- what a change of pipes leaves

pub untouched : (f : Pipe → Option Pipe) (fs : OpenFiles) (id : ℕ) (o : Option Pipe) →
    ((with_changed f fs id o).files ≡ fs.files) × ((with_changed f fs id o).tables ≡ fs.tables) × ((with_changed f fs id o).stdin ≡ fs.stdin) × ((with_changed f fs id o).next_pipe ≡ fs.next_pipe)
untouched f fs id None = (refl, refl, refl, refl)
untouched f fs id (Some p) = (refl, refl, refl, refl)

pub files-without_end : (fs : OpenFiles) (id : ℕ) (write : Bool) → (without_end fs id write).files ≡ fs.files
unfolding without_end
files-without_end fs id write = (untouched (λ p. unless_closed (with_closed write p)) fs id (pipe_at fs id)).0

pub tables-without_end : (fs : OpenFiles) (id : ℕ) (write : Bool) → (without_end fs id write).tables ≡ fs.tables
unfolding without_end
tables-without_end fs id write = (untouched (λ p. unless_closed (with_closed write p)) fs id (pipe_at fs id)).1

pub stdin-without_end : (fs : OpenFiles) (id : ℕ) (write : Bool) → (without_end fs id write).stdin ≡ fs.stdin
unfolding without_end
stdin-without_end fs id write = (untouched (λ p. unless_closed (with_closed write p)) fs id (pipe_at fs id)).2

pub next-without_end : (fs : OpenFiles) (id : ℕ) (write : Bool) → (without_end fs id write).next_pipe ≡ fs.next_pipe
unfolding without_end
next-without_end fs id write = (untouched (λ p. unless_closed (with_closed write p)) fs id (pipe_at fs id)).3

pub files-let_go : (s : Storage) (f : OpenFile) (o : Object) → (let_go s f o).files.files ≡ s.files.files
files-let_go s f (File node) = refl
files-let_go s f (PipeEnd id) = files-without_end s.files id f.write

pub tables-let_go : (s : Storage) (f : OpenFile) (o : Object) → (let_go s f o).files.tables ≡ s.files.tables
tables-let_go s f (File node) = refl
tables-let_go s f (PipeEnd id) = tables-without_end s.files id f.write

-- ---- an item of a list takes the place of the one with its number

module _ {A : Type 0} (key : A → ℕ) (k : ℕ) (q : A) (is : key q ≡ k) where
  abbrev to : A → A
  to x = cond (key x == k) q x

  to_by : (x : A) (b : Bool) → (key x == k) ≡ b → key (cond b q x) ≡ key x
  to_by x true e = is ∙ sym (eqb_is (key x) k e)
  to_by x false e = refl

  to_same : (x : A) → key (to x) ≡ key x
  to_same x = to_by x (key x == k) refl

  change_to : (xs : List A) → change key k (λ _. q) xs ≡ change key k to xs
  unfolding change
  change_to [] = refl
  change_to (x ∷ xs) = elim (decide (key x == k)) [
    | inl here ↦ change_head key k (λ _. q) x xs true here ∙ ap (λ (b : Bool). cond b q x ∷ xs) (sym here) ∙ sym (change_head key k to x xs true here)
    | inr here ↦ change_head key k (λ _. q) x xs false here ∙ ap (λ ys. x ∷ ys) (change_to xs) ∙ sym (change_head key k to x xs false here)
  ]

  pub find_to : (xs : List A) (x : A) → find key k xs ≡ Some x → find key k (change key k (λ _. q) xs) ≡ Some q
  find_to xs x there =
      ap (λ ys. find key k ys) (change_to xs) ∙ find_changed key k to to_same xs ∙ ap (option_map to) there
      ∙ ap (λ (b : Bool). Some (cond b q x)) (eqb_same (key x) k (find_key key k xs x there))

  pub find_beside_to : (j : ℕ) → j ≢ k → (xs : List A) → find key j (change key k (λ _. q) xs) ≡ find key j xs
  find_beside_to j other xs = ap (λ ys. find key j ys) (change_to xs) ∙ find_beside_change key k j other to to_same xs

  pub falls_to : (b : ℕ) (xs : List A) → Falls key b xs → Falls key b (change key k (λ _. q) xs)
  falls_to b xs f = subst (λ ys. Falls key b ys) (sym (change_to xs)) (falls_change key k to to_same b xs f)

-- ---- what is found after a change

abbrev pub HasNumber : ℕ → Option Pipe → Type 0
HasNumber id o = IfSome o (λ p. p.id ≡ id)

pub changed_there : (fs : OpenFiles) (id : ℕ) (p : Pipe) (q : Option Pipe) → pipe_at fs id ≡ Some p → HasNumber id q → find pipe_id id (changed_to fs id q) ≡ q
changed_there fs id p (Some q) there is = find_to pipe_id id q is fs.pipes p there
changed_there fs id p None there is = find_gone pipe_id id fs.pipes

pub changed_other : (fs : OpenFiles) (id k : ℕ) (q : Option Pipe) → k ≢ id → HasNumber id q → find pipe_id k (changed_to fs id q) ≡ find pipe_id k fs.pipes
changed_other fs id k (Some q) other is = find_beside_to pipe_id id q is k other fs.pipes
changed_other fs id k None other is = find_beside_without pipe_id id k other fs.pipes

falls-changed : (fs : OpenFiles) (id : ℕ) (q : Option Pipe) → HasNumber id q → Falls pipe_id fs.next_pipe fs.pipes → Falls pipe_id fs.next_pipe (changed_to fs id q)
falls-changed fs id (Some q) is falls = falls_to pipe_id id q is fs.next_pipe fs.pipes falls
falls-changed fs id None is falls = falls_without pipe_id id fs.next_pipe fs.pipes falls

-- ---- ends

abbrev pub end_open : (write : Bool) → Pipe → Bool
end_open false p = p.read_open
end_open true p = p.write_open

abbrev pub is_open : (write : Bool) → Option Pipe → Bool
is_open write (Some p) = end_open write p
is_open write None = false

abbrev pub IsOpen : Option Pipe → Type 0
IsOpen o = IfSome o (λ p. is_closed p ≡ false)

abbrev pub end_one : ℕ → (write : Bool) → Option OpenFile → ℕ
end_one id write o = cond (opens_end id write o) 1 0

pub record EndsCounted (files : List (Option OpenFile)) (pipes : List Pipe) (next : ℕ) : Type 0 where
  pub ends : (id : ℕ) (write : Bool) → count_by (opens_end id write) files ≡ one (is_open write (find pipe_id id pipes))
  pub open_pipes : (id : ℕ) → IsOpen (find pipe_id id pipes)
  pub numbers : Falls pipe_id next pipes

shown_read : (o : Option Pipe) → (shown_pipe o).read_open ≡ is_open false o
shown_read None = refl
shown_read (Some p) = refl

shown_write : (o : Option Pipe) → (shown_pipe o).write_open ≡ is_open true o
shown_write None = refl
shown_write (Some p) = refl

pub view_read : (fs : OpenFiles) (id : ℕ) → (pipe_view fs id).read_open ≡ is_open false (pipe_at fs id)
unfolding pipe_view
view_read fs id = shown_read (pipe_at fs id)

pub view_write : (fs : OpenFiles) (id : ℕ) → (pipe_view fs id).write_open ≡ is_open true (pipe_at fs id)
unfolding pipe_view
view_write fs id = shown_write (pipe_at fs id)

-- ---- files that change and stay what they are of

pub ends-file : (u : OpenFile → OpenFile) → ((f : OpenFile) → ((u f).object ≡ f.object) × ((u f).write ≡ f.write)) → (files : List (Option OpenFile)) (n : ℕ) (pipes : List Pipe) (next : ℕ) →
    EndsCounted files pipes next → EndsCounted (with_item (λ f. Some (u f)) files n) pipes next
ends-file u same files n pipes next c = record {
  ends = λ id write. sum-item_same (end_one id write) (λ f. Some (u f)) files n (by id write (at_number files n)) ∙ c.ends id write;
  open_pipes = c.open_pipes;
  numbers = c.numbers;
}
  where
    way : (write : Bool) (f : OpenFile) → has_way write (u f) ≡ has_way write f
    way true f = (same f).1
    way false f = ap not (same f).1

    by : (id : ℕ) (write : Bool) (o : Option OpenFile) → end_one id write (made (λ f. Some (u f)) o) ≡ end_one id write o
    by id write None = refl
    by id write (Some f) = ap (λ (o : Object). one (is_end_of id o && has_way write (u f))) (same f).0 ∙ ap (λ (b : Bool). one (is_end_of id f.object && b)) (way write f)

-- ---- a file of a node opens or goes

of_node : (id node : ℕ) (write : Bool) (f : OpenFile) → f.object ≡ File node → end_one id write (Some f) ≡ 0
of_node id node write f is = ap (λ (o : Object). one (is_end_of id o && has_way write f)) is

pub ends-node_gone : (files : List (Option OpenFile)) (n node : ℕ) (f : OpenFile) (pipes : List Pipe) (next : ℕ) → at_number files n ≡ Some f → f.object ≡ File node →
    EndsCounted files pipes next → EndsCounted (with_item (λ f. None) files n) pipes next
ends-node_gone files n node f pipes next there is c = record {
  ends = λ id write.
      let e = sum-item (end_one id write) (λ f. None) files n in
      omega (arith, e, ap (end_one id write) there, ap (λ o. end_one id write (made (λ f. None) o)) there, of_node id node write f is, c.ends id write);
  open_pipes = c.open_pipes;
  numbers = c.numbers;
}

pub ends-node_next : (files : List (Option OpenFile)) (node : ℕ) (f : OpenFile) (pipes : List Pipe) (next : ℕ) → f.object ≡ File node →
    EndsCounted files pipes next → EndsCounted (with_next f files) pipes next
ends-node_next files node f pipes next is c = record {
  ends = λ id write. omega (arith, sum-next (end_one id write) refl f files, of_node id node write f is, c.ends id write);
  open_pipes = c.open_pipes;
  numbers = c.numbers;
}

-- ---- a pipe changes, or goes

pub ends-changed : (files new : List (Option OpenFile)) (fs : OpenFiles) (id : ℕ) (p : Pipe) (q : Option Pipe) → pipe_at fs id ≡ Some p → HasNumber id q → IsOpen q →
    ((write : Bool) → count_by (opens_end id write) new ≡ one (is_open write q)) →
    ((k : ℕ) (write : Bool) → k ≢ id → count_by (opens_end k write) new ≡ count_by (opens_end k write) files) →
    EndsCounted files fs.pipes fs.next_pipe → EndsCounted new (changed_to fs id q) fs.next_pipe
ends-changed files new fs id p q there is some here others c = record {
  ends = λ k write. ends_by k write (cases_eq k id);
  open_pipes = λ k. open_by k (cases_eq k id);
  numbers = falls-changed fs id q is c.numbers;
}
  where
    ends_by : (k : ℕ) (write : Bool) → (k ≡ id) ⊎ (k ≡ id → ⊥) → count_by (opens_end k write) new ≡ one (is_open write (find pipe_id k (changed_to fs id q)))
    ends_by k write (inl e) =
        subst (λ (j : ℕ). count_by (opens_end j write) new ≡ one (is_open write (find pipe_id j (changed_to fs id q)))) (sym e)
        (here write ∙ sym (ap (λ o. one (is_open write o)) (changed_there fs id p q there is)))
    ends_by k write (inr other) = others k write other ∙ c.ends k write ∙ sym (ap (λ o. one (is_open write o)) (changed_other fs id k q other is))

    open_by : (k : ℕ) → (k ≡ id) ⊎ (k ≡ id → ⊥) → IsOpen (find pipe_id k (changed_to fs id q))
    open_by k (inl e) = subst (λ (j : ℕ). IsOpen (find pipe_id j (changed_to fs id q))) (sym e) (subst IsOpen (sym (changed_there fs id p q there is)) some)
    open_by k (inr other) = subst IsOpen (sym (changed_other fs id k q other is)) (c.open_pipes k)

-- ---- an end closes

-- an end is the one of this way
abbrev pub alike : (x y : Bool) → Bool
alike true y = y
alike false y = not y

has_alike : (v : Bool) (f : OpenFile) → has_way v f ≡ alike v f.write
has_alike true f = refl
has_alike false f = refl

-- what is open is one less, where the end was open
shut_by : (v w read write : Bool) (id : ℕ) (bytes : List ℕ) → end_open w (record { id = id; bytes = bytes; read_open = read; write_open = write }) ≡ true →
    one (is_open v (unless_closed (with_closed w (record { id = id; bytes = bytes; read_open = read; write_open = write })))) + one (alike v w)
    ≡ one (end_open v (record { id = id; bytes = bytes; read_open = read; write_open = write }))
shut_by true true read true id bytes is = by read
  where
    by : (r : Bool) → one (is_open true (unless_closed (record { id = id; bytes = bytes; read_open = r; write_open = false }))) + 1 ≡ 1
    by true = refl
    by false = refl
shut_by true true read false id bytes is = let no : ⊥ = cc in absurd no
shut_by true false true true id bytes is = refl
shut_by true false true false id bytes is = refl
shut_by true false false write id bytes is = let no : ⊥ = cc in absurd no
shut_by false true true true id bytes is = refl
shut_by false true false true id bytes is = refl
shut_by false true read false id bytes is = let no : ⊥ = cc in absurd no
shut_by false false true true id bytes is = refl
shut_by false false true false id bytes is = refl
shut_by false false false write id bytes is = let no : ⊥ = cc in absurd no

pub shut : (v w : Bool) (p : Pipe) → end_open w p ≡ true → one (is_open v (unless_closed (with_closed w p))) + one (alike v w) ≡ one (end_open v p)
shut v w p is = shut_by v w p.read_open p.write_open p.id p.bytes is

unless_open : (q : Pipe) (b : Bool) → is_closed q ≡ b → IsOpen (unless_closed q)
unless_open q true e = rw e tt
unless_open q false e = rw e e

pub unless_number : (q : Pipe) (b : Bool) → is_closed q ≡ b → HasNumber q.id (unless_closed q)
unless_number q true e = rw e tt
unless_number q false e = rw e refl

pub closed_id : (w : Bool) (p : Pipe) → (with_closed w p).id ≡ p.id
closed_id true p = refl
closed_id false p = refl

-- the pipe is there, and the end is open, while the file is it
pub record EndThere (fs : OpenFiles) (id : ℕ) (write : Bool) : Type 0 where
  pub pipe : Pipe
  pub there : pipe_at fs id ≡ Some pipe
  pub end : end_open write pipe ≡ true

end_there_by : (fs : OpenFiles) (id : ℕ) (write : Bool) (o : Option Pipe) → pipe_at fs id ≡ o → is_open write o ≡ true → EndThere fs id write
end_there_by fs id write None is open_end = let no : ⊥ = cc in absurd no
end_there_by fs id write (Some p) is open_end = record { pipe = p; there = is; end = open_end }

true_by : (b : Bool) → 1 ≤ one b → b ≡ true
true_by true some = refl
true_by false some = absurd (omega arith)

is_its_end : (id : ℕ) (v : Bool) (f : OpenFile) → f.object ≡ PipeEnd id → end_one id v (Some f) ≡ one (alike v f.write)
is_its_end id v f is =
    ap (λ (o : Object). one (is_end_of id o && has_way v f)) is ∙ ap (λ (b : Bool). one (b && has_way v f)) (eqb_same id id refl) ∙ ap one (has_alike v f)

is_no_end : (id k : ℕ) (v : Bool) (f : OpenFile) → f.object ≡ PipeEnd id → k ≢ id → end_one k v (Some f) ≡ 0
is_no_end id k v f is other =
    ap (λ (o : Object). one (is_end_of k o && has_way v f)) is ∙ ap (λ (b : Bool). one (b && has_way v f)) (eqb_other id k (λ e. other (sym e)))

alike_self : (w : Bool) → alike w w ≡ true
alike_self true = refl
alike_self false = refl

one_gone : (files : List (Option OpenFile)) (n : ℕ) (f : OpenFile) (k : ℕ) (v : Bool) → at_number files n ≡ Some f →
    count_by (opens_end k v) (with_item (λ f. None) files n) + end_one k v (Some f) ≡ count_by (opens_end k v) files
one_gone files n f k v there =
    let e = sum-item (end_one k v) (λ f. None) files n in
    omega (arith, e, ap (end_one k v) there, ap (λ o. end_one k v (made (λ f. None) o)) there)

pub end_there : (files : List (Option OpenFile)) (fs : OpenFiles) (n id : ℕ) (f : OpenFile) → at_number files n ≡ Some f → f.object ≡ PipeEnd id →
    EndsCounted files fs.pipes fs.next_pipe → EndThere fs id f.write
end_there files fs n id f there is c =
    end_there_by fs id f.write (pipe_at fs id) refl
    (true_by (is_open f.write (pipe_at fs id)) (omega (arith, c.ends id f.write, one_gone files n f id f.write there, is_its_end id f.write f is, ap one (alike_self f.write))))

pub ends-gone : (files : List (Option OpenFile)) (fs : OpenFiles) (n id : ℕ) (f : OpenFile) (p : Pipe) → at_number files n ≡ Some f → f.object ≡ PipeEnd id →
    pipe_at fs id ≡ Some p → end_open f.write p ≡ true → EndsCounted files fs.pipes fs.next_pipe →
    EndsCounted (with_item (λ f. None) files n) (changed_to fs id (unless_closed (with_closed f.write p))) fs.next_pipe
ends-gone files fs n id f p there is pipe open_end c =
    ends-changed files (with_item (λ f. None) files n) fs id p (unless_closed (with_closed f.write p)) pipe
    (subst (λ (k : ℕ). HasNumber k (unless_closed (with_closed f.write p))) (closed_id f.write p ∙ find_key pipe_id id fs.pipes p pipe) (unless_number (with_closed f.write p) _ refl))
    (unless_open (with_closed f.write p) _ refl)
    (λ v. omega (arith, one_gone files n f id v there, is_its_end id v f is, shut v f.write p open_end, c.ends id v, ap (λ o. one (is_open v o)) pipe))
    (λ k v other. omega (arith, one_gone files n f k v there, is_no_end id k v f is other))
    c

pub without_end_is : (fs : OpenFiles) (id : ℕ) (write : Bool) (p : Pipe) → pipe_at fs id ≡ Some p →
    without_end fs id write ≡ marked id (record fs { pipes = changed_to fs id (unless_closed (with_closed write p)) })
unfolding without_end
without_end_is fs id write p there = rw there refl

-- ---- bytes come and go

pub ends-bytes : (files : List (Option OpenFile)) (fs : OpenFiles) (id : ℕ) (p : Pipe) (bytes : List ℕ) → pipe_at fs id ≡ Some p →
    EndsCounted files fs.pipes fs.next_pipe → EndsCounted files (changed_to fs id (Some (record p { bytes = bytes }))) fs.next_pipe
ends-bytes files fs id p bytes there c =
    ends-changed files files fs id p (Some (record p { bytes = bytes })) there (find_key pipe_id id fs.pipes p there) (subst IsOpen there (c.open_pipes id))
    (λ v. c.ends id v ∙ ap (λ o. one (is_open v o)) there ∙ same v) (λ k v other. refl) c
  where
    same : (v : Bool) → one (end_open v p) ≡ one (end_open v (record p { bytes = bytes }))
    same true = refl
    same false = refl

-- ---- a pipe with its two ends

abbrev new_pipe : ℕ → Pipe
new_pipe id = record { id = id; bytes = []; read_open = true; write_open = true }

both_open : (v : Bool) → end_open v (new_pipe 0) ≡ true
both_open true = refl
both_open false = refl

ends_of_two : (id k : ℕ) (v : Bool) → end_one k v (Some (pipe_end id false)) + end_one k v (Some (pipe_end id true)) ≡ one (id == k)
ends_of_two id k v = by v (id == k)
  where
    by : (v b : Bool) → one (b && has_way v (pipe_end id false)) + one (b && has_way v (pipe_end id true)) ≡ one b
    by true true = refl
    by true false = refl
    by false true = refl
    by false false = refl

none_next : (fs : OpenFiles) (o : Option Pipe) → Falls pipe_id fs.next_pipe fs.pipes → pipe_at fs fs.next_pipe ≡ o → o ≡ None
none_next fs None falls is = refl
none_next fs (Some p) falls is = absurd (omega (arith, find_below pipe_id fs.next_pipe fs.next_pipe fs.pipes p falls is))

pub ends-piped : (fs : OpenFiles) → EndsCounted fs.files fs.pipes fs.next_pipe →
    EndsCounted (with_next (pipe_end fs.next_pipe true) (with_next (pipe_end fs.next_pipe false) fs.files)) (with_pipe fs).pipes (with_pipe fs).next_pipe
ends-piped fs c = record {
  ends = λ k v. omega (arith, more k v, c.ends k v, at_by k v (cases_eq k fs.next_pipe));
  open_pipes = λ k. open_by k (cases_eq k fs.next_pipe);
  numbers = (omega arith, c.numbers);
}
  where
    more : (k : ℕ) (v : Bool) → count_by (opens_end k v) (with_next (pipe_end fs.next_pipe true) (with_next (pipe_end fs.next_pipe false) fs.files))
        ≡ count_by (opens_end k v) fs.files + one (fs.next_pipe == k)
    more k v =
        omega (
          arith,
          sum-next (end_one k v) refl (pipe_end fs.next_pipe true) (with_next (pipe_end fs.next_pipe false) fs.files),
          sum-next (end_one k v) refl (pipe_end fs.next_pipe false) fs.files,
          ends_of_two fs.next_pipe k v,
        )

    first : find pipe_id fs.next_pipe (with_pipe fs).pipes ≡ Some (new_pipe fs.next_pipe)
    first = find_head pipe_id fs.next_pipe (new_pipe fs.next_pipe) fs.pipes true (eqb_same fs.next_pipe fs.next_pipe refl)

    later : (k : ℕ) → (k ≡ fs.next_pipe → ⊥) → find pipe_id k (with_pipe fs).pipes ≡ find pipe_id k fs.pipes
    later k other = find_later pipe_id k (new_pipe fs.next_pipe) fs.pipes (λ e. other (sym e))

    at_by : (k : ℕ) (v : Bool) → (k ≡ fs.next_pipe) ⊎ (k ≡ fs.next_pipe → ⊥) → one (is_open v (find pipe_id k fs.pipes)) + one (fs.next_pipe == k) ≡ one (is_open v (find pipe_id k (with_pipe fs).pipes))
    at_by k v (inl e) =
        subst (λ (j : ℕ). one (is_open v (find pipe_id j fs.pipes)) + one (fs.next_pipe == j) ≡ one (is_open v (find pipe_id j (with_pipe fs).pipes))) (sym e)
        (let none : one (is_open v (pipe_at fs fs.next_pipe)) ≡ 0 = ap (λ o. one (is_open v o)) (none_next fs (pipe_at fs fs.next_pipe) c.numbers refl) in
        let new : one (is_open v (find pipe_id fs.next_pipe (with_pipe fs).pipes)) ≡ 1 = ap (λ o. one (is_open v o)) first ∙ opened v in
        omega (arith, none, new, ap one (eqb_same fs.next_pipe fs.next_pipe refl)))
      where
        opened : (v : Bool) → one (end_open v (new_pipe fs.next_pipe)) ≡ 1
        opened true = refl
        opened false = refl
    at_by k v (inr other) = omega (arith, ap (λ o. one (is_open v o)) (later k other), ap one (eqb_other fs.next_pipe k (λ e. other (sym e))))

    open_by : (k : ℕ) → (k ≡ fs.next_pipe) ⊎ (k ≡ fs.next_pipe → ⊥) → IsOpen (find pipe_id k (with_pipe fs).pipes)
    open_by k (inl e) = subst (λ (j : ℕ). IsOpen (find pipe_id j (with_pipe fs).pipes)) (sym e) (subst IsOpen (sym first) refl)
    open_by k (inr other) = subst IsOpen (sym (later k other)) (c.open_pipes k)
