-- What a change of open files leaves of what the descriptors of other tables show of pipes, and of the pipes.
use Rattle.std.proofs.Common.{◌≡◌, ◌≢◌, ℕ, ◌<◌, ◌≤◌, Bool, false, List, Option, Some, None, refl, sym, ap, subst, ◌∙◌, arith}
use Rattle.std.specs.Prelude.{◌==◌, IsSome}
use Rattle.fd_tables.specs.declared.view.View.{View}
use Rattle.fd_tables.specs.declared.view.Target.TheVariants.{Console, Node, Pipe as to_pipe}
use Rattle.fd_tables.specs.declared.open_file.OpenFile.{OpenFile}
use Rattle.fd_tables.specs.declared.open_file.Object.{Object}
use Rattle.fd_tables.specs.declared.open_file.Object.TheVariants.{File, PipeEnd}
use Rattle.fd_tables.specs.declared.open_file.Handle.{Handle}
use Rattle.fd_tables.specs.declared.open_file.Handle.TheVariants.{Input, Output, Open}
use Rattle.fd_tables.specs.declared.open_file.Descriptor.{Descriptor}
use Rattle.fd_tables.specs.Files.{Table, Pipe, OpenFiles, at_number, table_at, descriptor_in, descriptor, file_view, handle_view, descriptor_view, view}
use Rattle.fd_tables.specs.Pipes.{pipe_id, shown_pipe, pipe_view, is_marked}
use Rattle.vfork_exec.specs.Keyed.{find}
use Rattle.std.specs.List.{list_any}

-- ---- what stays

-- the descriptors of other tables that lead to a pipe lead to the same end; a pipe that was there and isn't marked is as before
pub record Shows (t : ℕ) (old new : OpenFiles) : Type 0 where
  pub tables : (other : ℕ) → other ≢ t → IsSome (table_at old other) → table_at new other ≡ table_at old other
  pub views : (other fd : ℕ) (v : View) (id : ℕ) (write : Bool) → other ≢ t → view old other fd ≡ Some v → v.target ≡ to_pipe id write → view new other fd ≡ Some v
  pub marks : (id : ℕ) → is_marked id new ≡ false → is_marked id old ≡ false
  pub pipes : (id : ℕ) → id < old.next_pipe → is_marked id new ≡ false → pipe_view new id ≡ pipe_view old id
  pub next : old.next_pipe ≤ new.next_pipe

pub shows_itself : (t : ℕ) (fs : OpenFiles) → Shows t fs fs
shows_itself t fs = record {
  tables = λ other beside there. refl;
  views = λ other fd v id write beside is leads. is;
  marks = λ id unmarked. unmarked;
  pipes = λ id given unmarked. refl;
  next = omega arith;
}

some_stays : (old new : Option Table) → new ≡ old → IsSome old → IsSome new
some_stays old new same there = subst IsSome (sym same) there

pub shows_then : (t : ℕ) (old mid new : OpenFiles) → Shows t old mid → Shows t mid new → Shows t old new
shows_then t old mid new one two = record {
  tables = λ other beside there.
      let first : table_at mid other ≡ table_at old other = one.tables other beside there in
      two.tables other beside (some_stays (table_at old other) (table_at mid other) first there) ∙ first;
  views = λ other fd v id write beside is leads. two.views other fd v id write beside (one.views other fd v id write beside is leads) leads;
  marks = λ id unmarked. one.marks id (two.marks id unmarked);
  pipes = λ id given unmarked.
      let low : old.next_pipe ≤ mid.next_pipe = one.next in
      two.pipes id (omega arith) unmarked ∙ one.pipes id given (two.marks id unmarked);
  next = (let low : old.next_pipe ≤ mid.next_pipe = one.next in let high : mid.next_pipe ≤ new.next_pipe = two.next in omega arith);
}

-- ---- open files

pub record SameOpen (f g : OpenFile) : Type 0 where
  pub object : g.object ≡ f.object
  pub read : g.read ≡ f.read
  pub write : g.write ≡ f.write
  pub append : g.append ≡ f.append

-- it stays, or goes where it may
abbrev pub StaysAs : (Goes : Type 0) → (old new : Option OpenFile) → Type 0
StaysAs Goes None new = Unit {0}
StaysAs Goes (Some f) None = Goes
StaysAs Goes (Some f) (Some g) = SameOpen f g

abbrev pub FilesStay : (Goes : Type 0) → (old new : List (Option OpenFile)) → Type 0
FilesStay Goes old new = (n : ℕ) → StaysAs Goes (at_number old n) (at_number new n)

pub stays_itself : (Goes : Type 0) (o : Option OpenFile) → StaysAs Goes o o
stays_itself Goes None = tt
stays_itself Goes (Some f) = record { object = refl; read = refl; write = refl; append = refl }

pub stays_as : (Goes : Type 0) (o p : Option OpenFile) → p ≡ o → StaysAs Goes o p
stays_as Goes o p is = subst (StaysAs Goes o) (sym is) (stays_itself Goes o)

-- ---- what a descriptor shows

module _ (d : Descriptor) (v : View) (id : ℕ) (write : Bool) (leads : v.target ≡ to_pipe id write) where
  by_object : (f g : OpenFile) (o : Object) → f.object ≡ o → SameOpen f g → file_view d (Some f) ≡ Some v → file_view d (Some g) ≡ Some v
  by_object f g (File node) of same is =
      let shown : v.target ≡ Node node = cc in
      let no : ⊥ = cc in
      absurd no
  by_object f g (PipeEnd pipe) of same is =
      let now : g.object ≡ PipeEnd pipe = same.object ∙ of in
      rw (now, same.read, same.write, same.append) (rw of at is)

  by_file : (Goes : Type 0) (o p : Option OpenFile) → StaysAs Goes o p → (p ≡ None → Goes → ⊥) → file_view d o ≡ Some v → file_view d p ≡ Some v
  by_file Goes None p stays there is = absurd cc
  by_file Goes (Some f) None stays there is = absurd (there refl stays)
  by_file Goes (Some f) (Some g) stays there is = by_object f g f.object refl stays is

  by_handle : (Goes : Type 0) (old new : OpenFiles) → FilesStay Goes old.files new.files → (h : Handle)
      → ((n : ℕ) → h ≡ Open n → at_number new.files n ≡ None → Goes → ⊥) → handle_view old d h ≡ Some v → handle_view new d h ≡ Some v
  by_handle Goes old new files Input there is = let shown : v.target ≡ Console = cc in let no : ⊥ = cc in absurd no
  by_handle Goes old new files Output there is = let shown : v.target ≡ Console = cc in let no : ⊥ = cc in absurd no
  by_handle Goes old new files (Open n) there is = by_file Goes (at_number old.files n) (at_number new.files n) (files n) (there n refl) is

  by_descriptor : (Goes : Type 0) (old new : OpenFiles) → FilesStay Goes old.files new.files → (o : Option Descriptor) → o ≡ Some d
      → ((n : ℕ) → d.handle ≡ Open n → at_number new.files n ≡ None → Goes → ⊥) → descriptor_view old o ≡ Some v → descriptor_view new o ≡ Some v
  by_descriptor Goes old new files None of there is = absurd cc
  by_descriptor Goes old new files (Some e) of there is =
      let same : e ≡ d = cc in
      rw same (by_handle Goes old new files d.handle there (rw same at is))

module _ (Goes : Type 0) (old new : OpenFiles) (files : FilesStay Goes old.files new.files) (other fd : ℕ) (v : View) (id : ℕ) (write : Bool) (leads : v.target ≡ to_pipe id write)
    (table : table_at new other ≡ table_at old other)
    (there : (d : Descriptor) (n : ℕ) → descriptor old other fd ≡ Some d → d.handle ≡ Open n → at_number new.files n ≡ None → Goes → ⊥) where
  shown_by : (o : Option Descriptor) → descriptor old other fd ≡ o → descriptor_view old o ≡ Some v → descriptor_view new o ≡ Some v
  shown_by None of is = absurd cc
  shown_by (Some d) of is = by_descriptor d v id write leads Goes old new files (Some d) refl (λ n. there d n of) is

  pub still_shown : view old other fd ≡ Some v → view new other fd ≡ Some v
  unfolding view
  still_shown is = ap (λ o. descriptor_view new (descriptor_in o fd)) table ∙ shown_by (descriptor old other fd) refl is

-- where there is a view there is a table
pub table_there : (fs : OpenFiles) (t fd : ℕ) (v : View) → view fs t fd ≡ Some v → IsSome (table_at fs t)
unfolding view
table_there fs t fd v is = by (table_at fs t) is
  where
    by : (o : Option Table) → descriptor_view fs (descriptor_in o fd) ≡ Some v → IsSome o
    by (Some table) is = refl
    by None is = absurd cc

-- ---- a change at which no open file goes, and no pipe changes

pub record Quiet (t : ℕ) (old new : OpenFiles) : Type 0 where
  pub tables : (other : ℕ) → other ≢ t → IsSome (table_at old other) → table_at new other ≡ table_at old other
  pub files : FilesStay ⊥ old.files new.files
  pub pipes : new.pipes ≡ old.pipes
  pub changed : new.changed ≡ old.changed
  pub next : new.next_pipe ≡ old.next_pipe

pub quiet_shows : (t : ℕ) (old new : OpenFiles) → Quiet t old new → Shows t old new
unfolding pipe_view
quiet_shows t old new quiet = record {
  tables = quiet.tables;
  views = λ other fd v id write beside is leads.
      still_shown ⊥ old new quiet.files other fd v id write leads (quiet.tables other beside (table_there old other fd v is)) (λ d n of handle none goes. goes) is;
  marks = λ id unmarked. subst (λ (ids : List ℕ). list_any (λ x. x == id) ids ≡ false) quiet.changed unmarked;
  pipes = λ id given unmarked. ap (λ (ps : List Pipe). shown_pipe (find pipe_id id ps)) quiet.pipes;
  next = (let same : new.next_pipe ≡ old.next_pipe = quiet.next in omega arith);
}
