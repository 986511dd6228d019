-- Where a walk ends: a name that leads to nothing was looked up in a folder, which has no entry of it.
use Rattle.std.proofs.Common.{◌≡◌, ℕ, Bool, true, false, cond, List, [], ◌∷◌, length, Option, None, Some, Result, Ok, Err, refl, sym, ap, subst, ◌∙◌}
use Rattle.std.specs.Prelude.{◌==◌, ⊤}
use Rattle.call_log.specs.declared.errno.Errno.{Errno as log}
use Rattle.call_log.specs.declared.errno.Errno.TheVariants.{Enoent, Eexist, Einval}
use Rattle.mem_files.specs.declared.node.Node.TheVariants.{Dir}
use Rattle.mem_files.specs.Inodes.{Inodes, Content, file, folder, inode_at, content_in, entries_in, kind_in, kind_of, size_of, entries_of}
use Rattle.mem_files.specs.Paths.{Place, start, names, named, is_too_long, looked_up, next_place, then_walked, walked, place_of}
use Rattle.mem_files.specs.Changes.{made_at, made_in, naming_fault, unless_fault, unnamed, unnamed_at, may_be_entry}
use Rattle.mem_files.specs.Walks.{vacant_at, vacant_in}
use Rattle.mem_files.proofs.Walking.{before, place_by}

-- nothing there has the name
abbrev pub Stands : Inodes → Place → Type 0
Stands ns p = p.id ≡ None → (kind_of ns p.folder ≡ Dir) × (named p.name (entries_of ns p.folder) ≡ None)

abbrev ok : Place → Result Place log
ok p = Ok p

abbrev err : log → Result Place log
err errno = Err errno

same_ok : (p q : Place) → ok p ≡ ok q → p ≡ q
same_ok p q e = cc

same_errno : (a b : log) → err a ≡ err b → a ≡ b
same_errno a b e = cc

last_none : (here above : Bool) (at parent : ℕ) (o : Option ℕ) → cond here (Some at) (cond above (Some parent) o) ≡ None → o ≡ None
last_none true above at parent o e = absurd (let f : ⊥ = cc in f)
last_none false true at parent o e = absurd (let f : ⊥ = cc in f)
last_none false false at parent o e = e

looked : (ns : Inodes) (at : ℕ) (name : List ℕ) (content : Content) → content_in (inode_at ns at) ≡ content → (q : Place) → looked_up at name content ≡ Ok q → Stands ns q
looked ns at name (file bytes) is q e = absurd (let f : ⊥ = cc in f)
looked ns at name (folder parent entries) is q e =
    subst (Stands ns) (same_ok _ q e)
    (λ none. (ap kind_in is, ap (λ c. named name (entries_in c)) is ∙ last_none _ _ at parent (named name entries) none))

stepped : (ns : Inodes) (name : List ℕ) (o : Option ℕ) (q : Place) → next_place ns name o ≡ Ok q → Stands ns q
stepped ns name None q e = absurd (let f : ⊥ = cc in f)
stepped ns name (Some at) q e = looked ns at name (content_in (inode_at ns at)) refl q e

then_stands : (ns : Inodes) (r : Result Place log) (more : Place → Result Place log) (q : Place) → then_walked r more ≡ Ok q → ((p : Place) → r ≡ Ok p → more p ≡ Ok q → Stands ns q) → Stands ns q
then_stands ns (Ok p) more q e f = f p refl e
then_stands ns (Err errno) more q e f = absurd (let g : ⊥ = cc in g)

walked_stands : (ns : Inodes) (ls : List (List ℕ)) (p q : Place) → walked ns ls p ≡ Ok q → Stands ns p → Stands ns q
unfolding walked
walked_stands ns [] p q e s = subst (Stands ns) (same_ok p q e) s
walked_stands ns (name ∷ more) p q e s = then_stands ns (next_place ns name p.id) (walked ns more) q e (λ p2 is e2. walked_stands ns more p2 q e2 (stepped ns name p.id p2 is))

by_tests : (ns : Inodes) (path : List ℕ) (q : Place) (long empty : Bool) → before ns path long empty ≡ Ok q → Stands ns q
by_tests ns path q true empty e = absurd (let f : ⊥ = cc in f)
by_tests ns path q false true e = absurd (let f : ⊥ = cc in f)
by_tests ns path q false false e = walked_stands ns (names path) start q e (λ none. absurd (let f : ⊥ = cc in f))

pub place_stands : (ns : Inodes) (path : List ℕ) (q : Place) → place_of ns path ≡ Ok q → Stands ns q
place_stands ns path q e = by_tests ns path q (is_too_long path) (length path == 0) (sym (place_by ns path (is_too_long path) (length path == 0) refl refl) ∙ e)

-- ---- a path that leads to nothing yet

pub vacant : (r : Result Place log) (p : Place) → Ok p ≡ vacant_in r → (r ≡ Ok p) × (p.id ≡ None)
vacant (Err errno) p e = absurd (let f : ⊥ = cc in f)
vacant (Ok q) p e = by q.id refl
  where
    by : (o : Option ℕ) → q.id ≡ o → (ok q ≡ ok p) × (p.id ≡ None)
    by (Some id) is = let e2 : ok p ≡ err Eexist = e ∙ ap (vacant_at q) is in absurd (let f : ⊥ = cc in f)
    by None is = let e2 : ok p ≡ ok q = e ∙ ap (vacant_at q) is in (sym e2, ap (λ x. x.id) (same_ok p q e2) ∙ is)

pub made_vacant : (content : ℕ → Content) (program : Option ℕ) (ns : Inodes) (r : Result Place log) (p : Place) → Ok p ≡ vacant_in r → made_in ns p (content p.folder) program ≡ made_at content program ns r
made_vacant content program ns r p e =
    let v = vacant r p e in
    let none : p.id ≡ None = v.1 in
    sym (ap (made_at content program ns) v.0 ∙ (rw none refl))

abbrev refused : log → Result Inodes log
refused errno = Err errno

pub made_refused : (content : ℕ → Content) (program : Option ℕ) (ns : Inodes) (r : Result Place log) (errno : log) → Err errno ≡ vacant_in r → Err errno ≡ made_at content program ns r
made_refused content program ns (Err first) errno e = ap refused (same_errno errno first e)
made_refused content program ns (Ok q) errno e = by q.id refl
  where
    by : (o : Option ℕ) → q.id ≡ o → Err errno ≡ made_at content program ns (Ok q)
    by (Some id) is = let e2 = rw is at e in rw is (ap (λ (x : log). refused x) (same_errno errno Eexist e2))
    by None is = let e2 = rw is at e in absurd (let f : ⊥ = cc in f)

-- ---- a name that goes

-- what a node leaves that may go, or may not
abbrev pub goes_as : Result ⊤ log → Inodes → Result Inodes log
goes_as (Ok done) ns = Ok ns
goes_as (Err errno) ns = Err errno

pub gone_refused : (dir : Bool) (ns : Inodes) (r : Result Place log) (errno : log) → r ≡ Err errno → Err errno ≡ unnamed_at dir ns r
gone_refused dir ns r errno e = sym (ap (unnamed_at dir ns) e)

pub gone_invalid : (dir : Bool) (ns : Inodes) (r : Result Place log) (p : Place) → r ≡ Ok p → may_be_entry p.name ≡ false → Err Einval ≡ unnamed_at dir ns r
gone_invalid dir ns r p e bad = sym (ap (unnamed_at dir ns) e ∙ (rw bad refl))

pub gone_missing : (dir : Bool) (ns : Inodes) (r : Result Place log) (p : Place) → r ≡ Ok p → may_be_entry p.name ≡ true → p.id ≡ None → Err Enoent ≡ unnamed_at dir ns r
gone_missing dir ns r p e good none = sym (ap (unnamed_at dir ns) e ∙ (rw (good, none) refl))

pub gone_as : (dir : Bool) (ns : Inodes) (r : Result Place log) (p : Place) (id : ℕ) → r ≡ Ok p → may_be_entry p.name ≡ true → p.id ≡ Some id → unless_fault (naming_fault dir (kind_of ns id) (size_of ns id)) (unnamed ns p id) ≡ unnamed_at dir ns r
gone_as dir ns r p id e good some = sym (ap (unnamed_at dir ns) e ∙ (rw (good, some) refl))

pub goes : (fault : Option log) (ns : Inodes) (r : Result ⊤ log) → r ≡ unless_fault fault tt → goes_as r ns ≡ unless_fault fault ns
goes None ns r e = ap (λ x. goes_as x ns) e
goes (Some errno) ns r e = ap (λ x. goes_as x ns) e
