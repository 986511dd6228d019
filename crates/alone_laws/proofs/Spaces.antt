-- A space of a sound world, and how it changes: its bytes, its break.
use Rattle.std.proofs.Common.{◌≡◌, ℕ, false, List, ◌++◌, Some, sym, subst}
use Rattle.mmap_rules.specs.declared.mapping.Mapping.{Mapping}
use Rattle.mmap_rules.specs.Space.{Space, writable_in}
use Rattle.mem_files.specs.Inodes.{Inodes}
use Rattle.vfork_exec.specs.declared.family.State.TheVariants.{Ready}
use Rattle.vfork_exec.specs.Keyed.{find}
use Rattle.machine_world.specs.World.{LiveSpace, World, Process, id_of, pid_of}
use Rattle.machine_world.specs.Asks.{Row, replies, waits}
use Rattle.machine_world.specs.Ages.{Follows}
use Rattle.alone_laws.specs.Sound.{IsSpace, AreApart, HoldCopies, IsSound}
use Rattle.alone_laws.proofs.Apart.{apart_front, apart_rest}
use Rattle.alone_laws.proofs.Bytes.{copy_locked}
use Rattle.alone_laws.proofs.Files.{copies_later}
use Rattle.alone_laws.proofs.Moved.{own_around}
use Rattle.alone_laws.proofs.RowSpaces.{IsOnPipe}

-- among the mappings of the other spaces, over the nodes
pub record IsFit (pages : ℕ) (front back : List Mapping) (nodes : Inodes) (s : Space) : Type 0 where
  pub is_space : IsSpace pages s.maps
  pub apart : AreApart (front ++ (s.maps ++ back))
  pub holds : HoldCopies nodes s

module _ (pages : ℕ) (front back : List Mapping) (s : Space) where
  pub own_apart : AreApart (front ++ (s.maps ++ back)) → AreApart s.maps
  own_apart all = apart_front s.maps back (apart_rest front (s.maps ++ back) all)

  -- no byte changes that may not be written, and the nodes age
  pub fit_later : (t : Space) (old new : Inodes) → t.maps ≡ s.maps → Follows old new → ((a : ℕ) → writable_in s.maps a ≡ false → t.bytes a ≡ s.bytes a)
      → IsFit pages front back old s → IsFit pages front back new t
  fit_later t old new same follows kept fit = record {
    is_space = is;
    apart = apart;
    holds = copies_later s t old new same follows
        (λ j m there copy a inside. kept a (copy_locked pages s.maps j m a (own_apart fit.apart) fit.is_space.mappings there copy inside)) fit.holds;
  }
    where
      is : IsSpace pages t.maps
      is = subst (IsSpace pages) (sym same) fit.is_space

      apart : AreApart (front ++ (t.maps ++ back))
      apart = subst (λ (ms : List Mapping). AreApart (front ++ (ms ++ back))) (sym same) fit.apart

-- the space of a process
pub fit_there : (w : World) (h : IsSound w) (pid : ℕ) (p : Process) (s : LiveSpace) (lives : find pid_of pid w.procs ≡ Some p) (ready : p.state ≡ Ready) (has : find id_of p.space w.spaces ≡ Some s)
    → IsFit w.rest.pages (own_around w h pid p s lives ready has).front (own_around w h pid p s lives ready has).back w.rest.tree s.space
fit_there w h pid p s lives ready has = record {
  is_space = h.spaces p.space s has;
  apart = subst AreApart (own_around w h pid p s lives ready has).is h.apart;
  holds = h.copies p.space s has;
}

-- what a row leaves of the caller's space, if it replies; it may wait on a pipe
abbrev pub InSpace : (Space → Type 0) → Row → Type 0
InSpace P (replies r) = P r.space
InSpace P (waits state) = IsOnPipe state
