-- What the calls of `Tree` answer.
use Rattle.std.specs.Prelude.{◌≡◌, ℕ, length, Result, Ok, Err, ⊤}
use Rattle.call_log.specs.declared.errno.Errno as log
use Rattle.mem_files.specs.declared.fault.FileFault.{FileFault}
use Rattle.mem_files.specs.declared.fault.FileFault.TheVariants.{Errno, Memory}
use Rattle.mem_files.specs.Inodes.{Inodes}

-- a call that may be refused: a refusal changes nothing
abbrev pub ChangesTree : Result Inodes log.Errno → Inodes → Inodes → Result ⊤ log.Errno → Type 0
ChangesTree (Ok now) old new (Ok done) = new ≡ now
ChangesTree (Ok now) old new (Err errno) = ⊥
ChangesTree (Err first) old new (Ok done) = ⊥
ChangesTree (Err first) old new (Err errno) = (errno ≡ first) × (new ≡ old)

-- the same where memory may be out, which is no answer where the call is refused
abbrev pub Writes : Result Inodes log.Errno → Inodes → Inodes → Result ⊤ FileFault → Type 0
Writes (Ok now) old new (Ok done) = new ≡ now
Writes (Ok now) old new (Err (Errno errno)) = ⊥
Writes (Ok now) old new (Err Memory) = new ≡ old
Writes (Err first) old new (Ok done) = ⊥
Writes (Err first) old new (Err (Errno errno)) = (errno ≡ first) × (new ≡ old)
Writes (Err first) old new (Err Memory) = ⊥

-- the same for a new node: it has the number behind the last one that was given
abbrev pub Makes : Result Inodes log.Errno → Inodes → Inodes → Result ℕ FileFault → Type 0
Makes (Ok now) old new (Ok id) = (new ≡ now) × (id ≡ length old)
Makes (Ok now) old new (Err (Errno errno)) = ⊥
Makes (Ok now) old new (Err Memory) = new ≡ old
Makes (Err first) old new (Ok id) = ⊥
Makes (Err first) old new (Err (Errno errno)) = (errno ≡ first) × (new ≡ old)
Makes (Err first) old new (Err Memory) = ⊥
