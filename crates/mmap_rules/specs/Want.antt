-- What mmap2 asks for (Linux, mmap(2); include/uapi/asm-generic/mman-common.h, in this project's profile).
use Rattle.std.specs.Prelude.{ℕ, ◌+◌, ◌-◌, ◌/◌, ◌^◌, ◌==◌, ◌<◌, Bool, not, ◌&&◌, ◌||◌, nat_lt, if◌then◌else◌, Result, Ok, Err}
use Rattle.call_log.specs.declared.errno.Errno.{Errno}
use Rattle.call_log.specs.declared.errno.Errno.TheVariants.{Ebadf, Eacces, Enodev, Einval, Eoverflow}
use Rattle.call_log.specs.Flags.{has_flag}
use Rattle.mmap_rules.specs.declared.want.FileSide.{FileSide}
use Rattle.mmap_rules.specs.declared.want.FileSide.TheVariants as side
use Rattle.mmap_rules.specs.declared.want.Want.{Want}
use Rattle.mmap_rules.specs.declared.want.Want.TheVariants.{Anon, File}
use Rattle.mmap_rules.specs.Space.{page_size}

-- the pages that so many bytes take
abbrev pub pages_for : ℕ → ℕ
pages_for len = (len + (page_size - 1)) / page_size

abbrev pub map_shared : ℕ
map_shared = 0x1

abbrev pub map_private : ℕ
map_private = 0x2

abbrev pub map_fixed : ℕ
map_fixed = 0x10

abbrev pub map_anonymous : ℕ
map_anonymous = 0x20

abbrev pub prot_write : ℕ
prot_write = 0x2

-- pages of the file that a descriptor leads to, if that is open for reading
abbrev pub of_side : (pages first : ℕ) → (write : Bool) → FileSide → Result Want Errno
of_side pages first write side.Closed = Err Ebadf
of_side pages first write side.NotFile = Err Enodev
of_side pages first write side.NoRead = Err Eacces
of_side pages first write (side.File id change) = Ok (File pages first write id change)

-- a file isn't shared
abbrev pub shared_side : FileSide → Result Want Errno
shared_side side.Closed = Err Ebadf
shared_side side.NotFile = Err Enodev
shared_side side.NoRead = Err Enodev
shared_side (side.File id change) = Err Enodev

abbrev pub wanted_file : (pages prot flags first : ℕ) → FileSide → Result Want Errno
wanted_file pages prot flags first file =
    if nat_lt (2 ^ 32) (first + pages) then Err Eoverflow
    else if has_flag flags map_shared then shared_side file
    else of_side pages first (has_flag prot prot_write) file

abbrev pub just_one : Bool → Bool → Bool
just_one a b = (a && not b) || (not a && b)

-- the refusals from left to right, but for ENOMEM
unfoldable pub wanted : (addr len prot flags first : ℕ) → FileSide → Result Want Errno
wanted addr len prot flags first file =
    if len == 0 then Err Einval
    else if has_flag flags map_fixed || not (addr == 0) then Err Einval
    else if not (just_one (has_flag flags map_shared) (has_flag flags map_private)) then Err Einval
    else if has_flag flags map_anonymous then Ok (Anon (pages_for len))
    else wanted_file (pages_for len) prot flags first file

-- a page at least
abbrev pub AsksPages : Want → Type 0
AsksPages (Anon pages) = 0 < pages
AsksPages (File pages first write id change) = 0 < pages
