-- The code's contents of a node as plain values.
use Rattle.std.specs.Prelude.{◌≡◌, ℕ, ◌<◌, ◌≤◌, length, Result, Ok, Err, ⊤}
use Rattle.call_log.specs.declared.errno.Errno.TheVariants.{Enospc}
use Rattle.mem_files.specs.declared.fault.FileFault.{FileFault}
use Rattle.mem_files.specs.declared.fault.FileFault.TheVariants.{Errno, Memory}
use Rattle.mem_files.specs.declared.content.Content.{Content as Stored}
use Rattle.mem_files.specs.declared.content.Content.TheVariants.{File, Folder}
use Rattle.mem_files.specs.Inodes.{Inode, Content, file, folder, bytes_in, most_of_one}

abbrev pub content_value : Stored → Content
content_value (File bytes) = file bytes.items
content_value (Folder parent entries) = folder parent entries

-- a file has no more bytes than a file may have
abbrev pub IsSmall : Content → Type 0
IsSmall content = length (bytes_in content) ≤ most_of_one

-- a write that makes `written` of a node, where a file may have so many bytes: a refusal changes nothing, nor does a write that finds no
-- memory, of which there is none that would be refused
abbrev pub WritesNode : Inode → ℕ → Inode → Inode → Result ⊤ FileFault → Type 0
WritesNode written most old new (Ok done) = (new ≡ written) × (length (bytes_in written.content) ≤ most)
WritesNode written most old new (Err (Errno errno)) = (errno ≡ Enospc) × (most < length (bytes_in written.content)) × (new ≡ old)
WritesNode written most old new (Err Memory) = (length (bytes_in written.content) ≤ most) × (new ≡ old)
