-- Manifests: one with a line of each of the twelve kinds, and lines with a fault.
use Rattle.std.proofs.Common.{◌≡◌, ℕ, List, [], ◌∷◌, ◌++◌, map, Some, None, refl}
use Rattle.std.specs.Prelude.{codes, replicate, Result, Ok, Err}
use Rattle.manifest_text.specs.declared.fault.ManifestFault.{ManifestFault}
use Rattle.manifest_text.specs.declared.fault.ManifestFault.TheVariants.{BadByte, UnknownWord, WordCount, BadNumber, BadPath, Repeated, NoQuanta, NoStart}
use Rattle.manifest_text.specs.declared.manifest.ItemKind.{ItemKind}
use Rattle.manifest_text.specs.declared.manifest.ItemKind.TheVariants.{Elf, Flat, File, Dir, Stdin, Root}
use Rattle.manifest_text.specs.Values.{Item, Manifest}
use Rattle.manifest_text.specs.Pieces.{pieces, words}
use Rattle.manifest_text.specs.Numbers.{decimal_value, hex_value, is_number_in, number_in, is_address, address_value, address, is_quantum, quantum_value}
use Rattle.manifest_text.specs.Paths.{is_name, is_path}
use Rattle.manifest_text.specs.Lines.{Said, memory, dump, watch, repeat, keyword_of, memory_said, elf_said, flat_said, file_said, dir_said, named_said, start_said, quanta_said, repeat_said, dump_said, watch_said, keyword_said, words_said, line_said}
use Rattle.manifest_text.specs.Manifest.{Fault, draft_of, late_fault, all_said, first_fault, lines_of, manifest_of}

-- ---- all twelve

abbrev twelve : List ℕ
twelve =
    codes "# two programs\n\nmemory 64\nelf /bin/a a.elf 8192\nelf  /b  b\nflat /c c.flat\ndir /d\n"
    ++ codes "file /d/e e.txt\nstdin in.txt\nroot r.img\nstart /bin/a one two\nquanta 0:100 3:7\nrepeat 20\ndump 1 0x80000fff 16\nwatch 0xfffffffe 2"

abbrev item_of : (line : ℕ) → ItemKind → (path name : List ℕ) → (stack : ℕ) → Item
item_of line kind path name stack = record { line = line; kind = kind; path = path; name = name; stack = stack }

says-twelve :
    manifest_of twelve
    ≡ Ok (record {
      pages = 64;
      items =
          item_of 4 Elf (codes "/bin/a") (codes "a.elf") 8192
          ∷ item_of 5 Elf (codes "/b") (codes "b") 4096
          ∷ item_of 6 Flat (codes "/c") (codes "c.flat") 0
          ∷ item_of 7 Dir (codes "/d") [] 0
          ∷ item_of 8 File (codes "/d/e") (codes "e.txt") 0
          ∷ item_of 9 Stdin [] (codes "in.txt") 0
          ∷ item_of 10 Root [] (codes "r.img") 0
          ∷ [];
      starts = record { line = 11; args = codes "/bin/a" ∷ codes "one" ∷ codes "two" ∷ [] } ∷ [];
      quanta = record { pick = 0; count = 100 } ∷ record { pick = 3; count = 7 } ∷ [];
      repeat = 20;
      dumps = record { pid = 1; addr = 0x8000_0fff; len = 16 } ∷ [];
      watches = record { addr = 0xffff_fffe; len = 2 } ∷ [];
    })
unfolding pieces words decimal_value hex_value is_number_in is_address address_value is_quantum quantum_value is_name is_path keyword_of memory_said elf_said flat_said file_said dir_said named_said start_said quanta_said repeat_said dump_said watch_said keyword_said words_said line_said draft_of late_fault all_said first_fault lines_of manifest_of
says-twelve = refl

-- one start and one quantum are all that has to be there
says-least :
    manifest_of (codes "start /a\nquanta 4294967295:1000000\n")
    ≡ Ok (record { pages = 256; items = []; starts = record { line = 1; args = codes "/a" ∷ [] } ∷ []; quanta = record { pick = 0xffff_ffff; count = 1000000 } ∷ []; repeat = 1; dumps = []; watches = [] })
unfolding pieces words decimal_value is_number_in is_quantum quantum_value is_name is_path keyword_of start_said quanta_said keyword_said words_said line_said draft_of late_fault all_said first_fault lines_of manifest_of
says-least = refl

-- ---- faults of a manifest, with the line

abbrev refused : (line : ℕ) → ManifestFault → Result Manifest Fault
refused line fault = Err (record { line = line; fault = fault })

-- nothing starts; nothing may run; the second input; the second image; the second size
lacks :
    map manifest_of (codes "" ∷ codes "start /a" ∷ codes "stdin a\nstdin b\n" ∷ codes "root a\nroot b\n" ∷ codes "memory 1\n# more\nmemory 1\n" ∷ [])
    ≡ refused 0 NoStart ∷ refused 0 NoQuanta ∷ refused 2 Repeated ∷ refused 2 Repeated ∷ refused 3 Repeated ∷ []
unfolding pieces words decimal_value is_number_in is_name is_path keyword_of memory_said named_said start_said keyword_said words_said line_said draft_of late_fault all_said first_fault lines_of manifest_of
lacks = refl

-- ---- faults of a line

abbrev said : List ℕ → Result Said ManifestFault
said text = line_said (record { number = 1; text = text })

bad-memory :
    map said (codes "memory 16384" ∷ codes "memory 16385" ∷ codes "memory 0" ∷ codes "memory" ∷ codes "memory 1 2" ∷ [])
    ≡ Ok (memory 16384) ∷ Err BadNumber ∷ Err BadNumber ∷ Err WordCount ∷ Err WordCount ∷ []
unfolding pieces words decimal_value is_number_in keyword_of memory_said keyword_said words_said line_said
bad-memory = refl

-- a stack of 15 bytes, a path without a slash in front, one that leads up, one name too few, and an unknown word
bad-files :
    map said (codes "elf /a a 15" ∷ codes "elf a a" ∷ codes "dir /.." ∷ codes "file /a" ∷ codes "Dir /a" ∷ [])
    ≡ Err BadNumber ∷ Err BadPath ∷ Err BadPath ∷ Err WordCount ∷ Err UnknownWord ∷ []
unfolding pieces words decimal_value is_number_in is_name is_path keyword_of elf_said file_said dir_said keyword_said words_said line_said
bad-files = refl

-- an address without 0x, no bytes, and a page and a byte
bad-dump :
    map said (codes "dump 1 0x0 4096" ∷ codes "dump 1 80000000 4" ∷ codes "dump 1 0x0 0" ∷ codes "dump 1 0x0 4097" ∷ [])
    ≡ Ok (dump (record { pid = 1; addr = 0; len = 4096 })) ∷ replicate 3 (Err BadNumber)
unfolding pieces words decimal_value hex_value is_number_in is_address address_value keyword_of dump_said keyword_said words_said line_said
bad-dump = refl

-- all bytes but the first, and then one past the last; no bytes; a length above a word; an address without 0x; no length, and a word more
bad-watch :
    map said (codes "watch 0x1 4294967295" ∷ codes "watch 0x2 4294967295" ∷ codes "watch 0x0 0" ∷ codes "watch 0x0 4294967296" ∷ codes "watch 80000000 4" ∷ codes "watch 0x0" ∷ codes "watch 1 0x0 4" ∷ [])
    ≡ Ok (watch (record { addr = 1; len = 0xffff_ffff })) ∷ replicate 4 (Err BadNumber) ++ replicate 2 (Err WordCount)
unfolding pieces words decimal_value hex_value is_number_in is_address address_value keyword_of watch_said keyword_said words_said line_said
bad-watch = refl

bad-repeat :
    map said (codes "repeat 1000000" ∷ codes "repeat 1000001" ∷ codes "repeat 007" ∷ [])
    ≡ Ok (repeat 1000000) ∷ Err BadNumber ∷ Err BadNumber ∷ []
unfolding pieces words decimal_value is_number_in keyword_of repeat_said keyword_said words_said line_said
bad-repeat = refl

-- a tab; in a line that means nothing any byte may stand
bad-bytes : map said ((codes "dir /a" ++ 9 ∷ []) ∷ (35 ∷ 9 ∷ 200 ∷ []) ∷ codes "   " ∷ []) ≡ Err BadByte ∷ Ok Said.nothing ∷ Ok Said.nothing ∷ []
unfolding pieces words words_said line_said
bad-bytes = refl

-- ---- numbers

hexadecimal :
    map address (codes "0x0" ∷ codes "0xffffffff" ∷ codes "0x00ab" ∷ codes "0x" ∷ codes "0x123456789" ∷ codes "0xAB" ∷ codes "1x0" ∷ [])
    ≡ Some 0 ∷ Some 0xffff_ffff ∷ Some 0xab ∷ replicate 4 None
unfolding hex_value is_address address_value
hexadecimal = refl

decimal :
    map (number_in 0 1000) (codes "0" ∷ codes "1000" ∷ codes "1001" ∷ codes "00" ∷ codes "+1" ∷ codes "" ∷ [])
    ≡ Some 0 ∷ Some 1000 ∷ replicate 4 None
unfolding decimal_value is_number_in
decimal = refl
