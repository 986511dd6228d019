-- When two ELF files say the same to the converter: the same entry, the same laid-out sections, in whatever order and under
-- whatever section numbers, and the same kept relocations, or of these what is needed that they record the same words. Names,
-- the symbols' numbers, sections that aren't loaded, and the order of relocations don't come in (System V ABI, ELF32,
-- "Sections", "Relocation"; RISC-V ELF psABI, "PC-Relative Symbol Addresses").
use Rattle.std.specs.Prelude.{◌≡◌, ℕ, ◌<◌, Bool, true, ◌&&◌, ◌||◌, List}
use Rattle.elf32_reader.specs.Header.{count_of, entry_of}
use Rattle.elf32_reader.specs.Relas.{is_kept, rela_count}
use Rattle.elf32_reader.specs.Sections.{section, is_stored, content}
use Rattle.flat_layout.specs.Numbering.{is_laid_out}
use Rattle.psabi_relocs.specs.declared.reloc.Reloc.{Reloc}
use Rattle.psabi_relocs.specs.Class.{is_moving}
use Rattle.psabi_relocs.specs.Row.{is_got_hi20, is_high, is_low}
use Rattle.psabi_relocs.specs.Reloc.{reloc}
use Rattle.psabi_relocs.specs.Effect.{is_pointer}
use Rattle.elf2flt_tool.specs.Word.{words, begins_at}

-- section j of the file f is laid out, as section i of the file e: address, size, flags, bytes
pub record IsTwin (e : List ℕ) (i : ℕ) (f : List ℕ) (j : ℕ) : Type 0 where
  pub below : j < count_of f
  pub laid : is_laid_out (section f j) ≡ true
  pub addr : (section f j).addr ≡ (section e i).addr
  pub size : (section f j).size ≡ (section e i).size
  pub flags : (section f j).flags ≡ (section e i).flags
  pub stored : is_stored (section f j) ≡ is_stored (section e i)
  pub content : is_stored (section e i) ≡ true → content f (section f j) ≡ content e (section e i)

pub record HasTwin (e : List ℕ) (i : ℕ) (f : List ℕ) : Type 0 where
  pub index : ℕ
  pub is : IsTwin e i f index

-- each laid-out section of e is one of f
abbrev pub HasSections : List ℕ → List ℕ → Type 0
HasSections e f = (i : ℕ) → i < count_of e → is_laid_out (section e i) ≡ true → HasTwin e i f

-- the same entry and the same laid-out sections
pub record HaveSameSections (e f : List ℕ) : Type 0 where
  pub entry : entry_of e ≡ entry_of f
  pub there : HasSections e f
  pub back : HasSections f e

-- ---- the kept relocations

-- entry m of section k of the file f is kept, as entry j of section i of the file e: the row of its type, its place, its addend,
-- and its symbol's value and class
pub record IsTwinReloc (e : List ℕ) (i j : ℕ) (f : List ℕ) (k m : ℕ) : Type 0 where
  pub kept : is_kept f k ≡ true
  pub below : m < rela_count f k
  pub same : reloc f k m ≡ reloc e i j

pub record HasTwinReloc (e : List ℕ) (i j : ℕ) (f : List ℕ) : Type 0 where
  pub section : ℕ
  pub index : ℕ
  pub is : IsTwinReloc e i j f section index

-- each kept relocation of e is one of f, in whatever section, at whatever index, and of a symbol of whatever number and name
abbrev pub HasRelocs : List ℕ → List ℕ → Type 0
HasRelocs e f = (i j : ℕ) → is_kept e i ≡ true → j < rela_count e i → HasTwinReloc e i j f

pub record Agrees (e f : List ℕ) : Type 0 where
  pub sections : HaveSameSections e f
  pub there : HasRelocs e f
  pub back : HasRelocs f e

-- entry j of section i is a kept high part at the place p
pub record IsHighAt (e : List ℕ) (p i j : ℕ) : Type 0 where
  pub kept : is_kept e i ≡ true
  pub below : j < rela_count e i
  pub high : is_high (reloc e i j).row ≡ true
  pub place : (reloc e i j).place ≡ p

-- No two sections have a high part, GOT_HI20 or PCREL_HI20, at one place. Of two files that agree one has to be so
-- (DifferThoughAgreed of Laws.antt): a low part belongs to a high part of its own section, and says where the slot of a GOT_HI20
-- is. Where two sections have high parts at one place, low parts that change places between them can say another slot, though
-- each entry stays as it is. Where one section has them all, it has all their low parts, and these say one slot, in the other
-- file too.
abbrev pub HasHighsApart : List ℕ → Type 0
HasHighsApart e = (p i j k m : ℕ) → IsHighAt e p i j → IsHighAt e p k m → i ≡ k

-- ---- the relocations that record a word

-- How much of that is needed. An entry that records no word isn't asked for: it decides only whether a file is accepted. Of one
-- that does it is the row of its type, its place, and that its symbol moves; not the value and the addend, since the linked word
-- has what they give. And a GOT_HI20 keeps one of its low parts: then two sections may have high parts at one place.

-- a pointer, or an entry that has a slot, of a symbol that moves
abbrev pub records_word : Reloc → Bool
records_word r = is_moving r.class && (is_pointer r.row || is_got_hi20 r.row)

-- section i of e and section k of f have a low part of the place p in common: the row of its type, and where it stands
pub record SharesLow (e : List ℕ) (i : ℕ) (f : List ℕ) (k p : ℕ) : Type 0 where
  pub index : ℕ
  pub other : ℕ
  pub below : index < rela_count e i
  pub other_below : other < rela_count f k
  pub low : is_low (reloc e i index).row ≡ true
  pub names : (reloc e i index).value ≡ p
  pub other_names : (reloc f k other).value ≡ p
  pub row : (reloc f k other).row ≡ (reloc e i index).row
  pub place : (reloc f k other).place ≡ (reloc e i index).place

-- entry m of section k of the file f is kept, and records a word as entry j of section i of the file e does
pub record RecordsAs (e : List ℕ) (i j : ℕ) (f : List ℕ) (k m : ℕ) : Type 0 where
  pub kept : is_kept f k ≡ true
  pub below : m < rela_count f k
  pub row : (reloc f k m).row ≡ (reloc e i j).row
  pub place : (reloc f k m).place ≡ (reloc e i j).place
  pub moves : is_moving (reloc f k m).class ≡ is_moving (reloc e i j).class
  pub low : is_got_hi20 (reloc e i j).row ≡ true → SharesLow e i f k (reloc e i j).place

pub record HasRecorder (e : List ℕ) (i j : ℕ) (f : List ℕ) : Type 0 where
  pub section : ℕ
  pub index : ℕ
  pub is : RecordsAs e i j f section index

-- each word that a relocation of e records, one of f records
abbrev pub HasRecorders : List ℕ → List ℕ → Type 0
HasRecorders e f = (i j : ℕ) → is_kept e i ≡ true → j < rela_count e i → records_word (reloc e i j) ≡ true → HasRecorder e i j f

pub record RecordsSame (e f : List ℕ) : Type 0 where
  pub sections : HaveSameSections e f
  pub there : HasRecorders e f
  pub back : HasRecorders f e

-- ---- the recorded words

pub record SaysSame (e f : List ℕ) : Type 0 where
  pub sections : HaveSameSections e f
  -- recorded words begin at the same numbers, by whatever relocations
  pub words : (n : ℕ) → begins_at (words e) n ≡ begins_at (words f) n
