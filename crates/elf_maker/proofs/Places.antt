-- Where the sections of a file stand.
use Rattle.std.proofs.Common.{◌≡◌, ℕ, zero, suc, ◌+◌, ◌*◌, ◌^◌, ◌<◌, ◌≤◌, List, [], ◌∷◌, ◌++◌, length, take, drop, Some, refl, sym, ap, ◌∙◌, append_assoc, arith}
use Rattle.std.specs.List.{flat_map, slice_get}
use Rattle.std.proofs.lemmas.List.{append-nil, length-append, drop-append-le}
use Rattle.std.proofs.lemmas.Option.{slice_get_within, get_or_from_slice_get}
use Rattle.byteorder.specs.Numbers.{little_number-reads_back}
use Rattle.elf32_reader.specs.declared.section.Section.{Section}
use Rattle.elf32_reader.specs.Header.{entry_of, table_of, count_of}
use Rattle.elf32_reader.specs.Sections.{header_at, section}
use Rattle.elf_maker.specs.Spelling.{Item, placed, contents, words_text, halves_text, header_text, section_text, file_text, null_section}
use Rattle.elf_maker.proofs.Bytes.{drop_behind, header_read, entry_at, piece_at, FitsSection}
use Rattle.elf_maker.proofs.Laid.{length-placed, flat_map_room}
use Rattle.byte_words.specs.Numbers.{number_at}

-- ---- the file header

pub length-header_text : (entry table count : ℕ) → length (header_text entry table count) ≡ 52
unfolding header_text words_text halves_text
length-header_text entry table count = refl

pub length-section_text : (s : Section) → length (section_text s) ≡ 40
unfolding section_text words_text
length-section_text s = refl

pub entry_read : (entry table count : ℕ) (rest : List ℕ) → entry < 2 ^ 32 → entry_of (header_text entry table count ++ rest) ≡ entry
unfolding entry_of header_text words_text halves_text number_at
entry_read entry table count rest fits =
    little_number-reads_back 4 entry (words_text (0 ∷ table ∷ 0 ∷ []) ++ (halves_text (52 ∷ 0 ∷ 0 ∷ 40 ∷ count ∷ 0 ∷ []) ++ rest)) fits

pub table_read : (entry table count : ℕ) (rest : List ℕ) → table < 2 ^ 32 → table_of (header_text entry table count ++ rest) ≡ table
unfolding table_of header_text words_text halves_text number_at
table_read entry table count rest fits =
    little_number-reads_back 4 table (words_text (0 ∷ []) ++ (halves_text (52 ∷ 0 ∷ 0 ∷ 40 ∷ count ∷ 0 ∷ []) ++ rest)) fits

pub count_read : (entry table count : ℕ) (rest : List ℕ) → count < 2 ^ 16 → count_of (header_text entry table count ++ rest) ≡ count
unfolding count_of header_text words_text halves_text number_at
count_read entry table count rest fits = little_number-reads_back 2 count (halves_text (0 ∷ []) ++ rest) fits

-- ---- sections and their contents

placed_at : (at : ℕ) (items : List Item) (i : ℕ) (x : Item) → slice_get items i ≡ Some x → slice_get (placed at items) i ≡ Some (record x.header { offset = at + length (contents (take i items)) })
placed_at at [] i x is = absurd (cc)
placed_at at (y ∷ items) zero x is =
    let same : y ≡ x = cc in
    ap (λ n. Some (record y.header { offset = n })) (let e : at ≡ at + 0 = omega arith in e) ∙ ap (λ (z : Item). Some (record z.header { offset = at + 0 })) same
placed_at at (y ∷ items) (suc i) x is =
    placed_at (at + length y.bytes) items i x is
    ∙ ap (λ n. Some (record x.header { offset = n }))
    (let e : at + length y.bytes + length (contents (take i items)) ≡ at + length (y.bytes ++ contents (take i items)) = omega (arith, length-append y.bytes (contents (take i items))) in e)

content_room : (items : List Item) (i : ℕ) (x : Item) → slice_get items i ≡ Some x → length (contents (take i items)) + length x.bytes ≤ length (contents items)
content_room items i x is =
    omega (arith, flat_map_room (λ (z : Item). z.bytes) items i x (slice_get_within items i x is), ap (λ (z : Item). length z.bytes) (get_or_from_slice_get items i x x is))

-- a file of these sections
abbrev pub file_of : ℕ → List Item → List ℕ
file_of entry items = file_text entry (null_section ∷ placed 52 items) (contents items)

-- its numbers fit
pub record IsSound (entry : ℕ) (items : List Item) : Type 0 where
  pub entry_fits : entry < 2 ^ 32
  pub count : length items < 4000
  pub body : length (contents items) < 2 ^ 30
  pub headers : (i : ℕ) (x : Item) → slice_get items i ≡ Some x → FitsSection x.header

-- section k of the file e is x, with its content at its offset
pub record Stands (e : List ℕ) (k : ℕ) (x : Item) : Type 0 where
  pub offset : ℕ
  pub is : section e k ≡ record x.header { offset = offset }
  pub rest : List ℕ
  pub here : drop offset e ≡ x.bytes ++ rest
  pub room : offset + length x.bytes ≤ length e

length-sections : (items : List Item) → length (null_section ∷ placed 52 items) ≡ 1 + length items
length-sections items = omega (arith, length-placed 52 items)

pub length-table : (ss : List Section) → length (flat_map section_text ss) ≡ 40 * length ss
length-table [] = refl
length-table (s ∷ ss) = omega (arith, length-append (section_text s) (flat_map section_text ss), length-section_text s, length-table ss)

pub length-file : (entry : ℕ) (items : List Item) → length (file_of entry items) ≡ 52 + length (contents items) + 40 * (1 + length items)
unfolding file_text
length-file entry items =
    let ss = null_section ∷ placed 52 items in
    let body = contents items in
    omega (
      arith,
      length-append (header_text entry (52 + length body) (length ss)) (body ++ flat_map section_text ss),
      length-header_text entry (52 + length body) (length ss),
      length-append body (flat_map section_text ss),
      length-table ss,
      length-placed 52 items,
    )

pub entry_is : (entry : ℕ) (items : List Item) → IsSound entry items → entry_of (file_of entry items) ≡ entry
unfolding file_text
entry_is entry items sound =
    entry_read entry (52 + length (contents items)) (length (null_section ∷ placed 52 items)) (contents items ++ flat_map section_text (null_section ∷ placed 52 items)) sound.entry_fits

pub table_is : (entry : ℕ) (items : List Item) → IsSound entry items → table_of (file_of entry items) ≡ 52 + length (contents items)
unfolding file_text
table_is entry items sound =
    table_read entry (52 + length (contents items)) (length (null_section ∷ placed 52 items)) (contents items ++ flat_map section_text (null_section ∷ placed 52 items)) (omega (arith, sound.body))

pub count_is : (entry : ℕ) (items : List Item) → IsSound entry items → count_of (file_of entry items) ≡ 1 + length items
unfolding file_text
count_is entry items sound =
    count_read entry (52 + length (contents items)) (length (null_section ∷ placed 52 items)) (contents items ++ flat_map section_text (null_section ∷ placed 52 items)) (omega (arith, sound.count, length-placed 52 items))
    ∙ length-sections items

header_here : (entry : ℕ) (items : List Item) (k : ℕ) (s : Section) → slice_get (null_section ∷ placed 52 items) k ≡ Some s
    → drop (52 + length (contents items) + 40 * k) (file_of entry items) ≡ section_text s ++ (flat_map section_text (drop (suc k) (null_section ∷ placed 52 items)) ++ [])
unfolding file_text
header_here entry items k s is =
    let ss = null_section ∷ placed 52 items in
    let body = contents items in
    let prefix = header_text entry (52 + length body) (length ss) in
    ap (drop (52 + length body + 40 * k)) (sym (append_assoc prefix body (flat_map section_text ss)))
    ∙ drop_behind (prefix ++ body) (flat_map section_text ss) (52 + length body) (40 * k) (omega (arith, length-append prefix body, length-header_text entry (52 + length body) (length ss)))
    ∙ ap (drop (40 * k)) (sym (append-nil (flat_map section_text ss)))
    ∙ entry_at section_text 40 length-section_text ss k s [] is

section_is : (entry : ℕ) (items : List Item) (k : ℕ) (s : Section) → IsSound entry items → slice_get (null_section ∷ placed 52 items) k ≡ Some s → FitsSection s → section (file_of entry items) k ≡ s
unfolding section
section_is entry items k s sound is fits =
    ap (λ n. header_at (file_of entry items) (n + 40 * k)) (table_is entry items sound)
    ∙ header_read (file_of entry items) (52 + length (contents items) + 40 * k) s (flat_map section_text (drop (suc k) (null_section ∷ placed 52 items)) ++ []) (header_here entry items k s is) fits

null_fits : FitsSection null_section
null_fits = record { name = omega arith; kind = omega arith; flags = omega arith; addr = omega arith; offset = omega arith; size = omega arith; link = omega arith; info = omega arith; addralign = omega arith; entsize = omega arith }

pub null_is : (entry : ℕ) (items : List Item) → IsSound entry items → section (file_of entry items) 0 ≡ null_section
null_is entry items sound = section_is entry items 0 null_section sound refl null_fits

moved_fits : (s : Section) (n : ℕ) → FitsSection s → n < 2 ^ 32 → FitsSection (record s { offset = n })
moved_fits s n f below = record { name = f.name; kind = f.kind; flags = f.flags; addr = f.addr; offset = below; size = f.size; link = f.link; info = f.info; addralign = f.addralign; entsize = f.entsize }

content_here : (entry : ℕ) (items : List Item) (i : ℕ) (x : Item) → slice_get items i ≡ Some x
    → drop (52 + length (contents (take i items))) (file_of entry items) ≡ x.bytes ++ (contents (drop (suc i) items) ++ flat_map section_text (null_section ∷ placed 52 items))
unfolding file_text
content_here entry items i x is =
    let ss = null_section ∷ placed 52 items in
    let body = contents items in
    let m = length (contents (take i items)) in
    drop_behind (header_text entry (52 + length body) (length ss)) (body ++ flat_map section_text ss) 52 m (length-header_text entry (52 + length body) (length ss))
    ∙ drop-append-le m body (flat_map section_text ss) (omega (arith, content_room items i x is))
    ∙ ap (λ bs. bs ++ flat_map section_text ss) (piece_at (λ (z : Item). z.bytes) items i x is)
    ∙ append_assoc x.bytes (contents (drop (suc i) items)) (flat_map section_text ss)

pub stands : (entry : ℕ) (items : List Item) (i : ℕ) (x : Item) → IsSound entry items → slice_get items i ≡ Some x → Stands (file_of entry items) (suc i) x
stands entry items i x sound is =
    let m = length (contents (take i items)) in
    let room : m + length x.bytes ≤ length (contents items) = content_room items i x is in
    record {
      offset = 52 + m;
      is = section_is entry items (suc i) (record x.header { offset = 52 + m }) sound (placed_at 52 items i x is) (moved_fits x.header (52 + m) (sound.headers i x is) (omega (arith, room, sound.body)));
      rest = contents (drop (suc i) items) ++ flat_map section_text (null_section ∷ placed 52 items);
      here = content_here entry items i x is;
      room = omega (arith, room, length-file entry items);
    }
