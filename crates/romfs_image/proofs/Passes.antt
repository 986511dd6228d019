-- The walk over the text of nodes, header by header.
use Rattle.std.proofs.Common.{◌≡◌, ℕ, suc, ◌+◌, ◌*◌, ◌/◌, ◌%◌, ◌^◌, ◌<◌, ◌≤◌, Bool, true, false, ◌&&◌, ◌==◌, if◌then◌else◌, List, [], ◌∷◌, ◌++◌, length, drop, append_assoc, refl, sym, ap, ◌∙◌, arith}
use Rattle.std.specs.Prelude.{None, codes, nat_lt, nat_le}
use Rattle.std.specs.List.{list_any}
use Rattle.std.proofs.lemmas.Bool.{le-ltb, eq-eqb, ne_eqb}
use Rattle.std.proofs.lemmas.List.{length-append}
use Rattle.romfs_image.specs.declared.level.Level.{Level}
use Rattle.romfs_image.specs.declared.place.Place.{Place}
use Rattle.romfs_image.specs.declared.node.RomKind.{RomKind}
use Rattle.romfs_image.specs.declared.node.RomKind.TheVariants.{Dir, File}
use Rattle.romfs_image.specs.Header.{Header}
use Rattle.romfs_image.specs.Fault.{is_dots, is_bad_name, is_node}
use Rattle.romfs_image.specs.Walk.{Entry, pending, levels_behind, entries_behind, repeat_fault, is_named, walk}
use Rattle.romfs_image.specs.Nodes.{RomValue}
use Rattle.romfs_image.specs.Text.{with_padding, header_text, header_len, file_bits, dots_text, node_text}
use Rattle.romfs_image.proofs.TextLengths.{length-header_text, length-with_padding}
use Rattle.romfs_image.proofs.Walks.{no_fault, walk_taken}
use Rattle.romfs_image.proofs.Names.{none_passed, none_new}
use Rattle.romfs_image.proofs.Written.{IsName, Stands, behind_front, read_header, header_back, sound_back}

-- the walk goes on behind a header without a fault
taken : (k : ℕ) (y : List ℕ) (before at word info size : ℕ) (name rest : List ℕ) (folder : ℕ) (levels : List Level) (found : List Entry)
    → Stands y at word info size name rest → before < at → is_bad_name (read_header at word info size name) ≡ false
    → ((word % 8 == 2) && nat_lt (length rest) size) ≡ false → repeat_fault folder (read_header at word info size name) found ≡ None
    → walk (suc k) y before (record { at = at; folder = folder } ∷ levels) found
    ≡ walk k y at (levels_behind (read_header at word info size name) folder (length found + 1) levels) (entries_behind (read_header at word info size name) (record { at = at; folder = folder }) found)
taken k y before at word info size name rest folder levels found is later good fits new =
    let h = header_back y at word info size name rest is in
    let level : Level = record { at = at; folder = folder } in
    walk_taken k y before level levels found (no_fault y before level found (read_header at word info size name) (sym h) (sound_back y before at word info size name rest is later good fits) new)
    ∙ ap (λ (g : Header). walk k y at (levels_behind g folder (length found + 1) levels) (entries_behind g level found)) h

-- ---- `.` and `..`

-- a name that is passed over
pub record IsDots (name : List ℕ) : Type 0 where
  pub dots : is_dots name ≡ true
  pub ended : list_any (λ b. b == 0) name ≡ false
  pub whole : list_any (λ b. b == 47) name ≡ false
  pub some : (length name == 0) ≡ false
  pub few : nat_lt 255 (length name) ≡ false

pub one_dot : IsDots (codes ".")
unfolding is_dots
one_dot = record { dots = refl; ended = refl; whole = refl; some = refl; few = refl }

pub two_dots : IsDots (codes "..")
unfolding is_dots
two_dots = record { dots = refl; ended = refl; whole = refl; some = refl; few = refl }

dots_good : (at word info size : ℕ) (name : List ℕ) → IsDots name → word % 8 ≤ 1 → is_bad_name (read_header at word info size name) ≡ false
unfolding is_bad_name
dots_good at word info size name is kind = rw (is.some, is.few, is.whole, is.dots, le-ltb 1 (word % 8) kind) refl

dots_passed : (at word info size : ℕ) (name : List ℕ) → IsDots name → is_node (read_header at word info size name) ≡ false
unfolding is_node
dots_passed at word info size name is = rw is.dots (none (nat_le (word % 8) 2))
  where
    none : (b : Bool) → (b && false) ≡ false
    none true = refl
    none false = refl

-- they are passed over
pub dots_taken : (k : ℕ) (y : List ℕ) (before at word info : ℕ) (name rest : List ℕ) (folder : ℕ) (levels : List Level) (found : List Entry)
    → IsDots name → drop at y ≡ header_text word info 0 name ++ rest → word < 2 ^ 32 → word % 8 ≤ 1 → before < at
    → walk (suc k) y before (record { at = at; folder = folder } ∷ levels) found ≡ walk k y at (pending (word / 16 * 16) folder levels) found
dots_taken k y before at word info name rest folder levels found is here small kind later =
    let h = read_header at word info 0 name in
    let passed : is_node h ≡ false = dots_passed at word info 0 name is in
    let stands : Stands y at word info 0 name rest = record { here = here; small_word = small; small_size = omega arith; ended = is.ended } in
    let no_file : (word % 8 == 2) ≡ false = ne_eqb (word % 8) 2 (λ e. absurd (omega (arith, e, kind))) in
    taken k y before at word info 0 name rest folder levels found stands later (dots_good at word info 0 name is kind) (ap (λ b. b && nat_lt (length rest) 0) no_file) (none_passed folder h found passed)
    ∙ (λ i. walk k y at (if passed i && h.kind == 1 then pending h.info (length found + 1) (pending h.next folder levels) else pending h.next folder levels) (if passed i then found ++ record { folder = folder; at = at; header = h } ∷ [] else found))

-- ---- nodes

-- the header of a node
abbrev pub header_of : RomKind → Place → RomValue → Header
header_of Dir p n = record { next = p.next; kind = 1; exec = true; info = p.at + header_len n.name; size = 0; name = n.name; body = p.at + header_len n.name }
header_of File p n = record { next = p.next; kind = 2; exec = n.exec; info = 0; size = length n.bytes; name = n.name; body = p.at + header_len n.name }

abbrev pub entry_of : Place → RomValue → Entry
entry_of p n = record { folder = n.parent; at = p.at; header = header_of n.kind p n }

-- a place on multiples of 16, in an image that isn't too large
pub record IsPlace (p : Place) (n : RomValue) : Type 0 where
  pub at : p.at % 16 ≡ 0
  pub next : p.next % 16 ≡ 0
  pub first : p.first % 16 ≡ 0
  pub few_at : p.at < 2 ^ 30
  pub few_next : p.next < 2 ^ 30
  pub few_first : p.first < 2 ^ 30
  pub few_bytes : length n.bytes < 2 ^ 30

name_good : (at word info size : ℕ) (name : List ℕ) → IsName name → is_bad_name (read_header at word info size name) ≡ false
unfolding is_bad_name
name_good at word info size name is =
    let some : (length name == 0) ≡ false = ne_eqb (length name) 0 (λ e. absurd (omega (arith, e, is.some))) in
    rw (some, le-ltb 255 (length name) is.few, is.whole, is.other) refl

name_node : (h : Header) → IsName h.name → nat_le h.kind 2 ≡ true → is_node h ≡ true
unfolding is_node
name_node h is kind = rw (kind, is.other) refl

pub file_taken : (k : ℕ) (y : List ℕ) (before : ℕ) (p : Place) (n : RomValue) (rest : List ℕ) (levels : List Level) (found : List Entry)
    → n.kind ≡ File → IsPlace p n → IsName n.name → list_any (is_named n.parent n.name) found ≡ false → drop p.at y ≡ node_text p n ++ rest → before < p.at
    → walk (suc k) y before (record { at = p.at; folder = n.parent } ∷ levels) found ≡ walk k y p.at (pending p.next n.parent levels) (found ++ entry_of p n ∷ [])
unfolding node_text
file_taken k y before p n rest levels found kind place name new here later =
    let word = p.next + file_bits n.exec in
    let level : Level = record { at = p.at; folder = n.parent } in
    let text : drop p.at y ≡ header_text word 0 (length n.bytes) n.name ++ (with_padding n.bytes ++ rest) =
    here ∙ rw kind (append_assoc (header_text word 0 (length n.bytes) n.name) (with_padding n.bytes) rest) in
    let bits : (word < 2 ^ 32) × (word / 16 * 16 ≡ p.next) × (word % 8 ≡ 2) × ((word / 8 % 2 == 1) ≡ n.exec) = by n.exec in
    let stands : Stands y p.at word 0 (length n.bytes) n.name (with_padding n.bytes ++ rest) = record { here = text; small_word = bits.0; small_size = omega (arith, place.few_bytes); ended = name.ended } in
    let same : read_header p.at word 0 (length n.bytes) n.name ≡ header_of File p n = (λ i. record { next = bits.1 i; kind = bits.2 i; exec = bits.3 i; info = 0; size = length n.bytes; name = n.name; body = p.at + header_len n.name }) in
    let node : is_node (read_header p.at word 0 (length n.bytes) n.name) ≡ true = ap is_node same ∙ name_node (header_of File p n) name refl in
    let fits : ((word % 8 == 2) && nat_lt (length (with_padding n.bytes ++ rest)) (length n.bytes)) ≡ false =
    rw (eq-eqb (word % 8) 2 bits.2) (le-ltb (length (with_padding n.bytes ++ rest)) (length n.bytes) (omega (arith, length-append (with_padding n.bytes) rest, length-with_padding n.bytes))) in
    taken k y before p.at word 0 (length n.bytes) n.name (with_padding n.bytes ++ rest) n.parent levels found stands later (name_good p.at word 0 (length n.bytes) n.name name) fits
    (none_new n.parent (read_header p.at word 0 (length n.bytes) n.name) found new)
    ∙ ap (λ (g : Header). walk k y p.at (levels_behind g n.parent (length found + 1) levels) (entries_behind g level found)) same
    ∙ (let is : is_node (header_of File p n) ≡ true = name_node (header_of File p n) name refl in
    rw (is, kind) refl)
  where
    by : (exec : Bool) → (p.next + file_bits exec < 2 ^ 32) × ((p.next + file_bits exec) / 16 * 16 ≡ p.next) × ((p.next + file_bits exec) % 8 ≡ 2) × (((p.next + file_bits exec) / 8 % 2 == 1) ≡ exec)
    by true = (omega (arith, place.few_next), omega (arith, place.next), omega (arith, place.next), eq-eqb ((p.next + 10) / 8 % 2) 1 (omega (arith, place.next)))
    by false = (omega (arith, place.few_next), omega (arith, place.next), omega (arith, place.next), ne_eqb ((p.next + 2) / 8 % 2) 1 (λ e. absurd (omega (arith, place.next, e))))

-- the headers of a folder's text, one behind the other
pub record IsFolderText (y : List ℕ) (p : Place) (n : RomValue) (rest : List ℕ) : Type 0 where
  pub own : drop p.at y ≡ header_text (p.next + 9) (p.at + header_len n.name) 0 n.name ++ (dots_text (p.at + header_len n.name) p.at p.parent p.first ++ rest)
  pub one : drop (p.at + header_len n.name) y ≡ header_text (p.at + header_len n.name + 32) p.at 0 (codes ".") ++ (header_text p.first p.parent 0 (codes "..") ++ rest)
  pub two : drop (p.at + header_len n.name + 32) y ≡ header_text p.first p.parent 0 (codes "..") ++ rest

pub folder_text : (y : List ℕ) (p : Place) (n : RomValue) (rest : List ℕ) → n.kind ≡ Dir → drop p.at y ≡ node_text p n ++ rest → IsFolderText y p n rest
unfolding node_text dots_text
folder_text y p n rest kind here =
    let list = p.at + header_len n.name in
    let front = header_text (p.next + 9) list 0 n.name in
    let one = header_text (list + 32) p.at 0 (codes ".") in
    let two = header_text p.first p.parent 0 (codes "..") in
    let text : drop p.at y ≡ front ++ ((one ++ two) ++ rest) = here ∙ rw kind (append_assoc front (one ++ two) rest) in
    let dots = behind_front y front ((one ++ two) ++ rest) p.at (header_len n.name) (length-header_text (p.next + 9) list 0 n.name) text ∙ append_assoc one two rest in
    record { own = text; one = dots; two = behind_front y one (two ++ rest) list 32 (length-header_text (list + 32) p.at 0 (codes ".")) dots }

-- it is read as the node's header
pub folder_read : (p : Place) (n : RomValue) → IsPlace p n → length n.name ≤ 255 → read_header p.at (p.next + 9) (p.at + header_len n.name) 0 n.name ≡ header_of Dir p n
folder_read p n place few =
    let next : (p.next + 9) / 16 * 16 ≡ p.next = omega (arith, place.next) in
    let type : (p.next + 9) % 8 ≡ 1 = omega (arith, place.next) in
    let exec : ((p.next + 9) / 8 % 2 == 1) ≡ true = eq-eqb ((p.next + 9) / 8 % 2) 1 (omega (arith, place.next)) in
    let info : (p.at + header_len n.name) % 2 ^ 32 / 16 * 16 ≡ p.at + header_len n.name = omega (arith, place.at, place.few_at, few) in
    λ i. record { next = next i; kind = type i; exec = exec i; info = info i; size = 0; name = n.name; body = p.at + header_len n.name }

pub folder_stands : (y : List ℕ) (p : Place) (n : RomValue) (rest : List ℕ) → IsPlace p n → IsName n.name → IsFolderText y p n rest
    → Stands y p.at (p.next + 9) (p.at + header_len n.name) 0 n.name (dots_text (p.at + header_len n.name) p.at p.parent p.first ++ rest)
folder_stands y p n rest place name text = record { here = text.own; small_word = omega (arith, place.few_next); small_size = omega arith; ended = name.ended }

-- the walk takes the folder, and passes over its `.` and `..`
pub folder_taken : (k : ℕ) (y : List ℕ) (before : ℕ) (p : Place) (n : RomValue) (rest : List ℕ) (levels : List Level) (found : List Entry)
    → n.kind ≡ Dir → IsPlace p n → IsName n.name → list_any (is_named n.parent n.name) found ≡ false → drop p.at y ≡ node_text p n ++ rest → before < p.at
    → walk (suc (suc (suc k))) y before (record { at = p.at; folder = n.parent } ∷ levels) found
    ≡ walk k y (p.at + header_len n.name + 32) (pending p.first (length found + 1) (pending p.next n.parent levels)) (found ++ entry_of p n ∷ [])
folder_taken k y before p n rest levels found kind place name new here later =
    let word = p.next + 9 in
    let list = p.at + header_len n.name in
    let number = length found + 1 in
    let level : Level = record { at = p.at; folder = n.parent } in
    let text = folder_text y p n rest kind here in
    let two = header_text p.first p.parent 0 (codes "..") in
    let dots = dots_text list p.at p.parent p.first ++ rest in
    let no_file : (word % 8 == 2) ≡ false = ne_eqb (word % 8) 2 (λ e. absurd (omega (arith, e, place.next))) in
    let more = found ++ entry_of p n ∷ [] in
    let behind = pending p.next n.parent levels in
    taken (suc (suc k)) y before p.at word list 0 n.name dots n.parent levels found (folder_stands y p n rest place name text) later (name_good p.at word list 0 n.name name)
    (ap (λ b. b && nat_lt (length dots) 0) no_file) (none_new n.parent (read_header p.at word list 0 n.name) found new)
    ∙ ap (λ (g : Header). walk (suc (suc k)) y p.at (levels_behind g n.parent number levels) (entries_behind g level found)) (folder_read p n place name.few)
    ∙ (let is : is_node (header_of Dir p n) ≡ true = name_node (header_of Dir p n) name refl in
    rw (is, kind) refl)
    ∙ ap (λ ls. walk (suc (suc k)) y p.at ls more) (goes_on list number behind (omega arith))
    ∙ dots_taken (suc k) y p.at list (list + 32) p.at (codes ".") (two ++ rest) number behind more one_dot text.one (omega (arith, place.few_at, name.few)) (omega (arith, place.at)) (omega arith)
    ∙ ap (λ at. walk (suc k) y list (pending at number behind) more) (let e : (list + 32) / 16 * 16 ≡ list + 32 = omega (arith, place.at) in e)
    ∙ ap (λ ls. walk (suc k) y list ls more) (goes_on (list + 32) number behind (omega arith))
    ∙ dots_taken k y list (list + 32) p.first p.parent (codes "..") rest number behind more two_dots text.two (omega (arith, place.few_first)) (omega (arith, place.first)) (omega arith)
    ∙ ap (λ at. walk k y (list + 32) (pending at number behind) more) (let e : p.first / 16 * 16 ≡ p.first = omega (arith, place.first) in e)
  where
    goes_on : (at folder : ℕ) (levels : List Level) → 0 < at → pending at folder levels ≡ record { at = at; folder = folder } ∷ levels
    goes_on at folder levels some = rw (ne_eqb at 0 (λ e. absurd (omega (arith, e, some)))) refl
