-- Equal core files tell of equal processes: what stands in front of two equal texts is equal where it is as long.
use Rattle.std.proofs.Common.{◌≡◌, ℕ, zero, suc, ◌+◌, ◌*◌, ◌^◌, ◌<◌, ◌≤◌, Bool, true, false, List, [], ◌∷◌, ◌++◌, length, take, drop, replicate, append_assoc, refl, sym, ap, ◌∙◌, arith}
use Rattle.std.specs.Prelude.{slice_index, codes}
use Rattle.std.specs.List.{All, flat_map}
use Rattle.std.proofs.lemmas.List.{append_cancel_left, length-append, length-drop}
use Rattle.std.proofs.lemmas.List.Concat.{flat_map-cons}
use Rattle.std.proofs.Math.Seq.{drop-append_seam, take-append_seam}
use Rattle.byteorder.specs.Endian.{little_bytes, little_number}
use Rattle.byteorder.specs.Numbers.{little_number-reads_back}
use Rattle.core_file.specs.Text.{CoreValue, SegmentValue, words_text, halves_text, header_text, program_text, note_at, note_len, flags_of, load_text, loads_text, status_text, note_text, bytes_of, headers_text, core_text}
use Rattle.core_file.specs.Given.{FitsFile}
use Rattle.core_file.specs.Laws.{IsHeld, SaySame, TextTells}

-- what is as long in front of two equal lists is equal, and so is what is behind
split : {X : Type 0} (a b r s : List X) → length a ≡ length b → a ++ r ≡ b ++ s → (a ≡ b) × (r ≡ s)
split a b r s long same =
    let front : a ≡ b = sym (take-append_seam a r) ∙ ap (take (length a)) same ∙ ap (λ k. take k (b ++ s)) long ∙ take-append_seam b s in
    (front, append_cancel_left b r s (sym (ap (λ l. l ++ r) front) ∙ same))

-- the number in front of two equal texts
number_in_front : (n a b : ℕ) (r s : List ℕ) → a < 256 ^ n → b < 256 ^ n → little_bytes n a ++ r ≡ little_bytes n b ++ s → (a ≡ b) × (r ≡ s)
number_in_front n a b r s small less same =
    let here : a ≡ b = sym (little_number-reads_back n a r small) ∙ ap (little_number n) same ∙ little_number-reads_back n b s less in
    (here, append_cancel_left (little_bytes n b) r s (sym (ap (λ k. little_bytes n k ++ r) here) ∙ same))

-- each number has at most n bytes
abbrev Fit : ℕ → List ℕ → Type 0
Fit n [] = Unit {0}
Fit n (x ∷ xs) = (x < 256 ^ n) × Fit n xs

fit_all : (n : ℕ) (xs : List ℕ) → All (λ x. x < 256 ^ n) xs → Fit n xs
fit_all n [] all = tt
fit_all n (x ∷ xs) all = (all 0 0 (omega arith), fit_all n xs (λ k d less. all (suc k) d (omega (arith, less))))

-- the numbers in front of two equal texts
numbers_in_front : (n : ℕ) (xs ys r s : List ℕ) → length xs ≡ length ys → Fit n xs → Fit n ys
    → flat_map (little_bytes n) xs ++ r ≡ flat_map (little_bytes n) ys ++ s → (xs ≡ ys) × (r ≡ s)
numbers_in_front n [] [] r s long fit fits same = (refl, same)
numbers_in_front n [] (y ∷ ys) r s long fit fits same = absurd (let f : ⊥ = omega (arith, long) in f)
numbers_in_front n (x ∷ xs) [] r s long fit fits same = absurd (let f : ⊥ = omega (arith, long) in f)
numbers_in_front n (x ∷ xs) (y ∷ ys) r s long fit fits same =
    let f = little_bytes n in
    let apart : f x ++ (flat_map f xs ++ r) ≡ f y ++ (flat_map f ys ++ s) =
    sym (append_assoc (f x) (flat_map f xs) r) ∙ same ∙ append_assoc (f y) (flat_map f ys) s in
    let first = number_in_front n x y (flat_map f xs ++ r) (flat_map f ys ++ s) fit.0 fits.0 apart in
    let rest = numbers_in_front n xs ys r s (omega (arith, long)) fit.1 fits.1 first.1 in
    (ap (λ k. k ∷ xs) first.0 ∙ ap (λ l. y ∷ l) rest.0, rest.1)

-- ---- segments

-- all but the bytes themselves
abbrev Alike : List SegmentValue → List SegmentValue → Type 0
Alike [] [] = Unit {0}
Alike [] (t ∷ ts) = ⊥
Alike (s ∷ ss) [] = ⊥
Alike (s ∷ ss) (t ∷ ts) = (s.addr ≡ t.addr) × (length s.bytes ≡ length t.bytes) × (s.write ≡ t.write) × Alike ss ts

flags_tell : (a b : Bool) → flags_of a ≡ flags_of b → a ≡ b
flags_tell false false same = refl
flags_tell true true same = refl
flags_tell false true same = absurd (let f : ⊥ = omega (arith, same) in f)
flags_tell true false same = absurd (let f : ⊥ = omega (arith, same) in f)

flags_fit : (w : Bool) → flags_of w < 256 ^ 4
flags_fit false = omega arith
flags_fit true = omega arith

abbrev AreLow : List SegmentValue → Type 0
AreLow ss = All (λ s. s.addr < 2 ^ 32) ss

no_segment : SegmentValue
no_segment = record { addr = 0; write = false; bytes = [] }

-- the words of a segment's program header
abbrev load_words : ℕ → SegmentValue → List ℕ
load_words at s = 1 ∷ at ∷ s.addr ∷ 0 ∷ length s.bytes ∷ length s.bytes ∷ flags_of s.write ∷ 1 ∷ []

load_fit : (at : ℕ) (s : SegmentValue) → at + length s.bytes < 2 ^ 32 → s.addr < 2 ^ 32 → Fit 4 (load_words at s)
load_fit at s here low = (omega arith, (omega (arith, here), (low, (omega arith, (omega (arith, here), (omega (arith, here), (flags_fit s.write, (omega arith, tt))))))))

low_behind : (s : SegmentValue) (ss : List SegmentValue) → AreLow (s ∷ ss) → AreLow ss
low_behind s ss low = λ k d less. low (suc k) d (omega (arith, less))

-- program headers in front of two equal texts
loads_tell : (ss ts : List SegmentValue) (at : ℕ) (r z : List ℕ) → length ss ≡ length ts → AreLow ss → AreLow ts
    → at + length (bytes_of ss) < 2 ^ 32 → at + length (bytes_of ts) < 2 ^ 32
    → loads_text at ss ++ r ≡ loads_text at ts ++ z → Alike ss ts × (r ≡ z)
unfolding load_text
loads_tell [] [] at r z long low lows fit fits same = (tt, same)
loads_tell [] (t ∷ ts) at r z long low lows fit fits same = absurd (let f : ⊥ = omega (arith, long) in f)
loads_tell (s ∷ ss) [] at r z long low lows fit fits same = absurd (let f : ⊥ = omega (arith, long) in f)
loads_tell (s ∷ ss) (t ∷ ts) at r z long low lows fit fits same =
    let behind = at + length s.bytes in
    let other = at + length t.bytes in
    let size = length-append s.bytes (bytes_of ss) in
    let sizes = length-append t.bytes (bytes_of ts) in
    let apart : load_text at s ++ (loads_text behind ss ++ r) ≡ load_text at t ++ (loads_text other ts ++ z) =
    sym (append_assoc (load_text at s) (loads_text behind ss) r) ∙ same ∙ append_assoc (load_text at t) (loads_text other ts) z in
    let first = numbers_in_front 4 (load_words at s) (load_words at t) (loads_text behind ss ++ r) (loads_text other ts ++ z) refl
    (load_fit at s (omega (arith, size, fit)) (low 0 no_segment (omega arith))) (load_fit at t (omega (arith, sizes, fits)) (lows 0 no_segment (omega arith))) apart in
    let bytes : length s.bytes ≡ length t.bytes = ap (λ l. slice_index l 4) first.0 in
    let next : loads_text behind ss ++ r ≡ loads_text behind ts ++ z = first.1 ∙ ap (λ k. loads_text k ts ++ z) (let e : other ≡ behind = omega (arith, bytes) in e) in
    let rest = loads_tell ss ts behind r z (omega (arith, long)) (low_behind s ss low) (low_behind t ts lows) (omega (arith, size, fit)) (omega (arith, sizes, fits, bytes)) next in
    ((ap (λ l. slice_index l 2) first.0, bytes, flags_tell s.write t.write (ap (λ l. slice_index l 6) first.0), rest.0), rest.1)

same_segment : (s t : SegmentValue) → s.addr ≡ t.addr → s.write ≡ t.write → s.bytes ≡ t.bytes → s ≡ t
same_segment s t addr write bytes =
    ap (λ (a : ℕ). let v : SegmentValue = record { addr = a; write = s.write; bytes = s.bytes } in v) addr
    ∙ ap (λ (w : Bool). let v : SegmentValue = record { addr = t.addr; write = w; bytes = s.bytes } in v) write
    ∙ ap (λ (b : List ℕ). let v : SegmentValue = record { addr = t.addr; write = t.write; bytes = b } in v) bytes

-- with equal bytes the segments are equal
bytes_tell : (ss ts : List SegmentValue) → Alike ss ts → bytes_of ss ≡ bytes_of ts → ss ≡ ts
bytes_tell [] [] alike same = refl
bytes_tell [] (t ∷ ts) alike same = absurd alike
bytes_tell (s ∷ ss) [] alike same = absurd alike
bytes_tell (s ∷ ss) (t ∷ ts) alike same =
    let apart = split s.bytes t.bytes (bytes_of ss) (bytes_of ts) alike.1 same in
    ap (λ v. v ∷ ss) (same_segment s t alike.0 alike.2 apart.0) ∙ ap (λ l. t ∷ l) (bytes_tell ss ts alike.3 apart.1)

-- ---- the whole text

abbrev header_front : List ℕ
header_front = 127 ∷ (codes "ELF" ++ (1 ∷ 1 ∷ 1 ∷ []) ++ replicate 9 0) ++ (halves_text (4 ∷ 243 ∷ []) ++ (words_text (1 ∷ 0 ∷ 52 ∷ 0 ∷ 0 ∷ []) ++ halves_text (52 ∷ 32 ∷ [])))

abbrev note_front : List ℕ
note_front = words_text (5 ∷ 204 ∷ 1 ∷ []) ++ (codes "CORE" ++ replicate 4 0)

fit_behind : (n : ℕ) (xs : List ℕ) → Fit n xs → Fit n (drop 1 xs)
fit_behind n [] fit = tt
fit_behind n (x ∷ xs) fit = fit.1

-- what a descriptor tells, and the bytes behind it
record Told (a b : CoreValue) (r z : List ℕ) : Type 0 where
  signal : a.signal ≡ b.signal
  pid : a.pid ≡ b.pid
  parent : a.parent ≡ b.parent
  pc : a.regs.pc ≡ b.regs.pc
  x : drop 1 a.regs.x ≡ drop 1 b.regs.x
  behind : r ≡ z

-- what stands in a descriptor behind pr_ppid and pr_pgrp to pr_cstime
abbrev registers_text : CoreValue → List ℕ
registers_text c = words_text (c.regs.pc ∷ drop 1 c.regs.x) ++ replicate 4 0

abbrev pids_text : CoreValue → List ℕ
pids_text c = words_text (0 ∷ 0 ∷ c.pid ∷ c.parent ∷ []) ++ (replicate 40 0 ++ registers_text c)

registers_fit : (c : CoreValue) → IsHeld c → Fit 4 (c.regs.pc ∷ drop 1 c.regs.x)
registers_fit c held = (held.pc, fit_behind 4 c.regs.x (fit_all 4 c.regs.x held.x))

status_tells : (a b : CoreValue) (r z : List ℕ) → IsHeld a → IsHeld b → status_text a ++ r ≡ status_text b ++ z → Told a b r z
unfolding status_text
status_tells a b r z ha hb same =
    let none : 0 < 256 ^ 4 = omega arith in
    let signals = numbers_in_front 4 (a.signal ∷ 0 ∷ 0 ∷ []) (b.signal ∷ 0 ∷ 0 ∷ []) ((halves_text (a.signal ∷ 0 ∷ []) ++ pids_text a) ++ r) ((halves_text (b.signal ∷ 0 ∷ []) ++ pids_text b) ++ z) refl
    (omega (arith, ha.signal), (none, (none, tt))) (omega (arith, hb.signal), (none, (none, tt))) same in
    let current = numbers_in_front 2 (a.signal ∷ 0 ∷ []) (b.signal ∷ 0 ∷ []) (pids_text a ++ r) (pids_text b ++ z) refl (ha.signal, (omega arith, tt)) (hb.signal, (omega arith, tt)) signals.1 in
    let pids = numbers_in_front 4 (0 ∷ 0 ∷ a.pid ∷ a.parent ∷ []) (0 ∷ 0 ∷ b.pid ∷ b.parent ∷ []) ((replicate 40 0 ++ registers_text a) ++ r) ((replicate 40 0 ++ registers_text b) ++ z) refl
    (none, (none, (ha.pid, (ha.parent, tt)))) (none, (none, (hb.pid, (hb.parent, tt)))) current.1 in
    let apart = append_cancel_left (replicate 40 0) (registers_text a ++ r) (registers_text b ++ z) pids.1 in
    let xs = a.regs.pc ∷ drop 1 a.regs.x in
    let ys = b.regs.pc ∷ drop 1 b.regs.x in
    let count : length xs ≡ length ys = omega (arith, length-drop 1 a.regs.x, length-drop 1 b.regs.x, ha.count, hb.count) in
    let regs = numbers_in_front 4 xs ys (replicate 4 0 ++ r) (replicate 4 0 ++ z) count (registers_fit a ha) (registers_fit b hb)
    (sym (append_assoc (words_text xs) (replicate 4 0) r) ∙ apart ∙ append_assoc (words_text ys) (replicate 4 0) z) in
    record {
      signal = ap (λ l. slice_index l 0) signals.0;
      pid = ap (λ l. slice_index l 2) pids.0;
      parent = ap (λ l. slice_index l 3) pids.0;
      pc = ap (λ l. slice_index l 0) regs.0;
      x = ap (drop 1) regs.0;
      behind = append_cancel_left (replicate 4 0) r z regs.1;
    }

-- the note's header
abbrev note_words : ℕ → List ℕ
note_words segments = 4 ∷ note_at segments ∷ 0 ∷ 0 ∷ note_len ∷ 0 ∷ 0 ∷ 4 ∷ []

note_fit : (n : ℕ) → n ≤ 16384 → Fit 4 (note_words n)
note_fit n few = (omega arith, (omega (arith, few), (omega arith, (omega arith, (omega arith, (omega arith, (omega arith, (omega arith, tt))))))))

abbrev behind_headers : CoreValue → List ℕ
behind_headers c = note_text c ++ bytes_of c.segments

abbrev loads_of : CoreValue → List ℕ
loads_of c = loads_text (note_at (length c.segments) + note_len) c.segments

pub text_tells : TextTells
unfolding core_text header_text headers_text note_text
text_tells a b ha hb same =
    let n = length a.segments in
    let m = length b.segments in
    let heads = append_cancel_left header_front (halves_text ((n + 1) ∷ 0 ∷ 0 ∷ 0 ∷ []) ++ (headers_text a.segments ++ behind_headers a)) (halves_text ((m + 1) ∷ 0 ∷ 0 ∷ 0 ∷ []) ++ (headers_text b.segments ++ behind_headers b)) same in
    let zero_fits : 0 < 256 ^ 2 = omega arith in
    let counts = numbers_in_front 2 ((n + 1) ∷ 0 ∷ 0 ∷ 0 ∷ []) ((m + 1) ∷ 0 ∷ 0 ∷ 0 ∷ []) (headers_text a.segments ++ behind_headers a) (headers_text b.segments ++ behind_headers b) refl
    (omega (arith, ha.fits.few), (zero_fits, (zero_fits, (zero_fits, tt)))) (omega (arith, hb.fits.few), (zero_fits, (zero_fits, (zero_fits, tt)))) heads in
    let count : n ≡ m = omega (arith, ap (λ l. slice_index l 0) counts.0) in
    let notes = numbers_in_front 4 (note_words n) (note_words m) (loads_of a ++ behind_headers a) (loads_of b ++ behind_headers b) refl (note_fit n ha.fits.few) (note_fit m hb.fits.few) counts.1 in
    let at = note_at n + note_len in
    let loads = loads_tell a.segments b.segments at (behind_headers a) (behind_headers b) count ha.addrs hb.addrs (omega (arith, ha.fits.few, ha.fits.fit)) (omega (arith, ha.fits.few, hb.fits.fit))
    (notes.1 ∙ ap (λ k. loads_text (note_at k + note_len) b.segments ++ behind_headers b) (sym count)) in
    let status = append_cancel_left note_front (status_text a ++ bytes_of a.segments) (status_text b ++ bytes_of b.segments) loads.1 in
    let told = status_tells a b (bytes_of a.segments) (bytes_of b.segments) ha hb status in
    record { signal = told.signal; pid = told.pid; parent = told.parent; pc = told.pc; x = told.x; segments = bytes_tell a.segments b.segments loads.0 told.behind }
