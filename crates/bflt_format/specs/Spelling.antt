-- The one text that is written for values.
use Rattle.std.specs.Prelude.{◌≡◌, ℕ, ◌+◌, ◌%◌, ◌^◌, ◌<◌, ◌≤◌, true, false, List, [], ◌∷◌, ◌++◌, length, slice_index}
use Rattle.std.specs.List.{flat_map}
use Rattle.byteorder.specs.Endian.{big_bytes}
use Rattle.bflt_format.specs.Numbers.{big_at}
use Rattle.bflt_format.specs.Values.{Values, stored, image_size}
use Rattle.bflt_format.specs.Fault.{is_known, is_near}

-- numbers one after the other, each as four bytes, the highest first
abbrev pub words_text : List ℕ → List ℕ
words_text ns = flat_map (big_bytes 4) ns

-- the header's sixteen words: "bFLT", version 4, the records right behind the data, build date and fillers 0
abbrev pub header_words : Values → List ℕ
header_words f =
    0x62464c54 ∷ 4 ∷ f.entry ∷ (64 + f.text) ∷ (64 + stored f) ∷ (64 + image_size f) ∷ f.stack ∷ (64 + stored f)
    ∷ length f.records ∷ f.flags ∷ 0 ∷ 0 ∷ 0 ∷ 0 ∷ 0 ∷ 0 ∷ []

unfoldable pub spell : Values → List ℕ
spell f = words_text (header_words f) ++ (f.body ++ words_text f.records)

-- the values that a flat file can say
pub record Spells (f : Values) : Type 0 where
  pub body : length f.body ≡ stored f
  pub size : image_size f ≤ 16777216
  pub text : f.text % 32 ≡ 0
  pub entry_aligned : f.entry % 4 ≡ 0
  pub entry_from : 64 ≤ f.entry
  pub entry_to : f.entry + 4 ≤ 64 + stored f
  pub stack : f.stack ≤ 1048576
  pub flags : is_known f.flags ≡ true
  pub count : length f.records < 2 ^ 32
  -- each record's word lies in the data
  pub inside : (k : ℕ) → k < length f.records → slice_index f.records k + 4 ≤ stored f
  -- no two records have a byte in common
  pub apart : (j k : ℕ) → j < k → k < length f.records → is_near (slice_index f.records j) (slice_index f.records k) ≡ false
  -- the number at each record is that of a byte of the image, or of its end
  pub targets : (k : ℕ) → k < length f.records → big_at f.body (slice_index f.records k) ≤ image_size f
