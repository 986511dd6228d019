-- Names as they are written, computed.
use Rattle.std.proofs.Common.{◌≡◌, ◌++◌, refl, codes, replicate}
use Rattle.std.specs.Fmt.{digits}
use Rattle.hex.specs.Hex.{encode_with}
use Rattle.fault_texts.specs.Names.{shown, name_or}

blank_is_told : shown (codes "a b\\c") ≡ codes "a\\x20b\\x5cc"
unfolding shown encode_with
blank_is_told = refl

-- no name is a stand-in
sign_is_told : shown (codes "#1") ≡ codes "\\x231"
unfolding shown encode_with
sign_is_told = refl

dot_stands : shown (codes ".text-2") ≡ codes ".text-2"
unfolding shown
dot_stands = refl

long_is_cut : shown (replicate 256 110) ≡ replicate 255 110 ++ codes "..."
unfolding shown
long_is_cut = refl

missing_is_told : name_or 0x40 7 (codes "") ≡ codes "@7"
unfolding digits
missing_is_told = refl
