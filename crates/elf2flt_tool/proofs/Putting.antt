-- A field that holds its value stays as it is when the value is put there.
use Rattle.std.proofs.Common.{◌≡◌, ℕ, ◌+◌, ◌-◌, ◌<◌, inl, inr, ◌^◌, true, nat_lt, sym, ap, ◌∙◌, arith}
use Rattle.std.proofs.lemmas.Bool.{cases_Bool, eqb-true}
use Rattle.rv32im_table.specs.Immediate.{immediate, gathered, sign_extended, replaced, format_i, format_s, format_b, format_u, format_j, imm_i, imm_s, imm_b, imm_u, imm_j, put_i, put_s, put_b, put_u, put_j}
use Rattle.psabi_relocs.specs.declared.row.Shape.{Shape}
use Rattle.psabi_relocs.specs.declared.row.Shape.TheVariants.{Word, High, LowI, LowS, Branch, Jump}
use Rattle.psabi_relocs.specs.Shape.{high_part, low_part, has_value, put}

-- what holds of a number, and of it with ones before its bits, holds of its sign extension
extended : (P : ℕ → Type 0) (size n : ℕ) → P n → P (n + (2 ^ 32 - 2 ^ size)) → P (sign_extended size n)
extended P size n small large = elim (cases_Bool (nat_lt n (2 ^ (size - 1)))) [
  | inl is ↦ rw is small
  | inr past ↦ rw past large
]

u_plain : (w : ℕ) → w < 2 ^ 32 → replaced format_u w (immediate format_u w) ≡ w
u_plain w fits = extended (λ v. replaced format_u w v ≡ w) 32 (gathered format_u.pieces w) (omega arith) (omega arith)

u_back : (w : ℕ) → w < 2 ^ 32 → put_u w (imm_u w) ≡ w
unfolding put_u imm_u
u_back w fits = u_plain w fits

i_plain : (w : ℕ) → w < 2 ^ 32 → replaced format_i w (immediate format_i w) ≡ w
i_plain w fits = extended (λ v. replaced format_i w v ≡ w) 12 (gathered format_i.pieces w) (omega arith) (omega arith)

i_back : (w : ℕ) → w < 2 ^ 32 → put_i w (imm_i w) ≡ w
unfolding put_i imm_i
i_back w fits = i_plain w fits

s_plain : (w : ℕ) → w < 2 ^ 32 → replaced format_s w (immediate format_s w) ≡ w
s_plain w fits = extended (λ v. replaced format_s w v ≡ w) 12 (gathered format_s.pieces w) (omega arith) (omega arith)

s_back : (w : ℕ) → w < 2 ^ 32 → put_s w (imm_s w) ≡ w
unfolding put_s imm_s
s_back w fits = s_plain w fits

b_plain : (w : ℕ) → w < 2 ^ 32 → replaced format_b w (immediate format_b w) ≡ w
b_plain w fits = extended (λ v. replaced format_b w v ≡ w) 13 (gathered format_b.pieces w) (omega arith) (omega arith)

b_back : (w : ℕ) → w < 2 ^ 32 → put_b w (imm_b w) ≡ w
unfolding put_b imm_b
b_back w fits = b_plain w fits

j_plain : (w : ℕ) → w < 2 ^ 32 → replaced format_j w (immediate format_j w) ≡ w
j_plain w fits = extended (λ v. replaced format_j w v ≡ w) 21 (gathered format_j.pieces w) (omega arith) (omega arith)

j_back : (w : ℕ) → w < 2 ^ 32 → put_j w (imm_j w) ≡ w
unfolding put_j imm_j
j_back w fits = j_plain w fits

pub put_same : (s : Shape) (w v : ℕ) → w < 2 ^ 32 → has_value s w v ≡ true → put s w v ≡ w
put_same Word w v fits is = sym (eqb-true w v is)
put_same High w v fits is = ap (put_u w) (sym (eqb-true (imm_u w) (high_part v) is)) ∙ u_back w fits
put_same LowI w v fits is = ap (put_i w) (sym (eqb-true (imm_i w) (low_part v) is)) ∙ i_back w fits
put_same LowS w v fits is = ap (put_s w) (sym (eqb-true (imm_s w) (low_part v) is)) ∙ s_back w fits
put_same Branch w v fits is = ap (put_b w) (sym (eqb-true (imm_b w) v is)) ∙ b_back w fits
put_same Jump w v fits is = ap (put_j w) (sym (eqb-true (imm_j w) v is)) ∙ j_back w fits
