-- The texts of a call's arguments, one more at a time.
use Rattle.std.proofs.Common.{◌≡◌, ℕ, zero, suc, ◌+◌, ◌<◌, ◌≤◌, ◌==◌, Bool, false, List, [], ◌∷◌, ◌++◌, length, get_or, take, refl, ap, sym, ◌∙◌, append_assoc, arith}
use Rattle.std.specs.List.{flat_map}
use Rattle.std.specs.Prelude.{codes, if◌then◌else◌}
use Rattle.std.proofs.lemmas.Bool.{ne_eqb}
use Rattle.std.proofs.lemmas.List.{take_more, append-nil, take_all, length-take-le}
use Rattle.std.proofs.lemmas.List.Concat.{flat_map-append}
use Rattle.trace_text.specs.declared.form.Form.{Form}
use Rattle.trace_text.specs.Lines.{arg_text, arg_texts, separator, separated}

separator_more : (n : ℕ) → separator (suc n) ≡ codes ", "
separator_more n = let more : (suc n == 0) ≡ false = ne_eqb (suc n) 0 (λ (e : suc n ≡ 0). omega (arith, e)) in ap (λ (b : Bool). if b then [] else codes ", ") more

separated-push : (xs : List (List ℕ)) (y : List ℕ) → separated (xs ++ y ∷ []) ≡ separated xs ++ separator (length xs) ++ y
separated-push [] y = append-nil y
separated-push (x ∷ xs) y =
    let more = λ (text : List ℕ). codes ", " ++ text in
    ap (λ (zs : List ℕ). x ++ zs) (flat_map-append more xs (y ∷ []) ∙ ap (λ (zs : List ℕ). flat_map more xs ++ zs) (append-nil (codes ", " ++ y)))
    ∙ sym (ap (λ (zs : List ℕ). x ++ flat_map more xs ++ zs ++ y) (separator_more (length xs)) ∙ append_assoc (x ++ flat_map more xs) (codes ", ") y ∙ append_assoc x (flat_map more xs) (codes ", " ++ y))

pub length-arg_texts : (forms : List Form) (args sent : List ℕ) → length forms ≤ length args → length (arg_texts forms args sent) ≡ length forms
length-arg_texts [] args sent fit = refl
length-arg_texts (form ∷ forms) [] sent fit = absurd (omega arith)
length-arg_texts (form ∷ forms) (arg ∷ args) sent fit = ap suc (length-arg_texts forms args sent (omega arith))

arg_at : (forms : List Form) (args sent : List ℕ) (i : ℕ) (d : Form) → length forms ≤ length args → i < length forms → get_or (arg_texts forms args sent) i [] ≡ arg_text (get_or forms i d) (get_or args i 0) sent
arg_at [] args sent i d fit here = absurd (omega arith)
arg_at (form ∷ forms) [] sent i d fit here = absurd (omega arith)
arg_at (form ∷ forms) (arg ∷ args) sent zero d fit here = refl
arg_at (form ∷ forms) (arg ∷ args) sent (suc i) d fit here = arg_at forms args sent i d (omega arith) (omega arith)

pub args_more : (forms : List Form) (args sent : List ℕ) (i : ℕ) (d : Form) → length forms ≤ length args → i < length forms
    → separated (take (i + 1) (arg_texts forms args sent)) ≡ separated (take i (arg_texts forms args sent)) ++ separator i ++ arg_text (get_or forms i d) (get_or args i 0) sent
args_more forms args sent i d fit here =
    let texts = arg_texts forms args sent in
    let all : length texts ≡ length forms = length-arg_texts forms args sent fit in
    let long : length (take i texts) ≡ i = length-take-le i texts (omega arith) in
    ap separated (take_more texts i [] (omega arith)) ∙ separated-push (take i texts) (get_or texts i [])
    ∙ ap (λ (n : ℕ). separated (take i texts) ++ separator n ++ get_or texts i []) long
    ∙ ap (λ (text : List ℕ). separated (take i texts) ++ separator i ++ text) (arg_at forms args sent i d fit here)

pub args_all : (forms : List Form) (args sent : List ℕ) → length forms ≤ length args → take (length forms) (arg_texts forms args sent) ≡ arg_texts forms args sent
args_all forms args sent fit = take_all (length forms) (arg_texts forms args sent) (omega (arith, length-arg_texts forms args sent fit))
