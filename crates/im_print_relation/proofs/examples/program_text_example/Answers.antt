use Rattle.std.proofs.Common.{◌≡◌, ℕ, List, [], ◌∷◌, ◌++◌, codes, decimal, ap, ◌∙◌, arith}
use Rattle.std.proofs.lemmas.Fmt.{decimal_step, decimal_digit}
use Rattle.im_print_relation.proofs.examples.program_text_example.Goals as goal

-- the text, by the digits of its two numbers
abbrev text_with : List ℕ → List ℕ → List ℕ
text_with a b =
    let ending = 32 ∷ (codes "; }" ++ (10 ∷ [])) in
    let middle = 32 ∷ (codes ") ; return " ++ ((b ++ []) ++ ending)) in
    codes "int main ( void ) { putchar ( " ++ ((a ++ []) ++ middle)

pub returns : goal.returns
returns c =
    let first : decimal 72 ≡ codes "72" = decimal_step 72 (omega arith) (omega arith) ∙ ap (λ z. z ++ (50 ∷ [])) (decimal_digit 7 (omega arith)) in
    let second : decimal 7 ≡ codes "7" = decimal_digit 7 (omega arith) in
    ap (λ z. text_with z (decimal 7)) first ∙ ap (λ z. text_with (codes "72") z) second
