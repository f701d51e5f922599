-- A silent image keeps silent sources alone.
use Rattle.std.proofs.Common.{◌≡◌, ℕ, suc, ◌+◌, ◌*◌, true, cond, List, [], ◌∷◌, ◌++◌, length, refl, ap, ◌∙◌, arith}
use Rattle.std.specs.Prelude.{nat_le}
use Rattle.std.proofs.lemmas.Bool.Decides.{nat_tests}
use Rattle.im_power.specs.declared.period.Period.{Period}
use Rattle.im_keeps.specs.Keeps.{output_in, long_periods}
use Rattle.im_keeps.specs.Laws.{SilentLaw}

itself : (n : ℕ) → nat_le n n ≡ true
itself n = grind (arith, nat_tests)

front_empty : (a b : List ℕ) → a ++ b ≡ [] → a ≡ []
front_empty [] b e = refl
front_empty (x ∷ a) b e = absurd (cc)

pub silent : SilentLaw
silent meaning image gap input keeps nothing fuel =
    let c = (2 * fuel + 2) * length image.words in
    let ps : List Period = record { n = gap; junk = 0; count = suc c; mask = 0 } ∷ [] in
    let many : long_periods gap ps ≡ suc c + 0 = ap (λ b. cond b (suc c) 0 + 0) (itself gap) in
    let b = keeps.reaches fuel ps (omega arith) in
    front_empty (output_in (meaning input fuel)) b.0 (b.1 ∙ nothing ps)
