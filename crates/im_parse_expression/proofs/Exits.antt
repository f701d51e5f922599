-- What a function gives, by what the functions that it calls give.
use Rattle.std.proofs.Common.{◌≡◌, ℕ, ◌-◌, ◌<◌, List, drop, length, Bool, true, false, refl, ap, arith, length-append, length-drop}
use Rattle.std.specs.Prelude.{Result, MatchResult, IsTrue, ◌↔◌}
use Rattle.std.proofs.lemmas.Result.{MatchResult-weaker}
use Rattle.im_word.specs.Words.{Word}
use Rattle.im_parse_core.specs.Reads.{Family, Ending, Reads, Refuses, Within}
use Rattle.im_parse_core.specs.Places.{ReadsAt, StopsAt}
use Rattle.im_parse_core.specs.declared.stop.Stop.{Stop}
use Rattle.im_parse_core.specs.declared.stop.Stop.TheVariants.{Syntax, Memory}
use Rattle.im_parse_expression.specs.Parsing.{Parses}

-- where a part was refused, so was the whole
pub stopped : {A B : Type 0} {D : Family A} {E : Ending A} {X : Family B} {F : Ending B} (words : List Word) {p q : ℕ} → ((n : ℕ) → Refuses X F q (drop q words) n (drop n words) → Refuses D E p (drop p words) n (drop n words)) → (stop : Stop) → StopsAt X F words q stop → StopsAt D E words p stop
stopped words refuses (Syntax n) one = refuses n one
stopped words refuses Memory one = tt

-- the last part is the whole
pub handed : {R A : Type 0} (shape : R → A) (words : List Word) {D X : Family A} {E F : Ending A} {p q : ℕ} → Within D E p (drop p words) X F q (drop q words) (λ t. t) → (result : Result (R × ℕ) Stop) → Parses shape X F words q result → Parses shape D E words p result
handed shape words from result one = MatchResult-weaker result one (λ read h. from.reads (shape read.0) read.1 (drop read.1 words) h) (stopped words (λ n h. from.refuses n (drop n words) h))

-- what a test says
pub isnt : {P : Type 0} (b : Bool) → b ≡ false → IsTrue b ↔ P → P → ⊥
isnt b e both p = let h : IsTrue b = both.1 p in grind (arith, h, e)

pub itis : {P : Type 0} (b : Bool) → b ≡ true → IsTrue b ↔ P → P
itis b e both = both.0 (let h : IsTrue b = rw e refl in h)

-- the words that are left get fewer
pub shorter : {A : Type 0} {D : Family A} {E : Ending A} (words : List Word) {q n : ℕ} {t : A} → Reads D E q (drop q words) t n (drop n words) → q < n → length words - n < length words - q
shorter words {q = q} {n = n} one h =
    omega (arith, h, one.place, ap length one.cut, length-append one.front (drop n words), length-drop q words, length-drop n words)
