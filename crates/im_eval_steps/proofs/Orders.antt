-- What is done one thing behind another, whatever is behind that.
use Rattle.std.proofs.Common.{◌≡◌, ◌∙◌, refl, ap, sym, ℤ}
use Rattle.im_store.specs.Objects.{Value}
use Rattle.im_typed.specs.Meaning.{Flow}
use Rattle.im_typed.specs.Runs.{State, Answer, Gives, Run, goes_on, ◌>>=◌, checked}
use Rattle.im_typed.specs.Values.{Values, number_of, used}
use Rattle.im_eval_tasks.proofs.Binds.{alike, assoc, strict-number}

-- what was there is known, and an amount comes
pub amount-comes : {B : Type 0} (before : Answer Value) (b : Value) (s : State) (amount : Run Values) (change : Value → ℤ → Run B) (k : B → Run Values) → before ≡ Gives b s
    → goes_on (goes_on before (λ old. ((amount >>= used) >>= (λ v. checked (number_of v))) >>= change old)) k
    ≡ goes_on (amount s) (λ vs t. goes_on (used vs t) (λ v u. goes_on (goes_on (checked (number_of v) u) (change b)) k))
amount-comes before b s amount change k e =
    ap (λ x. goes_on (goes_on x (λ old. ((amount >>= used) >>= (λ v. checked (number_of v))) >>= change old)) k) e
    ∙ strict-number (amount s) (change b) (λ v u. goes_on (goes_on (checked (number_of v) u) (change b)) k) k (λ v u. refl)

-- a piece's expression, and then the piece is stored, the others come, and the rest is cleared
pub piece-comes : {U : Type 0} (r : Answer Values) (uses : Values → Run Value) (stores : Values → Run Values) (others : Run U) (clears : Run Flow) (k : Flow → Run Values)
    → goes_on (goes_on (goes_on r (λ vs. uses vs >>= (λ _. stores vs >>= (λ _. others)))) (λ _. clears)) k
    ≡ goes_on r (λ vs s. goes_on (goes_on (uses vs s) (λ _. stores vs >>= (λ _. others >>= (λ _. clears)))) k)
piece-comes r uses stores others clears k =
    assoc (goes_on r (λ vs. uses vs >>= (λ _. stores vs >>= (λ _. others)))) (λ _. clears) k
    ∙ assoc r (λ vs. uses vs >>= (λ _. stores vs >>= (λ _. others))) (λ _ t. goes_on (clears t) k)
    ∙ alike r _ _ (λ vs s.
    assoc (uses vs s) (λ _. stores vs >>= (λ _. others)) (λ _ t. goes_on (clears t) k)
    ∙ alike (uses vs s) _ _ (λ v t.
    assoc (stores vs t) (λ _. others) (λ _ u. goes_on (clears u) k)
    ∙ alike (stores vs t) _ _ (λ ws u. sym (assoc (others u) (λ _. clears) k))
    ∙ sym (assoc (stores vs t) (λ _. others >>= (λ _. clears)) k))
    ∙ sym (assoc (uses vs s) (λ _. stores vs >>= (λ _. others >>= (λ _. clears))) k))
