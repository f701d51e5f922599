-- A look and what follows it.
use Rattle.std.proofs.Common.{ap, subst, sym, Ok, Err}
use Rattle.std.specs.Prelude.{Result as Either}
use Rattle.im_typed.specs.Runs.{State, Answer, Run, goes_on}
use Rattle.im_eval_steps.specs.declared.unseen.Unseen.{Unseen}
use Rattle.im_eval_steps.specs.declared.unseen.Unseen.TheVariants.{Undefined, Elsewhere}
use Rattle.im_eval_steps.specs.Seen.{Sees}

-- a cause to stop stops what follows, and so does giving up
pub unseen : {R Q A B : Type 0} (f : R → A) (g : Q → B) (why : Unseen) (s : State) (r : Answer A) (next : A → Run B)
    → Sees f (Err why) s r → Sees g (Err why) s (goes_on r next)
unseen f g (Undefined why) s r next h = ap (λ x. goes_on x next) h
unseen f g Elsewhere s r next h = tt

-- what follows a value that was seen
pub seen-then : {R Q A B : Type 0} (f : R → A) (g : Q → B) (v : R) (result : Either Q Unseen) (s : State) (r : Answer A) (next : A → Run B)
    → Sees f (Ok v) s r → Sees g result s (next (f v) s) → Sees g result s (goes_on r next)
seen-then f g v result s r next first second = subst (Sees g result s) (sym (ap (λ x. goes_on x next) first)) second
