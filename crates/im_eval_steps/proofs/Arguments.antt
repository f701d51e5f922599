-- The next argument of a call: its value, and then the call with one argument more.
use Rattle.std.proofs.Common.{◌≡◌, ◌∙◌, refl, ap, sym, List, [], ◌∷◌, ◌++◌}
use Rattle.std.specs.Prelude.{map}
use Rattle.im_store.specs.Objects as o
use Rattle.im_typed.specs.Runs.{Answer, Run, goes_on, ◌>>=◌, give}
use Rattle.im_typed.specs.Values.{Values, used}
use Rattle.im_eval_store.specs.Shown.{shown}
use Rattle.im_eval_store.specs.declared.value.Value.{Value as Held}
use Rattle.im_eval_tasks.proofs.Binds.{assoc, alike, strict}

-- the arguments that are there, one more, and the others
shown-more : (ready : List Held) (v : Held) (vs : List o.Value) → map shown ready ++ shown v ∷ vs ≡ map shown (ready ++ v ∷ []) ++ vs
shown-more [] v vs = refl
shown-more (x ∷ ready) v vs = ap (λ rest. shown x ∷ rest) (shown-more ready v vs)

-- the call from its next argument's value on is the call with that argument taken
pub taken : (ready : List Held) (v : Held) (others : Answer (List o.Value)) (call : List o.Value → Run Values) (next : Values → Run Values)
    → goes_on (goes_on others (λ vs. call (map shown ready ++ shown v ∷ vs))) next
    ≡ goes_on (goes_on others (λ vs. call (map shown (ready ++ v ∷ []) ++ vs))) next
taken ready v others call next =
    ap (λ r. goes_on r next) (alike others (λ vs. call (map shown ready ++ shown v ∷ vs)) (λ vs. call (map shown (ready ++ v ∷ []) ++ vs))
    (λ vs s. ap (λ all. call all s) (shown-more ready v vs)))

module _ (ready : List o.Value) (others : Run (List o.Value)) (call : List o.Value → Run Values) (next : Values → Run Values) where
  -- the call from its next argument's value on
  abbrev takes : o.Value → Run Values
  takes v t = goes_on (goes_on (others t) (λ vs. call (ready ++ v ∷ vs))) next

  pub argument : (r : Answer Values)
      → goes_on (goes_on (goes_on (goes_on r used) (λ v. others >>= (λ vs. give (v ∷ vs)))) (λ vs. call (ready ++ vs))) next
      ≡ goes_on r (λ vs t. goes_on (used vs t) takes)
  argument r =
      assoc (goes_on (goes_on r used) (λ v. others >>= (λ vs. give (v ∷ vs)))) (λ vs. call (ready ++ vs)) next
      ∙ strict r (λ v. others >>= (λ vs. give (v ∷ vs))) takes (λ vs t. goes_on (call (ready ++ vs) t) next)
      (λ v t. assoc (others t) (λ vs. give (v ∷ vs)) (λ vs u. goes_on (call (ready ++ vs) u) next)
      ∙ sym (assoc (others t) (λ vs. call (ready ++ v ∷ vs)) next))
