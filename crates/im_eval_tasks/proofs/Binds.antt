-- Runs one behind another.
use Rattle.std.proofs.Common.{◌≡◌, refl, ap, sym, ◌∙◌, ℤ}
use Rattle.im_store.specs.Checks.{Checked, Fine, Bad, then_}
use Rattle.im_store.specs.Objects as o
use Rattle.im_store.specs.Objects.{Store}
use Rattle.im_typed.specs.Runs.{State, Answer, Gives, Stops, Run, goes_on, ◌>>=◌, give, checked, in_store}
use Rattle.im_typed.specs.Values.{Values, scalar, number, used, number_of}

pub assoc : {A B C : Type 0} (r : Answer A) (f : A → Run B) (k : B → Run C) → goes_on (goes_on r f) k ≡ goes_on r (λ a s. goes_on (f a s) k)
assoc (Gives a s) f k = refl
assoc (Stops why) f k = refl

pub alike : {A B : Type 0} (r : Answer A) (f g : A → Run B) → ((a : A) (s : State) → f a s ≡ g a s) → goes_on r f ≡ goes_on r g
alike (Gives a s) f g h = h a s
alike (Stops why) f g h = refl

pub given_back : {A : Type 0} (r : Answer A) → goes_on r give ≡ r
given_back (Gives a s) = refl
given_back (Stops why) = refl

-- an operand that is used, and what is done with its value
pub strict : {B C : Type 0} (r : Answer Values) (f : o.Value → Run B) (g : o.Value → Run C) (k : B → Run C) → ((v : o.Value) (s : State) → goes_on (f v s) k ≡ g v s)
    → goes_on (goes_on (goes_on r used) f) k ≡ goes_on r (λ vs s. goes_on (used vs s) g)
strict r f g k h =
    assoc (goes_on r used) f k ∙ assoc r used (λ v s. goes_on (f v s) k) ∙ alike r _ _ (λ vs s. alike (used vs s) _ g h)

-- an operand that is a number
pub strict-number : {B C : Type 0} (r : Answer Values) (f : ℤ → Run B) (g : o.Value → Run C) (k : B → Run C)
    → ((v : o.Value) (s : State) → goes_on (goes_on (checked (number_of v) s) f) k ≡ g v s)
    → goes_on (goes_on (goes_on (goes_on r used) (λ v. checked (number_of v))) f) k ≡ goes_on r (λ vs s. goes_on (used vs s) g)
strict-number r f g k h =
    ap (λ x. goes_on x k) (assoc (goes_on r used) (λ v. checked (number_of v)) f)
    ∙ strict r (λ v s. goes_on (checked (number_of v) s) f) g k h

-- what is looked up in the store for a number
pub looks : {C : Type 0} (r : Checked ℤ) (f : ℤ → Store → Checked o.Value) (s : State) (k : Values → Run C)
    → goes_on (goes_on (checked r s) (λ m. in_store (f m) >>= scalar)) k ≡ goes_on (goes_on (checked (then_ r (λ m. f m s.world.store)) s) scalar) k
looks (Fine a) f s k = refl
looks (Bad why) f s k = refl

-- a number that is used, and the same done with it
pub switch_goes : {B C : Type 0} (r : Answer Values) (f g : ℤ → Run B) (k : B → Run C) → ((z : ℤ) (s : State) → f z s ≡ g z s)
    → goes_on r (λ vs s. goes_on (goes_on (used vs s) (λ v. checked (number_of v) >>= g)) k) ≡ goes_on (goes_on (goes_on (goes_on r used) (λ v. checked (number_of v))) f) k
switch_goes r f g k h =
    alike r _ _ (λ vs s. assoc (used vs s) (λ v. checked (number_of v) >>= g) k)
    ∙ sym (strict-number r f (λ v s. goes_on (goes_on (checked (number_of v) s) g) k) k
    (λ v s. ap (λ x. goes_on x k) (alike (checked (number_of v) s) f g h)))

-- a value that is made of what a check gives
pub numbered : {A C : Type 0} (r : Checked A) (f : A → o.Value) (s : State) (k : Values → Run C)
    → goes_on (goes_on (checked r s) (λ z. scalar (f z))) k ≡ goes_on (goes_on (checked (then_ r (λ z. Fine (f z))) s) scalar) k
numbered (Fine a) f s k = refl
numbered (Bad why) f s k = refl

-- a number for which an operator gives another one, or none
pub computes : {C : Type 0} (r : Checked ℤ) (f : ℤ → Checked ℤ) (s : State) (k : Values → Run C)
    → goes_on (goes_on (checked r s) (λ y. checked (f y) >>= number)) k ≡ goes_on (goes_on (checked (then_ r (λ y. then_ (f y) (λ z. Fine (o.Number z)))) s) scalar) k
computes (Fine a) f s k = numbered (f a) (λ z. o.Number z) s k
computes (Bad why) f s k = refl

-- one run, then the next, and then two more
pub assoc-twice : {A B C D : Type 0} (r : Answer A) (f : A → Run B) (g : B → Run C) (k : C → Run D) → goes_on r (λ a s. goes_on (goes_on (f a s) g) k) ≡ goes_on (goes_on (goes_on r f) g) k
assoc-twice r f g k = sym (ap (λ x. goes_on x k) (assoc r f g) ∙ assoc r (λ a s. goes_on (f a s) g) k)

-- what is done with a value that is used
pub used-goes : {B C : Type 0} (r : Answer Values) (f : o.Value → Run B) (k : B → Run C) → goes_on r (λ vs s. goes_on (goes_on (used vs s) f) k) ≡ goes_on (goes_on (goes_on r used) f) k
used-goes r f k = assoc-twice r used f k
