-- With less fuel than ends a source wants more, with more it ends as it did.
use Rattle.std.proofs.Common.{◌≡◌, ℕ, ◌+◌, ◌-◌, ◌<◌, ◌≤◌, ℤ, List, ◌⊎◌, inl, inr, sym, subst, arith}
use Rattle.std.proofs.lemmas.Bool.{cases_lt}
use Rattle.im_num.specs.Variables.{Variable}
use Rattle.im_store.specs.Outcomes.{Outcome, Undef, More, End, IsDefined}
use Rattle.im_typed.specs.Laws.{Extends}
use Rattle.im_typed.specs.Programs.{Setting, meaning}
use Rattle.im_driver_laws.specs.Ends.{EndedLaw}

abbrev pub MoreFuelLaw : Type 0
MoreFuelLaw = (g : Setting) (input : List ℕ) (fuel more : ℕ) → Extends (meaning g input fuel) (meaning g input (fuel + more))

-- what an end extends is defined
before : (r : ℕ) (s : ℤ) (out : List ℕ) (vs : List Variable) (earlier later : Outcome) → later ≡ End r s out vs → Extends earlier later → IsDefined earlier
before r s out vs (Undef why) later is extends = absurd (cc)
before r s out vs (More output) later is extends = tt
before r s out vs (End reason status output variables) later is extends = tt

-- and so is what extends an end
after : (r : ℕ) (s : ℤ) (out : List ℕ) (vs : List Variable) (earlier later : Outcome) → earlier ≡ End r s out vs → Extends earlier later → IsDefined later
after r s out vs earlier later is extends =
    subst IsDefined (sym (subst (λ (o : Outcome). Extends o later) is extends)) tt

module _ (more : MoreFuelLaw) (g : Setting) (input : List ℕ) (fuel r : ℕ) (s : ℤ) (out : List ℕ) (vs : List Variable) (ended : meaning g input fuel ≡ End r s out vs) where
  right_at : (m : ℕ) → (m < fuel) ⊎ (fuel ≤ m) → IsDefined (meaning g input m)
  right_at m (inl less) =
      let sum : m + (fuel - m) ≡ fuel = omega (arith, less) in
      before r s out vs (meaning g input m) (meaning g input fuel) ended
      (subst (λ (n : ℕ). Extends (meaning g input m) (meaning g input n)) sum (more g input m (fuel - m)))
  right_at m (inr most) =
      let sum : fuel + (m - fuel) ≡ m = omega (arith, most) in
      after r s out vs (meaning g input fuel) (meaning g input m) ended
      (subst (λ (n : ℕ). Extends (meaning g input fuel) (meaning g input n)) sum (more g input fuel (m - fuel)))

  pub right : (m : ℕ) → IsDefined (meaning g input m)
  right m = right_at m (cases_lt m fuel)

pub ended : MoreFuelLaw → EndedLaw
ended more source options built compiled input fuel r s out vs is_input is_end =
    let defined = right more _ input fuel r s out vs is_end in
    record { right = defined; keeps = compiled.keeps.going_on input is_input defined; survives = compiled.survives input is_input defined; writes = compiled.writes input is_input defined }
