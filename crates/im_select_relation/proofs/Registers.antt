-- Registers that hold the words of values.
use Rattle.std.proofs.Common.{◌≡◌, ◌≢◌, ℕ, ◌<◌, ◌≤◌, ◌⊎◌, inl, inr, Bool, true, false, cond, sym, ap, ◌∙◌, subst, refl, arith}
use Rattle.std.specs.Prelude.{◌==◌, ◌+◌, ◌-◌, nat_le, nat_lt, ◌&&◌}
use Rattle.std.proofs.lemmas.Bool.Decides.{nat_tests}
use Rattle.im_rv.specs.Steps.{with_reg}
use Rattle.im_rv.proofs.Straight.{same_reg, other_reg}
use Rattle.im_store.specs.Objects.{Value, Unset}
use Rattle.im_block.specs.Meaning.{with_register, passed}
use Rattle.im_select_relation.specs.Linking.{Linking, Means}

pub record RegsMean (p : Linking) (registers : ℕ → Value) (sp : ℕ) (x : ℕ → ℕ) : Type 0 where
  pub zero_reg : x 0 ≡ 0
  pub stack : x 2 ≡ sp
  pub homes : (r : ℕ) → 6 < r → Means p (registers r) (x r)

pub two_ways : (k i : ℕ) → (k ≡ i) ⊎ (k ≢ i)
two_ways k i = grind arith

pub truth : (b : Bool) → (b ≡ true) ⊎ (b ≡ false)
truth true = inl refl
truth false = inr refl

pub means_at : (p : Linking) (v v' : Value) (w w' : ℕ) → v' ≡ v → w' ≡ w → Means p v w → Means p v' w'
means_at p v v' w w' a b m = subst (λ z. Means p z w') (sym a) (subst (λ z. Means p v z) (sym b) m)

pub register_same : (registers : ℕ → Value) (to : ℕ) (v : Value) → with_register registers to v to ≡ v
register_same registers to v = let t : (to == to) ≡ true = grind (arith, nat_tests) in ap (λ b. cond b v (registers to)) t

pub register_other : (registers : ℕ → Value) (to : ℕ) (v : Value) (r : ℕ) → r ≢ to → with_register registers to v r ≡ registers r
register_other registers to v r ne = let t : (r == to) ≡ false = grind (arith, nat_tests) in ap (λ b. cond b v (registers r)) t

pub set_home : (p : Linking) (registers : ℕ → Value) (sp : ℕ) (x : ℕ → ℕ) (to : ℕ) (v : Value) (w : ℕ) → 6 < to → RegsMean p registers sp x → Means p v w → RegsMean p (with_register registers to v) sp (with_reg x to w)
set_home p registers sp x to v w six m mean = record {
  zero_reg = other_reg x to w 0 (omega arith) ∙ m.zero_reg;
  stack = other_reg x to w 2 (omega arith) ∙ m.stack;
  homes = λ r rsix. elim (two_ways r to) [
    | inl e ↦ subst (λ q. Means p (with_register registers to v q) (with_reg x to w q)) (sym e) (means_at p v _ w _ (register_same registers to v) (same_reg x to w (omega arith)) mean)
    | inr ne ↦ means_at p (registers r) _ (x r) _ (register_other registers to v r ne) (other_reg x to w r ne) (m.homes r rsix)
  ];
}

pub set_scratch : (p : Linking) (registers : ℕ → Value) (sp : ℕ) (x : ℕ → ℕ) (rd w : ℕ) → rd < 7 → rd ≢ 0 → rd ≢ 2 → RegsMean p registers sp x → RegsMean p registers sp (with_reg x rd w)
set_scratch p registers sp x rd w less a b m = record {
  zero_reg = other_reg x rd w 0 (λ e. a (sym e)) ∙ m.zero_reg;
  stack = other_reg x rd w 2 (λ e. b (sym e)) ∙ m.stack;
  homes = λ r rsix. means_at p (registers r) _ (x r) _ refl (other_reg x rd w r (omega arith)) (m.homes r rsix);
}

-- nothing that is written to x0 is seen
pub set_none : (p : Linking) (registers : ℕ → Value) (sp : ℕ) (x : ℕ → ℕ) (w : ℕ) → RegsMean p registers sp x → RegsMean p registers sp (with_reg x 0 w)
set_none p registers sp x w m = record {
  zero_reg = same 0 ∙ m.zero_reg;
  stack = same 2 ∙ m.stack;
  homes = λ r rsix. means_at p (registers r) _ (x r) _ refl (same r) (m.homes r rsix);
}
  where
    same : (i : ℕ) → with_reg x 0 w i ≡ x i
    same i = grind (arith, nat_tests)

pub set_stack : (p : Linking) (registers : ℕ → Value) (sp : ℕ) (x : ℕ → ℕ) (w : ℕ) → RegsMean p registers sp x → RegsMean p registers w (with_reg x 2 w)
set_stack p registers sp x w m = record {
  zero_reg = other_reg x 2 w 0 (omega arith) ∙ m.zero_reg;
  stack = same_reg x 2 w (omega arith);
  homes = λ r rsix. means_at p (registers r) _ (x r) _ refl (other_reg x 2 w r (omega arith)) (m.homes r rsix);
}

-- arguments stay in the registers that they come in, or there are none
passed_mean : (p : Linking) (to first count : ℕ) (registers : ℕ → Value) (r w : ℕ) → (first ≡ to) ⊎ (count ≡ 0) → Means p (registers r) w → Means p (passed to first count registers r) w
passed_mean p to first count registers r w alike m = by (nat_le to r) refl (nat_lt r (to + count)) refl
  where
    place : nat_le to r ≡ true → first ≡ to → first + (r - to) ≡ r
    place t e = let k : to ≤ r = grind (arith, nat_tests) in omega arith

    none : nat_le to r ≡ true → nat_lt r (to + count) ≡ true → count ≡ 0 → ⊥
    none t q e = let k : to ≤ r = grind (arith, nat_tests) in let l : r < to + count = grind (arith, nat_tests) in omega arith

    by : (a : Bool) → nat_le to r ≡ a → (b : Bool) → nat_lt r (to + count) ≡ b → Means p (cond (a && b) (registers (first + (r - to))) Unset) w
    by true e true f = elim alike [
      | inl h ↦ subst (λ z. Means p (registers z) w) (sym (place e h)) m
      | inr h ↦ absurd (none e f h)
    ]
    by true e false f = tt
    by false e b f = tt

pub only_arguments : (p : Linking) (to first count : ℕ) (registers : ℕ → Value) (sp : ℕ) (x : ℕ → ℕ) → (first ≡ to) ⊎ (count ≡ 0) → RegsMean p registers sp x → RegsMean p (passed to first count registers) sp x
only_arguments p to first count registers sp x alike m = record {
  zero_reg = m.zero_reg;
  stack = m.stack;
  homes = λ r rsix. passed_mean p to first count registers r (x r) alike (m.homes r rsix);
}

-- one register alone
pub only_result : (p : Linking) (registers : ℕ → Value) (sp to : ℕ) (v : Value) (x : ℕ → ℕ) → registers ≡ (λ r. Unset) → x 0 ≡ 0 → x 2 ≡ sp → Means p v (x to) → RegsMean p (with_register registers to v) sp x
only_result p registers sp to v x e zero_ stack m = record {
  zero_reg = zero_;
  stack = stack;
  homes = λ r rsix. elim (two_ways r to) [
    | inl f ↦ means_at p v _ (x to) _ (ap (λ z. with_register registers to v z) f ∙ register_same registers to v) (ap x f) m
    | inr ne ↦ means_at p Unset _ (x r) _ (register_other registers to v r ne ∙ ap (λ (g : ℕ → Value). g r) e) refl tt
  ];
}

-- a register that is written twice
pub set_twice : (p : Linking) (registers : ℕ → Value) (sp : ℕ) (x : ℕ → ℕ) (to : ℕ) (v : Value) (w0 w : ℕ) → 6 < to → RegsMean p registers sp x → Means p v w → RegsMean p (with_register registers to v) sp (with_reg (with_reg x to w0) to w)
set_twice p registers sp x to v w0 w six m mean = record {
  zero_reg = other_reg (with_reg x to w0) to w 0 (omega arith) ∙ other_reg x to w0 0 (omega arith) ∙ m.zero_reg;
  stack = other_reg (with_reg x to w0) to w 2 (omega arith) ∙ other_reg x to w0 2 (omega arith) ∙ m.stack;
  homes = λ r rsix. elim (two_ways r to) [
    | inl e ↦ subst (λ q. Means p (with_register registers to v q) (with_reg (with_reg x to w0) to w q)) (sym e) (means_at p v _ w _ (register_same registers to v) (same_reg (with_reg x to w0) to w (omega arith)) mean)
    | inr ne ↦ means_at p (registers r) _ (x r) _ (register_other registers to v r ne) (other_reg (with_reg x to w0) to w r ne ∙ other_reg x to w0 r ne) (m.homes r rsix)
  ];
}
