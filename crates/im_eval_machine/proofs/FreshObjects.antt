-- An object that came into being, with its argument or none.
use Rattle.std.proofs.Common.{◌≡◌, ℕ, ◌==◌, ◌&&◌, length, get_or, refl, sym, ap, ◌∙◌, arith, Bool, true, false}
use Rattle.std.specs.Prelude.{Some, None, nat_lt}
use Rattle.std.proofs.lemmas.Bool.{lt-ltb}
use Rattle.im_store.specs.Objects as o
use Rattle.im_eval_store.specs.declared.memory.Live.{Live}
use Rattle.im_eval_store.specs.declared.plan.Plan.{Plan}
use Rattle.im_eval_store.specs.declared.value.Value.{Value}
use Rattle.im_eval_store.specs.declared.value.Value.TheVariants.{Unset}
use Rattle.im_eval_store.specs.Changes.{with_cell}
use Rattle.im_eval_store.specs.Shown.{shown}
use Rattle.im_eval_store.proofs.Finding.{by-test, if-true, if-false}
use Rattle.im_eval_store.proofs.Storing.{in-range}
use Rattle.im_eval_machine.specs.Fresh.{IsFresh, argument_at}

pub fresh-none : (plan : Plan) (x : Live) → x.plan.now ≡ plan → ((i : ℕ) → get_or x.values.items i Unset ≡ Unset) → IsFresh plan (argument_at None) x
fresh-none plan x is empty = record { plan_is = is; have = λ i kind e. ap shown (empty i) }

both : (b d : Bool) → b ≡ true → d ≡ true → (b && d) ≡ true
both true true e f = refl
both true false e f = absurd (cc)
both false d e f = absurd (cc)

neither : (b d : Bool) → b ≡ false → (b && d) ≡ false
neither false d e = refl
neither true d e = absurd (cc)

pub fresh-some : (plan : Plan) (x y : Live) (v : Value) → x.plan.now ≡ plan → y.plan ≡ x.plan → length x.values.items ≡ length x.plan.now.kinds.items → ((i : ℕ) → get_or x.values.items i Unset ≡ Unset)
    → ((i : ℕ) → get_or y.values.items i Unset ≡ with_cell x.values.items 0 v i) → IsFresh plan (argument_at (Some (shown v))) y
fresh-some plan x y v is same full empty set = record {
  plan_is = ap (λ b. b.now) same ∙ is;
  have = λ i kind e.
      let there = in-range x.plan.now.kinds.items i kind (ap (λ (p : Plan). get_or p.kinds.items i None) is ∙ e) in
      let some : nat_lt 0 (length x.values.items) ≡ true = lt-ltb 0 (length x.values.items) (omega arith) in
      by-test (i == 0)
      (λ t.
      ap shown (set i ∙ if-true (i == 0 && nat_lt 0 (length x.values.items)) v (get_or x.values.items i Unset) (both (i == 0) (nat_lt 0 (length x.values.items)) t some))
      ∙ sym (if-true (i == 0) (shown v) o.Unset t))
      (λ t.
      ap shown (set i ∙ if-false (i == 0 && nat_lt 0 (length x.values.items)) v (get_or x.values.items i Unset) (neither (i == 0) (nat_lt 0 (length x.values.items)) t) ∙ empty i)
      ∙ sym (if-false (i == 0) (shown v) o.Unset t));
}
