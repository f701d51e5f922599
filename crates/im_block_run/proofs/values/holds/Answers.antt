use Rattle.std.proofs.Common.{◌≡◌, refl, sym, subst, false}
use Rattle.std.specs.Prelude.{Bool}
use Rattle.im_num.specs.declared.kind.Kind.{Kind}
use Rattle.im_num.specs.declared.kind.Kind.TheVariants.{I8, U8, I16, U16, I32, U32, Ptr}
use Rattle.im_store.specs.Checks.{Checked, Fine, then_}
use Rattle.im_store.specs.Numbers.{compares}
use Rattle.im_store.specs.Objects.{same_kind}
use Rattle.im_store.specs.Pointers.{compare_places}
use Rattle.im_block.specs.Meaning as m
use Rattle.im_eval_store.specs.Changes.{Decides}
use Rattle.im_eval_store.specs.Shown.{shown}
use Rattle.im_eval_store.proofs.Finding.{if-false}
use Rattle.im_block_run.proofs.values.holds.Goals as goal

other-kind : (k : Kind) → (k ≡ Ptr → ⊥) → same_kind k Ptr ≡ false
other-kind I8 h = refl
other-kind U8 h = refl
other-kind I16 h = refl
other-kind U16 h = refl
other-kind I32 h = refl
other-kind U32 h = refl
other-kind Ptr h = absurd (h refl)

pub returns-in-Ptr : goal.returns-in-Ptr
returns-in-Ptr c = rw c.in-Ptr.is (λ last store h. c.places_compared.ensures last store h)

pub returns-in_default : goal.returns-in_default
returns-in_default c = λ last store h.
    let kind = c.args.kind in
    let v = shown c.args.left in
    let w = shown c.args.right in
    let places : Checked Bool = then_ (m.pointer_of store v) (λ a. then_ (m.pointer_of store w) (λ b. compare_places c.args.op a b)) in
    let numbers : Checked Bool = then_ (m.converted kind v) (λ a. then_ (m.converted kind w) (λ b. Fine (compares c.args.op a b))) in
    subst (λ (r : Checked Bool). Decides c.numbers_compared.result r) (sym (if-false (same_kind kind Ptr) places numbers (other-kind kind c.in_default.not-Ptr))) c.numbers_compared.ensures
