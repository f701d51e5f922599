-- Lists that are built in the order of others.
use Rattle.std.proofs.Common.{◌≡◌, ℕ, zero, suc, ◌+◌, ◌<◌, List, [], ◌∷◌, ◌++◌, map, take, length, get_or, sym, ap, ◌∙◌, subst, add-one, arith}
use Rattle.std.specs.Prelude.{Some, slice_get, Vec}
use Rattle.std.specs.declared.alloc.Global.{Global}
use Rattle.im_block.specs.declared.unit.Function.{Function}
use Rattle.im_eval_store.specs.declared.plan.Plan.{Plan}
use Rattle.im_eval_machine.specs.Settings.{ArePlans}
use Rattle.im_block_run.specs.Laid.{AreLayouts, object_shapes}

pub layouts-more : (fs : List Function) (vs : List (Vec Plan Global)) (f : Function) (v : Vec Plan Global) → AreLayouts fs vs → ArePlans (object_shapes f.objects.items) v.items → AreLayouts (fs ++ f ∷ []) (vs ++ v ∷ [])
layouts-more [] [] f v are is = (is, tt)
layouts-more [] (w ∷ vs) f v are is = absurd are
layouts-more (g ∷ fs) [] f v are is = absurd are
layouts-more (g ∷ fs) (w ∷ vs) f v are is = (are.0, layouts-more fs vs f v are.1 is)

-- the plans of a function
pub layout-of : (fs : List Function) (vs : List (Vec Plan Global)) (i : ℕ) (f : Function) (v : Vec Plan Global) → AreLayouts fs vs → slice_get fs i ≡ Some f → slice_get vs i ≡ Some v → ArePlans (object_shapes f.objects.items) v.items
layout-of [] vs i f v are e g = absurd (cc)
layout-of (x ∷ fs) [] i f v are e g = absurd are
layout-of (x ∷ fs) (w ∷ vs) zero f v are e g =
    let one : x ≡ f = cc in
    let two : w ≡ v = cc in
    subst (λ (y : Function). ArePlans (object_shapes y.objects.items) v.items) one (subst (λ (z : Vec Plan Global). ArePlans (object_shapes x.objects.items) z.items) two are.0)
layout-of (x ∷ fs) (w ∷ vs) (suc i) f v are e g = layout-of fs vs i f v are.1 e g

taken-suc : {X : Type 0} (xs : List X) (i : ℕ) (x : X) → i < length xs → x ≡ get_or xs i x → take (suc i) xs ≡ take i xs ++ x ∷ []
taken-suc [] i x lt e = absurd (omega arith)
taken-suc (y ∷ ys) zero x lt e = ap (λ z. z ∷ []) (sym e)
taken-suc (y ∷ ys) (suc i) x lt e = ap (λ zs. y ∷ zs) (taken-suc ys i x (let less : i < length ys = omega arith in less) e)

pub taken : {X : Type 0} (xs : List X) (i : ℕ) (x : X) → i < length xs → x ≡ get_or xs i x → take (i + 1) xs ≡ take i xs ++ x ∷ []
taken xs i x lt e = ap (λ n. take n xs) (add-one i) ∙ taken-suc xs i x lt e

pub mapped-at : {X Y : Type 0} (f : X → Y) (xs : List X) (i : ℕ) (x : X) → i < length xs → x ≡ get_or xs i x → slice_get (map f xs) i ≡ Some (f x)
mapped-at f [] i x lt e = absurd (omega arith)
mapped-at f (y ∷ ys) zero x lt e = ap (λ z. Some (f z)) (sym e)
mapped-at f (y ∷ ys) (suc i) x lt e = mapped-at f ys i x (let less : i < length ys = omega arith in less) e
