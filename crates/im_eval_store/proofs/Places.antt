-- Places at offsets of objects that live.
use Rattle.std.proofs.Common.{◌≡◌, ℕ, ◌<◌, ◌≤◌, refl, ap, ◌∙◌, subst, arith}
use Rattle.std.specs.Prelude.{Some, None, Result, ℤ, pos, negsuc, nat_abs, ◌<ℤ◌, ◌≤ℤ◌, nat_le}
use Rattle.std.proofs.lemmas.Bool.{le-leb, lt-leb}
use Rattle.std.proofs.lemmas.Int.{ints}
use Rattle.im_store.specs.declared.undefined.Undefined.TheVariants.{OutsideObject}
use Rattle.im_store.specs.Checks.{Fine, Bad, unless}
use Rattle.im_store.specs.Objects.{Object, Pointer, Shape, Store}
use Rattle.im_store.specs.Pointers.{reaches, within}
use Rattle.im_store.specs.declared.undefined.Undefined.{Undefined}
use Rattle.im_eval_store.specs.declared.value.Value as places
use Rattle.im_eval_store.specs.Shown.{Checks}
use Rattle.im_eval_store.proofs.Finding.{if-true, if-false}

pub within-none : (store : Store) (o : Object) (z : ℤ) → store.shape o ≡ None → within store o z ≡ Bad OutsideObject
within-none store o (negsuc n) e = refl
within-none store o (pos n) e = ap (λ r. unless (reaches r n) (Pointer o n) OutsideObject) e

pub within-past : (store : Store) (o : Object) (n : ℕ) (shape : Shape) → store.shape o ≡ Some shape → shape.size < n → within store o (pos n) ≡ Bad OutsideObject
within-past store o n shape e lt =
    ap (λ r. unless (reaches r n) (Pointer o n) OutsideObject) e
    ∙ if-false (nat_le n shape.size) (Fine (Pointer o n)) (Bad OutsideObject) (lt-leb n shape.size lt)

pub within-in : (store : Store) (o : Object) (n : ℕ) (shape : Shape) → store.shape o ≡ Some shape → n ≤ shape.size → within store o (pos n) ≡ Fine (Pointer o n)
within-in store o n shape e le =
    ap (λ r. unless (reaches r n) (Pointer o n) OutsideObject) e
    ∙ if-true (nat_le n shape.size) (Fine (Pointer o n)) (Bad OutsideObject) (le-leb n shape.size le)

pub outside : (store : Store) (o : Object) (z : ℤ) (shape : Shape) → store.shape o ≡ Some shape → pos shape.size <ℤ z → within store o z ≡ Bad OutsideObject
outside store o (negsuc n) shape e lt = refl
outside store o (pos n) shape e lt = within-past store o n shape e (omega (arith, ints))

pub inside : (store : Store) (o : Object) (z : ℤ) (shape : Shape) → store.shape o ≡ Some shape → pos 0 ≤ℤ z → z ≤ℤ pos shape.size → within store o z ≡ Fine (Pointer o (nat_abs z))
inside store o (negsuc n) shape e le lt = absurd (omega (arith, ints))
inside store o (pos n) shape e le lt = within-in store o n shape e (omega (arith, ints))

-- a place at one offset is that at an equal one
pub at-same : (store : Store) (o : Object) (r : Result places.Value Undefined) (z y : ℤ) → Checks r (within store o z) → z ≡ y → Checks r (within store o y)
at-same store o r z y h e = subst (λ x. Checks r (within store o x)) e h
