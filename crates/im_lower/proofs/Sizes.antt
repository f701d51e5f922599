-- The bytes of an object by its number among those of all functions, function by function.
use Rattle.std.proofs.Common.{◌≡◌, ℕ, zero, suc, ◌+◌, ◌-◌, ◌<◌, ◌≤◌, List, [], ◌∷◌, ◌++◌, map, drop, length, get_or, sym, ap, ◌∙◌, arith}
use Rattle.std.specs.Prelude.{Some, slice_get}
use Rattle.im_ctype.specs.Table.{Table}
use Rattle.im_typed.specs.declared.program.Func.{Func}
use Rattle.im_typed.specs.declared.program.Object.{Object}
use Rattle.im_typed.specs.Program as p
use Rattle.im_typed.specs.ProgramOf.{func_of, object_of}
use Rattle.im_lower_relation.specs.Codes.{all_objects, object_size}
use Rattle.im_lower.proofs.Taken.{dropped}

got-here : (types : Table) (os : List Object) (ys : List p.LocalObject) (n : ℕ) (o : Object) → n < length os → o ≡ get_or os n o → object_size (slice_get (map (object_of types) os ++ ys) n) ≡ Some o.size
got-here types [] ys n o lt e = absurd (omega arith)
got-here types (x ∷ os) ys zero o lt e = ap (λ (y : Object). Some y.size) (sym e)
got-here types (x ∷ os) ys (suc n) o lt e = got-here types os ys n o (let less : n < length os = omega arith in less) e

got-past : (types : Table) (os : List Object) (ys : List p.LocalObject) (n : ℕ) → length os ≤ n → slice_get (map (object_of types) os ++ ys) n ≡ slice_get ys (n - length os)
got-past types [] ys n le = ap (slice_get ys) (let same : n ≡ n - 0 = omega arith in same)
got-past types (x ∷ os) ys zero le = absurd (omega arith)
got-past types (x ∷ os) ys (suc n) le =
    let less : length os ≤ n = omega arith in
    let same : n - length os ≡ suc n - length (x ∷ os) = omega arith in
    got-past types os ys n less ∙ ap (slice_get ys) same

module _ (types : Table) (fs : List Func) (i left : ℕ) (f : Func) (within : i < length fs) (is : f ≡ get_or fs i f) where
  pub sized-here : (o : Object) → left < length f.objects.items → o ≡ get_or f.objects.items left o → object_size (slice_get (all_objects (map (func_of types) (drop i fs))) left) ≡ Some o.size
  sized-here o lt e =
      ap (λ gs. object_size (slice_get (all_objects (map (func_of types) gs)) left)) (dropped fs i f within is)
      ∙ got-here types f.objects.items (all_objects (map (func_of types) (drop (i + 1) fs))) left o lt e

  pub sized-past : length f.objects.items ≤ left → object_size (slice_get (all_objects (map (func_of types) (drop i fs))) left) ≡ object_size (slice_get (all_objects (map (func_of types) (drop (i + 1) fs))) (left - length f.objects.items))
  sized-past le =
      ap (λ gs. object_size (slice_get (all_objects (map (func_of types) gs)) left)) (dropped fs i f within is)
      ∙ ap object_size (got-past types f.objects.items (all_objects (map (func_of types) (drop (i + 1) fs))) left le)
