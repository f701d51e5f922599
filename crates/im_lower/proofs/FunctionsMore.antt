-- One function more.
use Rattle.std.proofs.Common.{◌≡◌, ℕ, zero, suc, ◌+◌, ◌<◌, ◌==◌, List, [], ◌∷◌, ◌++◌, take, length, get_or, refl, sym, ap, ◌∙◌, subst, add-one, arith}
use Rattle.im_typed.specs.declared.program.Func.{Func}
use Rattle.im_typed.specs.declared.program.Prog.{Prog}
use Rattle.im_block.specs.declared.unit.Function.{Function}
use Rattle.im_lower_plain.specs.MakeUnit.{FunctionMade, FunctionsMade, objects_of}

pub functions_more : (g : Prog) (k first accesses last : ℕ) (fs : List Func) (cs : List Function) (f : Func) (c : Function) (next : ℕ) → FunctionsMade g k first accesses last fs cs → FunctionMade g f ((k + length fs) == g.main) (first + objects_of fs) last c next → FunctionsMade g k first accesses next (fs ++ f ∷ []) (cs ++ c ∷ [])
functions_more g k first accesses last [] [] f c next done one =
    let number : k + 0 ≡ k = omega arith in
    let object : first + 0 ≡ first = omega arith in
    (next, subst (λ a. FunctionMade g f (k == g.main) first a c next) (sym done) (subst (λ n. FunctionMade g f (k == g.main) n last c next) object (subst (λ n. FunctionMade g f (n == g.main) (first + 0) last c next) number one)), refl)
functions_more g k first accesses last [] (x ∷ cs) f c next done one = absurd done
functions_more g k first accesses last (x ∷ fs) [] f c next done one = absurd done
functions_more g k first accesses last (x ∷ fs) (y ∷ cs) f c next done one =
    let number : k + suc (length fs) ≡ suc k + length fs = omega arith in
    let object : first + (length x.objects.items + objects_of fs) ≡ first + length x.objects.items + objects_of fs = omega arith in
    let moved = subst (λ n. FunctionMade g f (n == g.main) (first + length x.objects.items + objects_of fs) last c next) number (subst (λ n. FunctionMade g f ((k + suc (length fs)) == g.main) n last c next) object one) in
    (done.0, done.1, functions_more g (suc k) (first + length x.objects.items) done.0 last fs cs f c next done.2 moved)

pub objects_of_more : (fs : List Func) (f : Func) → objects_of (fs ++ f ∷ []) ≡ objects_of fs + length f.objects.items
objects_of_more [] f = omega arith
objects_of_more (x ∷ fs) f = let h = objects_of_more fs f in omega arith

pub take_more : (fs : List Func) (i : ℕ) (f : Func) → i < length fs → f ≡ get_or fs i f → take (i + 1) fs ≡ take i fs ++ f ∷ []
take_more fs i f lt e = ap (λ n. take n fs) (add-one i) ∙ go fs i f lt e
  where
    go : (fs : List Func) (i : ℕ) (f : Func) → i < length fs → f ≡ get_or fs i f → take (suc i) fs ≡ take i fs ++ f ∷ []
    go [] i f lt e = absurd (omega arith)
    go (y ∷ ys) zero f lt e = ap (λ z. z ∷ []) (sym e)
    go (y ∷ ys) (suc i) f lt e = ap (λ zs. y ∷ zs) (go ys i f (let less : i < length ys = omega arith in less) e)
