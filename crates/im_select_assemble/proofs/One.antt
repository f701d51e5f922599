-- A unit of one function, for a test.
use Rattle.std.proofs.Common.{◌≡◌, ◌<◌, ℕ, zero, suc, List, [], ◌∷◌, Some, length, get_or, sym, ap, ◌∙◌, subst, arith}
use Rattle.std.specs.Prelude.{slice_get}
use Rattle.std.proofs.lemmas.Option.{slice_get_within, get_or_from_slice_get}
use Rattle.im_block.specs.declared.unit.Function.{Function}
use Rattle.im_frame.specs.declared.layout.Layout.{Layout}
use Rattle.im_frame.specs.Layout.{IsLayout}

pub layouts_of : (functions : List Function) (layouts : List Layout) (l : Layout) (d : Function) → length functions ≡ 1 → layouts ≡ l ∷ [] → d ≡ get_or functions 0 d → IsLayout d l → (i : ℕ) (f : Function) (k : Layout) → slice_get functions i ≡ Some f → slice_get layouts i ≡ Some k → IsLayout f k
layouts_of functions layouts l d one e is h i f k a b = by i (slice_get_within functions i f a) a (ap (λ z. slice_get z i) (sym e) ∙ b)
  where
    by : (i : ℕ) → i < length functions → slice_get functions i ≡ Some f → slice_get (l ∷ []) i ≡ Some k → IsLayout f k
    by zero t x y =
        let q : d ≡ f = is ∙ get_or_from_slice_get functions 0 f d x in
        let r : l ≡ k = (let z : Some l ≡ Some k = y in cc) in
        subst (λ z. IsLayout z k) q (subst (IsLayout d) r h)
    by (suc i) t x y = absurd (omega arith)
