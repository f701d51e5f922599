-- Plans and layouts, one more at a time.
use Rattle.std.proofs.Common.{◌≡◌, ℕ, ◌+◌, List, [], ◌∷◌, ◌++◌, length, refl}
use Rattle.im_store.specs.Objects.{Shape}
use Rattle.im_typed.specs.Program.{Func}
use Rattle.im_eval_store.specs.declared.plan.Plan.{Plan}
use Rattle.im_eval_machine.specs.declared.code.Layout.{Layout}
use Rattle.im_eval_machine.specs.Settings.{IsPlanOf, ArePlans, AreLayouts, local_shapes}

pub plans-more : (shapes : List Shape) (plans : List Plan) (s : Shape) (p : Plan) → ArePlans shapes plans → IsPlanOf s p → ArePlans (shapes ++ s ∷ []) (plans ++ p ∷ [])
plans-more [] [] s p are is = (is, tt)
plans-more [] (q ∷ plans) s p are is = absurd are
plans-more (t ∷ shapes) [] s p are is = absurd are
plans-more (t ∷ shapes) (q ∷ plans) s p are is = (are.0, plans-more shapes plans s p are.1 is)

-- the number behind those of the objects of functions
abbrev pub past : ℕ → List Func → ℕ
past first [] = first
past first (f ∷ fs) = past (first + length f.objects) fs

pub past-more : (first : ℕ) (fs : List Func) (f : Func) → past first (fs ++ f ∷ []) ≡ past first fs + length f.objects
past-more first [] f = refl
past-more first (g ∷ fs) f = past-more (first + length g.objects) fs f

pub layouts-more : (first : ℕ) (fs : List Func) (ls : List Layout) (f : Func) (l : Layout) → AreLayouts first fs ls → l.first ≡ past first fs → ArePlans (local_shapes f.objects) l.plans.items
    → AreLayouts first (fs ++ f ∷ []) (ls ++ l ∷ [])
layouts-more first [] [] f l are e plans = (e, plans, tt)
layouts-more first [] (m ∷ ls) f l are e plans = absurd are
layouts-more first (g ∷ fs) [] f l are e plans = absurd are
layouts-more first (g ∷ fs) (m ∷ ls) f l are e plans =
    (are.0, are.1, layouts-more (first + length g.objects) fs ls f l are.2 e plans)
