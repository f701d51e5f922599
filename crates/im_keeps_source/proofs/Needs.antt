-- What frames may need has 64 bits, where code tells it below the greatest number of 64 bits.
use Rattle.std.proofs.Common.{◌≡◌, ℕ, suc, ◌-◌, ◌<◌, ◌^◌, List, [], ◌∷◌, length, min, refl, arith}
use Rattle.std.specs.Prelude.{All, Some, slice_get}
use Rattle.std.proofs.lemmas.List.Elements.{All-head, All-tail}
use Rattle.im_typed.specs.Program.{Func, Prog}
use Rattle.im_typed.specs.Counts.{func_need}
use Rattle.im_typed.specs.Typing.{Each}
use Rattle.im_block.specs.declared.unit.Function.{Function}
use Rattle.im_block.specs.declared.unit.Unit.{Unit as Code}
use Rattle.im_lower_relation.specs.Lowered.{IsLowered}
use Rattle.im_keeps_source.specs.LoweringLaws.{NeedsFit}

abbrev AreTold : List Func → List Function → Type 0
AreTold fs cs = (k : ℕ) (f : Func) (c : Function) → slice_get fs k ≡ Some f → slice_get cs k ≡ Some c → c.need ≡ min (func_need f) (2 ^ 64 - 1)

abbrev IsTold : Function → Type 0
IsTold c = c.need < 2 ^ 64 - 1

each_fits : (fs : List Func) (cs : List Function) → length cs ≡ length fs → AreTold fs cs → All IsTold cs → Each {A = Func} (λ f. func_need f < 2 ^ 64) fs
each_fits [] cs count are told = tt
each_fits (f ∷ fs) [] count are told = absurd (cc)
each_fits (f ∷ fs) (c ∷ cs) count are told =
    let rest : length cs ≡ length fs = cc in
    let need = are 0 f c refl refl in
    let small : c.need < 2 ^ 64 - 1 = All-head IsTold c cs told in
    (omega (arith, need, small), each_fits fs cs rest (λ k x y a b. are (suc k) x y a b) (All-tail IsTold c cs told))

pub needs_fit : (prog : Prog) (code : Code) → IsLowered prog code → All (λ (c : Function). c.need < 2 ^ 64 - 1) code.functions.items → NeedsFit prog
needs_fit prog code lower told = record {
  functions = each_fits prog.funcs code.functions.items lower.count (λ k f c a b. (lower.functions k f c a b).need) told;
}
