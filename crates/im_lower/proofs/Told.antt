-- What a frame may need is told of each function: the number isn't cut off at the end of its type.
use Rattle.std.proofs.Common.{ℕ, suc, ◌+◌, ◌-◌, ◌<◌, List, [], ◌∷◌, length}
use Rattle.std.specs.Prelude.{◌^◌, All}
use Rattle.std.proofs.lemmas.List.Elements.{All-nil, All-cons}
use Rattle.im_typed.specs.declared.program.Func.{Func}
use Rattle.im_typed.specs.declared.program.Prog.{Prog}
use Rattle.im_block.specs.declared.unit.Function.{Function}
use Rattle.im_lower_plain.specs.MakeUnit.{FunctionsMade, AllMade}

abbrev IsTold : Function → Type 0
IsTold f = f.need < 2 ^ 64 - 1

each_told : (g : Prog) (k first accesses last : ℕ) (fs : List Func) (cs : List Function) → FunctionsMade g k first accesses last fs cs → All IsTold cs
each_told g k first accesses last [] [] h = All-nil IsTold
each_told g k first accesses last [] (c ∷ cs) h = absurd h
each_told g k first accesses last (f ∷ fs) [] h = absurd h
each_told g k first accesses last (f ∷ fs) (c ∷ cs) h =
    All-cons IsTold c cs h.1.small (each_told g (suc k) (first + length f.objects.items) h.0 last fs cs h.2)

pub all_told : (g : Prog) (functions : List Function) → AllMade g functions → All IsTold functions
all_told g functions h = each_told g 0 (length g.statics.items) 0 h.last g.funcs.items functions h.each
