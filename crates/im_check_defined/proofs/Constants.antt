-- Constants have the same values by each table.
use Rattle.std.proofs.Common.{◌≡◌, List, [], ◌∷◌, map, refl, ap, ◌∙◌}
use Rattle.im_check_sites.specs.im_ctype.Table.{Table}
use Rattle.im_check_sites.specs.im_store.Objects.{Value}
use Rattle.im_typed.specs.declared.program.Constant.{Constant}
use Rattle.im_typed.specs.declared.program.Constant.TheVariants as rc
use Rattle.im_typed.specs.ProgramOf.{first_of}

pub same_value : (a b : Table) (c : Constant) → first_of a c ≡ first_of b c
same_value a b (rc.Number z) = refl
same_value a b rc.Null = refl
same_value a b (rc.Inside o offset) = refl

pub same_values : (a b : Table) (cs : List Constant) → map {A = Constant} (first_of a) cs ≡ map {A = Constant} (first_of b) cs
same_values a b [] = refl
same_values a b (c ∷ cs) = ap (λ (v : Value). v ∷ map {A = Constant} (first_of a) cs) (same_value a b c) ∙ ap (λ (vs : List Value). first_of b c ∷ vs) (same_values a b cs)
