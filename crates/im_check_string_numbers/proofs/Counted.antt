-- One part more, by the string literals that stand in it.
use Rattle.std.proofs.Common.{◌≡◌, ℕ, ◌+◌, List, ◌++◌, length, Result, Ok, Err, IfOk, ap, arith, length-append}
use Rattle.im_num.specs.declared.fault.NoMemory.{NoMemory}
use Rattle.im_rules.specs.im_word.Words.{Name}
use Rattle.im_ctree.specs.Tree as t
use Rattle.im_ctree.specs.Shape.{declarator_of, core_of, type_name_of}
use Rattle.im_ctree.specs.declared.declarator.Declarator as dc
use Rattle.im_ctree.specs.declared.declarator.Parameter as pm
use Rattle.im_ctree.specs.declared.declarator.TypeName as tn
use Rattle.im_ctree.specs.declared.specifier.Member as mb
use Rattle.im_rules.specs.Strings as s
use Rattle.im_ctree_parts.specs.Lists.{specifiers_in, declarators_from, declarator_from, suffixes_from, with_member, with_parameter}
use Rattle.im_ctree_parts.proofs.Shapes.{member_shape, declarator_shape, parameter_shape, type_name_shape}

-- behind the string literals of two parts
pub joined : (next inner : ℕ) (xs ys zs : List Name) → zs ≡ xs ++ ys → inner ≡ next + length xs → inner + length ys ≡ next + length zs
joined next inner xs ys zs e f = omega (arith, ap length e, length-append xs ys, f)

-- what stands beside one part is counted, and that part is left
pub others_counted : (done inner all : ℕ) (before part behind whole : List Name) → whole ≡ before ++ (part ++ behind) → inner ≡ done + length (before ++ behind) → done + length whole ≡ all → inner + length part ≡ all
others_counted done inner all before part behind whole e f g =
    omega (arith, ap length e, length-append before (part ++ behind), length-append part behind, length-append before behind, f, g)

-- a part of one that has others behind it
pub passing : {R : Type 0} (r : Result ℕ NoMemory) (next : ℕ) (xs : List Name) (whole others : R → List Name)
    → ((rest : R) → whole rest ≡ xs ++ others rest)
    → IfOk r (λ n. n ≡ next + length xs)
    → IfOk r (λ n. (rest : R) → n + length (others rest) ≡ next + length (whole rest))
passing (Ok n) next xs whole others e f = λ rest. omega (arith, ap length (e rest), length-append xs (others rest), f)
passing (Err _) next xs whole others e f = tt

-- two parts of one that has others behind it
pub both_passing : {R : Type 0} (r : Result ℕ NoMemory) (next inner : ℕ) (xs ys : List Name) (whole others : R → List Name)
    → ((rest : R) → whole rest ≡ xs ++ (ys ++ others rest))
    → inner ≡ next + length xs
    → IfOk r (λ n. n ≡ inner + length ys)
    → IfOk r (λ n. (rest : R) → n + length (others rest) ≡ next + length (whole rest))
both_passing (Ok n) next inner xs ys whole others e f g =
    λ rest. omega (arith, ap length (e rest), length-append xs (ys ++ others rest), length-append ys (others rest), f, g)
both_passing (Err _) next inner xs ys whole others e f g = tt

-- what stands in a part, by its fields

pub in_member : (m : mb.Member) (rest : t.Members) → s.strings_of_members (with_member m rest) ≡ s.strings_specified (specifiers_in (mb.out-Member m).specifiers) ++ (s.strings_of_declarators (declarators_from (mb.out-Member m).declarators.items) ++ s.strings_of_members rest)
in_member m rest = ap s.strings_of_members (member_shape m rest)

pub in_declarator : (d : dc.Declarator) → s.strings_of_declarator (declarator_of d) ≡ s.strings_of_core (core_of (dc.out-Declarator d).core) ++ s.strings_of_suffixes (suffixes_from (dc.out-Declarator d).suffixes.items)
in_declarator d = ap s.strings_of_declarator (declarator_shape d)

pub in_parameter : (p : pm.Parameter) (rest : t.Parameters) → s.strings_of_parameters (with_parameter p rest) ≡ s.strings_specified (specifiers_in (pm.out-Parameter p).specifiers) ++ (s.strings_may (declarator_from (pm.out-Parameter p).declarator) ++ s.strings_of_parameters rest)
in_parameter p rest = ap s.strings_of_parameters (parameter_shape p rest)

pub in_type_name : (n : tn.TypeName) → s.strings_named (type_name_of n) ≡ s.strings_specified (specifiers_in (tn.out-TypeName n).specifiers) ++ s.strings_may (declarator_from (tn.out-TypeName n).declarator)
in_type_name n = ap s.strings_named (type_name_shape n)
