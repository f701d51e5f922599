-- Sizes over the limit are sizes of the unit.
use Rattle.std.proofs.Common.{◌≡◌, ℕ, List, [], refl, subst}
use Rattle.im_check_file_functions.specs.im_word.Words.{Name}
use Rattle.im_ctree.specs.Tree as t
use Rattle.im_rules.specs.Declared.{Qualified}
use Rattle.im_rules.specs.FileScope.{FilePlace}
use Rattle.im_rules.specs.TypedUnit.{FirstValues, AreDeclared, one_declared, none_declared}
use Rattle.im_rules.specs.UnitBreaks.{an_external, some_declared, some_externals, first_external, other_externals, declaration_specifiers, declared_part, other_declared, file_declarator, FileBroken, here_in_file, within_file, in_file_inner, in_static_initialiser, in_static_values, at_declarator}
use Rattle.im_check_file_functions.specs.im_rules_limits.Limits.{FileSized, of_static, size_in_file_part, size_in_file_inner, size_in_static_initialiser}
use Rattle.im_check_externals.specs.Large.{alone, LargeDeclared, this_declarator, other_declarator, LargeExternal, in_specifiers, in_declarators, in_function, LargeAmong, this_external, other_external}

-- nothing is wrong in no declarators

nothing_sized : {f : FilePlace} {xs : t.SpecifierList} {q : Qualified} {k : ℕ} → FileSized f (some_declared xs q t.no_init_declarators) k → ⊥
nothing_sized (size_in_file_part p s) = elim p [ ]
nothing_sized (size_in_file_inner p s) = elim p [ ]

nothing_broken : {f : FilePlace} {xs : t.SpecifierList} {q : Qualified} {r k : ℕ} → FileBroken f (some_declared xs q t.no_init_declarators) r k → ⊥
nothing_broken (here_in_file p) = elim p [ ]
nothing_broken (within_file p s) = elim p [ ]
nothing_broken (in_file_inner p s) = elim p [ ]

-- what is wrong in a declarator alone is wrong in front of others

pub more_sized : {f : FilePlace} {xs : t.SpecifierList} {q : Qualified} {d : t.Declarator} {i : t.MaybeInitializer} {k : ℕ} (ds : t.InitDeclarators)
    → FileSized f (some_declared xs q (alone d i)) k
    → FileSized f (some_declared xs q (t.more_init_declarators d i ds)) k
more_sized ds (of_static dd c) = of_static dd c
more_sized ds (size_in_file_part (other_declared dd) s) = absurd (nothing_sized s)
more_sized ds (size_in_file_inner file_declarator s) = size_in_file_inner file_declarator s
more_sized ds (size_in_static_initialiser dd s) = size_in_static_initialiser dd s

pub more_broken : {f : FilePlace} {xs : t.SpecifierList} {q : Qualified} {d : t.Declarator} {i : t.MaybeInitializer} {r k : ℕ} (ds : t.InitDeclarators)
    → FileBroken f (some_declared xs q (alone d i)) r k
    → FileBroken f (some_declared xs q (t.more_init_declarators d i ds)) r k
more_broken ds (here_in_file (at_declarator dd b)) = here_in_file (at_declarator dd b)
more_broken ds (within_file (other_declared dd) s) = absurd (nothing_broken s)
more_broken ds (in_file_inner file_declarator s) = in_file_inner file_declarator s
more_broken ds (in_static_initialiser dd s) = in_static_initialiser dd s
more_broken ds (in_static_values dd n s) = in_static_values dd n s

-- behind the last declarator nothing changes
pub ends : {xs : t.SpecifierList} {q : Qualified} {f g : FilePlace} {gs : List FirstValues} → AreDeclared xs q f t.no_init_declarators gs g → (g ≡ f) × (gs ≡ [])
ends none_declared = (refl, refl)

step_sized : {xs : t.SpecifierList} {q : Qualified} {f g : FilePlace} {d : t.Declarator} {i : t.MaybeInitializer} {gs : List FirstValues} {k : ℕ} (ds : t.InitDeclarators)
    → AreDeclared xs q f (alone d i) gs g
    → FileSized g (some_declared xs q ds) k
    → FileSized f (some_declared xs q (t.more_init_declarators d i ds)) k
step_sized {xs = xs} {q = q} {k = k} ds (one_declared dd m v more) s = size_in_file_part (other_declared dd) (subst (λ (p : FilePlace). FileSized p (some_declared xs q ds) k) (ends more).0 s)

declared_sized : {xs : t.SpecifierList} {q : Qualified} {f : FilePlace} {ds : t.InitDeclarators} {bytes token : ℕ} {x : Name}
    → LargeDeclared xs q f ds bytes token x
    → FileSized f (some_declared xs q ds) bytes
declared_sized (this_declarator {ds = ds} s) = more_sized ds s
declared_sized (other_declarator {ds = ds} p w l) = step_sized ds p (declared_sized l)

external_sized : {f : FilePlace} {x : t.External} {bytes token : ℕ} {name : Name} → LargeExternal f x bytes token name → FileSized f (an_external x) bytes
external_sized (in_specifiers s) = size_in_file_part declaration_specifiers s
external_sized (in_declarators p w l) = size_in_file_part (declared_part p) (declared_sized l)
external_sized (in_function s) = s

pub among_sized : {f : FilePlace} {u : t.Tree} {bytes token : ℕ} {name : Name} → LargeAmong f u bytes token name → FileSized f (some_externals u) bytes
among_sized (this_external l) = size_in_file_part first_external (external_sized l)
among_sized (other_external p w l) = size_in_file_part (other_externals p) (among_sized l)
