-- The sizes in external declarations.
use Rattle.std.proofs.Common.{◌≤◌, ℕ, List, sym, subst}
use Rattle.im_ctree.specs.Tree as t
use Rattle.im_check_file_functions.specs.im_typed.Program.{Func}
use Rattle.im_rules.specs.FileScope.{FilePlace}
use Rattle.im_rules.specs.TypedUnit.{FirstValues, TypedExternal}
use Rattle.im_rules.specs.UnitBreaks.{an_external, some_externals, first_external, other_externals}
use Rattle.im_rules.proofs.UnitOnce.{external_once}
use Rattle.im_check_file_functions.specs.im_rules_limits.Limits.{size_limit, FileSized, size_in_file_part, size_in_file_inner, IsFileWithin}

pub nothing_within : (f : FilePlace) (k : ℕ) → FileSized f (some_externals t.no_externals) k → k ≤ size_limit
nothing_within f k (size_in_file_part p r) = elim p [ ]
nothing_within f k (size_in_file_inner p r) = elim p [ ]

pub more_within : {f g : FilePlace} {x : t.External} {xs : t.Tree} {gs : List FirstValues} {ks : List Func}
    → TypedExternal f x gs ks g
    → IsFileWithin f (an_external x)
    → IsFileWithin g (some_externals xs)
    → (k : ℕ) → FileSized f (some_externals (t.more_externals x xs)) k → k ≤ size_limit
more_within s one others k (size_in_file_part first_external r) = one k r
more_within {xs = xs} s one others k (size_in_file_part (other_externals s') r) = others k (subst (λ (j : FilePlace). FileSized j (some_externals xs) k) (sym (external_once s s').2) r)
more_within s one others k (size_in_file_inner x r) = elim x [ ]
