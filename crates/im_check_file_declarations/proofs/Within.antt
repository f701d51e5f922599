-- Sizes of declarations at file scope are within the limit where those of their parts are.
use Rattle.std.proofs.Common.{ℕ, ◌≤◌, sym, subst}
use Rattle.im_ctree.specs.Tree as t
use Rattle.im_rules.specs.Breaks.{a_declarator}
use Rattle.im_rules.specs.BodyBreaks.{an_initialiser}
use Rattle.im_rules.specs.Declared.{Qualified, Declared}
use Rattle.im_rules.specs.Initialisers.{completed}
use Rattle.im_rules.specs.Typed.{Declares}
use Rattle.im_rules.specs.FileScope.{FilePlace, past_strings, of_the_file}
use Rattle.im_rules.specs.TypedUnit.{Specify, given_strings, past_declarator}
use Rattle.im_rules.specs.UnitBreaks.{an_external, some_declared, file_specifiers, declaration_specifiers, declared_part, other_declared, file_declarator}
use Rattle.im_rules.proofs.Once.{declares_once}
use Rattle.im_rules.proofs.UnitOnce.{specify_once}
use Rattle.im_check_file_specifiers.specs.im_rules_limits.Limits.{size_limit, Counted, GivenSized, FileSized, of_static, size_in_file_part, size_in_file_inner, size_in_static_initialiser, IsWithin, IsFileWithin}
use Rattle.im_check_sizes.specs.Sizes.{AllFit}
use Rattle.im_check_initialisers.specs.Given.{IsInitialisationWithin}

pub nothing_within : (f : FilePlace) (xs : t.SpecifierList) (q : Qualified) (k : ℕ) → FileSized f (some_declared xs q t.no_init_declarators) k → k ≤ size_limit
nothing_within f xs q k (size_in_file_part p s) = elim p [ ]
nothing_within f xs q k (size_in_file_inner p s) = elim p [ ]

pub declared_within : (f : FilePlace) (xs : t.SpecifierList) (q : Qualified) (d : t.Declarator) (i : t.MaybeInitializer) (ds : t.InitDeclarators) (y : Declared)
    → Declares f.context q d y
    → AllFit f.context.known (completed y.type i)
    → IsWithin f.context (a_declarator q d)
    → IsInitialisationWithin (past_declarator xs d y i f).context (completed y.type i) i
    → IsFileWithin (past_strings (given_strings f (completed y.type i) i) (past_declarator xs d y i f)) (some_declared xs q ds)
    → (k : ℕ) → FileSized f (some_declared xs q (t.more_init_declarators d i ds)) k → k ≤ size_limit
declared_within f xs q d i ds y dd fits v u w k (of_static dd' counted) =
    fits k (subst (λ (z : Declared). Counted f.context.known (completed z.type i) k) (sym (declares_once dd dd')) counted)
declared_within f xs q d i ds y dd fits v u w k (size_in_file_part (other_declared dd') s) =
    w k (subst (λ (z : Declared). FileSized (past_strings (given_strings f (completed z.type i) i) (past_declarator xs d z i f)) (some_declared xs q ds) k) (sym (declares_once dd dd')) s)
declared_within f xs q d i ds y dd fits v u w k (size_in_file_inner file_declarator s) = v k s
declared_within f xs q d (t.an_initializer i) ds y dd fits v u w k (size_in_static_initialiser dd' s) =
    u k (subst (λ (z : Declared). GivenSized (past_declarator xs d z (t.an_initializer i) f).context (an_initialiser (completed z.type (t.an_initializer i)) 0 i) k) (sym (declares_once dd dd')) s)

pub declaration_within : (f g : FilePlace) (at : ℕ) (xs : t.SpecifierList) (q : Qualified) (ds : t.InitDeclarators)
    → Specify of_the_file f xs q g
    → IsFileWithin f (file_specifiers of_the_file (t.specifiers at xs))
    → IsFileWithin g (some_declared xs q ds)
    → (k : ℕ) → FileSized f (an_external (t.external_declaration (t.declaration (t.specifiers at xs) ds))) k → k ≤ size_limit
declaration_within f g at xs q ds s v w k (size_in_file_part declaration_specifiers z) = v k z
declaration_within f g at xs q ds s v w k (size_in_file_part (declared_part {g = g'} {q = q'} s') z) =
    let p = specify_once s s' in
    let z₁ = subst (λ (j : FilePlace). FileSized j (some_declared xs q' ds) k) (sym p.1) z in
    w k (subst (λ (o : Qualified). FileSized g (some_declared xs o ds) k) (sym p.0) z₁)
declaration_within f g at xs q ds s v w k (size_in_file_inner p z) = elim p [ ]
