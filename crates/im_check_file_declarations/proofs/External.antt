-- A declaration at file scope, put together.
use Rattle.std.proofs.Common.{ℕ, List, Result, Ok, Err, MatchResult, sym, subst}
use Rattle.im_ctree.specs.Tree as t
use Rattle.im_ctree.specs.Shape.{specifiers_of}
use Rattle.im_ctree.specs.declared.specifier.Specifiers as ss
use Rattle.im_rules.specs.Declared.{Qualified}
use Rattle.im_rules.specs.FileScope.{FilePlace, of_the_file}
use Rattle.im_rules.specs.TypedUnit.{Specify, of_declaration}
use Rattle.im_rules.specs.UnitBreaks.{an_external, some_declared, file_specifiers, within_file, declaration_specifiers, declared_part}
use Rattle.im_check_file_specifiers.specs.im_rules_limits.Limits.{size_in_file_part, IsFileWithin}
use Rattle.im_check_stop.specs.declared.stop.Stop.{Stop}
use Rattle.im_check_stop.specs.declared.stop.Stop.TheVariants.{Rule, Large, Memory}
use Rattle.im_ctree_parts.specs.Lists.{specifiers_in}
use Rattle.im_ctree_parts.proofs.Shapes.{specifiers_shape}
use Rattle.im_check_file_specifiers.specs.Answers.{IsFileFault, list_of}
use Rattle.im_check_defined.specs.declared.first_values.FirstValues as rf
use Rattle.im_check_file_declarations.specs.Declarations.{DeclaratorsDone, DeclarationDone}
use Rattle.im_check_file_declarations.proofs.Within.{declaration_within}

-- a declaration with these specifiers
abbrev tree_by : t.Specifiers → t.InitDeclarators → t.External
tree_by s ds = t.external_declaration (t.declaration s ds)

specifiers_broken : (f : FilePlace) (s : t.Specifiers) (ds : t.InitDeclarators) (stop : Stop) → IsFileFault f (file_specifiers of_the_file s) stop → IsFileFault f (an_external (tree_by s ds)) stop
specifiers_broken f s ds (Rule rule token) h = within_file declaration_specifiers h
specifiers_broken f s ds (Large bytes) h = (size_in_file_part declaration_specifiers h.0, h.1)
specifiers_broken f s ds Memory h = tt

pub unspecified : (f : FilePlace) (s : ss.Specifiers) (ds : t.InitDeclarators) (stop : Stop)
    → IsFileFault f (file_specifiers of_the_file (specifiers_in s)) stop
    → IsFileFault f (an_external (tree_by (specifiers_of s) ds)) stop
unspecified f s ds stop h = subst (λ z. IsFileFault f (an_external (tree_by z ds)) stop) (sym (specifiers_shape s)) (specifiers_broken f (specifiers_in s) ds stop h)

declarators_broken : (f g : FilePlace) (at : ℕ) (xs : t.SpecifierList) (q : Qualified) (ds : t.InitDeclarators) (stop : Stop)
    → Specify of_the_file f xs q g
    → IsFileFault g (some_declared xs q ds) stop
    → IsFileFault f (an_external (tree_by (t.specifiers at xs) ds)) stop
declarators_broken f g at xs q ds (Rule rule token) s h = within_file (declared_part s) h
declarators_broken f g at xs q ds (Large bytes) s h = (size_in_file_part (declared_part s) h.0, h.1)
declarators_broken f g at xs q ds Memory s h = tt

declaration_done : (f g h : FilePlace) (at : ℕ) (xs : t.SpecifierList) (q : Qualified) (ds : t.InitDeclarators) (old new : List rf.FirstValues)
    → Specify of_the_file f xs q g × IsFileWithin f (file_specifiers of_the_file (t.specifiers at xs))
    → DeclaratorsDone xs q g ds old new h
    → DeclarationDone f (tree_by (t.specifiers at xs) ds) old new h
declaration_done f g h at xs q ds old new s d =
    record {
      given = d.given;
      added = d.added;
      typed = of_declaration s.0 d.typed;
      within = declaration_within f g at xs q ds s.0 s.1 d.within;
    }

pub declaration_made : (f g h : FilePlace) (s : ss.Specifiers) (q : Qualified) (ds : t.InitDeclarators) (old new : List rf.FirstValues) (result : Result Unit Stop)
    → Specify of_the_file f (list_of s) q g × IsFileWithin f (file_specifiers of_the_file (specifiers_in s))
    → MatchResult result (λ u. DeclaratorsDone (list_of s) q g ds old new h) (IsFileFault g (some_declared (list_of s) q ds))
    → MatchResult result (λ u. DeclarationDone f (tree_by (specifiers_of s) ds) old new h) (IsFileFault f (an_external (tree_by (specifiers_of s) ds)))
declaration_made f g h s q ds old new (Ok u) r d =
    subst (λ z. DeclarationDone f (tree_by z ds) old new h) (sym (specifiers_shape s)) (declaration_done f g h (ss.out-Specifiers s).at (list_of s) q ds old new r d)
declaration_made f g h s q ds old new (Err stop) r d =
    subst (λ z. IsFileFault f (an_external (tree_by z ds)) stop) (sym (specifiers_shape s)) (declarators_broken f g (ss.out-Specifiers s).at (list_of s) q ds stop r.0 d)
