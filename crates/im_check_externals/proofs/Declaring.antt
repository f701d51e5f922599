-- A declaration at file scope, put together.
use Rattle.std.proofs.Common.{List, Result, Ok, Err, MatchResult, [], sym, subst}
use Rattle.im_ctree.specs.Tree as t
use Rattle.im_ctree.specs.Shape.{specifiers_of}
use Rattle.im_ctree.specs.declared.specifier.Specifiers as ss
use Rattle.im_rules.specs.Declared.{Qualified}
use Rattle.im_rules.specs.FileScope.{FilePlace, of_the_file}
use Rattle.im_rules.specs.TypedUnit.{Specify}
use Rattle.im_rules.specs.UnitBreaks.{file_specifiers, within_file, declaration_specifiers, declared_part}
use Rattle.im_check_file_functions.specs.im_rules_limits.Limits.{IsFileWithin}
use Rattle.im_check_stop.specs.declared.stop.Stop.{Stop}
use Rattle.im_ctree_parts.specs.Lists.{specifiers_in}
use Rattle.im_ctree_parts.proofs.Shapes.{specifiers_shape}
use Rattle.im_check_file_specifiers.specs.Answers.{IsFileFault, list_of}
use Rattle.im_check_defined.specs.declared.first_values.FirstValues as rf
use Rattle.im_check_file_declarations.specs.Declarations.{DeclaratorsDone, DeclarationDone}
use Rattle.im_check_file_declarations.proofs.External.{declaration_made}
use Rattle.im_check_externals.specs.declared.fault.UnitFault.{UnitFault}
use Rattle.im_check_externals.specs.Faults.{IsDeclaredFault, IsExternalFault, IsMetIn}
use Rattle.im_check_externals.specs.Large.{LargeExternal, in_specifiers, in_declarators}
use Rattle.im_check_externals.proofs.Faults.{of_whole, of_stop}

abbrev tree_by : t.Specifiers → t.InitDeclarators → t.External
tree_by s ds = t.external_declaration (t.declaration s ds)

pub unspecified : (f : FilePlace) (s : ss.Specifiers) (ds : t.InitDeclarators) (stop : Stop) (fault : UnitFault)
    → IsFileFault f (file_specifiers of_the_file (specifiers_in s)) stop
    → IsMetIn (ss.out-Specifiers s).at [] stop fault
    → IsExternalFault f (tree_by (specifiers_of s) ds) fault
unspecified f s ds stop fault h is =
    let here : IsExternalFault f (tree_by (specifiers_in s) ds) fault =
    of_stop (LargeExternal f (tree_by (specifiers_in s) ds)) (ss.out-Specifiers s).at [] stop fault (λ rule token b. within_file declaration_specifiers b) (λ bytes z. in_specifiers z) h is in
    subst (λ z. IsExternalFault f (tree_by z ds) fault) (sym (specifiers_shape s)) here

undeclared : (f g : FilePlace) (s : ss.Specifiers) (q : Qualified) (ds : t.InitDeclarators) (fault : UnitFault)
    → Specify of_the_file f (list_of s) q g × IsFileWithin f (file_specifiers of_the_file (specifiers_in s))
    → IsDeclaredFault (list_of s) q g ds fault
    → IsExternalFault f (tree_by (specifiers_of s) ds) fault
undeclared f g s q ds fault p h =
    let here : IsExternalFault f (tree_by (specifiers_in s) ds) fault =
    of_whole fault (λ rule token b. within_file (declared_part p.0) b) (λ bytes token name l. in_declarators p.0 p.1 l) h in
    subst (λ z. IsExternalFault f (tree_by z ds) fault) (sym (specifiers_shape s)) here

pub made : (f g h : FilePlace) (s : ss.Specifiers) (q : Qualified) (ds : t.InitDeclarators) (old new : List rf.FirstValues) (result : Result Unit UnitFault)
    → Specify of_the_file f (list_of s) q g × IsFileWithin f (file_specifiers of_the_file (specifiers_in s))
    → MatchResult result (λ u. DeclaratorsDone (list_of s) q g ds old new h) (IsDeclaredFault (list_of s) q g ds)
    → MatchResult result (λ u. DeclarationDone f (tree_by (specifiers_of s) ds) old new h) (IsExternalFault f (tree_by (specifiers_of s) ds))
made f g h s q ds old new (Ok u) p d = declaration_made f g h s q ds old new (Ok tt) p d
made f g h s q ds old new (Err fault) p d = undeclared f g s q ds fault p d
