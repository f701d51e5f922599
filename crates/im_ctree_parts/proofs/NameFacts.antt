-- Typedef names, by the vectors that a declaration was made of.
use Rattle.std.proofs.Common.{◌≡◌, List, ◌++◌, sym, ap, ◌∙◌, true, false}
use Rattle.std.specs.Prelude.{cond}
use Rattle.im_word.specs.Words.{Name}
use Rattle.im_ctree.specs.declared.specifier.Specifiers as ss
use Rattle.im_ctree.specs.declared.declaration.Declaration.{Declaration}
use Rattle.im_ctree.specs.Tree as t
use Rattle.im_ctree.specs.Shape.{init_declarators_of, declaration_of}
use Rattle.im_ctree.specs.Typedefs.{has_typedef, declared_names, typedef_names}
use Rattle.im_ctree_parts.specs.Lists.{list_from}
use Rattle.im_ctree_parts.proofs.Shapes.{specifiers_shape}

behind_declaration : (T : List Name) (d : Declaration) → typedef_names T (declaration_of d) ≡ cond (has_typedef (list_from (ss.out-Specifiers d.specifiers).items.items)) (declared_names (init_declarators_of d.declarators.items) ++ T) T
behind_declaration T d = ap (λ z. typedef_names T (t.declaration z (init_declarators_of d.declarators.items))) (specifiers_shape d.specifiers)

pub remembers_none : (T : List Name) (d : Declaration) → has_typedef (list_from (ss.out-Specifiers d.specifiers).items.items) ≡ false → T ≡ typedef_names T (declaration_of d)
remembers_none T d none = sym (behind_declaration T d ∙ ap (λ b. cond b (declared_names (init_declarators_of d.declarators.items) ++ T) T) none)

pub remembers_some : (T : List Name) (d : Declaration) → has_typedef (list_from (ss.out-Specifiers d.specifiers).items.items) ≡ true → declared_names (init_declarators_of d.declarators.items) ++ T ≡ typedef_names T (declaration_of d)
remembers_some T d some = sym (behind_declaration T d ∙ ap (λ b. cond b (declared_names (init_declarators_of d.declarators.items) ++ T) T) some)
