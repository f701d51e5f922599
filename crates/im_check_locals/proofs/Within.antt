-- No size in declarators of a block is over the limit, where none in their parts is.
use Rattle.std.proofs.Common.{ℕ, sym, subst}
use Rattle.im_ctree.specs.Tree as t
use Rattle.im_rules.specs.Breaks.{a_declarator}
use Rattle.im_rules.specs.BodyBreaks.{an_initialiser, some_locals, a_declaration, local_declarator, locals_behind, declared_locals}
use Rattle.im_rules.specs.Declared as d
use Rattle.im_rules.specs.Initialisers.{completed}
use Rattle.im_rules.specs.Statements.{Site, in_context, with_local, behind_initializer}
use Rattle.im_rules.specs.Typed.{Declares}
use Rattle.im_rules.proofs.Once.{declares_once}
use Rattle.im_check_initialisers.specs.im_rules_limits.Limits.{Counted, GivenSized, BodySized, of_local, size_in_part, size_in_inner, size_in_step, size_in_local_initialiser, IsWithin, IsBodyWithin}
use Rattle.im_check_sizes.specs.Sizes.{AllFit}
use Rattle.im_check_initialisers.specs.Given.{IsInitialisationWithin}

pub no_local_within : {s : Site} {q : d.Qualified} → IsBodyWithin s (some_locals q t.no_init_declarators)
no_local_within k (size_in_part part sized) = elim part [ ]
no_local_within k (size_in_inner part sized) = elim part [ ]
no_local_within k (size_in_step part sized) = elim part [ ]

pub local_within : {s : Site} {q : d.Qualified} {e : t.Declarator} {i : t.MaybeInitializer} {ds : t.InitDeclarators} {y : d.Declared}
    → Declares s.context q e y
    → IsWithin s.context (a_declarator q e)
    → AllFit s.context.known (completed y.type i)
    → IsInitialisationWithin (with_local e y (completed y.type i) s).context (completed y.type i) i
    → IsBodyWithin (behind_initializer (completed y.type i) i (with_local e y (completed y.type i) s)) (some_locals q ds)
    → IsBodyWithin s (some_locals q (t.more_init_declarators e i ds))
local_within {s = s} {i = i} declares declarator fits given rest k (of_local other counted) =
    fits k (subst (λ (z : d.Declared). Counted s.context.known (completed z.type i) k) (sym (declares_once declares other)) counted)
local_within {s = s} {q = q} {e = e} {i = i} {ds = ds} declares declarator fits given rest k (size_in_part (locals_behind other) sized) =
    rest k (subst (λ (z : d.Declared). BodySized (behind_initializer (completed z.type i) i (with_local e z (completed z.type i) s)) (some_locals q ds) k) (sym (declares_once declares other)) sized)
local_within declares declarator fits given rest k (size_in_inner local_declarator sized) = declarator k sized
local_within declares declarator fits given rest k (size_in_step part sized) = elim part [ ]
local_within {s = s} {e = e} {i = t.an_initializer i} declares declarator fits given rest k (size_in_local_initialiser other sized) =
    given k (subst (λ (z : d.Declared). GivenSized (with_local e z (completed z.type (t.an_initializer i)) s).context (an_initialiser (completed z.type (t.an_initializer i)) 0 i) k) (sym (declares_once declares other)) sized)

pub declaration_within : {s : Site} {at : ℕ} {xs : t.SpecifierList} {ds : t.InitDeclarators}
    → IsBodyWithin (in_context (d.behind_tags s.context xs ds) s) (some_locals (d.type_of_specifiers s.context xs) ds)
    → IsBodyWithin s (a_declaration (t.declaration (t.specifiers at xs) ds))
declaration_within locals k (size_in_part (declared_locals meets) sized) = locals k sized
declaration_within locals k (size_in_inner part sized) = elim part [ ]
declaration_within locals k (size_in_step part sized) = elim part [ ]
