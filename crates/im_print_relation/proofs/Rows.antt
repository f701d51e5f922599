-- The words of each list, of specifiers and of parameters derive them again, where those of their parts do.
use Rattle.std.proofs.Common.{◌≡◌, ℕ, suc, ◌+◌, Bool, true, false, List, ◌∷◌, ◌++◌, length, sym, subst, ap, append_assoc, Some, None}
use Rattle.im_tok.specs.declared.punctuator.Punctuator.TheVariants.{CloseBrace, Semicolon, Comma}
use Rattle.im_word.specs.Words.{Name, Word, name, mark}
use Rattle.im_ctree.specs.Typedefs.{adds_type, has_type}
use Rattle.im_ctree.specs.Tree as t
use Rattle.im_ctree.specs.Grammar as g
use Rattle.im_print_relation.specs.Printed as w
use Rattle.im_print_relation.specs.Unnumbered as bare
use Rattle.im_print_relation.specs.Fit.{IsFit, AreFit}
use Rattle.im_print_relation.proofs.Fit.{fit_append, fit_closed, Printed}
use Rattle.im_print_relation.proofs.Bare.{adds_again, has_again}
use Rattle.im_print_relation.proofs.Nodes.{Prints, in_assignment, in_conditional}
use Rattle.im_print_relation.proofs.Declarators.{Parts, AbstractParts, Led, assembled, abstract_assembled, first_printed, first_free, named_free}

-- a parameter, by its two parts
pub record AgainParameter (T : List Name) (s : t.Specifiers) (d : t.MaybeDeclarator) (u : List Word) : Type 0 where
  pub fit : AreFit u
  pub derives : (q : ℕ) → (again : t.Specifiers) × (behind : t.MaybeDeclarator) × (bare.specifiers again ≡ bare.specifiers s) × (bare.maybe_declarator behind ≡ bare.maybe_declarator d) × g.IsParameter T q again behind u

pub arguments_node : {T : List Name} {a : t.Expression} {bs : t.Expressions} → Prints T a → Printed bare.expressions (g.ArgumentTail T) bs (w.argument_tail T bs) → Printed bare.expressions (g.IsArguments T) (t.more_expressions a bs) (w.arguments T (t.more_expressions a bs))
arguments_node {T = T} {a = a} {bs = bs} x two =
    let one = in_assignment T a x in
    let s = w.at_binding 1 a (w.expression T a) in
    record {
      fit = fit_append s (w.argument_tail T bs) one.fit two.fit;
      derives = λ q. let y = one.derives q in let z = two.derives (q + length s) in (t.more_expressions y.0 z.0, cc (y.1, z.1), g.first_argument y.2 z.2);
    }

pub argument_tail_node : {T : List Name} {a : t.Expression} {bs : t.Expressions} → Prints T a → Printed bare.expressions (g.ArgumentTail T) bs (w.argument_tail T bs) → Printed bare.expressions (g.ArgumentTail T) (t.more_expressions a bs) (w.argument_tail T (t.more_expressions a bs))
argument_tail_node {T = T} {a = a} {bs = bs} x two =
    let one = in_assignment T a x in
    let s = w.at_binding 1 a (w.expression T a) in
    record {
      fit = (tt, fit_append s (w.argument_tail T bs) one.fit two.fit);
      derives = λ q. let y = one.derives (suc q) in let z = two.derives (suc q + length s) in (t.more_expressions y.0 z.0, cc (y.1, z.1), g.next_argument y.2 z.2);
    }

pub specifiers_node : {T : List Name} {x : t.Specifier} {xs : t.SpecifierList} (p : ℕ) → Printed bare.specifier (g.IsSpecifier T false) x (w.specifier T x) → Printed bare.specifier_list (g.SpecifierTail T (adds_type false x)) xs (w.specifier_list T xs) → Printed bare.specifiers (g.IsSpecifiers T) (t.specifiers p (t.more_specifiers x xs)) (w.specifiers T (t.specifiers p (t.more_specifiers x xs)))
specifiers_node {T = T} {x = x} {xs = xs} p a b =
    record {
      fit = fit_append (w.specifier T x) (w.specifier_list T xs) a.fit b.fit;
      derives = λ q. let y = a.derives q in let z = b.derives (q + length (w.specifier T x)) in (
        t.specifiers q (t.more_specifiers y.0 z.0),
        cc (y.1, z.1),
        g.first_specifier y.2 (subst (λ k. g.SpecifierTail T k (q + length (w.specifier T x)) z.0 (w.specifier_list T xs)) (sym (adds_again false x y.0 y.1)) z.2),
      );
    }

pub specifier_tail_node : {T : List Name} {before : Bool} {x : t.Specifier} {xs : t.SpecifierList} → Printed bare.specifier (g.IsSpecifier T before) x (w.specifier T x) → Printed bare.specifier_list (g.SpecifierTail T (adds_type before x)) xs (w.specifier_list T xs) → Printed bare.specifier_list (g.SpecifierTail T before) (t.more_specifiers x xs) (w.specifier_list T (t.more_specifiers x xs))
specifier_tail_node {T = T} {before = before} {x = x} {xs = xs} a b =
    record {
      fit = fit_append (w.specifier T x) (w.specifier_list T xs) a.fit b.fit;
      derives = λ q. let y = a.derives q in let z = b.derives (q + length (w.specifier T x)) in (
        t.more_specifiers y.0 z.0,
        cc (y.1, z.1),
        g.next_specifier y.2 (subst (λ k. g.SpecifierTail T k (q + length (w.specifier T x)) z.0 (w.specifier_list T xs)) (sym (adds_again before x y.0 y.1)) z.2),
      );
    }

pub struct_node : {T : List Name} {before : Bool} {ms : t.Members} (p : ℕ) → Printed bare.members (g.IsMembers T) ms (w.members T ms) → Printed bare.specifier (g.IsSpecifier T before) (t.struct_specifier p None ms) (w.specifier T (t.struct_specifier p None ms))
struct_node {T = T} {ms = ms} p a =
    record {
      fit = (tt, (tt, fit_closed (w.members T ms) (mark CloseBrace) tt a.fit));
      derives = λ q. let y = a.derives (suc (suc q)) in (t.struct_specifier q None y.0, cc y.1, g.a_struct y.2);
    }

pub named_struct_node : {T : List Name} {before : Bool} {ms : t.Members} (p : ℕ) (n : Name) → IsFit (name n) → Printed bare.members (g.IsMembers T) ms (w.members T ms) → Printed bare.specifier (g.IsSpecifier T before) (t.struct_specifier p (Some n) ms) (w.specifier T (t.struct_specifier p (Some n) ms))
named_struct_node {T = T} {ms = ms} p n is a =
    record {
      fit = (tt, (is, (tt, fit_closed (w.members T ms) (mark CloseBrace) tt a.fit)));
      derives = λ q. let y = a.derives (suc (suc (suc q))) in (t.struct_specifier q (Some n) y.0, cc y.1, g.a_named_struct n y.2);
    }

pub enum_node : {T : List Name} {before : Bool} {es : t.Enumerators} (p : ℕ) → Printed bare.enumerators (g.IsEnumerators T) es (w.enumerators T es) → Printed bare.specifier (g.IsSpecifier T before) (t.enum_specifier p None es) (w.specifier T (t.enum_specifier p None es))
enum_node {T = T} {es = es} p a =
    record {
      fit = (tt, (tt, fit_closed (w.enumerators T es) (mark CloseBrace) tt a.fit));
      derives = λ q. let y = a.derives (suc (suc q)) in (t.enum_specifier q None y.0, cc y.1, g.an_enum y.2);
    }

pub named_enum_node : {T : List Name} {before : Bool} {es : t.Enumerators} (p : ℕ) (n : Name) → IsFit (name n) → Printed bare.enumerators (g.IsEnumerators T) es (w.enumerators T es) → Printed bare.specifier (g.IsSpecifier T before) (t.enum_specifier p (Some n) es) (w.specifier T (t.enum_specifier p (Some n) es))
named_enum_node {T = T} {es = es} p n is a =
    record {
      fit = (tt, (is, (tt, fit_closed (w.enumerators T es) (mark CloseBrace) tt a.fit)));
      derives = λ q. let y = a.derives (suc (suc (suc q))) in (t.enum_specifier q (Some n) y.0, cc y.1, g.a_named_enum n y.2);
    }

pub members_node : {T : List Name} {s : t.Specifiers} {d : t.Declarator} {ds : t.Declarators} {ms : t.Members} → Printed bare.specifiers (g.IsSpecifiers T) s (w.specifiers T s) → Parts T false d → Printed bare.declarators (g.DeclaratorTail T) ds (w.declarator_tail T ds) → Printed bare.members (g.MemberTail T) ms (w.members T ms) → Printed bare.members (g.IsMembers T) (t.more_members s (t.more_declarators d ds) ms) (w.members T (t.more_members s (t.more_declarators d ds) ms))
members_node {T = T} {s = s} {d = d} {ds = ds} {ms = ms} a parts c e =
    let b = first_printed (has_type s) d parts in
    let a' = w.specifiers T s in
    let b' = w.behind_specifiers T (has_type s) d (w.declarator T d) in
    let c' = w.declarator_tail T ds in
    let e' = w.members T ms in
    record {
      fit = fit_append a' ((b' ++ c') ++ (mark Semicolon ∷ e')) a.fit (fit_append (b' ++ c') (mark Semicolon ∷ e') (fit_append b' c' b.fit c.fit) (tt, e.fit));
      derives = λ q. let ya = a.derives q in let yb = b.derives (q + length a') in let yc = c.derives (q + length a' + length b') in let ye = e.derives (suc (q + length a' + length b' + length c')) in (
        t.more_members ya.0 (t.more_declarators yb.0 yc.0) ye.0,
        cc (ya.1, yb.1, yc.1, ye.1),
        subst (g.IsMembers T q (t.more_members ya.0 (t.more_declarators yb.0 yc.0) ye.0)) (ap (λ z. a' ++ z) (sym (append_assoc b' c' (mark Semicolon ∷ e'))))
            (g.first_member ya.2 (subst (λ z. g.GoesOnSpecifiers T z b' → ⊥) (sym (has_again s ya.0 ya.1)) (first_free (has_type s) d parts)) yb.2 yc.2 ye.2),
      );
    }

pub member_tail_node : {T : List Name} {ms : t.Members} → Printed bare.members (g.IsMembers T) ms (w.members T ms) → Printed bare.members (g.MemberTail T) ms (w.members T ms)
member_tail_node a = record { fit = a.fit; derives = λ q. let y = a.derives q in (y.0, y.1, g.next_member y.2) }

pub declarator_tail_node : {T : List Name} {d : t.Declarator} {ds : t.Declarators} → Parts T false d → Printed bare.declarators (g.DeclaratorTail T) ds (w.declarator_tail T ds) → Printed bare.declarators (g.DeclaratorTail T) (t.more_declarators d ds) (w.declarator_tail T (t.more_declarators d ds))
declarator_tail_node {T = T} {d = d} {ds = ds} parts b =
    let a = assembled parts in
    record {
      fit = (tt, fit_append (w.declarator T d) (w.declarator_tail T ds) a.fit b.fit);
      derives = λ q. let y = a.derives (suc q) in let z = b.derives (suc q + length (w.declarator T d)) in (t.more_declarators y.0 z.0, cc (y.1, z.1), g.next_declarator y.2 z.2);
    }

pub enumerators_node : {T : List Name} {e : t.MaybeExpression} {es : t.Enumerators} (p : ℕ) (n : Name) → IsFit (name n) → Printed bare.maybe_expression (g.IsValue T) e (w.enumerator_value T e) → Printed bare.enumerators (g.EnumeratorTail T) es (w.enumerator_tail T es) → Printed bare.enumerators (g.IsEnumerators T) (t.more_enumerators p n e es) (w.enumerators T (t.more_enumerators p n e es))
enumerators_node {T = T} {e = e} {es = es} p n is a b =
    record {
      fit = (is, fit_append (w.enumerator_value T e) (w.enumerator_tail T es) a.fit b.fit);
      derives = λ q. let y = a.derives (suc q) in let z = b.derives (suc q + length (w.enumerator_value T e)) in (t.more_enumerators q n y.0 z.0, cc (y.1, z.1), g.first_enumerator n y.2 z.2);
    }

pub enumerator_tail_node : {T : List Name} {e : t.MaybeExpression} {es : t.Enumerators} (p : ℕ) (n : Name) → IsFit (name n) → Printed bare.maybe_expression (g.IsValue T) e (w.enumerator_value T e) → Printed bare.enumerators (g.EnumeratorTail T) es (w.enumerator_tail T es) → Printed bare.enumerators (g.EnumeratorTail T) (t.more_enumerators p n e es) (w.enumerator_tail T (t.more_enumerators p n e es))
enumerator_tail_node p n is a b =
    let x = enumerators_node p n is a b in
    record { fit = (tt, x.fit); derives = λ q. let y = x.derives (suc q) in (y.0, y.1, g.next_enumerator y.2) }

pub value_node : {T : List Name} {e : t.Expression} → Prints T e → Printed bare.maybe_expression (g.IsValue T) (t.an_expression e) (w.enumerator_value T (t.an_expression e))
value_node {T = T} {e = e} x = let a = in_conditional T e x in record { fit = (tt, a.fit); derives = λ q. let y = a.derives (suc q) in (t.an_expression y.0, cc y.1, g.a_value y.2) }

pub length_node : {T : List Name} {e : t.Expression} → Prints T e → Printed bare.maybe_expression (g.IsLength T) (t.an_expression e) (w.array_length T (t.an_expression e))
length_node {T = T} {e = e} x = let a = in_conditional T e x in record { fit = a.fit; derives = λ q. let y = a.derives q in (t.an_expression y.0, cc y.1, g.a_length y.2) }

pub parameters_node : {T : List Name} {s : t.Specifiers} {d : t.MaybeDeclarator} {qs : t.Parameters} → AgainParameter T s d (w.specifiers T s ++ w.maybe_declarator T d) → Printed bare.parameters (g.ParameterTail T) qs (w.parameter_tail T qs) → Printed bare.parameters (g.IsParameters T) (t.more_parameters s d qs) (w.parameters T (t.more_parameters s d qs))
parameters_node {T = T} {s = s} {d = d} {qs = qs} a b =
    let r = w.specifiers T s ++ w.maybe_declarator T d in
    let same = append_assoc (w.specifiers T s) (w.maybe_declarator T d) (w.parameter_tail T qs) in
    record {
      fit = subst AreFit same (fit_append r (w.parameter_tail T qs) a.fit b.fit);
      derives = λ q. let y = a.derives q in let z = b.derives (q + length r) in
          (t.more_parameters y.0 y.1 z.0, cc (y.2, y.3, z.1), subst (g.IsParameters T q (t.more_parameters y.0 y.1 z.0)) same (g.first_parameter y.4 z.2));
    }

pub parameter_tail_node : {T : List Name} {s : t.Specifiers} {d : t.MaybeDeclarator} {qs : t.Parameters} → AgainParameter T s d (w.specifiers T s ++ w.maybe_declarator T d) → Printed bare.parameters (g.ParameterTail T) qs (w.parameter_tail T qs) → Printed bare.parameters (g.ParameterTail T) (t.more_parameters s d qs) (w.parameter_tail T (t.more_parameters s d qs))
parameter_tail_node {T = T} {s = s} {d = d} {qs = qs} a b =
    let r = w.specifiers T s ++ w.maybe_declarator T d in
    let same = append_assoc (w.specifiers T s) (w.maybe_declarator T d) (w.parameter_tail T qs) in
    record {
      fit = (tt, subst AreFit same (fit_append r (w.parameter_tail T qs) a.fit b.fit));
      derives = λ q. let y = a.derives (suc q) in let z = b.derives (suc q + length r) in
          (t.more_parameters y.0 y.1 z.0, cc (y.2, y.3, z.1), subst (λ k. g.ParameterTail T q (t.more_parameters y.0 y.1 z.0) (mark Comma ∷ k)) same (g.next_parameter y.4 z.2));
    }

pub named_parameter_node : {T : List Name} {s : t.Specifiers} {d : t.Declarator} (v : List Word) → (g.GoesOnSpecifiers T (has_type s) v → ⊥) → Led T d v → Printed bare.specifiers (g.IsSpecifiers T) s (w.specifiers T s) → Parts T true d → AgainParameter T s (t.a_declarator d) (w.specifiers T s ++ w.maybe_declarator T (t.a_declarator d))
named_parameter_node {T = T} {s = s} {d = d} v free leads a parts =
    let b = assembled parts in
    record {
      fit = fit_append (w.specifiers T s) (w.declarator T d) a.fit b.fit;
      derives = λ q. let k = a.derives q in let z = b.derives (q + length (w.specifiers T s)) in (
        k.0,
        t.a_declarator z.0,
        k.1,
        cc z.1,
        g.named_parameter k.2 (subst (λ h. g.GoesOnSpecifiers T h (w.declarator T d) → ⊥) (sym (has_again s k.0 k.1)) (named_free (has_type s) v parts leads free)) z.2,
      );
    }

pub other_parameter_node : {T : List Name} {s : t.Specifiers} {d : t.MaybeDeclarator} → Printed bare.specifiers (g.IsSpecifiers T) s (w.specifiers T s) → Printed bare.maybe_declarator (g.IsMaybeAbstract T) d (w.maybe_declarator T d) → AgainParameter T s d (w.specifiers T s ++ w.maybe_declarator T d)
other_parameter_node {T = T} {s = s} {d = d} a b =
    record {
      fit = fit_append (w.specifiers T s) (w.maybe_declarator T d) a.fit b.fit;
      derives = λ q. let k = a.derives q in let z = b.derives (q + length (w.specifiers T s)) in (k.0, z.0, k.1, z.1, g.other_parameter k.2 z.2);
    }

pub type_name_node : {T : List Name} {s : t.Specifiers} {d : t.MaybeDeclarator} → Printed bare.specifiers (g.IsSpecifiers T) s (w.specifiers T s) → Printed bare.maybe_declarator (g.IsMaybeAbstract T) d (w.maybe_declarator T d) → Printed bare.type_name (g.IsTypeName T) (t.type_name s d) (w.type_name T (t.type_name s d))
type_name_node {T = T} {s = s} {d = d} a b =
    record {
      fit = fit_append (w.specifiers T s) (w.maybe_declarator T d) a.fit b.fit;
      derives = λ q. let k = a.derives q in let z = b.derives (q + length (w.specifiers T s)) in (t.type_name k.0 z.0, cc (k.1, z.1), g.a_type_name k.2 z.2);
    }

pub maybe_abstract_node : {T : List Name} {d : t.Declarator} → AbstractParts T d → Printed bare.maybe_declarator (g.IsMaybeAbstract T) (t.a_declarator d) (w.maybe_declarator T (t.a_declarator d))
maybe_abstract_node parts = let a = abstract_assembled parts in record { fit = a.fit; derives = λ q. let y = a.derives q in (t.a_declarator y.0, cc y.1, g.an_abstract y.2) }
