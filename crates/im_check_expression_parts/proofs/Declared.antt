-- Type names, declarators and parameters, from what their parts are.
use Rattle.std.proofs.Common.{◌≡◌, ℕ, ◌+◌, false, List, [], ◌∷◌, ◌++◌, length, take, Result, Ok, Err, MatchResult, IfOk, OnOk, refl, sym, ap, ◌∙◌, subst, append_assoc}
use Rattle.std.proofs.lemmas.List.{take_at}
use Rattle.im_check_declarators.specs.im_word.Words.{Name}
use Rattle.im_check_declarators.specs.im_ctree.Tree as t
use Rattle.im_check_declarators.specs.im_ctype.Table.{Table, structs_of}
use Rattle.im_rules.specs.Context.{Context, in_new_scope, behind_core, behind_may}
use Rattle.im_rules.specs.Declared as d
use Rattle.im_rules.specs.Demands.{asks, Meets}
use Rattle.im_rules.specs.Rules.{named_in}
use Rattle.im_rules.specs.Scopes.{opened, at_file_scope}
use Rattle.im_rules.specs.Strings.{strings_named, strings_may, strings_of_core, strings_of_suffixes, strings_of_declarator, strings_of_parameters}
use Rattle.im_rules.specs.Typed.{Names, of_type_name, MayDeclare, of_no_declarator, of_a_declarator, Declares, of_declarator, DeclaresIn, of_nothing, of_name, of_inner, Suffixed, AreParameters, a_parameter}
use Rattle.im_rules.specs.Breaks.{a_type_name, maybe_declarator, a_declarator, a_core, some_suffixes, some_parameters, at_specifiers, at_type_name, at_stars, at_parameter, parameter_token, name_specifiers, name_declarator, suffixes_part, core_part, inner_part, declarator_part, parameter_specifiers, parameter_declarator, parameters_behind}
use Rattle.im_check_declarators.specs.im_rules_limits.Limits.{IsWithin}
use Rattle.im_check_declarators.specs.im_check_stop.declared.stop.Stop.{Stop}
use Rattle.im_check_declarators.specs.im_check_stop.Answers.{IsRefusal}
use Rattle.im_check_declarators.specs.im_check_scopes.declared.entity.Entry.{Entry}
use Rattle.im_check_declarators.specs.im_check_scopes.declared.entity.Entry.TheVariants as n
use Rattle.im_check_declarators.specs.im_check_scopes.Shape.{scopes_of}
use Rattle.im_check_declarators.specs.im_types.Shape.{type_of}
use Rattle.im_check_declarators.specs.im_check_type_specifiers.declared.qualified.Qualified.{Qualified}
use Rattle.im_check_declarators.specs.im_check_type_specifiers.Specified.{IsQualified, qualified_of}
use Rattle.im_check_declarators.specs.im_check_type_specifiers.Tags.{IsGrown}
use Rattle.im_check_declarators.specs.declared.declared.Declared.{Declared}
use Rattle.im_check_declarators.specs.declared.given.Given.{Given}
use Rattle.im_check_declarators.specs.Shape.{declared_of}
use Rattle.im_check_declarators.specs.Suffixes.{AreGiven, IsFault}
use Rattle.im_check_place.specs.declared.place.Place.{Place}
use Rattle.im_check_place.specs.Contexts.{context_of, behind_strings}
use Rattle.im_check_expression_parts.specs.Walked.{IsBehind, GoesOnParameters}
use Rattle.im_check_expression_parts.proofs.Places.{at_string, behind_none, behind_two}
use Rattle.im_check_expression_parts.proofs.Made.{refused_here, fault_of}
use Rattle.im_check_expression_parts.proofs.NoStrings.{none_listed}
use Rattle.im_check_expression_parts.proofs.Within.{name_within, unwritten_within, written_within, declarator_within, absent_within, named_within, inner_within, parameters_within}
use Rattle.im_check_expression_parts.proofs.ParametersBehind.{with_scope, grown_twice, scopes_same, stays_inside}

-- type names

pub name_unspecified : (p : Place) (at : ℕ) (xs : t.SpecifierList) (m : t.MaybeDeclarator) (f : Stop)
    → IsRefusal (d.specifiers_ask (context_of p) xs) at f
    → IsFault (context_of p) (a_type_name (t.type_name (t.specifiers at xs) m)) f
name_unspecified p at xs m f h = fault_of name_specifiers f (refused_here (d.specifiers_ask (context_of p) xs) (λ rule. at_specifiers) f h)

pub name_undeclared : (p : Place) (at : ℕ) (xs : t.SpecifierList) (m : t.MaybeDeclarator) (q : Qualified) (f : Stop)
    → Meets (d.specifiers_ask (context_of p) xs) × (qualified_of q ≡ d.type_of_specifiers (context_of p) xs)
    → IsFault (context_of p) (maybe_declarator (qualified_of q) m) f
    → IsFault (context_of p) (a_type_name (t.type_name (t.specifiers at xs) m)) f
name_undeclared p at xs m q f s h = fault_of (name_declarator s.0) f (subst (λ (w : d.Qualified). IsFault (context_of p) (maybe_declarator w m) f) s.1 h)

pub name_done : (p after : Place) (at : ℕ) (xs : t.SpecifierList) (m : t.MaybeDeclarator) (q : Qualified) (y : Declared) (result : Result Qualified Stop)
    → Meets (d.specifiers_ask (context_of p) xs) × (qualified_of q ≡ d.type_of_specifiers (context_of p) xs)
    → MayDeclare (context_of p) (qualified_of q) m (declared_of y) × (after ≡ behind_strings (strings_may m) p) × IsWithin (context_of p) (maybe_declarator (qualified_of q) m)
    → IsQualified (asks 6 (d.is_sized (type_of y.ty)) ∷ []) (record { constant = y.constant; type = type_of y.ty }) at result
    → MatchResult result (λ r. Names (context_of p) (t.type_name (t.specifiers at xs) m) (qualified_of r) × (after ≡ behind_strings (strings_named (t.type_name (t.specifiers at xs) m)) p) × IsWithin (context_of p) (a_type_name (t.type_name (t.specifiers at xs) m))) (IsFault (context_of p) (a_type_name (t.type_name (t.specifiers at xs) m)))
name_done p after at xs m q y (Ok r) s h k =
    let within : IsWithin (context_of p) (maybe_declarator (d.type_of_specifiers (context_of p) xs) m) = subst (λ (w : d.Qualified). IsWithin (context_of p) (maybe_declarator w m)) s.1 h.2 in
    let declared : MayDeclare (context_of p) (d.type_of_specifiers (context_of p) xs) m (declared_of y) = subst (λ (w : d.Qualified). MayDeclare (context_of p) w m (declared_of y)) s.1 h.0 in
    (subst (λ (w : d.Qualified). Names (context_of p) (t.type_name (t.specifiers at xs) m) w) (sym k.1) (of_type_name s.0 declared k.0), h.1 ∙ ap (λ zs. behind_strings (zs ++ strings_may m) p) (sym (none_listed (context_of p) xs s.0)), name_within within)
name_done p after at xs m q y (Err f) s h k =
    let declared : MayDeclare (context_of p) (d.type_of_specifiers (context_of p) xs) m (declared_of y) = subst (λ (w : d.Qualified). MayDeclare (context_of p) w m (declared_of y)) s.1 h.0 in
    refused_here (asks 6 (d.is_sized (type_of y.ty)) ∷ []) (λ rule. at_type_name s.0 declared) f k

-- declarators

pub stars_fault : (p : Place) (at : ℕ) (stars : List ℕ) (core : t.Core) (ss : t.Suffixes) (q : d.Qualified) (f : Stop)
    → IsRefusal (d.stars_ask q stars) at f
    → IsFault (context_of p) (a_declarator q (t.declarator at stars core ss)) f
stars_fault p at stars core ss q f h = refused_here (d.stars_ask q stars) (λ rule. at_stars) f h

pub suffixes_fault : (p : Place) (end at : ℕ) (stars : List ℕ) (core : t.Core) (ss : t.Suffixes) (q : d.Qualified) (f : Stop)
    → end ≡ p.next_string + length (strings_of_core core)
    → IsFault (context_of (at_string end p)) (some_suffixes (d.with_stars q stars) ss) f
    → IsFault (context_of p) (a_declarator q (t.declarator at stars core ss)) f
suffixes_fault p end at stars core ss q f e h = fault_of suffixes_part f (rw e at h)

-- what holds of each context with the table's structs, where all is given, holds at the place before the suffixes
before_suffixes : (X : Context → Type 0) (p : Place) (ss : t.Suffixes) (gs : List Given) {p₂ : Place} {types : Table}
    → AreGiven (context_of p) ss gs × (p₂ ≡ behind_strings (strings_of_suffixes ss) p)
    → types ≡ p₂.structs
    → ((j : Context) → j.known ≡ structs_of types → AreGiven j ss gs → X j)
    → X (context_of p)
before_suffixes X p ss gs h same f = f (context_of p) (ap (λ (j : Place). structs_of j.structs) (sym h.1) ∙ sym (ap structs_of same)) h.0

pub suffixed_fault : (p : Place) (end : ℕ) {p₂ : Place} {types : Table} (at : ℕ) (stars : List ℕ) (core : t.Core) (ss : t.Suffixes) (gs : List Given) (q base : Qualified) (f : Stop)
    → end ≡ p.next_string + length (strings_of_core core)
    → qualified_of base ≡ d.with_stars (qualified_of q) stars
    → AreGiven (context_of (at_string end p)) ss gs × (p₂ ≡ behind_strings (strings_of_suffixes ss) (at_string end p))
    → types ≡ p₂.structs
    → ((j : Context) → j.known ≡ structs_of types → AreGiven j ss gs → IsFault j (some_suffixes (qualified_of base) ss) f)
    → IsFault (context_of p) (a_declarator (qualified_of q) (t.declarator at stars core ss)) f
suffixed_fault p end at stars core ss gs q base f e told h same g =
    let r : IsFault (context_of (at_string end p)) (some_suffixes (qualified_of base) ss) f = before_suffixes (λ j. IsFault j (some_suffixes (qualified_of base) ss) f) (at_string end p) ss gs h same g in
    suffixes_fault p end at stars core ss (qualified_of q) f e (subst (λ (w : d.Qualified). IsFault (context_of (at_string end p)) (some_suffixes w ss) f) told r)

pub suffixed_before : (p : Place) {p₂ : Place} {types : Table} (stars : List ℕ) (ss : t.Suffixes) (gs : List Given) (q base ty : Qualified)
    → qualified_of base ≡ d.with_stars (qualified_of q) stars
    → AreGiven (context_of p) ss gs × (p₂ ≡ behind_strings (strings_of_suffixes ss) p)
    → types ≡ p₂.structs
    → ((j : Context) → j.known ≡ structs_of types → AreGiven j ss gs → Suffixed j (qualified_of base) ss (qualified_of ty) × IsWithin j (some_suffixes (qualified_of base) ss))
    → Suffixed (context_of p) (d.with_stars (qualified_of q) stars) ss (qualified_of ty) × IsWithin (context_of p) (some_suffixes (d.with_stars (qualified_of q) stars) ss)
suffixed_before p stars ss gs q base ty told h same g =
    subst (λ (w : d.Qualified). Suffixed (context_of p) w ss (qualified_of ty) × IsWithin (context_of p) (some_suffixes w ss)) told (before_suffixes (λ j. Suffixed j (qualified_of base) ss (qualified_of ty) × IsWithin j (some_suffixes (qualified_of base) ss)) p ss gs h same g)

-- the string literals before a declarator again
set_back : (p p₂ : Place) (end : ℕ) (xs ys : List Name) → end ≡ p.next_string + length xs → p₂ ≡ behind_strings ys (at_string end p) → at_string p.next_string p₂ ≡ p
set_back p p₂ end xs ys e f = rw f refl

pub core_fault : (p : Place) (end : ℕ) {p₂ : Place} (at : ℕ) (stars : List ℕ) (core : t.Core) (ss : t.Suffixes) (q r : d.Qualified) (f : Stop)
    → end ≡ p.next_string + length (strings_of_core core)
    → p₂ ≡ behind_strings (strings_of_suffixes ss) (at_string end p)
    → Suffixed (context_of (at_string end p)) (d.with_stars q stars) ss r × IsWithin (context_of (at_string end p)) (some_suffixes (d.with_stars q stars) ss)
    → IsFault (context_of (at_string p.next_string p₂)) (a_core r core) f
    → IsFault (context_of p) (a_declarator q (t.declarator at stars core ss)) f
core_fault p end {p₂ = p₂} at stars core ss q r f e behind s h =
    let s₁ : Suffixed (behind_core core (context_of p)) (d.with_stars q stars) ss r × IsWithin (behind_core core (context_of p)) (some_suffixes (d.with_stars q stars) ss) = rw e at s in
    let back = set_back p p₂ end (strings_of_core core) (strings_of_suffixes ss) e behind in
    let h₁ : IsFault (context_of p) (a_core r core) f = subst (λ (j : Place). IsFault (context_of j) (a_core r core) f) back h in
    fault_of (core_part s₁.0) f h₁

pub declarator_done : (p : Place) (end : ℕ) {p₂ p₄ : Place} (at : ℕ) (stars : List ℕ) (core : t.Core) (ss : t.Suffixes) (q r : d.Qualified) (y : d.Declared)
    → Meets (d.stars_ask q stars)
    → end ≡ p.next_string + length (strings_of_core core)
    → p₂ ≡ behind_strings (strings_of_suffixes ss) (at_string end p)
    → Suffixed (context_of (at_string end p)) (d.with_stars q stars) ss r × IsWithin (context_of (at_string end p)) (some_suffixes (d.with_stars q stars) ss)
    → DeclaresIn (context_of (at_string p.next_string p₂)) r core y × (p₄ ≡ behind_strings (strings_of_core core) (at_string p.next_string p₂)) × IsWithin (context_of (at_string p.next_string p₂)) (a_core r core)
    → Declares (context_of p) q (t.declarator at stars core ss) y × (at_string p₂.next_string p₄ ≡ behind_strings (strings_of_declarator (t.declarator at stars core ss)) p) × IsWithin (context_of p) (a_declarator q (t.declarator at stars core ss))
declarator_done p end {p₂ = p₂} {p₄ = p₄} at stars core ss q r y m e behind s h =
    let s₁ : Suffixed (behind_core core (context_of p)) (d.with_stars q stars) ss r × IsWithin (behind_core core (context_of p)) (some_suffixes (d.with_stars q stars) ss) = rw e at s in
    let back = set_back p p₂ end (strings_of_core core) (strings_of_suffixes ss) e behind in
    let h₀ : DeclaresIn (context_of p) r core y = subst (λ (j : Place). DeclaresIn (context_of j) r core y) back h.0 in
    let w₀ : IsWithin (context_of p) (a_core r core) = subst (λ (j : Place). IsWithin (context_of j) (a_core r core)) back h.2 in
    let h₁ : p₄ ≡ behind_strings (strings_of_core core) p = h.1 ∙ ap (behind_strings (strings_of_core core)) back in
    let f : p₂ ≡ behind_strings (strings_of_suffixes ss) (behind_strings (strings_of_core core) p) = behind ∙ ap (λ n. behind_strings (strings_of_suffixes ss) (at_string n p)) e in
    let whole : p₂ ≡ behind_strings (strings_of_core core ++ strings_of_suffixes ss) p = f ∙ behind_two (strings_of_core core) (strings_of_suffixes ss) p in
    let last : at_string p₂.next_string p₄ ≡ at_string p₂.next_string (behind_strings (strings_of_core core) p) = ap (at_string p₂.next_string) h₁ in
    (of_declarator m s₁.0 h₀, last ∙ ap (λ (j : Place). at_string j.next_string p) whole, declarator_within s₁.0 s₁.1 w₀)

-- what may be a declarator, and what stands in a declarator's middle

pub none_declared : (p : Place) (q : Qualified) (y : Declared) → declared_of y ≡ d.unnamed (qualified_of q)
    → MayDeclare (context_of p) (qualified_of q) t.no_declarator (declared_of y) × (p ≡ behind_strings (strings_may t.no_declarator) p) × IsWithin (context_of p) (maybe_declarator (qualified_of q) t.no_declarator)
none_declared p q y e = (subst (λ (w : d.Declared). MayDeclare (context_of p) (qualified_of q) t.no_declarator w) (sym e) of_no_declarator, sym (behind_none p), unwritten_within)

pub some_declared : (p p₁ : Place) (q : d.Qualified) (e : t.Declarator) (result : Result Declared Stop)
    → MatchResult result (λ y. Declares (context_of p) q e (declared_of y) × (p₁ ≡ behind_strings (strings_of_declarator e) p) × IsWithin (context_of p) (a_declarator q e)) (IsFault (context_of p) (a_declarator q e))
    → MatchResult result (λ y. MayDeclare (context_of p) q (t.a_declarator e) (declared_of y) × (p₁ ≡ behind_strings (strings_may (t.a_declarator e)) p) × IsWithin (context_of p) (maybe_declarator q (t.a_declarator e))) (IsFault (context_of p) (maybe_declarator q (t.a_declarator e)))
some_declared p p₁ q e (Ok y) h = (of_a_declarator h.0, h.1, written_within h.2)
some_declared p p₁ q e (Err f) h = fault_of declarator_part f h

pub absent_declared : (p : Place) (q : Qualified) (y : Declared) → declared_of y ≡ d.unnamed (qualified_of q)
    → DeclaresIn (context_of p) (qualified_of q) t.absent_core (declared_of y) × (p ≡ behind_strings (strings_of_core t.absent_core) p) × IsWithin (context_of p) (a_core (qualified_of q) t.absent_core)
absent_declared p q y e = (subst (λ (w : d.Declared). DeclaresIn (context_of p) (qualified_of q) t.absent_core w) (sym e) of_nothing, sym (behind_none p), absent_within)

pub name_declared : (p : Place) (q : Qualified) (x : Name) (y : Declared) → declared_of y ≡ d.called x (qualified_of q)
    → DeclaresIn (context_of p) (qualified_of q) (t.name_core x) (declared_of y) × (p ≡ behind_strings (strings_of_core (t.name_core x)) p) × IsWithin (context_of p) (a_core (qualified_of q) (t.name_core x))
name_declared p q x y e = (subst (λ (w : d.Declared). DeclaresIn (context_of p) (qualified_of q) (t.name_core x) w) (sym e) of_name, sym (behind_none p), named_within)

pub inner_declared : (p p₁ : Place) (q : d.Qualified) (e : t.Declarator) (result : Result Declared Stop)
    → MatchResult result (λ y. Declares (context_of p) q e (declared_of y) × (p₁ ≡ behind_strings (strings_of_declarator e) p) × IsWithin (context_of p) (a_declarator q e)) (IsFault (context_of p) (a_declarator q e))
    → MatchResult result (λ y. DeclaresIn (context_of p) q (t.inner_core e) (declared_of y) × (p₁ ≡ behind_strings (strings_of_core (t.inner_core e)) p) × IsWithin (context_of p) (a_core q (t.inner_core e))) (IsFault (context_of p) (a_core q (t.inner_core e)))
inner_declared p p₁ q e (Ok y) h = (of_inner h.0, h.1, inner_within h.2)
inner_declared p p₁ q e (Err f) h = fault_of inner_part f h

-- a scope of parameters

pub opened_context : (p : Place) (es : List Entry) → scopes_of es ≡ opened (scopes_of p.scope) → context_of (with_scope es p) ≡ in_new_scope (context_of p)
opened_context p es e = ap (λ g. record (context_of p) { scopes = g }) e

pub parameters_done : (p r : Place) (es end : List Entry) (mark : ℕ) {ps : t.Parameters} (ds : List d.Declared)
    → es ≡ p.scope ++ n.Opened ∷ []
    → scopes_of es ≡ opened (scopes_of p.scope)
    → mark ≡ length p.scope
    → AreParameters (context_of (with_scope es p)) 0 ps ds × (scopes_of r.scope ≡ (d.with_parameters 0 ps ds (context_of (with_scope es p))).scopes) × IsBehind (strings_of_parameters ps) (with_scope es p) r × IsWithin (context_of (with_scope es p)) (some_parameters 0 ps)
    → end ≡ take mark r.scope
    → AreParameters (in_new_scope (context_of p)) 0 ps ds × (with_scope end r ≡ behind_strings (strings_of_parameters ps) p) × IsWithin (in_new_scope (context_of p)) (some_parameters 0 ps)
parameters_done p r es end mark {ps = ps} ds e opening m h closed =
    let b = h.2 in
    let all : r.scope ≡ p.scope ++ (n.Opened ∷ b.grown.0) = b.grown.1 ∙ ap (λ z. z ++ b.grown.0) e ∙ append_assoc p.scope (n.Opened ∷ []) b.grown.0 in
    let back : end ≡ p.scope = closed ∙ ap (take mark) all ∙ take_at p.scope (n.Opened ∷ b.grown.0) mark (sym m) in
    (subst (λ (k : Context). AreParameters k 0 ps ds) (opened_context p es opening) h.0, ap (λ z. with_scope z r) back ∙ ap (with_scope p.scope) b.all_else, subst (λ (k : Context). IsWithin k (some_parameters 0 ps)) (opened_context p es opening) h.3)

pub parameters_broken : (p : Place) (es : List Entry) (ps : t.Parameters) (f : Stop)
    → es ≡ p.scope ++ n.Opened ∷ []
    → scopes_of es ≡ opened (scopes_of p.scope)
    → IsFault (context_of (with_scope es p)) (some_parameters 0 ps) f
    → IsFault (in_new_scope (context_of p)) (some_parameters 0 ps) f
parameters_broken p es ps f grown opening h = subst (λ (k : Context). IsFault k (some_parameters 0 ps) f) (opened_context p es opening) h

-- parameters

pub parameter_unspecified : (p : Place) (number at : ℕ) (xs : t.SpecifierList) (m : t.MaybeDeclarator) (rest : t.Parameters) (f : Stop)
    → IsRefusal (d.specifiers_ask (context_of p) xs) at f
    → IsFault (context_of p) (some_parameters number (t.more_parameters (t.specifiers at xs) m rest)) f
parameter_unspecified p number at xs m rest f h = fault_of parameter_specifiers f (refused_here (d.specifiers_ask (context_of p) xs) (λ rule. at_specifiers) f h)

pub specified_context : (p : Place) (es : List Entry) (xs : t.SpecifierList) → scopes_of es ≡ d.tags_in (context_of p) (named_in xs) → context_of (with_scope es p) ≡ d.behind_specifiers (context_of p) xs
specified_context p es xs e = ap (λ g. record (context_of p) { scopes = g }) e

pub parameter_undeclared : (p : Place) (es : List Entry) (number at : ℕ) (xs : t.SpecifierList) (m : t.MaybeDeclarator) (rest : t.Parameters) (q : Qualified) (f : Stop)
    → Meets (d.specifiers_ask (context_of p) xs) × (qualified_of q ≡ d.type_of_specifiers (context_of p) xs)
    → IsGrown p.scope es
    → scopes_of es ≡ d.tags_in (context_of p) (named_in xs)
    → IsFault (context_of (with_scope es p)) (maybe_declarator (qualified_of q) m) f
    → IsFault (context_of p) (some_parameters number (t.more_parameters (t.specifiers at xs) m rest)) f
parameter_undeclared p es number at xs m rest q f s grown e h =
    let h₁ : IsFault (d.behind_specifiers (context_of p) xs) (maybe_declarator (qualified_of q) m) f = subst (λ (c : Context). IsFault c (maybe_declarator (qualified_of q) m) f) (specified_context p es xs e) h in
    let h₂ : IsFault (d.behind_specifiers (context_of p) xs) (maybe_declarator (d.type_of_specifiers (context_of p) xs) m) f = subst (λ (w : d.Qualified). IsFault (d.behind_specifiers (context_of p) xs) (maybe_declarator w m) f) s.1 h₁ in
    fault_of (parameter_declarator s.0) f h₂

module _ (p p₂ : Place) (es es₃ : List Entry) (number at : ℕ) (xs : t.SpecifierList) (m : t.MaybeDeclarator) (rest : t.Parameters) (q : Qualified) (y : Declared)
    (s : Meets (d.specifiers_ask (context_of p) xs) × (qualified_of q ≡ d.type_of_specifiers (context_of p) xs))
    (grown₁ : IsGrown p.scope es)
    (e : scopes_of es ≡ d.tags_in (context_of p) (named_in xs))
    (h : MayDeclare (context_of (with_scope es p)) (qualified_of q) m (declared_of y) × (p₂ ≡ behind_strings (strings_may m) (with_scope es p)) × IsWithin (context_of (with_scope es p)) (maybe_declarator (qualified_of q) m)) where
  abbrev c : Context
  c = d.behind_specifiers (context_of p) xs

  declared : MayDeclare c (d.type_of_specifiers (context_of p) xs) m (declared_of y)
  declared =
      let h₁ : MayDeclare c (qualified_of q) m (declared_of y) = subst (λ (k : Context). MayDeclare k (qualified_of q) m (declared_of y)) (specified_context p es xs e) h.0 in
      subst (λ (w : d.Qualified). MayDeclare c w m (declared_of y)) s.1 h₁

  written : IsWithin c (maybe_declarator (d.type_of_specifiers (context_of p) xs) m)
  written =
      let h₁ : IsWithin c (maybe_declarator (qualified_of q) m) = subst (λ (k : Context). IsWithin k (maybe_declarator (qualified_of q) m)) (specified_context p es xs e) h.2 in
      subst (λ (w : d.Qualified). IsWithin c (maybe_declarator w m)) s.1 h₁

  behind_it : context_of p₂ ≡ behind_may m c
  behind_it = ap context_of h.1 ∙ ap (behind_may m) (specified_context p es xs e)

  pub parameter_refused : (f : Stop) → IsRefusal (d.parameter_asks (context_of p₂) number (d.parameter (declared_of y))) (parameter_token at m) f
      → IsFault (context_of p) (some_parameters number (t.more_parameters (t.specifiers at xs) m rest)) f
  parameter_refused f r =
      let r₁ : IsRefusal (d.parameter_asks (behind_may m c) number (d.parameter (declared_of y))) (parameter_token at m) f = subst (λ (k : Context). IsRefusal (d.parameter_asks k number (d.parameter (declared_of y))) (parameter_token at m) f) behind_it r in
      refused_here (d.parameter_asks c number (d.parameter (declared_of y))) (λ rule. at_parameter s.0 declared) f r₁

  pub parameter_done : (z : Declared)
      → Meets (d.parameter_asks (context_of p₂) number (d.parameter (declared_of y)))
      → declared_of z ≡ d.parameter (declared_of y)
      → scopes_of es₃ ≡ (d.with_parameter number (d.parameter (declared_of y)) (context_of p₂)).scopes
      → IsGrown p₂.scope es₃
      → GoesOnParameters p number (t.more_parameters (t.specifiers at xs) m rest) (declared_of z) rest (with_scope es₃ p₂)
  parameter_done z k told scopes grown₂ =
      let x = d.parameter (declared_of y) in
      let k₁ : Meets (d.parameter_asks c number x) = subst (λ (j : Context). Meets (d.parameter_asks j number x)) behind_it k in
      let on : context_of (with_scope es₃ p₂) ≡ d.with_parameter number x (behind_may m c) = ap (λ g. record (context_of p₂) { scopes = g }) scopes ∙ ap (d.with_parameter number x) behind_it in
      let grown₃ : IsGrown es es₃ = subst (λ zs. IsGrown zs es₃) (ap (λ (j : Place). j.scope) h.1) grown₂ in
      record {
        gives = λ ds g.
            let g₁ : AreParameters (d.with_parameter number x (behind_may m c)) (number + 1) rest ds = subst (λ (j : Context). AreParameters j (number + 1) rest ds) on g in
            subst (λ (w : d.Declared). AreParameters (context_of p) number (t.more_parameters (t.specifiers at xs) m rest) (w ∷ ds)) (sym told) (a_parameter s.0 declared k₁ g₁);
        faults = λ f b.
            let b₁ : IsFault (d.with_parameter number x (behind_may m c)) (some_parameters (number + 1) rest) f = subst (λ (j : Context). IsFault j (some_parameters (number + 1) rest) f) on b in
            fault_of (parameters_behind s.0 declared) f b₁;
        within = λ w.
            let w₁ : IsWithin (d.with_parameter number x (behind_may m c)) (some_parameters (number + 1) rest) = subst (λ (j : Context). IsWithin j (some_parameters (number + 1) rest)) on w in
            parameters_within declared written w₁;
        scopes = λ ds.
            ap (λ (j : Context). (d.with_parameters (number + 1) rest ds j).scopes) on
            ∙ scopes_same (strings_may m) (number + 1) rest ds (d.with_parameter number x c)
            ∙ ap (λ (w : d.Declared). (d.with_parameters number (t.more_parameters (t.specifiers at xs) m rest) (w ∷ ds) (context_of p)).scopes) (sym told);
        grown = grown_twice p.scope grown₁ grown₃;
        place =
            ap (λ (j : Place). with_scope p.scope (behind_strings (strings_of_parameters rest) (with_scope es₃ j))) h.1
            ∙ behind_two (strings_may m) (strings_of_parameters rest) p
            ∙ ap (λ zs. behind_strings (zs ++ (strings_may m ++ strings_of_parameters rest)) p) (sym (none_listed (context_of p) xs s.0));
      }

  pub parameter_made : (result : Result Declared Stop)
      → MatchResult result (λ z. Meets (d.parameter_asks (context_of p₂) number (d.parameter (declared_of y)))) (IsRefusal (d.parameter_asks (context_of p₂) number (d.parameter (declared_of y))) (parameter_token at m))
      → IfOk result (λ z. declared_of z ≡ d.parameter (declared_of y))
      → OnOk result (scopes_of es₃ ≡ (d.with_parameter number (d.parameter (declared_of y)) (context_of p₂)).scopes)
      → OnOk result (IsGrown p₂.scope es₃)
      → MatchResult result (λ z. GoesOnParameters p number (t.more_parameters (t.specifiers at xs) m rest) (declared_of z) rest (with_scope es₃ p₂)) (IsFault (context_of p) (some_parameters number (t.more_parameters (t.specifiers at xs) m rest)))
  parameter_made (Ok z) k told scopes grown₂ = parameter_done z k told scopes grown₂
  parameter_made (Err f) k told scopes grown₂ = parameter_refused f k

pub inside_here : (p p₂ : Place) (es : List Entry) (ss : List Name) → IsGrown p.scope es → p₂ ≡ behind_strings ss (with_scope es p) → at_file_scope (scopes_of p.scope) ≡ false → at_file_scope (scopes_of p₂.scope) ≡ false
inside_here p p₂ es ss g e h = ap (λ (j : Place). at_file_scope (scopes_of j.scope)) e ∙ stays_inside p.scope es g h
