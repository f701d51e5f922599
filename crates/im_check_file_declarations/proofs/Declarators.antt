-- Declarators at file scope, put together and one behind the other.
use Rattle.std.proofs.Common.{◌≡◌, ℕ, ◌+◌, List, [], ◌∷◌, ◌++◌, drop, inl, inr, Result, Ok, Err, MatchResult, sym, ap, ◌∙◌, subst, append_assoc}
use Rattle.std.proofs.lemmas.List.{append-nil}
use Rattle.im_ctree.specs.Tree as t
use Rattle.im_ctree.specs.Shape.{declarator_of, init_declarators_of}
use Rattle.im_ctree.specs.declared.declaration.InitDeclarator.{InitDeclarator}
use Rattle.im_ctree.specs.declared.declarator.Declarator as dc
use Rattle.im_check_file_specifiers.specs.im_ctype.Types.{CType}
use Rattle.im_rules.specs.BodyBreaks.{declarator_token}
use Rattle.im_rules.specs.Breaks.{a_declarator}
use Rattle.im_rules.specs.Declared.{Qualified, Declared}
use Rattle.im_rules.specs.FileScope.{FilePlace, past_strings}
use Rattle.im_rules.specs.Initialisers.{completed}
use Rattle.im_rules.specs.Statements.{name_of as name_in}
use Rattle.im_rules.specs.Strings.{strings_of_declarator}
use Rattle.im_rules.specs.Typed.{Declares}
use Rattle.im_rules.specs.TypedUnit.{FirstValues, AreDeclared, none_declared, one_declared, given_strings, past_declarator}
use Rattle.im_rules.specs.UnitBreaks.{FileBroken, here_in_file, within_file, in_file_inner, in_static_initialiser, in_static_values, at_declarator, file_declarator, other_declared, some_declared}
use Rattle.im_check_file_specifiers.specs.im_rules_limits.Limits.{FileSized, of_static, size_in_file_part, size_in_file_inner, size_in_static_initialiser, IsWithin, IsFileWithin}
use Rattle.im_check_stop.specs.declared.stop.Stop.{Stop}
use Rattle.im_check_stop.specs.declared.stop.Stop.TheVariants.{Rule, Large, Memory}
use Rattle.im_ctree_parts.proofs.Shapes.{declarator_shape}
use Rattle.im_check_declarators.specs.Suffixes.{IsFault}
use Rattle.im_check_file_specifiers.specs.Answers.{IsFileFault, IsRest}
use Rattle.im_check_file_specifiers.proofs.Rests.{rest_itself, rest_then, rest_fault}
use Rattle.im_check_defined.specs.declared.first_values.FirstValues as rf
use Rattle.im_check_defined.specs.Values.{first_values_in}
use Rattle.im_check_file_declarations.specs.Declarations.{DeclaratorsDone}
use Rattle.im_check_file_declarations.specs.Steps.{IsEntered, IsNameFault, IsFirstFault, MayAdd, GoesOnDeclared, with_declarator}
use Rattle.im_check_file_declarations.proofs.Within.{nothing_within, declared_within}

-- faults of one declarator

pub undeclared : (f : FilePlace) (xs : t.SpecifierList) (q : Qualified) (d : t.Declarator) (i : t.MaybeInitializer) (rest : t.InitDeclarators) (stop : Stop)
    → IsFault f.context (a_declarator q d) stop
    → IsFileFault f (some_declared xs q (t.more_init_declarators d i rest)) stop
undeclared f xs q d i rest (Rule rule token) h = in_file_inner file_declarator h
undeclared f xs q d i rest (Large bytes) h = (size_in_file_inner file_declarator h.0, h.1)
undeclared f xs q d i rest Memory h = tt

refused_name : (f : FilePlace) (xs : t.SpecifierList) (q : Qualified) (d : dc.Declarator) (i : t.MaybeInitializer) (rest : t.InitDeclarators) (y : Declared) (stop : Stop)
    → Declares f.context q (declarator_of d) y
    → IsNameFault f xs y i (dc.out-Declarator d).at stop
    → IsFileFault f (some_declared xs q (t.more_init_declarators (declarator_of d) i rest)) stop
refused_name f xs q d i rest y (Rule rule token) dd h =
    subst (λ z. FileBroken f (some_declared xs q (t.more_init_declarators (declarator_of d) i rest)) rule z) (ap declarator_token (declarator_shape d) ∙ sym h.1) (here_in_file (at_declarator dd h.0))
refused_name f xs q d i rest y (Large bytes) dd h =
    (of_static dd h.0, h.1)
refused_name f xs q d i rest y Memory dd h = tt

name_before : (f : FilePlace) (xs : t.SpecifierList) (d : t.Declarator) (i : t.MaybeInitializer) (y : Declared) (at : ℕ) (stop : Stop)
    → IsNameFault (past_strings (strings_of_declarator d) f) xs y i at stop
    → IsNameFault f xs y i at stop
name_before f xs d i y at (Rule rule token) h = h
name_before f xs d i y at (Large bytes) h = h
name_before f xs d i y at Memory h = tt

pub name_fault : (f g : FilePlace) (xs : t.SpecifierList) (q : Qualified) (d : dc.Declarator) (i : t.MaybeInitializer) (rest : t.InitDeclarators) (y : Declared) (stop : Stop)
    → Declares f.context q (declarator_of d) y
    → g ≡ past_strings (strings_of_declarator (declarator_of d)) f
    → IsNameFault g xs y i (dc.out-Declarator d).at stop
    → IsFileFault f (some_declared xs q (t.more_init_declarators (declarator_of d) i rest)) stop
name_fault f g xs q d i rest y stop dd place h =
    let at = (dc.out-Declarator d).at in
    refused_name f xs q d i rest y stop dd (name_before f xs (declarator_of d) i y at stop (subst (λ p. IsNameFault p xs y i at stop) place h))

first_broken : (f : FilePlace) (xs : t.SpecifierList) (q : Qualified) (d : t.Declarator) (i : t.MaybeInitializer) (rest : t.InitDeclarators) (y : Declared) (stop : Stop)
    → Declares f.context q d y
    → IsFirstFault (past_declarator xs d y i f) (completed y.type i) i stop
    → IsFileFault f (some_declared xs q (t.more_init_declarators d i rest)) stop
first_broken f xs q d t.no_initializer rest y (Rule rule token) dd h = absurd h
first_broken f xs q d (t.an_initializer i) rest y (Rule rule token) dd (inl b) = in_static_initialiser dd b
first_broken f xs q d (t.an_initializer i) rest y (Rule rule token) dd (inr r) = in_static_values dd r.1 r.2
first_broken f xs q d t.no_initializer rest y (Large bytes) dd h = absurd h
first_broken f xs q d (t.an_initializer i) rest y (Large bytes) dd h = (size_in_static_initialiser dd h.0, h.1)
first_broken f xs q d i rest y Memory dd h = tt

-- a declarator's name in scope, where its initialiser stands
pub record Steps (f g h : FilePlace) (xs : t.SpecifierList) (q : Qualified) (d : t.Declarator) (i : t.MaybeInitializer) (y : Declared) (a : CType) : Type 0 where
  pub declares : Declares f.context q d y
  pub small : IsWithin f.context (a_declarator q d)
  pub read : g ≡ past_strings (strings_of_declarator d) f
  pub entered : IsEntered g xs y i h
  pub type : a ≡ completed y.type i

here_entered : {f g h : FilePlace} {xs : t.SpecifierList} {q : Qualified} {d : t.Declarator} {i : t.MaybeInitializer} {y : Declared} {a : CType}
    → Steps f g h xs q d i y a
    → IsEntered (past_strings (strings_of_declarator d) f) xs y i h
here_entered {h = h} {xs = xs} {i = i} {y = y} s = subst (λ p. IsEntered p xs y i h) s.read s.entered

named_place : {f g h : FilePlace} {xs : t.SpecifierList} {q : Qualified} {d : t.Declarator} {i : t.MaybeInitializer} {y : Declared} {a : CType}
    → Steps f g h xs q d i y a
    → h ≡ past_declarator xs d y i f
named_place s = (here_entered s).place

declared_done : {f g h : FilePlace} (k : FilePlace) {xs : t.SpecifierList} {q : Qualified} {d : t.Declarator} {i : t.MaybeInitializer} (rest : t.InitDeclarators) {y : Declared} {a : CType} (old new : List rf.FirstValues)
    → Steps f g h xs q d i y a
    → MayAdd h (name_in y.name) a i old new k
    → GoesOnDeclared xs q f (t.more_init_declarators d i rest) old new rest k
declared_done {f = f} {h = h} k {xs = xs} {q = q} {d = d} {i = i} rest {y = y} {a = a} old new s added =
    let dd = s.declares in
    let e = here_entered s in
    let x = name_in y.name in
    let m₁ : MayAdd (past_declarator xs d y i f) x a i old new k = subst (λ p. MayAdd p x a i old new k) (named_place s) added in
    let m : MayAdd (past_declarator xs d y i f) x (completed y.type i) i old new k = subst (λ z. MayAdd (past_declarator xs d y i f) x z i old new k) s.type m₁ in
    let past = past_strings (given_strings f (completed y.type i) i) (past_declarator xs d y i f) in
    let all = some_declared xs q (t.more_init_declarators d i rest) in
    let r : IsRest f all past (some_declared xs q rest) = record {
      breaks = λ rule token b. within_file (other_declared dd) b;
      sizes = λ n b. size_in_file_part (other_declared dd) b;
      within = declared_within f xs q d i rest y dd e.fits s.small m.within;
    } in
    record {
      given = m.given;
      added = m.added;
      gives = λ hs end more. one_declared dd e.meets m.gives (subst (λ p. AreDeclared xs q p rest hs end) m.place more);
      behind = subst (λ p. IsRest f all p (some_declared xs q rest)) (sym m.place) r;
    }

pub declared_made : {f g h : FilePlace} (k : FilePlace) {xs : t.SpecifierList} {q : Qualified} {d : t.Declarator} {i : t.MaybeInitializer} (rest : t.InitDeclarators) {y : Declared} {a : CType} (old new : List rf.FirstValues) (result : Result Unit Stop)
    → Steps f g h xs q d i y a
    → MatchResult result (λ u. MayAdd h (name_in y.name) a i old new k) (IsFirstFault h a i)
    → MatchResult result (λ u. GoesOnDeclared xs q f (t.more_init_declarators d i rest) old new rest k) (IsFileFault f (some_declared xs q (t.more_init_declarators d i rest)))
declared_made k rest old new (Ok u) s m = declared_done k rest old new s m
declared_made {f = f} {h = h} k {xs = xs} {q = q} {d = d} {i = i} rest {y = y} {a = a} old new (Err stop) s m =
    let m₁ = subst (λ z. IsFirstFault h z i stop) s.type m in
    first_broken f xs q d i rest y stop s.declares (subst (λ p. IsFirstFault p (completed y.type i) i stop) (named_place s) m₁)

-- how far declarators are declared
pub record DeclaratorsReached (xs : t.SpecifierList) (q : Qualified) (before : FilePlace) (ds : List InitDeclarator) (i : ℕ) (old new : List rf.FirstValues) (now : FilePlace) : Type 0 where
  pub given : List FirstValues
  pub added : first_values_in new ≡ first_values_in old ++ given
  pub gives : (hs : List FirstValues) (e : FilePlace) → AreDeclared xs q now (init_declarators_of (drop i ds)) hs e → AreDeclared xs q before (init_declarators_of ds) (given ++ hs) e
  pub behind : IsRest before (some_declared xs q (init_declarators_of ds)) now (some_declared xs q (init_declarators_of (drop i ds)))

pub declarators_none : (xs : t.SpecifierList) (q : Qualified) (f : FilePlace) (ds : List InitDeclarator) (old : List rf.FirstValues) → DeclaratorsReached xs q f ds 0 old old f
declarators_none xs q f ds old = record {
  given = [];
  added = sym (append-nil (first_values_in old));
  gives = λ hs e d. d;
  behind = rest_itself f (some_declared xs q (init_declarators_of ds));
}

pub declarators_more : {xs : t.SpecifierList} {q : Qualified} {before now after : FilePlace} {ds : List InitDeclarator} {i : ℕ} {x : InitDeclarator} (old middle new : List rf.FirstValues)
    → drop i ds ≡ x ∷ drop (i + 1) ds
    → DeclaratorsReached xs q before ds i old middle now
    → ((rest : t.InitDeclarators) → GoesOnDeclared xs q now (with_declarator x rest) middle new rest after)
    → DeclaratorsReached xs q before ds (i + 1) old new after
declarators_more {xs = xs} {q = q} {before = before} {now = now} {after = after} {ds = ds} {i = i} old middle new at r one =
    let rest = init_declarators_of (drop (i + 1) ds) in
    let o = one rest in
    record {
      given = r.given ++ o.given;
      added = o.added ∙ ap (λ zs. zs ++ o.given) r.added ∙ append_assoc (first_values_in old) r.given o.given;
      gives = λ hs e d.
          let d₁ : AreDeclared xs q now (init_declarators_of (drop i ds)) (o.given ++ hs) e = rw at (o.gives hs e d) in
          subst (λ zs. AreDeclared xs q before (init_declarators_of ds) zs e) (sym (append_assoc r.given o.given hs)) (r.gives (o.given ++ hs) e d₁);
      behind =
          let b : IsRest now (some_declared xs q (init_declarators_of (drop i ds))) after (some_declared xs q rest) = rw at o.behind in
          rest_then r.behind b;
    }

pub declarators_fault : {xs : t.SpecifierList} {q : Qualified} {before now : FilePlace} {ds : List InitDeclarator} {i : ℕ} {x : InitDeclarator} (old new : List rf.FirstValues) (stop : Stop)
    → drop i ds ≡ x ∷ drop (i + 1) ds
    → DeclaratorsReached xs q before ds i old new now
    → ((rest : t.InitDeclarators) → IsFileFault now (some_declared xs q (with_declarator x rest)) stop)
    → IsFileFault before (some_declared xs q (init_declarators_of ds)) stop
declarators_fault {xs = xs} {q = q} {now = now} {ds = ds} {i = i} old new stop at r broken =
    let b : IsFileFault now (some_declared xs q (init_declarators_of (drop i ds))) stop = rw at (broken (init_declarators_of (drop (i + 1) ds))) in
    rest_fault stop r.behind b

pub declarators_all : {xs : t.SpecifierList} {q : Qualified} {before now : FilePlace} {ds : List InitDeclarator} {i : ℕ} (old new : List rf.FirstValues)
    → drop i ds ≡ []
    → DeclaratorsReached xs q before ds i old new now
    → DeclaratorsDone xs q before (init_declarators_of ds) old new now
declarators_all {xs = xs} {q = q} {before = before} {now = now} {ds = ds} {i = i} old new ends r =
    let d : AreDeclared xs q now (init_declarators_of (drop i ds)) [] now = rw ends none_declared in
    let w : IsFileWithin now (some_declared xs q (init_declarators_of (drop i ds))) = rw ends (nothing_within now xs q) in
    record {
      given = r.given;
      added = r.added;
      typed = subst (λ zs. AreDeclared xs q before (init_declarators_of ds) zs now) (append-nil r.given) (r.gives [] now d);
      within = r.behind.within w;
    }
