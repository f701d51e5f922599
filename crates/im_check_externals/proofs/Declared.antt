-- Declarators, one at a time.
use Rattle.std.proofs.Common.{◌≡◌, ℕ, ◌+◌, ◌≤◌, List, [], ◌∷◌, ◌++◌, drop, sym, ap, ◌∙◌, subst}
use Rattle.std.proofs.lemmas.List.{append-nil}
use Rattle.im_check_file_functions.specs.im_word.Words.{Name}
use Rattle.im_ctree.specs.Tree as t
use Rattle.im_ctree.specs.Shape.{declarator_of, init_declarators_of, maybe_initializer_of}
use Rattle.im_ctree.specs.declared.declaration.InitDeclarator.{InitDeclarator}
use Rattle.im_rules.specs.BodyBreaks.{declarator_token}
use Rattle.im_rules.specs.Declared.{Qualified, Declared}
use Rattle.im_rules.specs.FileScope.{FilePlace, past_strings}
use Rattle.im_rules.specs.Initialisers.{completed}
use Rattle.im_rules.specs.Outline.{name_of}
use Rattle.im_rules.specs.Typed.{Declares}
use Rattle.im_rules.specs.TypedUnit.{FirstValues, AreDeclared, one_declared, given_strings, past_declarator}
use Rattle.im_rules.specs.UnitBreaks.{some_declared, within_file, other_declared, file_declarator}
use Rattle.im_rules.proofs.Once.{declares_once}
use Rattle.im_check_file_functions.specs.im_rules_limits.Limits.{size_limit, FileSized, of_static, size_in_file_part, size_in_file_inner, size_in_static_initialiser, IsFileWithin}
use Rattle.im_check_stop.specs.declared.stop.Stop.{Stop}
use Rattle.im_check_file_specifiers.specs.Answers.{IsFileFault, IsRest}
use Rattle.im_check_defined.specs.declared.first_values.FirstValues as rf
use Rattle.im_check_file_declarations.specs.Declarations.{DeclaratorsDone}
use Rattle.im_check_file_declarations.specs.Steps.{GoesOnDeclared, with_declarator}
use Rattle.im_check_file_declarations.proofs.Declarators.{DeclaratorsReached, declarators_none, declarators_more, declarators_all}
use Rattle.im_check_externals.specs.declared.fault.UnitFault.{UnitFault}
use Rattle.im_check_externals.specs.Faults.{IsDeclaredFault, IsMetIn}
use Rattle.im_check_externals.specs.Large.{alone, LargeDeclared, this_declarator, other_declarator}
use Rattle.im_check_externals.proofs.Faults.{of_whole, of_stop}
use Rattle.im_check_externals.proofs.Large.{ends, more_broken}

rest_within : {f : FilePlace} {xs : t.SpecifierList} {q : Qualified} {d : t.Declarator} {i : t.MaybeInitializer} {ds : t.InitDeclarators} {y : Declared}
    → Declares f.context q d y
    → IsFileWithin f (some_declared xs q (alone d i))
    → IsFileWithin (past_strings (given_strings f (completed y.type i) i) (past_declarator xs d y i f)) (some_declared xs q ds)
    → (k : ℕ) → FileSized f (some_declared xs q (t.more_init_declarators d i ds)) k → k ≤ size_limit
rest_within dd w v k (of_static dd' c) = w k (of_static dd' c)
rest_within {f = f} {xs = xs} {q = q} {d = d} {i = i} {ds = ds} dd w v k (size_in_file_part (other_declared dd') s) =
    v k (subst (λ (z : Declared). FileSized (past_strings (given_strings f (completed z.type i) i) (past_declarator xs d z i f)) (some_declared xs q ds) k) (sym (declares_once dd dd')) s)
rest_within dd w v k (size_in_file_inner file_declarator s) = w k (size_in_file_inner file_declarator s)
rest_within dd w v k (size_in_static_initialiser dd' s) = w k (size_in_static_initialiser dd' s)

rest_here : {f : FilePlace} {xs : t.SpecifierList} {q : Qualified} {d : t.Declarator} {i : t.MaybeInitializer} {y : Declared} (ds : t.InitDeclarators)
    → Declares f.context q d y
    → IsFileWithin f (some_declared xs q (alone d i))
    → IsRest f (some_declared xs q (t.more_init_declarators d i ds)) (past_strings (given_strings f (completed y.type i) i) (past_declarator xs d y i f)) (some_declared xs q ds)
rest_here ds dd w =
    record {
      breaks = λ rule token b. within_file (other_declared dd) b;
      sizes = λ n b. size_in_file_part (other_declared dd) b;
      within = λ h k s. rest_within dd w h k s;
    }

rest_of : {f g : FilePlace} {xs : t.SpecifierList} {q : Qualified} {d : t.Declarator} {i : t.MaybeInitializer} {gs : List FirstValues} (ds : t.InitDeclarators)
    → AreDeclared xs q f (alone d i) gs g
    → IsFileWithin f (some_declared xs q (alone d i))
    → IsRest f (some_declared xs q (t.more_init_declarators d i ds)) g (some_declared xs q ds)
rest_of {f = f} {xs = xs} {q = q} {d = d} {i = i} ds (one_declared dd m v last) w =
    subst (λ (p : FilePlace). IsRest f (some_declared xs q (t.more_init_declarators d i ds)) p (some_declared xs q ds)) (sym (ends last).0) (rest_here ds dd w)

gives_on : {f g : FilePlace} {xs : t.SpecifierList} {q : Qualified} {d : t.Declarator} {i : t.MaybeInitializer} {gs : List FirstValues} (ds : t.InitDeclarators)
    → AreDeclared xs q f (alone d i) gs g
    → (hs : List FirstValues) (e : FilePlace) → AreDeclared xs q g ds hs e → AreDeclared xs q f (t.more_init_declarators d i ds) (gs ++ hs) e
gives_on {f = f} {xs = xs} {q = q} {d = d} {i = i} ds (one_declared {gs = gs} {hs = ks} dd m v last) hs e more =
    let end = ends last in
    let same : (gs ++ ks) ++ hs ≡ gs ++ hs = ap (λ (z : List FirstValues). (gs ++ z) ++ hs) end.1 ∙ ap (λ (z : List FirstValues). z ++ hs) (append-nil gs) in
    subst (λ (z : List FirstValues). AreDeclared xs q f (t.more_init_declarators d i ds) z e) (sym same) (one_declared dd m v (subst (λ (p : FilePlace). AreDeclared xs q p ds hs e) end.0 more))

-- the others go on behind one that is declared alone
goes_on : {f g : FilePlace} {xs : t.SpecifierList} {q : Qualified} {d : t.Declarator} {i : t.MaybeInitializer} (old new : List rf.FirstValues) (ds : t.InitDeclarators)
    → DeclaratorsDone xs q f (alone d i) old new g
    → GoesOnDeclared xs q f (t.more_init_declarators d i ds) old new ds g
goes_on old new ds done =
    record {
      given = done.given;
      added = done.added;
      gives = gives_on ds done.typed;
      behind = rest_of ds done.typed done.within;
    }

abbrev of_one : InitDeclarator → t.InitDeclarators
of_one x = alone (declarator_of x.declarator) (maybe_initializer_of x.initializer)

-- how far declarators are declared: a size over the limit behind the first i of them is the first among all
pub record Passed (xs : t.SpecifierList) (q : Qualified) (before : FilePlace) (ds : List InitDeclarator) (i : ℕ) (old new : List rf.FirstValues) (now : FilePlace) : Type 0 where
  pub reached : DeclaratorsReached xs q before ds i old new now
  pub larges : (bytes token : ℕ) (x : Name) → LargeDeclared xs q now (init_declarators_of (drop i ds)) bytes token x → LargeDeclared xs q before (init_declarators_of ds) bytes token x

pub passed_none : (xs : t.SpecifierList) (q : Qualified) (f : FilePlace) (ds : List InitDeclarator) (old : List rf.FirstValues) → Passed xs q f ds 0 old old f
passed_none xs q f ds old = record { reached = declarators_none xs q f ds old; larges = λ bytes token x l. l }

pub passed_more : {xs : t.SpecifierList} {q : Qualified} {before now after : FilePlace} {ds : List InitDeclarator} {i : ℕ} {x : InitDeclarator} (old middle new : List rf.FirstValues)
    → drop i ds ≡ x ∷ drop (i + 1) ds
    → Passed xs q before ds i old middle now
    → DeclaratorsDone xs q now (of_one x) middle new after
    → Passed xs q before ds (i + 1) old new after
passed_more {xs = xs} {q = q} {now = now} {after = after} {ds = ds} {i = i} {x = x} old middle new at p done =
    record {
      reached = declarators_more old middle new at p.reached (λ rest. goes_on middle new rest done);
      larges = λ bytes token name l.
          let here : LargeDeclared xs q now (with_declarator x (init_declarators_of (drop (i + 1) ds))) bytes token name = other_declarator done.typed done.within l in
          p.larges bytes token name (subst (λ (zs : List InitDeclarator). LargeDeclared xs q now (init_declarators_of zs) bytes token name) (sym at) here);
    }

-- a fault in one is one in front of any others
pub one_fault : (xs : t.SpecifierList) (q : Qualified) (f : FilePlace) (x : InitDeclarator) (rest : t.InitDeclarators) (stop : Stop) (fault : UnitFault)
    → IsFileFault f (some_declared xs q (of_one x)) stop
    → IsMetIn (declarator_token (declarator_of x.declarator)) (name_of (declarator_of x.declarator)) stop fault
    → IsDeclaredFault xs q f (with_declarator x rest) fault
one_fault xs q f x rest stop fault h is =
    of_stop (LargeDeclared xs q f (with_declarator x rest)) (declarator_token (declarator_of x.declarator)) (name_of (declarator_of x.declarator)) stop fault (λ rule token b. more_broken rest b) (λ bytes s. this_declarator s) h is

pub passed_fault : {xs : t.SpecifierList} {q : Qualified} {before now : FilePlace} {ds : List InitDeclarator} {i : ℕ} {x : InitDeclarator} (old new : List rf.FirstValues) (fault : UnitFault)
    → drop i ds ≡ x ∷ drop (i + 1) ds
    → Passed xs q before ds i old new now
    → ((rest : t.InitDeclarators) → IsDeclaredFault xs q now (with_declarator x rest) fault)
    → IsDeclaredFault xs q before (init_declarators_of ds) fault
passed_fault {xs = xs} {q = q} {now = now} {ds = ds} {i = i} old new fault at p broken =
    let here : IsDeclaredFault xs q now (init_declarators_of (drop i ds)) fault = rw at (broken (init_declarators_of (drop (i + 1) ds))) in
    of_whole fault (λ rule token b. p.reached.behind.breaks rule token b) p.larges here

pub passed_all : {xs : t.SpecifierList} {q : Qualified} {before now : FilePlace} {ds : List InitDeclarator} {i : ℕ} (old new : List rf.FirstValues)
    → drop i ds ≡ []
    → Passed xs q before ds i old new now
    → DeclaratorsDone xs q before (init_declarators_of ds) old new now
passed_all old new ends p = declarators_all old new ends p.reached
