-- Heads of function definitions.
use Rattle.std.proofs.Common.{◌≡◌, ℕ, true, List, ◌++◌, map, Vec, Global, sym, ap, ◌∙◌, subst}
use Rattle.im_check_statements.specs.im_word.Words.{Name}
use Rattle.im_ctree.specs.Tree as t
use Rattle.im_ctree.specs.Shape.{declarator_of}
use Rattle.im_ctree.specs.declared.declarator.Declarator.{Declarator, out-Declarator}
use Rattle.im_rules.specs.BodyBreaks.{declarator_token}
use Rattle.im_rules.specs.Breaks.{a_declarator, some_parameters}
use Rattle.im_rules.specs.Context.{Context, in_new_scope}
use Rattle.im_rules.specs.Declared as d
use Rattle.im_rules.specs.Demands.{Meets, Refuses}
use Rattle.im_rules.specs.FileScope.{FilePlace, past_strings, of_the_file, file_asks, with_declared, own_parameters, body_asks}
use Rattle.im_rules.specs.Outline.{nearest}
use Rattle.im_rules.specs.Strings.{strings_of_declarator}
use Rattle.im_rules.specs.Typed.{Declares, AreParameters}
use Rattle.im_rules.specs.TypedUnit.{Specify}
use Rattle.im_rules.specs.UnitBreaks.{FileBroken, an_external, file_specifiers, within_file, function_specifiers, in_file_inner, function_declarator, at_its_head, at_head, at_function}
use Rattle.im_check_statements.specs.im_rules_limits.Limits.{IsWithin, IsFileWithin, size_in_file_part, size_in_file_inner}
use Rattle.im_check_stop.specs.declared.stop.Stop.{Stop}
use Rattle.im_check_stop.specs.declared.stop.Stop.TheVariants.{Rule, Large, Memory}
use Rattle.im_check_stop.specs.Answers.{IsRefusal}
use Rattle.im_ctree_parts.proofs.Shapes.{declarator_shape}
use Rattle.im_check_declarators.specs.Shape.{declared_of}
use Rattle.im_check_declarators.specs.Suffixes.{IsFault}
use Rattle.im_check_texts.specs.Texts.{texts_in}
use Rattle.im_check_place.specs.declared.place.Place.{Place}
use Rattle.im_check_place.specs.Contexts.{context_of, behind_strings}
use Rattle.im_check_file_place.specs.declared.file.File.{File}
use Rattle.im_check_file_place.specs.Files.{file_place_of, bytes_of}
use Rattle.im_check_file_specifiers.specs.Answers.{IsFileFault}
use Rattle.im_check_file_functions.specs.declared.heads.Headed.{Headed}
use Rattle.im_check_file_functions.specs.Heads.{at_string, HeadTyped, IsHeadFault}
use Rattle.im_check_file_functions.proofs.Own.{own_fault}

pub head_token : (e : Declarator) → declarator_token (declarator_of e) ≡ (out-Declarator e).at
head_token e = ap declarator_token (declarator_shape e)

-- behind a part that has these string literals
pub passed : (f : File) {p : Place} (texts : Vec (Vec ℕ Global) Global) (ss : List Name) → p ≡ behind_strings ss f.place → texts_in texts.items ≡ texts_in f.texts.items ++ ss
    → file_place_of (record f { place = p; texts = texts }) ≡ past_strings ss (file_place_of f)
passed f texts ss e g =
    ap (λ z. record (file_place_of f) { context = context_of z; strings = bytes_of texts.items }) e ∙ ap (λ z. record (past_strings ss (file_place_of f)) { strings = z }) g

-- what was known where the declarator begins
pub known_there : (f : FilePlace) {g : FilePlace} (e : t.Declarator) → g ≡ past_strings (strings_of_declarator e) f → at_string f.context.next_string g.context ≡ f.context
known_there f e h = ap (λ (z : FilePlace). at_string f.context.next_string z.context) h

-- faults

pub specifiers_fault : (f : FilePlace) (at : ℕ) (xs : t.SpecifierList) (e : t.Declarator) (stop : Stop)
    → IsFileFault f (file_specifiers of_the_file (t.specifiers at xs)) stop → IsHeadFault f (t.specifiers at xs) e stop
specifiers_fault f at xs e (Rule rule token) h = λ b. within_file function_specifiers h
specifiers_fault f at xs e (Large bytes) h = λ b. (size_in_file_part function_specifiers h.0, h.1)
specifiers_fault f at xs e Memory h = λ b. tt

pub declarator_fault : {f g : FilePlace} {xs : t.SpecifierList} {q : d.Qualified} (at : ℕ) (e : t.Declarator) (stop : Stop)
    → Specify of_the_file f xs q g → IsFault g.context (a_declarator q e) stop → IsHeadFault f (t.specifiers at xs) e stop
declarator_fault at e (Rule rule token) s h = λ b. in_file_inner (function_declarator s) h
declarator_fault at e (Large bytes) s h = λ b. (size_in_file_inner (function_declarator s) h.0, h.1)
declarator_fault at e Memory s h = λ b. tt

pub body_fault : {f g : FilePlace} {xs : t.SpecifierList} {q : d.Qualified} {e : t.Declarator} {y : d.Declared} (at w : ℕ) (stop : Stop)
    → declarator_token e ≡ w
    → Specify of_the_file f xs q g → Declares g.context q e y
    → IsRefusal (body_asks e y) w stop → IsHeadFault f (t.specifiers at xs) e stop
body_fault {f = f} {xs = xs} {e = e} at w (Rule rule token) first s d h = λ b.
    subst (λ k. FileBroken f (an_external (t.function_definition (t.specifiers at xs) e b)) rule k) (first ∙ sym h.1) (at_its_head (at_head s d h.0))
body_fault at w (Large bytes) first s d h = absurd h
body_fault at w Memory first s d h = λ b. tt

pub formals_fault : {f g : FilePlace} {xs : t.SpecifierList} {q : d.Qualified} {e : t.Declarator} {y : d.Declared} {c : Context} (at : ℕ) (stop : Stop)
    → Specify of_the_file f xs q g → Declares g.context q e y → Meets (body_asks e y)
    → c ≡ g.context
    → IsFault (in_new_scope c) (some_parameters 0 (own_parameters (nearest e))) stop → IsHeadFault f (t.specifiers at xs) e stop
formals_fault {e = e} at stop s d m there h =
    declarator_fault at e stop s (own_fault stop d m (subst (λ z. IsFault (in_new_scope z) (some_parameters 0 (own_parameters (nearest e))) stop) there h))

-- the demands stand at the place before the declarator too
asked_there : (f : FilePlace) {g : FilePlace} (e : t.Declarator) (X : FilePlace → Type 0) → g ≡ past_strings (strings_of_declarator e) f → X g → X (past_strings (strings_of_declarator e) f)
asked_there f e X h x = subst X h x

pub asked_fault : {f g h : FilePlace} {xs : t.SpecifierList} {q : d.Qualified} {e : t.Declarator} {y : d.Declared} (at w : ℕ) (stop : Stop)
    → declarator_token e ≡ w
    → Specify of_the_file f xs q g → Declares g.context q e y
    → h ≡ past_strings (strings_of_declarator e) g
    → IsRefusal (file_asks h xs y y.type true) w stop → IsHeadFault f (t.specifiers at xs) e stop
asked_fault {f = f} {g = g} {xs = xs} {e = e} {y = y} at w (Rule rule token) first s d behind r = λ b.
    let there : Refuses rule (file_asks g xs y y.type true) = asked_there g e (λ z. Refuses rule (file_asks z xs y y.type true)) behind r.0 in
    subst (λ k. FileBroken f (an_external (t.function_definition (t.specifiers at xs) e b)) rule k) (first ∙ sym r.1) (at_its_head (at_function s d there))
asked_fault at w (Large bytes) first s d behind r = absurd r
asked_fault at w Memory first s d behind r = λ b. tt

-- a head is typed
pub head_done : {f g h k : FilePlace} {xs : t.SpecifierList} {q : d.Qualified} {e : t.Declarator} {c : Context} {o : Headed} (at : ℕ)
    → Specify of_the_file f xs q g
    → IsFileWithin f (file_specifiers of_the_file (t.specifiers at xs))
    → Declares g.context q e (declared_of o.declared)
    → IsWithin g.context (a_declarator q e)
    → h ≡ past_strings (strings_of_declarator e) g
    → Meets (body_asks e (declared_of o.declared))
    → c ≡ g.context
    → AreParameters (in_new_scope c) 0 (own_parameters (nearest e)) (map declared_of o.formals.items)
    → Meets (file_asks h xs (declared_of o.declared) (declared_of o.declared).type true)
    → k ≡ with_declared xs (declared_of o.declared) (declared_of o.declared).type true h
    → HeadTyped f xs at e k o
head_done {g = g} {xs = xs} {q = q} {e = e} {o = o} at s specifiers d declarator behind body there ps asked declared =
    let y = declared_of o.declared in
    record {
      here = g;
      base = q;
      specified = s;
      declares = d;
      may_have_body = body;
      meets = asked_there g e (λ z. Meets (file_asks z xs y y.type true)) behind asked;
      parameters = subst (λ z. AreParameters (in_new_scope z) 0 (own_parameters (nearest e)) (map declared_of o.formals.items)) there ps;
      behind = declared ∙ ap (with_declared xs y y.type true) behind;
      specifiers_within = specifiers;
      declarator_within = declarator;
    }
