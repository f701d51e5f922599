-- What stands in suffixes, one behind the other.
use Rattle.std.proofs.Common.{◌≡◌, ℕ, ℤ, ◌+◌, List, [], ◌∷◌, ◌++◌, map, drop, Option, refl, sym, ap, ◌∙◌, subst, append_assoc, Vec, Global}
use Rattle.std.proofs.lemmas.List.{append-nil}
use Rattle.im_check_declarators.specs.im_ctree.Tree as t
use Rattle.im_check_declarators.specs.im_ctree.declared.declarator.Suffix.{Suffix}
use Rattle.im_rules.specs.Context.{in_new_scope}
use Rattle.im_rules.specs.Declared as d
use Rattle.im_rules.specs.Strings.{strings_in, strings_of_suffixes, strings_of_parameters}
use Rattle.im_rules.specs.Terms.{constant_in}
use Rattle.im_rules.specs.Typed.{Typed, AreParameters}
use Rattle.im_rules.specs.Breaks.{an_expression, some_suffixes, some_parameters, behind_length, behind_no_length, behind_function}
use Rattle.im_check_declarators.specs.im_rules_limits.Limits.{IsWithin}
use Rattle.im_check_declarators.specs.im_check_stop.declared.stop.Stop.{Stop}
use Rattle.im_check_declarators.specs.im_ctree_parts.Lists.{suffixes_from, with_suffix}
use Rattle.im_check_operands.specs.declared.term.Term.{Term}
use Rattle.im_check_operands.specs.Shape.{term_in}
use Rattle.im_check_declarators.specs.declared.declared.Declared.{Declared}
use Rattle.im_check_declarators.specs.declared.given.Given.{Given}
use Rattle.im_check_declarators.specs.declared.given.Given.TheVariants as g
use Rattle.im_check_declarators.specs.Shape.{declared_of}
use Rattle.im_check_declarators.specs.Suffixes.{AreGiven, IsFault}
use Rattle.im_check_place.specs.declared.place.Place.{Place}
use Rattle.im_check_place.specs.Contexts.{context_of, behind_strings}
use Rattle.im_check_expression_parts.specs.Walked.{GoesOnGiven}
use Rattle.im_check_expression_parts.proofs.Places.{behind_none, behind_two}
use Rattle.im_check_expression_parts.proofs.Made.{fault_of}

-- one suffix

pub open_given : (p : Place) (at : ℕ) (rest : t.Suffixes) → GoesOnGiven p (t.array_suffix at t.no_expression rest) g.Open rest p
open_given p at rest = record { gives = λ gs h. h; faults = λ q stop f. fault_of behind_no_length stop f; place = refl }

pub length_given : {p after : Place} {e : t.Expression} (x : Term) (z : Option ℤ) (at : ℕ) (rest : t.Suffixes)
    → Typed (context_of p) e (term_in p.structs x) × (after ≡ behind_strings (strings_in e) p) × IsWithin (context_of p) (an_expression e)
    → z ≡ constant_in (term_in p.structs x)
    → GoesOnGiven p (t.array_suffix at (t.an_expression e) rest) (g.Length z) rest after
length_given {p = p} {e = e} x z at rest typed is =
    record {
      gives = λ gs h. (record { term = term_in p.structs x; typed = typed.0; value = sym is; within = typed.2 }, rw typed.1 at h);
      faults = λ q stop f. fault_of behind_length stop (rw typed.1 at f);
      place = ap (behind_strings (strings_of_suffixes rest)) typed.1 ∙ behind_two (strings_in e) (strings_of_suffixes rest) p;
    }

pub function_given : {p after : Place} {ps : t.Parameters} (ds : Vec Declared Global) (at : ℕ) (rest : t.Suffixes)
    → AreParameters (in_new_scope (context_of p)) 0 ps (map declared_of ds.items) × (after ≡ behind_strings (strings_of_parameters ps) p) × IsWithin (in_new_scope (context_of p)) (some_parameters 0 ps)
    → GoesOnGiven p (t.function_suffix at ps rest) (g.Parameters ds) rest after
function_given {p = p} {ps = ps} ds at rest declared =
    record {
      gives = λ gs h. (declared.0, declared.2, rw declared.1 at h);
      faults = λ q stop f. fault_of behind_function stop (rw declared.1 at f);
      place = ap (behind_strings (strings_of_suffixes rest)) declared.1 ∙ behind_two (strings_of_parameters ps) (strings_of_suffixes rest) p;
    }

-- suffixes in their order

pub record GivenReached (before : Place) (ss : List Suffix) (i : ℕ) (gs : List Given) (now : Place) : Type 0 where
  pub gives : (others : List Given) → AreGiven (context_of now) (suffixes_from (drop i ss)) others → AreGiven (context_of before) (suffixes_from ss) (gs ++ others)
  pub faults : (q : d.Qualified) (stop : Stop) → IsFault (context_of now) (some_suffixes q (suffixes_from (drop i ss))) stop → IsFault (context_of before) (some_suffixes q (suffixes_from ss)) stop
  pub place : behind_strings (strings_of_suffixes (suffixes_from (drop i ss))) now ≡ behind_strings (strings_of_suffixes (suffixes_from ss)) before

pub given_none : (p : Place) (ss : List Suffix) → GivenReached p ss 0 [] p
given_none p ss = record { gives = λ gs h. h; faults = λ q stop f. f; place = refl }

pub given_more : {before now after : Place} {ss : List Suffix} {i : ℕ} {s : Suffix} (gs : List Given) (y : Given)
    → drop i ss ≡ s ∷ drop (i + 1) ss
    → GivenReached before ss i gs now
    → ((rest : t.Suffixes) → GoesOnGiven now (with_suffix s.at s.kind rest) y rest after)
    → GivenReached before ss (i + 1) (gs ++ y ∷ []) after
given_more {before = before} {now = now} {after = after} {ss = ss} {i = i} {s = s} gs y at reached one =
    let rest = suffixes_from (drop (i + 1) ss) in
    let on = one rest in
    record {
      gives = λ others h.
          let h₁ : AreGiven (context_of now) (suffixes_from (drop i ss)) (y ∷ others) = rw at (on.gives others h) in
          subst (λ zs. AreGiven (context_of before) (suffixes_from ss) zs) (sym (append_assoc gs (y ∷ []) others)) (reached.gives (y ∷ others) h₁);
      faults = λ q stop f.
          let f₁ : IsFault (context_of now) (some_suffixes q (suffixes_from (drop i ss))) stop = rw at (on.faults q stop f) in
          reached.faults q stop f₁;
      place = on.place ∙ ap (λ zs. behind_strings (strings_of_suffixes (suffixes_from zs)) now) (sym at) ∙ reached.place;
    }

pub given_fault : {before now : Place} {ss : List Suffix} {i : ℕ} {s : Suffix} (gs : List Given) (f : Stop)
    → drop i ss ≡ s ∷ drop (i + 1) ss
    → GivenReached before ss i gs now
    → ((rest : t.Suffixes) (q : d.Qualified) → IsFault (context_of now) (some_suffixes q (with_suffix s.at s.kind rest)) f)
    → (q : d.Qualified) → IsFault (context_of before) (some_suffixes q (suffixes_from ss)) f
given_fault {now = now} {ss = ss} {i = i} gs f at reached h = λ q.
    let h₁ : IsFault (context_of now) (some_suffixes q (suffixes_from (drop i ss))) f = rw at (h (suffixes_from (drop (i + 1) ss)) q) in
    reached.faults q f h₁

pub given_all : {before now : Place} {ss : List Suffix} {i : ℕ} (gs : List Given)
    → drop i ss ≡ []
    → GivenReached before ss i gs now
    → AreGiven (context_of before) (suffixes_from ss) gs × (now ≡ behind_strings (strings_of_suffixes (suffixes_from ss)) before)
given_all {before = before} {now = now} {ss = ss} {i = i} gs ends reached =
    let h : AreGiven (context_of now) (suffixes_from (drop i ss)) [] = rw ends tt in
    let p : behind_strings (strings_of_suffixes (suffixes_from [])) now ≡ behind_strings (strings_of_suffixes (suffixes_from ss)) before = rw ends at reached.place in
    (subst (λ zs. AreGiven (context_of before) (suffixes_from ss) zs) (append-nil gs) (reached.gives [] h), sym (behind_none now) ∙ p)
