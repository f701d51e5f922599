-- What an expression is typed to is its term.
use Rattle.std.proofs.Common.{◌≡◌, ◌∙◌, ℕ, List, refl, ap}
use Rattle.im_rules.specs.im_ctree.Tree as t
use Rattle.im_rules.specs.Context.{Context}
use Rattle.im_rules.specs.Terms.{Term}
use Rattle.im_rules.specs.Declared.{Qualified, Declared}
use Rattle.im_rules.specs.Typed.{Typed, of_identifier, of_number, of_character, of_string, of_index, of_call, of_member, of_arrow, of_post_step, of_pre_step, of_unary, of_size, of_type_size, of_cast, of_binary, of_conditional, of_assign, of_comma, AreTyped, no_argument, an_argument, Names, of_type_name, Declares, of_declarator, DeclaresIn, of_nothing, of_name, of_inner, Suffixed, no_suffix, of_array, of_open_array, of_function, AreParameters, no_parameter, a_parameter, MayDeclare, of_no_declarator, of_a_declarator}
use Rattle.im_rules_asked.specs.Expressions.{term, terms, named, declared, declared_in, suffixed, parameters, may_declare}

mutual
  pub term_of : {c : Context} {e : t.Expression} {x : Term} → Typed c e x → term c e ≡ x
  term_of (of_identifier m) = refl
  term_of of_number = refl
  term_of of_character = refl
  term_of of_string = refl
  term_of (of_index a b m) = cc (term_of a, term_of b)
  term_of (of_call f es m) = cc (terms_of es)
  term_of (of_member a m) = cc (term_of a)
  term_of (of_arrow a m) = cc (term_of a)
  term_of (of_post_step a m) = cc (term_of a)
  term_of (of_pre_step a m) = cc (term_of a)
  term_of (of_unary a m) = cc (term_of a)
  term_of (of_size a m) = cc (term_of a)
  term_of (of_type_size n m) = cc (named_of n)
  term_of (of_cast n a m) = cc (named_of n, term_of a)
  term_of (of_binary a b m) = cc (term_of a, term_of b)
  term_of (of_conditional d a b m) = cc (term_of d, term_of a, term_of b)
  term_of (of_assign a b m) = cc (term_of a, term_of b)
  term_of (of_comma a b) = cc (term_of a, term_of b)

  pub terms_of : {c : Context} {es : t.Expressions} {xs : List Term} → AreTyped c es xs → terms c es ≡ xs
  terms_of no_argument = refl
  terms_of (an_argument a as') = cc (term_of a, terms_of as')

  pub named_of : {c : Context} {n : t.TypeName} {q : Qualified} → Names c n q → named c n ≡ q
  named_of (of_type_name s d m) = cc (may_of d)

  pub declared_of : {c : Context} {q : Qualified} {e : t.Declarator} {d : Declared} → Declares c q e d → declared c q e ≡ d
  declared_of {c = c} (of_declarator {core = core} s r d) = ap (λ x. declared_in c x core) (suffixed_of r) ∙ in_of d

  pub in_of : {c : Context} {q : Qualified} {k : t.Core} {d : Declared} → DeclaresIn c q k d → declared_in c q k ≡ d
  in_of of_nothing = refl
  in_of of_name = refl
  in_of (of_inner d) = declared_of d

  pub suffixed_of : {c : Context} {q : Qualified} {ss : t.Suffixes} {r : Qualified} → Suffixed c q ss r → suffixed c q ss ≡ r
  suffixed_of no_suffix = refl
  suffixed_of (of_array s e m) = cc (suffixed_of s, term_of e)
  suffixed_of (of_open_array s m) = cc (suffixed_of s)
  suffixed_of (of_function s ps m) = cc (suffixed_of s, parameters_of ps)

  pub parameters_of : {c : Context} {n : ℕ} {ps : t.Parameters} {ds : List Declared} → AreParameters c n ps ds → parameters c n ps ≡ ds
  parameters_of no_parameter = refl
  parameters_of (a_parameter s d m ps) = cc (may_of d, parameters_of ps)

  pub may_of : {c : Context} {q : Qualified} {m : t.MaybeDeclarator} {d : Declared} → MayDeclare c q m d → may_declare c q m ≡ d
  may_of of_no_declarator = refl
  may_of (of_a_declarator d) = declared_of d
