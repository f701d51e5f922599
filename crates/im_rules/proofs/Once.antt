-- No node is typed to two things.
use Rattle.std.proofs.Common.{◌≡◌, ℕ, ◌+◌, List, refl, sym, subst}
use Rattle.im_ctree.specs.Tree as t
use Rattle.im_rules.specs.Context.{Context, behind_may}
use Rattle.im_rules.specs.Terms.{Term}
use Rattle.im_rules.specs.Declared.{Qualified, Declared, behind_specifiers, parameter, with_parameter}
use Rattle.im_rules.specs.Typed.{Typed, of_identifier, of_number, of_character, of_string, of_index, of_call, of_member, of_arrow, of_post_step, of_pre_step, of_unary, of_size, of_type_size, of_cast, of_binary, of_conditional, of_assign, of_comma, AreTyped, no_argument, an_argument, Names, of_type_name, Declares, of_declarator, DeclaresIn, of_nothing, of_name, of_inner, Suffixed, no_suffix, of_array, of_open_array, of_function, AreParameters, no_parameter, a_parameter, MayDeclare, of_no_declarator, of_a_declarator}

mutual
  pub once : {c : Context} {e : t.Expression} {x y : Term} → Typed c e x → Typed c e y → x ≡ y
  once (of_identifier m) (of_identifier m') = refl
  once of_number of_number = refl
  once of_character of_character = refl
  once of_string of_string = refl
  once (of_index a b m) (of_index a' b' m') = cc (once a a', once b b')
  once (of_call f es m) (of_call f' es' m') = cc (all_once es es')
  once (of_member a m) (of_member a' m') = cc (once a a')
  once (of_arrow a m) (of_arrow a' m') = cc (once a a')
  once (of_post_step a m) (of_post_step a' m') = cc (once a a')
  once (of_pre_step a m) (of_pre_step a' m') = cc (once a a')
  once (of_unary a m) (of_unary a' m') = cc (once a a')
  once (of_size a m) (of_size a' m') = cc (once a a')
  once (of_type_size n m) (of_type_size n' m') = cc (names_once n n')
  once (of_cast n a m) (of_cast n' a' m') = cc (names_once n n', once a a')
  once (of_binary a b m) (of_binary a' b' m') = cc (once a a', once b b')
  once (of_conditional d a b m) (of_conditional d' a' b' m') = cc (once d d', once a a', once b b')
  once (of_assign a b m) (of_assign a' b' m') = cc (once a a', once b b')
  once (of_comma a b) (of_comma a' b') = cc (once a a', once b b')

  pub all_once : {c : Context} {es : t.Expressions} {xs ys : List Term} → AreTyped c es xs → AreTyped c es ys → xs ≡ ys
  all_once no_argument no_argument = refl
  all_once (an_argument a as') (an_argument b bs) = cc (once a b, all_once as' bs)

  pub names_once : {c : Context} {n : t.TypeName} {x y : Qualified} → Names c n x → Names c n y → x ≡ y
  names_once (of_type_name m d k) (of_type_name m' d' k') = cc (may_once d d')

  pub declares_once : {c : Context} {q : Qualified} {e : t.Declarator} {x y : Declared} → Declares c q e x → Declares c q e y → x ≡ y
  declares_once {c = c} (of_declarator {core = core} m s k) (of_declarator {d = y} m' s' k') =
      core_once k (subst (λ r. DeclaresIn c r core y) (sym (suffixed_once s s')) k')

  pub core_once : {c : Context} {q : Qualified} {e : t.Core} {x y : Declared} → DeclaresIn c q e x → DeclaresIn c q e y → x ≡ y
  core_once of_nothing of_nothing = refl
  core_once of_name of_name = refl
  core_once (of_inner d) (of_inner d') = declares_once d d'

  pub suffixed_once : {c : Context} {q : Qualified} {ss : t.Suffixes} {x y : Qualified} → Suffixed c q ss x → Suffixed c q ss y → x ≡ y
  suffixed_once no_suffix no_suffix = refl
  suffixed_once (of_array s h m) (of_array s' h' m') = cc (suffixed_once s s', once h h')
  suffixed_once (of_open_array s m) (of_open_array s' m') = cc (suffixed_once s s')
  suffixed_once (of_function s ps m) (of_function s' ps' m') = cc (suffixed_once s s', parameters_once ps ps')

  pub parameters_once : {c : Context} {n : ℕ} {ps : t.Parameters} {xs ys : List Declared} → AreParameters c n ps xs → AreParameters c n ps ys → xs ≡ ys
  parameters_once no_parameter no_parameter = refl
  parameters_once {c = c} {n = n} (a_parameter {xs = ws} {m = w} {ps = ps} m d k b) (a_parameter {ds = ys} m' d' k' b') =
      let p = sym (may_once d d') in
      cc (p, parameters_once b (subst (λ x. AreParameters (with_parameter n (parameter x) (behind_may w (behind_specifiers c ws))) (n + 1) ps ys) p b'))

  pub may_once : {c : Context} {q : Qualified} {m : t.MaybeDeclarator} {x y : Declared} → MayDeclare c q m x → MayDeclare c q m y → x ≡ y
  may_once of_no_declarator of_no_declarator = refl
  may_once (of_a_declarator d) (of_a_declarator d') = declares_once d d'
