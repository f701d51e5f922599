-- Parameters in scope, one behind the other.
use Rattle.std.proofs.Common.{◌≡◌, ℕ, ◌+◌, ◌<◌, ◌≤◌, List, [], ◌∷◌, ◌++◌, map, length, drop, get_or, refl, sym, ap, ◌∙◌, append_assoc}
use Rattle.std.proofs.lemmas.List.{append-nil, drop_more, drop_all}
use Rattle.im_ctree.specs.Tree as t
use Rattle.im_ctree.specs.declared.declarator.Parameter as pm
use Rattle.im_rules.specs.Context.{Context}
use Rattle.im_rules.specs.Declared as d
use Rattle.im_check_scopes.specs.declared.entity.Entry.{Entry}
use Rattle.im_check_scopes.specs.Shape.{scopes_of}
use Rattle.im_ctree_parts.specs.Lists.{parameters_from}
use Rattle.im_check_type_specifiers.specs.Tags.{IsGrown}
use Rattle.im_ctree_parts.proofs.Shapes.{parameter_shape}
use Rattle.im_check_declarators.specs.declared.declared.Declared.{Declared}
use Rattle.im_check_declarators.specs.Shape.{declared_of, object_by}
use Rattle.im_check_place.specs.declared.place.Place.{Place}
use Rattle.im_check_place.specs.Contexts.{context_of}
use Rattle.im_check_file_specifiers.specs.Answers.{list_of}
use Rattle.im_check_file_functions.specs.Bodies.{IsMore, IsEntered, AreEntered}

pub next : {X : Type 0} (xs : List X) (i : ℕ) (x : X) → i < length xs → x ≡ get_or xs i x → drop i xs ≡ x ∷ drop (i + 1) xs
next xs i x below is = drop_more xs i x below ∙ ap (λ y. y ∷ drop (i + 1) xs) (sym is)

-- places with more names

pub more_none : (p : Place) → IsMore p p
more_none p = record { grown = ([], sym (append-nil p.scope)); all_else = refl }

pub more_two : {p q r : Place} → IsMore p q → IsMore q r → IsMore p r
more_two {p = p} {r = r} g h =
    record {
      grown = (g.grown.0 ++ h.grown.0, h.grown.1 ∙ ap (λ z. z ++ h.grown.0) g.grown.1 ∙ append_assoc p.scope g.grown.0 h.grown.0);
      all_else = h.all_else ∙ ap (λ (z : Place). record z { scope = r.scope }) g.all_else;
    }

-- one parameter is in scope
pub entered_so : {before : Place} {es fs : List Entry} (n : ℕ) (p : pm.Parameter) (y : d.Declared)
    → scopes_of es ≡ (d.behind_specifiers (context_of before) (list_of (pm.out-Parameter p).specifiers)).scopes
    → IsGrown before.scope es
    → scopes_of fs ≡ d.with_name y.name (object_by n y) (scopes_of es)
    → IsGrown es fs
    → IsEntered n p y before (record before { scope = fs })
entered_so {before = before} n p y tags g name h =
    record {
      more = record { grown = (g.0 ++ h.0, h.1 ∙ ap (λ z. z ++ h.0) g.1 ∙ append_assoc before.scope g.0 h.0); all_else = refl };
      context = ap (λ z. record (context_of before) { scopes = z }) (name ∙ ap (d.with_name y.name (object_by n y)) tags);
    }

-- how far parameters are in scope
pub record EnteredTo (before : Place) (ps : List pm.Parameter) (ys : List Declared) (i : ℕ) (now : Place) : Type 0 where
  pub more : IsMore before now
  pub context : d.with_parameters i (parameters_from (drop i ps)) (map declared_of (drop i ys)) (context_of now) ≡ d.with_parameters 0 (parameters_from ps) (map declared_of ys) (context_of before)

pub entered_none : (p : Place) (ps : List pm.Parameter) (ys : List Declared) → EnteredTo p ps ys 0 p
entered_none p ps ys = record { more = more_none p; context = refl }

pub entered_more : {before now after : Place} {ps : List pm.Parameter} {ys : List Declared} {i : ℕ} {p : pm.Parameter} {y : Declared}
    → drop i ps ≡ p ∷ drop (i + 1) ps
    → drop i ys ≡ y ∷ drop (i + 1) ys
    → EnteredTo before ps ys i now
    → IsEntered i p (declared_of y) now after
    → EnteredTo before ps ys (i + 1) after
entered_more {now = now} {ps = ps} {ys = ys} {i = i} {p = p} {y = y} at at' reached one =
    let rest = parameters_from (drop (i + 1) ps) in
    let others = map declared_of (drop (i + 1) ys) in
    record {
      more = more_two reached.more one.more;
      context =
          ap (d.with_parameters (i + 1) rest others) one.context
          ∙ ap (λ z. d.with_parameters i z (declared_of y ∷ others) (context_of now)) (sym (parameter_shape p rest))
          ∙ ap (λ zs. d.with_parameters i (parameters_from zs) (declared_of y ∷ others) (context_of now)) (sym at)
          ∙ ap (λ zs. d.with_parameters i (parameters_from (drop i ps)) (map declared_of zs) (context_of now)) (sym at')
          ∙ reached.context;
    }

none_left : (n : ℕ) (ps : t.Parameters) (c : Context) → d.with_parameters n ps [] c ≡ c
none_left n t.no_parameters c = refl
none_left n (t.more_parameters (t.specifiers at xs) m ps) c = refl

pub entered_all : {before now : Place} {ps : List pm.Parameter} {ys : List Declared} {i : ℕ} → length ys ≤ i → EnteredTo before ps ys i now → AreEntered before (parameters_from ps) (map declared_of ys) now
entered_all {now = now} {ps = ps} {ys = ys} {i = i} ends reached =
    let e : drop i ys ≡ [] = drop_all i ys ends in
    record {
      more = reached.more;
      context = sym (none_left i (parameters_from (drop i ps)) (context_of now)) ∙ ap (λ zs. d.with_parameters i (parameters_from (drop i ps)) (map declared_of zs) (context_of now)) (sym e) ∙ reached.context;
    }
