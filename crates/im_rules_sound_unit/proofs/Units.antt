-- A unit's program is well typed.
use Rattle.std.proofs.Common.{◌≡◌, ℕ, zero, suc, ◌<◌, ◌≤◌, nat_lt, List, [], ◌∷◌, length, take, Bool, true, false, refl, sym, ap, ◌∙◌, subst, arith}
use Rattle.std.specs.Prelude.{Option, Some, None, slice_get, Contains, if◌then◌else◌}
use Rattle.std.specs.Option.{option_map}
use Rattle.std.proofs.lemmas.Bool.{ltb-true, ltb-false}
use Rattle.im_typed.specs.im_serve.declared.service.Service.TheVariants.{Getchar, Putchar}
use Rattle.im_num.specs.declared.kind.Kind.{Kind}
use Rattle.im_num.specs.declared.kind.Kind.TheVariants.{I32}
use Rattle.im_ctree.specs.Tree as t
use Rattle.im_ctype.specs.declared.integer.Integer.TheVariants.{Int}
use Rattle.im_ctype.specs.Types.{integer, function, no_types}
use Rattle.im_ctype.proofs.Same.{same-is}
use Rattle.im_typed.specs.Limits as typed
use Rattle.im_typed.specs.Limits.{static_bytes}
use Rattle.im_typed.specs.Program.{Scalar, LocalObject, Func, Prog}
use Rattle.im_typed.specs.Typing.{Each, IsTypedFunc, IsMain, IsWellTyped}
use Rattle.im_rules.specs.TypeTests.{result_of, parameters_of}
use Rattle.im_rules.specs.Rules.{rule_13}
use Rattle.im_rules.specs.Scopes.{Entity, an_object, a_function, an_enumerator, a_typedef, a_body, no_body, a_service, meaning}
use Rattle.im_rules.specs.Outline.{Outline, is_in, place_in}
use Rattle.im_rules.specs.FileScope.{FilePlace, file_start, main_name, body_type, callee_named}
use Rattle.im_rules.specs.TypedUnit.{FirstValues, program, TypedUnit, of_unit}
use Rattle.im_rules.specs.UnitBreaks.{some_externals}
use Rattle.im_rules_limits.proofs.First.{all-within}
use Rattle.im_rules_limits.specs.Limits.{size_limit, parameter_counts, of_parameters, of_size, of_statics, too_many_parameters, too_large, too_many_statics, IsWithinLimits, IsFileWithin}
use Rattle.im_rules_sound.specs.Sound.{gives, TakeTypes}
use Rattle.im_rules_sound_expressions.proofs.Types.{each-at}
use Rattle.im_rules_sound_places.specs.Units.{IsWrittenUnit}
use Rattle.im_rules_sound_places.proofs.Growing.{each-weaker}
use Rattle.im_rules_sound_places.specs.Places.{IsFine}
use Rattle.im_rules_sound_places.proofs.Files.{start-fine, externals-step, entity-at}
use Rattle.im_rules_sound_unit.proofs.Values.{statics-good}
use Rattle.im_rules_sound_unit.proofs.Bodies.{IsHeaded, externals-headed, names_made, bodies-made, made-found}
use Rattle.im_rules_sound_unit.proofs.Functions.{IsGoodFunc, externals-good}

no-more : (n most : ℕ) → (most < n → ⊥) → n ≤ most
no-more n most h = by-test (nat_lt most n) refl
  where
    by-test : (b : Bool) → nat_lt most n ≡ b → n ≤ most
    by-test true e = absurd (h (ltb-true most n e))
    by-test false e = ltb-false most n e

-- `main`

no-parameters : (n : ℕ) (os : List LocalObject) → TakeTypes no_types (take n os) → n ≤ length os → n ≡ 0
no-parameters zero os h le = refl
no-parameters (suc n) [] h le = absurd (omega (arith, le))
no-parameters (suc n) (o ∷ os) h le = absurd h

gives-int : (r : Option Kind) → option_map Scalar r ≡ Some (Scalar I32) → r ≡ Some I32
gives-int None e = absurd (cc)
gives-int (Some k) e = let same : k ≡ I32 = cc in ap Some same

-- what `main` means
record HasMain (e : FilePlace) : Type 0 where
  pub means : meaning e.context.scopes main_name ≡ Some (a_function (callee_named e.context.unit main_name) false (function (integer Int) no_types))
  pub inside : is_in main_name e.context.unit.bodies ≡ true

main-callee : (unit : Outline) (n : ℕ) → a_body n ≡ callee_named unit main_name → is_in main_name unit.bodies ≡ true
main-callee unit n e = by-test (is_in main_name unit.bodies) refl e
  where
    by-test : (b : Bool) → is_in main_name unit.bodies ≡ b → a_body n ≡ (if b then a_body (place_in main_name unit.bodies) else no_body) → is_in main_name unit.bodies ≡ true
    by-test true is e = is
    by-test false is e = absurd (cc)

main-there : (e : FilePlace) → IsFine e → rule_13 (body_type (meaning e.context.scopes main_name)) ≡ true → HasMain e
main-there e h r = by-meaning (meaning e.context.scopes main_name) refl r
  where
    by-meaning : (m : Option Entity) → meaning e.context.scopes main_name ≡ m → rule_13 (body_type m) ≡ true → HasMain e
    by-meaning None is k = absurd (cc)
    by-meaning (Some (a_function (a_body n) true a)) is k = absurd (cc)
    by-meaning (Some (a_function (a_body n) false a)) is k =
        let own = entity-at e main_name (a_function (a_body n) false a) h is in
        let type : a ≡ function (integer Int) no_types = same-is a (function (integer Int) no_types) k in
        record {
          means = is ∙ ap (λ c. Some (a_function c false a)) own.2 ∙ ap (λ b. Some (a_function (callee_named e.context.unit main_name) false b)) type;
          inside = main-callee e.context.unit n own.2;
        }
    by-meaning (Some (a_function no_body c a)) is k = absurd (cc)
    by-meaning (Some (a_function (a_service Getchar) c a)) is k = absurd (cc)
    by-meaning (Some (a_function (a_service Putchar) c a)) is k = absurd (cc)
    by-meaning (Some (an_object c a s)) is k = absurd (cc)
    by-meaning (Some (an_enumerator z)) is k = absurd (cc)
    by-meaning (Some (a_typedef c a)) is k = absurd (cc)

main-good : (e : FilePlace) (gs : List FirstValues) (ks : List Func) → HasMain e → e.context.unit.bodies ≡ names_made ks → Each (IsHeaded e) ks → Each (IsTypedFunc (program e gs ks)) ks → IsMain (slice_get ks (place_in main_name e.context.unit.bodies))
main-good e gs ks h bodies headed typed =
    let found = made-found ks main_name (ap (λ z. is_in main_name z) (sym bodies) ∙ h.inside) in
    let there : slice_get ks (place_in main_name e.context.unit.bodies) ≡ Some found.made = ap (λ z. slice_get ks (place_in main_name z)) bodies ∙ found.there in
    let own = each-at (IsHeaded e) ks (place_in main_name (names_made ks)) found.made headed found.there in
    let good = each-at (IsTypedFunc (program e gs ks)) ks (place_in main_name (names_made ks)) found.made typed found.there in
    let named_so : meaning e.context.scopes main_name ≡ Some (a_function (callee_named e.context.unit found.made.name) own.constant own.type) = ap (meaning e.context.scopes) found.name ∙ own.means in
    let is : Some (a_function (callee_named e.context.unit main_name) false (function (integer Int) no_types)) ≡ Some (a_function (callee_named e.context.unit found.made.name) own.constant own.type) = sym h.means ∙ named_so in
    let type : own.type ≡ function (integer Int) no_types = cc in
    let takes : TakeTypes no_types (take found.made.params found.made.objects) = subst (λ a. TakeTypes (parameters_of a) (take found.made.params found.made.objects)) type own.takes in
    let result : option_map Scalar found.made.result ≡ Some (Scalar I32) = own.result ∙ ap (λ a. gives e.context.known (result_of a)) type in
    subst IsMain (sym there) (no-parameters found.made.params found.made.objects takes good.0, gives-int found.made.result result)

pub units : (u : t.Tree) (g : Prog) → TypedUnit u g → IsWrittenUnit u → IsWithinLimits u → IsWellTyped g × typed.IsWithinLimits g
units u _ (of_unit {e = e} {gs = gs} {ks = ks} d m) w l =
    let start = start-fine u in
    let within : IsFileWithin (file_start u) (some_externals u) = λ k z. no-more k size_limit (λ lt. l of_size k (too_large z lt)) in
    let few : (n : ℕ) → Contains (parameter_counts e.context.scopes u) n → n ≤ 8 =
    all-within (parameter_counts e.context.scopes u) (λ n first. l of_parameters n (too_many_parameters d first)) in
    let small : static_bytes (program e gs ks).statics ≤ 1048576 = no-more (static_bytes (program e gs ks).statics) 1048576 (λ lt. l of_statics (static_bytes (program e gs ks).statics) (too_many_statics (of_unit d m) lt)) in
    let all = externals-step d start w within in
    let headed = externals-headed d start w within in
    let bodies : e.context.unit.bodies ≡ names_made ks = ap (λ (o : Outline). o.bodies) all.grows.unit ∙ bodies-made d start w within in
    let good = externals-good e gs ks all.fine headed bodies d start w within few in
    let typed_so : Each (IsTypedFunc (program e gs ks)) ks = each-weaker (IsGoodFunc e gs ks all.fine headed bodies) (IsTypedFunc (program e gs ks)) ks (λ f h. h.typed) good.1 in (
      record {
        statics = statics-good e gs ks all.fine good.0 small;
        funcs = typed_so;
        main = main-good e gs ks (main-there e all.fine m.0) bodies headed typed_so;
      },
      record {
        params = each-weaker (IsGoodFunc e gs ks all.fine headed bodies) (λ (f : Func). f.params ≤ 8) ks (λ f h. h.few) good.1;
        statics = small;
      },
    )
