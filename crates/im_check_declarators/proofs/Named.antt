-- What is asked of a parameter's name.
use Rattle.std.proofs.Common.{◌≡◌, ℕ, Bool, true, false, is_some, Option, Some, None, Result, Ok, Err, MatchResult, inl, inr, refl, sym}
use Rattle.im_check_type_specifiers.specs.im_word.Words.{Name}
use Rattle.im_ctype.specs.Types.{CType}
use Rattle.im_rules.specs.Context.{Context}
use Rattle.im_rules.specs.Declared.{Declared, is_typedef_name, declared_asks, parameter_asks, is_sized}
use Rattle.im_check_stop.specs.declared.stop.Stop.{Stop}
use Rattle.im_check_stop.specs.declared.stop.Stop.TheVariants.{Rule, Large, Memory}
use Rattle.im_check_stop.specs.Answers.{IsRefusal}
use Rattle.im_rules.specs.Demands.{Meets, Refuses}
use Rattle.im_rules.specs.Rules.{rule_3, rule_4}
use Rattle.im_rules.specs.Scopes.{Scopes, Storage, local_object, Entity, an_object, a_function, an_enumerator, a_typedef, meaning, meaning_here, at_file_scope}

-- in a scope of its own a name is declared once
told_here : (old : Option Entity) (new : Entity) (at_file : Bool) → at_file ≡ false → is_some old ≡ false → rule_3 old new at_file false false ≡ true
told_here None new at_file e h = refl
told_here (Some x) new at_file e h = absurd cc

refused_here : (old : Option Entity) (new : Entity) (at_file : Bool) → at_file ≡ false → is_some old ≡ true → rule_3 old new at_file false false ≡ false
refused_here None new at_file e h = absurd cc
refused_here (Some x) new at_file e h = rw e refl

told_type : (old : Option Entity) (k : Bool) (ty : CType) (s : Storage) → is_typedef_name old ≡ false → rule_4 old (an_object k ty s) ≡ true
told_type None k ty s h = refl
told_type (Some (a_typedef c a)) k ty s h = absurd cc
told_type (Some (an_object c a b)) k ty s h = refl
told_type (Some (a_function f c a)) k ty s h = refl
told_type (Some (an_enumerator z)) k ty s h = refl

refused_type : (old : Option Entity) (k : Bool) (ty : CType) (s : Storage) → is_typedef_name old ≡ true → rule_4 old (an_object k ty s) ≡ false
refused_type None k ty s h = absurd cc
refused_type (Some (a_typedef c a)) k ty s h = refl
refused_type (Some (an_object c a b)) k ty s h = absurd cc
refused_type (Some (a_function f c a)) k ty s h = absurd cc
refused_type (Some (an_enumerator z)) k ty s h = absurd cc

pub name_meets : (x : Name) (k : Bool) (ty : CType) (s : Storage) (g : Scopes) → at_file_scope g ≡ false → false ≡ is_some (meaning_here g x) → false ≡ is_typedef_name (meaning g x)
    → Meets (declared_asks (Some x) (an_object k ty s) g)
name_meets x k ty s g e h n =
    (told_here (meaning_here g x) (an_object k ty s) (at_file_scope g) e (sym h), (told_type (meaning g x) k ty s (sym n), tt))

pub name_here : (x : Name) (k : Bool) (ty : CType) (s : Storage) (g : Scopes) → at_file_scope g ≡ false → true ≡ is_some (meaning_here g x)
    → Refuses 3 (declared_asks (Some x) (an_object k ty s) g)
name_here x k ty s g e h = inl (refl, refused_here (meaning_here g x) (an_object k ty s) (at_file_scope g) e (sym h))

pub name_type : (x : Name) (k : Bool) (ty : CType) (s : Storage) (g : Scopes) → true ≡ is_typedef_name (meaning g x)
    → Refuses 4 (declared_asks (Some x) (an_object k ty s) g)
name_type x k ty s g n = inr (inl (refl, refused_type (meaning g x) k ty s (sym n)))

pub asked_done : (c : Context) (n : ℕ) (y : Declared) (at : ℕ) (result : Result Unit Stop) → is_sized y.type ≡ true
    → MatchResult result (λ u. Meets (declared_asks y.name (an_object y.constant y.type (local_object n)) c.scopes)) (IsRefusal (declared_asks y.name (an_object y.constant y.type (local_object n)) c.scopes) at)
    → MatchResult result (λ u. Meets (parameter_asks c n y)) (IsRefusal (parameter_asks c n y) at)
asked_done c n y at (Ok u) h m = (h, m)
asked_done c n y at (Err (Rule rule token)) h m = (inr m.0, m.1)
asked_done c n y at (Err (Large bytes)) h m = absurd m
asked_done c n y at (Err Memory) h m = tt
