-- Places at file scope: what stands before them, and that it stays as more is declared.
use Rattle.std.proofs.Common.{◌≡◌, ◌⊎◌, inl, inr, ◌&&◌, List, [], ◌∷◌, ◌++◌, length-append, append_assoc, append-nil, Bool, true, false, refl, sym, ap, ◌∙◌, subst, arith}
use Rattle.std.specs.Prelude.{Option, Some, None, not, if◌then◌else◌}
use Rattle.std.proofs.lemmas.Bool.{eq-eqb}
use Rattle.im_word.specs.Words.{Name}
use Rattle.im_store.proofs.Same.{both-true}
use Rattle.im_ctype.specs.Types.{Structs, same_type, same_bool}
use Rattle.im_ctype.proofs.Same.{same-is}
use Rattle.im_rules.specs.TypeTests.{same_name}
use Rattle.im_rules.specs.Rules.{agrees, rule_3}
use Rattle.im_rules.specs.Scopes.{Entity, an_object, a_function, an_enumerator, a_typedef, static_object, local_object, Tag, Scopes, nothing, opened, named, tagged, meaning, meaning_here, at_file_scope}
use Rattle.im_rules.specs.Outline.{Outline}
use Rattle.im_rules.specs.Context.{with_entity}
use Rattle.im_rules.specs.FileScope.{FilePlace, in_place, past_strings}
use Rattle.im_rules_sound_expressions.specs.Bounded.{IsBoundedTypedef, AreBoundedTypedefs}
use Rattle.im_rules_sound_expressions.specs.Written.{AllBytes}
use Rattle.im_rules_sound_expressions.proofs.Types.{same-name-is, each-kept}
use Rattle.im_rules_sound_places.specs.Places.{IsFileEntity, Means, IsFine, Grows, IsStep}
use Rattle.im_rules_sound_places.proofs.Growing.{bounded-more, complete-in-more}

pub grows-none : (f : FilePlace) → Grows f f
grows-none f = record { unit = refl; more = []; known = sym (append-nil f.context.known); words = []; strings = sym (append-nil f.strings); means = λ x e h. h }

pub grows-trans : (f g h : FilePlace) → Grows f g → Grows g h → Grows f h
grows-trans f g h p q = record {
  unit = q.unit ∙ p.unit;
  more = p.more ++ q.more;
  known = q.known ∙ ap (λ s. s ++ q.more) p.known ∙ append_assoc f.context.known p.more q.more;
  words = p.words ++ q.words;
  strings = q.strings ∙ ap (λ s. s ++ q.words) p.strings ∙ append_assoc f.strings p.words q.words;
  means = λ x e k. q.means x e (p.means x e k);
}

pub step-trans : (f g h : FilePlace) → IsStep f g → IsStep g h → IsStep f h
step-trans f g h p q = record { fine = q.fine; grows = grows-trans f g h p.grows q.grows }

pub step-none : (f : FilePlace) → IsFine f → IsStep f f
step-none f h = record { fine = h; grows = grows-none f }

-- strings

pub bytes-append : (xs ys : List Name) → AllBytes xs → AllBytes ys → AllBytes (xs ++ ys)
bytes-append [] ys h k = k
bytes-append (x ∷ xs) ys h k = (h.0, bytes-append xs ys h.1 k)

pub step-strings : (ss : List Name) (f : FilePlace) → AllBytes ss → IsFine f → IsStep f (past_strings ss f)
step-strings ss f b h =
    let next = h.next in
    let l = length-append f.strings ss in
    record {
      fine = record {
        structs = h.structs;
        entities = h.entities;
        means = h.means;
        top = h.top;
        next = omega (arith, next, l);
        bytes = bytes-append f.strings ss h.bytes b;
      };
      grows = record { unit = refl; more = []; known = sym (append-nil f.context.known); words = ss; strings = refl; means = λ x e k. k };
    }

-- tags

abbrev pub IsTagged : Scopes → Scopes → Type 0
IsTagged s r = (r ≡ s) ⊎ ((x : Name) × (g : Tag) × (r ≡ tagged x g s))

abbrev pub with_scopes : Scopes → FilePlace → FilePlace
with_scopes r f = in_place (record f.context { scopes = r }) f

pub step-tagged : (r : Scopes) (f : FilePlace) → IsTagged f.context.scopes r → IsFine f → IsStep f (with_scopes r f)
step-tagged r f (inl e) h = subst (λ s. IsStep f (with_scopes s f)) (sym e) (record {
  fine = record { structs = h.structs; entities = h.entities; means = h.means; top = h.top; next = h.next; bytes = h.bytes };
  grows = record { unit = refl; more = []; known = sym (append-nil f.context.known); words = []; strings = sym (append-nil f.strings); means = λ x e k. k };
})
step-tagged r f (inr k) h = subst (λ s. IsStep f (with_scopes s f)) (sym k.2) (record {
  fine = record { structs = h.structs; entities = h.entities; means = h.means; top = h.top; next = h.next; bytes = h.bytes };
  grows = record { unit = refl; more = []; known = sym (append-nil f.context.known); words = []; strings = sym (append-nil f.strings); means = λ x e k. k };
})

-- a name that is declared, anew or as it was

pub named-means : (s : Scopes) (x : Name) (e : Entity) → ((d : Entity) → meaning s x ≡ Some d → d ≡ e) → (y : Name) (d : Entity) → meaning s y ≡ Some d → meaning (named x e s) y ≡ Some d
named-means s x e same y d is = by-name (same_name x y) refl
  where
    by-name : (b : Bool) → same_name x y ≡ b → (if b then Some e else meaning s y) ≡ Some d
    by-name false n = is
    by-name true n =
        let here : meaning s x ≡ Some d = ap (meaning s) (same-name-is x y n) ∙ is in
        ap Some (sym (same d here))

abbrev pub with_name : Name → Entity → FilePlace → FilePlace
with_name x e f = in_place (with_entity x e f.context) f

pub self-named : (x : Name) → same_name x x ≡ true
self-named [] = refl
self-named (a ∷ x) = ap (λ b. b && same_name x x) (eq-eqb a a refl) ∙ self-named x

pub step-named : (x : Name) (e : Entity) (f : FilePlace) → IsFileEntity f.context.known f.context.unit x e → ((d : Entity) → meaning f.context.scopes x ≡ Some d → d ≡ e) → IsFine f → IsStep f (with_name x e f)
step-named x e f own same h = record {
  fine = record {
    structs = h.structs;
    entities = (own, h.entities);
    means = (
      ap (λ b. if b then Some e else meaning f.context.scopes x) (self-named x),
      each-kept (Means f.context.scopes) (Means (named x e f.context.scopes)) f.context.scopes (named-means f.context.scopes x e same) h.means,
    );
    top = h.top;
    next = h.next;
    bytes = h.bytes;
  };
  grows = record { unit = refl; more = []; known = sym (append-nil f.context.known); words = []; strings = sym (append-nil f.strings); means = named-means f.context.scopes x e same };
}

-- at file scope the innermost scope is the only one
pub here-means : (s : Scopes) (x : Name) → at_file_scope s ≡ true → meaning_here s x ≡ meaning s x
here-means nothing x e = refl
here-means (opened s) x e = absurd (cc)
here-means (named y d s) x e = ap (λ m. if same_name y x then Some d else m) (here-means s x e)
here-means (tagged y g s) x e = here-means s x e

-- what agrees is the same
same-bool-is : (a b : Bool) → same_bool a b ≡ true → a ≡ b
same-bool-is true true e = refl
same-bool-is true false e = absurd (cc)
same-bool-is false true e = absurd (cc)
same-bool-is false false e = refl

pub agreed : (known : Structs) (unit : Outline) (x : Name) (d e : Entity) → IsFileEntity known unit x d → IsFileEntity known unit x e → agrees d e ≡ true → d ≡ e
agreed known unit x (an_object k a (static_object m)) (an_object l b (static_object n)) h q e =
    let both = both-true (same_type a b) (same_bool k l) e in
    let type : a ≡ b = same-is a b both.0 in
    let constant : k ≡ l = same-bool-is k l both.1 in
    let number : m ≡ n = h.2 ∙ sym q.2 in
    cc
agreed known unit x (an_object k a (static_object m)) (an_object l b (local_object n)) h q e = absurd q
agreed known unit x (an_object k a (local_object m)) other h q e = absurd h
agreed known unit x (a_function c k a) (a_function d l b) h q e =
    let both = both-true (same_type a b) (same_bool k l) e in
    let type : a ≡ b = same-is a b both.0 in
    let constant : k ≡ l = same-bool-is k l both.1 in
    let callee : c ≡ d = h.2 ∙ sym q.2 in
    cc
agreed known unit x (a_typedef k a) (a_typedef l b) h q e =
    let both = both-true (same_type a b) (same_bool k l) e in
    let type : a ≡ b = same-is a b both.0 in
    let constant : k ≡ l = same-bool-is k l both.1 in
    cc
agreed known unit x (an_object k a (static_object m)) (a_function c l b) h q e = absurd (cc)
agreed known unit x (an_object k a (static_object m)) (an_enumerator z) h q e = absurd (cc)
agreed known unit x (an_object k a (static_object m)) (a_typedef l b) h q e = absurd (cc)
agreed known unit x (a_function c k a) (an_object l b s) h q e = absurd (cc)
agreed known unit x (a_function c k a) (an_enumerator z) h q e = absurd (cc)
agreed known unit x (a_function c k a) (a_typedef l b) h q e = absurd (cc)
agreed known unit x (an_enumerator z) (an_object k b s) h q e = absurd (cc)
agreed known unit x (an_enumerator z) (a_function c l b) h q e = absurd (cc)
agreed known unit x (an_enumerator z) (an_enumerator y) h q e = absurd (cc)
agreed known unit x (an_enumerator z) (a_typedef l b) h q e = absurd (cc)
agreed known unit x (a_typedef k a) (an_object l b s) h q e = absurd (cc)
agreed known unit x (a_typedef k a) (a_function c l b) h q e = absurd (cc)
agreed known unit x (a_typedef k a) (an_enumerator z) h q e = absurd (cc)

-- by the rule on names, a name that is declared again means the same
pub rule-same : (known : Structs) (unit : Outline) (x : Name) (m : Option Entity) (e : Entity) (before here : Bool) → ((d : Entity) → m ≡ Some d → IsFileEntity known unit x d) → IsFileEntity known unit x e → rule_3 m e true before here ≡ true → (d : Entity) → m ≡ Some d → d ≡ e
rule-same known unit x None e before here own q r d is = absurd (cc)
rule-same known unit x (Some c) e before here own q r d is =
    let both = both-true (agrees c e) (not (before && here)) r in
    let same : c ≡ d = cc in
    sym same ∙ agreed known unit x c e (own c refl) q both.0

-- more structs
pub entity-more : (known more : Structs) (unit : Outline) (x : Name) (e : Entity) → IsFileEntity known unit x e → IsFileEntity (known ++ more) unit x e
entity-more known more unit x (an_object k a (static_object n)) h = (bounded-more known more a h.0, complete-in-more known more a h.1, h.2)
entity-more known more unit x (an_object k a (local_object n)) h = h
entity-more known more unit x (a_function c k a) h = (bounded-more known more a h.0, h.1, h.2, h.3, h.4)
entity-more known more unit x (an_enumerator z) h = h
entity-more known more unit x (a_typedef k a) h = bounded-more known more a h

pub typedefs-at : (f : FilePlace) → IsFine f → AreBoundedTypedefs f.context
typedefs-at f h = each-kept (IsFileEntity f.context.known f.context.unit) (IsBoundedTypedef f.context.known) f.context.scopes one h.entities
  where
    one : (x : Name) (e : Entity) → IsFileEntity f.context.known f.context.unit x e → IsBoundedTypedef f.context.known x e
    one x (an_object k a s) own = tt
    one x (a_function c k a) own = tt
    one x (an_enumerator z) own = tt
    one x (a_typedef k a) own = own
