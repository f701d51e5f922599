-- From one site in a body to the next.
use Rattle.std.proofs.Common.{◌≡◌, ℕ, zero, suc, ◌+◌, List, [], ◌∷◌, ◌++◌, length, length-append, true, refl, sym, ap, ◌∙◌, subst, arith}
use Rattle.std.specs.Prelude.{Some, slice_get}
use Rattle.im_word.specs.Words.{Name}
use Rattle.im_ctree.specs.Tree as t
use Rattle.im_typed.specs.Program.{LocalObject, Func, Prog}
use Rattle.im_rules.specs.TypedUnit.{result_kind}
use Rattle.im_rules.specs.Rules.{rule_9_result}
use Rattle.im_rules.specs.Strings.{strings_in}
use Rattle.im_rules.specs.Context.{Context, behind_strings}
use Rattle.im_rules.specs.Statements.{Site, Added, and_then, just_strings, past, past_expression, in_block, in_loop, in_switch}
use Rattle.im_rules_sound_expressions.specs.Bounded.{IsSoundContext}
use Rattle.im_rules_sound_statements.specs.Sites.{StandFrom, IsSoundSite, AreObjects}

pub objects-append : (xs ys : List LocalObject) → AreObjects xs → AreObjects ys → AreObjects (xs ++ ys)
objects-append [] ys h k = k
objects-append (x ∷ xs) ys h k = (h.0, objects-append xs ys h.1 k)

get-left : (xs ys : List LocalObject) (i : ℕ) (o : LocalObject) → slice_get xs i ≡ Some o → slice_get (xs ++ ys) i ≡ Some o
get-left [] ys i o e = absurd (cc)
get-left (x ∷ xs) ys zero o e = e
get-left (x ∷ xs) ys (suc i) o e = get-left xs ys i o e

get-right : (xs ys : List LocalObject) (i : ℕ) → slice_get (xs ++ ys) (length xs + i) ≡ slice_get ys i
get-right [] ys i = ap (slice_get ys) (omega arith)
get-right (x ∷ xs) ys i =
    let next : length (x ∷ xs) + i ≡ suc (length xs + i) = omega arith in
    ap (slice_get (x ∷ (xs ++ ys))) next ∙ get-right xs ys i

pub stand-left : (all xs ys : List LocalObject) (n : ℕ) → StandFrom all n (xs ++ ys) → StandFrom all n xs
stand-left all xs ys n h = λ i o e. h i o (get-left xs ys i o e)

pub stand-right : (all xs ys : List LocalObject) (n : ℕ) → StandFrom all n (xs ++ ys) → StandFrom all (n + length xs) ys
stand-right all xs ys n h = λ i o e.
    let place : n + (length xs + i) ≡ n + length xs + i = omega arith in
    ap (slice_get all) (sym place) ∙ h (length xs + i) o (get-right xs ys i ∙ e)

-- behind what was added
pub record IsPast (s : Site) (m : Added) (e : Site) : Type 0 where
  pub strings : e.context.next_string ≡ s.context.next_string + length m.strings
  pub locals : e.locals ≡ s.locals + length m.objects
  pub result : e.result ≡ s.result
  pub position : e.position ≡ s.position

module _ (g : Prog) (f : Func) where
  pub first-site : (s : Site) (m n : Added) → IsSoundSite g f s (and_then m n) → IsSoundSite g f s m
  first-site s m n h =
      let strings = h.strings in
      let l = length-append m.strings n.strings in
      record {
        context = h.context;
        strings = omega (arith, strings, l);
        objects = stand-left f.objects m.objects n.objects s.locals h.objects;
        result = h.result;
        scalar = h.scalar;
      }

  pub last-site : (s e : Site) (m n : Added) → IsSoundSite g f s (and_then m n) → IsPast s m e → IsSoundContext g f e.context → IsSoundSite g f e n
  last-site s e m n h p c =
      let strings = h.strings in
      let l = length-append m.strings n.strings in
      let moved = p.strings in
      record {
        context = c;
        strings = omega (arith, strings, l, moved);
        objects = subst (λ k. StandFrom f.objects k n.objects) (sym p.locals) (stand-right f.objects m.objects n.objects s.locals h.objects);
        result = subst (λ r. f.result ≡ result_kind r) (sym p.result) h.result;
        scalar = subst (λ r. rule_9_result r ≡ true) (sym p.result) h.scalar;
      }

  pub past-strings-sound : (ss : List Name) (c : Context) → IsSoundContext g f c → IsSoundContext g f (behind_strings ss c)
  past-strings-sound ss c h = record { structs = h.structs; entities = h.entities; statics = h.statics }

  pub past-is : (s : Site) (m : Added) → IsPast s m (past m s)
  past-is s m = record { strings = refl; locals = refl; result = refl; position = refl }

  pub past-expression-is : (s : Site) (e : t.Expression) → IsPast s (just_strings (strings_in e)) (past_expression e s)
  past-expression-is s e = record { strings = refl; locals = omega arith; result = refl; position = refl }

  pub behind-added : (s : Site) (m n : Added) → IsSoundSite g f s (and_then m n) → IsSoundSite g f (past m s) n
  behind-added s m n h = last-site s (past m s) m n h (past-is s m) (past-strings-sound m.strings s.context h.context)

  pub behind-expression : (s : Site) (e : t.Expression) (n : Added) → IsSoundSite g f s (and_then (just_strings (strings_in e)) n) → IsSoundSite g f (past_expression e s) n
  behind-expression s e n h = last-site s (past_expression e s) (just_strings (strings_in e)) n h (past-expression-is s e) (past-strings-sound (strings_in e) s.context h.context)

  pub block-site : (s : Site) (m : Added) → IsSoundSite g f s m → IsSoundSite g f (in_block s) m
  block-site s m h = record {
    context = record { structs = h.context.structs; entities = h.context.entities; statics = h.context.statics };
    strings = h.strings;
    objects = h.objects;
    result = h.result;
    scalar = h.scalar;
  }

  pub loop-site : (s : Site) (m : Added) → IsSoundSite g f s m → IsSoundSite g f (in_loop s) m
  loop-site s m h = record { context = h.context; strings = h.strings; objects = h.objects; result = h.result; scalar = h.scalar }

  pub switch-site : (s : Site) (m : Added) → IsSoundSite g f s m → IsSoundSite g f (in_switch s) m
  switch-site s m h = record { context = h.context; strings = h.strings; objects = h.objects; result = h.result; scalar = h.scalar }
