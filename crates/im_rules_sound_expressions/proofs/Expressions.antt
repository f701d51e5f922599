-- What an expression is typed to is well typed: by induction over its forms.
use Rattle.std.proofs.Common.{◌≡◌, ℕ, suc, ◌+◌, ◌<◌, ◌≤◌, ◌&&◌, ◌||◌, List, [], ◌∷◌, ◌++◌, length, length-append, Bool, true, false, refl, sym, ap, ◌∙◌, subst, arith}
use Rattle.std.specs.Prelude.{Option, Some, None, pos, if◌then◌else◌, not}
use Rattle.std.proofs.lemmas.Bool.{lt-ltb}
use Rattle.std.proofs.lemmas.Int.{ints}
use Rattle.im_num.specs.declared.kind.Kind.TheVariants.{U32, I32}
use Rattle.im_num.specs.Kinds.{IsOfKind}
use Rattle.im_tok.specs.declared.number.NumberType.{NumberType}
use Rattle.im_tok.specs.declared.number.NumberType.TheVariants as number
use Rattle.im_tok.specs.Numbers.{greatest}
use Rattle.im_word.specs.Words.{Name}
use Rattle.im_ctree.specs.declared.operator.BinaryOp.{BinaryOp}
use Rattle.im_ctree.specs.declared.operator.BinaryOp.TheVariants as b
use Rattle.im_ctree.specs.declared.operator.UnaryOp.{UnaryOp}
use Rattle.im_ctree.specs.declared.operator.UnaryOp.TheVariants as o
use Rattle.im_ctree.specs.declared.operator.AssignOp.{AssignOp}
use Rattle.im_ctree.specs.declared.operator.StepOp.{StepOp}
use Rattle.im_ctree.specs.Tree as t
use Rattle.im_store.specs.declared.operators.Comparison.{Comparison}
use Rattle.im_store.proofs.Same.{both-true}
use Rattle.im_ctype.specs.declared.integer.Integer.TheVariants.{Char}
use Rattle.im_ctype.specs.Types.{CType, void, integer, pointer, array, unsized, struct, function, Member, Structs, members_of, is_integer, is_pointer, is_array, is_struct, kind_of}
use Rattle.im_typed.specs.Program.{Place, Static, Local, Target, Func, Prog}
use Rattle.im_typed.specs.Typing.{Each, IsTypedPlace, members_offset}
use Rattle.im_rules.specs.TypeTests.{same_name, is_complete_in, target_of, target_constant, members_in, find_member, has_member, result_of}
use Rattle.im_rules.specs.Scopes.{Entity, an_object, a_function, an_enumerator, a_typedef, static_object, local_object, Callee, meaning}
use Rattle.im_rules.specs.Outline.{is_in, place_in}
use Rattle.im_rules.specs.Strings.{strings_in, strings_among, strings_named}
use Rattle.im_rules.specs.Context.{Context, behind, behind_name}
use Rattle.im_rules.specs.Terms.{Value, Term, lvalue, value, operand_of, type_in, value_of, size_in}
use Rattle.im_rules.specs.Rules.{Operand, value_type, rule_18, rule_21_dot, rule_21_arrow}
use Rattle.im_rules.specs.Demands.{Meets, call_asks, callee_of, is_function_meant, is_object_defined, dot_asks}
use Rattle.im_rules.specs.Conversions.{number_type, called, measured, operation, sum, difference, moved, comparison, unary_term, casted, chosen, assigned, stepped, call_of, dotted, arrowed, member_among, member_at, part_of, struct_number}
use Rattle.im_rules.specs.Typed.{Typed, of_identifier, of_number, of_character, of_string, of_index, of_call, of_member, of_arrow, of_post_step, of_pre_step, of_unary, of_size, of_type_size, of_cast, of_binary, of_conditional, of_assign, of_comma, AreTyped, no_argument, an_argument}
use Rattle.im_rules.specs.Breaks.{an_expression, some_expressions, indexed, subscript, arguments, whole, pointer_to_whole, post_stepped, pre_stepped, operand, measured_expression, measured_type, cast_type, cast_operand, left_operand, right_operand, condition, first_arm, second_arm, left_side, right_side, before_comma, behind_comma, first_argument, other_arguments}
use Rattle.im_rules_limits.specs.Limits.{size_here, size_within, of_string as size_of_string, IsWithin}
use Rattle.im_rules_sound.specs.Sound.{IsSoundValue, IsSoundPlace, IsSoundTerm, AreSound}
use Rattle.im_rules_sound_expressions.specs.Bounded.{IsBounded, AreBoundedStructs, IsBoundedTypedef, AreBoundedTypedefs, IsSoundEntity, IsSoundContext, HasStrings}
use Rattle.im_rules_sound_expressions.specs.Written.{IsWritten, AreWritten}
use Rattle.im_rules_sound.proofs.Operations.{integer-kind, pointer-shape, type-seen, operations}
use Rattle.im_rules_sound.proofs.Terms.{reads, complete-object, unary, casts, commas}
use Rattle.im_rules_sound.proofs.Changes.{choices}
use Rattle.im_rules_sound.proofs.Assigns.{assigns, steps}
use Rattle.im_rules_sound.proofs.Calls.{subscripts, calls}
use Rattle.im_rules_sound.proofs.Members.{place-sound}
use Rattle.im_rules_sound_expressions.proofs.Types.{each-meaning, each-kept, sized-bounded, moves-well, target-sized, target-bounded}
use Rattle.im_rules_sound_expressions.proofs.Parts.{parts}
use Rattle.im_rules_sound_expressions.proofs.Declarators.{names-bounded}

-- constants

number-of-kind : (i : NumberType) (n : ℕ) → n ≤ greatest i → IsOfKind (kind_of (number_type i)) (pos n)
number-of-kind number.Int n le = record { low = omega (arith, ints); high = omega (arith, ints) }
number-of-kind number.UnsignedInt n le = record { low = omega (arith, ints); high = omega (arith, ints) }
number-of-kind number.Long n le = record { low = omega (arith, ints); high = omega (arith, ints) }
number-of-kind number.UnsignedLong n le = record { low = omega (arith, ints); high = omega (arith, ints) }

character-of-kind : (n : ℕ) → n ≤ 255 → IsOfKind I32 (pos n)
character-of-kind n le = record { low = omega (arith, ints); high = omega (arith, ints) }

size-of-kind : (n : ℕ) → n ≤ 1048576 → IsOfKind U32 (pos n)
size-of-kind n le = record { low = omega (arith, ints); high = omega (arith, ints) }

-- names

pub place-within : (x : Name) (xs : List Name) → is_in x xs ≡ true → place_in x xs < length xs
place-within x [] e = absurd (cc)
place-within x (y ∷ xs) e = by-name (same_name y x) (λ k. place-within x xs k) e
  where
    by-name : (b : Bool) → (is_in x xs ≡ true → place_in x xs < length xs) → (b || is_in x xs) ≡ true → (if b then 0 else suc (place_in x xs)) < suc (length xs)
    by-name true later e = omega arith
    by-name false later e = let h = later e in omega (arith, h)

-- members

find-has : (x : Name) (ms : List Member) (m : Member) → find_member x ms ≡ Some m → (has_member x ms ≡ true) × (member_among x ms ≡ m)
find-has x [] m e = absurd (cc)
find-has x (y ∷ ms) m e = by-name (same_name y.name x) (λ k. find-has x ms m k) e
  where
    by-name : (b : Bool) → (find_member x ms ≡ Some m → (has_member x ms ≡ true) × (member_among x ms ≡ m)) → (if b then Some y else find_member x ms) ≡ Some m → ((b || has_member x ms) ≡ true) × ((if b then y else member_among x ms) ≡ m)
    by-name true later e = (refl, cc)
    by-name false later e = later e

has-at : (P : Member → Type 0) (x : Name) (ms : List Member) → Each P ms → has_member x ms ≡ true → P (member_among x ms)
has-at P x [] h e = absurd (cc)
has-at P x (y ∷ ms) h e = by-name (same_name y.name x) (λ k. has-at P x ms h.1 k) e
  where
    by-name : (b : Bool) → (has_member x ms ≡ true → P (member_among x ms)) → (b || has_member x ms) ≡ true → P (if b then y else member_among x ms)
    by-name true later e = h.0
    by-name false later e = later e

-- types of results

module _ (known : Structs) where
  abbrev Fine : CType → Type 0
  Fine a = IsBounded known a

  value-bounded : (x : Term) → Fine (type_in x) → Fine (value_of known x).type
  value-bounded (lvalue k void p) h = h
  value-bounded (lvalue k (integer i) p) h = h
  value-bounded (lvalue k (pointer d a) p) h = h
  value-bounded (lvalue k (array a n) p) h = h.0
  value-bounded (lvalue k (unsized a) p) h = h.0
  value-bounded (lvalue k (struct n) p) h = h
  value-bounded (lvalue k (function r ps) p) h = h
  value-bounded (value v) h = h

  pick-bounded : (b : Bool) (v w : Value) → Fine v.type → Fine w.type → Fine (if b then v else w).type
  pick-bounded true v w h k = h
  pick-bounded false v w h k = k

  pick-type : (b : Bool) (x y : CType) → Fine x → Fine y → Fine (if b then x else y)
  pick-type true x y h k = h
  pick-type false x y h k = k

  moved-bounded : (v w : Value) → Fine v.type → Fine w.type → Fine (moved known v w).type
  moved-bounded v w h k = pick-bounded (is_pointer v.type) _ _ h k

  sum-bounded : (v w : Value) → Fine v.type → Fine w.type → Fine (sum known v w).type
  sum-bounded v w h k = pick-bounded (is_pointer v.type || is_pointer w.type) _ _ (moved-bounded v w h k) tt

  difference-bounded : (v w : Value) → Fine v.type → Fine (difference known v w).type
  difference-bounded v w h = pick-bounded (is_pointer v.type && is_pointer w.type) _ _ tt (pick-bounded (is_pointer v.type) _ _ h tt)

  comparison-bounded : (op : Comparison) (v w : Value) → Fine (comparison op v w).type
  comparison-bounded op v w = pick-bounded (is_pointer v.type || is_pointer w.type) _ _ tt tt

  operation-bounded : (op : BinaryOp) (v w : Value) → Fine v.type → Fine w.type → Fine (operation known op v w).type
  operation-bounded b.Or v w h k = tt
  operation-bounded b.And v w h k = tt
  operation-bounded b.BitOr v w h k = tt
  operation-bounded b.BitXor v w h k = tt
  operation-bounded b.BitAnd v w h k = tt
  operation-bounded b.Equal v w h k = comparison-bounded _ v w
  operation-bounded b.NotEqual v w h k = comparison-bounded _ v w
  operation-bounded b.Less v w h k = comparison-bounded _ v w
  operation-bounded b.Greater v w h k = comparison-bounded _ v w
  operation-bounded b.LessEqual v w h k = comparison-bounded _ v w
  operation-bounded b.GreaterEqual v w h k = comparison-bounded _ v w
  operation-bounded b.ShiftLeft v w h k = tt
  operation-bounded b.ShiftRight v w h k = tt
  operation-bounded b.Add v w h k = sum-bounded v w h k
  operation-bounded b.Subtract v w h k = difference-bounded v w h
  operation-bounded b.Multiply v w h k = tt
  operation-bounded b.Divide v w h k = tt
  operation-bounded b.Remainder v w h k = tt

  unary-bounded : (op : UnaryOp) (x : Term) → Fine (type_in x) → Fine (type_in (unary_term known op x))
  unary-bounded o.AddressOf (lvalue k a p) h = h
  unary-bounded o.AddressOf (value v) h = h
  unary-bounded o.Dereference x h = target-bounded known (value_of known x).type (value-bounded x h)
  unary-bounded o.Plus x h = tt
  unary-bounded o.Minus x h = tt
  unary-bounded o.BitNot x h = tt
  unary-bounded o.Not x h = tt

  casted-bounded : (a : CType) (v : Value) → Fine a → Fine (casted a v).type
  casted-bounded void v h = h
  casted-bounded (integer i) v h = tt
  casted-bounded (pointer d a) v h = h
  casted-bounded (array a n) v h = h
  casted-bounded (unsized a) v h = h
  casted-bounded (struct n) v h = h
  casted-bounded (function r ps) v h = h

  chosen-bounded : (w x y : Value) → Fine x.type → Fine y.type → Fine (chosen known w x y).type
  chosen-bounded w x y h k =
      pick-bounded (is_pointer x.type || is_pointer y.type) _ _ (pick-type (is_pointer x.type) x.type y.type h k) (pick-bounded (is_integer x.type) _ _ tt h)

  assigned-bounded : (op : AssignOp) (x : Term) (v : Value) → Fine (type_in x) → Fine v.type → Fine (assigned known op x v).type
  assigned-bounded op (lvalue k a p) v h m = h
  assigned-bounded op (value w) v h m = m

  stepped-bounded : (op : StepOp) (old : Bool) (x : Term) → Fine (type_in x) → Fine (stepped known op old x).type
  stepped-bounded op old (lvalue k a p) h = h
  stepped-bounded op old (value v) h = h

  result-bounded : (a : CType) → Fine a → Fine (result_of a)
  result-bounded (function r ps) h = h.0
  result-bounded void h = h
  result-bounded (integer i) h = tt
  result-bounded (pointer d a) h = tt
  result-bounded (array a n) h = tt
  result-bounded (unsized a) h = tt
  result-bounded (struct n) h = tt

module _ (g : Prog) (f : Func) where
  record IsGood (known : Structs) (x : Term) : Type 0 where
    pub sound : IsSoundTerm g f known x
    pub bounded : IsBounded known (type_in x)

  -- what a name means

  named-object : (known : Structs) (structs : AreBoundedStructs known) (k : Bool) (a : CType) (p : Place) → IsBounded known a → is_complete_in known a ≡ true → IsTypedPlace g f p → members_offset p ≡ 0 → IsGood known (lvalue k a p)
  named-object known structs k a p bounded complete typed start =
      let sized = sized-bounded known a structs bounded complete in
      let size = sized.size in
      record {
        sound = record { typed = typed; fits = omega (arith, start, size); object = complete-object g f known a complete; sized = sized };
        bounded = bounded;
      }

  meant : (c : Context) (x : Name) (m : Option Entity) → IsSoundContext g f c → meaning c.scopes x ≡ m → rule_18 m ≡ true → is_object_defined c x m ≡ true → IsGood c.known (called m)
  meant c x None h is e d = absurd (cc)
  meant c x (Some (an_object k a (static_object n))) h is e d =
      let own = each-meaning (IsSoundEntity g f c.known c.unit) c.scopes x (an_object k a (static_object n)) h.entities is in
      let inside = place-within x c.unit.statics d in
      let number = own.2 in
      let statics = h.statics in
      named-object c.known h.structs k a (Static n) own.0 own.1 (omega (arith, inside, number, statics)) refl
  meant c x (Some (an_object k a (local_object n))) h is e d =
      let own = each-meaning (IsSoundEntity g f c.known c.unit) c.scopes x (an_object k a (local_object n)) h.entities is in
      named-object c.known h.structs k a (Local n) own.0 own.1 own.2 refl
  meant c x (Some (an_enumerator z)) h is e d =
      let own = each-meaning (IsSoundEntity g f c.known c.unit) c.scopes x (an_enumerator z) h.entities is in
      record { sound = record { plain = refl; typed = (tt, own); shape = refl }; bounded = tt }
  meant c x (Some (a_function o k a)) h is e d = absurd (cc)
  meant c x (Some (a_typedef k a)) h is e d = absurd (cc)

  -- a function that is called
  record IsCalled (c : Context) (m : Option Entity) : Type 0 where
    pub callee : Callee
    pub constant : Bool
    pub type : CType
    pub is : m ≡ Some (a_function callee constant type)
    pub own : IsSoundEntity g f c.known c.unit [] (a_function callee constant type)

  called-function : (c : Context) (e : t.Expression) → IsSoundContext g f c → is_function_meant (callee_of c.scopes e) ≡ true → IsCalled c (callee_of c.scopes e)
  called-function c (t.identifier at x) h e = by-meaning (meaning c.scopes x) refl e
    where
      by-meaning : (m : Option Entity) → meaning c.scopes x ≡ m → is_function_meant m ≡ true → IsCalled c m
      by-meaning None is e = absurd (cc)
      by-meaning (Some (a_function d k a)) is e =
          record { callee = d; constant = k; type = a; is = refl; own = each-meaning (IsSoundEntity g f c.known c.unit) c.scopes x (a_function d k a) h.entities is }
      by-meaning (Some (an_object k a s)) is e = absurd (cc)
      by-meaning (Some (an_enumerator z)) is e = absurd (cc)
      by-meaning (Some (a_typedef k a)) is e = absurd (cc)
  called-function c (t.integer_constant at n) h e = absurd (cc)
  called-function c (t.character_constant at n) h e = absurd (cc)
  called-function c (t.string_literal at s) h e = absurd (cc)
  called-function c (t.index at a b) h e = absurd (cc)
  called-function c (t.call at d es) h e = absurd (cc)
  called-function c (t.member_of at d m) h e = absurd (cc)
  called-function c (t.arrow_to at d m) h e = absurd (cc)
  called-function c (t.post_step at op d) h e = absurd (cc)
  called-function c (t.pre_step at op d) h e = absurd (cc)
  called-function c (t.unary at op d) h e = absurd (cc)
  called-function c (t.size_of_expression at d) h e = absurd (cc)
  called-function c (t.size_of_type at n) h e = absurd (cc)
  called-function c (t.cast at n d) h e = absurd (cc)
  called-function c (t.binary at op a b) h e = absurd (cc)
  called-function c (t.conditional at d a b) h e = absurd (cc)
  called-function c (t.assign at op a b) h e = absurd (cc)
  called-function c (t.comma at a b) h e = absurd (cc)

  call-good : (c : Context) (m : Option Entity) (xs : List Term) → IsCalled c m → AreSound g f c.known xs → Meets (call_asks m xs) → IsGood c.known (value (call_of c.known m xs))
  call-good c m xs h sound e =
      subst (λ n. Meets (call_asks n xs) → IsGood c.known (value (call_of c.known n xs))) (sym h.is)
      (λ e. record { sound = calls g f c.known h.callee h.constant h.type xs h.own.1 sound e; bounded = result-bounded c.known h.type h.own.0 }) e

  -- members

  member-good : (known : Structs) (structs : AreBoundedStructs known) (k : Bool) (n : ℕ) (p : Place) (x : Name) → IsSoundPlace g f known (struct n) p → has_member x (members_of known n) ≡ true → IsGood known (member_at known k (struct n) p x)
  member-good known structs k n p x h has =
      let fine = has-at (λ (m : Member). IsBounded known m.type × (is_complete_in known m.type ≡ true)) x (members_of known n) (structs.members n) has in
      record {
        sound = place-sound g f known structs.complete n x p h has (sized-bounded known (member_among x (members_of known n)).type structs fine.0 fine.1);
        bounded = fine.0;
      }

  not-so : (b : Bool) → not b ≡ true → b ≡ false
  not-so true e = absurd (cc)
  not-so false e = refl

  dotted-good : (c : Context) (x : Term) (m : Name) → AreBoundedStructs c.known → IsGood c.known x → Meets (dot_asks c.known x m) → IsGood c.known (dotted c.known x m)
  dotted-good c (lvalue k (struct n) p) m structs h e = by-found (find_member m (members_of c.known n)) refl
    where
      asked : rule_21_dot c.known (operand_of (lvalue k (struct n) p)) m ≡ true
      asked = e.0

      by-found : (r : Option Member) → find_member m (members_of c.known n) ≡ r → IsGood c.known (dotted c.known (lvalue k (struct n) p) m)
      by-found None is = absurd (let never_so = rw is at asked in cc)
      by-found (Some a) is = member-good c.known structs k n p m h.sound (find-has m (members_of c.known n) a is).0
  dotted-good c (lvalue k void p) m structs h e = absurd (let never_so = e.0 in cc)
  dotted-good c (lvalue k (integer i) p) m structs h e = absurd (let never_so = e.0 in cc)
  dotted-good c (lvalue k (pointer d a) p) m structs h e = absurd (let never_so = e.0 in cc)
  dotted-good c (lvalue k (array a n) p) m structs h e = absurd (let never_so = e.0 in cc)
  dotted-good c (lvalue k (unsized a) p) m structs h e = absurd (let never_so = e.0 in cc)
  dotted-good c (lvalue k (function r ps) p) m structs h e = absurd (let never_so = e.0 in cc)
  dotted-good c (value v) m structs h e = by-type v.type refl
    where
      asked : rule_21_dot c.known (operand_of (value v)) m ≡ true
      asked = e.0

      by-found : (n : ℕ) → v.type ≡ struct n → rule_21_dot c.known (record { is_lvalue = false; constant = false; type = struct n; is_null = (operand_of (value v)).is_null }) m ≡ true → (r : Option Member) → find_member m (members_of c.known n) ≡ r → IsGood c.known (value (part_of c.known v m))
      by-found n is rule None found = absurd (let never_so = rw found at rule in cc)
      by-found n is rule (Some a) found =
          let has = find-has m (members_of c.known n) a found in
          let number : struct_number v.type ≡ n = ap struct_number is in
          let own : has_member m (members_of c.known (struct_number v.type)) ≡ true = ap (λ i. has_member m (members_of c.known i)) number ∙ has.0 in
          let plain : not (is_array a.type) ≡ true = rw found at rule in
          let same : member_among m (members_of c.known (struct_number v.type)) ≡ a = ap (λ i. member_among m (members_of c.known i)) number ∙ has.1 in
          let no_array : is_array (part_of c.known v m).type ≡ false = ap (λ (y : Member). is_array y.type) same ∙ not-so (is_array a.type) plain in
          let fine = has-at (λ (y : Member). IsBounded c.known y.type × (is_complete_in c.known y.type ≡ true)) m (members_of c.known (struct_number v.type)) (structs.members (struct_number v.type)) own in
          record { sound = parts g f c.known structs v m h.sound (ap is_struct is) own no_array; bounded = fine.0 }

      by-type : (a : CType) → v.type ≡ a → IsGood c.known (value (part_of c.known v m))
      by-type (struct n) is = by-found n is (ap (λ a. rule_21_dot c.known (record { is_lvalue = false; constant = false; type = a; is_null = (operand_of (value v)).is_null }) m) (sym is) ∙ asked) (find_member m (members_of c.known n)) refl
      by-type void is = absurd (let never_so = rw is at asked in cc)
      by-type (integer i) is = absurd (let never_so = rw is at asked in cc)
      by-type (pointer d a) is = absurd (let never_so = rw is at asked in cc)
      by-type (array a n) is = absurd (let never_so = rw is at asked in cc)
      by-type (unsized a) is = absurd (let never_so = rw is at asked in cc)
      by-type (function r ps) is = absurd (let never_so = rw is at asked in cc)

  arrow-good : (c : Context) (v : Value) (m : Name) (x : Operand) → value_type x ≡ v.type → AreBoundedStructs c.known → IsSoundValue g f c.known v → IsBounded c.known v.type → rule_21_arrow c.known x m ≡ true → IsGood c.known (arrowed c.known v m)
  arrow-good c v m x same structs h bounded e = by-type v.type refl
    where
      by-target : (k : Bool) (a : CType) → v.type ≡ pointer k a → (is_struct a && (is_complete_in c.known a && has_member m (members_in c.known a))) ≡ true → IsGood c.known (member_at c.known k a (Target v.expr) m)
      by-target k (struct n) is r =
          let asked = both-true (is_complete_in c.known (struct n)) (has_member m (members_of c.known n)) r in
          let sized = sized-bounded c.known (struct n) structs tt asked.0 in
          let size = sized.size in
          member-good c.known structs k n (Target v.expr) m
          (record { typed = (h.typed, pointer-shape g f c.known v h (ap is_pointer is)); fits = omega (arith, size); object = refl; sized = sized }) asked.1
      by-target k void is r = absurd (cc)
      by-target k (integer i) is r = absurd (cc)
      by-target k (pointer d a) is r = absurd (cc)
      by-target k (array a n) is r = absurd (cc)
      by-target k (unsized a) is r = absurd (cc)
      by-target k (function q ps) is r = absurd (cc)

      by-type : (a : CType) → v.type ≡ a → IsGood c.known (arrowed c.known v m)
      by-type (pointer k a) is =
          let other : value_type x ≡ pointer k a = same ∙ is in
          let asked : (is_struct a && (is_complete_in c.known a && has_member m (members_in c.known a))) ≡ true = rw other at e in
          subst (λ b. IsGood c.known (member_at c.known (target_constant b) (target_of b) (Target v.expr) m)) (sym is) (by-target k a is asked)
      by-type void is = absurd (let other : value_type x ≡ void = same ∙ is in let never_so = rw other at e in cc)
      by-type (integer i) is = absurd (let other : value_type x ≡ integer i = same ∙ is in let never_so = rw other at e in cc)
      by-type (array a n) is = absurd (let other : value_type x ≡ array a n = same ∙ is in let never_so = rw other at e in cc)
      by-type (unsized a) is = absurd (let other : value_type x ≡ unsized a = same ∙ is in let never_so = rw other at e in cc)
      by-type (struct n) is = absurd (let other : value_type x ≡ struct n = same ∙ is in let never_so = rw other at e in cc)
      by-type (function r ps) is = absurd (let other : value_type x ≡ function r ps = same ∙ is in let never_so = rw other at e in cc)

  -- contexts

  pub behind-sound : (e : t.Expression) (c : Context) → IsSoundContext g f c → IsSoundContext g f (behind e c)
  behind-sound e c h = record { structs = h.structs; entities = h.entities; statics = h.statics }

  behind-name-sound : (n : t.TypeName) (c : Context) → IsSoundContext g f c → IsSoundContext g f (behind_name n c)
  behind-name-sound n c h = record { structs = h.structs; entities = h.entities; statics = h.statics }

  pub typedefs-bounded : (c : Context) → IsSoundContext g f c → AreBoundedTypedefs c
  typedefs-bounded c h = each-kept (IsSoundEntity g f c.known c.unit) (IsBoundedTypedef c.known) c.scopes one h.entities
    where
      one : (x : Name) (e : Entity) → IsSoundEntity g f c.known c.unit x e → IsBoundedTypedef c.known x e
      one x (an_object k a s) own = tt
      one x (a_function d k a) own = tt
      one x (an_enumerator z) own = tt
      one x (a_typedef k a) own = own

  pub first-strings : (c : Context) (xs ys : List Name) → HasStrings g c (xs ++ ys) → HasStrings g c xs
  first-strings c xs ys h = let l = length-append xs ys in omega (arith, h, l)

  pub last-strings : (n : ℕ) (xs ys : List Name) → n + length (xs ++ ys) ≤ length g.statics → n + length xs + length ys ≤ length g.statics
  last-strings n xs ys h = let l = length-append xs ys in omega (arith, h, l)

  measured-good : (c : Context) (a : CType) → AreBoundedStructs c.known → IsBounded c.known a → is_complete_in c.known a ≡ true → IsGood c.known (value (measured c.known a))
  measured-good c a structs bounded complete =
      let sized = sized-bounded c.known a structs bounded complete in
      record { sound = record { plain = refl; typed = (tt, size-of-kind (size_in c.known a) sized.size); shape = refl }; bounded = tt }

  mutual
    expression-good : {c : Context} {e : t.Expression} {x : Term} → Typed c e x → IsWritten e → IsSoundContext g f c → HasStrings g c (strings_in e) → IsWithin c (an_expression e) → IsGood c.known x
    expression-good {c = c} (of_identifier {x = x} m) r h s w = meant c x (meaning c.scopes x) h refl m.0 m.1.0
    expression-good (of_number {n = n}) r h s w =
        record { sound = record { plain = refl; typed = (integer-kind (number_type n.number_type), number-of-kind n.number_type n.value r); shape = refl }; bounded = tt }
    expression-good (of_character {n = n}) r h s w = record { sound = record { plain = refl; typed = (tt, character-of-kind n r); shape = refl }; bounded = tt }
    expression-good {c = c} (of_string {s = bytes}) r h s w =
        let limit : length bytes + 1 ≤ 1048576 = w (length bytes + 1) (size_here size_of_string) in
        let complete : is_complete_in c.known (array (integer Char) (length bytes + 1)) ≡ true = ap (λ z. z && true) (lt-ltb 0 (length bytes + 1) (omega arith)) in
        named-object c.known h.structs false (array (integer Char) (length bytes + 1)) (Static c.next_string) (tt, complete, omega (arith, limit)) complete (omega (arith, s)) refl
    expression-good {c = c} (of_index {a = a} {b = d} {x = x} {y = y} p q m) r h s w =
        let gx = expression-good p r.0 h (first-strings c (strings_in a) (strings_in d) s) (λ k z. w k (size_within indexed z)) in
        let gy = expression-good q r.1 (behind-sound a c h) (last-strings c.next_string (strings_in a) (strings_in d) s) (λ k z. w k (size_within subscript z)) in
        let bx = value-bounded c.known x gx.bounded in
        let by = value-bounded c.known y gy.bounded in
        let bounded = sum-bounded c.known (value_of c.known x) (value_of c.known y) bx by in
        record {
          sound = subscripts g f c.known x y gx.sound gy.sound (moves-well c.known (value_of c.known x).type h.structs bx) (moves-well c.known (value_of c.known y).type h.structs by) (λ k. target-sized c.known (sum c.known (value_of c.known x) (value_of c.known y)).type h.structs bounded k) m;
          bounded = target-bounded c.known (sum c.known (value_of c.known x) (value_of c.known y)).type bounded;
        }
    expression-good {c = c} (of_call {f = d} {es = es} {xs = xs} k p m) r h s w =
        call-good c (callee_of c.scopes d) xs (called-function c d h k) (arguments-good p r.1 (behind-sound d c h) (last-strings c.next_string (strings_in d) (strings_among es) s) (λ i z. w i (size_within arguments z))) m
    expression-good {c = c} (of_member {m = n} {x = x} p m) r h s w = dotted-good c x n h.structs (expression-good p r h s (λ k z. w k (size_within whole z))) m
    expression-good {c = c} (of_arrow {m = n} {x = x} p m) r h s w =
        let gx = expression-good p r h s (λ k z. w k (size_within pointer_to_whole z)) in
        let sound = reads g f c.known x gx.sound in
        arrow-good c (value_of c.known x) n (operand_of x) (type-seen c.known x sound.plain) h.structs sound (value-bounded c.known x gx.bounded) m.0
    expression-good {c = c} (of_post_step {op = op} {x = x} p m) r h s w =
        let gx = expression-good p r h s (λ k z. w k (size_within post_stepped z)) in
        record { sound = steps g f c.known op true x gx.sound (moves-well c.known (value_of c.known x).type h.structs (value-bounded c.known x gx.bounded)) m; bounded = stepped-bounded c.known op true x gx.bounded }
    expression-good {c = c} (of_pre_step {op = op} {x = x} p m) r h s w =
        let gx = expression-good p r h s (λ k z. w k (size_within pre_stepped z)) in
        record { sound = steps g f c.known op false x gx.sound (moves-well c.known (value_of c.known x).type h.structs (value-bounded c.known x gx.bounded)) m; bounded = stepped-bounded c.known op false x gx.bounded }
    expression-good {c = c} (of_unary {op = op} {x = x} p m) r h s w =
        let gx = expression-good p r h s (λ k z. w k (size_within operand z)) in
        record { sound = unary g f c.known op x gx.sound (λ k. target-sized c.known (value_of c.known x).type h.structs (value-bounded c.known x gx.bounded) k) m; bounded = unary-bounded c.known op x gx.bounded }
    expression-good {c = c} (of_size {x = x} p m) r h s w =
        let gx = expression-good p r h s (λ k z. w k (size_within measured_expression z)) in
        measured-good c (type_in x) h.structs gx.bounded m.0
    expression-good {c = c} (of_type_size {n = n} {q = q} p m) r h s w =
        measured-good c q.type h.structs (names-bounded c n q p h.structs (typedefs-bounded c h) (λ k z. w k (size_within measured_type z))) m.0
    expression-good {c = c} (of_cast {n = n} {e = e} {q = q} {x = x} k p m) r h s w =
        let gx = expression-good p r.1 (behind-name-sound n c h) (last-strings c.next_string (strings_named n) (strings_in e) s) (λ i z. w i (size_within cast_operand z)) in
        record { sound = casts g f c.known q.type x gx.sound m; bounded = casted-bounded c.known q.type (value_of c.known x) (names-bounded c n q k h.structs (typedefs-bounded c h) (λ i z. w i (size_within cast_type z))) }
    expression-good {c = c} (of_binary {op = op} {a = a} {b = d} {x = x} {y = y} p q m) r h s w =
        let gx = expression-good p r.0 h (first-strings c (strings_in a) (strings_in d) s) (λ k z. w k (size_within left_operand z)) in
        let gy = expression-good q r.1 (behind-sound a c h) (last-strings c.next_string (strings_in a) (strings_in d) s) (λ k z. w k (size_within right_operand z)) in
        let bx = value-bounded c.known x gx.bounded in
        let by = value-bounded c.known y gy.bounded in
        record {
          sound = operations g f c.known op x y (reads g f c.known x gx.sound) (reads g f c.known y gy.sound) (moves-well c.known (value_of c.known x).type h.structs bx) (moves-well c.known (value_of c.known y).type h.structs by) m.0;
          bounded = operation-bounded c.known op (value_of c.known x) (value_of c.known y) bx by;
        }
    expression-good {c = c} (of_conditional {d = d} {a = a} {b = e} {w = v} {x = x} {y = y} p q k m) r h s w =
        let gv = expression-good p r.0 h (first-strings c (strings_in d) (strings_in a ++ strings_in e) s) (λ i z. w i (size_within condition z)) in
        let rest = last-strings c.next_string (strings_in d) (strings_in a ++ strings_in e) s in
        let gx = expression-good q r.1 (behind-sound d c h) (first-strings (behind d c) (strings_in a) (strings_in e) rest) (λ i z. w i (size_within first_arm z)) in
        let gy = expression-good k r.2 (behind-sound a (behind d c) (behind-sound d c h)) (last-strings (behind d c).next_string (strings_in a) (strings_in e) rest) (λ i z. w i (size_within second_arm z)) in
        record {
          sound = choices g f c.known v x y gv.sound gx.sound gy.sound m;
          bounded = chosen-bounded c.known (value_of c.known v) (value_of c.known x) (value_of c.known y) (value-bounded c.known x gx.bounded) (value-bounded c.known y gy.bounded);
        }
    expression-good {c = c} (of_assign {op = op} {a = a} {b = d} {x = x} {y = y} p q m) r h s w =
        let gx = expression-good p r.0 h (first-strings c (strings_in a) (strings_in d) s) (λ k z. w k (size_within left_side z)) in
        let gy = expression-good q r.1 (behind-sound a c h) (last-strings c.next_string (strings_in a) (strings_in d) s) (λ k z. w k (size_within right_side z)) in
        record {
          sound = assigns g f c.known op x y gx.sound gy.sound (moves-well c.known (value_of c.known x).type h.structs (value-bounded c.known x gx.bounded)) m;
          bounded = assigned-bounded c.known op x (value_of c.known y) gx.bounded (value-bounded c.known y gy.bounded);
        }
    expression-good {c = c} (of_comma {a = a} {b = d} {x = x} {y = y} p q) r h s w =
        let gx = expression-good p r.0 h (first-strings c (strings_in a) (strings_in d) s) (λ k z. w k (size_within before_comma z)) in
        let gy = expression-good q r.1 (behind-sound a c h) (last-strings c.next_string (strings_in a) (strings_in d) s) (λ k z. w k (size_within behind_comma z)) in
        record { sound = commas g f c.known x y gx.sound gy.sound; bounded = value-bounded c.known y gy.bounded }

    arguments-good : {c : Context} {es : t.Expressions} {xs : List Term} → AreTyped c es xs → AreWritten es → IsSoundContext g f c → HasStrings g c (strings_among es) → IsWithin c (some_expressions es) → AreSound g f c.known xs
    arguments-good no_argument r h s w = tt
    arguments-good {c = c} (an_argument {e = e} {es = es} p q) r h s w =
        let gx = expression-good p r.0 h (first-strings c (strings_in e) (strings_among es) s) (λ k z. w k (size_within first_argument z)) in
        (gx.sound, arguments-good q r.1 (behind-sound e c h) (last-strings c.next_string (strings_in e) (strings_among es) s) (λ k z. w k (size_within other_arguments z)))

  pub expressions : (c : Context) (e : t.Expression) (x : Term) → Typed c e x → IsWritten e → IsSoundContext g f c → HasStrings g c (strings_in e) → IsWithin c (an_expression e) → IsSoundTerm g f c.known x × IsBounded c.known (type_in x)
  expressions c e x d r h s w = let good = expression-good d r h s w in (good.sound, good.bounded)
