-- Subscripts, arguments and calls.
use Rattle.std.proofs.Common.{◌≡◌, ◌&&◌, ◌||◌, ⊎_elim, List, [], ◌∷◌, length, Bool, true, false, refl, sym, ap, subst, arith}
use Rattle.std.specs.Prelude.{Some, slice_get, if◌then◌else◌}
use Rattle.std.proofs.lemmas.Bool.{eqb-true}
use Rattle.im_typed.specs.im_serve.declared.service.Service.TheVariants.{Getchar, Putchar}
use Rattle.im_store.specs.declared.operators.BinaryOp.TheVariants as s
use Rattle.im_store.proofs.Same.{both-true}
use Rattle.im_ctype.specs.declared.integer.Integer.TheVariants.{Int}
use Rattle.im_ctype.specs.Types.{CType, void, integer, pointer, array, unsized, struct, function, CTypes, no_types, more_types, Structs, is_integer, is_pointer, is_array}
use Rattle.im_typed.specs.Program.{Scalar, LocalObject, Func, Prog, Move, MoveBy}
use Rattle.im_typed.specs.Values.{cells_of}
use Rattle.im_typed.specs.Typing.{shape_of, IsTyped, TakesArgument, AreArguments, parameters}
use Rattle.im_rules.specs.TypeTests.{points_to_complete, target_of, result_of, count_types}
use Rattle.im_rules.specs.Scopes.{a_function, Callee, a_body, no_body, a_service}
use Rattle.im_rules.specs.Terms.{Value, Term, kind_in, operand_of, value_of}
use Rattle.im_rules.specs.Rules.{value_type, rule_17}
use Rattle.im_rules.specs.Demands.{Meets, index_asks, call_asks, all_fit}
use Rattle.im_rules.specs.Conversions.{as_type, element_size, arithmetic, pointed, sum, converted, call_of}
use Rattle.im_rules_sound.specs.Sound.{gives, MovesWell, IsSoundValue, IsSized, IsSoundTerm, AreSound, TakeTypes, IsSoundCallee}
use Rattle.im_rules_sound.proofs.Operations.{or-true, complete-pointer, pointer-shape, as-integer-sound, as-pointer-sound, sum-sound, seen}
use Rattle.im_rules_sound.proofs.Terms.{reads, integer-seen, target-object}

true-right : (p q : Bool) → q ≡ true → (p || q) ≡ true
true-right true q e = refl
true-right false q e = e

module _ (g : Prog) (f : Func) (known : Structs) where
  -- an argument is converted to its parameter's type
  argument : (t : CType) (x : Term) (o : LocalObject) → IsSoundTerm g f known x → rule_17 t (operand_of x) ≡ true → o.cells ≡ cells_of (Scalar (kind_in t)) → (is_integer t || is_pointer t) ≡ true
      → IsTyped g f (as_type t (value_of known x)) × TakesArgument (shape_of g (as_type t (value_of known x))) o.cells
  argument (integer i) x o h e cells scalar =
      let int : is_integer (value_type (operand_of x)) ≡ true = ⊎_elim (λ z. z) (λ z. absurd (cc)) (or-true (is_integer (value_type (operand_of x))) false e) in
      let part = as-integer-sound g f known i (value_of known x) (reads g f known x h) (integer-seen g f known x h int) in
      (part.typed, subst (λ s. TakesArgument s o.cells) (sym part.shape) cells)
  argument (pointer d t) x o h e cells scalar =
      let part = as-pointer-sound g f known (value_of known x) (reads g f known x h) in
      (part.typed, subst (λ s. TakesArgument s o.cells) (sym part.shape) cells)
  argument void x o h e cells scalar = absurd (cc)
  argument (array t n) x o h e cells scalar = absurd (cc)
  argument (unsized t) x o h e cells scalar = absurd (cc)
  argument (struct n) x o h e cells scalar = absurd (cc)
  argument (function r ps) x o h e cells scalar = absurd (cc)

  pub arguments : (ps : CTypes) (xs : List Term) (os : List LocalObject) → AreSound g f known xs → TakeTypes ps os → length xs ≡ count_types ps → all_fit ps xs ≡ true → AreArguments g f os (converted known ps xs)
  arguments no_types xs [] h takes many e = tt
  arguments no_types xs (o ∷ os) h takes many e = absurd takes
  arguments (more_types p ps) xs [] h takes many e = absurd takes
  arguments (more_types p ps) [] (o ∷ os) h takes many e = absurd (omega arith)
  arguments (more_types p ps) (x ∷ xs) (o ∷ os) h takes many e =
      let both = both-true (rule_17 p (operand_of x)) (all_fit ps xs) e in
      let one = argument p x o h.0 both.0 takes.0 takes.1 in
      (one.0, one.1, arguments ps xs os h.1 takes.2 (omega arith) both.1)

  -- what the sum of these two points to, by which of them is a pointer
  abbrev Moved : Bool → Bool → Value → Value → Bool
  Moved p q v w =
      points_to_complete known (if p || q then (if p then record { type = v.type; expr = Move (element_size known v.type) false v.expr w.expr } else record { type = w.type; expr = MoveBy (element_size known w.type) v.expr w.expr }) else arithmetic s.Add v w).type

  no-pointer : (t : CType) → is_integer t ≡ true → is_pointer t ≡ false
  no-pointer (integer i) h = refl
  no-pointer void h = refl
  no-pointer (pointer d t) h = absurd (cc)
  no-pointer (array t n) h = refl
  no-pointer (unsized t) h = refl
  no-pointer (struct n) h = refl
  no-pointer (function r ps) h = refl

  -- a subscript
  pub subscripts : (x y : Term) → IsSoundTerm g f known x → IsSoundTerm g f known y → MovesWell known (value_of known x).type → MovesWell known (value_of known y).type
      → (points_to_complete known (sum known (value_of known x) (value_of known y)).type ≡ true → IsSized known (target_of (sum known (value_of known x) (value_of known y)).type)) → Meets (index_asks known x y) → IsSoundTerm g f known (pointed (sum known (value_of known x) (value_of known y)))
  subscripts x y hx hy mx my small e =
      let vx = value_of known x in
      let vy = value_of known y in
      let index : ((points_to_complete known vx.type && is_integer vy.type) || (is_integer vx.type && points_to_complete known vy.type)) ≡ true =
      seen g f known (λ t u. (points_to_complete known t && is_integer u) || (is_integer t && points_to_complete known u)) x y (reads g f known x hx) (reads g f known y hy) e.0 in
      let sound = sum-sound g f known vx vy (reads g f known x hx) (reads g f known y hy) mx my (true-right (is_integer vx.type && is_integer vy.type) _ index) in
      let points = sum-points vx vy index in
      let sized = small points in
      let size = sized.size in
      record {
        typed = (sound.typed, pointer-shape g f known (sum known vx vy) sound (complete-pointer known (sum known vx vy).type points));
        fits = omega arith;
        object = target-object g f known (sum known vx vy).type points;
        sized = sized;
      }
    where
      sum-points : (v w : Value) → ((points_to_complete known v.type && is_integer w.type) || (is_integer v.type && points_to_complete known w.type)) ≡ true → points_to_complete known (sum known v w).type ≡ true
      sum-points v w h =
          ⊎_elim
          (λ k. let c = (both-true (points_to_complete known v.type) (is_integer w.type) k).0 in
          subst (λ b. Moved b (is_pointer w.type) v w ≡ true) (sym (complete-pointer known v.type c)) c)
          (λ k. let both = both-true (is_integer v.type) (points_to_complete known w.type) k in
          subst (λ b. Moved b (is_pointer w.type) v w ≡ true) (sym (no-pointer v.type both.0)) (subst (λ b. Moved false b v w ≡ true) (sym (complete-pointer known w.type both.1)) both.1))
          (or-true (points_to_complete known v.type && is_integer w.type) (is_integer v.type && points_to_complete known w.type) h)

  -- calls
  pub calls : (c : Callee) (k : Bool) (t : CType) (xs : List Term) → IsSoundCallee g known c t → AreSound g f known xs → Meets (call_asks (Some (a_function c k t)) xs) → IsSoundValue g f known (call_of known (Some (a_function c k t)) xs)
  calls (a_body n) k (function r ps) xs sound h e = record {
    plain = sound.3;
    typed = (sound.0, arguments ps xs (parameters (slice_get g.funcs n)) h sound.1 (eqb-true (length xs) (count_types ps) e.0) e.1.1.0);
    shape = sound.2;
  }
  calls (a_service Getchar) k (function r ps) xs sound h e =
      let own : IsSoundValue g f known (call_of known (Some (a_function (a_service Getchar) k (function (integer Int) no_types))) xs) = record { plain = refl; typed = tt; shape = refl } in
      subst (λ t. IsSoundValue g f known (call_of known (Some (a_function (a_service Getchar) k t)) xs)) (sym sound) own
  calls (a_service Putchar) k (function r ps) xs sound h e =
      subst (λ t. Meets (call_asks (Some (a_function (a_service Putchar) k t)) xs) → IsSoundValue g f known (call_of known (Some (a_function (a_service Putchar) k t)) xs)) (sym sound) (puts xs h) e
    where
      puts : (ys : List Term) → AreSound g f known ys → Meets (call_asks (Some (a_function (a_service Putchar) k (function (integer Int) (more_types (integer Int) no_types)))) ys)
          → IsSoundValue g f known (call_of known (Some (a_function (a_service Putchar) k (function (integer Int) (more_types (integer Int) no_types)))) ys)
      puts [] own d = absurd (let none = d.0 in cc)
      puts (y ∷ ys) own d =
          let fit = (both-true (rule_17 (integer Int) (operand_of y)) (all_fit no_types ys) d.1.1.0).0 in
          let int : is_integer (value_type (operand_of y)) ≡ true = ⊎_elim (λ z. z) (λ z. absurd (cc)) (or-true (is_integer (value_type (operand_of y))) false fit) in
          let part = as-integer-sound g f known Int (value_of known y) (reads g f known y own.0) (integer-seen g f known y own.0 int) in
          record { plain = refl; typed = (part.typed, part.shape); shape = refl }
  calls no_body k (function r ps) xs sound h e = absurd (let none = e.1.0 in cc)
  calls c k void xs sound h e = absurd (let none = e.0 in cc)
  calls c k (integer i) xs sound h e = absurd (let none = e.0 in cc)
  calls c k (pointer d t) xs sound h e = absurd (let none = e.0 in cc)
  calls c k (array t n) xs sound h e = absurd (let none = e.0 in cc)
  calls c k (unsized t) xs sound h e = absurd (let none = e.0 in cc)
  calls c k (struct n) xs sound h e = absurd (let none = e.0 in cc)
