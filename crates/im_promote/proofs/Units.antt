-- A unit whose functions are promoted is promoted.
use Rattle.std.proofs.Common.{◌≡◌, inl, inr, ℕ, zero, suc, ◌+◌, ◌<◌, ◌≤◌, Bool, true, false, List, [], ◌∷◌, Option, Some, None, refl, ap, ◌∙◌, subst, arith, length, take}
use Rattle.std.specs.Prelude.{slice_get, All, nat_lt, if◌then◌else◌}
use Rattle.std.specs.List.{AllZip}
use Rattle.std.proofs.lemmas.Bool.Decides.{nat_tests}
use Rattle.std.proofs.lemmas.Bool.{cases_lt}
use Rattle.std.proofs.lemmas.List.Elements.{All-nil, All-cons, All-head, All-tail}
use Rattle.std.proofs.lemmas.Option.{slice_get_within}
use Rattle.im_ctype.specs.declared.cell.Cell.{Cell}
use Rattle.im_block.specs.declared.unit.Constant.{Constant}
use Rattle.im_block.specs.declared.unit.Constant.TheVariants.{Number, Null, Inside}
use Rattle.im_block.specs.declared.unit.Static.{Static as StaticOf}
use Rattle.im_block.specs.declared.unit.Function.{Function}
use Rattle.im_block.specs.declared.unit.Unit.{Unit as Code}
use Rattle.im_block.specs.Shape.{sum_of}
use Rattle.im_block.specs.Wellformed.{HasBytes, Suits, IsStatic, IsFunction, IsWellFormed}
use Rattle.im_alloc_placed.specs.Placeable.{HasRoom, IsPlaceableFunction, IsPlaceable}
use Rattle.im_block.proofs.Unitwise.{zip_each}
use Rattle.im_promote.specs.Promote.{Owns, PromotesFunctions, ConstantFits, ConstantsFit, StaticsFit}
use Rattle.im_promote.specs.Written.{WritesObjectsFirst}
use Rattle.im_promote.specs.Promoted.{IsPromoted}
use Rattle.im_promote.specs.Homes.{homes_from, IsReady, IsPromotedFunction}
use Rattle.im_promote.proofs.Numbering.{home_below}
use Rattle.im_promote.proofs.Rehoming.{function_again, first_again}

-- objects are numbered function by function

abbrev NumberedFrom : ℕ → List Function → Type 0
NumberedFrom start [] = Unit {0}
NumberedFrom start (f ∷ fs) = (f.first_object ≡ start) × NumberedFrom (start + length f.objects.items) fs

numbered_from : (fs : List Function) (start : ℕ) → ((i : ℕ) (f : Function) → slice_get fs i ≡ Some f → f.first_object ≡ start + sum_of (λ (g : Function). length g.objects.items) (take i fs)) → NumberedFrom start fs
numbered_from [] start h = tt
numbered_from (f ∷ fs) start h = (h 0 f refl ∙ omega arith, numbered_from fs (start + length f.objects.items) (λ i g at. h (suc i) g at ∙ omega arith))

-- each function is ready

all_ready : (functions : List Function) (statics start : ℕ) (fs : List Function) → statics ≤ start → NumberedFrom start fs → All (IsFunction functions) fs → All (IsPlaceableFunction statics) fs → All IsReady fs
all_ready functions statics start [] le n w k = All-nil IsReady
all_ready functions statics start (f ∷ fs) le n w k =
    let is = n.0 in
    All-cons IsReady f fs
    (record {
      statics = statics;
      functions = functions;
      first = omega arith;
      formed = All-head (IsFunction functions) f fs w;
      placeable = All-head (IsPlaceableFunction statics) f fs k;
    })
    (all_ready functions statics (start + length f.objects.items) fs (omega arith) n.1 (All-tail (IsFunction functions) f fs w) (All-tail (IsPlaceableFunction statics) f fs k))

numbered : (u : Code) → IsWellFormed u → NumberedFrom (length u.statics.items) u.functions.items
numbered u w = numbered_from u.functions.items (length u.statics.items) w.numbered

pub unit_ready : (u : Code) → IsWellFormed u → IsPlaceable u → All IsReady u.functions.items
unit_ready u w k = all_ready u.functions.items (length u.statics.items) (length u.statics.items) u.functions.items (omega arith) (numbered u w) w.functions k.functions

-- the homes of all objects

abbrev all_homes : (fs gs : List Function) → AllZip IsPromotedFunction fs gs → ℕ → Option ℕ
all_homes [] [] p n = None
all_homes [] (g ∷ gs) p n = None
all_homes (f ∷ fs) [] p n = None
all_homes (f ∷ fs) (g ∷ gs) p n = if nat_lt n (f.first_object + length f.objects.items) then homes_from f.first_object p.0.own n else all_homes fs gs p.1 n

home_here : (f : Function) (fs : List Function) (g : Function) (gs : List Function) (p : AllZip IsPromotedFunction (f ∷ fs) (g ∷ gs)) (n : ℕ) → n < f.first_object + length f.objects.items → all_homes (f ∷ fs) (g ∷ gs) p n ≡ homes_from f.first_object p.0.own n
home_here f fs g gs p n lt = ap (λ (t : Bool). if t then homes_from f.first_object p.0.own n else all_homes fs gs p.1 n) yes
  where
    yes : nat_lt n (f.first_object + length f.objects.items) ≡ true
    yes = grind (arith, nat_tests)

home_behind : (f : Function) (fs : List Function) (g : Function) (gs : List Function) (p : AllZip IsPromotedFunction (f ∷ fs) (g ∷ gs)) (n : ℕ) → f.first_object + length f.objects.items ≤ n → all_homes (f ∷ fs) (g ∷ gs) p n ≡ all_homes fs gs p.1 n
home_behind f fs g gs p n le = ap (λ (t : Bool). if t then homes_from f.first_object p.0.own n else all_homes fs gs p.1 n) no
  where
    no : nat_lt n (f.first_object + length f.objects.items) ≡ false
    no = grind (arith, nat_tests)

none_below : (fs gs : List Function) (p : AllZip IsPromotedFunction fs gs) (start n : ℕ) → NumberedFrom start fs → n < start → all_homes fs gs p n ≡ None
none_below [] [] p start n k lt = refl
none_below [] (g ∷ gs) p start n k lt = refl
none_below (f ∷ fs) [] p start n k lt = refl
none_below (f ∷ fs) (g ∷ gs) p start n k lt =
    let is = k.0 in
    home_here f fs g gs p n (omega arith) ∙ home_below f.first_object p.0.own n (omega arith)

module _ (homes : ℕ → Option ℕ) (statics : ℕ) (none : (n : ℕ) → n < statics → homes n ≡ None) where
  -- they say the same of all objects from a number on
  abbrev Says : (fs gs : List Function) → AllZip IsPromotedFunction fs gs → ℕ → Type 0
  Says fs gs p start = (n : ℕ) → start ≤ n → homes n ≡ all_homes fs gs p n

  of_own : (f : Function) (fs : List Function) (g : Function) (gs : List Function) (p : AllZip IsPromotedFunction (f ∷ fs) (g ∷ gs)) (start : ℕ) → NumberedFrom start (f ∷ fs) → Says (f ∷ fs) (g ∷ gs) p start → (n : ℕ) → Owns f n → homes n ≡ homes_from f.first_object p.0.own n
  of_own f fs g gs p start k s n o = let is = k.0 in let low = o.0 in s n (omega arith) ∙ home_here f fs g gs p n o.1

  of_rest : (f : Function) (fs : List Function) (g : Function) (gs : List Function) (p : AllZip IsPromotedFunction (f ∷ fs) (g ∷ gs)) (start : ℕ) → NumberedFrom start (f ∷ fs) → Says (f ∷ fs) (g ∷ gs) p start → Says fs gs p.1 (start + length f.objects.items)
  of_rest f fs g gs p start k s n le = let is = k.0 in s n (omega arith) ∙ home_behind f fs g gs p n (omega arith)

  functions_promoted : (fs gs : List Function) (p : AllZip IsPromotedFunction fs gs) (start : ℕ) → NumberedFrom start fs → Says fs gs p start → All (IsPlaceableFunction statics) fs → PromotesFunctions homes fs gs
  functions_promoted [] [] p start k s a = tt
  functions_promoted [] (g ∷ gs) p start k s a = absurd p
  functions_promoted (f ∷ fs) [] p start k s a = absurd p
  functions_promoted (f ∷ fs) (g ∷ gs) p start k s a = (
    function_again (homes_from f.first_object p.0.own) homes statics f (of_own f fs g gs p start k s) none g (All-head (IsPlaceableFunction statics) f fs a).lines p.0.promotes,
    functions_promoted fs gs p.1 (start + length f.objects.items) k.1 (of_rest f fs g gs p start k s) (All-tail (IsPlaceableFunction statics) f fs a),
  )

  functions_first : (fs gs : List Function) (p : AllZip IsPromotedFunction fs gs) (start : ℕ) → NumberedFrom start fs → Says fs gs p start → (i : ℕ) (f : Function) → slice_get fs i ≡ Some f → WritesObjectsFirst homes f
  functions_first [] gs p start k s i f at = cc
  functions_first (x ∷ fs) [] p start k s i f at = absurd p
  functions_first (x ∷ fs) (g ∷ gs) p start k s zero f at =
      let same : x ≡ f = cc in
      subst (WritesObjectsFirst homes) same (first_again (homes_from x.first_object p.0.own) homes statics x (of_own x fs g gs p start k s) none p.0.first)
  functions_first (x ∷ fs) (g ∷ gs) p start k s (suc i) f at = functions_first fs gs p.1 (start + length x.objects.items) k.1 (of_rest x fs g gs p start k s) i f at

-- statics point to statics

has_bytes : (statics : List StaticOf) (object offset : ℕ) → HasBytes (slice_get statics object) offset → object < length statics
has_bytes statics object offset h = by (slice_get statics object) refl h
  where
    by : (o : Option StaticOf) → slice_get statics object ≡ o → HasBytes o offset → object < length statics
    by None e h = absurd h
    by (Some s) e h = slice_get_within statics object s e

module _ (homes : ℕ → Option ℕ) (statics : List StaticOf) (none : (n : ℕ) → n < length statics → homes n ≡ None) where
  constant_fits : (c : Cell) (v : Constant) → Suits statics c.kind v → ConstantFits homes v
  constant_fits c (Number z) h = tt
  constant_fits c Null h = tt
  constant_fits c (Inside object offset) h = none object (has_bytes statics object offset h.1)

  constants_fit : (cells : List Cell) (values : List Constant) → length values ≡ length cells → ((i : ℕ) (c : Cell) (v : Constant) → slice_get cells i ≡ Some c → slice_get values i ≡ Some v → Suits statics c.kind v) → ConstantsFit homes values
  constants_fit cells [] e h = tt
  constants_fit [] (v ∷ values) e h = absurd (omega arith)
  constants_fit (c ∷ cells) (v ∷ values) e h = (constant_fits c v (h 0 c v refl refl), constants_fit cells values (omega arith) (λ i d w p q. h (suc i) d w p q))

  statics_fit : (xs : List StaticOf) → All (IsStatic statics) xs → StaticsFit homes xs
  statics_fit [] h = tt
  statics_fit (s ∷ xs) h =
      let one = All-head (IsStatic statics) s xs h in
      (constants_fit s.object.cells.items s.values.items one.count one.values, statics_fit xs (All-tail (IsStatic statics) s xs h))

pub unit_promoted : (u v : Code) → IsWellFormed u → IsPlaceable u → v ≡ record u { functions = v.functions } → AllZip IsPromotedFunction u.functions.items v.functions.items → IsPromoted u v
unit_promoted u v w k rest p =
    let statics : ℕ = length u.statics.items in
    let homes : ℕ → Option ℕ = all_homes u.functions.items v.functions.items p in
    let from = numbered u w in
    let none : (n : ℕ) → n < statics → homes n ≡ None = λ n lt. none_below u.functions.items v.functions.items p statics n from lt in
    record {
      promotes = record {
        homes = homes;
        functions = functions_promoted homes statics none u.functions.items v.functions.items p statics from (λ n le. refl) k.functions;
        rest = rest;
        statics = λ n r e. elim (cases_lt n statics) [
          | inl lt ↦ (let no = none n lt in absurd cc)
          | inr le ↦ le
        ];
        values = statics_fit homes u.statics.items none u.statics.items w.statics;
      };
      first = functions_first homes statics none u.functions.items v.functions.items p statics from (λ n le. refl);
      room = zip_each IsPromotedFunction (IsFunction u.functions.items) HasRoom (λ f g one k. one.room) u.functions.items v.functions.items p w.functions;
    }
