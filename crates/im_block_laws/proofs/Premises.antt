-- What is asked of code can be met: the unit made by hand is ordered and well formed.
use Rattle.std.proofs.Common.{◌≡◌, ℕ, zero, suc, ◌+◌, ◌%◌, ◌<◌, ◌≤◌, List, [], ◌∷◌, Some, refl, sym, ap, ◌∙◌, subst, arith}
use Rattle.std.proofs.lemmas.Int.{ints}
use Rattle.std.specs.Prelude.{slice_get, All, pos, nat_lt, ◌-◌, if◌then◌else◌}
use Rattle.std.specs.declared.alloc.Global.{Global}
use Rattle.std.proofs.lemmas.List.Elements.{All-nil, All-cons}
use Rattle.im_num.specs.declared.kind.Kind.TheVariants.{U8, I32}
use Rattle.im_num.specs.Kinds.{kind_size, IsOfKind}
use Rattle.im_ctype.specs.declared.cell.Cell.{Cell}
use Rattle.im_block.specs.declared.code.Line.{Line}
use Rattle.im_block.specs.declared.code.Block.{Block}
use Rattle.im_block.specs.declared.unit.Constant.{Constant}
use Rattle.im_block.specs.declared.unit.Static.{Static as StaticOf}
use Rattle.im_block.specs.declared.unit.Object.{Object}
use Rattle.im_block.specs.declared.unit.Function.{Function}
use Rattle.im_block.specs.Shape.{Descends, IsOrdered, AllOrdered}
use Rattle.im_block.specs.Wellformed.{HasCells, Suits, IsStatic, LineWithin, LineThere, IsBlock, IsFunction, accesses_of_functions, objects_below, IsWellFormed}
use Rattle.im_block.specs.declared.unit.Constant.TheVariants.{Number as Fixed}
use Rattle.im_block_laws.specs.PointsTo.{LinesAre}
use Rattle.im_block.specs.declared.code.Line.TheVariants.{Write}
use Rattle.im_block.specs.declared.code.Place.TheVariants.{Static, Local}
use Rattle.im_block_laws.specs.Sample.{read_int, pair_cells, int_cells, add_lines, main_lines, pair, sum, add, main, sample}

some_is : {A : Type 0} (a b : A) → Some a ≡ Some b → a ≡ b
some_is a b e = cc

-- a fact for each element, and of all
abbrev Each : {X : Type 0} → (X → Type 0) → List X → Type 0
Each P [] = Unit {0}
Each P (x ∷ xs) = P x × Each P xs

all_each : {X : Type 0} (P : X → Type 0) (xs : List X) → Each P xs → All P xs
all_each P [] h = All-nil P
all_each P (x ∷ xs) h = All-cons P x xs h.0 (all_each P xs h.1)

module _ (memory : Global) where
  -- edges go down
  add_at : (b : ℕ) (y : Block) → slice_get (add memory).blocks.items b ≡ Some y → Descends y.exit b
  add_at zero y e = subst (λ (x : Block). Descends x.exit 0) (some_is _ y e) tt
  add_at (suc zero) y e = subst (λ (x : Block). Descends x.exit 1) (some_is _ y e) tt
  add_at (suc (suc zero)) y e = subst (λ (x : Block). Descends x.exit 2) (some_is _ y e) (omega arith, omega arith)
  add_at (suc (suc (suc zero))) y e = subst (λ (x : Block). Descends x.exit 3) (some_is _ y e) (omega arith)
  add_at (suc (suc (suc (suc zero)))) y e = subst (λ (x : Block). Descends x.exit 4) (some_is _ y e) (omega arith)
  add_at (suc (suc (suc (suc (suc b))))) y e = cc

  main_at : (b : ℕ) (y : Block) → slice_get (main memory).blocks.items b ≡ Some y → Descends y.exit b
  main_at zero y e = subst (λ (x : Block). Descends x.exit 0) (some_is _ y e) tt
  main_at (suc b) y e = cc

  function_at : (i : ℕ) (f : Function) → slice_get (sample memory).functions.items i ≡ Some f → IsOrdered f.blocks.items
  function_at zero f e = subst (λ (g : Function). IsOrdered g.blocks.items) (some_is (add memory) f e) (record { each = add_at })
  function_at (suc zero) f e = subst (λ (g : Function). IsOrdered g.blocks.items) (some_is (main memory) f e) (record { each = main_at })
  function_at (suc (suc i)) f e = cc

  pub ordered : AllOrdered (sample memory)
  ordered = record { each = function_at }

  -- objects have their cells
  pair_object : ℕ → ℕ → ℕ → Object
  pair_object n a b = (pair memory n a b).object

  pair_inside : (i : ℕ) (c : Cell) → slice_get pair_cells i ≡ Some c → c.offset + kind_size c.kind ≤ 8
  pair_inside zero c e = subst (λ (d : Cell). d.offset + kind_size d.kind ≤ 8) (some_is _ c e) (omega arith)
  pair_inside (suc zero) c e = subst (λ (d : Cell). d.offset + kind_size d.kind ≤ 8) (some_is _ c e) (omega arith)
  pair_inside (suc (suc i)) c e = cc

  pair_even : (i : ℕ) (c : Cell) → slice_get pair_cells i ≡ Some c → c.offset % kind_size c.kind ≡ 0
  pair_even zero c e = subst (λ (d : Cell). d.offset % kind_size d.kind ≡ 0) (some_is _ c e) refl
  pair_even (suc zero) c e = subst (λ (d : Cell). d.offset % kind_size d.kind ≡ 0) (some_is _ c e) refl
  pair_even (suc (suc i)) c e = cc

  pair_apart : (i j : ℕ) (c d : Cell) → slice_get pair_cells i ≡ Some c → slice_get pair_cells j ≡ Some d → i < j → c.offset + kind_size c.kind ≤ d.offset
  pair_apart zero zero c d e f lt = absurd (omega arith)
  pair_apart zero (suc zero) c d e f lt =
      subst (λ (x : Cell). x.offset + kind_size x.kind ≤ d.offset) (some_is _ c e) (subst (λ (x : Cell). 4 ≤ x.offset) (some_is _ d f) (omega arith))
  pair_apart i (suc (suc j)) c d e f lt = cc
  pair_apart (suc zero) zero c d e f lt = absurd (omega arith)
  pair_apart (suc zero) (suc zero) c d e f lt = absurd (omega arith)
  pair_apart (suc (suc i)) j c d e f lt = cc

  pair_has : (n a b : ℕ) → HasCells (pair memory n a b).object
  pair_has n a b = record { inside = pair_inside; even = pair_even; apart = pair_apart }

  int_inside : (i : ℕ) (c : Cell) → slice_get int_cells i ≡ Some c → c.offset + kind_size c.kind ≤ 4
  int_inside zero c e = subst (λ (d : Cell). d.offset + kind_size d.kind ≤ 4) (some_is _ c e) (omega arith)
  int_inside (suc i) c e = cc

  int_even : (i : ℕ) (c : Cell) → slice_get int_cells i ≡ Some c → c.offset % kind_size c.kind ≡ 0
  int_even zero c e = subst (λ (d : Cell). d.offset % kind_size d.kind ≡ 0) (some_is _ c e) refl
  int_even (suc i) c e = cc

  int_apart : (i j : ℕ) (c d : Cell) → slice_get int_cells i ≡ Some c → slice_get int_cells j ≡ Some d → i < j → c.offset + kind_size c.kind ≤ d.offset
  int_apart zero zero c d e f lt = absurd (omega arith)
  int_apart i (suc j) c d e f lt = cc
  int_apart (suc i) j c d e f lt = cc

  int_has : (o : Object) → o.cells.items ≡ int_cells → o.size ≡ 4 → HasCells o
  int_has o cells size = record {
    inside = λ i c e. subst (λ n. c.offset + kind_size c.kind ≤ n) (sym size) (int_inside i c (ap (λ l. slice_get l i) (sym cells) ∙ e));
    even = λ i c e. int_even i c (ap (λ l. slice_get l i) (sym cells) ∙ e);
    apart = λ i j c d e f lt. int_apart i j c d (ap (λ l. slice_get l i) (sym cells) ∙ e) (ap (λ l. slice_get l j) (sym cells) ∙ f) lt;
  }

  -- statics have values of their kinds
  abbrev statics : List StaticOf
  statics = (sample memory).statics.items

  pair_value : (a b : ℕ) → IsOfKind I32 (pos a) → IsOfKind U8 (pos b) → (i : ℕ) (c : Cell) (v : Constant) → slice_get pair_cells i ≡ Some c → slice_get (Fixed (pos a) ∷ Fixed (pos b) ∷ []) i ≡ Some v → Suits statics c.kind v
  pair_value a b p q zero c v e f = subst (λ (x : Cell). Suits statics x.kind v) (some_is _ c e) (subst (λ x. Suits statics I32 x) (some_is _ v f) ((λ bad. cc), p))
  pair_value a b p q (suc zero) c v e f = subst (λ (x : Cell). Suits statics x.kind v) (some_is _ c e) (subst (λ x. Suits statics U8 x) (some_is _ v f) ((λ bad. cc), q))
  pair_value a b p q (suc (suc i)) c v e f = cc

  pair_static : (n a b : ℕ) → IsOfKind I32 (pos a) → IsOfKind U8 (pos b) → IsStatic statics (pair memory n a b)
  pair_static n a b p q = record { cells = pair_has n a b; count = refl; values = pair_value a b p q }

  sum_value : (i : ℕ) (c : Cell) (v : Constant) → slice_get int_cells i ≡ Some c → slice_get (Fixed (pos 0) ∷ []) i ≡ Some v → Suits statics c.kind v
  sum_value zero c v e f = subst (λ (x : Cell). Suits statics x.kind v) (some_is _ c e) (subst (λ x. Suits statics I32 x) (some_is _ v f) ((λ bad. cc), record { low = omega (arith, ints); high = omega (arith, ints) }))
  sum_value (suc i) c v e f = cc

  all_statics : All (IsStatic statics) statics
  all_statics = all_each (IsStatic statics) statics (
    pair_static 112 5 7 (record { low = omega (arith, ints); high = omega (arith, ints) }) (record { low = omega (arith, ints); high = omega (arith, ints) }),
    (
      pair_static 113 0 0 (record { low = omega (arith, ints); high = omega (arith, ints) }) (record { low = omega (arith, ints); high = omega (arith, ints) }),
      (record { cells = int_has (sum memory).object refl refl; count = refl; values = sum_value }, tt),
    ),
  )

  -- lines are within their functions
  all_lines : (P : Line → Type 0) (lines : List Line) → LinesAre P lines → All P lines
  all_lines P [] h = All-nil P
  all_lines P (line ∷ lines) h = All-cons P line lines h.0 (all_lines P lines h.1)

  abbrev functions : List Function
  functions = (sample memory).functions.items

  add_within : LinesAre (LineWithin 3) add_lines
  add_within = ((omega arith, tt), ((omega arith, tt), ((omega arith, omega arith, omega arith), ((tt, omega arith), ((omega arith, tt), (omega arith, ((omega arith, omega arith, omega arith), ((tt, omega arith), tt))))))))

  add_there : LinesAre (LineThere functions) add_lines
  add_there = (tt, (tt, (tt, (tt, (tt, (tt, (tt, (tt, tt))))))))

  main_within : LinesAre (LineWithin 2) main_lines
  main_within = ((omega arith, tt), ((omega arith, tt), ((tt, omega arith), ((tt, omega arith), (omega arith, ((omega arith, omega arith), ((omega arith, tt), ((omega arith, omega arith, omega arith), ((omega arith, omega arith), ((omega arith, tt), tt))))))))))

  main_there : LinesAre (LineThere functions) main_lines
  main_there = (tt, (tt, (tt, (tt, (tt, (refl, (tt, (tt, (tt, (tt, tt))))))))))

  one_line : (P : Line → Type 0) (line : Line) → P line → All P (line ∷ [])
  one_line P line h = all_lines P (line ∷ []) (h, tt)

  add_function : IsFunction functions (add memory)
  add_function = record {
    parameters = omega arith;
    received = omega arith;
    entry = omega arith;
    objects = All-cons HasCells _ [] (int_has _ refl refl) (All-nil HasCells);
    blocks = all_each (IsBlock functions (add memory)) (add memory).blocks.items (
      record { lines_within = all_each (LineWithin 3) (read_int 1 (Static 2 0) 6 ∷ []) ((omega arith, tt), tt); exit_within = omega arith; lines_there = all_each (LineThere functions) (read_int 1 (Static 2 0) 6 ∷ []) (tt, tt); exit_there = tt },
      (
        record { lines_within = All-nil (LineWithin 3); exit_within = tt; lines_there = All-nil (LineThere functions); exit_there = omega arith },
        (
          record { lines_within = all_each (LineWithin 3) (read_int 1 (Local 3 0) 7 ∷ []) ((omega arith, tt), tt); exit_within = omega arith; lines_there = all_each (LineThere functions) (read_int 1 (Local 3 0) 7 ∷ []) (tt, tt); exit_there = (omega arith, omega arith) },
          (
            record { lines_within = all_each (LineWithin 3) (Write (Local 3 0) I32 0 8 ∷ []) ((tt, omega arith), tt); exit_within = tt; lines_there = all_each (LineThere functions) (Write (Local 3 0) I32 0 8 ∷ []) (tt, tt); exit_there = omega arith },
            (record { lines_within = all_lines (LineWithin 3) add_lines add_within; exit_within = tt; lines_there = all_lines (LineThere functions) add_lines add_there; exit_there = omega arith }, tt),
          ),
        ),
      ),
    );
  }

  main_function : IsFunction functions (main memory)
  main_function = record {
    parameters = omega arith;
    received = omega arith;
    entry = omega arith;
    objects = All-nil HasCells;
    blocks =
        All-cons (IsBlock functions (main memory)) _ [] (record { lines_within = all_lines (LineWithin 2) main_lines main_within; exit_within = omega arith; lines_there = all_lines (LineThere functions) main_lines main_there; exit_there = tt })
        (All-nil (IsBlock functions (main memory)));
  }

  -- each access has a number of its own
  place_of_access : ℕ → ℕ
  place_of_access a = if nat_lt a 6 then a + 2 else (if nat_lt a 9 then a - 6 else a - 1)

  access_at : (i a : ℕ) → slice_get (accesses_of_functions functions) i ≡ Some a → place_of_access a ≡ i
  unfolding place_of_access
  access_at zero a e = subst (λ n. place_of_access n ≡ 0) (some_is 6 a e) refl
  access_at (suc zero) a e = subst (λ n. place_of_access n ≡ 1) (some_is 7 a e) refl
  access_at (suc (suc zero)) a e = subst (λ n. place_of_access n ≡ 2) (some_is 8 a e) refl
  access_at (suc (suc (suc zero))) a e = subst (λ n. place_of_access n ≡ 3) (some_is 1 a e) refl
  access_at (suc (suc (suc (suc zero)))) a e = subst (λ n. place_of_access n ≡ 4) (some_is 2 a e) refl
  access_at (suc (suc (suc (suc (suc zero))))) a e = subst (λ n. place_of_access n ≡ 5) (some_is 3 a e) refl
  access_at (suc (suc (suc (suc (suc (suc zero)))))) a e = subst (λ n. place_of_access n ≡ 6) (some_is 4 a e) refl
  access_at (suc (suc (suc (suc (suc (suc (suc zero))))))) a e = subst (λ n. place_of_access n ≡ 7) (some_is 5 a e) refl
  access_at (suc (suc (suc (suc (suc (suc (suc (suc zero)))))))) a e = subst (λ n. place_of_access n ≡ 8) (some_is 9 a e) refl
  access_at (suc (suc (suc (suc (suc (suc (suc (suc (suc zero))))))))) a e = subst (λ n. place_of_access n ≡ 9) (some_is 10 a e) refl
  access_at (suc (suc (suc (suc (suc (suc (suc (suc (suc (suc zero)))))))))) a e = subst (λ n. place_of_access n ≡ 10) (some_is 11 a e) refl
  access_at (suc (suc (suc (suc (suc (suc (suc (suc (suc (suc (suc zero))))))))))) a e = subst (λ n. place_of_access n ≡ 11) (some_is 12 a e) refl
  access_at (suc (suc (suc (suc (suc (suc (suc (suc (suc (suc (suc (suc zero)))))))))))) a e = subst (λ n. place_of_access n ≡ 12) (some_is 13 a e) refl
  access_at (suc (suc (suc (suc (suc (suc (suc (suc (suc (suc (suc (suc (suc zero))))))))))))) a e = subst (λ n. place_of_access n ≡ 13) (some_is 14 a e) refl
  access_at (suc (suc (suc (suc (suc (suc (suc (suc (suc (suc (suc (suc (suc (suc i)))))))))))))) a e = cc

  numbered : (i : ℕ) (f : Function) → slice_get functions i ≡ Some f → f.first_object ≡ objects_below (sample memory) i
  numbered zero f e = subst (λ (g : Function). g.first_object ≡ objects_below (sample memory) 0) (some_is (add memory) f e) refl
  numbered (suc zero) f e = subst (λ (g : Function). g.first_object ≡ objects_below (sample memory) 1) (some_is (main memory) f e) refl
  numbered (suc (suc i)) f e = cc

  pub well_formed : IsWellFormed (sample memory)
  well_formed = record {
    statics = all_statics;
    functions = all_each (IsFunction functions) functions (add_function, (main_function, tt));
    numbered = numbered;
    main = refl;
    accesses = record { each = λ i j a e f. sym (access_at i a e) ∙ access_at j a f };
  }
