-- A table that is made: empty sets one after another, and rows of them function by function.
use Rattle.std.proofs.Common.{◌≡◌, ℕ, zero, suc, ◌+◌, ◌<◌, List, [], ◌∷◌, ◌++◌, length, take, Option, Some, refl, sym, ap, ◌∙◌, subst, ⊎_elim, arith}
use Rattle.std.specs.Prelude.{slice_get}
use Rattle.std.proofs.lemmas.List.{length_push}
use Rattle.std.proofs.lemmas.Option.{slice_get_within}
use Rattle.im_block.specs.declared.unit.Function.{Function}
use Rattle.im_block.specs.declared.unit.Unit.{Unit as Code}
use Rattle.im_block.specs.Shape.{sum_of}
use Rattle.im_block.specs.Wellformed.{objects_below}
use Rattle.im_alias.specs.declared.set.ObjectSet.{ObjectSet}
use Rattle.im_alias.specs.declared.table.RegisterSets.{RegisterSets}
use Rattle.im_alias.specs.declared.table.Table.{Table}
use Rattle.im_alias.specs.Sets.{set_in, row_in, width, HaveNothing, HasShape}
use Rattle.im_alias.proofs.Whole.{below_next, take_next}

pub nothing_none : HaveNothing []
nothing_none k = refl

pub nothing_push : (xs : List ObjectSet) (s : ObjectSet) → s.members.items ≡ [] → HaveNothing xs → HaveNothing (xs ++ s ∷ [])
nothing_push [] s e h zero = e
nothing_push [] s e h (suc k) = refl
nothing_push (x ∷ xs) s e h zero = h 0
nothing_push (x ∷ xs) s e h (suc k) = nothing_push xs s e (λ j. h (suc j)) k

get_before : {X : Type 0} (xs ys : List X) (k : ℕ) → k < length xs → slice_get (xs ++ ys) k ≡ slice_get xs k
get_before [] ys k h = absurd (omega arith)
get_before (x ∷ xs) ys zero h = refl
get_before (x ∷ xs) ys (suc k) h = get_before xs ys k (omega arith)

get_behind : {X : Type 0} (xs : List X) (x : X) → slice_get (xs ++ x ∷ []) (length xs) ≡ Some x
get_behind [] x = refl
get_behind (y ∷ xs) x = get_behind xs x

some_same : {X : Type 0} (o : Option X) (a b : X) → o ≡ Some a → o ≡ Some b → a ≡ b
some_same o a b e f = cc

-- the rows of the first functions
pub record MadeRows (u : Code) (k : ℕ) (rows : List RegisterSets) : Type 0 where
  pub count : length rows ≡ k
  pub widths : (i : ℕ) (f : Function) → i < k → slice_get u.functions.items i ≡ Some f → width (slice_get rows i) ≡ f.register_count
  pub nothing : (i r : ℕ) → row_in (slice_get rows i) r ≡ []

rows_nothing : (rows : List RegisterSets) (row : RegisterSets) → ((i r : ℕ) → row_in (slice_get rows i) r ≡ []) → HaveNothing row.sets.items → (i r : ℕ) → row_in (slice_get (rows ++ row ∷ []) i) r ≡ []
rows_nothing [] row h e zero r = e r
rows_nothing [] row h e (suc i) r = refl
rows_nothing (x ∷ xs) row h e zero r = h 0 r
rows_nothing (x ∷ xs) row h e (suc i) r = rows_nothing xs row (λ j. h (suc j)) e i r

pub rows_next : (u : Code) (k : ℕ) (f : Function) (rows : List RegisterSets) (row : RegisterSets) → slice_get u.functions.items k ≡ Some f → length row.sets.items ≡ f.register_count → HaveNothing row.sets.items → MadeRows u k rows → MadeRows u (k + 1) (rows ++ row ∷ [])
rows_next u k f rows row at wide empty made = record {
  count = omega (arith, length_push rows row, made.count);
  widths = λ i g l e. ⊎_elim
      (λ s. let there : slice_get u.functions.items k ≡ Some g = subst (λ n. slice_get u.functions.items n ≡ Some g) s e in
      let same : f ≡ g = some_same (slice_get u.functions.items k) f g at there in
      let last : slice_get (rows ++ row ∷ []) i ≡ Some row = subst (λ n. slice_get (rows ++ row ∷ []) n ≡ Some row) (made.count ∙ sym s) (get_behind rows row) in
      ap width last ∙ wide ∙ ap (λ (h : Function). h.register_count) same)
      (λ s. let within : i < length rows = omega (arith, made.count) in
      ap width (get_before rows (row ∷ []) i within) ∙ made.widths i g s e)
      (below_next i k l);
  nothing = rows_nothing rows row made.nothing empty;
}

sum_append : (g : Function → ℕ) (xs : List Function) (x : Function) → sum_of g (xs ++ x ∷ []) ≡ sum_of g xs + g x
sum_append g [] x = omega arith
sum_append g (y ∷ xs) x = omega (arith, sum_append g xs x)

pub objects_next : (u : Code) (k : ℕ) (f : Function) → slice_get u.functions.items k ≡ Some f → objects_below u (k + 1) ≡ objects_below u k + length f.objects.items
objects_next u k f e =
    let g = λ (h : Function). length h.objects.items in
    let s : sum_of g (take (k + 1) u.functions.items) ≡ sum_of g (take k u.functions.items) + length f.objects.items = ap (sum_of g) (take_next u.functions.items k f e) ∙ sum_append g (take k u.functions.items) f in
    omega arith

pub shape_made : (u : Code) (t : Table) (n : ℕ) → n ≡ length u.functions.items → length t.objects.items ≡ objects_below u n → length t.returned.items ≡ length u.functions.items → MadeRows u n t.registers.items → HasShape u t
shape_made u t n e o r made = record {
  objects = subst (λ k. length t.objects.items ≡ objects_below u k) e o;
  returned = r;
  registers = made.count ∙ e;
  widths = λ i f at. made.widths i f (subst (λ k. i < k) (sym e) (slice_get_within u.functions.items i f at)) at;
}

-- a row that is copied
pub copied_next : (xs ys : List ObjectSet) (k : ℕ) (s : ObjectSet) → length ys ≡ k → s.members.items ≡ set_in (slice_get xs k) → ((r : ℕ) → r < k → set_in (slice_get ys r) ≡ set_in (slice_get xs r)) → (r : ℕ) → r < k + 1 → set_in (slice_get (ys ++ s ∷ []) r) ≡ set_in (slice_get xs r)
copied_next xs ys k s len e h r l = ⊎_elim
    (λ i. let last : slice_get (ys ++ s ∷ []) r ≡ Some s = subst (λ n. slice_get (ys ++ s ∷ []) n ≡ Some s) (len ∙ sym i) (get_behind ys s) in
    ap set_in last ∙ e ∙ ap (λ n. set_in (slice_get xs n)) (sym i))
    (λ i. let within : r < length ys = omega arith in
    ap set_in (get_before ys (s ∷ []) r within) ∙ h r i)
    (below_next r k l)

pub copied_all : (xs ys : List ObjectSet) → length ys ≡ length xs → ((r : ℕ) → r < length xs → set_in (slice_get ys r) ≡ set_in (slice_get xs r)) → (r : ℕ) → set_in (slice_get ys r) ≡ set_in (slice_get xs r)
copied_all [] [] e h r = refl
copied_all [] (y ∷ ys) e h r = absurd (omega arith)
copied_all (x ∷ xs) [] e h r = absurd (omega arith)
copied_all (x ∷ xs) (y ∷ ys) e h zero = h 0 (omega arith)
copied_all (x ∷ xs) (y ∷ ys) e h (suc r) = copied_all xs ys (omega arith) (λ j l. h (suc j) (omega arith)) r
