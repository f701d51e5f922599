-- What the code of an expression adds: at most 64 words for each node, and registers up to as many as it has nodes.
use Rattle.std.proofs.Common.{◌≡◌, ◌≢◌, ◌⊎◌, inl, inr, ℕ, zero, suc, ◌+◌, ◌*◌, ◌^◌, ◌<◌, ◌≤◌, false, List, [], ◌∷◌, length, take, refl, ap, sym, ◌∙◌, subst, arith}
use Rattle.std.specs.Prelude.{Option, Some, None, slice_get, pos}
use Rattle.std.proofs.lemmas.List.{length-take}
use Rattle.im_num.specs.declared.kind.Kind.{Kind}
use Rattle.im_num.specs.declared.kind.Kind.TheVariants.{I8, U8, I16, U16, I32, U32, Ptr}
use Rattle.im_num.specs.Kinds.{kind_size}
use Rattle.std.specs.Option.{option_map}
use Rattle.im_serve.specs.Services.{row, IsUnary}
use Rattle.im_block.specs.declared.unit.Function.{Function}
use Rattle.im_alloc_placed.specs.Operands.{IsPromoted, HasObject}
use Rattle.im_ctype.specs.declared.cell.Cell.{Cell}
use Rattle.im_typed.specs.declared.expression.Change.{Change}
use Rattle.im_typed.specs.declared.expression.Change.TheVariants.{Number as NumberBy, Move as PointerBy}
use Rattle.im_typed.specs.Program as p
use Rattle.im_typed.specs.Typing.{IsGiven, Each, IsInteger, IsPromoted as TypedPromoted, IsCompared, IsElement, IsChange, IsStep, IsAccess, AreLaidOut, IsTyped, IsTypedPlace, AreArguments, IsTypedFunc, members_offset, parameters, result_shape, shape_of}
use Rattle.im_typed.specs.Values.{changed_kind}
use Rattle.im_typed.specs.Counts.{place_nodes, expr_nodes, exprs_nodes, conversions_in}
use Rattle.im_block.specs.declared.code.Place.{Place}
use Rattle.im_block.specs.declared.code.Place.TheVariants.{Static, Local, Through}
use Rattle.im_block.specs.declared.code.Exit.TheVariants.{Jump, Branch}
use Rattle.im_lower_relation.specs.Codes.{further_in, cells_of_shape, offset_in, count_of, in_groups}
use Rattle.im_lower_relation.specs.Lowered.{HasParameters}
use Rattle.im_lower_plain.specs.Made.{Made, put, close, start}
use Rattle.im_lower_plain.specs.Make.{place_at, behind, groups_in, part_offset, fails_made, holds_made, make_place, make, make_arguments, make_test}
use Rattle.im_lower_plain.proofs.Growth.{stays, grows_start, close_length}
use Rattle.im_lower_plain.proofs.Grown.{grows, decision_grows}
use Rattle.im_lower_laws.proofs.Steps.{Step, at_most, step_close, step_start}
use Rattle.im_lower_laws.proofs.LineSteps.{Good_register, GoodPlace, GoodChange, place_offset, further_good, through_good, adds_put, adds_null, adds_service, adds_convert, adds_unary, adds_not, adds_service_of, adds_compute, adds_compare, adds_move, adds_distance, adds_address, adds_call, adds_read, adds_write, adds_load, adds_groups, adds_change, adds_increment}

pub nodes_positive : (e : p.Expr) → 1 ≤ expr_nodes e
nodes_positive (p.Constant kind z) = omega arith
nodes_positive (p.NullPointer kind) = omega arith
nodes_positive (p.Read x a) = omega arith
nodes_positive (p.Address a) = omega arith
nodes_positive (p.Convert kind e) = omega arith
nodes_positive (p.Unary op kind e) = omega arith
nodes_positive (p.Binary op kind a b) = omega arith
nodes_positive (p.Move size back a b) = omega arith
nodes_positive (p.MoveBy size a b) = omega arith
nodes_positive (p.Distance size a b) = omega arith
nodes_positive (p.Compare op kind a b) = omega arith
nodes_positive (p.Not a) = omega arith
nodes_positive (p.And a b) = omega arith
nodes_positive (p.Or a b) = omega arith
nodes_positive (p.Choose q a b) = omega arith
nodes_positive (p.Comma a b) = omega arith
nodes_positive (p.Discard a) = omega arith
nodes_positive (p.Assign x a e) = omega arith
nodes_positive (p.Update a change e) = omega arith
nodes_positive (p.Increment a change old) = omega arith
nodes_positive (p.Part from x e) = omega arith
nodes_positive (p.Call n es) = omega arith
nodes_positive (p.Serve service p.no_argument) = omega arith
nodes_positive (p.Serve service (p.an_argument e)) = omega arith

place_positive : (a : p.Place) → 1 ≤ place_nodes a
place_positive (p.Static n) = omega arith
place_positive (p.Local n) = omega arith
place_positive (p.Target e) = omega arith
place_positive (p.Member a d) = omega arith

count_nodes : (es : p.Exprs) → count_of es ≤ exprs_nodes es
count_nodes p.no_exprs = omega arith
count_nodes (p.more_exprs e rest) =
    let one = nodes_positive e in
    let more = count_nodes rest in
    omega arith

-- the first free register behind a place
behind_low : (a : p.Place) (free : ℕ) → free ≤ behind a free
behind_low (p.Static n) free = omega arith
behind_low (p.Local n) free = omega arith
behind_low (p.Target e) free = omega arith
behind_low (p.Member a d) free = behind_low a free

behind_high : (a : p.Place) (free : ℕ) → behind a free ≤ free + place_nodes a
behind_high (p.Static n) free = omega arith
behind_high (p.Local n) free = omega arith
behind_high (p.Target e) free = let one = nodes_positive e in omega arith
behind_high (p.Member a d) free = let h = behind_high a free in omega arith

got_some : {X : Type 0} (xs : List X) (n : ℕ) → n < length xs → slice_get xs n ≡ None → ⊥
got_some [] n lt e = absurd (omega arith)
got_some (x ∷ xs) zero lt e = absurd (cc)
got_some (x ∷ xs) (suc n) lt e = got_some xs n (let less : n < length xs = omega arith in less) e

each_got : {X : Type 0} (P : X → Type 0) (xs : List X) (n : ℕ) (x : X) → Each P xs → slice_get xs n ≡ Some x → P x
each_got P [] n x h e = absurd (cc)
each_got P (y ∷ ys) zero x h e = let same : y ≡ x = cc in subst P same h.0
each_got P (y ∷ ys) (suc n) x h e = each_got P ys n x h.1 e

offset_further : (place : Place) (d : ℕ) → place_offset (further_in place d) ≡ place_offset place + d
offset_further (Static object offset) d = refl
offset_further (Local object offset) d = refl
offset_further (Through pointer offset) d = refl

-- a well-typed program, whose functions take few arguments
pub record Premises (g : p.Prog) : Type 0 where
  pub funcs : Each (IsTypedFunc g) g.funcs
  pub few : Each {A = p.Func} (λ f. f.params ≤ 8) g.funcs

-- the objects of the function in the unit
pub record HasObjects (f : p.Func) (code : Function) (first : ℕ) : Type 0 where
  pub begun : code.first_object ≡ first
  pub count : length code.objects.items ≡ length f.objects

-- kinds

pub no_pointer : (kind : Kind) → IsInteger kind → kind ≢ Ptr
no_pointer kind h = λ e. subst IsInteger e h

pub promoted : (kind : Kind) → TypedPromoted kind → IsPromoted kind
promoted I8 h = absurd (let wide = h.1 in omega arith)
promoted U8 h = absurd (let wide = h.1 in omega arith)
promoted I16 h = absurd (let wide = h.1 in omega arith)
promoted U16 h = absurd (let wide = h.1 in omega arith)
promoted I32 h = inl refl
promoted U32 h = inr refl
promoted Ptr h = absurd h.0

compared : (kind : Kind) → IsCompared kind → IsPromoted kind ⊎ (kind ≡ Ptr)
compared I8 h = inl (promoted I8 h)
compared U8 h = inl (promoted U8 h)
compared I16 h = inl (promoted I16 h)
compared U16 h = inl (promoted U16 h)
compared I32 h = inl (promoted I32 h)
compared U32 h = inl (promoted U32 h)
compared Ptr h = inr refl

element : (size : ℕ) → IsElement size → size < 2 ^ 32
element size h = let few = h.1 in omega arith

element_between : (size : ℕ) → IsElement size → (0 < size) × (size < 2 ^ 31)
element_between size h = let few = h.1 in (h.0, omega arith)

updated : (change : Change) (shape : Option p.Access) → IsChange change shape → GoodChange change
updated (NumberBy kind op at) shape h = (no_pointer kind h.0, promoted at h.1)
updated (PointerBy size back) shape h = element size h.0

stepped : (change : Change) → IsStep change → GoodChange change
stepped (NumberBy kind op at) h = (no_pointer kind h.0, promoted at h.1)
stepped (PointerBy size back) h = element size h

-- cells of a struct lie in it

abbrev pub AreNear : List Cell → Type 0
AreNear cells = Each {A = Cell} (λ c. c.offset ≤ 1048576) cells

laid_end : (from size : ℕ) (cells : List Cell) → AreLaidOut from size cells → from ≤ size
laid_end from size [] h = h
laid_end from size (c ∷ cs) h =
    let first = h.0 in
    let rest = laid_end (c.offset + kind_size c.kind) size cs h.2 in
    omega arith

pub laid_near : (from size : ℕ) (cells : List Cell) → size ≤ 1048576 → AreLaidOut from size cells → AreNear cells
laid_near from size [] le h = tt
laid_near from size (c ∷ cs) le h =
    let rest = laid_end (c.offset + kind_size c.kind) size cs h.2 in
    (omega arith, laid_near (c.offset + kind_size c.kind) size cs le h.2)

pub nearer : (d : ℕ) (cells : List Cell) → d ≤ 1048576 → AreNear cells → Each {A = Cell} (λ c. d + c.offset ≤ 2097152) cells
nearer d [] le h = tt
nearer d (c ∷ cs) le h = let one = h.0 in (omega arith, nearer d cs le h.1)

access_near : (x : p.Access) → IsAccess x → AreNear (cells_of_shape (Some x))
access_near (p.Scalar kind) h = tt
access_near (p.Struct count cells) h = laid_near 0 1048576 cells (omega arith) h.2

offset_near : (cells : List Cell) (from : ℕ) → AreNear cells → offset_in (slice_get cells from) ≤ 1048576
offset_near [] from h = omega arith
offset_near (c ∷ cs) zero h = h.0
offset_near (c ∷ cs) (suc from) h = offset_near cs from h.1

-- an argument is there where a service has a parameter
is-unary : (parameter : Option Kind) (shape : Option p.Access) → IsGiven parameter shape → IsUnary parameter
is-unary None shape h = h
is-unary (Some kind) shape h = tt

module _ (g : p.Prog) (f : p.Func) (code : Function) (first low limit : ℕ) (premises : Premises g) (objects : HasObjects f code first) where
  as_many : (os : List p.LocalObject) (es : p.Exprs) → AreArguments g f os es → length os ≡ count_of es
  as_many [] p.no_exprs h = refl
  as_many [] (p.more_exprs e rest) h = absurd h
  as_many (o ∷ os) p.no_exprs h = absurd h
  as_many (o ∷ os) (p.more_exprs e rest) h = ap suc (as_many os rest h.2)

  record Called (n : ℕ) (es : p.Exprs) : Type 0 where
    takes : HasParameters (slice_get g.funcs n) (count_of es)
    few : count_of es ≤ 8

  called : (n : ℕ) (es : p.Exprs) → n < length g.funcs → AreArguments g f (parameters (slice_get g.funcs n)) es → Called n es
  called n es there h = found (slice_get g.funcs n) refl h
    where
      found : (r : Option p.Func) → slice_get g.funcs n ≡ r → AreArguments g f (parameters r) es → Called n es
      found None e args = absurd (got_some g.funcs n there e)
      found (Some callee) e args =
          let typed = each_got (IsTypedFunc g) g.funcs n callee premises.funcs e in
          let few = each_got {X = p.Func} (λ f. f.params ≤ 8) g.funcs n callee premises.few e in
          let enough = typed.0 in
          let many = as_many (take callee.params callee.objects) es args in
          let taken = length-take callee.params callee.objects in
          let same : callee.params ≡ count_of es = omega arith in
          record { takes = subst (λ r. HasParameters r (count_of es)) (sym e) same; few = omega arith }

  -- offsets through members
  offsets_are : (a : p.Place) (free : ℕ) → place_offset (place_at first a free) ≡ members_offset a
  offsets_are (p.Static n) free = refl
  offsets_are (p.Local n) free = refl
  offsets_are (p.Target e) free = refl
  offsets_are (p.Member a d) free = offset_further (place_at first a free) d ∙ ap (λ n. n + d) (offsets_are a free)

  members_near : (a : p.Place) → IsTypedPlace g f a → members_offset a ≤ 1048576
  members_near (p.Static n) ty = omega arith
  members_near (p.Local n) ty = omega arith
  members_near (p.Target e) ty = omega arith
  members_near (p.Member a d) ty = ty.1

  callee_near : (callee : Option p.Func) → AreNear (cells_of_shape (result_shape callee))
  callee_near None = tt
  callee_near (Some callee) = by_result callee.result
    where
      by_result : (result : Option Kind) → AreNear (cells_of_shape (option_map p.Scalar result))
      by_result None = tt
      by_result (Some kind) = tt

  shape_near : (e : p.Expr) → IsTyped g f e → AreNear (cells_of_shape (shape_of g e))
  shape_near (p.Constant kind z) ty = tt
  shape_near (p.NullPointer kind) ty = tt
  shape_near (p.Read x a) ty = access_near x ty.0
  shape_near (p.Address a) ty = tt
  shape_near (p.Convert kind e) ty = tt
  shape_near (p.Unary op kind e) ty = tt
  shape_near (p.Binary op kind a b) ty = tt
  shape_near (p.Move size back a b) ty = tt
  shape_near (p.MoveBy size a b) ty = tt
  shape_near (p.Distance size a b) ty = tt
  shape_near (p.Compare op kind a b) ty = tt
  shape_near (p.Not a) ty = tt
  shape_near (p.And a b) ty = tt
  shape_near (p.Or a b) ty = tt
  shape_near (p.Choose q a b) ty = shape_near a ty.1
  shape_near (p.Comma a b) ty = shape_near b ty.1
  shape_near (p.Discard a) ty = tt
  shape_near (p.Assign x a e) ty = access_near x ty.0
  shape_near (p.Update a change e) ty = tt
  shape_near (p.Increment a change old) ty = tt
  shape_near (p.Part from x e) ty = access_near x ty.0
  shape_near (p.Call n es) ty = callee_near (slice_get g.funcs n)
  shape_near (p.Serve service p.no_argument) ty = tt
  shape_near (p.Serve service (p.an_argument e)) ty = tt

  part_near : (from : ℕ) (e : p.Expr) → IsTyped g f e → part_offset g from e ≤ 2097152
  part_near from e ty = let near = offset_near (cells_of_shape (shape_of g e)) from (shape_near e ty) in omega arith

  pub local_there : (n : ℕ) → n < length f.objects → HasObject code (first + n)
  local_there n lt =
      let begun = objects.begun in
      let count = objects.count in
      (omega arith, omega arith)

  place_good : (a : p.Place) (free : ℕ) → IsTypedPlace g f a → low ≤ free → free + place_nodes a ≤ limit → GoodPlace (length g.statics) code low limit (place_at first a free)
  place_good (p.Static n) free ty from le = record { from = tt; below = omega arith; one = omega arith; exists = (ty, omega arith) }
  place_good (p.Local n) free ty from le = record { from = tt; below = omega arith; one = omega arith; exists = (local_there n ty, omega arith) }
  place_good (p.Target e) free ty from le =
      let one = nodes_positive e in
      record { from = from; below = omega arith; one = omega arith; exists = omega arith }
  place_good (p.Member a d) free ty from le =
      let here = offsets_are a free in
      let near = ty.1 in
      further_good (place_at first a free) d (omega arith) (place_good a free ty.0 from (omega arith))

  register : (r : ℕ) → low ≤ r → r + 1 ≤ limit → Good_register low limit r
  register r from below = record { from = from; below = below }

  abbrev Adds : p.Expr → Type 0
  Adds e =
      (c t : ℕ) (m n : Made) (to free : ℕ) → low ≤ to → low ≤ free → to + 1 ≤ limit → free + expr_nodes e ≤ limit
      → Step g code low limit c t m n → Step g code low limit (c + 64 * expr_nodes e) t m (make g first e to free n)

  two_add : (a b : p.Expr) → Adds a → Adds b → (c t : ℕ) (m n : Made) (free : ℕ) → low ≤ free → free + (1 + expr_nodes a + expr_nodes b) ≤ limit → Step g code low limit c t m n → Step g code low limit (c + 64 * expr_nodes b + 64 * expr_nodes a) t m (make g first a free (free + 1) (make g first b (free + 1) (free + 1 + 1) n))
  two_add a b left right c t m n free from le h =
      let one = nodes_positive a in
      let other = nodes_positive b in
      left (c + 64 * expr_nodes b) t m (make g first b (free + 1) (free + 1 + 1) n) free (free + 1) from (omega arith) (omega arith) (omega arith)
      (right c t m n (free + 1) (free + 1 + 1) (omega arith) (omega arith) (omega arith) (omega arith) h)

  -- the blocks of a truth value

  fails_length : (to : ℕ) (n : Made) → length (fails_made to n).blocks ≡ length n.blocks + 1
  unfolding put
  fails_length to n = close_length n

  holds_length : (to : ℕ) (n : Made) → length (holds_made to n).blocks ≡ length n.blocks + 2
  unfolding put start
  holds_length to n =
      let one = fails_length to n in
      let other = close_length (fails_made to n) in
      omega arith

  adds_truths : (c t : ℕ) (m n : Made) (to : ℕ) → low ≤ to → to + 1 ≤ limit → Step g code low limit c t m n → Step g code low limit (c + 20) t m (close (holds_made to n))
  adds_truths c t m n to lt t1 h =
      let r = register to lt t1 in
      let fails_is = fails_length to n in
      let closed_is = close_length (fails_made to n) in
      at_most g code low limit (c + 20) t (omega arith) (omega arith)
      (step_close g code low limit (adds_put g code low limit to (pos 1) r
      (step_start g code low limit (Jump (length n.blocks)) 0 0 (omega arith) (omega arith) tt (omega arith) (omega arith) (omega arith)
      (step_close g code low limit (adds_put g code low limit to (pos 0) r (step_close g code low limit h))))))

  -- a test, whose value is in the register free
  abbrev AddsTest : p.Expr → Type 0
  AddsTest e =
      (c t : ℕ) (m n : Made) (free holds fails : ℕ) → low ≤ free → free + 1 + expr_nodes e ≤ limit → holds < length n.blocks → fails < length n.blocks
      → Step g code low limit c t m n → Step g code low limit (c + 6 + 64 * expr_nodes e) t m (make_test g first e free holds fails n)

  value_decides : (e : p.Expr) → Adds e → (c t : ℕ) (m n : Made) (free holds fails : ℕ) → low ≤ free → free + 1 + expr_nodes e ≤ limit → holds < length n.blocks → fails < length n.blocks
      → Step g code low limit c t m n → Step g code low limit (c + 6 + 64 * expr_nodes e) t m (make g first e free (free + 1) (start (Branch free holds fails) n))
  value_decides e value c t m n free holds fails lf le here there h =
      at_most g code low limit (c + 6 + 64 * expr_nodes e) t (omega arith) (omega arith)
      (value (c + 6) (t + 0) m _ free (free + 1) lf (omega arith) (omega arith) (omega arith)
      (step_start g code low limit (Branch free holds fails) 6 0 (here, there) (here, there) lf (omega arith) (omega arith) (omega arith) h))

  -- two tests, the second of which begins a block
  and_adds : (a b : p.Expr) → AddsTest a → AddsTest b → (c t : ℕ) (m n : Made) (free holds fails : ℕ) → low ≤ free → free + (1 + expr_nodes a + expr_nodes b) ≤ limit → holds < length n.blocks → fails < length n.blocks
      → Step g code low limit c t m n → Step g code low limit (c + 14 + 64 * expr_nodes a + 64 * expr_nodes b) t m (make_test g first a free (length (make_test g first b free holds fails n).blocks) fails (close (make_test g first b free holds fails n)))
  and_adds a b left right c t m n free holds fails lf le here there h =
      let rest = make_test g first b free holds fails n in
      let longer = (decision_grows g first b free holds fails (stays n)).longer in
      let closed_is = close_length rest in
      at_most g code low limit (c + 14 + 64 * expr_nodes a + 64 * expr_nodes b) t (omega arith) (omega arith)
      (left (c + 6 + 64 * expr_nodes b + 2) t m (close rest) free (length rest.blocks) fails lf (omega arith) (omega arith) (omega arith)
      (step_close g code low limit (right c t m n free holds fails lf (omega arith) here there h)))

  or_adds : (a b : p.Expr) → AddsTest a → AddsTest b → (c t : ℕ) (m n : Made) (free holds fails : ℕ) → low ≤ free → free + (1 + expr_nodes a + expr_nodes b) ≤ limit → holds < length n.blocks → fails < length n.blocks
      → Step g code low limit c t m n → Step g code low limit (c + 14 + 64 * expr_nodes a + 64 * expr_nodes b) t m (make_test g first a free holds (length (make_test g first b free holds fails n).blocks) (close (make_test g first b free holds fails n)))
  or_adds a b left right c t m n free holds fails lf le here there h =
      let rest = make_test g first b free holds fails n in
      let longer = (decision_grows g first b free holds fails (stays n)).longer in
      let closed_is = close_length rest in
      at_most g code low limit (c + 14 + 64 * expr_nodes a + 64 * expr_nodes b) t (omega arith) (omega arith)
      (left (c + 6 + 64 * expr_nodes b + 2) t m (close rest) free holds (length rest.blocks) lf (omega arith) (omega arith) (omega arith)
      (step_close g code low limit (right c t m n free holds fails lf (omega arith) here there h)))

  mutual
    pub place_adds : (a : p.Place) (c t : ℕ) (m n : Made) (free : ℕ) → IsTypedPlace g f a → low ≤ free → free + place_nodes a ≤ limit → Step g code low limit c t m n → Step g code low limit (c + 64 * place_nodes a) t m (make_place g first a free n)
    place_adds (p.Static k) c t m n free ty lf le h = at_most g code low limit (c + 64 * 1) t (omega arith) (omega arith) h
    place_adds (p.Local k) c t m n free ty lf le h = at_most g code low limit (c + 64 * 1) t (omega arith) (omega arith) h
    place_adds (p.Target e) c t m n free ty lf le h =
        let one = nodes_positive e in
        at_most g code low limit (c + 64 * (1 + expr_nodes e)) t (omega arith) (omega arith)
        (adds e ty.0 c t m n free (free + 1) lf (omega arith) (omega arith) (omega arith) h)
    place_adds (p.Member a d) c t m n free ty lf le h =
        at_most g code low limit (c + 64 * (1 + place_nodes a)) t (omega arith) (omega arith)
        (place_adds a c t m n free ty.0 lf (omega arith) h)

    pub adds : (e : p.Expr) → IsTyped g f e → Adds e
    adds (p.Constant kind z) ty c t m n to free lt lf t1 le h =
        at_most g code low limit (c + 64 * 1) t (omega arith) (omega arith) (adds_put g code low limit to z (register to lt t1) h)
    adds (p.NullPointer kind) ty c t m n to free lt lf t1 le h =
        at_most g code low limit (c + 64 * 1) t (omega arith) (omega arith) (adds_null g code low limit to (register to lt t1) h)
    adds (p.Read x a) ty c t m n to free lt lf t1 le h =
        at_most g code low limit (c + 64 * (1 + place_nodes a)) t (omega arith) (omega arith)
        (place_adds a (c + 12) t m _ free ty.1 lf (omega arith)
        (adds_load g code low limit x to (place_at first a free) (register to lt t1) (place_good a free ty.1 lf (omega arith)) h))
    adds (p.Address a) ty c t m n to free lt lf t1 le h =
        at_most g code low limit (c + 64 * (1 + place_nodes a)) t (omega arith) (omega arith)
        (place_adds a (c + 12) t m _ free ty lf (omega arith)
        (adds_address g code low limit to (place_at first a free) (register to lt t1) (place_good a free ty lf (omega arith)) h))
    adds (p.Convert kind e) ty c t m n to free lt lf t1 le h =
        let one = nodes_positive e in
        at_most g code low limit (c + 64 * (1 + expr_nodes e)) t (omega arith) (omega arith)
        (adds e ty.1 (c + 11) t m _ to free lt lf t1 (omega arith)
        (adds_convert g code low limit to kind to (register to lt t1) (register to lt t1) (no_pointer kind ty.0) h))
    adds (p.Unary op kind e) ty c t m n to free lt lf t1 le h =
        let one = nodes_positive e in
        at_most g code low limit (c + 64 * (1 + expr_nodes e)) t (omega arith) (omega arith)
        (adds e ty.1 (c + 12) t m _ free (free + 1) lf (omega arith) (omega arith) (omega arith)
        (adds_unary g code low limit to op kind free (register to lt t1) (register free lf (omega arith)) (promoted kind ty.0) h))
    adds (p.Binary op kind a b) ty c t m n to free lt lf t1 le h =
        let one = nodes_positive a in
        let other = nodes_positive b in
        at_most g code low limit (c + 64 * (1 + expr_nodes a + expr_nodes b)) t (omega arith) (omega arith)
        (two_add a b (adds a ty.1) (adds b ty.2) (c + 16) t m _ free lf le
        (adds_compute g code low limit to op kind free (free + 1) (register to lt t1) (register free lf (omega arith)) (register (free + 1) (omega arith) (omega arith)) (promoted kind ty.0) h))
    adds (p.Move size back a b) ty c t m n to free lt lf t1 le h =
        let one = nodes_positive a in
        let other = nodes_positive b in
        at_most g code low limit (c + 64 * (1 + expr_nodes a + expr_nodes b)) t (omega arith) (omega arith)
        (two_add a b (adds a ty.1) (adds b ty.2) (c + 17) t m _ free lf le
        (adds_move g code low limit to size back free (free + 1) (register to lt t1) (register free lf (omega arith)) (register (free + 1) (omega arith) (omega arith)) (element size ty.0) h))
    adds (p.MoveBy size a b) ty c t m n to free lt lf t1 le h =
        let one = nodes_positive a in
        let other = nodes_positive b in
        at_most g code low limit (c + 64 * (1 + expr_nodes a + expr_nodes b)) t (omega arith) (omega arith)
        (two_add a b (adds a ty.1) (adds b ty.2) (c + 17) t m _ free lf le
        (adds_move g code low limit to size false (free + 1) free (register to lt t1) (register (free + 1) (omega arith) (omega arith)) (register free lf (omega arith)) (element size ty.0) h))
    adds (p.Distance size a b) ty c t m n to free lt lf t1 le h =
        let one = nodes_positive a in
        let other = nodes_positive b in
        at_most g code low limit (c + 64 * (1 + expr_nodes a + expr_nodes b)) t (omega arith) (omega arith)
        (two_add a b (adds a ty.1) (adds b ty.2) (c + 17) t m _ free lf le
        (adds_distance g code low limit to size free (free + 1) (register to lt t1) (register free lf (omega arith)) (register (free + 1) (omega arith) (omega arith)) (element_between size ty.0) h))
    adds (p.Compare op kind a b) ty c t m n to free lt lf t1 le h =
        let one = nodes_positive a in
        let other = nodes_positive b in
        at_most g code low limit (c + 64 * (1 + expr_nodes a + expr_nodes b)) t (omega arith) (omega arith)
        (two_add a b (adds a ty.0) (adds b ty.1) (c + 15) t m _ free lf le
        (adds_compare g code low limit to op kind free (free + 1) (register to lt t1) (register free lf (omega arith)) (register (free + 1) (omega arith) (omega arith)) (compared kind ty.4) h))
    adds (p.Not a) ty c t m n to free lt lf t1 le h =
        let one = nodes_positive a in
        at_most g code low limit (c + 64 * (1 + expr_nodes a)) t (omega arith) (omega arith)
        (adds a ty.0 (c + 10) t m _ free (free + 1) lf (omega arith) (omega arith) (omega arith)
        (adds_not g code low limit to free (register to lt t1) (register free lf (omega arith)) h))
    adds (p.And a b) ty c t m n to free lt lf t1 le h =
        let fails_is = fails_length to n in
        let holds_is = holds_length to n in
        let closed_is = close_length (holds_made to n) in
        at_most g code low limit (c + 64 * (1 + expr_nodes a + expr_nodes b)) t (omega arith) (omega arith)
        (and_adds a b (test_by_adds a ty.0 (adds a ty.0)) (test_by_adds b ty.1 (adds b ty.1)) (c + 20) t m (close (holds_made to n)) free (length (holds_made to n).blocks) (length (fails_made to n).blocks) lf le (omega arith) (omega arith)
        (adds_truths c t m n to lt t1 h))
    adds (p.Or a b) ty c t m n to free lt lf t1 le h =
        let fails_is = fails_length to n in
        let holds_is = holds_length to n in
        let closed_is = close_length (holds_made to n) in
        at_most g code low limit (c + 64 * (1 + expr_nodes a + expr_nodes b)) t (omega arith) (omega arith)
        (or_adds a b (test_by_adds a ty.0 (adds a ty.0)) (test_by_adds b ty.1 (adds b ty.1)) (c + 20) t m (close (holds_made to n)) free (length (holds_made to n).blocks) (length (fails_made to n).blocks) lf le (omega arith) (omega arith)
        (adds_truths c t m n to lt t1 h))
    adds (p.Choose q a b) ty c t m n to free lt lf t1 le h =
        let joined = close n in
        let other = make g first b to free joined in
        let begun = start (Jump (length n.blocks)) (close other) in
        let one = make g first a to free begun in
        let joined_is = close_length n in
        let to_other = (grows g first b to free (stays joined)).longer in
        let other_is = close_length other in
        let to_one = (grows g first a to free (grows_start (Jump (length n.blocks)) (stays (close other)))).longer in
        let one_is = close_length one in
        let positive = nodes_positive q in
        at_most g code low limit (c + 64 * (1 + expr_nodes q + expr_nodes a + expr_nodes b)) t (omega arith) (omega arith)
        (test_by_adds q ty.0 (adds q ty.0) (c + 2 + 64 * expr_nodes b + 2 + 0 + 64 * expr_nodes a + 2) (t + 0) m (close one) free (length one.blocks) (length other.blocks) lf (omega arith) (omega arith) (omega arith)
        (step_close g code low limit (adds a ty.1 (c + 2 + 64 * expr_nodes b + 2 + 0) (t + 0) m begun to free lt lf t1 (omega arith)
        (step_start g code low limit (Jump (length n.blocks)) 0 0 (omega arith) (omega arith) tt (omega arith) (omega arith) (omega arith)
        (step_close g code low limit (adds b ty.2 (c + 2) t m joined to free lt lf t1 (omega arith) (step_close g code low limit h)))))))
    adds (p.Comma a b) ty c t m n to free lt lf t1 le h =
        at_most g code low limit (c + 64 * (1 + expr_nodes a + expr_nodes b)) t (omega arith) (omega arith)
        (adds a ty.0 (c + 64 * expr_nodes b) t m _ to free lt lf t1 (let one = nodes_positive b in omega arith)
        (adds b ty.1 c t m n to free lt lf t1 (omega arith) h))
    adds (p.Discard a) ty c t m n to free lt lf t1 le h =
        at_most g code low limit (c + 64 * (1 + expr_nodes a)) t (omega arith) (omega arith) (adds a ty c t m n to free lt lf t1 (omega arith) h)
    adds (p.Assign (p.Scalar kind) a e) ty c t m n to free lt lf t1 le h =
        let lower = behind_low a free in
        let upper = behind_high a free in
        at_most g code low limit (c + 64 * (1 + 0 + place_nodes a + expr_nodes e)) t (omega arith) (omega arith)
        (place_adds a (c + 12 + 64 * expr_nodes e) t m _ free ty.1 lf (omega arith)
        (adds e ty.2 (c + 12) t m _ to (behind a free) lt (omega arith) t1 (omega arith)
        (adds_write g code low limit (place_at first a free) kind to (register to lt t1) (place_good a free ty.1 lf (omega arith)) h)))
    adds (p.Assign (p.Struct count cells) a e) ty c t m n to free lt lf t1 le h =
        let lower = behind_low a free in
        let upper = behind_high a free in
        let counted = ty.0.0 in
        let positive = nodes_positive e in
        let some = place_positive a in
        let good = place_good a free ty.1 lf (omega arith) in
        let from = behind a free in
        let cells_near = laid_near 0 1048576 cells (omega arith) ty.0.2 in
        let here = offsets_are a free in
        let near = members_near a ty.1 in
        at_most g code low limit (c + 64 * (1 + count + place_nodes a + expr_nodes e)) t (omega arith) (omega arith)
        (place_adds a (c + 12 + 24 * length cells + 64 * expr_nodes e) t m _ free ty.1 lf (omega arith)
        (adds e ty.2 (c + 12 + 24 * length cells) t m _ from (from + 1) (omega arith) (omega arith) (omega arith) (omega arith)
        (adds_groups g code low limit from (place_at first a free) (groups_in (in_groups g first a cells e) cells) cells (register from (omega arith) (omega arith)) good
        (nearer 0 cells (omega arith) cells_near) (nearer (place_offset (place_at first a free)) cells (omega arith) cells_near) (omega arith)
        (adds_address g code low limit to (place_at first a free) (register to lt t1) good h))))
    adds (p.Update a change e) ty c t m n to free lt lf t1 le h =
        let lower = behind_low a free in
        let upper = behind_high a free in
        let positive = nodes_positive e in
        let good = place_good a free ty.0 lf (omega arith) in
        let from = behind a free in
        at_most g code low limit (c + 64 * (1 + conversions_in change + place_nodes a + expr_nodes e)) t (omega arith) (omega arith)
        (place_adds a (c + 39 + 64 * expr_nodes e + 12) t m _ free ty.0 lf (omega arith)
        (adds_read g code low limit to (place_at first a free) (changed_kind change) (register to lt t1) good
        (adds e ty.1 (c + 39) t m _ from (from + 1) (omega arith) (omega arith) (omega arith) (omega arith)
        (adds_change g code low limit change to to from (place_at first a free) (register to lt t1) (register to lt t1) (register from (omega arith) (omega arith)) good (updated change (shape_of g e) ty.2) h))))
    adds (p.Increment a change old) ty c t m n to free lt lf t1 le h =
        let lower = behind_low a free in
        let upper = behind_high a free in
        let some = place_positive a in
        let good = place_good a free ty.0 lf (omega arith) in
        let from = behind a free in
        at_most g code low limit (c + 64 * (1 + conversions_in change + place_nodes a)) t (omega arith) (omega arith)
        (place_adds a (c + 58) t m _ free ty.0 lf (omega arith)
        (adds_increment g code low limit change old to from (place_at first a free) (register to lt t1) (register from (omega arith) (omega arith)) good (stepped change ty.1) h))
    adds (p.Part from x e) ty c t m n to free lt lf t1 le h =
        let one = nodes_positive e in
        let r = register free lf (omega arith) in
        at_most g code low limit (c + 64 * (1 + expr_nodes e)) t (omega arith) (omega arith)
        (adds e ty.1 (c + 12) t m _ free (free + 1) lf (omega arith) (omega arith) (omega arith)
        (adds_load g code low limit x to (Through free (part_offset g from e)) (register to lt t1) (through_good g code low limit free (part_offset g from e) (part_near from e ty.1) r) h))
    adds (p.Call k es) ty c t m n to free lt lf t1 le h =
        let facts = called k es ty.0 ty.1 in
        let many = count_nodes es in
        at_most g code low limit (c + 64 * (1 + exprs_nodes es)) t (omega arith) (omega arith)
        (arguments_add (parameters (slice_get g.funcs k)) es ty.1 (c + (7 + 4 * count_of es)) t m _ free lf (omega arith)
        (adds_call g code low limit to k free (count_of es) (register to lt t1) lf (omega arith) facts.few facts.takes h))
    adds (p.Serve service p.no_argument) ty c t m n to free lt lf t1 le h =
        at_most g code low limit (c + 64 * 1) t (omega arith) (omega arith) (adds_service g code low limit service to (register to lt t1) ty h)
    adds (p.Serve service (p.an_argument e)) ty c t m n to free lt lf t1 le h =
        let one = nodes_positive e in
        at_most g code low limit (c + 64 * (1 + expr_nodes e)) t (omega arith) (omega arith)
        (adds e ty.0 (c + 11) t m _ free (free + 1) lf (omega arith) (omega arith) (omega arith)
        (adds_service_of g code low limit service to free (register to lt t1) (register free lf (omega arith)) (is-unary (row service).parameter (shape_of g e) ty.1) h))

    pub arguments_add : (os : List p.LocalObject) (es : p.Exprs) → AreArguments g f os es → (c t : ℕ) (m n : Made) (free : ℕ) → low ≤ free → free + 1 + exprs_nodes es ≤ limit → Step g code low limit c t m n → Step g code low limit (c + 64 * exprs_nodes es) t m (make_arguments g first es free n)
    arguments_add os p.no_exprs ty c t m n free lf le h = at_most g code low limit (c + 64 * 0) t (omega arith) (omega arith) h
    arguments_add [] (p.more_exprs e rest) ty c t m n free lf le h = absurd ty
    arguments_add (o ∷ os) (p.more_exprs e rest) ty c t m n free lf le h =
        let one = nodes_positive e in
        at_most g code low limit (c + 64 * (expr_nodes e + exprs_nodes rest)) t (omega arith) (omega arith)
        (adds e ty.0 (c + 64 * exprs_nodes rest) t m _ free (free + 1) lf (omega arith) (omega arith) (omega arith)
        (arguments_add os rest ty.2 c t m n (free + 1) (omega arith) (omega arith) h))

    test_by_adds : (e : p.Expr) → IsTyped g f e → Adds e → AddsTest e
    test_by_adds (p.Not a) ty value c t m n free holds fails lf le here there h =
        at_most g code low limit (c + 6 + 64 * (1 + expr_nodes a)) t (omega arith) (omega arith)
        (test_by_adds a ty.0 (adds a ty.0) c t m n free fails holds lf (omega arith) there here h)
    test_by_adds (p.And a b) ty value c t m n free holds fails lf le here there h =
        at_most g code low limit (c + 6 + 64 * (1 + expr_nodes a + expr_nodes b)) t (omega arith) (omega arith)
        (and_adds a b (test_by_adds a ty.0 (adds a ty.0)) (test_by_adds b ty.1 (adds b ty.1)) c t m n free holds fails lf (omega arith) here there h)
    test_by_adds (p.Or a b) ty value c t m n free holds fails lf le here there h =
        at_most g code low limit (c + 6 + 64 * (1 + expr_nodes a + expr_nodes b)) t (omega arith) (omega arith)
        (or_adds a b (test_by_adds a ty.0 (adds a ty.0)) (test_by_adds b ty.1 (adds b ty.1)) c t m n free holds fails lf (omega arith) here there h)
    test_by_adds e ty value c t m n free holds fails lf le here there h = value_decides e value c t m n free holds fails lf le here there h

  pub adds_test : (e : p.Expr) → IsTyped g f e → AddsTest e
  adds_test e ty = test_by_adds e ty (adds e ty)
