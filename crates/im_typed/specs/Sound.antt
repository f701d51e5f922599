-- What holds all along the runs of a well-typed program: who lives, and which values there are.
use Rattle.std.specs.Prelude.{◌≡◌, ℕ, zero, suc, ◌<◌, ◌≤◌, List, [], ◌∷◌, Option, Some, None, slice_get}
use Rattle.im_num.specs.declared.kind.Kind.{Kind}
use Rattle.im_num.specs.declared.kind.Kind.TheVariants.{I32, Ptr}
use Rattle.im_num.specs.declared.values.CellValue.{CellValue}
use Rattle.im_num.specs.declared.values.CellValue.TheVariants.{Number as ANumber, Null as ANull, Inside, Local, NoValue}
use Rattle.im_num.specs.Kinds.{IsOfKind}
use Rattle.im_num.specs.Variables.{Variable}
use Rattle.im_store.specs.im_ctype.declared.cell.Cell.{Cell}
use Rattle.im_store.specs.Objects.{Object, static, Value, Number, Null, Pointer, Unset, Shape, shape_of, Store}
use Rattle.im_store.specs.Statics.{StaticObject}
use Rattle.im_store.specs.Outcomes.{Outcome, Undef, More, End}
use Rattle.im_typed.specs.Program.{Access, Scalar, Struct, LocalObject, Func}
use Rattle.im_typed.specs.Runs.{World, Fails, Starves, Exhausts, Answer, Gives, Stops}
use Rattle.im_typed.specs.Values.{Values, cells_of}
use Rattle.im_typed.specs.Meaning.{Around, local, Flow, Next, Broke, Continued, Returned}
use Rattle.im_typed.specs.Typing.{Each, IsInteger, kinds_of, HasPlace}

-- a place in an object of that shape or at its end; an activation's object may be dead, a static never is
abbrev pub IsInside : Option Shape → ℕ → ℕ → Type 0
IsInside (Some s) activation offset = offset ≤ s.size
IsInside None zero offset = ⊥
IsInside None (suc activation) offset = Unit {0}

-- a value of a kind, where so many activations began: an integer of the kind; null; a place in an object or at its end
abbrev pub IsValue : ℕ → Store → Kind → Value → Type 0
IsValue begun store kind (Number z) = IsInteger kind × IsOfKind kind z
IsValue begun store kind Null = kind ≡ Ptr
IsValue begun store kind (Pointer o offset) =
    (kind ≡ Ptr) × (o.activation ≤ begun) × (offset ≤ 1048576) × IsInside (store.shape o) o.activation offset
IsValue begun store kind Unset = ⊥

-- a cell has a value of its kind; that of an activation's object may have none
abbrev pub IsCellValue : ℕ → Store → ℕ → Kind → Value → Type 0
IsCellValue begun store activation kind (Number z) = IsValue begun store kind (Number z)
IsCellValue begun store activation kind Null = IsValue begun store kind Null
IsCellValue begun store activation kind (Pointer o offset) = IsValue begun store kind (Pointer o offset)
IsCellValue begun store activation kind Unset = 0 < activation

-- a store of a run in which so many activations began: who lives has begun and is small, its cells have values of their
-- kinds, and the statics live, and no others of activation 0
pub record IsSound (statics : List StaticObject) (begun : ℕ) (store : Store) : Type 0 where
  pub began : (o : Object) (s : Shape) → store.shape o ≡ Some s → o.activation ≤ begun
  pub small : (o : Object) (s : Shape) → store.shape o ≡ Some s → s.size ≤ 1048576
  pub cells : (o : Object) (s : Shape) (offset : ℕ) (kind : Kind) → store.shape o ≡ Some s → s.cells offset ≡ Some kind → IsCellValue begun store o.activation kind (store.values o offset)
  pub live : (n : ℕ) (s : StaticObject) → slice_get statics n ≡ Some s → store.shape (static n) ≡ Some (shape_of s.size s.cells)
  pub only : (o : Object) (t : Shape) → store.shape o ≡ Some t → o.activation ≡ 0 → (n : ℕ) × (s : StaticObject) × (o ≡ static n) × (slice_get statics n ≡ Some s)

-- the input is bytes, too
pub record IsSoundWorld (statics : List StaticObject) (w : World) : Type 0 where
  pub store : IsSound statics w.activations w.store
  pub input : Each (λ byte. byte < 256) w.input

-- an activation of a function is there, and its objects live
pub record IsHere (f : Func) (c : Around) (w : World) : Type 0 where
  pub later : 0 < c.activation
  pub began : c.activation ≤ w.activations
  pub live : (n : ℕ) (o : LocalObject) → slice_get f.objects n ≡ Some o → w.store.shape (local c n) ≡ Some (shape_of o.size o.cells)

abbrev pub AreValues : ℕ → Store → List Kind → Values → Type 0
AreValues begun store [] [] = Unit {0}
AreValues begun store [] (v ∷ vs) = ⊥
AreValues begun store (k ∷ ks) [] = ⊥
AreValues begun store (k ∷ ks) (v ∷ vs) = IsValue begun store k v × AreValues begun store ks vs

-- values that an expression of a shape may give: none of void, one of a scalar unless a result is missing, each cell's of a struct
abbrev pub Fits : Option Access → World → Values → Type 0
Fits None w vs = vs ≡ []
Fits (Some (Scalar kind)) w [] = Unit {0}
Fits (Some (Scalar kind)) w (v ∷ vs) = IsValue w.activations w.store kind v × (vs ≡ [])
Fits (Some (Struct count cells)) w vs = AreValues w.activations w.store (kinds_of cells) vs

-- a returned value is there where the function's result isn't void
abbrev pub FitsResult : Option Kind → World → Values → Type 0
FitsResult None w vs = vs ≡ []
FitsResult (Some kind) w [] = ⊥
FitsResult (Some kind) w (v ∷ vs) = IsValue w.activations w.store kind v × (vs ≡ [])

abbrev pub FlowFits : Option Kind → World → Flow → Type 0
FlowFits result w Next = Unit {0}
FlowFits result w Broke = Unit {0}
FlowFits result w Continued = Unit {0}
FlowFits result w (Returned vs) = FitsResult result w vs

-- an argument for each parameter
abbrev pub ArgumentsFit : List LocalObject → World → List Value → Type 0
ArgumentsFit [] w [] = Unit {0}
ArgumentsFit [] w (v ∷ vs) = ⊥
ArgumentsFit (o ∷ os) w [] = ⊥
ArgumentsFit (o ∷ os) w (v ∷ vs) =
    ((kind : Kind) × (o.cells ≡ cells_of (Scalar kind)) × IsValue w.activations w.store kind v) × ArgumentsFit os w vs

-- a run from the first of these to the second: the same objects live, and as much of the stack is in use
pub record KeepsWorld (w t : World) : Type 0 where
  pub more : w.activations ≤ t.activations
  pub depth : t.depth ≡ w.depth
  pub same : (o : Object) → t.store.shape o ≡ w.store.shape o

-- what a run that began at a world answers: what it gives has this property, and the world is sound again
abbrev pub IsRightAt : {A : Type 0} → List StaticObject → World → (World → A → Type 0) → Answer A → Type 0
IsRightAt statics w P (Gives a t) = IsSoundWorld statics t.world × KeepsWorld w t.world × P t.world a
IsRightAt statics w P (Stops (Fails why)) = Unit {0}
IsRightAt statics w P (Stops (Starves output)) = Unit {0}
IsRightAt statics w P (Stops (Exhausts output store)) = (begun : ℕ) × IsSound statics begun store

pub record IsRight {A : Type 0} (statics : List StaticObject) (w : World) (P : World → A → Type 0) (answer : Answer A) : Type 0 where
  pub by : IsRightAt statics w P answer

-- what an end shows

-- the value of a cell of a kind: an integer of the kind; null; a place in a static or at its end; a place elsewhere. A cell
-- that has none is no such
abbrev pub IsShown : List StaticObject → Kind → CellValue → Type 0
IsShown statics kind (ANumber z) = IsInteger kind × IsOfKind kind z
IsShown statics kind ANull = kind ≡ Ptr
IsShown statics kind (Inside n offset) = (kind ≡ Ptr) × HasPlace (slice_get statics n) offset
IsShown statics kind Local = kind ≡ Ptr
IsShown statics kind NoValue = ⊥

abbrev pub AreShown : List StaticObject → List Cell → List CellValue → Type 0
AreShown statics [] [] = Unit {0}
AreShown statics [] (v ∷ vs) = ⊥
AreShown statics (c ∷ cs) [] = ⊥
AreShown statics (c ∷ cs) (v ∷ vs) = IsShown statics c.kind v × AreShown statics cs vs

abbrev pub ShowEach : List StaticObject → List StaticObject → List Variable → Type 0
ShowEach statics [] [] = Unit {0}
ShowEach statics [] (v ∷ vs) = ⊥
ShowEach statics (s ∷ ss) [] = ⊥
ShowEach statics (s ∷ ss) (v ∷ vs) = (v.name ≡ s.name) × AreShown statics s.cells v.cells × ShowEach statics ss vs

-- an end has a status of 32 bits, and shows for each static a value of each of its cells
abbrev pub EndsRight : List StaticObject → Outcome → Type 0
EndsRight statics (Undef why) = Unit {0}
EndsRight statics (More output) = Unit {0}
EndsRight statics (End reason status output variables) = IsOfKind I32 status × ShowEach statics statics variables
