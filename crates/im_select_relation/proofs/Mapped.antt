-- Live objects lie apart in memory, through calls and returns.
use Rattle.std.proofs.Common.{◌≡◌, ◌≢◌, ℕ, ◌+◌, ◌%◌, ◌<◌, ◌≤◌, ◌⊎◌, inl, inr, Bool, true, false, cond, List, [], ◌∷◌, Option, Some, None, sym, ap, ◌∙◌, subst, refl, arith}
use Rattle.std.specs.Prelude.{◌==◌}
use Rattle.std.proofs.lemmas.Bool.Decides.{nat_tests}
use Rattle.im_num.specs.declared.kind.Kind.{Kind}
use Rattle.im_num.specs.Kinds.{kind_size}
use Rattle.im_store.specs.Objects.{Name, Object, Shape, shape_with, shape_without}
use Rattle.im_block.specs.Meaning.{Frame}
use Rattle.im_select_relation.specs.Linking.{Linking, pointer_at, base_of, address, IsPlaced, HasCells, LaidOut}

-- an activation, and the bytes of stack in use with its frame
pub record Mark : Type 0 where
  pub activation : ℕ
  pub depth : ℕ

abbrev pub mark : Frame → Mark
mark f = record { activation = f.active.number; depth = f.active.depth }

abbrev pub marks : List Frame → List Mark
marks [] = []
marks (f ∷ fs) = mark f ∷ marks fs

-- the object belongs to one of the activations
abbrev pub InFrames : Object → List Mark → Type 0
InFrames o [] = ⊥
InFrames o (w ∷ ws) = ((o.activation ≡ w.activation) × (o.depth ≡ w.depth) × (base_of o ≡ pointer_at w.depth)) ⊎ InFrames o ws

-- all of them have their frames within the first bytes of the stack, and began before
abbrev pub Under : ℕ → ℕ → List Mark → Type 0
Under depth activation [] = Unit {0}
Under depth activation (w ∷ ws) = (w.depth ≤ depth) × (w.activation < activation) × Under depth activation ws

pub record Lies (p : Linking) (o : Object) (sh : Shape) (frames : List Mark) : Type 0 where
  pub where_from : ((o.activation ≡ 0) × (1048576 ≤ address p o) × (address p o + sh.size < 2097152)) ⊎ InFrames o frames
  pub low : 1048576 ≤ address p o
  pub high : address p o + sh.size < 3145728
  pub even : address p o % 4 ≡ 0
  pub sized : p.size o.name ≡ sh.size
  pub placed : IsPlaced p o
  pub cells : HasCells sh

abbrev pub Apart : Linking → Object → Shape → Object → Shape → Type 0
Apart p o sh q th = (o ≡ q) ⊎ (address p o + sh.size < address p q) ⊎ (address p q + th.size < address p o)

pub record Mapped (p : Linking) (shape : Object → Option Shape) (frames : List Mark) : Type 0 where
  pub lies : (o : Object) (sh : Shape) → shape o ≡ Some sh → Lies p o sh frames
  pub apart : (o : Object) (sh : Shape) (q : Object) (th : Shape) → shape o ≡ Some sh → shape q ≡ Some th → Apart p o sh q th

eq_true : (a b : ℕ) → (a == b) ≡ true → a ≡ b
eq_true a b h = grind (arith, nat_tests)

eq_false : (a b : ℕ) → (a == b) ≡ false → a ≢ b
eq_false a b h = grind (arith, nat_tests)

pub base_static : (o : Object) → o.activation ≡ 0 → base_of o ≡ 0
base_static o e = let t : (o.activation == 0) ≡ true = grind (arith, nat_tests) in ap (λ b. cond b 0 (pointer_at o.depth)) t

pub base_frame : (o : Object) (a d : ℕ) → o.activation ≡ a → 0 < a → o.depth ≡ d → base_of o ≡ pointer_at d
base_frame o a d e h f = let t : (o.activation == 0) ≡ false = grind (arith, nat_tests) in ap (λ b. cond b 0 (pointer_at o.depth)) t ∙ ap pointer_at f

pub under_base : (o : Object) (depth a : ℕ) (ws : List Mark) → Under depth a ws → InFrames o ws → pointer_at depth ≤ base_of o
under_base o depth a [] u h = absurd h
under_base o depth a (w ∷ ws) u (inl h) = let e = h.2 in let l = u.0 in omega arith
under_base o depth a (w ∷ ws) u (inr h) = under_base o depth a ws u.2 h

pub under_more : (depth more a b : ℕ) (ws : List Mark) → depth ≤ more → a ≤ b → Under depth a ws → Under more b ws
under_more depth more a b [] l h u = tt
under_more depth more a b (w ∷ ws) l h u = (let k = u.0 in omega arith, let k = u.1 in omega arith, under_more depth more a b ws l h u.2)

pub object_is : (o q : Object) → o.activation ≡ q.activation → o.depth ≡ q.depth → o.name ≡ q.name → o ≡ q
object_is o q a b c =
    ap (λ (z : ℕ). let r : Object = record { activation = z; depth = o.depth; name = o.name } in r) a
    ∙ ap (λ (z : ℕ). let r : Object = record { activation = q.activation; depth = z; name = o.name } in r) b
    ∙ ap (λ (z : Name). let r : Object = record { activation = q.activation; depth = q.depth; name = z } in r) c

pub under_activation : (o : Object) (depth a : ℕ) (ws : List Mark) → Under depth a ws → InFrames o ws → o.activation < a
under_activation o depth a [] u h = absurd h
under_activation o depth a (w ∷ ws) u (inl h) = let e = h.0 in let l = u.1 in omega arith
under_activation o depth a (w ∷ ws) u (inr h) = under_activation o depth a ws u.2 h

-- an object of the new activation, or one that was there
pub data Origin (shape : Object → Option Shape) (new depth : ℕ) (objects : Name → Option Shape) (o : Object) (sh : Shape) : Type 0 where
  Fresh : o.activation ≡ new → o.depth ≡ depth → objects o.name ≡ Some sh → Origin shape new depth objects o sh
  Older : shape o ≡ Some sh → Origin shape new depth objects o sh

origin_by : (a b : Bool) (new old : Option Shape) (sh : Shape) → cond a (cond b new None) old ≡ Some sh → ((a ≡ true) × (b ≡ true) × (new ≡ Some sh)) ⊎ ((a ≡ false) × (old ≡ Some sh))
origin_by true true new old sh h = inl (refl, refl, h)
origin_by true false new old sh h = absurd (cc)
origin_by false b new old sh h = inr (refl, h)

pub origin : (shape : Object → Option Shape) (new depth : ℕ) (objects : Name → Option Shape) (o : Object) (sh : Shape) → shape_with shape new depth objects o ≡ Some sh → Origin shape new depth objects o sh
origin shape new depth objects o sh h = elim (origin_by (o.activation == new) (o.depth == depth) (objects o.name) (shape o) sh h) [
  | inl k ↦ Fresh (eq_true o.activation new k.0) (eq_true o.depth depth k.1) k.2
  | inr k ↦ Older k.1
]

closed_by : (a : Bool) (old : Option Shape) (sh : Shape) → cond a None old ≡ Some sh → (a ≡ false) × (old ≡ Some sh)
closed_by true old sh h = absurd cc
closed_by false old sh h = (refl, h)

pub closed : (shape : Object → Option Shape) (new : ℕ) (o : Object) (sh : Shape) → shape_without shape new o ≡ Some sh → (o.activation ≢ new) × (shape o ≡ Some sh)
closed shape new o sh h = let k = closed_by (o.activation == new) (shape o) sh h in (eq_false o.activation new k.0, k.1)

-- where an object that was there lies: beside the new frame
pub older_beside : (p : Linking) (o : Object) (sh : Shape) (ws : List Mark) (depth a : ℕ) → Under depth a ws → Lies p o sh ws → (address p o + sh.size < 2097152) ⊎ (pointer_at depth ≤ address p o)
older_beside p o sh ws depth a u l = elim l.where_from [
  | inl s ↦ inl s.2
  | inr f ↦ inr (let b = under_base o depth a ws u f in omega arith)
]

-- the frame of a new activation: below the frames that were there
pub mapped_enter : (p : Linking) (shape : Object → Option Shape) (ws : List Mark) (w : Mark) (objects : Name → Option Shape) (depth a size : ℕ) → Mapped p shape ws → Under depth a ws → w.depth ≡ depth + size → w.depth ≤ 1048576 → w.depth % 4 ≡ 0 → 0 < w.activation → LaidOut p objects 0 size → ((b : Name) (sh : Shape) → objects b ≡ Some sh → HasCells sh) → Mapped p (shape_with shape w.activation w.depth objects) (w ∷ ws)
mapped_enter p shape ws w objects depth a size m u is room even some l has = record {
  lies = λ o sh h. elim (origin shape w.activation w.depth objects o sh h) [
    | Fresh x y z ↦ fresh o sh x y z
    | Older z ↦ older o sh (m.lies o sh z)
  ];
  apart = λ o sh q th h k. elim (origin shape w.activation w.depth objects o sh h) [
    | Fresh x y z ↦ elim (origin shape w.activation w.depth objects q th k) [
      | Fresh x' y' z' ↦ both o sh q th x y z x' y' z'
      | Older z' ↦ beside o sh q th x y z z'
    ]
    | Older z ↦ elim (origin shape w.activation w.depth objects q th k) [
      | Fresh x' y' z' ↦ turn o sh q th (beside q th o sh x' y' z' z)
      | Older z' ↦ m.apart o sh q th z z'
    ]
  ];
}
  where
    turn : (o : Object) (sh : Shape) (q : Object) (th : Shape) → Apart p q th o sh → Apart p o sh q th
    turn o sh q th (inl e) = inl (sym e)
    turn o sh q th (inr (inl l)) = inr (inr l)
    turn o sh q th (inr (inr l)) = inr (inl l)

    fresh : (o : Object) (sh : Shape) → o.activation ≡ w.activation → o.depth ≡ w.depth → objects o.name ≡ Some sh → Lies p o sh (w ∷ ws)
    fresh o sh x y z =
        let i = l.inside o.name sh z in
        let e = l.even o.name sh z in
        let b = base_frame o w.activation w.depth x some y in
        record {
          where_from = inr (inl (x, y, b));
          low = omega arith;
          high = omega arith;
          even = omega arith;
          sized = l.sized o.name sh z;
          placed = inr (omega arith, omega arith, (let s = l.sized o.name sh z in omega arith));
          cells = has o.name sh z;
        }

    older : (o : Object) (sh : Shape) → Lies p o sh ws → Lies p o sh (w ∷ ws)
    older o sh k = record {
      where_from = elim k.where_from [ inl s ↦ inl s | inr f ↦ inr (inr f) ];
      low = k.low;
      high = k.high;
      even = k.even;
      sized = k.sized;
      placed = k.placed;
      cells = k.cells;
    }

    both : (o : Object) (sh : Shape) (q : Object) (th : Shape) → o.activation ≡ w.activation → o.depth ≡ w.depth → objects o.name ≡ Some sh → q.activation ≡ w.activation → q.depth ≡ w.depth → objects q.name ≡ Some th → Apart p o sh q th
    both o sh q th x y z x' y' z' =
        let b = base_frame o w.activation w.depth x some y in
        let c = base_frame q w.activation w.depth x' some y' in
        elim (l.apart o.name sh q.name th z z') [
          | inl e ↦ inl (object_is o q (x ∙ sym x') (y ∙ sym y') e)
          | inr (inl k) ↦ inr (inl (omega arith))
          | inr (inr k) ↦ inr (inr (omega arith))
        ]

    beside : (o : Object) (sh : Shape) (q : Object) (th : Shape) → o.activation ≡ w.activation → o.depth ≡ w.depth → objects o.name ≡ Some sh → shape q ≡ Some th → Apart p o sh q th
    beside o sh q th x y z z' =
        let i = l.inside o.name sh z in
        let b = base_frame o w.activation w.depth x some y in
        elim (older_beside p q th ws depth a u (m.lies q th z')) [
          | inl k ↦ inr (inr (omega arith))
          | inr k ↦ inr (inl (omega arith))
        ]

-- the objects of an activation are gone
pub mapped_leave : (p : Linking) (shape : Object → Option Shape) (w : Mark) (ws : List Mark) → Mapped p shape (w ∷ ws) → Mapped p (shape_without shape w.activation) ws
mapped_leave p shape w ws m = record {
  lies = λ o sh h. let k = closed shape w.activation o sh h in let l = m.lies o sh k.1 in record {
    where_from = elim l.where_from [ inl s ↦ inl s | inr (inl f) ↦ absurd (k.0 f.0) | inr (inr f) ↦ inr f ];
    low = l.low;
    high = l.high;
    even = l.even;
    sized = l.sized;
    placed = l.placed;
    cells = l.cells;
  };
  apart = λ o sh q th h k. m.apart o sh q th (closed shape w.activation o sh h).1 (closed shape w.activation q th k).1;
}

-- a cell of a live object
pub record Cell (p : Linking) (shape : Object → Option Shape) (o : Object) (i : ℕ) (k : Kind) : Type 0 where
  pub sh : Shape
  pub live : shape o ≡ Some sh
  pub cell : sh.cells i ≡ Some k

-- two cells are one, or lie apart
pub cells_apart : (p : Linking) (shape : Object → Option Shape) (frames : List Mark) (o : Object) (i : ℕ) (n : Kind) (q : Object) (j : ℕ) (k : Kind) → Mapped p shape frames → Cell p shape o i n → Cell p shape q j k → ((q ≡ o) × (j ≡ i)) ⊎ (address p q + j + kind_size k ≤ address p o + i) ⊎ (address p o + i + kind_size n ≤ address p q + j)
cells_apart p shape frames o i n q j k m c d =
    let in_o = (m.lies o c.sh c.live).cells.inside i n c.cell in
    let in_q = (m.lies q d.sh d.live).cells.inside j k d.cell in
    elim (m.apart o c.sh q d.sh c.live d.live) [
      | inl e ↦ same e
      | inr (inl l) ↦ inr (inr (omega arith))
      | inr (inr l) ↦ inr (inl (omega arith))
    ]
  where
    same : o ≡ q → ((q ≡ o) × (j ≡ i)) ⊎ (address p q + j + kind_size k ≤ address p o + i) ⊎ (address p o + i + kind_size n ≤ address p q + j)
    same e =
        let one : d.sh ≡ c.sh = cc in
        let there : c.sh.cells j ≡ Some k = subst (λ (z : Shape). z.cells j ≡ Some k) one d.cell in
        let a : address p o ≡ address p q = ap (λ z. address p z) e in
        elim ((m.lies o c.sh c.live).cells.apart i n j k c.cell there) [
          | inl f ↦ inl (sym e, sym f)
          | inr (inl l) ↦ inr (inr (omega arith))
          | inr (inr l) ↦ inr (inl (omega arith))
        ]
