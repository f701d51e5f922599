-- What items give, and what cells get of it.
use Rattle.std.proofs.Common.{◌≡◌, ℕ, zero, suc, ◌<◌, Bool, true, false, List, [], ◌∷◌, ◌++◌, map, nat_eq, Option, Some, None, is_some, if◌then◌else◌, length, get_or, refl, sym, ap, ◌∙◌, subst, arith}
use Rattle.std.specs.Option.{option_map}
use Rattle.std.proofs.lemmas.Bool.{eqb-true}
use Rattle.std.proofs.lemmas.List.{map-append}
use Rattle.im_ctype.specs.declared.cell.Cell.{Cell}
use Rattle.im_ctype.specs.Table.{Table, structs_of}
use Rattle.im_ctype.specs.Types.{CType, Structs}
use Rattle.im_store.specs.Objects.{Value}
use Rattle.im_typed.specs.declared.program.Constant.{Constant}
use Rattle.im_typed.specs.ProgramOf.{first_of}
use Rattle.im_check_items.specs.im_rules.Initialisers.{Source, from_term, from_byte, Item, piece_by, piece_of, pieces_of}
use Rattle.im_check_items.specs.im_rules.StaticValues.{constant_asks, item_token, static_value, value_or, zero_of, cell_value, cell_values}
use Rattle.im_check_stop.specs.declared.stop.Stop.{Stop}
use Rattle.im_check_stop.specs.declared.stop.Stop.TheVariants.{Rule, Large, Memory}
use Rattle.im_check_stop.specs.Answers.{IsRefusal}
use Rattle.im_check_items.specs.declared.item.Item as rust
use Rattle.im_check_items.specs.Shape.{item_in, items_in}
use Rattle.im_check_static_values.specs.declared.given.Given.{Given}
use Rattle.im_check_static_values.specs.Firsts.{AreConstant, this_item, other_item, IsUnfit}
use Rattle.im_check_static_values.specs.Given.{IsGiven, AreGiven, given_at, given_by, given_to, first_or}

pub are_constant : (types : Table) (size : ℕ → ℕ) (ps : List Item) (gs : List Given) → AreGiven types size ps gs → AreConstant size (structs_of types) ps
are_constant types size [] [] h = tt
are_constant types size [] (g ∷ gs) h = absurd h
are_constant types size (p ∷ ps) [] h = absurd h
are_constant types size (p ∷ ps) (g ∷ gs) h = (h.0.meets, are_constant types size ps gs h.1)

pub given_more : (types : Table) (size : ℕ → ℕ) (ps : List Item) (gs : List Given) (p : Item) (g : Given) → AreGiven types size ps gs → IsGiven types size p g → AreGiven types size (ps ++ p ∷ []) (gs ++ g ∷ [])
given_more types size [] [] p g h i = (i, tt)
given_more types size [] (f ∷ gs) p g h i = absurd h
given_more types size (o ∷ ps) [] p g h i = absurd h
given_more types size (o ∷ ps) (f ∷ gs) p g h i = (h.0, given_more types size ps gs p g h.1 i)

pub given_item : (types : Table) (size : ℕ → ℕ) (is : List rust.Item) (gs now : List Given) (x : rust.Item) (g : Given) → now ≡ gs ++ g ∷ []
    → AreGiven types size (items_in types is) gs → IsGiven types size (item_in types x) g → AreGiven types size (items_in types (is ++ x ∷ [])) now
given_item types size is gs now x g e h i =
    let more = given_more types size (items_in types is) gs (item_in types x) g h i in
    let there = subst (λ (ps : List Item). AreGiven types size ps (gs ++ g ∷ [])) (sym (map-append {A = rust.Item} (item_in types) is (x ∷ []))) more in
    subst (λ (hs : List Given). AreGiven types size (items_in types (is ++ x ∷ [])) hs) (sym e) there

-- a refused item stands among others

this : (size : ℕ → ℕ) (known : Structs) (p : Item) (qs : List Item) (f : Stop) → IsRefusal (constant_asks size known p) (item_token p) f → IsUnfit size known (p ∷ qs) f
this size known p qs (Rule rule token) h = rw h.1 (this_item h.0)
this size known p qs (Large bytes) h = absurd h
this size known p qs Memory h = tt

other : (size : ℕ → ℕ) (known : Structs) (p : Item) (qs : List Item) (f : Stop) → IsUnfit size known qs f → IsUnfit size known (p ∷ qs) f
other size known p qs (Rule rule token) h = other_item h
other size known p qs (Large bytes) h = absurd h
other size known p qs Memory h = tt

pub unfit_at : (types : Table) (size : ℕ → ℕ) (is : List rust.Item) (i : ℕ) (x : rust.Item) (f : Stop) → i < length is → x ≡ get_or is i x
    → IsRefusal (constant_asks size (structs_of types) (item_in types x)) (item_token (item_in types x)) f
    → IsUnfit size (structs_of types) (items_in types is) f
unfit_at types size [] i x f lt e h = absurd (omega arith)
unfit_at types size (y ∷ is) zero x f lt e h =
    this size (structs_of types) (item_in types y) (items_in types is) f (subst (λ (z : rust.Item). IsRefusal (constant_asks size (structs_of types) (item_in types z)) (item_token (item_in types z)) f) e h)
unfit_at types size (y ∷ is) (suc i) x f lt e h =
    other size (structs_of types) (item_in types y) (items_in types is) f (unfit_at types size is i x f (omega arith) e h)

-- cells

piece_offset : (known : Structs) (at : ℕ) (a : CType) (s : Source) → (piece_by known at a s).offset ≡ at
piece_offset known at a (from_term e x) = refl
piece_offset known at a (from_byte b) = refl

picked : (b c : Bool) (z v r : Value) (o s : Option Value) → b ≡ c → s ≡ Some v → value_or z o ≡ r → value_or z (first_or (if b then Some v else None) o) ≡ (if c then value_or z s else r)
picked true true z v r o s e h i = ap (value_or z) (sym h)
picked true false z v r o s e h i = absurd cc
picked false true z v r o s e h i = absurd cc
picked false false z v r o s e h i = i

cell_same : (types : Table) (size : ℕ → ℕ) (c : Cell) (ps : List Item) (gs : List Given) → AreGiven types size ps gs → given_to types gs c ≡ cell_value size c (pieces_of (structs_of types) ps)
cell_same types size c [] [] h = refl
cell_same types size c [] (g ∷ gs) h = absurd h
cell_same types size c (p ∷ ps) [] h = absurd h
cell_same types size c (p ∷ ps) (g ∷ gs) h =
    let e = h.0.offset ∙ sym (piece_offset (structs_of types) p.offset p.type p.source) in
    picked (nat_eq g.offset c.offset) (nat_eq (piece_of (structs_of types) p).offset c.offset) (zero_of c.kind) (first_of types g.value) (cell_value size c (pieces_of (structs_of types) ps)) (given_at types c.offset gs) (static_value size (piece_of (structs_of types) p).value) (ap (λ k. nat_eq k c.offset) e) h.0.value (cell_same types size c ps gs h.1)

pub cells_same : (types : Table) (size : ℕ → ℕ) (cs : List Cell) (ps : List Item) (gs : List Given) → AreGiven types size ps gs → map {A = Cell} (given_to types gs) cs ≡ cell_values size cs (pieces_of (structs_of types) ps)
cells_same types size [] ps gs h = refl
cells_same types size (c ∷ cs) ps gs h =
    ap (λ v. v ∷ map {A = Cell} (given_to types gs) cs) (cell_same types size c ps gs h)
    ∙ ap (λ vs. cell_value size c (pieces_of (structs_of types) ps) ∷ vs) (cells_same types size cs ps gs h)

-- one value more

first-first : (a b c : Option Value) → first_or a (first_or b c) ≡ first_or (first_or a b) c
first-first None b c = refl
first-first (Some v) b c = refl

first-none : (a : Option Value) → first_or a None ≡ a
first-none None = refl
first-none (Some v) = refl

pub given_behind : (types : Table) (k : ℕ) (gs : List Given) (g : Given) → given_at types k (gs ++ g ∷ []) ≡ first_or (given_at types k gs) (given_by types k g)
given_behind types k [] g = first-none (given_by types k g)
given_behind types k (f ∷ gs) g =
    ap (first_or (given_by types k f)) (given_behind types k gs g)
    ∙ first-first (given_by types k f) (given_at types k gs) (given_by types k g)

-- a value is kept where there is none yet

chosen : (b : Bool) (v : Value) (o : Option Value) → (b ≡ true → o ≡ None) → (if b then Some v else o) ≡ first_or o (if b then Some v else None)
chosen true v o h = ap (λ x. first_or x (Some v)) (sym (h refl))
chosen false v o h = sym (first-none o)

pub kept_new : (types : Table) (g : Given) (before after : ℕ → Option Constant) → before g.offset ≡ None → ((k : ℕ) → after k ≡ (if nat_eq g.offset k then Some g.value else before k))
    → (k : ℕ) → option_map (first_of types) (after k) ≡ first_or (option_map (first_of types) (before k)) (given_by types k g)
kept_new types g before after none new k =
    let there : nat_eq g.offset k ≡ true → option_map (first_of types) (before k) ≡ None =
    λ (e : nat_eq g.offset k ≡ true). ap (λ n. option_map (first_of types) (before n)) (sym (eqb-true g.offset k e)) ∙ ap (option_map (first_of types)) none in
    ap (option_map (first_of types)) (new k)
    ∙ mapped (nat_eq g.offset k) g.value (before k)
    ∙ chosen (nat_eq g.offset k) (first_of types g.value) (option_map (first_of types) (before k)) there
  where
    mapped : (b : Bool) (v : Constant) (o : Option Constant) → option_map (first_of types) (if b then Some v else o) ≡ (if b then Some (first_of types v) else option_map (first_of types) o)
    mapped true v o = refl
    mapped false v o = refl

differ : false ≡ true → ⊥
differ e = absurd cc

there-already : (b : Bool) (v : Value) (o : Option Value) → (b ≡ true → is_some o ≡ true) → o ≡ first_or o (if b then Some v else None)
there-already true v None h = absurd (differ (h refl))
there-already true v (Some w) h = refl
there-already false v o h = sym (first-none o)

pub kept_old : (types : Table) (g : Given) (before : ℕ → Option Constant) → is_some (before g.offset) ≡ true
    → (k : ℕ) → option_map (first_of types) (before k) ≡ first_or (option_map (first_of types) (before k)) (given_by types k g)
kept_old types g before some k =
    there-already (nat_eq g.offset k) (first_of types g.value) (option_map (first_of types) (before k))
    (λ (e : nat_eq g.offset k ≡ true). is-mapped (before k) ∙ ap (λ n. is_some (before n)) (sym (eqb-true g.offset k e)) ∙ some)
  where
    is-mapped : (o : Option Constant) → is_some (option_map (first_of types) o) ≡ is_some o
    is-mapped None = refl
    is-mapped (Some v) = refl

-- the same value at each offset gives each cell the same
pub placed_same : (types : Table) (gs : List Given) (found : ℕ → Option Constant) (cs : List Cell) → ((k : ℕ) → option_map (first_of types) (found k) ≡ given_at types k gs)
    → map {A = Cell} (λ c. value_or (zero_of c.kind) (option_map (first_of types) (found c.offset))) cs ≡ map {A = Cell} (given_to types gs) cs
placed_same types gs found [] h = refl
placed_same types gs found (c ∷ cs) h =
    ap (λ o. value_or (zero_of c.kind) o ∷ map {A = Cell} (λ (d : Cell). value_or (zero_of d.kind) (option_map (first_of types) (found d.offset))) cs) (h c.offset)
    ∙ ap (λ vs. given_to types gs c ∷ vs) (placed_same types gs found cs h)
