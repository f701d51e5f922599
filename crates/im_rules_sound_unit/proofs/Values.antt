-- The statics of a unit's program: their sizes, and their first values.
use Rattle.std.proofs.Common.{◌≡◌, ℕ, zero, suc, ◌+◌, ◌-◌, ◌*◌, ◌/◌, ◌≤◌, List, [], ◌∷◌, ◌++◌, length, map, Bool, true, false, refl, sym, ap, ◌∙◌, subst, arith}
use Rattle.std.specs.Prelude.{Option, Some, None, slice_get, nat_eq, is_some, if◌then◌else◌}
use Rattle.std.specs.List.{fold}
use Rattle.std.proofs.lemmas.Bool.{eqb-true}
use Rattle.std.proofs.lemmas.Int.{ints}
use Rattle.im_num.specs.declared.kind.Kind.{Kind}
use Rattle.im_num.specs.declared.kind.Kind.TheVariants.{I8, U8, I16, U16, I32, U32, Ptr}
use Rattle.im_word.specs.Words.{Name}
use Rattle.im_store.specs.Objects.{Value, kind_at}
use Rattle.im_store.specs.Statics.{StaticObject}
use Rattle.im_ctype.specs.declared.cell.Cell.{Cell}
use Rattle.im_ctype.specs.declared.integer.Integer.TheVariants.{Char}
use Rattle.im_ctype.specs.Types.{CType, integer, array, Structs}
use Rattle.im_ctype.specs.Layout.{layout, repeated, scalar_layout}
use Rattle.im_typed.specs.Limits.{static_bytes}
use Rattle.im_typed.specs.Program.{Scalar, Piece, Func, Prog}
use Rattle.im_typed.specs.Values.{cells_of}
use Rattle.im_typed.specs.Typing.{Each, IsPieceOf, StandAmong, IsObject, IsFirstValue, AreFirstValues, IsTypedStatic}
use Rattle.im_rules.specs.TypeTests.{same_name, is_complete_in}
use Rattle.im_rules.specs.Outline.{Outline}
use Rattle.im_rules.specs.Scopes.{Entity, an_object, a_function, an_enumerator, a_typedef, Storage, static_object, local_object, meaning}
use Rattle.im_rules.specs.Terms.{size_in}
use Rattle.im_rules.specs.StaticValues.{static_value, zero_of, value_or, cell_value, cell_values}
use Rattle.im_rules.specs.FileScope.{FilePlace, object_type, size_of_type, size_of_string, static_size}
use Rattle.im_rules.specs.TypedUnit.{FirstValues, given_to, values_or_zero, layout_of_type, static_named, byte_value, string_static, string_statics, program}
use Rattle.im_rules_sound_expressions.specs.Written.{AreBytes, AllBytes}
use Rattle.im_rules_sound_expressions.proofs.Types.{same-name-is, complete-is-object}
use Rattle.im_rules_sound_places.proofs.Growing.{size-more}
use Rattle.im_rules_sound_places.specs.Places.{IsFileEntity, IsFine, Grows}
use Rattle.im_rules_sound_places.proofs.Files.{entity-at}
use Rattle.im_rules_sound_unit.proofs.Constants.{static-good}

-- lists

get-mapped : (h : Name → StaticObject) (xs : List Name) (rest : List StaticObject) (n : ℕ) (x : Name) → slice_get xs n ≡ Some x → slice_get (map h xs ++ rest) n ≡ Some (h x)
get-mapped h [] rest n x e = absurd (cc)
get-mapped h (y ∷ xs) rest zero x e = let same : y ≡ x = cc in ap (λ z. Some (h z)) same
get-mapped h (y ∷ xs) rest (suc n) x e = get-mapped h xs rest n x e

get-past : (h : Name → StaticObject) (xs : List Name) (rest : List StaticObject) (n : ℕ) → slice_get xs n ≡ None → slice_get (map h xs ++ rest) n ≡ slice_get rest (n - length xs)
get-past h [] rest n e = ap (slice_get rest) (omega arith)
get-past h (y ∷ xs) rest zero e = absurd (cc)
get-past h (y ∷ xs) rest (suc n) e =
    let same : suc n - length (y ∷ xs) ≡ n - length xs = omega arith in
    get-past h xs rest n e ∙ ap (slice_get rest) (sym same)

get-front : (xs ys : List Name) (n : ℕ) (x : Name) → slice_get xs n ≡ Some x → slice_get (xs ++ ys) n ≡ Some x
get-front [] ys n x e = absurd (cc)
get-front (y ∷ xs) ys zero x e = e
get-front (y ∷ xs) ys (suc n) x e = get-front xs ys n x e

-- the string at a place, and its size
string-size : (known : Structs) (k : ℕ) (ss : List Name) (m : ℕ) (s : Name) (o : StaticObject) → slice_get ss m ≡ Some s → slice_get (string_statics known k ss) m ≡ Some o → length s + 1 ≤ o.size
string-size known k [] m s o e q = absurd (cc)
string-size known k (x ∷ ss) zero s o e q =
    let same : x ≡ s = cc in
    let here : string_static known k x ≡ o = cc in
    let size : (length x + 1) * 1 ≡ o.size = ap (λ (z : StaticObject). z.size) here in
    let l : length x ≡ length s = ap length same in
    omega (arith, size, l)
string-size known k (x ∷ ss) (suc m) s o e q = string-size known (k + 1) ss m s o e q

-- sizes

size-named : (f : FilePlace) (n : ℕ) (x : Name) → slice_get f.context.unit.statics n ≡ Some x → static_size f n ≡ size_of_type f.context.known (object_type (meaning f.context.scopes x))
size-named f n x e = rw e refl

size-string : (f : FilePlace) (n : ℕ) → slice_get f.context.unit.statics n ≡ None → static_size f n ≡ size_of_string (slice_get f.strings (n - length f.context.unit.statics))
size-string f n e = rw e refl

size-later : (f e : FilePlace) (a : CType) → Grows f e → is_complete_in f.context.known a ≡ true → size_in e.context.known a ≡ size_in f.context.known a
size-later f e a g c = ap (λ k. size_in k a) g.known ∙ size-more f.context.known g.more a c

object-complete : (known : Structs) (unit : Outline) (x : Name) (k : Bool) (a : CType) (s : Storage) → IsFileEntity known unit x (an_object k a s) → is_complete_in known a ≡ true
object-complete known unit x k a (static_object n) h = h.1
object-complete known unit x k a (local_object n) h = absurd h

-- what a static seems to have at an earlier place is no more than it has
pub static-fits : (f e : FilePlace) (gs : List FirstValues) (ks : List Func) → IsFine f → Grows f e → (n : ℕ) (o : StaticObject) → slice_get (program e gs ks).statics n ≡ Some o → static_size f n ≤ o.size
static-fits f e gs ks h g n o is = by-name (slice_get f.context.unit.statics n) refl
  where
    rest : List StaticObject
    rest = string_statics e.context.known 1 e.strings

    there : slice_get (map (static_named e gs) f.context.unit.statics ++ rest) n ≡ Some o
    there = ap (λ u. slice_get (map (static_named e gs) u.statics ++ rest) n) (sym g.unit) ∙ is

    by-meaning : (x : Name) (m : Option Entity) → meaning f.context.scopes x ≡ m → size_of_type f.context.known (object_type m) ≤ (layout_of_type e.context.known (object_type (meaning e.context.scopes x))).size
    by-meaning x None q = omega arith
    by-meaning x (Some (an_object k a s)) q =
        let own = object-complete f.context.known f.context.unit x k a s (entity-at f x (an_object k a s) h q) in
        let later = g.means x (an_object k a s) q in
        subst (λ m. size_in f.context.known a ≤ (layout_of_type e.context.known (object_type m)).size) (sym later) (let same = size-later f e a g own in omega (arith, same))
    by-meaning x (Some (a_function c k a)) q = omega arith
    by-meaning x (Some (an_enumerator z)) q = omega arith
    by-meaning x (Some (a_typedef k a)) q = omega arith

    by-string : (m : Option Name) → slice_get f.strings (n - length f.context.unit.statics) ≡ m → slice_get rest (n - length f.context.unit.statics) ≡ Some o → size_of_string m ≤ o.size
    by-string None q k = omega arith
    by-string (Some s) q k =
        let all : slice_get e.strings (n - length f.context.unit.statics) ≡ Some s = ap (λ z. slice_get z (n - length f.context.unit.statics)) g.strings ∙ get-front f.strings g.words (n - length f.context.unit.statics) s q in
        string-size e.context.known 1 e.strings (n - length f.context.unit.statics) s o all k

    by-name : (m : Option Name) → slice_get f.context.unit.statics n ≡ m → static_size f n ≤ o.size
    by-name (Some x) q =
        let same : static_named e gs x ≡ o = let k = get-mapped (static_named e gs) f.context.unit.statics rest n x q in let w = there in cc in
        let size : (layout_of_type e.context.known (object_type (meaning e.context.scopes x))).size ≡ o.size = ap (λ (z : StaticObject). z.size) same in
        let own = size-named f n x q in
        let le = by-meaning x (meaning f.context.scopes x) refl in
        omega (arith, size, own, le)
    by-name None q =
        let k = sym (get-past (static_named e gs) f.context.unit.statics rest n q) ∙ there in
        let own = size-string f n q in
        let le = by-string (slice_get f.strings (n - length f.context.unit.statics)) refl k in
        omega (arith, own, le)

-- each static is an object of the language, since all together are within the limit
each-from : (a : ℕ) (xs : List StaticObject) → fold {A = StaticObject} {B = ℕ} (λ b (o : StaticObject). b + (o.size + 1 + 3) / 4 * 4) a xs ≤ 1048576 → (a ≤ 1048576) × Each {A = StaticObject} (λ o. o.size ≤ 1048576) xs
each-from a [] h = (h, tt)
each-from a (o ∷ xs) h =
    let rest = each-from (a + (o.size + 1 + 3) / 4 * 4) xs h in
    let all = rest.0 in
    (omega (arith, all), (omega (arith, all), rest.1))

pub each-small : (xs : List StaticObject) → static_bytes xs ≤ 1048576 → Each {A = StaticObject} (λ o. o.size ≤ 1048576) xs
each-small xs h = (each-from 0 xs h).1

-- first values

zero-good : (statics : List StaticObject) (k : Kind) → IsFirstValue statics k (zero_of k)
zero-good statics Ptr = refl
zero-good statics I8 = (tt, record { low = omega (arith, ints); high = omega (arith, ints) })
zero-good statics U8 = (tt, record { low = omega (arith, ints); high = omega (arith, ints) })
zero-good statics I16 = (tt, record { low = omega (arith, ints); high = omega (arith, ints) })
zero-good statics U16 = (tt, record { low = omega (arith, ints); high = omega (arith, ints) })
zero-good statics I32 = (tt, record { low = omega (arith, ints); high = omega (arith, ints) })
zero-good statics U32 = (tt, record { low = omega (arith, ints); high = omega (arith, ints) })

zeros-good : (statics : List StaticObject) (cs : List Cell) → AreFirstValues statics cs (map {A = Cell} (λ c. zero_of c.kind) cs)
zeros-good statics [] = tt
zeros-good statics (c ∷ cs) = (zero-good statics c.kind, zeros-good statics cs)

module _ (g : Prog) (f : Func) (size : ℕ → ℕ) (fits : (n : ℕ) (o : StaticObject) → slice_get g.statics n ≡ Some o → size n ≤ o.size) (whole : List Cell) where
  abbrev IsGiven : Piece → Type 0
  IsGiven p = is_some (static_value size p.value) ≡ true

  piece-good : (c : Cell) (p : Piece) → kind_at whole (0 + c.offset) ≡ Some c.kind → p.offset ≡ c.offset → IsPieceOf g f whole p → IsGiven p → IsFirstValue g.statics c.kind (value_or (zero_of c.kind) (static_value size p.value))
  piece-good c p there same h given = by-value (static_value size p.value) refl given
    where
      by-value : (m : Option Value) → static_value size p.value ≡ m → is_some m ≡ true → IsFirstValue g.statics c.kind (value_or (zero_of c.kind) m)
      by-value None is k = absurd (cc)
      by-value (Some v) is k =
          let good = static-good g f size fits p.value h.1 v is in
          let access : p.access ≡ Scalar good.kind = let a = h.2 in let b = good.shape in cc in
          let stands : StandAmong whole p.offset (cells_of (Scalar good.kind)) = subst (λ x. StandAmong whole p.offset (cells_of x)) access h.3 in
          let offset : p.offset + 0 ≡ 0 + c.offset = omega (arith, same) in
          let kinds : good.kind ≡ c.kind = let a = stands.0 in let b = ap (kind_at whole) offset in let d = there in cc in
          subst (λ k. IsFirstValue g.statics k v) kinds good.first

  cell-good : (c : Cell) → kind_at whole (0 + c.offset) ≡ Some c.kind → (ps : List Piece) → Each (IsPieceOf g f whole) ps → Each IsGiven ps → IsFirstValue g.statics c.kind (cell_value size c ps)
  cell-good c there [] h k = zero-good g.statics c.kind
  cell-good c there (p ∷ ps) h k = by-offset (nat_eq p.offset c.offset) refl (cell-good c there ps h.1 k.1)
    where
      by-offset : (b : Bool) → nat_eq p.offset c.offset ≡ b → IsFirstValue g.statics c.kind (cell_value size c ps) → IsFirstValue g.statics c.kind (if b then value_or (zero_of c.kind) (static_value size p.value) else cell_value size c ps)
      by-offset true is rest = piece-good c p there (eqb-true p.offset c.offset is) h.0 k.0
      by-offset false is rest = rest

  pub values-good : (cs : List Cell) → StandAmong whole 0 cs → (ps : List Piece) → Each (IsPieceOf g f whole) ps → Each IsGiven ps → AreFirstValues g.statics cs (cell_values size cs ps)
  values-good [] s ps h k = tt
  values-good (c ∷ cs) s ps h k = (cell-good c s.0 ps h k, values-good cs s.1 ps h k)

-- string literals

byte-good : (statics : List StaticObject) (b : ℕ) → b ≤ 255 → IsFirstValue statics U8 (byte_value b)
byte-good statics b le = (tt, record { low = omega (arith, ints); high = omega (arith, ints) })

bytes-good : (statics : List StaticObject) (at : ℕ) (s : Name) → AreBytes s → AreFirstValues statics (repeated at (suc (length s)) (scalar_layout U8)) (map byte_value s ++ byte_value 0 ∷ [])
bytes-good statics at [] w = (byte-good statics 0 (omega arith), tt)
bytes-good statics at (b ∷ s) w = (byte-good statics b w.0, bytes-good statics (at + 1) s w.1)

string-good : (statics : List StaticObject) (known : Structs) (k : ℕ) (s : Name) → AreBytes s → (string_static known k s).size ≤ 1048576 → IsTypedStatic statics (string_static known k s)
string-good statics known k s w le =
    let count : suc (length s) ≡ length s + 1 = omega arith in (
      complete-is-object known (array (integer Char) (length s + 1)) le,
      subst (λ n. AreFirstValues statics (repeated 0 n (scalar_layout U8)) (map byte_value s ++ byte_value 0 ∷ [])) count (bytes-good statics 0 s w),
    )

pub strings-good : (statics : List StaticObject) (known : Structs) (k : ℕ) (ss : List Name) → AllBytes ss → Each {A = StaticObject} (λ o. o.size ≤ 1048576) (string_statics known k ss) → Each (IsTypedStatic statics) (string_statics known k ss)
strings-good statics known k [] w h = tt
strings-good statics known k (s ∷ ss) w h = (string-good statics known k s w.0 h.0, strings-good statics known (k + 1) ss w.1 h.1)

-- objects

-- the values that an initialiser gives are those of its object
pub record IsGivenTo (statics : List StaticObject) (e : FilePlace) (v : FirstValues) : Type 0 where
  pub constant : Bool
  pub type : CType
  pub storage : Storage
  pub means : meaning e.context.scopes v.name ≡ Some (an_object constant type storage)
  pub values : AreFirstValues statics (layout e.context.known type).cells v.values

given-found : (statics : List StaticObject) (e : FilePlace) (gs : List FirstValues) (x : Name) (vs : List Value) → Each (IsGivenTo statics e) gs → given_to x gs ≡ Some vs → IsGivenTo statics e (record { name = x; values = vs })
given-found statics e [] x vs h is = absurd (cc)
given-found statics e (v ∷ gs) x vs h is = by-name (same_name v.name x) refl is (λ k. given-found statics e gs x vs h.1 k)
  where
    by-name : (b : Bool) → same_name v.name x ≡ b → (if b then Some v.values else given_to x gs) ≡ Some vs → (given_to x gs ≡ Some vs → IsGivenTo statics e (record { name = x; values = vs })) → IsGivenTo statics e (record { name = x; values = vs })
    by-name true n k later =
        let same : v.values ≡ vs = cc in
        record {
          constant = h.0.constant;
          type = h.0.type;
          storage = h.0.storage;
          means = ap (meaning e.context.scopes) (sym (same-name-is v.name x n)) ∙ h.0.means;
          values = subst (AreFirstValues statics (layout e.context.known h.0.type).cells) same h.0.values;
        }
    by-name false n k later = later k

named-good : (statics : List StaticObject) (e : FilePlace) (gs : List FirstValues) (x : Name) → Each (IsGivenTo statics e) gs → (static_named e gs x).size ≤ 1048576 → IsTypedStatic statics (static_named e gs x)
named-good statics e gs x h le = by-type (object_type (meaning e.context.scopes x)) refl le
  where
    first : (a : Option CType) → object_type (meaning e.context.scopes x) ≡ a → (r : Option (List Value)) → given_to x gs ≡ r → AreFirstValues statics (layout_of_type e.context.known a).cells (values_or_zero (layout_of_type e.context.known a).cells r)
    first a is None q = zeros-good statics (layout_of_type e.context.known a).cells
    first a is (Some vs) q =
        let own = given-found statics e gs x vs h q in
        let same : a ≡ Some own.type = sym is ∙ ap object_type own.means in
        subst (λ b. AreFirstValues statics (layout_of_type e.context.known b).cells vs) (sym same) own.values

    by-type : (a : Option CType) → object_type (meaning e.context.scopes x) ≡ a → (layout_of_type e.context.known a).size ≤ 1048576 → IsObject (layout_of_type e.context.known a).size (layout_of_type e.context.known a).cells × AreFirstValues statics (layout_of_type e.context.known a).cells (values_or_zero (layout_of_type e.context.known a).cells (given_to x gs))
    by-type None is le = ((omega arith, omega arith), first None is (given_to x gs) refl)
    by-type (Some a) is le = (complete-is-object e.context.known a le, first (Some a) is (given_to x gs) refl)

named-all : (statics : List StaticObject) (e : FilePlace) (gs : List FirstValues) (xs : List Name) → Each (IsGivenTo statics e) gs → Each {A = StaticObject} (λ o. o.size ≤ 1048576) (map (static_named e gs) xs) → Each (IsTypedStatic statics) (map (static_named e gs) xs)
named-all statics e gs [] h le = tt
named-all statics e gs (x ∷ xs) h le = (named-good statics e gs x h le.0, named-all statics e gs xs h le.1)

split-each : {A : Type 0} (P : A → Type 0) (xs ys : List A) → Each P (xs ++ ys) → Each P xs × Each P ys
split-each P [] ys h = (tt, h)
split-each P (x ∷ xs) ys h = let rest = split-each P xs ys h.1 in ((h.0, rest.0), rest.1)

pub join-each : {A : Type 0} (P : A → Type 0) (xs ys : List A) → Each P xs → Each P ys → Each P (xs ++ ys)
join-each P [] ys h k = k
join-each P (x ∷ xs) ys h k = (h.0, join-each P xs ys h.1 k)

pub statics-good : (e : FilePlace) (gs : List FirstValues) (ks : List Func) → IsFine e → Each (IsGivenTo (program e gs ks).statics e) gs → static_bytes (program e gs ks).statics ≤ 1048576 → Each (IsTypedStatic (program e gs ks).statics) (program e gs ks).statics
statics-good e gs ks h given le =
    let statics = (program e gs ks).statics in
    let named = map (static_named e gs) e.context.unit.statics in
    let strings = string_statics e.context.known 1 e.strings in
    let small = split-each {A = StaticObject} (λ o. o.size ≤ 1048576) named strings (each-small statics le) in
    join-each (IsTypedStatic statics) named strings (named-all statics e gs e.context.unit.statics given small.0) (strings-good statics e.context.known 1 e.strings h.bytes small.1)
