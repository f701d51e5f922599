-- Objects, statics and functions of a table that grows.
use Rattle.std.proofs.Common.{◌≡◌, ℕ, suc, ◌+◌, ◌≤◌, ◌<◌, List, [], ◌∷◌, ◌++◌, length, map, take, get_or, length-take, refl, sym, ap, ◌∙◌, subst, arith}
use Rattle.std.specs.Prelude.{Some, slice_get, Vec, ℤ, pos, codes, decimal}
use Rattle.std.specs.Global.{Global}
use Rattle.std.proofs.lemmas.Option.{slice_get-get_or}
use Rattle.std.proofs.lemmas.List.{map_push, length-map, take_more, take_all}
use Rattle.std.proofs.lemmas.List.Elements.{All-push}
use Rattle.std.specs.List.{All}
use Rattle.im_ctype.specs.Layout.{Layout, layout}
use Rattle.im_ctype.specs.Table.{Table, IsIn, IsGrown, type_at, layout_of, structs_of}
use Rattle.im_ctype.specs.declared.integer.Integer.TheVariants.{Char}
use Rattle.im_ctype.specs.Types.{Structs, CType, array, integer}
use Rattle.im_check_defined.specs.im_store.Objects.{Value, Number}
use Rattle.im_check_defined.specs.im_store.Statics.{StaticObject}
use Rattle.im_typed.specs.declared.program.Constant.{Constant}
use Rattle.im_typed.specs.declared.program.Constant.TheVariants as rc
use Rattle.im_typed.specs.declared.program.Object.{Object}
use Rattle.im_typed.specs.declared.program.Static.{Static}
use Rattle.im_typed.specs.declared.program.Func.{Func}
use Rattle.im_typed.specs.Program.{LocalObject}
use Rattle.im_typed.specs.ProgramOf.{object_of, static_of, first_of}
use Rattle.im_types.specs.Shape.{type_of}
use Rattle.im_types.proofs.Tables.{grown-twice, grown-none}
use Rattle.im_check_defined.specs.im_rules.Statements as s
use Rattle.im_check_defined.specs.im_rules.FileScope.{FilePlace, object_type}
use Rattle.im_check_defined.specs.im_rules.Scopes.{meaning}
use Rattle.im_check_defined.specs.im_rules.TypedUnit as u
use Rattle.im_check_file_place.specs.Files.{bytes_of}
use Rattle.im_check_sites.specs.declared.body.Local.{Local}
use Rattle.im_check_sites.specs.Sites.{object_in, objects_in}
use Rattle.im_check_defined.specs.declared.function.Defined.{Defined}
use Rattle.im_check_defined.proofs.Constants.{same_values}
use Rattle.im_check_program.specs.Known.{KnowObjects, IsObjectOf, IsStaticOf, AreStaticsOf, IsFunctionOf, AreFunctionsOf}

-- what stays

stays_in : (a b : Table) → IsGrown a b → (ty : _) → IsIn a ty → IsIn b ty
stays_in a b g ty h = let le = g.longer in omega arith

layout_stays : (a b : Table) → IsGrown a b → (ty : _) → IsIn a ty → layout_of b ty ≡ layout_of a ty
layout_stays a b g ty h = ap (λ (k : Structs). layout k (type_at b ty)) g.structs ∙ ap (λ (t : CType). layout (structs_of a) t) (g.types ty h)

object_stays : (a b : Table) → IsGrown a b → (o : Object) → IsIn a o.ty → object_of b o ≡ object_of a o
object_stays a b g o h = ap (λ (l : Layout). record { name = o.name.items; size = o.size; cells = l.cells }) (layout_stays a b g o.ty h)

static_stays : (a b : Table) → IsGrown a b → (o : Static) → IsIn a o.object.ty → static_of b o ≡ static_of a o
static_stays a b g o h =
    let cells : static_of b o ≡ record { name = o.object.name.items; size = o.object.size; cells = (layout_of a o.object.ty).cells; first = map {A = Constant} (first_of b) o.cells.items } = ap (λ (l : Layout). record { name = o.object.name.items; size = o.object.size; cells = l.cells; first = map {A = Constant} (first_of b) o.cells.items }) (layout_stays a b g o.object.ty h) in
    cells ∙ ap (λ (vs : List Value). record { name = o.object.name.items; size = o.object.size; cells = (layout_of a o.object.ty).cells; first = vs }) (same_values b a o.cells.items)

objects_stay : (a b : Table) → IsGrown a b → (os : List Object) → KnowObjects a os → map (object_of b) os ≡ map (object_of a) os
objects_stay a b g [] h = refl
objects_stay a b g (o ∷ os) h =
    let here : IsIn a o.ty = h 0 o (omega arith) in
    let rest : KnowObjects a os = λ i x lt. h (suc i) x (omega (arith, lt)) in
    ap (λ (x : LocalObject). x ∷ map (object_of b) os) (object_stays a b g o here) ∙ ap (λ (xs : List LocalObject). object_of a o ∷ xs) (objects_stay a b g os rest)

know_stays : (a b : Table) → IsGrown a b → (os : List Object) → KnowObjects a os → KnowObjects b os
know_stays a b g os h = λ i x lt. let le = g.longer in let is = h i x lt in omega arith

-- an object that is made

pub object_made : (a b : Table) (o : Object) (x : List ℕ) (t : CType) → IsGrown a b → IsIn b o.ty → type_at b o.ty ≡ t → o.name.items ≡ x → o.size ≡ (layout (structs_of a) t).size
    → IsObjectOf b (s.object_of (structs_of a) x t) o
object_made a b o x t g known is named sized =
    let l : layout_of b o.ty ≡ layout (structs_of a) t = ap (λ (k : Structs). layout k (type_at b o.ty)) g.structs ∙ ap (λ (u : CType). layout (structs_of a) u) is in
    let n : object_of b o ≡ record { name = x; size = o.size; cells = (layout_of b o.ty).cells } = ap (λ (y : List ℕ). record { name = y; size = o.size; cells = (layout_of b o.ty).cells }) named in
    let z : object_of b o ≡ record { name = x; size = (layout (structs_of a) t).size; cells = (layout_of b o.ty).cells } = n ∙ ap (λ (k : ℕ). record { name = x; size = k; cells = (layout_of b o.ty).cells }) sized in
    record { known = known; same = z ∙ ap (λ (m : Layout). record { name = x; size = (layout (structs_of a) t).size; cells = m.cells }) l }

-- how far the objects of a function are made

pub record ObjectsMade (old now : Table) (read : List Local) (os : List Object) : Type 0 where
  pub grown : IsGrown old now
  pub known : KnowObjects now os
  pub same : map (object_of now) os ≡ objects_in old read

pub objects_none : (t : Table) → ObjectsMade t t [] []
objects_none t = record { grown = grown-none t; known = λ i x lt. absurd (omega (arith, lt)); same = refl }

pub objects_more : {old now after : Table} {read : List Local} (l : Local) (os : List Object) (o : Object) → ObjectsMade old now read os
    → IsObjectOf after (s.object_of (structs_of now) l.name.items (type_of l.ty)) o → IsGrown now after
    → ObjectsMade old after (read ++ l ∷ []) (os ++ o ∷ [])
objects_more {old = old} {now = now} {after = after} {read = read} l os o m one g =
    let kept : map (object_of after) os ≡ objects_in old read = objects_stay now after g os m.known ∙ m.same in
    let made : object_of after o ≡ object_in old l = one.same ∙ ap (λ (k : Structs). s.object_of k l.name.items (type_of l.ty)) m.grown.structs in
    let all : map (object_of after) (os ++ o ∷ []) ≡ objects_in old read ++ object_in old l ∷ [] =
    map_push (object_of after) os o ∙ ap (λ (xs : List LocalObject). xs ++ object_of after o ∷ []) kept ∙ ap (λ (x : LocalObject). objects_in old read ++ x ∷ []) made in
    record {
      grown = grown-twice old now after m.grown g;
      known = All-push (λ (x : Object). IsIn after x.ty) os o (know_stays now after g os m.known) one.known;
      same = all ∙ sym (map_push {X = Local} (object_in old) read l);
    }

-- statics

statics_stay : (a b : Table) → IsGrown a b → (xs : List StaticObject) (os : List Static) → AreStaticsOf a xs os → AreStaticsOf b xs os
statics_stay a b g [] [] h = tt
statics_stay a b g [] (o ∷ os) h = absurd h
statics_stay a b g (x ∷ xs) [] h = absurd h
statics_stay a b g (x ∷ xs) (o ∷ os) h =
    (record { known = stays_in a b g o.object.ty h.0.known; same = static_stays a b g o h.0.known ∙ h.0.same }, statics_stay a b g xs os h.1)

statics_push : (t : Table) (xs : List StaticObject) (os : List Static) (x : StaticObject) (o : Static) → AreStaticsOf t xs os → IsStaticOf t x o → AreStaticsOf t (xs ++ x ∷ []) (os ++ o ∷ [])
statics_push t [] [] x o h one = (one, tt)
statics_push t [] (p ∷ os) x o h one = absurd h
statics_push t (y ∷ xs) [] x o h one = absurd h
statics_push t (y ∷ xs) (p ∷ os) x o h one = (h.0, statics_push t xs os x o h.1 one)

pub statics_both : (t : Table) (xs ys : List StaticObject) (os ps : List Static) → AreStaticsOf t xs os → AreStaticsOf t ys ps → AreStaticsOf t (xs ++ ys) (os ++ ps)
statics_both t [] ys [] ps h k = k
statics_both t [] ys (o ∷ os) ps h k = absurd h
statics_both t (x ∷ xs) ys [] ps h k = absurd h
statics_both t (x ∷ xs) ys (o ∷ os) ps h k = (h.0, statics_both t xs ys os ps h.1 k)

pub statics_later : (a b : Table) (xs : List StaticObject) (os : List Static) → IsGrown a b → AreStaticsOf a xs os → AreStaticsOf b xs os
statics_later a b xs os g h = statics_stay a b g xs os h

pub statics_more : (now after : Table) (xs : List StaticObject) (os : List Static) (x : StaticObject) (o : Static) → AreStaticsOf now xs os → IsGrown now after → IsStaticOf after x o
    → AreStaticsOf after (xs ++ x ∷ []) (os ++ o ∷ [])
statics_more now after xs os x o h g one = statics_push after xs os x o (statics_stay now after g xs os h) one

pub static_made : (b : Table) (known : Structs) (o : Object) (cells : List Constant) (x : List ℕ) (t : CType) (vs : List Value) (made : Static) → IsObjectOf b (s.object_of known x t) o → made.object ≡ o
    → map {A = Constant} (first_of b) made.cells.items ≡ vs
    → IsStaticOf b (record { name = x; size = (layout known t).size; cells = (layout known t).cells; first = vs }) made
static_made b known o cells x t vs made h is first =
    let whole : object_of b made.object ≡ s.object_of known x t = ap (object_of b) is ∙ h.same in
    let told : static_of b made ≡ record { name = x; size = (layout known t).size; cells = (layout known t).cells; first = map {A = Constant} (first_of b) made.cells.items } =
    ap (λ (l : LocalObject). record { name = l.name; size = l.size; cells = l.cells; first = map {A = Constant} (first_of b) made.cells.items }) whole in
    record { known = subst (λ (p : Object). IsIn b p.ty) (sym is) h.known; same = told ∙ ap (λ (ws : List Value). record { name = x; size = (layout known t).size; cells = (layout known t).cells; first = ws }) first }

-- functions

function_stays : (old a b : Table) (f : Defined) (g : Func) → IsGrown a b → IsFunctionOf old a f g → IsFunctionOf old b f g
function_stays old a b f g m h = record { name = h.name; params = h.params; result = h.result; body = h.body; objects = objects_stay a b m g.objects.items h.known ∙ h.objects; known = know_stays a b m g.objects.items h.known }

functions_stay : (old a b : Table) → IsGrown a b → (fs : List Defined) (gs : List Func) → AreFunctionsOf old a fs gs → AreFunctionsOf old b fs gs
functions_stay old a b m [] [] h = tt
functions_stay old a b m [] (g ∷ gs) h = absurd h
functions_stay old a b m (f ∷ fs) [] h = absurd h
functions_stay old a b m (f ∷ fs) (g ∷ gs) h = (function_stays old a b f g m h.0, functions_stay old a b m fs gs h.1)

functions_push : (old now : Table) (fs : List Defined) (gs : List Func) (f : Defined) (g : Func) → AreFunctionsOf old now fs gs → IsFunctionOf old now f g → AreFunctionsOf old now (fs ++ f ∷ []) (gs ++ g ∷ [])
functions_push old now [] [] f g h one = (one, tt)
functions_push old now [] (k ∷ gs) f g h one = absurd h
functions_push old now (e ∷ fs) [] f g h one = absurd h
functions_push old now (e ∷ fs) (k ∷ gs) f g h one = (h.0, functions_push old now fs gs f g h.1 one)

objects_by : (a b : Table) → structs_of b ≡ structs_of a → (ls : List Local) → objects_in b ls ≡ objects_in a ls
objects_by a b e [] = refl
objects_by a b e (l ∷ ls) = ap (λ (k : Structs). s.object_of k l.name.items (type_of l.ty) ∷ objects_in b ls) e ∙ ap (λ (xs : List LocalObject). object_in a l ∷ xs) (objects_by a b e ls)

pub functions_earlier : (old now after : Table) (fs : List Defined) (gs : List Func) → IsGrown old now → AreFunctionsOf now after fs gs → AreFunctionsOf old after fs gs
functions_earlier old now after [] [] g h = tt
functions_earlier old now after [] (k ∷ gs) g h = absurd h
functions_earlier old now after (f ∷ fs) [] g h = absurd h
functions_earlier old now after (f ∷ fs) (k ∷ gs) g h =
    let m = h.0 in
    (record { name = m.name; params = m.params; result = m.result; body = m.body; objects = m.objects ∙ objects_by old now g.structs f.objects.items; known = m.known }, functions_earlier old now after fs gs g h.1)

pub functions_more : (old now after : Table) (fs : List Defined) (gs : List Func) (f : Defined) (k : Func) → AreFunctionsOf old now fs gs → IsGrown old now → IsGrown now after → IsFunctionOf now after f k
    → AreFunctionsOf old after (fs ++ f ∷ []) (gs ++ k ∷ [])
functions_more old now after fs gs f k h g m one =
    let by : IsFunctionOf old after f k = record { name = one.name; params = one.params; result = one.result; body = one.body; objects = one.objects ∙ objects_by old now g.structs f.objects.items; known = one.known } in
    functions_push old after fs gs f k (functions_stay old now after m fs gs h) by

-- statics of a unit

pub is_static : (known : Structs) (b : Table) (e : FilePlace) (gs : List u.FirstValues) (x : List ℕ) (t : CType) (o : Object) (made : Static) → e.context.known ≡ known → object_type (meaning e.context.scopes x) ≡ Some t
    → IsObjectOf b (s.object_of known x t) o → made.object ≡ o → map {A = Constant} (first_of b) made.cells.items ≡ u.values_or_zero (u.cells_in known t) (u.given_to x gs)
    → IsStaticOf b (u.static_named e gs x) made
is_static known b e gs x t o made same is object made_of cells =
    let l : u.layout_of_type e.context.known (object_type (meaning e.context.scopes x)) ≡ layout known t = ap (λ (k : Structs). u.layout_of_type k (object_type (meaning e.context.scopes x))) same ∙ ap (u.layout_of_type known) is in
    let whole : IsStaticOf b (record { name = x; size = (layout known t).size; cells = (layout known t).cells; first = u.values_or_zero (layout known t).cells (u.given_to x gs) }) made =
    static_made b known o made.cells.items x t (u.values_or_zero (layout known t).cells (u.given_to x gs)) made object made_of cells in
    subst (λ (m : Layout). IsStaticOf b (record { name = x; size = m.size; cells = m.cells; first = u.values_or_zero m.cells (u.given_to x gs) }) made) (sym l) whole

pub next_static : (old now after : Table) (e : FilePlace) (gs : List u.FirstValues) (xs : List (List ℕ)) (i : ℕ) (os : List Static) (o : Static) → i < length xs
    → IsGrown old now → e.context.known ≡ structs_of old
    → AreStaticsOf now (map (u.static_named e gs) (take i xs)) os → IsGrown now after
    → ((x : List ℕ) → e.context.known ≡ structs_of now → slice_get xs i ≡ Some x → IsStaticOf after (u.static_named e gs x) o)
    → AreStaticsOf after (map (u.static_named e gs) (take (i + 1) xs)) (os ++ o ∷ [])
next_static old now after e gs xs i os o lt grown known h more one =
    let x = get_or xs i [] in
    let at : slice_get xs i ≡ Some x = slice_get-get_or xs i [] lt in
    let here : IsStaticOf after (u.static_named e gs x) o = one x (known ∙ sym grown.structs) at in
    let split : take (i + 1) xs ≡ take i xs ++ x ∷ [] = take_more xs i [] lt in
    let mapped : map (u.static_named e gs) (take (i + 1) xs) ≡ map (u.static_named e gs) (take i xs) ++ u.static_named e gs x ∷ [] =
    ap (map (u.static_named e gs)) split ∙ map_push (u.static_named e gs) (take i xs) x in
    subst (λ ys. AreStaticsOf after ys (os ++ o ∷ [])) (sym mapped) (statics_more now after (map (u.static_named e gs) (take i xs)) os (u.static_named e gs x) o h more here)

-- string literals

strings_push : (known : Structs) (k : ℕ) (ss : List (List ℕ)) (x : List ℕ) → u.string_statics known k (ss ++ x ∷ []) ≡ u.string_statics known k ss ++ u.string_static known (k + length ss) x ∷ []
strings_push known k [] x = ap (λ (n : ℕ). u.string_static known n x ∷ []) (omega arith)
strings_push known k (y ∷ ss) x =
    let n : k + 1 + length ss ≡ k + length (y ∷ ss) = omega arith in
    ap (λ os. u.string_static known k y ∷ os) (strings_push known (k + 1) ss x ∙ ap (λ (m : ℕ). u.string_statics known (k + 1) ss ++ u.string_static known m x ∷ []) n)

pub next_string : (old now after : Table) (texts : List (Vec ℕ Global)) (i n : ℕ) (text : Vec ℕ Global) (os : List Static) (o : Static) → i < length texts → text ≡ get_or texts i text → n ≡ 1 + i
    → IsGrown old now → AreStaticsOf now (u.string_statics (structs_of old) 1 (bytes_of (take i texts))) os → IsGrown now after
    → IsStaticOf after (u.string_static (structs_of now) n text.items) o
    → AreStaticsOf after (u.string_statics (structs_of old) 1 (bytes_of (take (i + 1) texts))) (os ++ o ∷ [])
next_string old now after texts i n text os o lt is number grown h more one =
    let split : take (i + 1) texts ≡ take i texts ++ text ∷ [] = take_more texts i text lt ∙ ap (λ z. take i texts ++ z ∷ []) (sym is) in
    let bytes : bytes_of (take (i + 1) texts) ≡ bytes_of (take i texts) ++ text.items ∷ [] = ap bytes_of split ∙ map_push (λ (z : Vec ℕ Global). z.items) (take i texts) text in
    let count : length (bytes_of (take i texts)) ≡ i = length-map (take i texts) (λ (z : Vec ℕ Global). z.items) ∙ taken texts i lt in
    let whole : u.string_statics (structs_of old) 1 (bytes_of (take (i + 1) texts)) ≡ u.string_statics (structs_of old) 1 (bytes_of (take i texts)) ++ u.string_static (structs_of old) n text.items ∷ [] =
    ap (u.string_statics (structs_of old) 1) bytes ∙ strings_push (structs_of old) 1 (bytes_of (take i texts)) text.items
    ∙ ap (λ (m : ℕ). u.string_statics (structs_of old) 1 (bytes_of (take i texts)) ++ u.string_static (structs_of old) m text.items ∷ []) (ap (λ (m : ℕ). 1 + m) count ∙ sym number) in
    let here : IsStaticOf after (u.string_static (structs_of old) n text.items) o = subst (λ (k : Structs). IsStaticOf after (u.string_static k n text.items) o) grown.structs one in
    subst (λ ys. AreStaticsOf after ys (os ++ o ∷ [])) (sym whole) (statics_more now after (u.string_statics (structs_of old) 1 (bytes_of (take i texts))) os (u.string_static (structs_of old) n text.items) o h more here)
  where
    taken : (xs : List (Vec ℕ Global)) (j : ℕ) → j < length xs → length (take j xs) ≡ j
    taken xs j l = simp length-take (omega arith)

pub strings_all : (old now : Table) (texts : List (Vec ℕ Global)) (i : ℕ) (os : List Static) → length texts ≤ i → AreStaticsOf now (u.string_statics (structs_of old) 1 (bytes_of (take i texts))) os
    → AreStaticsOf now (u.string_statics (structs_of old) 1 (bytes_of texts)) os
strings_all old now texts i os past h = subst (λ ts. AreStaticsOf now (u.string_statics (structs_of old) 1 (bytes_of ts)) os) (take_all i texts past) h

pub statics_all : (now : Table) (e : FilePlace) (gs : List u.FirstValues) (xs : List (List ℕ)) (i : ℕ) (os : List Static) → length xs ≤ i → AreStaticsOf now (map (u.static_named e gs) (take i xs)) os → AreStaticsOf now (map (u.static_named e gs) xs) os
statics_all now e gs xs i os past h = subst (λ ys. AreStaticsOf now (map (u.static_named e gs) ys) os) (take_all i xs past) h

pub byte_more : (types : Table) (text : List ℕ) (i : ℕ) (cs : List Constant) (d : Constant) → i < length text → first_of types d ≡ u.byte_value (get_or text i 0) → map {A = Constant} (first_of types) cs ≡ map u.byte_value (take i text)
    → map {A = Constant} (first_of types) (cs ++ d ∷ []) ≡ map u.byte_value (take (i + 1) text)
byte_more types text i cs d lt e h =
    map_push (first_of types) cs d ∙ ap (λ (vs : List Value). vs ++ first_of types d ∷ []) h ∙ ap (λ (v : Value). map u.byte_value (take i text) ++ v ∷ []) e
    ∙ sym (map_push u.byte_value (take i text) (get_or text i 0)) ∙ ap (map u.byte_value) (sym (take_more text i 0 lt))

pub zero_behind : (types : Table) (text : List ℕ) (i : ℕ) (cs : List Constant) → length text ≤ i → map {A = Constant} (first_of types) cs ≡ map u.byte_value (take i text)
    → map {A = Constant} (first_of types) (cs ++ rc.Number (pos 0) ∷ []) ≡ map u.byte_value text ++ u.byte_value 0 ∷ []
zero_behind types text i cs past h = map_push (first_of types) cs (rc.Number (pos 0)) ∙ ap (λ (vs : List Value). vs ++ Number (pos 0) ∷ []) (h ∙ ap (map u.byte_value) (take_all i text past))

pub text_made : (known : Structs) (b : Table) (n : ℕ) (text : List ℕ) (bytes : ℕ) (ty : CType) (x : List ℕ) (o : Object) (made : Static) → bytes ≡ length text + 1 → ty ≡ array (integer Char) bytes → x ≡ codes "$" ++ decimal n
    → IsObjectOf b (s.object_of known x ty) o → made.object ≡ o → map {A = Constant} (first_of b) made.cells.items ≡ map u.byte_value text ++ u.byte_value 0 ∷ []
    → IsStaticOf b (u.string_static known n text) made
text_made known b n text bytes ty x o made count is named object made_of cells =
    let whole : ty ≡ array (integer Char) (length text + 1) = is ∙ ap (array (integer Char)) count in
    let typed : IsObjectOf b (s.object_of known x (array (integer Char) (length text + 1))) o = subst (λ (t : CType). IsObjectOf b (s.object_of known x t) o) whole object in
    let there : IsObjectOf b (s.object_of known (codes "$" ++ decimal n) (array (integer Char) (length text + 1))) o = subst (λ (y : List ℕ). IsObjectOf b (s.object_of known y (array (integer Char) (length text + 1))) o) named typed in
    static_made b known o made.cells.items (codes "$" ++ decimal n) (array (integer Char) (length text + 1)) (map u.byte_value text ++ u.byte_value 0 ∷ []) made there made_of cells
