-- One step more on the way through a unit.
use Rattle.std.proofs.Common.{◌≡◌, ℕ, ◌+◌, ◌<◌, drop, get_or, Bool, true, false, ◌&&◌, ◌||◌, List, [], ◌∷◌, ◌++◌, Option, map, reverse, length, if◌then◌else◌, refl, sym, ap, ◌∙◌}
use Rattle.std.proofs.lemmas.List.{reverse-append, drop_more}
use Rattle.im_check_name_map.specs.im_word.Words.{Name}
use Rattle.im_ctree.specs.Tree as t
use Rattle.im_ctree.specs.Shape.{specifiers_of}
use Rattle.im_ctree.specs.declared.specifier.Specifiers.{Specifiers, out-Specifiers}
use Rattle.im_check_name_map.specs.im_rules.TypeTests.{same_name}
use Rattle.im_check_name_map.specs.im_rules.Rules.{is_typedef}
use Rattle.im_check_name_map.specs.im_rules.Outline as o
use Rattle.im_ctree_parts.specs.Lists.{list_from}
use Rattle.im_check_outline.specs.Walked.{object_names, HasObjects, with_outlined, with_function, outlined_of, walk_of}
use Rattle.im_check_outline.specs.declared.item.Walk.{Walk}
use Rattle.im_ctree_parts.proofs.Shapes.{specifiers_shape}

-- whether a name is in a list doesn't depend on the order

or-first : (a b c : Bool) → (a || (b || c)) ≡ (b || (a || c))
or-first true true c = refl
or-first true false c = refl
or-first false true c = refl
or-first false false c = refl

or-none : (a : Bool) → (a || false) ≡ a
or-none true = refl
or-none false = refl

pub in-behind : (x y : Name) (ys : List Name) → o.is_in x (ys ++ y ∷ []) ≡ (same_name y x || o.is_in x ys)
in-behind x y [] = refl
in-behind x y (z ∷ zs) = ap (λ b. same_name z x || b) (in-behind x y zs) ∙ or-first (same_name z x) (same_name y x) (o.is_in x zs)

-- the defined objects, by their names
pub has-objects : (is : List o.Outlined) → HasObjects (object_names is) is
has-objects [] x = refl
has-objects (i ∷ is) x = by (o.defines_an_object i) (has-objects is x)
  where
    by : (b : Bool)
        → o.is_in x (object_names is) ≡ o.is_object_among x is
        → o.is_in x (if b then i.name ∷ object_names is else object_names is) ≡ ((b && same_name i.name x) || o.is_object_among x is)
    by true h = ap (λ b. same_name i.name x || b) h
    by false h = h

-- a declaration, by its specifiers
pub declaration-walk : (s : Specifiers) (ds : t.InitDeclarators) (w : o.Walk)
    → o.with_declarators (list_from (out-Specifiers s).items.items) ds (o.with_lists (list_from (out-Specifiers s).items.items) w) ≡ o.with_external (t.external_declaration (t.declaration (specifiers_of s) ds)) w
declaration-walk s ds w = sym (ap (λ z. o.with_external (t.external_declaration (t.declaration z ds)) w) (specifiers_shape s))

pub function-walk : (s : Specifiers) (d : t.Declarator) (b : t.Block) (w : o.Walk)
    → o.with_external (t.function_definition (t.specifiers (out-Specifiers s).at (list_from (out-Specifiers s).items.items)) d b) w ≡ o.with_external (t.function_definition (specifiers_of s) d b) w
function-walk s d b w = sym (ap (λ z. o.with_external (t.function_definition z d b) w) (specifiers_shape s))

-- one declarator more
pub declared-walk : (xs : t.SpecifierList) (d : t.Declarator) (whole : Bool) (w : o.Walk) (function typedef external : Bool) (x : Name) (sort : o.Sort)
    → function ≡ o.gives_function (o.nearest d) (o.is_in (o.typedef_in xs) w.functions)
    → typedef ≡ is_typedef xs
    → external ≡ o.is_extern xs
    → x ≡ o.name_of d
    → sort ≡ o.sort_of typedef function
    → with_outlined (record { name = x; sort = sort; is_extern = external; is_whole = whole }) (with_function (typedef && function) x w) ≡ o.with_declarator xs d whole w
declared-walk xs d whole w function typedef external x sort ef et ee ex es = λ i.
    with_outlined
    (record { name = ex i; sort = (es ∙ (λ j. o.sort_of (et j) (ef j))) i; is_extern = ee i; is_whole = whole })
    (with_function (et i && ef i) (ex i) w)

in-reversed-from : (x : Name) (ys : List Name) → o.is_in x (reverse ys) ≡ o.is_in x ys
in-reversed-from x [] = refl
in-reversed-from x (y ∷ ys) = ap (o.is_in x) (reverse-append (y ∷ []) ys) ∙ in-behind x y (reverse ys) ∙ ap (λ b. same_name y x || b) (in-reversed-from x ys)

pub in-reversed : (x : Name) (ys : List Name) → o.is_in x ys ≡ o.is_in x (reverse ys)
in-reversed x ys = sym (in-reversed-from x ys)

pub function-pushed : (is_one : Bool) (xs : List Name) (x : Name) → reverse (if is_one then xs ++ x ∷ [] else xs) ≡ (if is_one then x ∷ reverse xs else reverse xs)
function-pushed true xs x = reverse-append xs (x ∷ [])
function-pushed false xs x = refl

abbrev named_body : Name → o.Outlined
named_body x = record { name = x; sort = o.a_function; is_extern = false; is_whole = true }

pub body-outlined : (d : t.Declarator) (x : Name) → x ≡ o.name_of d → named_body x ≡ o.body_item d
body-outlined d x e = ap named_body e

pub objects-told : (is : List o.Outlined) (names : List Name) → names ≡ object_names is → HasObjects names is
objects-told is names e x = ap (o.is_in x) e ∙ has-objects is x

abbrev made : List Name → List Name → List (Option Name) → o.Outline
made statics bodies lists = record { statics = statics; bodies = bodies; lists = lists }

pub outline-made : (w : Walk) (whole : o.Walk) (statics bodies : List Name)
    → walk_of w ≡ whole
    → statics ≡ o.objects_among (map outlined_of w.items.items) [] (map outlined_of w.items.items)
    → bodies ≡ o.bodies_among (map outlined_of w.items.items)
    → made statics bodies w.lists ≡ o.outline_of whole
outline-made w whole statics bodies e s b = (λ i. made (s i) (b i) w.lists) ∙ ap o.outline_of e

-- the items from the i-th on
pub next : {X : Type 0} (xs : List X) (i : ℕ) (x : X) → i < length xs → x ≡ get_or xs i x → drop i xs ≡ x ∷ drop (i + 1) xs
next xs i x within is = drop_more xs i x within ∙ ap (λ y. y ∷ drop (i + 1) xs) (sym is)
