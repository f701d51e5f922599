-- What stands in braces, one behind the other.
use Rattle.std.proofs.Common.{◌≡◌, ℕ, ◌+◌, List, [], ◌∷◌, ◌++◌, drop, refl, sym, ap, ◌∙◌, subst, append_assoc}
use Rattle.std.proofs.lemmas.List.{append-nil}
use Rattle.im_check_expressions.specs.im_word.Words.{Name}
use Rattle.im_ctree.specs.declared.declaration.Initializer as ini
use Rattle.im_ctree.specs.Tree as t
use Rattle.im_ctree.specs.Shape.{initializer_of}
use Rattle.im_ctype.specs.declared.member.MemberPlace.{MemberPlace}
use Rattle.im_ctype.specs.Members.{places}
use Rattle.im_ctype.specs.Table.{Table, structs_of}
use Rattle.im_ctype.specs.Types.{CType, Member, members_of}
use Rattle.im_check_expressions.specs.im_rules.BodyBreaks.{Given, GivenBroken, an_initialiser, some_elements, some_members, first_element, other_elements, first_member, other_members}
use Rattle.im_check_expressions.specs.im_rules.Context.{Context}
use Rattle.im_check_expressions.specs.im_rules.Initialisers as n
use Rattle.im_check_expressions.specs.im_rules.Terms.{size_in}
use Rattle.im_check_expressions.specs.im_rules_limits.Limits.{GivenSized, size_in_first_element, size_in_other_elements, size_in_first_member, size_in_other_members, IsGivenWithin}
use Rattle.im_ctree_parts.specs.Lists.{initializers_from}
use Rattle.im_check_items.specs.declared.item.Item as ri
use Rattle.im_check_items.specs.Shape.{items_in}
use Rattle.im_check_place.specs.declared.place.Place.{Place}
use Rattle.im_check_place.specs.Contexts.{context_of, behind_strings}
use Rattle.im_check_stop.specs.declared.stop.Stop.{Stop}
use Rattle.im_check_stop.specs.declared.stop.Stop.TheVariants.{Rule, Large, Memory}
use Rattle.im_check_expression_parts.proofs.Places.{behind_none, behind_two}
use Rattle.im_check_initialisers.specs.Forms.{IsMember}
use Rattle.im_check_initialisers.specs.Given.{IsGivenFault, IsInitialised, IsPut}
use Rattle.im_check_initialisers.proofs.Within.{no_element_within, element_within, no_member_within, member_within}

-- how far what stands in braces is put: whatever the rest is given, all is given these items and those; a node of the rest
-- that is at fault is one of all; and all is within the limit of sizes if the rest is
pub record Reached (All : List n.Item → Type 0) (all : Given) (strings : List Name) (before : Place) (old : List ri.Item) (Rest : List n.Item → Type 0) (rest : Given) (left : List Name) (now : Place) (new : List ri.Item) : Type 0 where
  pub added : List n.Item
  pub gives : (qs : List n.Item) → Rest qs → All (added ++ qs)
  pub breaks : (rule token : ℕ) → GivenBroken (context_of now) rest rule token → GivenBroken (context_of before) all rule token
  pub sizes : (k : ℕ) → GivenSized (context_of now) rest k → GivenSized (context_of before) all k
  pub within : IsGivenWithin (context_of now) rest → IsGivenWithin (context_of before) all
  pub items : items_in before.structs new ≡ items_in before.structs old ++ added
  pub place : behind_strings left now ≡ behind_strings strings before

pub none_put : {All : List n.Item → Type 0} {all : Given} {strings : List Name} (p : Place) (old : List ri.Item)
    → Reached All all strings p old All all strings p old
none_put p old =
    record {
      added = [];
      gives = λ qs d. d;
      breaks = λ rule token b. b;
      sizes = λ k z. z;
      within = λ h. h;
      items = sym (append-nil (items_in p.structs old));
      place = refl;
    }

pub structs_kept : {All Rest : List n.Item → Type 0} {all rest : Given} {strings left : List Name} {before now : Place} {old new : List ri.Item}
    → Reached All all strings before old Rest rest left now new
    → now.structs ≡ before.structs
structs_kept reached = ap (λ (z : Place). z.structs) reached.place

-- what holds of a node of the rest in the context there holds of all
pub reached_fault : {All Rest : List n.Item → Type 0} {all rest : Given} {strings left : List Name} {before now : Place} {old new : List ri.Item} (f : Stop)
    → Reached All all strings before old Rest rest left now new
    → IsGivenFault (context_of now) rest f
    → IsGivenFault (context_of before) all f
reached_fault (Rule rule token) reached broken = reached.breaks rule token broken
reached_fault (Large bytes) reached large = (reached.sizes bytes large.0, large.1)
reached_fault Memory reached h = tt

-- a first part is put, and the next node is what is left of the rest
record Follows (now after : Place) (rest next : Given) : Type 0 where
  pub breaks : (rule token : ℕ) → GivenBroken (context_of after) next rule token → GivenBroken (context_of now) rest rule token
  pub sizes : (k : ℕ) → GivenSized (context_of after) next k → GivenSized (context_of now) rest k
  pub within : IsGivenWithin (context_of after) next → IsGivenWithin (context_of now) rest

one_more : {All Rest Next : List n.Item → Type 0} {all rest next : Given} {strings left others : List Name} {before now after : Place} {old new newer : List ri.Item} {a : CType} {at : ℕ} {i : t.Initializer}
    → Reached All all strings before old Rest rest left now new
    → IsInitialised now a at i new after newer
    → ((ps qs : List n.Item) → n.Initialised (context_of now) a at i ps → Next qs → Rest (ps ++ qs))
    → Follows now after rest next
    → left ≡ n.strings_given (structs_of now.structs) a i ++ others
    → Reached All all strings before old Next next others after newer
one_more {All = All} {others = others} {before = before} {now = now} {old = old} {new = new} {newer = newer} {a = a} {i = i} reached done gives follows parts =
    let put : items_in before.structs newer ≡ items_in before.structs new ++ done.added =
    subst (λ (z : Table). items_in z newer ≡ items_in z new ++ done.added) (structs_kept reached) done.items in
    record {
      added = reached.added ++ done.added;
      gives = λ qs d. subst All (sym (append_assoc reached.added done.added qs)) (reached.gives (done.added ++ qs) (gives done.added qs done.given d));
      breaks = λ rule token b. reached.breaks rule token (follows.breaks rule token b);
      sizes = λ k z. reached.sizes k (follows.sizes k z);
      within = λ h. reached.within (follows.within h);
      items = put ∙ ap (λ xs. xs ++ done.added) reached.items ∙ append_assoc (items_in before.structs old) reached.added done.added;
      place = ap (behind_strings others) done.place ∙ behind_two (n.strings_given (structs_of now.structs) a i) others now ∙ ap (λ zs. behind_strings zs now) (sym parts) ∙ reached.place;
    }

all_put : {All Rest : List n.Item → Type 0} {all rest : Given} {strings left : List Name} {before now : Place} {old new : List ri.Item}
    → Reached All all strings before old Rest rest left now new
    → Rest []
    → IsGivenWithin (context_of now) rest
    → left ≡ []
    → IsPut All strings before old now new × IsGivenWithin (context_of before) all
all_put {All = All} {now = now} reached ends within none = (
  record {
    added = reached.added;
    given = subst All (append-nil reached.added) (reached.gives [] ends);
    items = reached.items;
    place = sym (behind_none now) ∙ ap (λ zs. behind_strings zs now) (sym none) ∙ reached.place;
  },
  reached.within within,
)

-- elements side by side

abbrev pub Side : Place → CType → ℕ → List ini.Initializer → List n.Item → Type 0
Side p e at xs = n.Elements (context_of p) e at (initializers_from xs)

abbrev pub side : CType → ℕ → List ini.Initializer → Given
side e at xs = some_elements e at (initializers_from xs)

abbrev pub side_strings : Place → CType → List ini.Initializer → List Name
side_strings p e xs = n.strings_among (structs_of p.structs) (n.side_by_side e) (initializers_from xs)

abbrev pub ElementsReached : Place → CType → ℕ → List ini.Initializer → List ri.Item → Place → ℕ → List ini.Initializer → List ri.Item → Type 0
ElementsReached before e start all old now at xs new =
    Reached (Side before e start all) (side e start all) (side_strings before e all) before old (Side now e at xs) (side e at xs) (side_strings now e xs) now new

-- whatever is said of the next node, behind its first element
side_follows : {now after : Place} {e : CType} {at next : ℕ} {x : ini.Initializer} {ys : List ini.Initializer} (xs : List ini.Initializer)
    → next ≡ at + size_in (structs_of now.structs) e
    → after ≡ behind_strings (n.strings_given (structs_of now.structs) e (initializer_of x)) now
    → ys ≡ x ∷ xs
    → IsGivenWithin (context_of now) (an_initialiser e at (initializer_of x))
    → Follows now after (side e at ys) (side e next xs)
side_follows {now = now} {e = e} {at = at} {x = x} xs on place from first =
    rw (on, place, from) (record {
      breaks = λ rule token b. other_elements b;
      sizes = λ k z. size_in_other_elements z;
      within = λ h. element_within first h;
    })

first_element_fault : (c : Context) (e : CType) (at : ℕ) (i : t.Initializer) (is : t.Initializers) (f : Stop)
    → IsGivenFault c (an_initialiser e at i) f
    → IsGivenFault c (some_elements e at (t.more_initializers i is)) f
first_element_fault c e at i is (Rule rule token) broken = first_element broken
first_element_fault c e at i is (Large bytes) large = (size_in_first_element large.0, large.1)
first_element_fault c e at i is Memory h = tt

pub element_more : {before now after : Place} {e : CType} {start at next each : ℕ} (i : ℕ) (all : List ini.Initializer) {x : ini.Initializer} {old new newer : List ri.Item}
    → drop i all ≡ x ∷ drop (i + 1) all
    → each ≡ size_in (structs_of before.structs) e
    → next ≡ at + each
    → ElementsReached before e start all old now at (drop i all) new
    → IsInitialised now e at (initializer_of x) new after newer × IsGivenWithin (context_of now) (an_initialiser e at (initializer_of x))
    → ElementsReached before e start all old after next (drop (i + 1) all) newer
element_more {before = before} {now = now} {after = after} {e = e} {at = at} {next = next} i all {x = x} from size on reached done =
    let xs = drop (i + 1) all in
    let behind = behind_strings (n.strings_given (structs_of now.structs) e (initializer_of x)) now in
    let far = at + size_in (structs_of now.structs) e in
    let on' : next ≡ far = on ∙ ap (λ k. at + k) (size ∙ ap (λ (z : Table). size_in (structs_of z) e) (sym (structs_kept reached))) in
    let same : after.structs ≡ now.structs = ap (λ (z : Place). z.structs) done.0.place in
    one_more reached done.0
    (λ ps qs g d.
    let d₁ : Side after e far xs qs = subst (λ k. Side after e k xs qs) on' d in
    let d₂ : Side behind e far xs qs = subst (λ (z : Place). Side z e far xs qs) done.0.place d₁ in
    let d₃ : Side now e at (x ∷ xs) (ps ++ qs) = n.an_element g d₂ in
    subst (λ ys. Side now e at ys (ps ++ qs)) (sym from) d₃)
    (side_follows xs on' done.0.place from done.1)
    (ap (side_strings now e) from ∙ ap (λ (z : Table). n.strings_given (structs_of now.structs) e (initializer_of x) ++ n.strings_among (structs_of z) (n.side_by_side e) (initializers_from xs)) (sym same))

pub element_fault : {before now : Place} {e : CType} {start at : ℕ} (i : ℕ) (all : List ini.Initializer) {x : ini.Initializer} {old new : List ri.Item} (f : Stop)
    → drop i all ≡ x ∷ drop (i + 1) all
    → ElementsReached before e start all old now at (drop i all) new
    → IsGivenFault (context_of now) (an_initialiser e at (initializer_of x)) f
    → IsGivenFault (context_of before) (some_elements e start (initializers_from all)) f
element_fault {now = now} {e = e} {at = at} i all {x = x} f from reached fault =
    reached_fault f reached (subst (λ ys. IsGivenFault (context_of now) (side e at ys) f) (sym from) (first_element_fault (context_of now) e at (initializer_of x) (initializers_from (drop (i + 1) all)) f fault))

pub elements_all : {before now : Place} {e : CType} {start at : ℕ} (i : ℕ) (all : List ini.Initializer) {old new : List ri.Item}
    → drop i all ≡ []
    → ElementsReached before e start all old now at (drop i all) new
    → IsPut (Side before e start all) (side_strings before e all) before old now new × IsGivenWithin (context_of before) (side e start all)
elements_all {now = now} {e = e} {at = at} i all ends reached =
    let none : Side now e at [] [] = n.no_element in
    let ended : IsGivenWithin (context_of now) (side e at []) = no_element_within in
    all_put reached (subst (λ ys. Side now e at ys []) (sym ends) none) (subst (λ ys. IsGivenWithin (context_of now) (side e at ys)) (sym ends) ended) (ap (side_strings now e) ends)

-- members in their order

abbrev pub Row : Place → List Member → List MemberPlace → ℕ → List ini.Initializer → List n.Item → Type 0
Row p ms os at xs = n.InMembers (context_of p) ms os at (initializers_from xs)

abbrev pub row : List Member → List MemberPlace → ℕ → List ini.Initializer → Given
row ms os at xs = some_members ms os at (initializers_from xs)

abbrev pub row_strings : Place → List Member → List ini.Initializer → List Name
row_strings p ms xs = n.strings_among (structs_of p.structs) (n.in_order ms) (initializers_from xs)

-- behind these members and places of a struct
abbrev pub RowReached : Place → List Member → List MemberPlace → ℕ → List ini.Initializer → List ri.Item → Place → List Member → List MemberPlace → List ini.Initializer → List ri.Item → Type 0
RowReached before all_ms all_os at all old now ms os xs new =
    Reached (Row before all_ms all_os at all) (row all_ms all_os at all) (row_strings before all_ms all) before old (Row now ms os at xs) (row ms os at xs) (row_strings now ms xs) now new

abbrev pub MembersReached : Place → ℕ → ℕ → List ini.Initializer → List ri.Item → Place → ℕ → List ri.Item → Type 0
MembersReached before number at all old now i new =
    RowReached before (members_of (structs_of before.structs) number) (places (structs_of before.structs) number) at all old now (drop i (members_of (structs_of before.structs) number)) (drop i (places (structs_of before.structs) number)) (drop i all) new

-- the member there, seen from the start
there : (before now : Place) {types : Table} {number i j : ℕ} {a : CType} {o : ℕ} → types ≡ now.structs → now.structs ≡ before.structs → j ≡ i → IsMember (structs_of types) number j a o → IsMember (structs_of before.structs) number i a o
there before now {number = number} {i = i} {j = j} {a = a} {o = o} at same index m =
    subst (λ k. IsMember (structs_of before.structs) number k a o) index (subst (λ (z : Table). IsMember (structs_of z) number j a o) (at ∙ same) m)

row_follows : {now after : Place} {ms : List Member} {os : List MemberPlace} {at : ℕ} {m : Member} {o : MemberPlace} (x : ini.Initializer) (xs : List ini.Initializer)
    → after ≡ behind_strings (n.strings_given (structs_of now.structs) m.type (initializer_of x)) now
    → IsGivenWithin (context_of now) (an_initialiser m.type (at + o.offset) (initializer_of x))
    → Follows now after (row (m ∷ ms) (o ∷ os) at (x ∷ xs)) (row ms os at xs)
row_follows {m = m} {o = o} x xs place first =
    rw place (record {
      breaks = λ rule token b. other_members {m = m} {o = o} b;
      sizes = λ k z. size_in_other_members {m = m} {o = o} z;
      within = λ h. member_within {m = m} {o = o} first h;
    })

row_more : {before now after : Place} {all_ms ms : List Member} {all_os os : List MemberPlace} {at : ℕ} (all xs : List ini.Initializer) (x : ini.Initializer) {m : Member} {o : MemberPlace} {old new newer : List ri.Item}
    → RowReached before all_ms all_os at all old now (m ∷ ms) (o ∷ os) (x ∷ xs) new
    → IsInitialised now m.type (at + o.offset) (initializer_of x) new after newer × IsGivenWithin (context_of now) (an_initialiser m.type (at + o.offset) (initializer_of x))
    → RowReached before all_ms all_os at all old after ms os xs newer
row_more {now = now} {after = after} {ms = ms} {os = os} {at = at} all xs x {m = m} {o = o} reached done =
    let behind = behind_strings (n.strings_given (structs_of now.structs) m.type (initializer_of x)) now in
    let same : after.structs ≡ now.structs = ap (λ (z : Place). z.structs) done.0.place in
    one_more reached done.0
    (λ ps qs g d.
    let d₁ : Row behind ms os at xs qs = subst (λ (z : Place). Row z ms os at xs qs) done.0.place d in
    n.a_member {m = m} {o = o} g d₁)
    (row_follows {m = m} {o = o} x xs done.0.place done.1)
    (ap (λ (z : Table). n.strings_given (structs_of now.structs) m.type (initializer_of x) ++ n.strings_among (structs_of z) (n.in_order ms) (initializers_from xs)) (sym same))

first_member_fault : (c : Context) (m : Member) (o : MemberPlace) (at : ℕ) (i : t.Initializer) (ms : List Member) (os : List MemberPlace) (is : t.Initializers) (f : Stop)
    → IsGivenFault c (an_initialiser m.type (at + o.offset) i) f
    → IsGivenFault c (some_members (m ∷ ms) (o ∷ os) at (t.more_initializers i is)) f
first_member_fault c m o at i ms os is (Rule rule token) broken = first_member {m = m} {o = o} broken
first_member_fault c m o at i ms os is (Large bytes) large = (size_in_first_member {m = m} {o = o} large.0, large.1)
first_member_fault c m o at i ms os is Memory h = tt

-- the rest by its first
opened : {before now : Place} {number at i : ℕ} (all : List ini.Initializer) {x : ini.Initializer} {a : CType} {off : ℕ} {old new : List ri.Item}
    → drop i all ≡ x ∷ drop (i + 1) all
    → (m : IsMember (structs_of before.structs) number i a off)
    → MembersReached before number at all old now i new
    → RowReached before (members_of (structs_of before.structs) number) (places (structs_of before.structs) number) at all old now (m.member ∷ drop (i + 1) (members_of (structs_of before.structs) number)) (m.place ∷ drop (i + 1) (places (structs_of before.structs) number)) (x ∷ drop (i + 1) all) new
opened {before = before} {now = now} {number = number} {at = at} {i = i} all {x = x} {old = old} {new = new} from m reached =
    let all_ms = members_of (structs_of before.structs) number in
    let all_os = places (structs_of before.structs) number in
    let r₁ = subst (λ (ms : List Member). RowReached before all_ms all_os at all old now ms (drop i all_os) (drop i all) new) m.members_from reached in
    let r₂ = subst (λ (os : List MemberPlace). RowReached before all_ms all_os at all old now (m.member ∷ drop (i + 1) all_ms) os (drop i all) new) m.places_from r₁ in
    subst (λ (xs : List ini.Initializer). RowReached before all_ms all_os at all old now (m.member ∷ drop (i + 1) all_ms) (m.place ∷ drop (i + 1) all_os) xs new) from r₂

pub member_more : {before now after : Place} {types : Table} {number at offset i j : ℕ} (all : List ini.Initializer) {x : ini.Initializer} {a : CType} {off : ℕ} {old new newer : List ri.Item}
    → drop i all ≡ x ∷ drop (i + 1) all
    → types ≡ now.structs
    → j ≡ i
    → IsMember (structs_of types) number j a off
    → offset ≡ at + off
    → MembersReached before number at all old now i new
    → IsInitialised now a offset (initializer_of x) new after newer × IsGivenWithin (context_of now) (an_initialiser a offset (initializer_of x))
    → MembersReached before number at all old after (i + 1) newer
member_more {before = before} {now = now} {after = after} {at = at} {i = i} all {x = x} {a = a} {new = new} {newer = newer} from table index known on reached done =
    let m = there before now table (structs_kept reached) index known in
    let Done : CType → ℕ → Type 0 = λ b k. IsInitialised now b k (initializer_of x) new after newer × IsGivenWithin (context_of now) (an_initialiser b k (initializer_of x)) in
    let d₁ = subst (λ k. Done a k) (on ∙ ap (λ k. at + k) m.offset_is) done in
    let d₂ = subst (λ b. Done b (at + m.place.offset)) m.type d₁ in
    row_more all (drop (i + 1) all) x (opened all from m reached) d₂

pub member_fault : {before now : Place} {types : Table} {number at offset i j : ℕ} (all : List ini.Initializer) {x : ini.Initializer} {a : CType} {off : ℕ} {old new : List ri.Item} (f : Stop)
    → drop i all ≡ x ∷ drop (i + 1) all
    → types ≡ now.structs
    → j ≡ i
    → IsMember (structs_of types) number j a off
    → offset ≡ at + off
    → MembersReached before number at all old now i new
    → IsGivenFault (context_of now) (an_initialiser a offset (initializer_of x)) f
    → IsGivenFault (context_of before) (some_members (members_of (structs_of before.structs) number) (places (structs_of before.structs) number) at (initializers_from all)) f
member_fault {before = before} {now = now} {number = number} {at = at} {i = i} all {x = x} {a = a} f from table index known on reached fault =
    let m = there before now table (structs_kept reached) index known in
    let ms = drop (i + 1) (members_of (structs_of before.structs) number) in
    let os = drop (i + 1) (places (structs_of before.structs) number) in
    let f₁ = subst (λ k. IsGivenFault (context_of now) (an_initialiser a k (initializer_of x)) f) (on ∙ ap (λ k. at + k) m.offset_is) fault in
    let f₂ = subst (λ b. IsGivenFault (context_of now) (an_initialiser b (at + m.place.offset) (initializer_of x)) f) m.type f₁ in
    reached_fault f (opened all from m reached) (first_member_fault (context_of now) m.member m.place at (initializer_of x) ms os (initializers_from (drop (i + 1) all)) f f₂)

pub members_all : {before now : Place} {at : ℕ} (number i : ℕ) (all : List ini.Initializer) {old new : List ri.Item}
    → drop i all ≡ []
    → MembersReached before number at all old now i new
    → IsPut (Row before (members_of (structs_of before.structs) number) (places (structs_of before.structs) number) at all) (row_strings before (members_of (structs_of before.structs) number) all) before old now new × IsGivenWithin (context_of before) (row (members_of (structs_of before.structs) number) (places (structs_of before.structs) number) at all)
members_all {before = before} {now = now} {at = at} number i all ends reached =
    let ms = drop i (members_of (structs_of before.structs) number) in
    let os = drop i (places (structs_of before.structs) number) in
    let none : Row now ms os at [] [] = n.no_member in
    let ended : IsGivenWithin (context_of now) (row ms os at []) = no_member_within in
    all_put reached (subst (λ ys. Row now ms os at ys []) (sym ends) none) (subst (λ ys. IsGivenWithin (context_of now) (row ms os at ys)) (sym ends) ended) (ap (row_strings now ms) ends)
