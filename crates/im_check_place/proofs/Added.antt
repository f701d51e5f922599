-- One struct more, and its members.
use Rattle.std.proofs.Common.{◌≡◌, ℕ, suc, ◌+◌, ◌≤◌, ◌<◌, true, List, [], ◌∷◌, ◌++◌, length, map, drop, get_or, refl, sym, ap, ◌∙◌, subst, arith, append_assoc}
use Rattle.std.proofs.lemmas.List.{map_push, length-map, append-nil, drop_more, drop_all}
use Rattle.std.proofs.lemmas.List.Elements.{All-append}
use Rattle.std.specs.List.{All}
use Rattle.im_ctype.specs.declared.member.Member as rust
use Rattle.im_ctype.specs.Kept.{AreMembersIn}
use Rattle.im_ctype.specs.Layout.{MembersAreComplete}
use Rattle.im_ctype.specs.Table.{Table, IsGrown, member_in, members_in, with_struct, structs_of, types_of}
use Rattle.im_ctype.specs.Types.{Member, Structs, is_complete}
use Rattle.im_check_scopes.specs.im_rules.Rules.{free_from, members_free}
use Rattle.im_types.proofs.Tables.{grown-twice, grown-none}
use Rattle.im_check_place.specs.declared.field.Field.{Field}
use Rattle.im_check_place.specs.Entered.{AreEntered, IsEntered}
use Rattle.im_check_place.specs.Fields.{field_of, fields_of}

-- a table with one struct more

pub struct_more : (t : Table) (ms : List rust.Member) → structs_of (with_struct t ms) ≡ structs_of t ++ members_in (types_of t) ms ∷ []
struct_more t ms = map_push {X = List rust.Member} (members_in (types_of t)) t.structs ms

pub free_more : (done : List _) (ss : Structs) (ms : List Member) → free_from done (ss ++ ms ∷ []) ≡ free_from done ss ++ members_free (free_from done ss) ms ∷ []
free_more done [] ms = refl
free_more done (s ∷ ss) ms = free_more (done ++ members_free done s ∷ []) ss ms

pub struct_count : (t : Table) → length (structs_of t) ≡ length t.structs
struct_count t = length-map {A = List rust.Member} t.structs (members_in (types_of t))

-- members of a table that grows

same_count : (a b : Table) → IsGrown a b → length b.structs ≡ length a.structs
same_count a b g = sym (struct_count b) ∙ ap length g.structs ∙ struct_count a

members_more : (n k : ℕ) (ms : List rust.Member) → n ≤ k → AreMembersIn n ms → AreMembersIn k ms
members_more n k ms le h = λ i d lt. let g = h i d lt in omega arith

members_kept : (a b : Table) (ms : List rust.Member) → IsGrown a b → AreMembersIn (length a.nodes) ms → members_in (types_of b) ms ≡ members_in (types_of a) ms
members_kept a b [] g h = refl
members_kept a b (m ∷ ms) g h =
    let lt : m.ty.0 < length a.nodes = h 0 m (omega arith) in
    let rest : AreMembersIn (length a.nodes) ms = λ i d l. h (suc i) d (omega (arith, l)) in
    let here : member_in (types_of b) m ≡ member_in (types_of a) m = ap (λ ty. record { name = m.name.items; constant = m.constant; type = ty }) (g.types m.ty lt) in
    ap (λ x. x ∷ members_in (types_of b) ms) here ∙ ap (λ xs. member_in (types_of a) m ∷ xs) (members_kept a b ms g rest)

one_more : {X : Type 0} (P : X → Type 0) (xs : List X) (x : X) → All P xs → P x → All P (xs ++ x ∷ [])
one_more P xs x h p = All-append P xs (x ∷ []) h (λ i d lt. grind (arith, p))

-- how far members are entered: their types are in the table, and those that are left stand behind them

pub record Entering (old now : Table) (fs : List Field) (i : ℕ) (ms : List rust.Member) : Type 0 where
  pub grown : IsGrown old now
  pub known : AreMembersIn (length now.nodes) ms
  pub same : members_in (types_of now) ms ++ fields_of (drop i fs) ≡ fields_of fs
  pub complete : MembersAreComplete (length now.structs) (members_in (types_of now) ms)

pub entering_none : (t : Table) (fs : List Field) → Entering t t fs 0 []
entering_none t fs = record { grown = grown-none t; known = λ i d lt. absurd (omega (arith, lt)); same = refl; complete = λ i d lt. absurd (omega (arith, lt)) }

pub next : {X : Type 0} (xs : List X) (i : ℕ) (x : X) → i < length xs → x ≡ get_or xs i x → drop i xs ≡ x ∷ drop (i + 1) xs
next xs i x below is = drop_more xs i x below ∙ ap (λ y. y ∷ drop (i + 1) xs) (sym is)

pub entering_more : {old now after : Table} {fs : List Field} {i : ℕ} {f : Field} (ms : List rust.Member) (m : rust.Member)
    → drop i fs ≡ f ∷ drop (i + 1) fs
    → Entering old now fs i ms
    → IsEntered after (field_of f) m
    → IsGrown now after
    → Entering old after fs (i + 1) (ms ++ m ∷ [])
entering_more {old = old} {now = now} {after = after} {fs = fs} {i = i} {f = f} ms m at e one g =
    let kept : members_in (types_of after) ms ≡ members_in (types_of now) ms = members_kept now after ms g e.known in
    let rest = fields_of (drop (i + 1) fs) in
    let told : members_in (types_of after) (ms ++ m ∷ []) ≡ members_in (types_of now) ms ++ field_of f ∷ [] =
    map_push (member_in (types_of after)) ms m ∙ ap (λ xs. xs ++ member_in (types_of after) m ∷ []) kept ∙ ap (λ x. members_in (types_of now) ms ++ x ∷ []) one.same in
    let longer = g.longer in
    let count : length after.structs ≡ length now.structs = same_count now after g in
    let before : MembersAreComplete (length after.structs) (members_in (types_of now) ms) = subst (λ n. MembersAreComplete n (members_in (types_of now) ms)) (sym count) e.complete in
    record {
      grown = grown-twice old now after e.grown g;
      known = one_more (λ (x : rust.Member). x.ty.0 < length after.nodes) ms m (members_more (length now.nodes) (length after.nodes) ms longer e.known) one.known;
      same = ap (λ xs. xs ++ rest) told ∙ append_assoc (members_in (types_of now) ms) (field_of f ∷ []) rest ∙ ap (λ zs. members_in (types_of now) ms ++ fields_of zs) (sym at) ∙ e.same;
      complete = subst (λ xs. MembersAreComplete (length after.structs) xs) (sym told) (one_more (λ (x : Member). is_complete (length after.structs) x.type ≡ true) (members_in (types_of now) ms) (field_of f) before one.complete);
    }

pub entering_all : {old now : Table} {fs : List Field} {i : ℕ} (ms : List rust.Member) → length fs ≤ i → Entering old now fs i ms → AreEntered now (fields_of fs) ms
entering_all {old = old} {now = now} {fs = fs} {i = i} ms past e =
    let none : drop i fs ≡ [] = drop_all i fs past in
    let same : members_in (types_of now) ms ≡ fields_of fs = sym (append-nil (members_in (types_of now) ms)) ∙ ap (λ zs. members_in (types_of now) ms ++ fields_of zs) (sym none) ∙ e.same in
    record { known = e.known; same = same; complete = subst (λ xs. MembersAreComplete (length now.structs) xs) same e.complete }
