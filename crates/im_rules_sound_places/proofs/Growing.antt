-- Structs that are more: what is bounded by some is so by more of them.
use Rattle.std.proofs.Common.{◌≡◌, ℕ, zero, suc, ◌+◌, ◌<◌, ◌≤◌, nat_lt, List, [], ◌∷◌, ◌++◌, length, length-append, Bool, true, false, refl, sym, ap, ◌∙◌, subst, arith}
use Rattle.std.proofs.lemmas.Bool.{ltb-true, ltb-false}
use Rattle.std.proofs.lemmas.List.{length-map}
use Rattle.std.proofs.lemmas.List.Elements.{All-cons, All-nil}
use Rattle.im_ctype.specs.declared.cell.Cell.{Cell}
use Rattle.im_ctype.specs.Types.{CType, void, integer, pointer, array, unsized, struct, function, CTypes, no_types, more_types, Member, Structs, members_of, is_complete}
use Rattle.im_ctype.specs.Layout.{Layout, empty_layout, layout, layouts, with_member, moved, moved_cell, round_up, MembersAreComplete, AreCompleteFrom, AreComplete}
use Rattle.im_ctype.specs.Members.{places_from, member_cells}
use Rattle.im_ctype.proofs.CellLists.{layout-more}
use Rattle.im_ctype.proofs.MoreStructs.{complete-more}
use Rattle.im_ctype.proofs.Steps.{struct-cells}
use Rattle.im_typed.specs.Typing.{Each}
use Rattle.im_rules.specs.TypeTests.{is_complete_in}
use Rattle.im_rules.specs.Terms.{size_in}
use Rattle.im_rules_limits.specs.Limits.{size_limit}
use Rattle.im_rules_sound_expressions.specs.Bounded.{IsBounded, AreBoundedTypes, AreBoundedStructs}
use Rattle.im_rules_sound_expressions.proofs.Types.{some-cells}

pub each-weaker : {A : Type 0} (P Q : A → Type 0) (xs : List A) → ((x : A) → P x → Q x) → Each P xs → Each Q xs
each-weaker P Q [] k h = tt
each-weaker P Q (x ∷ xs) k h = (k x h.0, each-weaker P Q xs k h.1)

abbrev pub IsGoodMember : Structs → Member → Type 0
IsGoodMember ss m = IsBounded ss m.type × (is_complete_in ss m.type ≡ true)

module _ (known more : Structs) where
  pub complete-in-more : (a : CType) → is_complete_in known a ≡ true → is_complete_in (known ++ more) a ≡ true
  complete-in-more a e = let l = length-append known more in complete-more (length known) (length (known ++ more)) a (omega (arith, l)) e

  pub size-more : (a : CType) → is_complete_in known a ≡ true → size_in (known ++ more) a ≡ size_in known a
  size-more a e = ap (λ (l : Layout). l.size) (layout-more known more a e)

  mutual
    pub bounded-more : (a : CType) → IsBounded known a → IsBounded (known ++ more) a
    bounded-more void b = tt
    bounded-more (integer i) b = tt
    bounded-more (pointer c a) b = bounded-more a b
    bounded-more (array a n) b = (bounded-more a b.0, complete-in-more (array a n) b.1, subst (λ s. s ≤ size_limit) (sym (size-more (array a n) b.1)) b.2)
    bounded-more (unsized a) b = (bounded-more a b.0, complete-in-more a b.1)
    bounded-more (struct n) b = tt
    bounded-more (function r ps) b = (bounded-more r b.0, types-more ps b.1, b.2, b.3)

    types-more : (ps : CTypes) → AreBoundedTypes known ps → AreBoundedTypes (known ++ more) ps
    types-more no_types b = tt
    types-more (more_types p ps) b = (bounded-more p b.0, types-more ps b.1)

  pub members-more : (ms : List Member) → Each (IsGoodMember known) ms → Each (IsGoodMember (known ++ more)) ms
  members-more ms h = each-weaker (IsGoodMember known) (IsGoodMember (known ++ more)) ms (λ m k. (bounded-more m.type k.0, complete-in-more m.type k.1)) h

-- one struct more

all-complete : (known : Structs) (ms : List Member) → Each {A = Member} (λ m. IsBounded known m.type × (is_complete_in known m.type ≡ true)) ms → MembersAreComplete (length known) ms
all-complete known [] h = All-nil (λ (m : Member). is_complete (length known) m.type ≡ true)
all-complete known (m ∷ ms) h = All-cons (λ (m : Member). is_complete (length known) m.type ≡ true) m ms h.0.1 (all-complete known ms h.1)

complete-last : (k : ℕ) (ss : Structs) (ms : List Member) → AreCompleteFrom k ss → MembersAreComplete (k + length ss) ms → AreCompleteFrom k (ss ++ ms ∷ [])
complete-last k [] ms h q =
    let e : k + 0 ≡ k = omega arith in
    (subst (λ n. MembersAreComplete n ms) e q, tt)
complete-last k (x ∷ ss) ms h q =
    let e : k + length (x ∷ ss) ≡ suc k + length ss = omega arith in
    (h.0, complete-last (suc k) ss ms h.1 (subst (λ n. MembersAreComplete n ms) e q))

members-last : (P : Member → Type 0) (known : Structs) (ms : List Member) → ((n : ℕ) → Each P (members_of known n)) → Each P ms → (n : ℕ) → Each P (members_of (known ++ ms ∷ []) n)
members-last P [] ms h q zero = q
members-last P [] ms h q (suc n) = tt
members-last P (x ∷ known) ms h q zero = h zero
members-last P (x ∷ known) ms h q (suc n) = members-last P known ms (λ m. h (suc m)) q n

last-members : (known : Structs) (ms : List Member) → members_of (known ++ ms ∷ []) (length known) ≡ ms
last-members [] ms = refl
last-members (x ∷ known) ms = last-members known ms

first-cells : (ss : Structs) (n : ℕ) (ms : List Member) → AreComplete ss → members_of ss n ≡ ms → 0 < length ms → ((m : Member) → (rest : List Member) → ms ≡ m ∷ rest → 0 < length (layout ss m.type).cells) → 0 < length (layout ss (struct n)).cells
first-cells ss n [] h is some k = absurd (omega arith)
first-cells ss n (m ∷ ms) h is some k =
    let own = k m ms refl in
    let l = layout ss m.type in
    let rest = member_cells (layouts ss) ms (places_from (layouts ss) ms (with_member empty_layout l)) in
    let at = round_up 0 l.align in
    let cells : (layout ss (struct n)).cells ≡ moved at l.cells ++ rest =
    struct-cells ss n h ∙ ap (λ xs. member_cells (layouts ss) xs (places_from (layouts ss) xs empty_layout)) is in
    let counted = length-append (moved at l.cells) rest in
    let same = length-map {A = Cell} l.cells (moved_cell at) in
    let all = ap length cells in
    omega (arith, own, counted, same, all)

pub push-structs : (known : Structs) (ms : List Member) → AreBoundedStructs known → Each {A = Member} (λ m. IsBounded known m.type × (is_complete_in known m.type ≡ true)) ms → 0 < length ms → size_in (known ++ ms ∷ []) (struct (length known)) ≤ size_limit → AreBoundedStructs (known ++ ms ∷ [])
push-structs known ms h good some size =
    let more = ms ∷ [] in
    let ss = known ++ more in
    let zero_more : 0 + length known ≡ length known = omega arith in
    let complete : AreComplete ss = complete-last 0 known ms h.complete (subst (λ n. MembersAreComplete n ms) (sym zero_more) (all-complete known ms good)) in
    record {
      complete = complete;
      cells = λ n lt. by-number-cells n (nat_lt n (length known)) refl lt complete;
      sizes = λ n lt. by-number-sizes n (nat_lt n (length known)) refl lt;
      members = members-last (λ m. IsBounded ss m.type × (is_complete_in ss m.type ≡ true)) known ms (λ n. members-more known more (members_of known n) (h.members n)) (members-more known more ms good);
    }
  where
    own-cells : (m : Member) (rest : List Member) → ms ≡ m ∷ rest → 0 < length (layout (known ++ ms ∷ []) m.type).cells
    own-cells m rest is =
        let here : Each {A = Member} (λ m. IsBounded known m.type × (is_complete_in known m.type ≡ true)) (m ∷ rest) = subst (Each {A = Member} (λ m. IsBounded known m.type × (is_complete_in known m.type ≡ true))) is good in
        let some_there = some-cells known m.type h here.0.1 in
        subst (λ (l : Layout). 0 < length l.cells) (sym (layout-more known (ms ∷ []) m.type here.0.1)) some_there

    is-last : (n : ℕ) → nat_lt n (length known) ≡ false → n < length (known ++ ms ∷ []) → n ≡ length known
    is-last n e lt =
        let le = ltb-false n (length known) e in
        let l = length-append known (ms ∷ []) in
        omega (arith, le, l, lt)

    by-number-cells : (n : ℕ) (b : Bool) → nat_lt n (length known) ≡ b → n < length (known ++ ms ∷ []) → AreComplete (known ++ ms ∷ []) → 0 < length (layout (known ++ ms ∷ []) (struct n)).cells
    by-number-cells n true e lt complete =
        let c = h.cells n (ltb-true n (length known) e) in
        subst (λ (l : Layout). 0 < length l.cells) (sym (layout-more known (ms ∷ []) (struct n) e)) c
    by-number-cells n false e lt complete =
        subst (λ k. 0 < length (layout (known ++ ms ∷ []) (struct k)).cells) (sym (is-last n e lt))
        (first-cells (known ++ ms ∷ []) (length known) ms complete (last-members known ms) some own-cells)

    by-number-sizes : (n : ℕ) (b : Bool) → nat_lt n (length known) ≡ b → n < length (known ++ ms ∷ []) → size_in (known ++ ms ∷ []) (struct n) ≤ size_limit
    by-number-sizes n true e lt =
        subst (λ s. s ≤ size_limit) (sym (size-more known (ms ∷ []) (struct n) e)) (h.sizes n (ltb-true n (length known) e))
    by-number-sizes n false e lt = subst (λ k. size_in (known ++ ms ∷ []) (struct k) ≤ size_limit) (sym (is-last n e lt)) size
