-- One part more, by the string literals that stand in it.
use Rattle.std.proofs.Common.{◌≡◌, ℕ, ◌+◌, ◌<◌, List, [], ◌++◌, length, drop, get_or, Result, Ok, Err, OnOk, refl, sym, ap, ◌∙◌, append_assoc}
use Rattle.std.proofs.lemmas.List.{append-nil}
use Rattle.im_check_texts.specs.im_word.Words.{Name}
use Rattle.im_ctree.specs.declared.declaration.Initializer as ini
use Rattle.im_ctree.specs.Shape.{initializer_of}
use Rattle.im_ctype.specs.Types.{CType, Member, Structs}
use Rattle.im_check_texts.specs.im_rules.Initialisers.{Slots, in_order, first_slot, other_slots, strings_given, strings_among}
use Rattle.im_ctree_parts.specs.Lists.{initializers_from}
use Rattle.im_check_texts.proofs.Places.{items_from, others_on}

-- behind the string literals of two parts
pub joined : (before inner xs ys zs : List Name) → zs ≡ xs ++ ys → inner ≡ before ++ xs → inner ++ ys ≡ before ++ zs
joined before inner xs ys zs e f = ap (λ ts. ts ++ ys) f ∙ append_assoc before xs ys ∙ ap (λ ts. before ++ ts) (sym e)

-- a part of one that has others behind it
pub passing : {R : Type 0} (before after xs : List Name) (whole others : R → List Name)
    → ((rest : R) → whole rest ≡ xs ++ others rest)
    → after ≡ before ++ xs
    → (rest : R) → after ++ others rest ≡ before ++ whole rest
passing before after xs whole others e f rest = joined before after xs (others rest) (whole rest) (e rest) f

-- two parts of one that has others behind it
pub both_passing : {R : Type 0} (before inner after xs ys : List Name) (whole others : R → List Name)
    → ((rest : R) → whole rest ≡ xs ++ (ys ++ others rest))
    → inner ≡ before ++ xs
    → after ≡ inner ++ ys
    → (rest : R) → after ++ others rest ≡ before ++ whole rest
both_passing before inner after xs ys whole others e f g rest =
    joined inner after ys (others rest) (ys ++ others rest) refl g ∙ joined before inner xs (ys ++ others rest) (whole rest) (e rest) f

-- what follows from an answer without a fault
pub on_ok : {T E A B : Type 0} (r : Result T E) → (A → B) → OnOk r A → OnOk r B
on_ok (Ok x) f a = f a
on_ok (Err e) f a = tt

pub passed : (before after whole xs rest : List Name) → before ++ (xs ++ rest) ≡ whole → after ≡ before ++ xs → after ++ rest ≡ whole
passed before after whole xs rest e f = ap (λ ts. ts ++ rest) f ∙ append_assoc before xs rest ∙ e

-- no string literals
pub none_more : (before xs : List Name) → xs ≡ [] → before ≡ before ++ xs
none_more before xs e = sym (append-nil before) ∙ ap (λ ts. before ++ ts) (sym e)

abbrev left : Structs → Slots → List ini.Initializer → List Name
left known k is = strings_among known k (initializers_from is)

-- one member more
pub member_more : (known : Structs) (ms : List Member) (xs : List ini.Initializer) (i j : ℕ) (before after whole : List Name) (x : ini.Initializer) (a : CType) → i < length xs → x ≡ get_or xs i x
    → a ≡ first_slot (in_order (drop j ms))
    → before ++ left known (in_order (drop j ms)) (drop i xs) ≡ whole
    → after ≡ before ++ strings_given known a (initializer_of x)
    → after ++ left known (in_order (drop (j + 1) ms)) (drop (i + 1) xs) ≡ whole
member_more known ms xs i j before after whole x a within is there so_far this =
    let e = ap (λ z. before ++ left known (in_order (drop j ms)) z) (items_from xs i x within is) in
    let given : after ≡ before ++ strings_given known (first_slot (in_order (drop j ms))) (initializer_of x) =
    this ∙ ap (λ b. before ++ strings_given known b (initializer_of x)) there in
    let on = passed before after whole (strings_given known (first_slot (in_order (drop j ms))) (initializer_of x)) (strings_among known (other_slots (in_order (drop j ms))) (initializers_from (drop (i + 1) xs))) (sym e ∙ so_far) given in
    ap (λ k. after ++ left known k (drop (i + 1) xs)) (sym (others_on ms j)) ∙ on
