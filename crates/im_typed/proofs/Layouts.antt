-- How structs and objects lie once there are more structs.
use Rattle.std.proofs.Common.{◌≡◌, ℕ, ◌<◌, true, List, [], ◌∷◌, ◌++◌, length, zero, suc, refl, sym, ap, ◌∙◌, subst, arith, append_assoc}
use Rattle.std.proofs.lemmas.List.{append-nil}
use Rattle.im_ctype.specs.Built.{built, built_from}
use Rattle.im_ctype.specs.Types.{CType, Structs, is_complete}
use Rattle.im_ctype.specs.Layout.{Layout, struct_in, layouts, layout, layout_at, layout_in}
use Rattle.im_ctype.proofs.CellLists.{layout_in-more}
use Rattle.im_ctype.proofs.Building.{length-built}
use Rattle.im_typed.specs.StructsLaws.{IsLonger}

-- what is built of a longer list begins with what is built of the shorter one
pub record Begins {B : Type 0} (xs ys : List B) : Type 0 where
  pub rest : List B
  pub whole : ys ≡ xs ++ rest

begins_more : {B : Type 0} (xs ys : List B) (y : B) → Begins (xs ++ y ∷ []) ys → Begins xs ys
begins_more xs ys y b = record { rest = y ∷ b.rest; whole = b.whole ∙ append_assoc xs (y ∷ []) b.rest }

built_begins : {A B : Type 0} (build : List B → A → B) (done : List B) (ys : List A) → Begins done (built_from build done ys)
built_begins build done [] = record { rest = []; whole = sym (append-nil done) }
built_begins build done (y ∷ ys) = begins_more done _ (build done y) (built_begins build (done ++ build done y ∷ []) ys)

built_joined : {A B : Type 0} (build : List B → A → B) (done : List B) (xs ys : List A) → built_from build done (xs ++ ys) ≡ built_from build (built_from build done xs) ys
built_joined build done [] ys = refl
built_joined build done (x ∷ xs) ys = built_joined build (done ++ build done x ∷ []) xs ys

pub built_longer : {A B : Type 0} (build : List B → A → B) (xs ys : List A) → Begins (built build xs) (built build (xs ++ ys))
built_longer build xs ys =
    let b = built_begins build (built build xs) ys in
    record { rest = b.rest; whole = built_joined build [] xs ys ∙ b.whole }

layouts_longer : (before after : Structs) → IsLonger before after → Begins (layouts before) (layouts after)
layouts_longer before after l = subst (λ (z : Structs). Begins (layouts before) (layouts z)) (sym l.structs) (built_longer struct_in before l.more)

-- an object of a complete type
pub same_layout : (before after : Structs) (a : CType) → IsLonger before after → is_complete (length before) a ≡ true → layout after a ≡ layout before a
same_layout before after a l h =
    let b = layouts_longer before after l in
    ap (λ z. layout_in z a) b.whole ∙ layout_in-more (layouts before) b.rest a (subst (λ n. is_complete n a ≡ true) (sym (length-built struct_in before)) h)

-- a struct that has a cell
pub same_struct : (before after : Structs) (n : ℕ) → IsLonger before after → 0 < length (layout_at (layouts before) n).cells → layout_at (layouts after) n ≡ layout_at (layouts before) n
same_struct before after n l some =
    let b = layouts_longer before after l in
    ap (λ z. layout_at z n) b.whole ∙ standing (layouts before) b.rest n some
  where
    standing : (xs ys : List Layout) (n : ℕ) → 0 < length (layout_at xs n).cells → layout_at (xs ++ ys) n ≡ layout_at xs n
    standing [] ys n some = absurd (omega arith)
    standing (x ∷ xs) ys zero some = refl
    standing (x ∷ xs) ys (suc n) some = standing xs ys n some
