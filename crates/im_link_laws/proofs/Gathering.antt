-- The accesses and causes of blocks as they are laid are those of the blocks.
use Rattle.std.proofs.Common.{◌≡◌, ◌⊎◌, inl, inr, ℕ, zero, suc, List, [], ◌∷◌, ◌++◌, Option, Some, None, length, refl, sym, ap, ◌∙◌, subst}
use Rattle.std.specs.Prelude.{slice_get}
use Rattle.std.proofs.lemmas.Option.{slice_get_within}
use Rattle.im_num.specs.declared.values.Cause.{Cause}
use Rattle.im_num.specs.declared.values.Cause.TheVariants.{Dep}
use Rattle.im_block.specs.declared.code.Block.{Block}
use Rattle.im_block.specs.Wellformed.{accesses_of_lines, accesses_of_blocks}
use Rattle.im_select.specs.Emitted.{laid_order}
use Rattle.im_select.specs.Selects.{causes_of_lines, causes_of_blocks, if_found, blocks_at, laid_blocks}
use Rattle.im_select.proofs.Ordering.{Among, order_all}
use Rattle.im_link_laws.specs.Laws.{Within, NamesOwn}

-- an element of a list
abbrev pub Member : {A : Type 0} → List A → A → Type 0
Member xs a = (k : ℕ) × (slice_get xs k ≡ Some a)

-- what each block gives, in order
abbrev pub gather : {A : Type 0} → (Block → List A) → List Block → List A
gather g [] = []
gather g (block ∷ blocks) = g block ++ gather g blocks

pub accesses_gathered : (blocks : List Block) → accesses_of_blocks blocks ≡ gather (λ (b : Block). accesses_of_lines b.lines.items) blocks
accesses_gathered [] = refl
accesses_gathered (block ∷ blocks) = ap (λ z. accesses_of_lines block.lines.items ++ z) (accesses_gathered blocks)

pub causes_gathered : (blocks : List Block) → causes_of_blocks blocks ≡ gather (λ (b : Block). causes_of_lines b.lines.items) blocks
causes_gathered [] = refl
causes_gathered (block ∷ blocks) = ap (λ z. causes_of_lines block.lines.items ++ z) (causes_gathered blocks)

member_left : {A : Type 0} (xs ys : List A) (k : ℕ) (a : A) → slice_get xs k ≡ Some a → slice_get (xs ++ ys) k ≡ Some a
member_left [] ys k a e = absurd cc
member_left (x ∷ xs) ys zero a e = e
member_left (x ∷ xs) ys (suc k) a e = member_left xs ys k a e

member_right : {A : Type 0} (xs ys : List A) (a : A) → Member ys a → Member (xs ++ ys) a
member_right [] ys a m = m
member_right (x ∷ xs) ys a m = let r = member_right xs ys a m in (suc r.0, r.1)

member_either : {A : Type 0} (xs ys : List A) (k : ℕ) (a : A) → slice_get (xs ++ ys) k ≡ Some a → Member xs a ⊎ Member ys a
member_either [] ys k a e = inr (k, e)
member_either (x ∷ xs) ys zero a e = inl (0, e)
member_either (x ∷ xs) ys (suc k) a e = elim (member_either xs ys k a e) [ inl m ↦ inl (suc m.0, m.1) | inr m ↦ inr m ]

-- what a block of the list gives is gathered, and nothing else
pub gathered : {A : Type 0} (g : Block → List A) (blocks : List Block) (b : ℕ) (block : Block) (a : A) → slice_get blocks b ≡ Some block → Member (g block) a → Member (gather g blocks) a
gathered g [] b block a e m = absurd cc
gathered g (x ∷ xs) zero block a e m =
    let same : x ≡ block = cc in
    subst (λ z. Member (g z ++ gather g xs) a) (sym same) (m.0, member_left (g block) (gather g xs) m.0 a m.1)
gathered g (x ∷ xs) (suc b) block a e m = member_right (g x) (gather g xs) a (gathered g xs b block a e m)

pub record Source {A : Type 0} (g : Block → List A) (blocks : List Block) (a : A) : Type 0 where
  pub b : ℕ
  pub block : Block
  pub there : slice_get blocks b ≡ Some block
  pub is : Member (g block) a

pub source : {A : Type 0} (g : Block → List A) (blocks : List Block) (k : ℕ) (a : A) → slice_get (gather g blocks) k ≡ Some a → Source g blocks a
source g [] k a e = absurd cc
source g (x ∷ xs) k a e = elim (member_either (g x) (gather g xs) k a e) [
  | inl m ↦ record { b = 0; block = x; there = refl; is = m }
  | inr m ↦ (let r = source g xs m.0 a m.1 in record { b = suc r.b; block = r.block; there = r.there; is = r.is })
]

-- ---- the blocks in an order are those of the list

found : (block : Option Block) (rest : List Block) (j : ℕ) (x : Block) → slice_get (if_found block rest) j ≡ Some x → (block ≡ Some x) ⊎ Member rest x
found None rest j x e = inr (j, e)
found (Some block) rest zero x e = inl e
found (Some block) rest (suc j) x e = inr (j, e)

from_order : (blocks : List Block) (order : List ℕ) (j : ℕ) (x : Block) → slice_get (blocks_at blocks order) j ≡ Some x → Member blocks x
from_order blocks [] j x e = absurd cc
from_order blocks (b ∷ rest) j x e = elim (found (slice_get blocks b) (blocks_at blocks rest) j x e) [ inl q ↦ (b, q) | inr m ↦ from_order blocks rest m.0 x m.1 ]

behind : (block : Option Block) (rest : List Block) (x : Block) → Member rest x → Member (if_found block rest) x
behind None rest x m = m
behind (Some block) rest x m = (suc m.0, m.1)

to_order : (blocks : List Block) (order : List ℕ) (b : ℕ) (x : Block) → Among order b → slice_get blocks b ≡ Some x → Member (blocks_at blocks order) x
to_order blocks [] b x a e = absurd a
to_order blocks (c ∷ rest) b x a e = elim a [
  | inl s ↦ (0, ap (λ o. slice_get (if_found o (blocks_at blocks rest)) 0) (ap (slice_get blocks) s ∙ e))
  | inr r ↦ behind (slice_get blocks c) (blocks_at blocks rest) x (to_order blocks rest b x r e)
]

pub laid_from : {A : Type 0} (g : Block → List A) (entry : ℕ) (blocks : List Block) (a : A) → Member (gather g (laid_blocks entry blocks)) a → Member (gather g blocks) a
laid_from g entry blocks a m =
    let r = source g (laid_blocks entry blocks) m.0 a m.1 in
    let q = from_order blocks (laid_order entry (length blocks)) r.b r.block r.there in
    gathered g blocks q.0 r.block a q.1 r.is

pub laid_to : {A : Type 0} (g : Block → List A) (entry : ℕ) (blocks : List Block) (a : A) → Member (gather g blocks) a → Member (gather g (laid_blocks entry blocks)) a
laid_to g entry blocks a m =
    let r = source g blocks m.0 a m.1 in
    let q = to_order blocks (laid_order entry (length blocks)) r.b r.block (order_all entry (length blocks) r.b (slice_get_within blocks r.b r.block r.there)) r.there in
    gathered g (laid_blocks entry blocks) q.0 r.block a q.1 r.is

-- so dependences of laid blocks name their accesses, where those of the blocks do
pub laid_names : (entry : ℕ) (blocks : List Block) → NamesOwn (causes_of_blocks blocks) (accesses_of_blocks blocks) → NamesOwn (causes_of_blocks (laid_blocks entry blocks)) (accesses_of_blocks (laid_blocks entry blocks))
laid_names entry blocks h = λ k read write e.
    let laid : List Block = laid_blocks entry blocks in
    let causes : Block → List Cause = λ b. causes_of_lines b.lines.items in
    let accesses : Block → List ℕ = λ b. accesses_of_lines b.lines.items in
    let m = laid_from causes entry blocks (Dep read write) (k, ap (λ z. slice_get z k) (sym (causes_gathered laid)) ∙ e) in
    let n = h m.0 read write (ap (λ z. slice_get z m.0) (causes_gathered blocks) ∙ m.1) in
    let there : (x : ℕ) → Within (accesses_of_blocks blocks) x → Within (accesses_of_blocks laid) x = (λ x w.
    let r = laid_to accesses entry blocks x (w.0, ap (λ z. slice_get z w.0) (sym (accesses_gathered blocks)) ∙ w.1) in (r.0, ap (λ z. slice_get z r.0) (accesses_gathered laid) ∙ r.1)) in
    (there read n.0, there write n.1)
