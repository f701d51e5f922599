-- Which objects may be registers: what lives at the starts of blocks is closed, and no line breaks them.
use Rattle.std.proofs.Common.{◌≡◌, ℕ, zero, suc, ◌+◌, ◌-◌, ◌<◌, ◌≤◌, Bool, true, false, List, [], ◌∷◌, ◌++◌, Some, sym, ◌∙◌, subst, arith, length, get_or, take, drop}
use Rattle.std.specs.Prelude.{slice_index, All, ◌||◌, not, bit_or}
use Rattle.std.proofs.lemmas.List.Elements.{All-weaker, All-more}
use Rattle.std.proofs.lemmas.Option.{slice_get-get_or}
use Rattle.im_block.specs.declared.code.Line.{Line}
use Rattle.im_block.specs.declared.code.Block.{Block}
use Rattle.im_block.specs.declared.unit.Function.{Function}
use Rattle.im_block.specs.Wellformed.{ExitThere, IsBlock}
use Rattle.im_promote.specs.Words.{has, starts_have, AreClosed, AreLinked, breaks}
use Rattle.im_promote.specs.Homes.{MayBeRegister, IsReady}
use Rattle.im_promote.proofs.Bits.{has_or, not_true, or_first, or_second, must_be_false}
use Rattle.im_block.proofs.Unitwise.{all_at}
use Rattle.im_promote.proofs.Lists.{all_from}

pub linked : (f : Function) → IsReady f → AreLinked f.blocks.items
linked f ready =
    All-weaker (IsBlock ready.functions f) (λ (b : Block). ExitThere (length f.blocks.items) b.exit) (λ b one. one.exit_there) f.blocks.items ready.formed.blocks

pub not_either : (a b : Bool) → not (a || b) ≡ true → (a ≡ false) × (b ≡ false)
not_either a b e = let none : (a || b) ≡ false = not_true (a || b) e in (or_first a b none, or_second a b none)

-- the word of a block
pub word_at : (starts : List ℕ) (b word : ℕ) → b < length starts → word ≡ get_or starts b word → word ≡ slice_index starts b
word_at starts b word lt is =
    let any : Some (get_or starts b 0) ≡ Some (get_or starts b word) = sym (slice_get-get_or starts b 0 lt) ∙ slice_get-get_or starts b word lt in
    cc

pub may_be : (f : Function) (base : ℕ) (starts : List ℕ) (j : ℕ) → j < 32 → AreClosed base f.blocks.items starts → starts_have starts j f.entry ≡ false → All (λ (block : Block). All (λ (line : Line). breaks line (base + j) ≡ false) block.lines.items) f.blocks.items → MayBeRegister f (base + j)
may_be f base starts j lt closed entry whole = record {
  whole = λ b block at. all_at (λ (x : Block). All (λ (line : Line). breaks line (base + j) ≡ false) x.lines.items) f.blocks.items b block whole at;
  first = record { live = starts_have starts j; closed = λ b block at e. closed b j block at lt e; entry = entry };
}

-- one line or block more whose breaking shows in the word

pub spoiled_more : (base j : ℕ) (lines : List Line) (left all more : ℕ) (line : Line) → 0 < left → left ≤ length lines → line ≡ get_or lines (left - 1) line → (breaks line (base + j) ≡ true → has more j ≡ true) → (has all j ≡ false → All (λ (l : Line). breaks l (base + j) ≡ false) (drop left lines)) → has (bit_or all more) j ≡ false → All (λ (l : Line). breaks l (base + j) ≡ false) (drop (left - 1) lines)
spoiled_more base j lines left all more line pos le is made known e =
    let none : (has all j || has more j) ≡ false = sym (has_or all more j) ∙ e in
    let back : left ≡ suc (left - 1) = omega arith in
    all_from (λ (l : Line). breaks l (base + j) ≡ false) lines (left - 1) line (omega arith) is
    (must_be_false (breaks line (base + j)) (has more j) made (or_second (has all j) (has more j) none))
    (subst (λ z. All (λ (l : Line). breaks l (base + j) ≡ false) (drop z lines)) back (known (or_first (has all j) (has more j) none)))

pub spoiled_block_more : (P : Block → Type 0) (j : ℕ) (blocks : List Block) (i all more : ℕ) (block : Block) → i < length blocks → block ≡ get_or blocks i block → (has more j ≡ false → P block) → (has all j ≡ false → All P (take i blocks)) → has (bit_or all more) j ≡ false → All P (take (i + 1) blocks)
spoiled_block_more P j blocks i all more block lt is made known e =
    let none : (has all j || has more j) ≡ false = sym (has_or all more j) ∙ e in
    All-more P blocks i block lt (known (or_first (has all j) (has more j) none)) (subst P is (made (or_second (has all j) (has more j) none)))

pub candidates_more : (Q : ℕ → ℕ → Type 0) (words : List ℕ) (word : ℕ) → ((i j : ℕ) → i < length words → j < 32 → has (slice_index words i) j ≡ true → Q i j) → ((j : ℕ) → j < 32 → has word j ≡ true → Q (length words) j) → (i j : ℕ) → i < length (words ++ word ∷ []) → j < 32 → has (slice_index (words ++ word ∷ []) i) j ≡ true → Q i j
candidates_more Q [] word known one zero j lt small e = one j small e
candidates_more Q [] word known one (suc i) j lt small e = absurd (omega arith)
candidates_more Q (x ∷ words) word known one zero j lt small e = known 0 j (omega arith) small e
candidates_more Q (x ∷ words) word known one (suc i) j lt small e = candidates_more (λ n. Q (suc n)) words word (λ n m p. known (suc n) m (omega arith)) one i j (omega arith) small e
