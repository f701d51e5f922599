-- One more argument, line, block or function.
use Rattle.std.proofs.Common.{◌≡◌, ℕ, zero, suc, ◌+◌, ◌-◌, ◌*◌, ◌<◌, ◌≤◌, Bool, true, false, List, [], ◌∷◌, ◌++◌, refl, sym, ap, ◌∙◌, subst, arith, length, take, drop, get_or, length-drop}
use Rattle.std.specs.Prelude.{slice_set, All, Some, None}
use Rattle.std.proofs.lemmas.List.Elements.{All-head, All-tail}
use Rattle.im_num.specs.declared.values.Cause.{Cause}
use Rattle.im_block.specs.declared.code.Line.{Line}
use Rattle.im_block.specs.declared.code.Line.TheVariants.{Cut, Call, Serve}
use Rattle.im_block.specs.declared.code.Exit.{Exit}
use Rattle.im_block.specs.declared.code.Exit.TheVariants.{Jump, Turn, Branch, Return}
use Rattle.im_block.specs.declared.code.Block.{Block}
use Rattle.im_block.specs.declared.unit.Function.{Function}
use Rattle.im_alloc_relation.specs.Homes.{Home, numbers_kept, into, bring, put_line, loop_cut, past_cut, behind, needed, put_lines}
use Rattle.im_alloc_relation.specs.Placing.{PlacedBlock, PlacedBlocks}
use Rattle.im_alloc_laws.specs.Numbered.{numbers_of_blocks}
use Rattle.im_alloc.specs.Parts.{Adds, calls, left_to_put, keeps_loop_cut, puts_line, AddsLines}
use Rattle.im_alloc_intervals.specs.Homes.{home_at}
use Rattle.im_alloc.specs.Places.{PlacesFunction, PlacesFunctions, numbers_of}

-- what holds of all old items holds of one that is as it was
pub item_all : {X : Type 0} (P : X → Type 0) (xs ys : List X) (i : ℕ) (d : X) → i < length ys → drop i ys ≡ drop i xs → All P xs → P (get_or ys i d)
item_all {X = X} P xs [] i d lt e a = absurd (omega arith)
item_all {X = X} P [] (y ∷ ys) i d lt e a = absurd (omega (arith, ap length e, length-drop {A = X} i (y ∷ ys), length-drop {A = X} i []))
item_all {X = X} P (x ∷ xs) (y ∷ ys) zero d lt e a = let one : x ≡ y = cc in subst P one (All-head P x xs a)
item_all {X = X} P (x ∷ xs) (y ∷ ys) (suc i) d lt e a = item_all P xs ys i d (omega arith) e (All-tail P x xs a)

-- arguments

bring_same : (h : ℕ → Home) (k k' f f' n n' a a' : ℕ) (rest : List Line) → k ≡ k' → f ≡ f' → n ≡ n' → a ≡ a' → bring h k f n a rest ≡ bring h k' f' n' a' rest
bring_same h k k' f f' n n' a a' rest p q r s =
    ap (λ z. bring h z f n a rest) p ∙ ap (λ z. bring h k' z n a rest) q ∙ ap (λ z. bring h k' f' z a rest) r ∙ ap (λ z. bring h k' f' n' z rest) s

pub bring_step : (h : ℕ → Home) (k f n a i : ℕ) (rest : List Line) → i < n → into (h (f + i)) (k + i) (a + i) (bring h (k + (i + 1)) (f + (i + 1)) (n - (i + 1)) (a + (i + 1)) rest) ≡ bring h (k + i) (f + i) (n - i) (a + i) rest
bring_step h k f n a i rest lt =
    ap (λ z. into (h (f + i)) (k + i) (a + i) z)
    (bring_same h (k + (i + 1)) (k + i + 1) (f + (i + 1)) (f + i + 1) (n - (i + 1)) (n - (i + 1)) (a + (i + 1)) (a + i + 1) rest (omega arith) (omega arith) refl (omega arith))
    ∙ bring_same h (k + i) (k + i) (f + i) (f + i) (suc (n - (i + 1))) (n - i) (a + i) (a + i) rest refl refl (omega arith) refl

-- lines

rest_of : (i : ℕ) (old : List Line) (d : Line) → i < length old → drop i old ≡ get_or old i d ∷ drop (suc i) old
rest_of i [] d lt = absurd (omega arith)
rest_of zero (x ∷ old) d lt = refl
rest_of (suc i) (x ∷ old) d lt = rest_of i old d (omega arith)

behind_is : (exit : Exit) (line : Line) (rest : List Line) → behind exit line (needed exit rest) ≡ left_to_put exit (calls line) rest
behind_is exit (Call to i first count) rest = refl
behind_is exit (Serve to service None) rest = refl
behind_is exit (Serve to service (Some from)) rest = refl
behind_is exit line rest = refl

loop_cut_put : (exit : Exit) (cause : Cause) (rest : List Line) → keeps_loop_cut exit rest ≡ true → loop_cut exit cause (needed exit rest) ≡ Cut cause ∷ needed exit rest
loop_cut_put (Turn b) cause [] e = refl
loop_cut_put (Turn b) cause (next ∷ rest) e = absurd cc
loop_cut_put (Jump b) cause rest e = absurd cc
loop_cut_put (Branch on a b) cause rest e = absurd cc
loop_cut_put (Return from) cause rest e = absurd cc

loop_cut_gone : (exit : Exit) (cause : Cause) (rest : List Line) → keeps_loop_cut exit rest ≡ false → loop_cut exit cause (needed exit rest) ≡ needed exit rest
loop_cut_gone (Turn b) cause [] e = absurd cc
loop_cut_gone (Turn b) cause (next ∷ rest) e = refl
loop_cut_gone (Jump b) cause rest e = refl
loop_cut_gone (Branch on a b) cause rest e = refl
loop_cut_gone (Return from) cause rest e = refl

past_put : (exit : Exit) (line : Line) (rest : List Line) → puts_line exit true line rest ≡ true → past_cut exit (line ∷ behind exit line (needed exit rest)) ≡ line ∷ behind exit line (needed exit rest)
past_put exit (Cut cause) rest e = loop_cut_put exit cause rest e
past_put exit line rest e = refl

put_is : (exit : Exit) (behind_call : Bool) (line : Line) (rest : List Line) → puts_line exit behind_call line rest ≡ true → left_to_put exit behind_call (line ∷ rest) ≡ line ∷ left_to_put exit (calls line) rest
put_is exit true line rest e = past_put exit line rest e ∙ ap (λ q. line ∷ q) (behind_is exit line rest)
put_is exit false line rest e = ap (λ q. line ∷ q) (behind_is exit line rest)

past_gone : (exit : Exit) (line : Line) (rest : List Line) → puts_line exit true line rest ≡ false → past_cut exit (line ∷ behind exit line (needed exit rest)) ≡ left_to_put exit (calls line) rest
past_gone exit (Cut cause) rest e = loop_cut_gone exit cause rest e
past_gone exit line rest e = absurd cc

gone_is : (exit : Exit) (behind_call : Bool) (line : Line) (rest : List Line) → puts_line exit behind_call line rest ≡ false → left_to_put exit behind_call (line ∷ rest) ≡ left_to_put exit (calls line) rest
gone_is exit true line rest e = past_gone exit line rest e
gone_is exit false line rest e = absurd cc

left_put : (exit : Exit) (behind_call : Bool) (i : ℕ) (old : List Line) (d : Line) → i < length old → puts_line exit behind_call (get_or old i d) (drop (suc i) old) ≡ true → left_to_put exit behind_call (drop i old) ≡ get_or old i d ∷ left_to_put exit (calls (get_or old i d)) (drop (suc i) old)
left_put exit behind_call i old d lt e = ap (λ q. left_to_put exit behind_call q) (rest_of i old d lt) ∙ put_is exit behind_call (get_or old i d) (drop (suc i) old) e

left_gone : (exit : Exit) (behind_call : Bool) (i : ℕ) (old : List Line) (d : Line) → i < length old → puts_line exit behind_call (get_or old i d) (drop (suc i) old) ≡ false → left_to_put exit behind_call (drop i old) ≡ left_to_put exit (calls (get_or old i d)) (drop (suc i) old)
left_gone exit behind_call i old d lt e = ap (λ q. left_to_put exit behind_call q) (rest_of i old d lt) ∙ gone_is exit behind_call (get_or old i d) (drop (suc i) old) e

drop_none : (i : ℕ) (old : List Line) → length old ≤ i → drop i old ≡ []
drop_none zero [] le = refl
drop_none (suc i) [] le = refl
drop_none zero (x ∷ old) le = absurd (omega arith)
drop_none (suc i) (x ∷ old) le = drop_none i old (omega arith)

left_none : (exit : Exit) (behind_call : Bool) (i : ℕ) (old : List Line) → length old ≤ i → left_to_put exit behind_call (drop i old) ≡ []
left_none exit true i old le = ap (λ q. left_to_put exit true q) (drop_none i old le)
left_none exit false i old le = ap (λ q. left_to_put exit false q) (drop_none i old le)

-- the first i lines were placed, with numbers from first up to next, the others are left
pub record SoFar (h : ℕ → Home) (exit : Exit) (old : List Line) (first : ℕ) (start : List Line) (next : ℕ) (behind_call : Bool) (i : ℕ) (lines : List Line) : Type 0 where
  pub next_is : next + numbers_kept * length (left_to_put exit behind_call (drop i old)) ≡ first + numbers_kept * length (needed exit old)
  pub adds : (tail : List Line) → lines ++ put_lines h next (left_to_put exit behind_call (drop i old)) tail ≡ start ++ put_lines h first (needed exit old) tail

pub none_so_far : (h : ℕ → Home) (exit : Exit) (old : List Line) (first : ℕ) (start : List Line) → SoFar h exit old first start first false 0 start
none_so_far h exit old first start = record { next_is = refl; adds = λ tail. refl }

pub one_put : (h : ℕ → Home) (exit : Exit) (old : List Line) (first : ℕ) (start : List Line) (next : ℕ) (behind_call : Bool) (i : ℕ) (lines : List Line) (d : Line) (end : ℕ) (more : List Line) → SoFar h exit old first start next behind_call i lines → i < length old → puts_line exit behind_call (get_or old i d) (drop (suc i) old) ≡ true → end ≡ next + numbers_kept → Adds (put_line h next (get_or old i d)) lines more → SoFar h exit old first start end (calls (get_or old i d)) (suc i) more
one_put h exit old first start next behind_call i lines d end more s lt put end_is one =
    let line : Line = get_or old i d in
    let rest : List Line = left_to_put exit (calls line) (drop (suc i) old) in
    let is : left_to_put exit behind_call (drop i old) ≡ line ∷ rest = left_put exit behind_call i old d lt put in
    let count : length (left_to_put exit behind_call (drop i old)) ≡ suc (length rest) = ap length is in
    let before = s.next_is in
    record {
      next_is = omega arith;
      adds = λ tail.
          one (put_lines h end rest tail)
          ∙ ap (λ m. lines ++ put_line h next line (put_lines h m rest tail)) end_is
          ∙ ap (λ q. lines ++ put_lines h next q tail) (sym is)
          ∙ s.adds tail;
    }

pub none_put : (h : ℕ → Home) (exit : Exit) (old : List Line) (first : ℕ) (start : List Line) (next : ℕ) (behind_call : Bool) (i : ℕ) (lines : List Line) (d : Line) → SoFar h exit old first start next behind_call i lines → i < length old → puts_line exit behind_call (get_or old i d) (drop (suc i) old) ≡ false → SoFar h exit old first start next (calls (get_or old i d)) (suc i) lines
none_put h exit old first start next behind_call i lines d s lt gone =
    let is = left_gone exit behind_call i old d lt gone in
    record {
      next_is = ap (λ (q : List Line). next + numbers_kept * length q) (sym is) ∙ s.next_is;
      adds = λ tail. ap (λ q. lines ++ put_lines h next q tail) (sym is) ∙ s.adds tail;
    }

pub all_put : (h : ℕ → Home) (exit : Exit) (old : List Line) (first : ℕ) (start : List Line) (next : ℕ) (behind_call : Bool) (i : ℕ) (lines : List Line) → SoFar h exit old first start next behind_call i lines → length old ≤ i → AddsLines h first exit old next start lines
all_put h exit old first start next behind_call i lines s le =
    let none : [] ≡ left_to_put exit behind_call (drop i old) = sym (left_none exit behind_call i old le) in
    let count : 0 ≡ length (left_to_put exit behind_call (drop i old)) = ap length none in
    let all = s.next_is in
    record {
      next_is = omega arith;
      adds = λ tail. ap (λ q. lines ++ put_lines h next q tail) none ∙ s.adds tail;
    }

-- blocks

pub record BlocksMore (h : ℕ → Home) (n j count : ℕ) (xs ys : List Block) : Type 0 where
  pub done : PlacedBlocks h n (take j xs) (take j ys)
  pub left : drop j ys ≡ drop j xs
  pub counted : numbers_of_blocks (take j xs) ≡ count

pub blocks_more : (h : ℕ → Home) (n i : ℕ) (xs ys : List Block) (d y : Block) → i < length ys → PlacedBlocks h n (take i xs) (take i ys) → drop i ys ≡ drop i xs → PlacedBlock h (n + numbers_of_blocks (take i xs)) (get_or ys i d) y → BlocksMore h n (suc i) (numbers_of_blocks (take i xs) + numbers_kept * suc (length (needed (get_or ys i d).exit (get_or ys i d).lines.items))) xs (slice_set ys i y)
blocks_more h n zero xs [] d y lt done left one = absurd (omega arith)
blocks_more h n zero [] (b ∷ ys) d y lt done left one = cc
blocks_more h n zero (a ∷ xs) (b ∷ ys) d y lt done left one =
    let same : a ≡ b = cc in
    let rest : ys ≡ xs = cc in
    let first : PlacedBlock h n a y = subst (λ z. PlacedBlock h n z y) (sym same) (subst (λ k. PlacedBlock h k b y) (omega arith) one) in
    let count : length (needed a.exit a.lines.items) ≡ length (needed b.exit b.lines.items) = ap (λ (z : Block). length (needed z.exit z.lines.items)) same in
    record { done = (first, tt); left = rest; counted = omega arith }
blocks_more h n (suc i) xs [] d y lt done left one = absurd (omega arith)
blocks_more h n (suc i) [] (b ∷ ys) d y lt done left one = absurd done
blocks_more h n (suc i) (a ∷ xs) (b ∷ ys) d y lt done left one =
    let k : ℕ = numbers_kept * suc (length (needed a.exit a.lines.items)) in
    let m = blocks_more h (n + k) i xs ys d y (omega arith) done.1 left (subst (λ q. PlacedBlock h q (get_or ys i d) y) (omega arith) one) in
    let counted = m.counted in
    record { done = (done.0, m.done); left = m.left; counted = omega arith }

pub blocks_done : (h : ℕ → Home) (n i : ℕ) (xs ys : List Block) → length ys ≤ i → PlacedBlocks h n (take i xs) (take i ys) → drop i ys ≡ drop i xs → PlacedBlocks h n xs ys
blocks_done h n i [] [] le done left = tt
blocks_done h n zero [] (y ∷ ys) le done left = absurd (omega arith)
blocks_done h n (suc i) [] (y ∷ ys) le done left = absurd done
blocks_done h n zero (x ∷ xs) [] le done left = absurd cc
blocks_done h n (suc i) (x ∷ xs) [] le done left = absurd done
blocks_done h n zero (x ∷ xs) (y ∷ ys) le done left = absurd (omega arith)
blocks_done h n (suc i) (x ∷ xs) (y ∷ ys) le done left = (done.0, blocks_done h (n + numbers_kept * suc (length (needed x.exit x.lines.items))) i xs ys (omega arith) done.1 left)

-- functions

pub record FunctionsMore (n j count : ℕ) (fs gs : List Function) : Type 0 where
  pub done : PlacesFunctions n (take j fs) (take j gs)
  pub left : drop j gs ≡ drop j fs
  pub counted : numbers_of (take j fs) ≡ count

whole : (n m next : ℕ) (f g : Function) → n ≡ m → PlacesFunction n next f g → PlacesFunction m (m + numbers_of_blocks f.blocks.items) f g
whole n m next f g e s = record {
  homes = s.homes;
  suits = s.suits;
  leaf = s.leaf;
  blocks = subst (λ k. PlacedBlocks (home_at s.homes.of.items) k f.blocks.items g.blocks.items) e s.blocks;
  rest = s.rest;
  next_is = refl;
}

pub functions_more : (n i next : ℕ) (xs ys : List Function) (d y : Function) → i < length ys → PlacesFunctions n (take i xs) (take i ys) → drop i ys ≡ drop i xs → PlacesFunction (n + numbers_of (take i xs)) next (get_or ys i d) y → FunctionsMore n (suc i) (numbers_of (take i xs) + numbers_of_blocks (get_or ys i d).blocks.items) xs (slice_set ys i y)
functions_more n zero next xs [] d y lt done left one = absurd (omega arith)
functions_more n zero next [] (b ∷ ys) d y lt done left one = cc
functions_more n zero next (a ∷ xs) (b ∷ ys) d y lt done left one =
    let same : a ≡ b = cc in
    let rest : ys ≡ xs = cc in
    let first : PlacesFunction n (n + numbers_of_blocks a.blocks.items) a y = subst (λ (z : Function). PlacesFunction n (n + numbers_of_blocks z.blocks.items) z y) (sym same) (whole (n + 0) n next b y (omega arith) one) in
    let count : numbers_of_blocks a.blocks.items ≡ numbers_of_blocks b.blocks.items = ap (λ (z : Function). numbers_of_blocks z.blocks.items) same in
    record { done = (first, tt); left = rest; counted = omega arith }
functions_more n (suc i) next xs [] d y lt done left one = absurd (omega arith)
functions_more n (suc i) next [] (b ∷ ys) d y lt done left one = absurd done
functions_more n (suc i) next (a ∷ xs) (b ∷ ys) d y lt done left one =
    let k : ℕ = numbers_of_blocks a.blocks.items in
    let m = functions_more (n + k) i next xs ys d y (omega arith) done.1 left (subst (λ q. PlacesFunction q next (get_or ys i d) y) (omega arith) one) in
    let counted = m.counted in
    record { done = (done.0, m.done); left = m.left; counted = omega arith }
