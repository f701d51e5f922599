-- Placed code is settled, with further cuts too.
use Rattle.std.proofs.Common.{◌≡◌, ℕ, zero, suc, ◌+◌, ◌*◌, ◌<◌, ◌≤◌, Bool, true, false, List, [], ◌∷◌, Some, length, refl, sym, ap, ◌∙◌, subst, arith}
use Rattle.std.specs.Prelude.{◌&&◌, ◌||◌, not, slice_get}
use Rattle.im_block.specs.declared.code.Line.{Line}
use Rattle.im_block.specs.declared.code.Exit.{Exit}
use Rattle.im_block.specs.declared.code.Block.{Block}
use Rattle.im_block.specs.declared.unit.Function.{Function}
use Rattle.im_block.specs.declared.unit.Unit.{Unit as Code}
use Rattle.im_block.specs.Uncut.{WithCuts, Empty, Same, Added, SameBlock, SameFunction, SameButCuts}
use Rattle.im_block.proofs.Unitwise.{zip_old}
use Rattle.im_alloc_relation.specs.Homes.{numbers_kept, needed, put_lines, exit_lines, put_exit}
use Rattle.im_alloc_relation.specs.Live.{uses, sets, lives}
use Rattle.im_alloc_relation.specs.Placing.{PlacedFunction, PlacedFunctions, IsPlaced}
use Rattle.im_alloc_relation.specs.Settled.{SettlesCalls, IsSettledFunction, IsSettled}
use Rattle.im_alloc_laws.proofs.Needed.{needed_lives, needed_valid}
use Rattle.im_alloc_laws.proofs.Pieces.{made}
use Rattle.im_alloc_laws.proofs.Settling.{Held, lines_live, lines_settle, exit_held, exit_settles}

-- ---- a function that is placed

module _ (f g : Function) (p : PlacedFunction f g) where
  held_at : (b r : ℕ) → p.wanted b r ≡ true → Held p.home (p.live b) r
  held_at b r w = let k = p.holds b r w in (k.0, k.1, k.2)

  block_closed : (b : ℕ) (block : Block) (r : ℕ) → slice_get g.blocks.items b ≡ Some block → lives p.wanted block.lines.items block.exit r ≡ true → p.wanted b r ≡ true
  block_closed b block r at w =
      let m = made p.home p.first_access f.blocks.items g.blocks.items b block p.blocks at in
      let n : ℕ = m.number + numbers_kept * length (needed m.old.exit m.old.lines.items) in
      let w' : lives p.wanted (put_lines p.home m.number (needed m.old.exit m.old.lines.items) (exit_lines p.home n m.old.exit)) (put_exit p.home m.old.exit) r ≡ true =
      subst (λ z. lives p.wanted z (put_exit p.home m.old.exit) r ≡ true) m.placed.lines (subst (λ z. lives p.wanted block.lines.items z r ≡ true) m.placed.exit w) in
      let k = lines_live p.wanted p.home (put_exit p.home m.old.exit) p.live m.old.exit m.number (needed m.old.exit m.old.lines.items) (exit_lines p.home n m.old.exit) (exit_held p.wanted p.live p.home n m.old.exit held_at) (needed_valid p.home p.live m.old.exit m.old.lines.items (p.valid b m.old m.at)) r w' in
      p.held b k.0 r (p.closed b m.old k.0 m.at (sym (needed_lives p.live m.old.exit m.old.lines.items k.0) ∙ k.1)) k.2

  block_settled : (b : ℕ) (block : Block) → slice_get g.blocks.items b ≡ Some block → SettlesCalls p.wanted block.lines.items block.exit
  block_settled b block at =
      let m = made p.home p.first_access f.blocks.items g.blocks.items b block p.blocks at in
      let n : ℕ = m.number + numbers_kept * length (needed m.old.exit m.old.lines.items) in
      let k = lines_settle p.wanted p.home (put_exit p.home m.old.exit) p.live m.old.exit m.number (needed m.old.exit m.old.lines.items) (exit_lines p.home n m.old.exit) (exit_held p.wanted p.live p.home n m.old.exit held_at) (exit_settles p.wanted p.home n m.old.exit) (needed_valid p.home p.live m.old.exit m.old.lines.items (p.valid b m.old m.at)) in
      subst (λ z. SettlesCalls p.wanted z block.exit) (sym m.placed.lines) (subst (λ z. SettlesCalls p.wanted (put_lines p.home m.number (needed m.old.exit m.old.lines.items) (exit_lines p.home n m.old.exit)) z) (sym m.placed.exit) k)

  entered_at : (r : ℕ) → p.wanted g.entry r ≡ true → (10 ≤ r) × (r < 10 + g.parameters)
  entered_at r w =
      let entry : g.entry ≡ f.entry = ap (λ (k : Function). k.entry) p.rest in
      let parameters : g.parameters ≡ f.parameters = ap (λ (k : Function). k.parameters) p.rest in
      let k = p.holds f.entry r (subst (λ z. p.wanted z r ≡ true) entry w) in
      let e = p.entered k.0 r k.1 k.2 in
      let low = e.0 in
      let high = e.1 in
      (omega arith, omega arith)

  pub function_settled : IsSettledFunction p.wanted g
  function_settled = record {
    homes = λ b r w. (let k = p.holds b r w in let free = p.free k.0 r k.2 in let a = free.0 in (omega arith, free.1));
    closed = block_closed;
    calls = block_settled;
    entered = entered_at;
  }

wanted_of : (fs gs : List Function) → PlacedFunctions fs gs → ℕ → ℕ → ℕ → Bool
wanted_of [] [] p i b r = false
wanted_of [] (g ∷ gs) p i b r = false
wanted_of (f ∷ fs) [] p i b r = false
wanted_of (f ∷ fs) (g ∷ gs) p zero b r = p.0.wanted b r
wanted_of (f ∷ fs) (g ∷ gs) p (suc i) b r = wanted_of fs gs p.1 i b r

all_settled : (fs gs : List Function) (p : PlacedFunctions fs gs) (i : ℕ) (g : Function) → slice_get gs i ≡ Some g → IsSettledFunction (wanted_of fs gs p i) g
unfolding wanted_of
all_settled [] [] p i g e = absurd cc
all_settled [] (k ∷ gs) p i g e = absurd p
all_settled (f ∷ fs) [] p i g e = absurd p
all_settled (f ∷ fs) (k ∷ gs) p zero g e = let one : k ≡ g = cc in subst (IsSettledFunction p.0.wanted) one (function_settled f k p.0)
all_settled (f ∷ fs) (k ∷ gs) p (suc i) g e = all_settled fs gs p.1 i g e

pub settled : (u v : Code) → IsPlaced u v → IsSettled v
settled u v p = record { wanted = wanted_of u.functions.items v.functions.items p.functions; each = all_settled u.functions.items v.functions.items p.functions }

-- ---- further cuts: they use and set no register

same_lives : (wanted : ℕ → ℕ → Bool) (exit : Exit) (old new : List Line) → WithCuts old new → (r : ℕ) → lives wanted new exit r ≡ lives wanted old exit r
same_lives wanted exit old new Empty r = refl
same_lives wanted exit old new (Same line a b d) r = ap (λ z. uses line r || (not (sets line r) && z)) (same_lives wanted exit a b d r)
same_lives wanted exit old new (Added cause a b d) r = same_lives wanted exit old b d r

same_calls : (wanted : ℕ → ℕ → Bool) (exit : Exit) (old new : List Line) → WithCuts old new → SettlesCalls wanted old exit → SettlesCalls wanted new exit
same_calls wanted exit old new Empty s = tt
same_calls wanted exit old new (Same line a b d) s = ((λ c r w. s.0 c r (sym (same_lives wanted exit a b d r) ∙ w)), same_calls wanted exit a b d s.1)
same_calls wanted exit old new (Added cause a b d) s = ((λ c. absurd c), same_calls wanted exit old b d s)

function_recut : (wanted : ℕ → ℕ → Bool) (f g : Function) → SameFunction f g → IsSettledFunction wanted f → IsSettledFunction wanted g
function_recut wanted f g s h =
    let entry : g.entry ≡ f.entry = ap (λ (k : Function). k.entry) s.rest in
    let parameters : g.parameters ≡ f.parameters = ap (λ (k : Function). k.parameters) s.rest in
    record {
      homes = h.homes;
      closed = λ b block r at w.
          let o = zip_old SameBlock f.blocks.items g.blocks.items b block s.blocks at in
          let w' : lives wanted block.lines.items o.old.exit r ≡ true = subst (λ z. lives wanted block.lines.items z r ≡ true) o.is.exit w in
          h.closed b o.old r o.at (sym (same_lives wanted o.old.exit o.old.lines.items block.lines.items o.is.lines r) ∙ w');
      calls = λ b block at.
          let o = zip_old SameBlock f.blocks.items g.blocks.items b block s.blocks at in
          subst (SettlesCalls wanted block.lines.items) (sym o.is.exit) (same_calls wanted o.old.exit o.old.lines.items block.lines.items o.is.lines (h.calls b o.old o.at));
      entered = λ r w.
          let e = h.entered r (subst (λ z. wanted z r ≡ true) entry w) in
          let low = e.0 in
          let high = e.1 in
          (omega arith, omega arith);
    }

pub recut : (u v : Code) → SameButCuts u v → IsSettled u → IsSettled v
recut u v s h = record { wanted = h.wanted; each = λ i g at. let o = zip_old SameFunction u.functions.items v.functions.items i g s.functions at in function_recut (h.wanted i) o.old g o.is (h.each i o.old o.at) }
