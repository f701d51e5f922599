-- The number of each label of a program.
use Rattle.std.proofs.Common.{◌≡◌, ℕ, true, false, refl, zero, suc, ◌+◌, ◌-◌, ◌<◌, ◌≤◌, List, [], ◌∷◌, Some, length, take, ap, ◌∙◌, arith}
use Rattle.std.specs.Prelude.{nat_lt, nat_le, if◌then◌else◌, slice_get}
use Rattle.std.proofs.lemmas.Bool.Decides.{nat_tests}
use Rattle.im_serve.specs.declared.service.Service.{Service}
use Rattle.im_rtlib.specs.Routines.{service_label}
use Rattle.im_block.specs.declared.unit.Function.{Function}
use Rattle.im_block.specs.Shape.{sum_of}
use Rattle.im_select.specs.Emitted.{entry_label}
use Rattle.im_select.proofs.Services.{each_service}
use Rattle.im_link_laws.specs.Program.{first_label}
use Rattle.im_gap_ranked.proofs.Routines.{entry_rank, low_rank, at_labels}
use Rattle.im_gap_ranked.proofs.Blocks.{block_rank, HasCallees}

less_is : (a b : ℕ) → a < b → nat_lt a b ≡ true
less_is a b h = grind (arith, nat_tests)

less_not : (a b : ℕ) → b ≤ a → nat_lt a b ≡ false
less_not a b h = grind (arith, nat_tests)

at_most : (a b : ℕ) → nat_le a b ≡ true → a ≤ b
at_most a b h = grind (arith, nat_tests)

-- lefts: of each function, what is left at the starts of its blocks
module _ (functions : List Function) (lefts : ℕ → ℕ → ℕ) where
  -- these functions from number i on, and block b behind
  abbrev in_blocks : List Function → ℕ → ℕ → ℕ
  in_blocks [] i b = 0
  in_blocks (f ∷ fs) i b = if nat_lt b (length f.blocks.items) then block_rank (lefts i) f b else in_blocks fs (suc i) (b - length f.blocks.items)

  abbrev pub beyond : ℕ → ℕ
  beyond l = if nat_lt l (entry_label (length functions)) then entry_rank else in_blocks functions 0 (l - entry_label (length functions))

  abbrev pub at : ℕ → ℕ
  at = at_labels beyond

  found : (fs : List Function) (i k b : ℕ) (f : Function) → slice_get fs k ≡ Some f → b < length f.blocks.items → in_blocks fs i (sum_of (λ (z : Function). length z.blocks.items) (take k fs) + b) ≡ block_rank (lefts (i + k)) f b
  found [] i k b f e h = absurd cc
  found (x ∷ xs) i zero b f e h =
      let same : x ≡ f = cc in
      let n : length x.blocks.items ≡ length f.blocks.items = ap (λ (z : Function). length z.blocks.items) same in
      let z : 0 + b ≡ b = omega arith in
      let i0 : i ≡ i + 0 = omega arith in
      ap (λ c. in_blocks (x ∷ xs) i c) z
      ∙ ap (λ t. if t then block_rank (lefts i) x b else in_blocks xs (suc i) (b - length x.blocks.items)) (less_is b (length x.blocks.items) (omega arith))
      ∙ ap (λ c. block_rank (lefts i) c b) same ∙ ap (λ c. block_rank (lefts c) f b) i0
  found (x ∷ xs) i (suc k) b f e h =
      let n : ℕ = length x.blocks.items in
      let s : ℕ = sum_of (λ (z : Function). length z.blocks.items) (take k xs) in
      let rest : n + s + b - n ≡ s + b = omega arith in
      let i1 : suc i + k ≡ i + suc k = omega arith in
      ap (λ t. if t then block_rank (lefts i) x (n + s + b) else in_blocks xs (suc i) (n + s + b - n)) (less_not (n + s + b) n (omega arith))
      ∙ ap (λ c. in_blocks xs (suc i) c) rest ∙ found xs (suc i) k b f e h ∙ ap (λ c. block_rank (lefts c) f b) i1

  pub at_entry : (i : ℕ) → i < length functions → at (entry_label i) ≡ entry_rank
  at_entry i h =
      ap (λ t. if t then low_rank (entry_label i) else beyond (entry_label i)) (less_not (entry_label i) 64 (omega arith))
      ∙ ap (λ t. if t then entry_rank else in_blocks functions 0 (entry_label i - entry_label (length functions))) (less_is (entry_label i) (entry_label (length functions)) (omega arith))

  pub at_block : (i b : ℕ) (f : Function) → slice_get functions i ≡ Some f → b < length f.blocks.items → at (first_label functions i + b) ≡ block_rank (lefts i) f b
  at_block i b f e h =
      let n : ℕ = entry_label (length functions) in
      let s : ℕ = sum_of (λ (z : Function). length z.blocks.items) (take i functions) in
      let l : ℕ = n + s + b in
      let back : l - n ≡ s + b = omega arith in
      let i0 : 0 + i ≡ i = omega arith in
      ap (λ t. if t then low_rank l else beyond l) (less_not l 64 (omega arith))
      ∙ ap (λ t. if t then entry_rank else in_blocks functions 0 (l - n)) (less_not l n (omega arith))
      ∙ ap (λ c. in_blocks functions 0 c) back ∙ found functions 0 i b f e h ∙ ap (λ c. block_rank (lefts c) f b) i0

  at_service : (service : Service) → at (service_label service) ≤ entry_rank
  at_service service = at_most (at (service_label service)) entry_rank (each_service (λ s. nat_le (at (service_label s)) entry_rank) refl service)

  pub callees : HasCallees (length functions) at
  callees = record { stops = omega arith; serves = at_service; entries = at_entry }
