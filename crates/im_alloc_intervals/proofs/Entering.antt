-- The words of one block, of each group.
use Rattle.std.proofs.Common.{◌≡◌, ◌+◌, ◌*◌, ℕ, Bool, List, Some, None, sym, subst}
use Rattle.std.specs.Prelude.{Vec, slice_get, slice_index}
use Rattle.std.specs.declared.alloc.Global.{Global}
use Rattle.std.proofs.lemmas.Option.{none-some}
use Rattle.im_alloc_intervals.specs.Marks.{Flags, IsBit, IsOtherBit}
use Rattle.im_alloc_intervals.specs.Tables.{EnteringOf}
use Rattle.im_alloc_intervals.proofs.Adding.{flags_same}
use Rattle.im_alloc_intervals.proofs.Stepping.{Below, flags_at}

pub entering_next : (groups : List (Vec ℕ Global)) (entry g word : ℕ) (starts : Vec ℕ Global) (a b c : List Bool) → slice_get groups g ≡ Some starts → word ≡ slice_index starts.items entry → Flags (Below (EnteringOf groups entry) g) a b → Flags (IsOtherBit (32 * g) word None) b c → Flags (Below (EnteringOf groups entry) (g + 1)) a c
entering_next groups entry g word starts a b c at is x y =
    flags_at groups (λ (k : ℕ) (z : Vec ℕ Global). IsBit 32 (32 * k) (slice_index z.items entry)) g starts a b c at x
    (flags_same (IsBit 32 (32 * g) (slice_index starts.items entry)) (IsOtherBit (32 * g) word None) b c y
    (λ v lt k. (subst (λ (z : ℕ). IsBit 32 (32 * g) z v) (sym is) k, λ (e : None ≡ Some v). none-some v e))
    (λ v k. subst (λ (z : ℕ). IsBit 32 (32 * g) z v) is k.0))
