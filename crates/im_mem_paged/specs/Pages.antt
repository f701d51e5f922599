-- Memory as 1280 pages of 4096 bytes.
use Rattle.std.specs.Prelude.{◌≡◌, ℕ, zero, suc, ◌≤◌, ◌<◌, ◌+◌, ◌*◌, ◌==◌, Bool, List, [], ◌∷◌, if◌then◌else◌}
use Rattle.std.specs.List.{list_all}
use Rattle.im_mem.specs.Map.{memory_size}
use Rattle.im_mem.specs.Memory.{Mem, bytes_from}

-- a byte at each address of memory, and none behind it
pub record IsMemory (m : Mem) : Type 0 where
  pub bytes : (k : ℕ) → m k < 256
  pub inside : (k : ℕ) → memory_size ≤ k → m k ≡ 0

-- the 4096 bytes of a page
unfoldable pub page_of : Mem → ℕ → List ℕ
page_of m page = bytes_from m (4096 * page) 4096

-- each byte of the page is 0
abbrev pub IsZeroPage : Mem → ℕ → Type 0
IsZeroPage m page = (k : ℕ) → 4096 * page ≤ k → k < 4096 * page + 4096 → m k ≡ 0

-- each of the bytes is 0
abbrev pub are_zero : List ℕ → Bool
are_zero bytes = list_all (λ b. b == 0) bytes

-- the pages that aren't zero, of n pages from the first on
unfoldable pub pages_of : (n first : ℕ) → Mem → List ℕ
pages_of zero first m = []
pages_of (suc n) first m = if are_zero (page_of m first) then pages_of n (first + 1) m else first ∷ pages_of n (first + 1) m
