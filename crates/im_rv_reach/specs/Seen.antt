-- What a run touches, its checkpoints' own accesses left out: of those a flip of INDEX alone is seen.
use Rattle.std.specs.Prelude.{ℕ, ◌+◌, Bool, cond, ◌||◌, ◌&&◌, ◌==◌, nat_lt, nat_le, List, [], ◌∷◌}
use Rattle.im_mem.specs.Map.{index_at, buffer0_start, buffer1_start}
use Rattle.im_rv_reach.specs.Touches.{Touch, Loaded, Stored, Flipped}

-- a byte of a register buffer, which are 128 bytes each
abbrev pub in_buffer : ℕ → Bool
in_buffer a = nat_le buffer0_start a && nat_lt a (buffer1_start + 128)

abbrev pub is_checkpoints : ℕ → Bool
is_checkpoints a = a == index_at || in_buffer a

abbrev pub seen : List Touch → List Touch
seen [] = []
seen (Loaded a n ∷ ts) = cond (is_checkpoints a) (seen ts) (Loaded a n ∷ seen ts)
seen (Stored a n ∷ ts) = cond (a == index_at) (Flipped ∷ seen ts) (cond (in_buffer a) (seen ts) (Stored a n ∷ seen ts))
seen (Flipped ∷ ts) = Flipped ∷ seen ts
