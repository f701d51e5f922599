-- What is seen of the routines' touches.
use Rattle.std.specs.Prelude.{ℕ, ◌+◌, Bool, true, false, cond, ◌&&◌, ◌==◌, nat_lt, nat_le, List, [], ◌∷◌, ◌++◌, length}
use Rattle.im_mem.specs.Map.{out_len0_at, out_len1_at, out_sel_at, out_cap_at, in_len_at, in_pos_at, input_start, output_start}
use Rattle.im_mem.specs.Memory.{Mem, little}
use Rattle.im_rv_reach.specs.Touches.{Touch, Loaded, Stored, Flipped}
use Rattle.im_rv_reach.specs.Shown.{shown, left}

-- the length that OUT_SEL selects, and the other
abbrev pub selected_at : Mem → ℕ
selected_at m = cond (m out_sel_at == 0) out_len0_at out_len1_at

abbrev pub other_at : Mem → ℕ
other_at m = cond (m out_sel_at == 0) out_len1_at out_len0_at

-- putchar reads the length and the capacity; where there is room it stores the byte behind the output, then the new length
-- where OUT_SEL doesn't point, then OUT_SEL, each in a section of its own
abbrev pub count_touches : Mem → List Touch
count_touches m = Loaded out_sel_at 1 ∷ Loaded (selected_at m) 4 ∷ Loaded out_cap_at 4 ∷ []

abbrev pub append_touches : Mem → List Touch
append_touches m =
    Stored (output_start + length (shown m)) 1 ∷ Flipped
    ∷ Stored (other_at m) 4 ∷ Flipped
    ∷ Stored out_sel_at 1 ∷ Flipped ∷ []

abbrev pub put_touches : ℕ → Mem → List Touch
put_touches capacity m = cond (nat_lt (length (shown m)) capacity) (count_touches m ++ append_touches m) (count_touches m)

-- getchar reads the position, the input's length and, where one is left, the byte; it stores the position in the next section
abbrev pub get_touches_by : ℕ → List ℕ → List Touch
get_touches_by position [] = Loaded in_pos_at 4 ∷ Loaded in_len_at 4 ∷ []
get_touches_by position (byte ∷ input) = Loaded in_pos_at 4 ∷ Loaded in_len_at 4 ∷ Loaded (input_start + position) 1 ∷ Flipped ∷ Stored in_pos_at 4 ∷ []

abbrev pub get_touches : Mem → List Touch
get_touches m = get_touches_by (little m in_pos_at 4) (left m)

-- Up to its first flip a routine stores bytes of the output alone, which it never reads, and behind it it reads nothing.
-- So whatever a section of its caller did before and does behind it, no routine writes what the section has read.
abbrev pub only_stores : List Touch → Bool
only_stores [] = true
only_stores (Loaded a n ∷ ts) = false
only_stores (Stored a n ∷ ts) = only_stores ts
only_stores (Flipped ∷ ts) = only_stores ts

abbrev pub is_tidy : List Touch → Bool
is_tidy [] = true
is_tidy (Loaded a n ∷ ts) = nat_le (a + n) output_start && is_tidy ts
is_tidy (Stored a n ∷ ts) = nat_le output_start a && is_tidy ts
is_tidy (Flipped ∷ ts) = only_stores ts
