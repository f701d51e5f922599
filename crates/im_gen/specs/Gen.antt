-- A made source and the periods under which it is run, both by one sequence of words.
use Rattle.std.specs.Prelude.{ℕ, zero, suc, ◌+◌, ◌*◌, ◌/◌, ◌%◌, ◌^◌, List, ◌++◌, codes, decimal, map}
use Rattle.std.specs.List.{flat_map, range_with_len}
use Rattle.im_power.specs.declared.period.Period.{Period}

-- the word after a word
abbrev pub next_word : ℕ → ℕ
next_word word = (1664525 * word + 1013904223) % 2 ^ 32

-- the sequence that begins with n, at k
unfoldable pub sequence : ℕ → ℕ → ℕ
sequence n zero = n
sequence n (suc k) = next_word (sequence n k)

-- the function number k: which element it sets, from which one, and by which factor, are bits of its word
abbrev pub function_text : ℕ → ℕ → List ℕ
function_text k word =
    codes "unsigned int f" ++ decimal k ++ codes "(unsigned int x){g[" ++ decimal (word / 2 ^ 28)
    ++ codes "]=g[" ++ decimal (word / 2 ^ 24 % 16) ++ codes "]+x*" ++ decimal (word / 2 ^ 8 % 65536)
    ++ codes "u;return g[" ++ decimal (word / 2 ^ 28) ++ codes "]^x;}\n"

-- the call of function number k, and the byte that is written behind it
abbrev pub call_text : ℕ → List ℕ
call_text k = codes "x=f" ++ decimal k ++ codes "(x);putchar(x&255u);"

-- the functions number 1 to n
abbrev pub functions_text : ℕ → List ℕ
functions_text n = flat_map (λ k. function_text k (sequence n k)) (range_with_len 1 n)

-- their calls, in order
abbrev pub calls_text : ℕ → List ℕ
calls_text n = flat_map call_text (range_with_len 1 n)

-- the source of n functions, of which main calls each once
unfoldable pub gen_source : ℕ → List ℕ
gen_source n =
    codes "unsigned int g[16];\n" ++ functions_text n
    ++ codes "int main(void){unsigned int x;x=1u;" ++ calls_text n ++ codes "return 0;}\n"

-- Periods that all commit where the longest gap is so long: each has up to 63 instructions more, by the
-- highest bits of the word that the registers hold.
abbrev pub gen_period : ℕ → ℕ → Period
gen_period gap word = record { n = gap + word / 2 ^ 26; junk = word; count = 10000; mask = 0 }

-- 64 of them, by the words of the sequence behind those of the functions
unfoldable pub gen_trace : ℕ → ℕ → List Period
gen_trace n gap = map (λ k. gen_period gap (sequence n (n + k))) (range_with_len 1 64)
