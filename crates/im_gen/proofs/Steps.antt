-- The sequence's words, and what follows them in texts and periods.
use Rattle.std.proofs.Common.{◌≡◌, ◌<◌, ℕ, zero, suc, ◌+◌, ◌*◌, ◌^◌, List, [], ◌∷◌, ◌++◌, codes, map, refl, sym, ap, append_assoc, ◌∙◌, arith}
use Rattle.std.specs.List.{flat_map, range_with_len}
use Rattle.std.proofs.Math.Nat.{mod-lt}
use Rattle.std.proofs.lemmas.List.{append-nil}
use Rattle.std.proofs.lemmas.List.FromFn.{map-range_with_len_more}
use Rattle.std.proofs.lemmas.Grind.{flat_map-append}
use Rattle.im_power.specs.declared.period.Period.{Period}
use Rattle.im_gen.specs.Gen.{calls_text, functions_text, gen_period, gen_source, gen_trace, next_word, sequence}

-- words stay words
pub sequence_small : (n k : ℕ) → n < 2 ^ 32 → sequence n k < 2 ^ 32
unfolding sequence
sequence_small n zero small = small
sequence_small n (suc k) small = mod-lt (1664525 * sequence n k + 1013904223) (omega arith)

pub sequence_first : (n : ℕ) → sequence n 0 ≡ n
unfolding sequence
sequence_first n = refl

pub sequence_next : (n k : ℕ) → sequence n (k + 1) ≡ next_word (sequence n k)
unfolding sequence
sequence_next n k =
    let after : k + 1 ≡ suc k = omega arith in
    ap (sequence n) after

-- numbers and one more
range_more : (a n : ℕ) → range_with_len a (suc n) ≡ range_with_len a n ++ (a + n) ∷ []
range_more a zero =
    let same : a ≡ a + 0 = omega arith in
    ap (λ k. k ∷ []) same
range_more a (suc n) =
    let same : a + 1 + n ≡ a + suc n = omega arith in
    ap (λ ks. a ∷ ks) (range_more (a + 1) n ∙ ap (λ k. range_with_len (a + 1) n ++ k ∷ []) same)

-- texts by number, and one more
pub texts_more : (text_at : ℕ → List ℕ) (k : ℕ) (before now : List ℕ) → now ≡ before ++ flat_map text_at (range_with_len 1 k)
    → now ++ text_at (k + 1) ≡ before ++ flat_map text_at (range_with_len 1 (k + 1))
texts_more text_at k before now is =
    let after : k + 1 ≡ suc k = omega arith in
    let next : 1 + k ≡ k + 1 = omega arith in
    let rest : flat_map text_at (range_with_len 1 (k + 1)) ≡ flat_map text_at (range_with_len 1 k) ++ text_at (k + 1) =
    ap (λ n. flat_map text_at (range_with_len 1 n)) after ∙ ap (flat_map text_at) (range_more 1 k)
    ∙ flat_map-append text_at (range_with_len 1 k) ((1 + k) ∷ [])
    ∙ ap (λ v. flat_map text_at (range_with_len 1 k) ++ v) (append-nil (text_at (1 + k)) ∙ ap text_at next) in
    ap (λ v. v ++ text_at (k + 1)) is ∙ append_assoc before (flat_map text_at (range_with_len 1 k)) (text_at (k + 1))
    ∙ ap (λ v. before ++ v) (sym rest)

-- periods by number, and one more
pub periods_more : (period_at : ℕ → Period) (k : ℕ) (now : List Period) → now ≡ map period_at (range_with_len 1 k)
    → now ++ period_at (k + 1) ∷ [] ≡ map period_at (range_with_len 1 (k + 1))
periods_more period_at k now is =
    let next : 1 + k ≡ k + 1 = omega arith in
    ap (λ v. v ++ period_at (k + 1) ∷ []) is ∙ sym (map-range_with_len_more period_at 1 k (k + 1) next)

-- all 64 periods
pub trace_done : (n gap k : ℕ) (periods : List Period) → k ≡ 64 → periods ≡ map (λ j. gen_period gap (sequence n (n + j))) (range_with_len 1 k)
    → periods ≡ gen_trace n gap
unfolding gen_trace
trace_done n gap k periods all is = is ∙ ap (λ (m : ℕ). map (λ j. gen_period gap (sequence n (n + j))) (range_with_len 1 m)) all

grouped : (a b c d e : List ℕ) → (((a ++ b) ++ c) ++ d) ++ e ≡ a ++ b ++ c ++ d ++ e
grouped a b c d e = simp append_assoc

-- the parts of a source, one behind the other
pub source_done : (n : ℕ) (start head functions entry calls whole : List ℕ) → start ≡ [] → head ≡ start ++ codes "unsigned int g[16];\n"
    → functions ≡ head ++ functions_text n → entry ≡ functions ++ codes "int main(void){unsigned int x;x=1u;"
    → calls ≡ entry ++ calls_text n → whole ≡ calls ++ codes "return 0;}\n" → whole ≡ gen_source n
unfolding gen_source
source_done n start head functions entry calls whole s h f e c w =
    let a = codes "unsigned int g[16];\n" in
    let b = functions_text n in
    let d = codes "int main(void){unsigned int x;x=1u;" in
    let g = calls_text n in
    let z = codes "return 0;}\n" in
    let all : whole ≡ (((([] ++ a) ++ b) ++ d) ++ g) ++ z =
    w ∙ ap (λ v. v ++ z) (c ∙ ap (λ v. v ++ g) (e ∙ ap (λ v. v ++ d) (f ∙ ap (λ v. v ++ b) (h ∙ ap (λ v. v ++ a) s)))) in
    all ∙ grouped a b d g z
