-- Lists of lines as they grow.
use Rattle.std.proofs.Common.{◌≡◌, ℕ, zero, suc, ◌+◌, ◌-◌, ◌*◌, ◌<◌, true, List, [], ◌∷◌, ◌++◌, length, take, get_or, map, refl, sym, ap, ◌∙◌, append_assoc, arith}
use Rattle.std.proofs.lemmas.Bool.Decides.{nat_tests}
use Rattle.im_rv.specs.declared.instr.Op.TheVariants.{Xori, Slli, Addi, Jal}
use Rattle.im_rv.specs.Decode.{Line}
use Rattle.im_rv.specs.Lines.{instruction, CodeLine, plain_line}
use Rattle.im_ckpt.specs.Checkpoint.{labelled, entry_code}
use Rattle.im_ckpt.specs.Recovery.{load_line, load_lines}
use Rattle.im_ckpt.specs.Registers.{are_registers}

pub register_at : (is : List ℕ) (k : ℕ) → are_registers is ≡ true → k < length is → get_or is k 0 < 32
register_at [] k h l = absurd (omega arith)
register_at (i ∷ is) zero h l = grind (arith, nat_tests)
register_at (i ∷ is) (suc k) h l = register_at is k (let t : are_registers is ≡ true = grind (arith, nat_tests) in t) (omega arith)

-- one line more, of a list that f makes of each number
pub one_more : {A : Type 0} (f : A → CodeLine) (d : A) (is : List A) (k : ℕ) → k < length is → map f (take (suc k) is) ≡ map f (take k is) ++ (f (get_or is k d) ∷ [])
one_more f d [] k l = absurd (omega arith)
one_more f d (i ∷ is) zero l = refl
one_more f d (i ∷ is) (suc k) l = ap (λ ws. f i ∷ ws) (one_more f d is k (omega arith))

pub grown : {A : Type 0} (f : A → CodeLine) (old now new : List CodeLine) (is : List A) (k : ℕ) (r : A) → k < length is → now ≡ old ++ map f (take k is) → r ≡ get_or is k r → new ≡ now ++ f r ∷ [] → new ≡ old ++ map f (take (k + 1) is)
grown f old now new is k r l a b c =
    let q : suc k ≡ k + 1 = omega arith in
    c ∙ ap (λ z. z ++ f r ∷ []) a ∙ ap (λ z. (old ++ map f (take k is)) ++ f z ∷ []) b
    ∙ append_assoc old (map f (take k is)) (f (get_or is k r) ∷ [])
    ∙ ap (λ z. old ++ z) (sym (one_more f r is k l))
    ∙ ap (λ z. old ++ map f (take z is)) q

-- three parts, one after another
pub joined : (old first second third : List CodeLine) (xs ys zs : List CodeLine) → first ≡ old ++ xs → second ≡ first ++ ys → third ≡ second ++ zs → third ≡ old ++ (xs ++ (ys ++ zs))
joined old first second third xs ys zs a b c =
    c ∙ ap (λ z. z ++ zs) (b ∙ ap (λ z. z ++ ys) a ∙ append_assoc old xs ys) ∙ append_assoc old (xs ++ ys) zs ∙ ap (λ z. old ++ z) (append_assoc xs ys zs)

-- loads from a buffer are made one by one
load_each : (base : ℕ) (is : List ℕ) → map plain_line (load_lines base is) ≡ map (λ i. plain_line (load_line i (base + 4 * i))) is
load_each base [] = refl
load_each base (i ∷ is) = ap (λ ls. plain_line (load_line i (base + 4 * i)) ∷ ls) (load_each base is)

pub load_grown : (base : ℕ) (old now new : List CodeLine) (is : List ℕ) (k : ℕ) → k < length is → now ≡ old ++ map plain_line (load_lines base (take k is)) → new ≡ now ++ plain_line (load_line (get_or is k 0) (base + 4 * get_or is k 0)) ∷ [] → new ≡ old ++ map plain_line (load_lines base (take (k + 1) is))
load_grown base old now new is k l a b =
    let f : ℕ → CodeLine = λ i. plain_line (load_line i (base + 4 * i)) in
    let q : suc k ≡ k + 1 = omega arith in
    b ∙ ap (λ z. z ++ f (get_or is k 0) ∷ []) (a ∙ ap (λ z. old ++ z) (load_each base (take k is)))
    ∙ append_assoc old (map f (take k is)) (f (get_or is k 0) ∷ [])
    ∙ ap (λ z. old ++ z) (sym (one_more f 0 is k l) ∙ sym (load_each base (take (suc k) is)))
    ∙ ap (λ z. old ++ map plain_line (load_lines base (take z is))) q

-- an entry of the checkpoint routine is made of its five lines
pub entry_grown : (old first now : List CodeLine) (m : ℕ) (w x s a j : Line) → w ≡ load_line 4 0 → x ≡ instruction Xori 4 4 0 1 → s ≡ instruction Slli 4 4 0 7 → a ≡ instruction Addi 4 4 0 128 → j ≡ instruction Jal 0 0 0 (748 - 24 * m) → first ≡ old ++ labelled m w ∷ [] → now ≡ first ++ (plain_line x ∷ plain_line s ∷ plain_line a ∷ plain_line j ∷ []) → now ≡ old ++ entry_code m
entry_grown old first now m w x s a j p q r t u b c =
    c ∙ ap (λ z. z ++ (plain_line x ∷ plain_line s ∷ plain_line a ∷ plain_line j ∷ [])) b
    ∙ append_assoc old (labelled m w ∷ []) (plain_line x ∷ plain_line s ∷ plain_line a ∷ plain_line j ∷ [])
    ∙ ap (λ z. old ++ (labelled m z ∷ plain_line x ∷ plain_line s ∷ plain_line a ∷ plain_line j ∷ [])) p
    ∙ ap (λ z. old ++ (labelled m (load_line 4 0) ∷ plain_line z ∷ plain_line s ∷ plain_line a ∷ plain_line j ∷ [])) q
    ∙ ap (λ z. old ++ (labelled m (load_line 4 0) ∷ plain_line (instruction Xori 4 4 0 1) ∷ plain_line z ∷ plain_line a ∷ plain_line j ∷ [])) r
    ∙ ap (λ z. old ++ (labelled m (load_line 4 0) ∷ plain_line (instruction Xori 4 4 0 1) ∷ plain_line (instruction Slli 4 4 0 7) ∷ plain_line z ∷ plain_line j ∷ [])) t
    ∙ ap (λ z. old ++ (labelled m (load_line 4 0) ∷ plain_line (instruction Xori 4 4 0 1) ∷ plain_line (instruction Slli 4 4 0 7) ∷ plain_line (instruction Addi 4 4 0 128) ∷ plain_line z ∷ [])) u
