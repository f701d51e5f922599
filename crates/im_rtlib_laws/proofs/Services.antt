-- What the routines of the services do is what the table says.
use Rattle.std.proofs.Common.{◌≡◌, ℕ, zero, suc, ◌%◌, ◌/◌, ◌^◌, ◌<◌, ◌≤◌, ℤ, pos, negsuc, Bool, true, false, cond, List, [], ◌∷◌, ◌++◌, refl, sym, ap, ◌∙◌, subst, arith, length}
use Rattle.std.specs.Prelude.{nat_abs, nat_lt}
use Rattle.std.proofs.lemmas.Int.{ints}
use Rattle.im_num.specs.declared.kind.Kind.TheVariants.{U8}
use Rattle.im_num.specs.Kinds.{wrap, word}
use Rattle.im_num.proofs.Wrapping.{wrap-only}
use Rattle.im_mem.specs.Memory.{Mem, bytes_from}
use Rattle.im_serve.specs.declared.service.Service.{Service}
use Rattle.im_serve.specs.declared.service.Service.TheVariants.{Getchar, Putchar}
use Rattle.im_serve.specs.Services.{Reply, row, byte_in, byte_put, byte_out, IsNullary, IsUnary, serve}
use Rattle.im_serve.proofs.Rows.{law_of}
use Rattle.im_rv_reach.specs.Shown.{shown, left}
use Rattle.im_rv_reach.specs.Routines.{Runtime, Called, Done, put, put_answer, got, got_answer}
use Rattle.im_rtlib.specs.Routines.{service_label}
use Rattle.im_rtlib_laws.specs.Standing.{HasRoutines}
use Rattle.im_rtlib_laws.specs.Laws.{Replied}
use Rattle.im_rtlib_laws.proofs.Serving.{putchar_law}
use Rattle.im_rtlib_laws.proofs.Reading.{getchar_law}

-- ---- words

word_small : (z : ℤ) → word z < 2 ^ 32
unfolding word
word_small (pos n) = omega arith
word_small (negsuc n) = omega arith

word_of : (n : ℕ) → n < 2 ^ 32 → word (pos n) ≡ n
unfolding word
word_of n h = omega arith

minus_one : word (negsuc 0) ≡ 0xFFFFFFFF
unfolding word
minus_one = refl

low_byte : (n : ℕ) → nat_abs (wrap U8 (pos n)) ≡ n % 256
low_byte n = ap nat_abs (wrap-only U8 (pos n) (pos (n % 256)) (pos (n / 256)) (record { low = omega (arith, ints); high = omega (arith, ints) }) (omega (arith, ints)))

-- ---- a routine that has run, by what the table gives

replied : (r : Runtime) (pc : ℕ) (m : Mem) (x : ℕ → ℕ) (output input : List ℕ) (reply : Reply) (d : Done r m pc x (x 1) output input) → output ≡ reply.output → input ≡ reply.input → d.y 10 ≡ word reply.value → Replied r pc m x reply
replied r pc m x output input reply d eo ei answer = record {
  done = record {
    n = d.n;
    some = d.some;
    few = d.few;
    ts = d.ts;
    y = d.y;
    k = d.k;
    reach = d.reach;
    flips = d.flips;
    flips_few = d.flips_few;
    system = d.system;
    orderly = d.orderly;
    fixed = d.fixed;
    words = d.words;
    data_same = d.data_same;
    output_is = d.output_is ∙ eo;
    input_is = d.input_is ∙ ei;
    zero_reg = d.zero_reg;
    stack = d.stack;
  };
  answer = answer;
}

-- ---- a byte of input

-- what is left of the input is of bytes
first_byte : (m : Mem) (a n byte : ℕ) (more : List ℕ) → ((i : ℕ) → m i < 256) → bytes_from m a n ≡ byte ∷ more → byte < 256
first_byte m a zero byte more h e = absurd cc
first_byte m a (suc n) byte more h e = let f : m a ≡ byte = cc in let k = h a in omega arith

got_byte : (r : Runtime) (pc : ℕ) (m : Mem) (x : ℕ → ℕ) (d : Done r m pc x (x 1) (shown m) (got (left m))) → d.y 10 ≡ got_answer (left m) → ((i : ℕ) → m i < 256) → (input : List ℕ) → left m ≡ input → Replied r pc m x (byte_in input (shown m))
got_byte r pc m x d a bytes [] e = replied r pc m x _ _ (byte_in [] (shown m)) d refl (ap got e) (a ∙ ap got_answer e ∙ sym minus_one)
got_byte r pc m x d a bytes (byte ∷ input) e =
    let small = first_byte m _ _ byte input bytes e in
    replied r pc m x _ _ (byte_in (byte ∷ input) (shown m)) d refl (ap got e) (a ∙ ap got_answer e ∙ sym (word_of byte (omega arith)))

-- ---- a byte of output

put_byte : (r : Runtime) (pc : ℕ) (m : Mem) (x : ℕ → ℕ) (d : Done r m pc x (x 1) (put r.capacity (shown m) (x 10)) (left m)) → d.y 10 ≡ put_answer r.capacity (shown m) (x 10) → (has : Bool) → nat_lt (length (shown m)) r.capacity ≡ has → Replied r pc m x (byte_put has (x 10 % 256) (left m) (shown m))
put_byte r pc m x d a true e =
    replied r pc m x _ _ (byte_put true (x 10 % 256) (left m) (shown m)) d (ap (λ b. cond b (shown m ++ x 10 % 256 ∷ []) (shown m)) e) refl
    (a ∙ ap (λ b. cond b (x 10 % 256) 0xFFFFFFFF) e ∙ sym (word_of (x 10 % 256) (omega arith)))
put_byte r pc m x d a false e =
    replied r pc m x _ _ (byte_put false (x 10 % 256) (left m) (shown m)) d (ap (λ b. cond b (shown m ++ x 10 % 256 ∷ []) (shown m)) e) refl
    (a ∙ ap (λ b. cond b (x 10 % 256) 0xFFFFFFFF) e ∙ sym minus_one)

-- a word is put as the number that it is of
put_word : (r : Runtime) (pc : ℕ) (m : Mem) (x : ℕ → ℕ) (z : ℤ) → x 10 ≡ word z → Replied r pc m x (byte_put (nat_lt (length (shown m)) r.capacity) (x 10 % 256) (left m) (shown m)) → Replied r pc m x (serve Putchar r.capacity z (left m) (shown m))
put_word r pc m x z word_is h =
    let low : nat_abs (wrap U8 (pos (word z))) ≡ x 10 % 256 = low_byte (word z) ∙ ap (λ n. n % 256) (sym word_is) in
    subst (Replied r pc m x) (ap (λ b. byte_out r.capacity b (left m) (shown m)) (sym low) ∙ sym ((law_of Putchar).low r.capacity z (left m) (shown m))) h

-- ---- the routine of each service

pub serves : (r : Runtime) (place : ℕ → ℕ) → HasRoutines r.image place → 71 ≤ r.longest → 3 ≤ r.flips → (service : Service) (m : Mem) (x : ℕ → ℕ) (z : ℤ) → Called r m x 1 → (IsNullary (row service).parameter → z ≡ pos 0) → (IsUnary (row service).parameter → x 10 ≡ word z) → Replied r (place (service_label service)) m x (serve service r.capacity z (left m) (shown m))
serves r place has few flips Getchar m x z call none argument =
    let s = getchar_law r place has (omega arith) (omega arith) m x call in
    got_byte r _ m x s.done s.answer call.words.bytes (left m) refl
serves r place has few flips Putchar m x z call none argument =
    let word_is : x 10 ≡ word z = argument tt in
    let s = putchar_law r place has few flips m x call (let b = word_small z in omega arith) in
    put_word r _ m x z word_is (put_byte r _ m x s.done s.answer (nat_lt (length (shown m)) r.capacity) refl)
