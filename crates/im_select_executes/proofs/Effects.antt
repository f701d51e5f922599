-- What a plain step writes, reads, shows, and how it ends.
use Rattle.std.proofs.Common.{◌≡◌, ℕ, zero, suc, ◌+◌, ◌<◌, ◌≤◌, ◌⊎◌, inl, inr, Bool, true, false, cond, List, [], ◌∷◌, ◌++◌, length, Option, Some, None, refl, sym, ap, ◌∙◌, subst, arith}
use Rattle.std.specs.Prelude.{◌==◌, ◌&&◌, ◌||◌, nat_le, nat_lt}
use Rattle.std.proofs.lemmas.Bool.Decides.{nat_tests}
use Rattle.std.proofs.lemmas.List.{length-append}
use Rattle.im_num.specs.Bytes.{bytes_of}
use Rattle.im_mem.specs.Memory.{Mem, bytes_from, is_place, loaded, stored}
use Rattle.im_mem.proofs.Words.{length-bytes_of}
use Rattle.im_rv.specs.declared.instr.Op.{Op}
use Rattle.im_rv.specs.declared.instr.Op.TheVariants.{Ebreak}
use Rattle.im_rv.specs.declared.format.Format.{Format}
use Rattle.im_rv.specs.declared.format.Format.TheVariants.{Register, Immediate, Shift, Store, Branch, Upper, Jump, Order, Whole}
use Rattle.im_rv.specs.declared.step.Went.TheVariants.{On, Halted, Faulted}
use Rattle.im_rv.specs.declared.effect.Extension.{Extension}
use Rattle.im_rv.specs.declared.effect.Effect.{Effect}
use Rattle.im_rv.specs.declared.effect.Effect.TheVariants.{Puts, Goes, Loads, Stores, Stops}
use Rattle.im_rv.specs.Steps.{Cpu, row, sum_of, faulted, loads, effected}
use Rattle.im_rv.specs.Decode.{Line, fields, line_at, op_in, decode}
use Rattle.im_rv.specs.Formats.{format_of}
use Rattle.im_rv.specs.Runs.{decoded, fetched, step_of}
use Rattle.im_rv.specs.Effects.{decoded_word, fetched_line, effect, effect_by, effect_of, patch, writes_by, reads_by}
use Rattle.im_rv_reach.specs.Touches.{touch_of, line_touches, word_touches, touches}
use Rattle.im_rv_reach.specs.Shown.{shown, Begins}
use Rattle.im_rv_reach.specs.Plain.{may_load, may_store, AreAllowed}
use Rattle.im_rv_reach.proofs.Reach.{length_output}
use Rattle.im_ckpt.specs.Buffers.{is_buffer, is_fixed}
use Rattle.im_replay.specs.Output.{output_size, Extends}
use Rattle.im_keeps_until.specs.Until.{halt_line}

-- what is touched is what the effect touches

line_same : (c : Cpu) (o : Option Line) → line_touches c o ≡ touch_of (effect_by c o)
line_same c None = refl
line_same c (Some l) = refl

word_same : (c : Cpu) (o : Option ℕ) → word_touches c o ≡ touch_of (effect_by c (decoded_word o))
word_same c None = refl
word_same c (Some w) = line_same c (decode w)

pub touches_same : (c : Cpu) (m : Mem) → touches c m ≡ touch_of (effect_of c m)
touches_same c m = word_same c (loaded m c.pc 4)

-- bytes that a plain step leaves alone

patch_none : (a : ℕ) (bs : List ℕ) (k : ℕ) → (k < a) ⊎ (a + length bs ≤ k) → patch a bs k ≡ None
patch_none a [] k h = refl
patch_none a (b ∷ bs) k (inl h) =
    let t : (k == a) ≡ false = grind (arith, nat_tests) in
    ap (λ z. cond z (Some b) (patch (a + 1) bs k)) t ∙ patch_none (a + 1) bs k (inl (omega arith))
patch_none a (b ∷ bs) k (inr h) =
    let t : (k == a) ≡ false = (let q : a < k = omega arith in grind (arith, nat_tests)) in
    ap (λ z. cond z (Some b) (patch (a + 1) bs k)) t ∙ patch_none (a + 1) bs k (inr (omega arith))

pub place_none : (b : Bool) (a : ℕ) (bs : List ℕ) (k : ℕ) → (k < a) ⊎ (a + length bs ≤ k) → cond b (patch a bs k) None ≡ None
place_none true a bs k h = patch_none a bs k h
place_none false a bs k h = refl

store_apart : (code a n k : ℕ) → code ≤ 1048576 → may_store false a n ≡ true → (is_buffer k || is_fixed code k) ≡ true → (k < a) ⊎ (a + n ≤ k)
store_apart code a n k few may fixed = grind (arith, nat_tests)

pub writes_none : (code k : ℕ) (e : Effect) → code ≤ 1048576 → AreAllowed false (touch_of e) → (is_buffer k || is_fixed code k) ≡ true → writes_by e k ≡ None
writes_none code k (Puts v target) few may fixed = refl
writes_none code k (Goes target) few may fixed = refl
writes_none code k (Loads a n extension) few may fixed = refl
writes_none code k (Stores a n v) few may fixed =
    let h = store_apart code a n k few may.0 fixed in
    place_none (is_place a n) a (bytes_of n v) k (subst (λ z. (k < a) ⊎ (a + z ≤ k)) (sym (length-bytes_of n v)) h)
writes_none code k Stops few may fixed = refl

load_apart : (b : Bool) (a n k : ℕ) → may_load false a n ≡ true → (b && nat_le a k && nat_lt k (a + n)) ≡ true → is_buffer k ≡ false
load_apart b a n k may there = grind (arith, nat_tests)

pub reads_apart : (k : ℕ) (e : Effect) → AreAllowed false (touch_of e) → reads_by e k ≡ true → is_buffer k ≡ false
reads_apart k (Puts v target) may h = let bad : false ≡ true = h in cc
reads_apart k (Goes target) may h = let bad : false ≡ true = h in cc
reads_apart k (Loads a n extension) may h = load_apart (is_place a n) a n k may.0 h
reads_apart k (Stores a n v) may h = let bad : false ≡ true = h in cc
reads_apart k Stops may h = let bad : false ≡ true = h in cc

-- output that begins another

front_bytes : (m k : Mem) (a n q : ℕ) (rest : List ℕ) → bytes_from k a q ≡ bytes_from m a n ++ rest → (i : ℕ) → i < n → k (a + i) ≡ m (a + i)
front_bytes m k a zero q rest e i lt = absurd (omega arith)
front_bytes m k a (suc n) zero rest e i lt = let bad : [] ≡ m a ∷ (bytes_from m (a + 1) n ++ rest) = e in absurd cc
front_bytes m k a (suc n) (suc q) rest e zero lt =
    let here : k a ≡ m a = cc in
    let z : a + 0 ≡ a = omega arith in
    ap k z ∙ here ∙ sym (ap m z)
front_bytes m k a (suc n) (suc q) rest e (suc i) lt =
    let tail : bytes_from k (a + 1) q ≡ bytes_from m (a + 1) n ++ rest = cc in
    let z : a + suc i ≡ a + 1 + i = omega arith in
    ap k z ∙ front_bytes m k (a + 1) n q rest tail i (omega arith) ∙ sym (ap m z)

pub extends_shown : (m k : Mem) → Begins (shown m) (shown k) → Extends m k
extends_shown m k b =
    let size_k = length_output k 4194304 (output_size k) in
    let size_m = length_output m 4194304 (output_size m) in
    let both = ap length b.1 in
    let parts = length-append (shown m) b.0 in
    record {
      size = (omega arith);
      bytes = front_bytes m k 4194304 (output_size m) (output_size k) b.0 b.1;
    }

-- ebreak alone ends a run without a fault

pub loads_never : (c : Cpu) (m : Mem) (rd n : ℕ) (x : Extension) (o : Option ℕ) → (loads c m rd n x o).went ≡ Halted → ⊥
loads_never c m rd n x None h = let bad : Faulted c.pc ≡ Halted = h in cc
loads_never c m rd n x (Some v) h = let bad : On ≡ Halted = h in cc

pub stops_by : (c : Cpu) (m : Mem) (rd : ℕ) (e : Effect) → (effected c m rd e).went ≡ Halted → e ≡ Stops
stops_by c m rd (Puts v target) h = let bad : On ≡ Halted = h in absurd cc
stops_by c m rd (Goes target) h = let bad : On ≡ Halted = h in absurd cc
stops_by c m rd (Loads a n x) h = absurd (loads_never c m rd n x (loaded m a n) h)
stops_by c m rd (Stores a n v) h = absurd (by (is_place a n) h)
  where
    by : (b : Bool) → (cond b (record { went = On; cpu = record { pc = sum_of c.pc 4; x = c.x }; mem = stored m a n v }) (faulted c m)).went ≡ Halted → ⊥
    by true q = let bad : On ≡ Halted = q in cc
    by false q = let bad : Faulted c.pc ≡ Halted = q in cc
stops_by c m rd Stops h = refl

breaks : (op : Op) (pc a b imm : ℕ) → row op pc a b imm ≡ Stops → op ≡ Ebreak
breaks Ebreak pc a b imm h = refl
breaks op pc a b imm h = absurd cc

fields_op : (f : Format) (op : Op) (w : ℕ) → (fields f op w).op ≡ op
fields_op Register op w = refl
fields_op Immediate op w = refl
fields_op Shift op w = refl
fields_op Store op w = refl
fields_op Branch op w = refl
fields_op Upper op w = refl
fields_op Jump op w = refl
fields_op Order op w = refl
fields_op Whole op w = refl

break_line : (w : ℕ) (o : Option Op) (l : Line) → line_at w o ≡ Some l → l.op ≡ Ebreak → l ≡ halt_line
break_line w None l e h = let bad : None ≡ Some l = e in absurd cc
break_line w (Some op) l e h =
    let same : fields (format_of op) op w ≡ l = cc in
    let is : op ≡ Ebreak = sym (fields_op (format_of op) op w) ∙ ap (λ (k : Line). k.op) same ∙ h in
    sym same ∙ ap (λ k. fields (format_of k) k w) is

halts_line : (c : Cpu) (m : Mem) (w : ℕ) (o : Option Line) → decode w ≡ o → (decoded c m o).went ≡ Halted → o ≡ Some halt_line
halts_line c m w None e h = let bad : Faulted c.pc ≡ Halted = h in absurd cc
halts_line c m w (Some l) e h =
    ap Some (break_line w (op_in w) l e (breaks l.op c.pc (c.x l.rs1) (c.x l.rs2) l.imm (stops_by c m l.rd (effect c l) h)))

halts_word : (c : Cpu) (m : Mem) (o : Option ℕ) → (fetched c m o).went ≡ Halted → decoded_word o ≡ Some halt_line
halts_word c m None h = let bad : Faulted c.pc ≡ Halted = h in absurd cc
halts_word c m (Some w) h = halts_line c m w (decode w) refl h

pub halt_is : (c : Cpu) (m : Mem) → (step_of c m).went ≡ Halted → fetched_line c m ≡ Some halt_line
halt_is c m h = halts_word c m (loaded m c.pc 4) h
