-- Facts on rows and on one step, whichever it is.
use Rattle.std.proofs.Common.{◌≡◌, ℕ, inl, inr, Bool, true, false, cond, Option, Some, None, refl, sym, ap, ◌∙◌, ◌<◌, subst}
use Rattle.std.specs.Prelude.{unwrap_or}
use Rattle.std.proofs.Math.Path.{fun_ext}
use Rattle.im_num.specs.Bytes.{bytes_of}
use Rattle.im_mem.specs.Memory.{Mem, loaded, is_place}
use Rattle.im_rv.specs.declared.instr.Op.{Op}
use Rattle.im_rv.specs.declared.instr.Op.TheVariants.{Sw}
use Rattle.im_rv.specs.declared.effect.Extension.{Extension}
use Rattle.im_rv.specs.declared.effect.Effect.{Effect}
use Rattle.im_rv.specs.declared.effect.Effect.TheVariants.{Puts, Goes, Loads, Stores, Stops}
use Rattle.im_rv.specs.Steps.{Cpu, Stepped, row, loads, effected, sum_of}
use Rattle.im_rv.specs.Decode.{Line}
use Rattle.im_rv.specs.Runs.{decoded, step_of}
use Rattle.im_rv.specs.Effects.{fetched_line, effect, effect_by, effect_of, patch, writes_by}
use Rattle.im_rv.specs.Torn.{torn_of}
use Rattle.im_rv.specs.Laws.{BytesStay, TornBetween}
use Rattle.im_rv.proofs.Locality.{decoded_line, written-patch, saved_at}
use Rattle.im_rv.proofs.Tearing.{torn_either, writes_small, torn_small}

-- a row that stores a word stores that of rs2
pub word_row : (op : Op) (pc a b c imm p v : ℕ) → row op pc a b imm ≡ Stores p 4 v → row op pc a c imm ≡ Stores p 4 c
word_row Sw pc a b c imm p v h = let h' : Stores (sum_of a imm) 4 b ≡ Stores p 4 v = h in let q : Stores (sum_of a imm) 4 c ≡ Stores p 4 c = cc in q
word_row _ pc a b c imm p v h = absurd (cc)

loads_mem : (c : Cpu) (m : Mem) (rd n : ℕ) (extension : Extension) (o : Option ℕ) (k : ℕ) → (loads c m rd n extension o).mem k ≡ m k
loads_mem c m rd n extension None k = refl
loads_mem c m rd n extension (Some v) k = refl

effect_mem : (c : Cpu) (m : Mem) (rd : ℕ) (e : Effect) (k : ℕ) → (effected c m rd e).mem k ≡ unwrap_or (writes_by e k) (m k)
effect_mem c m rd (Puts v target) k = refl
effect_mem c m rd (Goes target) k = refl
effect_mem c m rd (Loads a n extension) k = loads_mem c m rd n extension (loaded m a n) k
effect_mem c m rd (Stores a n v) k = by_place (is_place a n)
  where
    by_place : (b : Bool) → (saved_at b c m a (bytes_of n v)).mem k ≡ unwrap_or (cond b (patch a (bytes_of n v) k) None) (m k)
    by_place true = written-patch m a (bytes_of n v) k
    by_place false = refl
effect_mem c m rd Stops k = refl

decoded_mem : (c : Cpu) (m : Mem) (o : Option Line) (k : ℕ) → (decoded c m o).mem k ≡ unwrap_or (writes_by (effect_by c o) k) (m k)
decoded_mem c m None k = refl
decoded_mem c m (Some l) k = effect_mem c m l.rd (effect c l) k

-- what a step writes
pub step_mem : (c : Cpu) (m : Mem) (k : ℕ) → (step_of c m).mem k ≡ unwrap_or (writes_by (effect_of c m) k) (m k)
step_mem c m k = ap (λ (s : Stepped). s.mem k) (decoded_line c m (loaded m c.pc 4)) ∙ decoded_mem c m (fetched_line c m) k

-- where a step leaves memory as it is, so does one that is torn
pub torn_whole : (mask : ℕ) (c : Cpu) (m : Mem) → (step_of c m).mem ≡ m → torn_of mask c m ≡ m
torn_whole mask c m h = fun_ext (λ k. elim (torn_either mask m (effect_of c m) k) [
  | inl e ↦ e
  | inr e ↦ e ∙ sym (step_mem c m k) ∙ ap (λ (n : Mem). n k) h
])

-- each byte of a torn step is the old one or the one that the whole step leaves
pub torn_between : TornBetween
torn_between mask c m k = elim (torn_either mask m (effect_of c m) k) [ inl e ↦ inl e | inr e ↦ inr (e ∙ sym (step_mem c m k)) ]

pub bytes_stay : BytesStay
bytes_stay c m h = (λ k. subst (λ z. z < 256) (sym (step_mem c m k)) (writes_small m (effect_of c m) h k), λ mask k. torn_small mask m (effect_of c m) h k)
