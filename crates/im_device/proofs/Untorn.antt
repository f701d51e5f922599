-- Power that fails between two instructions: a mask of 0 tears nothing.
use Rattle.std.proofs.Common.{◌≡◌, ℕ, ◌+◌, Bool, true, false, cond, suc, List, [], ◌∷◌, refl, ap, ◌∙◌}
use Rattle.std.specs.Prelude.{◌==◌, ◌&&◌}
use Rattle.std.proofs.lemmas.Bool.{eq-eqb}
use Rattle.std.proofs.Math.Path.{fun_ext}
use Rattle.im_num.specs.Bytes.{bytes_of}
use Rattle.im_mem.specs.Memory.{Mem, is_place}
use Rattle.im_rv.specs.declared.effect.Effect.{Effect}
use Rattle.im_rv.specs.declared.effect.Effect.TheVariants.{Puts, Goes, Loads, Stores, Stops}
use Rattle.im_rv.specs.declared.step.Went.{Went}
use Rattle.im_rv.specs.declared.step.Went.TheVariants.{On, Halted, Faulted}
use Rattle.im_rv.specs.Effects.{effect_of}
use Rattle.im_rv.specs.Torn.{masked, torn_by}
use Rattle.im_device.specs.Run.{Moment, unless_over, after_tear, torn, counting, index_of}

kept : (b : Bool) (x y : ℕ) → cond (b && false) x y ≡ y
kept true x y = refl
kept false x y = refl

masked_none : (m : Mem) (a : ℕ) (bs : List ℕ) → masked 0 m a bs ≡ m
masked_none m a [] = refl
masked_none m a (b ∷ bs) = masked_none (λ k. cond (k == a && false) b (m k)) (a + 1) bs ∙ fun_ext (λ k. kept (k == a) b (m k))

at_place : (b : Bool) (m n : Mem) → n ≡ m → cond b n m ≡ m
at_place true m n e = e
at_place false m n e = refl

torn_by_none : (m : Mem) (e : Effect) → torn_by 0 m e ≡ m
torn_by_none m (Puts v target) = refl
torn_by_none m (Goes target) = refl
torn_by_none m (Loads a n extension) = refl
torn_by_none m (Stores a n v) = at_place (is_place a n) m (masked 0 m a (bytes_of n v)) (masked_none m a (bytes_of n v))
torn_by_none m Stops = refl

counts_same : (m : Mem) (n : ℕ) → counting m m n ≡ n
counts_same m n = ap (λ b. cond b n (suc n)) (eq-eqb (index_of m) (index_of m) refl)

abbrev with_mem : Moment → Mem → Moment
with_mem x m = record { went = x.went; cpu = x.cpu; mem = m; steps = x.steps; commits = counting x.mem m x.commits }

abbrev with_commits : Moment → ℕ → Moment
with_commits x commits = record { went = x.went; cpu = x.cpu; mem = x.mem; steps = x.steps; commits = commits }

after_none : (x : Moment) → after_tear 0 x ≡ x
after_none x = ap (with_mem x) (torn_by_none x.mem (effect_of x.cpu x.mem)) ∙ ap (with_commits x) (counts_same x.mem x.commits)

by_went : (w : Went) (x : Moment) → unless_over (after_tear 0) w x ≡ x
by_went On x = after_none x
by_went Halted x = refl
by_went (Faulted at) x = refl

pub torn_none : (x : Moment) → torn 0 x ≡ x
torn_none x = by_went x.went x
