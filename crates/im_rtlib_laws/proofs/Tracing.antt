-- What a section has touched so far is told by the touches of the run.
use Rattle.std.proofs.Common.{◌≡◌, ℕ, zero, suc, ◌+◌, ◌-◌, true, false, Option, Some, None, refl, sym, ap, ◌∙◌, arith}
use Rattle.im_mem.specs.Memory.{Mem, loaded}
use Rattle.im_rv.specs.Steps.{Cpu}
use Rattle.im_rv.specs.Decode.{Line, decode}
use Rattle.im_rv.specs.Effects.{decoded_word, effect_by, effect_of}
use Rattle.im_ckpt.specs.Runs.{State, effect_at}
use Rattle.im_rv_reach.specs.Touches.{touch_of, line_touches, word_touches, touches}
use Rattle.im_rv_reach.specs.Seen.{seen}
use Rattle.im_rv_reach.specs.Orderly.{Anything, Refused, after, is_closed}
use Rattle.im_rv_reach.proofs.Orderly.{seen-append, after-append, after_refused}
use Rattle.im_rtlib_laws.specs.Orderly.{touched_from, since}
use Rattle.im_rtlib_laws.specs.SectionsLaws.{TouchedLaw}

by_line : (c : Cpu) (o : Option Line) → line_touches c o ≡ touch_of (effect_by c o)
by_line c None = refl
by_line c (Some l) = refl

by_word : (c : Cpu) (o : Option ℕ) → word_touches c o ≡ touch_of (effect_by c (decoded_word o))
by_word c None = refl
by_word c (Some w) = by_line c (decode w)

pub touches_are : (c : Cpu) (m : Mem) → touches c m ≡ touch_of (effect_of c m)
touches_are c m = by_word c (loaded m c.pc 4)

next_since : (run : ℕ → State) (t : ℕ) → since run (suc t) ≡ after (since run t) (seen (touches (run t).cpu (run t).mem))
next_since run t = ap (λ z. after (since run t) (seen z)) (sym (touches_are (run t).cpu (run t).mem))

traced : (run : ℕ → State) (n t : ℕ) → after (since run t) (seen (touched_from run t n)) ≡ since run (t + n)
traced run zero t = ap (since run) (let q : t ≡ t + 0 = omega arith in q)
traced run (suc n) t =
    let c : Cpu = (run t).cpu in
    let m : Mem = (run t).mem in
    ap (after (since run t)) (seen-append (touches c m) (touched_from run (suc t) n))
    ∙ after-append (since run t) (seen (touches c m)) (seen (touched_from run (suc t) n))
    ∙ ap (λ z. after z (seen (touched_from run (suc t) n))) (sym (next_since run t))
    ∙ traced run n (suc t)
    ∙ ap (since run) (let q : suc t + n ≡ t + suc n = omega arith in q)

-- what is refused stays so
stays : (run : ℕ → State) (t n : ℕ) → since run t ≡ Refused → since run (t + n) ≡ Refused
stays run t zero h = ap (since run) (let q : t + 0 ≡ t = omega arith in q) ∙ h
stays run t (suc n) h =
    ap (since run) (let q : t + suc n ≡ suc (t + n) = omega arith in q)
    ∙ ap (λ z. after z (seen (touch_of (effect_at (run (t + n)))))) (stays run t n h)
    ∙ after_refused (seen (touch_of (effect_at (run (t + n)))))

pub touched_law : TouchedLaw
touched_law run n orderly t l h =
    let all : after Anything (seen (touched_from run 0 n)) ≡ since run n = traced run n 0 ∙ ap (since run) (let q : 0 + n ≡ n = omega arith in q) in
    let q : t + (n - t) ≡ n = omega arith in
    let end : since run n ≡ Refused = ap (since run) (sym q) ∙ stays run t (n - t) h in
    let bad : false ≡ true = sym (ap is_closed (all ∙ end)) ∙ orderly in
    cc
