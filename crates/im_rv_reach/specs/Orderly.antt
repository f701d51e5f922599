-- In which order a section may touch what, the checkpoint's accesses left out.
use Rattle.std.specs.Prelude.{◌≡◌, ℕ, ◌+◌, Bool, true, false, cond, ◌&&◌, ◌||◌, ◌==◌, nat_le, List, [], ◌∷◌}
use Rattle.im_mem.specs.Map.{status_at, out_len0_at, out_sel_at, statics_start, stack_end, output_start}
use Rattle.im_rv_reach.specs.Touches.{Touch, Loaded, Stored, Flipped}
use Rattle.im_rv_reach.specs.Seen.{seen}

-- nothing, since it began with a flip; low words were stored and nothing else; OUT_SEL was stored; anything; or it has
-- touched what it may not
pub data Since : Type 0 where
  Anything : Since
  Nothing : Since
  StoresOnly : Since
  Selector : Since
  Refused : Since

-- STATUS and REASON, and the output, are never read
abbrev pub may_load : ℕ → ℕ → Bool
may_load a n = (nat_le (a + n) status_at || nat_le out_len0_at a) && nat_le (a + n) output_start

-- where a store goes: STATUS, REASON, statics, stack and output; the other low words; OUT_SEL; elsewhere
pub data Place : Type 0 where
  Free : Place
  Low : Place
  Select : Place
  Wrong : Place

abbrev pub is_free : ℕ → ℕ → Bool
is_free a n = (nat_le status_at a && nat_le (a + n) out_len0_at) || (nat_le statics_start a && nat_le (a + n) stack_end) || nat_le output_start a

abbrev pub is_low : ℕ → ℕ → Bool
is_low a n = nat_le out_len0_at a && nat_le (a + n) out_sel_at

abbrev pub place_of : ℕ → ℕ → Place
place_of a n = cond (is_free a n) Free (cond (is_low a n) Low (cond (a == out_sel_at && n == 1) Select Wrong))

abbrev pub loading : Bool → Since → Since
loading false s = Refused
loading true Anything = Anything
loading true Nothing = Anything
loading true StoresOnly = Anything
loading true Selector = Refused
loading true Refused = Refused

-- a low word is stored before anything is read, OUT_SEL alone
abbrev pub storing : Place → Since → Since
storing Free Anything = Anything
storing Free Nothing = Anything
storing Free StoresOnly = Anything
storing Free Selector = Refused
storing Free Refused = Refused
storing Low Anything = Refused
storing Low Nothing = StoresOnly
storing Low StoresOnly = StoresOnly
storing Low Selector = Refused
storing Low Refused = Refused
storing Select Anything = Refused
storing Select Nothing = Selector
storing Select StoresOnly = Refused
storing Select Selector = Refused
storing Select Refused = Refused
storing Wrong s = Refused

abbrev pub flipping : Since → Since
flipping Anything = Nothing
flipping Nothing = Nothing
flipping StoresOnly = Nothing
flipping Selector = Nothing
flipping Refused = Refused

abbrev pub moved : Since → Touch → Since
moved s (Loaded a n) = loading (may_load a n) s
moved s (Stored a n) = storing (place_of a n) s
moved s Flipped = flipping s

abbrev pub after : Since → List Touch → Since
after s [] = s
after s (t ∷ ts) = after (moved s t) ts

-- nothing was refused, and OUT_SEL's section has ended
abbrev pub is_closed : Since → Bool
is_closed Anything = true
is_closed Nothing = true
is_closed StoresOnly = true
is_closed Selector = false
is_closed Refused = false

-- touches of a piece of a run that are in order, whatever came before
abbrev pub IsOrderly : List Touch → Type 0
IsOrderly ts = is_closed (after Anything (seen ts)) ≡ true
