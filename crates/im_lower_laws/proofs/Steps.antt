-- A part of the code that is made: what it keeps, and what it adds.
use Rattle.std.proofs.Common.{◌≡◌, ℕ, zero, suc, ◌+◌, ◌<◌, ◌≤◌, ◌==◌, max, List, [], ◌∷◌, ◌++◌, length, refl, ap, sym, ◌∙◌, subst, arith}
use Rattle.std.specs.Prelude.{if◌then◌else◌, Some, slice_get, slice_set}
use Rattle.im_typed.specs.Typing.{Each}
use Rattle.im_block.specs.declared.code.Line.{Line}
use Rattle.im_block.specs.declared.code.Line.TheVariants.{Cut}
use Rattle.im_block.specs.declared.code.Exit.{Exit}
use Rattle.im_block.specs.declared.code.Exit.TheVariants.{Jump, Turn, Branch, Return}
use Rattle.im_block.specs.Shape.{Descends, turns_of, cost, exit_cost}
use Rattle.im_block.specs.Wellformed.{ExitThere, accesses_of_line}
use Rattle.im_block.specs.declared.unit.Function.{Function}
use Rattle.im_alloc_placed.specs.Placeable.{IsPlaceableLine, LineFrom, ExitFrom}
use Rattle.im_lower_relation.specs.Codes.{Point, ends}
use Rattle.im_lower_relation.specs.Lowered.{CallsRightly}
use Rattle.im_typed.specs.Program as p
use Rattle.std.proofs.lemmas.List.{length-set}
use Rattle.std.proofs.lemmas.Bool.Decides.{nat_tests}
use Rattle.std.proofs.Common.{◌⊎◌, inl, inr, Bool, true, false}
use Rattle.im_lower_plain.specs.Made.{Made, above_line, above_exit, put, close, start, turn}
use Rattle.im_lower_plain.proofs.Growth.{Grows, stays, grows_same, grows_put, grows_close, grows_start, grows_turn, close_length}
use Rattle.im_lower_laws.proofs.Counting.{total, point_cost, point_turns, point_times, occurs, put_cost, put_turns, put_times, close_total, start_total, turn_total, exit_costs}

abbrev pub IsUncut : Line → Type 0
IsUncut (Cut cause) = ⊥
IsUncut line = Unit {0}

pub record Fits (g : p.Prog) (code : Function) (low : ℕ) (line : Line) : Type 0 where
  pub small : cost line ≤ 50
  pub calls : CallsRightly g line
  pub from : LineFrom low line
  pub uncut : IsUncut line
  pub placeable : IsPlaceableLine (length g.statics) code line

-- an exit of the block of a number, where there are so many blocks and registers
pub record GoodExit (low blocks registers b : ℕ) (exit : Exit) : Type 0 where
  pub descends : Descends exit b
  pub there : ExitThere blocks exit
  pub within : above_exit exit ≤ registers
  pub from : ExitFrom low exit

there_more : (n k : ℕ) (exit : Exit) → n ≤ k → ExitThere n exit → ExitThere k exit
there_more n k (Jump b) le h = omega arith
there_more n k (Turn b) le h = omega arith
there_more n k (Branch on x y) le h = (omega arith, omega arith)
there_more n k (Return from) le h = tt

exit_more : {low blocks registers b : ℕ} {exit : Exit} (n k : ℕ) → blocks ≤ n → registers ≤ k → GoodExit low blocks registers b exit → GoodExit low n k b exit
exit_more {low} {blocks} {registers} {b} {exit} n k le more h =
    let within = h.within in
    record { descends = h.descends; there = there_more blocks n exit le h.there; within = omega arith; from = h.from }

abbrev pub IsAtEnd : List Point → Point → ℕ → Point → Type 0
IsAtEnd xs y b p = ((b ≡ length xs) × (y ≡ p)) ⊎ (slice_get xs b ≡ Some p)

pub at_end : (xs : List Point) (y : Point) (b : ℕ) (p : Point) → slice_get (xs ++ y ∷ []) b ≡ Some p → IsAtEnd xs y b p
at_end [] y zero p e = inl (refl, cc)
at_end [] y (suc b) p e = absurd (cc)
at_end (x ∷ xs) y zero p e = inr e
at_end (x ∷ xs) y (suc b) p e = next (at_end xs y b p e)
  where
    next : IsAtEnd xs y b p → IsAtEnd (x ∷ xs) y (suc b) p
    next (inl h) = inl (ap suc h.0, h.1)
    next (inr h) = inr h

abbrev IsWhenSet : List Point → ℕ → ℕ → Point → Point → Type 0
IsWhenSet xs k b v p = (v ≡ p) ⊎ (slice_get xs b ≡ Some p)

when_set : (xs : List Point) (k b : ℕ) (v p : Point) → slice_get (slice_set xs k v) b ≡ Some p → IsWhenSet xs k b v p
when_set [] k b v p e = inr e
when_set (x ∷ xs) zero zero v p e = inl (cc)
when_set (x ∷ xs) zero (suc b) v p e = inr e
when_set (x ∷ xs) (suc k) zero v p e = inr e
when_set (x ∷ xs) (suc k) (suc b) v p e = when_set xs k b v p e

same_or : (n a : ℕ) → (n ≡ a) ⊎ (n ≡ a → ⊥)
same_or zero zero = inl refl
same_or zero (suc a) = inr (λ e. absurd (omega arith))
same_or (suc n) zero = inr (λ e. absurd (omega arith))
same_or (suc n) (suc a) = next (same_or n a)
  where
    next : (n ≡ a) ⊎ (n ≡ a → ⊥) → (suc n ≡ suc a) ⊎ (suc n ≡ suc a → ⊥)
    next (inl e) = inl (ap suc e)
    next (inr ne) = inr (λ e. ne (let f : n ≡ a = omega arith in f))

module _ (g : p.Prog) (code : Function) (low : ℕ) where
  pub record GoodLine (registers : ℕ) (line : Line) : Type 0 where
    pub fits : Fits g code low line
    pub within : above_line line ≤ registers

  pub record GoodPoint (blocks registers b : ℕ) (p : Point) : Type 0 where
    pub lines : Each (GoodLine registers) p.rest
    pub exit : GoodExit low blocks registers b p.exit

  pub record Good (m : Made) : Type 0 where
    pub blocks : (b : ℕ) (p : Point) → slice_get m.blocks b ≡ Some p → GoodPoint (length m.blocks) m.registers b p
    pub point : GoodPoint (length m.blocks) m.registers (length m.blocks) m.point

  lines_more : (registers more : ℕ) (lines : List Line) → registers ≤ more → Each (GoodLine registers) lines → Each (GoodLine more) lines
  lines_more registers more [] le h = tt
  lines_more registers more (line ∷ lines) le h =
      let one = h.0 in
      let within = one.within in
      (record { fits = one.fits; within = omega arith }, lines_more registers more lines le h.1)

  point_more : {blocks registers b : ℕ} {p : Point} (n k : ℕ) → blocks ≤ n → registers ≤ k → GoodPoint blocks registers b p → GoodPoint n k b p
  point_more {blocks} {registers} {b} {p} n k le more h =
      record { lines = lines_more registers k p.rest more h.lines; exit = exit_more n k le more h.exit }

  good_put : (line : Line) (m : Made) → Fits g code low line → Good m → Good (put line m)
  unfolding put
  good_put line m fits h =
      let registers = max m.registers (above_line line) in
      let more : m.registers ≤ registers = omega arith in
      let within : above_line line ≤ registers = omega arith in
      let same : length m.blocks ≤ length m.blocks = omega arith in
      let old = point_more (length m.blocks) registers same more h.point in
      record {
        blocks = λ b p e. point_more (length m.blocks) registers same more (h.blocks b p e);
        point = record { lines = (record { fits = fits; within = within }, old.lines); exit = old.exit };
      }

  good_counted : (m : Made) (n : ℕ) → Good m → Good (record m { accesses = n })
  good_counted m n h = record { blocks = h.blocks; point = h.point }

  good_start : (exit : Exit) (m : Made) → Descends exit (length m.blocks) → ExitThere (length m.blocks) exit → ExitFrom low exit → Good m → Good (start exit m)
  unfolding start
  good_start exit m descends there from h =
      let registers = max m.registers (above_exit exit) in
      let more : m.registers ≤ registers = omega arith in
      let within : above_exit exit ≤ registers = omega arith in
      let same : length m.blocks ≤ length m.blocks = omega arith in
      record {
        blocks = λ b p e. point_more (length m.blocks) registers same more (h.blocks b p e);
        point = record { lines = tt; exit = record { descends = descends; there = there; within = within; from = from } };
      }

  good_close : (m : Made) → Good m → Good (close m)
  unfolding close
  good_close m h =
      let n = length m.blocks in
      let blocks = m.blocks ++ m.point ∷ [] in
      let longer : length blocks ≡ n + 1 = close_length m in
      let more : n ≤ length blocks = omega arith in
      let same : m.registers ≤ m.registers = omega arith in
      let within : 0 ≤ m.registers = omega arith in
      let there : n < length blocks = omega arith in
      record {
        blocks = λ b p e. either b p more same (at_end m.blocks m.point b p e);
        point = record { lines = tt; exit = record { descends = there; there = there; within = within; from = tt } };
      }
    where
      either : (b : ℕ) (p : Point) → length m.blocks ≤ length (m.blocks ++ m.point ∷ []) → m.registers ≤ m.registers → IsAtEnd m.blocks m.point b p → GoodPoint (length (m.blocks ++ m.point ∷ [])) m.registers b p
      either b p more same (inl both) =
          subst (λ q. GoodPoint (length (m.blocks ++ m.point ∷ [])) m.registers b q) both.1
          (subst (λ c. GoodPoint (length (m.blocks ++ m.point ∷ [])) m.registers c m.point) (sym both.0)
          (point_more (length (m.blocks ++ m.point ∷ [])) m.registers more same h.point))
      either b p more same (inr e) = point_more (length (m.blocks ++ m.point ∷ [])) m.registers more same (h.blocks b p e)

  good_turn : (k body : ℕ) (m : Made) → body < length m.blocks → Good m → Good (turn k body m)
  unfolding turn
  good_turn k body m there h =
      let same : m.registers ≤ m.registers = omega arith in
      let within : 0 ≤ m.registers = omega arith in
      let length_is : length (slice_set m.blocks k (ends (Turn body))) ≡ length m.blocks = length-set m.blocks k (ends (Turn body)) in
      let more : length m.blocks ≤ length (slice_set m.blocks k (ends (Turn body))) = omega arith in
      let in_there : body < length (slice_set m.blocks k (ends (Turn body))) = omega arith in
      record {
        blocks = λ b p e. either b p more same within in_there (when_set m.blocks k b (ends (Turn body)) p e);
        point = subst (λ n. GoodPoint n m.registers n m.point) (sym length_is) h.point;
      }
    where
      either : (b : ℕ) (p : Point) → length m.blocks ≤ length (slice_set m.blocks k (ends (Turn body))) → m.registers ≤ m.registers → 0 ≤ m.registers → body < length (slice_set m.blocks k (ends (Turn body))) → IsWhenSet m.blocks k b (ends (Turn body)) p → GoodPoint (length (slice_set m.blocks k (ends (Turn body)))) m.registers b p
      either b p more same within in_there (inl e) =
          subst (λ q. GoodPoint (length (slice_set m.blocks k (ends (Turn body)))) m.registers b q) e
          (record { lines = tt; exit = record { descends = tt; there = in_there; within = within; from = tt } })
      either b p more same within in_there (inr e) = point_more (length (slice_set m.blocks k (ends (Turn body)))) m.registers more same (h.blocks b p e)

-- numbers of accesses: none twice, and only those counted so far
pub record Numbered (from : ℕ) (m : Made) : Type 0 where
  pub begun : from ≤ m.accesses
  pub once : (a : ℕ) → total (point_times a) m ≤ 1
  pub new : (a : ℕ) → m.accesses ≤ a → total (point_times a) m ≡ 0
  pub old : (a : ℕ) → a < from → total (point_times a) m ≡ 0

numbered_put : (from : ℕ) (line : Line) (m : Made) → accesses_of_line line ≡ [] → Numbered from m → Numbered from (put line m)
unfolding put
numbered_put from line m none h =
    let times = λ (a : ℕ). put_times a line m ∙ ap (λ xs. total (point_times a) m + occurs a xs) none in
    record {
      begun = h.begun;
      once = λ a. let e : total (point_times a) (put line m) ≡ total (point_times a) m + 0 = times a in let o = h.once a in omega arith;
      new = λ a le. let e : total (point_times a) (put line m) ≡ total (point_times a) m + 0 = times a in let o = h.new a le in omega arith;
      old = λ a lt. let e : total (point_times a) (put line m) ≡ total (point_times a) m + 0 = times a in let o = h.old a lt in omega arith;
    }

one_time : (n a : ℕ) → occurs a (n ∷ []) ≤ 1
one_time n a = at_most (n == a)
  where
    at_most : (b : Bool) → (if b then 1 else 0) + 0 ≤ 1
    at_most true = omega arith
    at_most false = omega arith

no_time : (n a : ℕ) → (n ≡ a → ⊥) → occurs a (n ∷ []) ≡ 0
no_time n a ne = grind (arith, nat_tests)

numbered_access : (from : ℕ) (line : Line) (m : Made) → accesses_of_line line ≡ m.accesses ∷ [] → Numbered from m → Numbered from (put line (record m { accesses = m.accesses + 1 }))
unfolding put
numbered_access from line m one h =
    let n = m.accesses in
    let begun = h.begun in
    let times = λ (a : ℕ). put_times a line (record m { accesses = n + 1 }) ∙ ap (λ xs. total (point_times a) m + occurs a xs) one in
    record {
      begun = omega arith;
      once = λ a. once a (times a) (h.once a) (one_time n a) (same_or n a);
      new = λ a le.
          let e : total (point_times a) (put line (record m { accesses = n + 1 })) ≡ total (point_times a) m + occurs a (n ∷ []) = times a in
          let o = h.new a (let x : n ≤ a = omega arith in x) in
          let z = no_time n a (λ same. absurd (omega arith)) in
          omega arith;
      old = λ a lt.
          let e : total (point_times a) (put line (record m { accesses = n + 1 })) ≡ total (point_times a) m + occurs a (n ∷ []) = times a in
          let o = h.old a lt in
          let z = no_time n a (λ same. absurd (omega arith)) in
          omega arith;
    }
  where
    once : (a : ℕ) → total (point_times a) (put line (record m { accesses = m.accesses + 1 })) ≡ total (point_times a) m + occurs a (m.accesses ∷ []) → total (point_times a) m ≤ 1 → occurs a (m.accesses ∷ []) ≤ 1 → (m.accesses ≡ a) ⊎ (m.accesses ≡ a → ⊥) → total (point_times a) (put line (record m { accesses = m.accesses + 1 })) ≤ 1
    once a e o t (inl same) =
        let z = h.new a (let x : m.accesses ≤ a = omega arith in x) in
        omega arith
    once a e o t (inr ne) =
        let z = no_time m.accesses a ne in
        omega arith

numbered_close : (from : ℕ) (m : Made) → Numbered from m → Numbered from (close m)
unfolding close
numbered_close from m h =
    let times = λ (a : ℕ). close_total (point_times a) m in
    record {
      begun = h.begun;
      once = λ a. let e : total (point_times a) (close m) ≡ total (point_times a) m + 0 = times a in let o = h.once a in omega arith;
      new = λ a le. let e : total (point_times a) (close m) ≡ total (point_times a) m + 0 = times a in let o = h.new a le in omega arith;
      old = λ a lt. let e : total (point_times a) (close m) ≡ total (point_times a) m + 0 = times a in let o = h.old a lt in omega arith;
    }

numbered_start : (from : ℕ) (exit : Exit) (m : Made) → Numbered from m → Numbered from (start exit m)
unfolding start
numbered_start from exit m h =
    let times = λ (a : ℕ). start_total (point_times a) exit m in
    record {
      begun = h.begun;
      once = λ a. let e : total (point_times a) (start exit m) + point_times a m.point ≡ total (point_times a) m + 0 = times a in let o = h.once a in omega arith;
      new = λ a le. let e : total (point_times a) (start exit m) + point_times a m.point ≡ total (point_times a) m + 0 = times a in let o = h.new a le in omega arith;
      old = λ a lt. let e : total (point_times a) (start exit m) + point_times a m.point ≡ total (point_times a) m + 0 = times a in let o = h.old a lt in omega arith;
    }

numbered_turn : (from k body before : ℕ) (m : Made) → slice_get m.blocks k ≡ Some (ends (Turn before)) → Numbered from m → Numbered from (turn k body m)
unfolding turn
numbered_turn from k body before m was h =
    let times = λ (a : ℕ). turn_total (point_times a) k body before m was refl in
    record {
      begun = h.begun;
      once = λ a. let e : total (point_times a) (turn k body m) ≡ total (point_times a) m = times a in let o = h.once a in omega arith;
      new = λ a le. let e : total (point_times a) (turn k body m) ≡ total (point_times a) m = times a in let o = h.new a le in omega arith;
      old = λ a lt. let e : total (point_times a) (turn k body m) ≡ total (point_times a) m = times a in let o = h.old a lt in omega arith;
    }

close_few : (limit : ℕ) (n : Made) → n.registers ≤ limit → (close n).registers ≤ limit
unfolding close
close_few limit n le = le

turn_few : (limit k body : ℕ) (n : Made) → n.registers ≤ limit → (turn k body n).registers ≤ limit
unfolding turn
turn_few limit k body n le = le

-- a part of the code: words, loop edges, from and to; registers below a number
module _ (g : p.Prog) (code : Function) (low limit : ℕ) where
  pub record Step (words edges : ℕ) (m n : Made) : Type 0 where
    pub grows : Grows m n
    pub good : Good g code low m → Good g code low n
    pub cost : total point_cost n ≤ total point_cost m + words
    pub turns : total point_turns n ≤ total point_turns m + edges
    pub few : m.registers ≤ limit → n.registers ≤ limit
    pub numbered : (from : ℕ) → Numbered from m → Numbered from n

  pub no_step : (m : Made) → Step 0 0 m m
  no_step m =
      record {
        grows = stays m;
        good = λ h. h;
        cost = omega arith;
        turns = omega arith;
        few = λ h. h;
        numbered = λ from h. h;
      }

  pub at_most : {c t : ℕ} {m n : Made} (d u : ℕ) → c ≤ d → t ≤ u → Step c t m n → Step d u m n
  at_most {c} {t} {m} {n} d u le more h =
      let cost = h.cost in
      let turns = h.turns in
      record {
        grows = h.grows;
        good = h.good;
        cost = omega arith;
        turns = omega arith;
        few = h.few;
        numbered = h.numbered;
      }

  pub step_put : {c t : ℕ} {m n : Made} (line : Line) (words : ℕ) → Fits g code low line → accesses_of_line line ≡ [] → above_line line ≤ limit → cost line ≤ words → Step c t m n → Step (c + words) t m (put line n)
  unfolding put
  step_put {c} {t} {m} {n} line words fits none within le h =
      let cost_n = h.cost in
      let turns_n = h.turns in
      let added = put_cost line n in
      let kept = put_turns line n in
      record {
        grows = grows_put line h.grows;
        good = λ good. good_put g code low line n fits (h.good good);
        cost = omega arith;
        turns = omega arith;
        few = λ few. let f = h.few few in omega arith;
        numbered = λ from k. numbered_put from line n none (h.numbered from k);
      }

  pub step_access : {c t : ℕ} {m n : Made} (line : Line) (words : ℕ) → Fits g code low line → accesses_of_line line ≡ n.accesses ∷ [] → above_line line ≤ limit → cost line ≤ words → Step c t m n → Step (c + words) t m (put line (record n { accesses = n.accesses + 1 }))
  unfolding put
  step_access {c} {t} {m} {n} line words fits one within le h =
      let cost_n = h.cost in
      let turns_n = h.turns in
      let counted = record n { accesses = n.accesses + 1 } in
      let added = put_cost line counted in
      let kept = put_turns line counted in
      record {
        grows = grows_same (put line counted) refl h.grows;
        good = λ good. good_put g code low line counted fits (good_counted g code low n (n.accesses + 1) (h.good good));
        cost = omega arith;
        turns = omega arith;
        few = λ few. let f = h.few few in omega arith;
        numbered = λ from k. numbered_access from line n one (h.numbered from k);
      }

  pub step_close : {c t : ℕ} {m n : Made} → Step c t m n → Step (c + 2) t m (close n)
  step_close {c} {t} {m} {n} h =
      let cost_n = h.cost in
      let turns_n = h.turns in
      let added : total point_cost (close n) ≡ total point_cost n + 2 = close_total point_cost n in
      let kept : total point_turns (close n) ≡ total point_turns n + 0 = close_total point_turns n in
      record {
        grows = grows_close h.grows;
        good = λ good. good_close g code low n (h.good good);
        cost = omega arith;
        turns = omega arith;
        few = λ few. close_few limit n (h.few few);
        numbered = λ from k. numbered_close from n (h.numbered from k);
      }

  pub step_start : {c t : ℕ} {m n : Made} (exit : Exit) (words edges : ℕ) → Descends exit (length n.blocks) → ExitThere (length n.blocks) exit → ExitFrom low exit → above_exit exit ≤ limit → exit_cost exit ≤ words + 2 → turns_of exit ≤ edges → Step c t m n → Step (c + words) (t + edges) m (start exit n)
  unfolding start
  step_start {c} {t} {m} {n} exit words edges descends there from within le turned h =
      let cost_n = h.cost in
      let turns_n = h.turns in
      let added : total point_cost (start exit n) + point_cost n.point ≡ total point_cost n + exit_cost exit = start_total point_cost exit n ∙ omega arith in
      let kept : total point_turns (start exit n) + point_turns n.point ≡ total point_turns n + turns_of exit = start_total point_turns exit n in
      let least = exit_costs n.point.exit in
      record {
        grows = grows_start exit h.grows;
        good = λ good. good_start g code low exit n descends there from (h.good good);
        cost = omega arith;
        turns = omega arith;
        few = λ few. let f = h.few few in omega arith;
        numbered = λ from k. numbered_start from exit n (h.numbered from k);
      }

  pub step_turn : {c t : ℕ} {m n : Made} (k body before : ℕ) → length m.blocks ≤ k → slice_get n.blocks k ≡ Some (ends (Turn before)) → body < length n.blocks → Step c t m n → Step c t m (turn k body n)
  step_turn {c} {t} {m} {n} k body before late was there h =
      let cost_n = h.cost in
      let turns_n = h.turns in
      let added : total point_cost (turn k body n) ≡ total point_cost n = turn_total point_cost k body before n was refl in
      let kept : total point_turns (turn k body n) ≡ total point_turns n = turn_total point_turns k body before n was refl in
      record {
        grows = grows_turn k body late h.grows;
        good = λ good. good_turn g code low k body n there (h.good good);
        cost = omega arith;
        turns = omega arith;
        few = λ few. turn_few limit k body n (h.few few);
        numbered = λ from o. numbered_turn from k body before n was (h.numbered from o);
      }
