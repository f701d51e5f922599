-- The checkpoint and the routines of a program stand where labels say.
use Rattle.std.proofs.Common.{◌≡◌, ◌<◌, ◌≤◌, ℕ, zero, suc, ◌+◌, ◌-◌, ◌*◌, ◌^◌, Bool, true, false, List, [], ◌∷◌, ◌++◌, Option, Some, None, map, length, refl, sym, ap, ◌∙◌, subst, length-append, arith}
use Rattle.std.specs.Prelude.{nat_lt, slice_get}
use Rattle.std.proofs.lemmas.Bool.Decides.{nat_tests}
use Rattle.im_mem.specs.Memory.{Mem, Stands}
use Rattle.im_mem.proofs.Words.{word-small}
use Rattle.im_rv.specs.declared.code.Line.{Line}
use Rattle.im_rv.specs.declared.code.Part.{Part}
use Rattle.im_rv.specs.declared.code.Code.{Code as Linked}
use Rattle.im_rv.specs.Decode.{Line as Instruction}
use Rattle.im_rv.specs.Encode.{encoded}
use Rattle.im_rv.specs.Lines.{CodeLine, code_lines, plain_line}
use Rattle.im_rv.specs.Code.{address}
use Rattle.im_rv_reach.specs.Instructions.{Holds}
use Rattle.im_rv.proofs.Decoding.{encoded-decoded}
use Rattle.im_link.specs.Parts.{first_of}
use Rattle.im_link.specs.Code.{IsLinkable, IsLinked}
use Rattle.im_link.proofs.Joining.{line_in, first_more}
use Rattle.im_ckpt.specs.Recovery.{recovery}
use Rattle.im_ckpt.specs.Checkpoint.{checkpoint_start, checkpoint_code, entry_code, entries, ladder}
use Rattle.im_rtlib.specs.Routines.{routine, exit, stack, service_label, exit_label, stack_label}
use Rattle.im_serve.specs.declared.service.Service.{Service}
use Rattle.im_rtlib_laws.specs.Standing.{aimed_at, StandFrom, HasRoutines}
use Rattle.im_block.specs.declared.unit.Unit.{Unit as Code}
use Rattle.im_select.specs.Selects.{HasLabel}
use Rattle.im_select.proofs.Plain.{label_left, label_right}
use Rattle.im_frame.specs.declared.layout.Layout.{Layout}
use Rattle.im_link_laws.specs.Program.{HasCode, IsProgram, routine_part, part_of, start_code}
use Rattle.im_link_laws.specs.Linking.{ArePlaces}
use Rattle.im_link_laws.proofs.Standing.{behind, stand}
use Rattle.im_link_laws.proofs.Services.{routine_there, routine_begins}

-- ---- parts

pub label_place : (parts : List Part) (place : ℕ → ℕ) (p k l : ℕ) (code : List CodeLine) → ArePlaces parts place → HasCode parts p code → HasLabel code k l → place l ≡ address (first_of parts p + k)
label_place parts place p k l code places c h =
    let t : slice_get (code_lines c.part.lines.items) k ≡ Some h.line = ap (λ z. slice_get z k) c.lines ∙ h.there in
    let b = behind c.part.lines.items k h.line t in
    places.at l (first_of parts p + k) (record { line = b.line; is_line = line_in parts p k c.part b.line c.is_part b.there; label = ap (λ (z : CodeLine). z.label) b.is ∙ h.is })

pub code_stands : (image : Mem) (parts : List Part) (linked : Linked) (place : ℕ → ℕ) → IsLinkable parts → IsLinked parts linked → ArePlaces parts place → Stands image 4096 linked.words.items → (p : ℕ) (code : List CodeLine) → HasCode parts p code → StandFrom image place (address (first_of parts p)) code
code_stands image parts linked place a b c d p code h = subst (StandFrom image place (address (first_of parts p))) h.lines (stand image parts linked place a b c d p h.part h.is_part)

pub size_of : (parts : List Part) (p : ℕ) (code : List CodeLine) → HasCode parts p code → first_of parts (p + 1) ≡ first_of parts p + length code
size_of parts p code h = first_more parts p h.part h.is_part ∙ ap (λ z. first_of parts p + z) (sym (counts h.part.lines.items) ∙ ap (length {A = CodeLine}) h.lines)
  where
    counts : (xs : List Line) → length (code_lines xs) ≡ length xs
    counts [] = refl
    counts (x ∷ xs) = ap suc (counts xs)

-- ---- the checkpoint

-- no line has a target
abbrev pub Unaimed : List CodeLine → Type 0
Unaimed [] = Unit {0}
Unaimed (x ∷ xs) = (x.target ≡ None) × Unaimed xs

unaimed_append : (xs ys : List CodeLine) → Unaimed xs → Unaimed ys → Unaimed (xs ++ ys)
unaimed_append [] ys a b = b
unaimed_append (x ∷ xs) ys a b = (a.0, unaimed_append xs ys a.1 b)

unaimed_plain : (ls : List Instruction) → Unaimed (map plain_line ls)
unaimed_plain [] = tt
unaimed_plain (l ∷ ls) = (refl, unaimed_plain ls)

unaimed_entries : (n : ℕ) → Unaimed (entries n)
unaimed_entries zero = tt
unaimed_entries (suc n) = unaimed_append (entries n) (entry_code (n + 4)) (unaimed_entries n) (refl, (refl, (refl, (refl, (refl, tt)))))

unaimed_checkpoint : Unaimed checkpoint_code
unaimed_checkpoint = unaimed_append (entries 28) (map plain_line ladder) (unaimed_entries 28) (unaimed_plain ladder)

-- so their words stand
words_stand : (image : Mem) (place : ℕ → ℕ) (pc : ℕ) (xs : List CodeLine) → ((a : ℕ) → image a < 256) → Unaimed xs → StandFrom image place pc xs → Stands image pc (map encoded (map (λ (l : CodeLine). l.line) xs))
words_stand image place pc [] small u s = tt
words_stand image place pc (x ∷ xs) small u s =
    let h = subst (λ (t : Option ℕ). Holds image pc (aimed_at place pc x.line t)) u.0 s.0 in
    let w : h.w < 2 ^ 32 = subst (λ z. z < 4294967296) h.word (word-small image pc small) in
    (h.word ∙ sym (encoded-decoded h.w x.line w h.line), words_stand image place (pc + 4) xs small u.1 s.2)

entries_count : (n : ℕ) → length (entries n) ≡ 5 * n
entries_count zero = refl
entries_count (suc n) = let e = length-append (entries n) (entry_code (n + 4)) in let h = entries_count n in omega arith

entry_there : (n j m : ℕ) → j < n → m ≡ j + 4 → HasLabel (entries n) (5 * j) m
entry_there zero j m h e = absurd (omega arith)
entry_there (suc n) j m h e = by (nat_lt j n) refl (λ l. entry_there n j m l e)
  where
    by : (b : Bool) → nat_lt j n ≡ b → (j < n → HasLabel (entries n) (5 * j) m) → HasLabel (entries (suc n)) (5 * j) m
    by true t r = label_left (entries n) (entry_code (n + 4)) (5 * j) m (r (grind (arith, nat_tests)))
    by false t r =
        let same : j ≡ n = (let q : n ≤ j = grind (arith, nat_tests) in omega arith) in
        let c = entries_count n in
        let k : 5 * j ≡ length (entries n) + 0 = omega arith in
        let l : n + 4 ≡ m = omega arith in
        label_right (entries n) (entry_code (n + 4)) 0 (5 * j) m k (subst (λ z. HasLabel (entry_code (n + 4)) 0 z) l (record { line = _; there = refl; is = refl }))

pub saved_there : (m : ℕ) → 4 ≤ m → m ≤ 31 → HasLabel checkpoint_code (5 * (m - 4)) m
saved_there m low high = label_left (entries 28) (map plain_line ladder) (5 * (m - 4)) m (entry_there 28 (m - 4) m (omega arith) (omega arith))

-- ---- the routine of a service

routine_stands : (u : Code) (statics : List ℕ) (layouts : List Layout) (parts : List Part) (linked : Linked) (place : ℕ → ℕ) (image : Mem) → IsProgram u statics layouts parts → IsLinkable parts → IsLinked parts linked → ArePlaces parts place → Stands image 4096 linked.words.items → (service : Service) → StandFrom image place (place (service_label service)) (routine service)
routine_stands u statics layouts parts linked place image program a b places s service =
    let there = routine_there u statics layouts parts program service in
    let at : place (service_label service) ≡ address (first_of parts (routine_part service)) = label_place parts place (routine_part service) 0 (service_label service) (routine service) places there (routine_begins service) ∙ omega arith in
    subst (λ z. StandFrom image place z (routine service)) (sym at) (code_stands image parts linked place a b places s (routine_part service) (routine service) there)

-- ---- all of them

first_zero : (parts : List Part) → first_of parts 0 ≡ 0
first_zero parts = refl

pub routines : (u : Code) (statics : List ℕ) (layouts : List Layout) (parts : List Part) (linked : Linked) (place : ℕ → ℕ) (image : Mem) → IsProgram u statics layouts parts → IsLinkable parts → IsLinked parts linked → ArePlaces parts place → Stands image 4096 linked.words.items → ((a : ℕ) → image a < 256) → HasRoutines image place
routines u statics layouts parts linked place image program a b places s small =
    let recovered : first_of parts 1 ≡ 64 = size_of parts 0 (map plain_line recovery) program.recovers in
    let ckpt = code_stands image parts linked place a b places s 1 checkpoint_code program.saves in
    let at_ckpt : address (first_of parts 1) ≡ checkpoint_start = ap address recovered in
    let start : StandFrom image place (address (first_of parts (part_of (length u.functions.items)))) (start_code u.main) = code_stands image parts linked place a b places s (part_of (length u.functions.items)) (start_code u.main) program.begins in
    let stop : place stack_label ≡ address (first_of parts 4) = label_place parts place 4 0 stack_label stack places program.stops (record { line = _; there = refl; is = refl }) ∙ omega arith in
    let leave : place exit_label ≡ address (first_of parts (part_of (length u.functions.items))) + 4 = label_place parts place (part_of (length u.functions.items)) 1 exit_label (start_code u.main) places program.begins (record { line = _; there = refl; is = refl }) ∙ omega arith in
    record {
      checkpoint = words_stand image place checkpoint_start checkpoint_code small unaimed_checkpoint (subst (λ z. StandFrom image place z checkpoint_code) at_ckpt ckpt);
      entries = λ m low high. label_place parts place 1 (5 * (m - 4)) m checkpoint_code places program.saves (saved_there m low high) ∙ (let q = recovered in omega arith);
      services_there = routine_stands u statics layouts parts linked place image program a b places s;
      exit_there = subst (λ z. StandFrom image place z exit) (sym leave) start.2;
      stack_there = subst (λ z. StandFrom image place z stack) (sym stop) (code_stands image parts linked place a b places s 4 stack program.stops);
    }
