-- Each label belongs to one part.
use Rattle.std.proofs.Common.{◌≡◌, ◌<◌, ◌≤◌, ◌⊎◌, inl, inr, ℕ, zero, suc, ◌+◌, Bool, true, false, List, [], ◌∷◌, Option, Some, None, length, take, refl, sym, ap, ◌∙◌, subst, arith}
use Rattle.std.specs.Prelude.{◌==◌, ◌&&◌, ◌||◌, nat_lt, nat_le, if◌then◌else◌, slice_get}
use Rattle.std.proofs.lemmas.Bool.Decides.{nat_tests}
use Rattle.im_rv.specs.declared.instr.Op.{Op}
use Rattle.im_rv.specs.declared.instr.Op.TheVariants.{Jal, Bne, Bgeu}
use Rattle.im_rv.specs.declared.format.Format.TheVariants.{Branch}
use Rattle.im_rv.specs.Formats.{format_of}
use Rattle.im_rv.specs.Lines.{CodeLine}
use Rattle.im_block.specs.declared.unit.Function.{Function}
use Rattle.im_block.specs.Shape.{sum_of}
use Rattle.im_select.specs.Emitted.{entry_label}
use Rattle.im_select.specs.Selects.{HasLabel}
use Rattle.im_link_laws.specs.Program.{part_of, first_label}

-- the runtime's labels: 1 the checkpoint's, 2 getchar's, 3 putchar's, 4 that of the exhausted stack, 5 that of the end
abbrev pub key_of : ℕ → ℕ
key_of l = if nat_lt l 32 then 1 else (if l == 32 || l == 40 then 2 else (if l == 34 then 5 else (if l == 35 then 4 else 3)))

abbrev pub part_for : ℕ → ℕ → ℕ
part_for functions key = if key == 5 then part_of functions else key

pub data Owner (functions : List Function) (p l : ℕ) : Type 0 where
  Low : l < 64 → p ≡ part_for (length functions) (key_of l) → Owner functions p l
  Entry : (i : ℕ) → i < length functions → p ≡ part_of i → l ≡ entry_label i → Owner functions p l
  Own : (i b : ℕ) (f : Function) → slice_get functions i ≡ Some f → b < length f.blocks.items → p ≡ part_of i → l ≡ first_label functions i + b → Owner functions p l

pub sum_step : {X : Type 0} (w : X → ℕ) (xs : List X) (i j : ℕ) (x : X) → slice_get xs i ≡ Some x → i < j → sum_of w (take i xs) + w x ≤ sum_of w (take j xs)
sum_step w [] i j x e h = absurd cc
sum_step w (y ∷ ys) i zero x e h = absurd (omega arith)
sum_step w (y ∷ ys) zero (suc j) x e h = let same : y ≡ x = cc in let q : w y ≡ w x = ap w same in omega arith
sum_step w (y ∷ ys) (suc i) (suc j) x e h = let r = sum_step w ys i j x e (omega arith) in omega arith

tri : (i j : ℕ) → (i < j) ⊎ ((i ≡ j) ⊎ (j < i))
tri i j = by (nat_lt i j) (nat_lt j i) refl refl
  where
    by : (a b : Bool) → nat_lt i j ≡ a → nat_lt j i ≡ b → (i < j) ⊎ ((i ≡ j) ⊎ (j < i))
    by true b s t = inl (grind (arith, nat_tests))
    by false true s t = inr (inr (grind (arith, nat_tests)))
    by false false s t = inr (inl (grind (arith, nat_tests)))

apart : (functions : List Function) (i j b c : ℕ) (f : Function) → slice_get functions i ≡ Some f → b < length f.blocks.items → i < j → first_label functions i + b ≡ first_label functions j + c → ⊥
apart functions i j b c f e h less same = let s = sum_step (λ (z : Function). length z.blocks.items) functions i j f e less in absurd (omega arith)

own_one : (functions : List Function) (i j b c : ℕ) (f h : Function) → slice_get functions i ≡ Some f → b < length f.blocks.items → slice_get functions j ≡ Some h → c < length h.blocks.items → first_label functions i + b ≡ first_label functions j + c → i ≡ j
own_one functions i j b c f h e s d t same = elim (tri i j) [
  | inl less ↦ absurd (apart functions i j b c f e s less same)
  | inr r ↦ elim r [ inl q ↦ q | inr more ↦ absurd (apart functions j i c b h d t more (sym same)) ]
]

pub owner_one : (functions : List Function) (p q l : ℕ) → Owner functions p l → Owner functions q l → p ≡ q
owner_one functions p q l (Low a e) (Low b g) = e ∙ sym g
owner_one functions p q l (Low a e) (Entry j s g m) = absurd (omega arith)
owner_one functions p q l (Low a e) (Own j c h d t g m) = absurd (omega arith)
owner_one functions p q l (Entry i s e n) (Low b g) = absurd (omega arith)
owner_one functions p q l (Entry i s e n) (Entry j t g m) = omega arith
owner_one functions p q l (Entry i s e n) (Own j c h d t g m) = absurd (omega arith)
owner_one functions p q l (Own i b f d s e n) (Low a g) = absurd (omega arith)
owner_one functions p q l (Own i b f d s e n) (Entry j t g m) = absurd (omega arith)
owner_one functions p q l (Own i b f d s e n) (Own j c h k t g m) = e ∙ ap part_of (own_one functions i j b c f h d s k t (sym n ∙ m)) ∙ sym g

-- ---- lines that are known: their labels and targets are looked at

abbrev pub label_ok : ℕ → (ℕ → ℕ) → ℕ → Option ℕ → Bool
label_ok key at k None = true
label_ok key at k (Some l) = at l == k && (key_of l == key && nat_lt l 64)

abbrev pub label_check : ℕ → (ℕ → ℕ) → ℕ → List CodeLine → Bool
label_check key at k [] = true
label_check key at k (x ∷ xs) = label_ok key at k x.label && label_check key at (suc k) xs

pub both : (a b : Bool) → (a && b) ≡ true → (a ≡ true) × (b ≡ true)
both true b h = (refl, h)
both false b h = absurd cc

pub same_number : (a b : ℕ) → (a == b) ≡ true → a ≡ b
same_number a b h = grind (arith, nat_tests)

pub record Known (key : ℕ) (at : ℕ → ℕ) (k l : ℕ) : Type 0 where
  pub line : at l ≡ k
  pub is_key : key_of l ≡ key
  pub low : l < 64

ok_known : (key : ℕ) (at : ℕ → ℕ) (k l : ℕ) → label_ok key at k (Some l) ≡ true → Known key at k l
ok_known key at k l h =
    let a = both (at l == k) _ h in
    let b = both (key_of l == key) (nat_lt l 64) a.1 in
    let c = b.1 in
    record { line = same_number (at l) k a.0; is_key = same_number (key_of l) key b.0; low = grind (arith, nat_tests) }

pub known : (key : ℕ) (at : ℕ → ℕ) (k : ℕ) (xs : List CodeLine) → label_check key at k xs ≡ true → (j l : ℕ) → HasLabel xs j l → Known key at (k + j) l
known key at k [] h j l a = let e = a.there in absurd cc
known key at k (x ∷ xs) h zero l a =
    let e = a.there in
    let same : x ≡ a.line = cc in
    let is : x.label ≡ Some l = ap (λ (z : CodeLine). z.label) same ∙ a.is in
    let s = (both (label_ok key at k x.label) (label_check key at (suc k) xs) h).0 in
    let q : k ≡ k + 0 = omega arith in
    subst (λ z. Known key at z l) q (ok_known key at k l (ap (label_ok key at k) (sym is) ∙ s))
known key at k (x ∷ xs) h (suc j) l a =
    let r = known key at (suc k) xs (both (label_ok key at k x.label) (label_check key at (suc k) xs) h).1 j l (record { line = a.line; there = a.there; is = a.is }) in
    let q : suc k + j ≡ k + suc j = omega arith in
    subst (λ z. Known key at z l) q r

-- ---- targets

abbrev pub is_jump : Op → Bool
is_jump Jal = true
is_jump op = false

abbrev pub is_branch : Op → Bool
is_branch Bne = true
is_branch Bgeu = true
is_branch op = false

pub jump_is : (op : Op) → is_jump op ≡ true → op ≡ Jal
jump_is Jal h = refl
jump_is op h = absurd cc

pub branch_is : (op : Op) → is_branch op ≡ true → format_of op ≡ Branch
branch_is Bne h = refl
branch_is Bgeu h = refl
branch_is op h = absurd cc

abbrev pub label_is : Option ℕ → ℕ → Bool
label_is None l = false
label_is (Some m) l = m == l

abbrev pub label_at : List CodeLine → ℕ → ℕ → Bool
label_at [] k l = false
label_at (x ∷ xs) zero l = label_is x.label l
label_at (x ∷ xs) (suc k) l = label_at xs k l

label_there : (xs : List CodeLine) (k l : ℕ) → label_at xs k l ≡ true → HasLabel xs k l
label_there [] k l h = absurd cc
label_there (x ∷ xs) zero l h = record { line = x; there = refl; is = by x.label h }
  where
    by : (o : Option ℕ) → label_is o l ≡ true → o ≡ Some l
    by None e = absurd cc
    by (Some m) e = ap (λ z. Some z) (same_number m l e)
label_there (x ∷ xs) (suc k) l h = let r = label_there xs k l h in record { line = r.line; there = r.there; is = r.is }

-- to the checkpoint, or near within the same lines
abbrev pub target_ok : (ℕ → ℕ) → List CodeLine → ℕ → Op → Option ℕ → Bool
target_ok at code k op None = true
target_ok at code k op (Some l) = (l == 10 && is_jump op) || (label_at code (at l) l && ((is_jump op || is_branch op) && (nat_le (at l) (k + 1023) && nat_le k (at l + 1024))))

abbrev pub target_check : (ℕ → ℕ) → List CodeLine → ℕ → List CodeLine → Bool
target_check at code k [] = true
target_check at code k (x ∷ xs) = target_ok at code k x.line.op x.target && target_check at code (suc k) xs

pub data Aim (code : List CodeLine) (k l : ℕ) (op : Op) : Type 0 where
  ToCheckpoint : l ≡ 10 → op ≡ Jal → Aim code k l op
  Within : (m : ℕ) → HasLabel code m l → (op ≡ Jal) ⊎ (format_of op ≡ Branch) → m ≤ k + 1023 → k ≤ m + 1024 → Aim code k l op

either : (a b : Bool) → (a || b) ≡ true → (a ≡ true) ⊎ (b ≡ true)
either true b h = inl refl
either false b h = inr h

ok_aim : (at : ℕ → ℕ) (code : List CodeLine) (k l : ℕ) (op : Op) → target_ok at code k op (Some l) ≡ true → Aim code k l op
ok_aim at code k l op h = elim (either (l == 10 && is_jump op) _ h) [
  | inl a ↦ (let b = both (l == 10) (is_jump op) a in ToCheckpoint (same_number l 10 b.0) (jump_is op b.1))
  | inr a ↦
      (let b = both (label_at code (at l) l) _ a in
      let c = both (is_jump op || is_branch op) _ b.1 in
      let d = both (nat_le (at l) (k + 1023)) (nat_le k (at l + 1024)) c.1 in
      let d0 = d.0 in
      let d1 = d.1 in
      Within (at l) (label_there code (at l) l b.0) (elim (either (is_jump op) (is_branch op) c.0) [ inl j ↦ inl (jump_is op j) | inr j ↦ inr (branch_is op j) ]) (grind (arith, nat_tests)) (grind (arith, nat_tests)))
]

pub aims : (at : ℕ → ℕ) (code : List CodeLine) (k : ℕ) (xs : List CodeLine) → target_check at code k xs ≡ true → (j l : ℕ) (x : CodeLine) → slice_get xs j ≡ Some x → x.target ≡ Some l → Aim code (k + j) l x.line.op
aims at code k [] h j l x e t = absurd cc
aims at code k (y ∷ xs) h zero l x e t =
    let same : y ≡ x = cc in
    let is : y.target ≡ Some l = ap (λ (z : CodeLine). z.target) same ∙ t in
    let s = (both (target_ok at code k y.line.op y.target) (target_check at code (suc k) xs) h).0 in
    let q : k ≡ k + 0 = omega arith in
    subst (λ (z : CodeLine). Aim code (k + 0) l z.line.op) same (subst (λ z. Aim code z l y.line.op) q (ok_aim at code k l y.line.op (ap (target_ok at code k y.line.op) (sym is) ∙ s)))
aims at code k (y ∷ xs) h (suc j) l x e t =
    let r = aims at code (suc k) xs (both (target_ok at code k y.line.op y.target) (target_check at code (suc k) xs) h).1 j l x e t in
    let q : suc k + j ≡ k + suc j = omega arith in
    subst (λ z. Aim code z l x.line.op) q r
