-- Causes and accesses as members of lists.
use Rattle.std.proofs.Common.{◌≡◌, ◌⊎◌, inl, inr, ℕ, zero, suc, List, [], ◌∷◌, ◌++◌, Some, None, sym, ap, subst}
use Rattle.std.specs.Prelude.{slice_get}
use Rattle.im_num.specs.declared.values.Cause.{Cause}
use Rattle.im_num.specs.declared.values.Cause.TheVariants.{Dep, Entry, Return, Loop, Length, Gap}
use Rattle.im_block.specs.declared.code.Line.{Line}
use Rattle.im_block.specs.declared.code.Line.TheVariants.{Cut}
use Rattle.im_block.specs.declared.code.Block.{Block}
use Rattle.im_block.specs.declared.unit.Function.{Function}
use Rattle.im_block.specs.Wellformed.{accesses_of_line, accesses_of_lines, accesses_of_blocks}
use Rattle.im_select.specs.Selects.{causes_of_line, causes_of_lines, causes_of_blocks}
use Rattle.im_link_laws.specs.Laws.{Within, NamesOwn}

abbrev pub In : {X : Type 0} → X → List X → Type 0
In x [] = ⊥
In x (y ∷ ys) = (y ≡ x) ⊎ In x ys

pub in_left : {X : Type 0} (x : X) (xs ys : List X) → In x xs → In x (xs ++ ys)
in_left x [] ys h = absurd h
in_left x (y ∷ xs) ys (inl e) = inl e
in_left x (y ∷ xs) ys (inr h) = inr (in_left x xs ys h)

pub in_right : {X : Type 0} (x : X) (xs ys : List X) → In x ys → In x (xs ++ ys)
in_right x [] ys h = h
in_right x (y ∷ xs) ys h = inr (in_right x xs ys h)

pub in_either : {X : Type 0} (x : X) (xs ys : List X) → In x (xs ++ ys) → (In x xs) ⊎ (In x ys)
in_either x [] ys h = inr h
in_either x (y ∷ xs) ys (inl e) = inl (inl e)
in_either x (y ∷ xs) ys (inr h) = elim (in_either x xs ys h) [
  | inl a ↦ inl (inr a)
  | inr b ↦ inr b
]

pub in_there : {X : Type 0} (x : X) (xs : List X) (k : ℕ) → slice_get xs k ≡ Some x → In x xs
in_there x [] k e = (let bad : None ≡ Some x = e in absurd cc)
in_there x (y ∷ xs) zero e = inl (let q : Some y ≡ Some x = e in cc)
in_there x (y ∷ xs) (suc k) e = inr (in_there x xs k e)

pub there_in : (n : ℕ) (xs : List ℕ) → In n xs → Within xs n
there_in n [] h = absurd h
there_in n (y ∷ xs) (inl e) = (0, ap (λ z. Some z) e)
there_in n (y ∷ xs) (inr h) = let r = there_in n xs h in (suc r.0, r.1)

pub there_cause : (c : Cause) (xs : List Cause) → In c xs → (k : ℕ) × (slice_get xs k ≡ Some c)
there_cause c [] h = absurd h
there_cause c (y ∷ xs) (inl e) = (0, ap (λ z. Some z) e)
there_cause c (y ∷ xs) (inr h) = let r = there_cause c xs h in (suc r.0, r.1)

pub in_within : (n : ℕ) (xs : List ℕ) → Within xs n → In n xs
in_within n xs h = in_there n xs h.0 h.1

-- a cause names accesses
abbrev pub Names : List ℕ → Cause → Type 0
Names accesses (Dep read write) = In read accesses × In write accesses
Names accesses cause = Unit {0}

abbrev pub AllNamed : List Cause → List ℕ → Type 0
AllNamed causes accesses = (c : Cause) → In c causes → Names accesses c

pub all_named : (causes : List Cause) (accesses : List ℕ) → NamesOwn causes accesses → AllNamed causes accesses
all_named causes accesses h (Dep r w) i =
    let t = there_cause (Dep r w) causes i in
    let n = h t.0 r w t.1 in
    (in_within r accesses n.0, in_within w accesses n.1)
all_named causes accesses h Entry i = tt
all_named causes accesses h Return i = tt
all_named causes accesses h Loop i = tt
all_named causes accesses h Length i = tt
all_named causes accesses h Gap i = tt

pub names_own : (causes : List Cause) (accesses : List ℕ) → AllNamed causes accesses → NamesOwn causes accesses
names_own causes accesses h k r w e =
    let n = h (Dep r w) (in_there (Dep r w) causes k e) in
    (there_in r accesses n.0, there_in w accesses n.1)

pub more_named : (xs ys : List ℕ) (c : Cause) → ((n : ℕ) → In n xs → In n ys) → Names xs c → Names ys c
more_named xs ys (Dep r w) h n = (h r n.0, h w n.1)
more_named xs ys Entry h n = tt
more_named xs ys Return h n = tt
more_named xs ys Loop h n = tt
more_named xs ys Length h n = tt
more_named xs ys Gap h n = tt

-- of a list of lines each cause is an old one, or names accesses of these lines; each old access is still there
pub record Carries (old new : List Line) : Type 0 where
  pub accesses : (n : ℕ) → In n (accesses_of_lines old) → In n (accesses_of_lines new)
  pub causes : (c : Cause) → In c (causes_of_lines new) → (In c (causes_of_lines old)) ⊎ (Names (accesses_of_lines new) c)

pub record CarriesBlocks (old new : List Block) : Type 0 where
  pub accesses : (n : ℕ) → In n (accesses_of_blocks old) → In n (accesses_of_blocks new)
  pub causes : (c : Cause) → In c (causes_of_blocks new) → (In c (causes_of_blocks old)) ⊎ (Names (accesses_of_blocks new) c)

pub no_blocks : CarriesBlocks [] []
no_blocks = record { accesses = λ n h. h; causes = λ c h. inl h }

pub more_blocks : (x y : Block) (xs ys : List Block) → Carries x.lines.items y.lines.items → CarriesBlocks xs ys → CarriesBlocks (x ∷ xs) (y ∷ ys)
more_blocks x y xs ys one rest = record { accesses = accesses; causes = causes }
  where
    accesses : (n : ℕ) → In n (accesses_of_lines x.lines.items ++ accesses_of_blocks xs) → In n (accesses_of_lines y.lines.items ++ accesses_of_blocks ys)
    accesses n h = elim (in_either n (accesses_of_lines x.lines.items) (accesses_of_blocks xs) h) [
      | inl a ↦ in_left n (accesses_of_lines y.lines.items) (accesses_of_blocks ys) (one.accesses n a)
      | inr b ↦ in_right n (accesses_of_lines y.lines.items) (accesses_of_blocks ys) (rest.accesses n b)
    ]

    left : (n : ℕ) → In n (accesses_of_lines y.lines.items) → In n (accesses_of_lines y.lines.items ++ accesses_of_blocks ys)
    left n h = in_left n (accesses_of_lines y.lines.items) (accesses_of_blocks ys) h

    right : (n : ℕ) → In n (accesses_of_blocks ys) → In n (accesses_of_lines y.lines.items ++ accesses_of_blocks ys)
    right n h = in_right n (accesses_of_lines y.lines.items) (accesses_of_blocks ys) h

    causes : (c : Cause) → In c (causes_of_lines y.lines.items ++ causes_of_blocks ys) → (In c (causes_of_lines x.lines.items ++ causes_of_blocks xs)) ⊎ (Names (accesses_of_lines y.lines.items ++ accesses_of_blocks ys) c)
    causes c h = elim (in_either c (causes_of_lines y.lines.items) (causes_of_blocks ys) h) [
      | inl a ↦ elim (one.causes c a) [
        | inl p ↦ inl (in_left c (causes_of_lines x.lines.items) (causes_of_blocks xs) p)
        | inr q ↦ inr (more_named (accesses_of_lines y.lines.items) (accesses_of_lines y.lines.items ++ accesses_of_blocks ys) c left q)
      ]
      | inr b ↦ elim (rest.causes c b) [
        | inl p ↦ inl (in_right c (causes_of_lines x.lines.items) (causes_of_blocks xs) p)
        | inr q ↦ inr (more_named (accesses_of_blocks ys) (accesses_of_lines y.lines.items ++ accesses_of_blocks ys) c right q)
      ]
    ]

pub carried : (xs ys : List Block) → CarriesBlocks xs ys → NamesOwn (causes_of_blocks xs) (accesses_of_blocks xs) → NamesOwn (causes_of_blocks ys) (accesses_of_blocks ys)
carried xs ys h names = names_own (causes_of_blocks ys) (accesses_of_blocks ys) each
  where
    each : AllNamed (causes_of_blocks ys) (accesses_of_blocks ys)
    each c i = elim (h.causes c i) [
      | inl a ↦ more_named (accesses_of_blocks xs) (accesses_of_blocks ys) c h.accesses (all_named (causes_of_blocks xs) (accesses_of_blocks xs) names c a)
      | inr b ↦ b
    ]

-- lines before others: new ones with no access that is asked for, whose causes are none or named
pub same_line : (line : Line) (old new : List Line) → Carries old new → Carries (line ∷ old) (line ∷ new)
same_line line old new h = record { accesses = accesses; causes = causes }
  where
    accesses : (n : ℕ) → In n (accesses_of_line line ++ accesses_of_lines old) → In n (accesses_of_line line ++ accesses_of_lines new)
    accesses n i = elim (in_either n (accesses_of_line line) (accesses_of_lines old) i) [
      | inl a ↦ in_left n (accesses_of_line line) (accesses_of_lines new) a
      | inr b ↦ in_right n (accesses_of_line line) (accesses_of_lines new) (h.accesses n b)
    ]

    causes : (c : Cause) → In c (causes_of_line line ++ causes_of_lines new) → (In c (causes_of_line line ++ causes_of_lines old)) ⊎ (Names (accesses_of_line line ++ accesses_of_lines new) c)
    causes c i = elim (in_either c (causes_of_line line) (causes_of_lines new) i) [
      | inl a ↦ inl (in_left c (causes_of_line line) (causes_of_lines old) a)
      | inr b ↦ elim (h.causes c b) [
        | inl p ↦ inl (in_right c (causes_of_line line) (causes_of_lines old) p)
        | inr q ↦ inr (more_named (accesses_of_lines new) (accesses_of_line line ++ accesses_of_lines new) c (λ n z. in_right n (accesses_of_line line) (accesses_of_lines new) z) q)
      ]
    ]

-- a cut before lines that have its accesses
pub cut_before : (cause : Cause) (old new : List Line) → Names (accesses_of_lines new) cause → Carries old new → Carries old (Cut cause ∷ new)
cut_before cause old new named h = record { accesses = h.accesses; causes = causes }
  where
    causes : (c : Cause) → In c (cause ∷ causes_of_lines new) → (In c (causes_of_lines old)) ⊎ (Names (accesses_of_lines new) c)
    causes c (inl e) = inr (subst (Names (accesses_of_lines new)) e named)
    causes c (inr i) = h.causes c i

pub same_lines : (lines : List Line) → Carries lines lines
same_lines lines = record { accesses = λ n h. h; causes = λ c h. inl h }

pub equal_lines : (old new other : List Line) → other ≡ new → Carries old new → Carries old other
equal_lines old new other e h = subst (Carries old) (sym e) h

-- function by function
abbrev pub Names_each : List Function → Type 0
Names_each fs = (i : ℕ) (f : Function) → slice_get fs i ≡ Some f → NamesOwn (causes_of_blocks f.blocks.items) (accesses_of_blocks f.blocks.items)

pub next : (g : Function) (gs : List Function) → NamesOwn (causes_of_blocks g.blocks.items) (accesses_of_blocks g.blocks.items) → Names_each gs → Names_each (g ∷ gs)
next g gs one rest zero f e =
    let q : Some g ≡ Some f = e in
    let same : g ≡ f = cc in
    subst (λ (z : Function). NamesOwn (causes_of_blocks z.blocks.items) (accesses_of_blocks z.blocks.items)) same one
next g gs one rest (suc i) f e = rest i f e
