-- A unit of two functions and one static.
use Rattle.std.proofs.Common.{◌≡◌, ◌≤◌, ℕ, zero, suc, ◌+◌, List, [], ◌∷◌, ◌++◌, length, map, take, Some, refl, sym, ap, ◌∙◌, subst, arith}
use Rattle.std.specs.Prelude.{slice_get, All}
use Rattle.im_num.specs.declared.values.Cause.TheVariants.{Entry, Return, Dep}
use Rattle.im_mem.specs.Map.{statics_capacity}
use Rattle.im_block.specs.declared.unit.Static.{Static as StaticOf}
use Rattle.im_block.specs.declared.unit.Function.{Function}
use Rattle.im_block.specs.declared.unit.Unit.{Unit as Code}
use Rattle.im_block.specs.Shape.{sum_of}
use Rattle.im_block.specs.Wellformed.{IsStatic, IsFunction, Takes, AreApart, accesses_of_blocks, accesses_of_functions}
use Rattle.im_store.specs.Statics.{StaticObject}
use Rattle.im_block.specs.Meaning.{static_of}
use Rattle.im_frame.specs.Layout.{rooms}
use Rattle.im_select_addresses.specs.Statics.{objects_of}
use Rattle.im_alloc_placed.specs.Placed.{IsPlacedFunction}
use Rattle.im_select.specs.Selects.{causes_of_blocks}
use Rattle.im_link_laws.specs.Laws.{NamesOwn}
use Rattle.im_pack.specs.Packed.{IsNamable, AreNamable}
use Rattle.im_trial_middle.specs.Buildable.{IsBuildable, IsGiven}

-- numbers in order
abbrev pub Counted : ℕ → List ℕ → Type 0
Counted n [] = Unit {0}
Counted n (x ∷ xs) = (x ≡ n) × Counted (suc n) xs

counted_at : (n : ℕ) (xs : List ℕ) → Counted n xs → (i a : ℕ) → slice_get xs i ≡ Some a → a ≡ n + i
counted_at n [] h i a e = cc
counted_at n (x ∷ xs) h zero a e =
    let same : x ≡ a = cc in
    let is = h.0 in
    omega (arith, same, is)
counted_at n (x ∷ xs) h (suc i) a e =
    let rest = counted_at (suc n) xs h.1 i a e in
    omega (arith, rest)

counted_apart : (xs : List ℕ) → Counted 0 xs → AreApart xs
counted_apart xs h = record {
  each = λ i j a p q.
      let one = counted_at 0 xs h i a p in
      let two = counted_at 0 xs h j a q in
      omega (arith, one, two);
}

all_of_one : {X : Type 0} (P : X → Type 0) (x : X) → P x → All P (x ∷ [])
all_of_one P x h zero d less = h
all_of_one P x h (suc k) d less = absurd (omega (arith, less))

pub all_of_two : {X : Type 0} (P : X → Type 0) (x y : X) → P x → P y → All P (x ∷ y ∷ [])
all_of_two P x y h i zero d less = h
all_of_two P x y h i (suc zero) d less = i
all_of_two P x y h i (suc (suc k)) d less = absurd (omega (arith, less))

each_of_two : (P : Function → Type 0) (f g : Function) → P f → P g → (i : ℕ) (h : Function) → slice_get (f ∷ g ∷ []) i ≡ Some h → P h
each_of_two P f g one two zero h e = let same : f ≡ h = cc in subst P same one
each_of_two P f g one two (suc zero) h e = let same : g ≡ h = cc in subst P same two
each_of_two P f g one two (suc (suc i)) h e = cc

add_names : NamesOwn (Entry ∷ Return ∷ Dep 4 5 ∷ []) (0 ∷ 1 ∷ 2 ∷ 3 ∷ 4 ∷ 5 ∷ [])
add_names zero read write e = absurd (cc)
add_names (suc zero) read write e = absurd (cc)
add_names (suc (suc zero)) read write e =
    let one : 4 ≡ read = cc in
    let two : 5 ≡ write = cc in
    ((4, ap (λ n. Some n) one), (5, ap (λ n. Some n) two))
add_names (suc (suc (suc k))) read write e = absurd (cc)

main_names : NamesOwn (Entry ∷ Return ∷ Return ∷ []) (6 ∷ 7 ∷ 8 ∷ 9 ∷ [])
main_names zero read write e = absurd (cc)
main_names (suc zero) read write e = absurd (cc)
main_names (suc (suc zero)) read write e = absurd (cc)
main_names (suc (suc (suc k))) read write e = absurd (cc)

numbered : (f g : Function) → length f.objects.items ≡ 0 → f.first_object ≡ 1 → g.first_object ≡ 1 → (i : ℕ) (h : Function) → slice_get (f ∷ g ∷ []) i ≡ Some h → h.first_object ≡ 1 + sum_of (λ (k : Function). length k.objects.items) (take i (f ∷ g ∷ []))
numbered f g none one two zero h e = let same : f ≡ h = cc in subst (λ (k : Function). k.first_object ≡ 1) same one
numbered f g none one two (suc zero) h e =
    let same : g ≡ h = cc in
    let first : h.first_object ≡ 1 = subst (λ (k : Function). k.first_object ≡ 1) same two in
    omega (arith, first, none)
numbered f g none one two (suc (suc i)) h e = cc

one_named : (s : StaticOf) → IsNamable (static_of s) → AreNamable (map {A = StaticOf} static_of (s ∷ []))
one_named s h = record { each = each }
  where
    each : (n : ℕ) (o : StaticObject) → slice_get (static_of s ∷ []) n ≡ Some o → IsNamable o
    each zero o e = let same : static_of s ≡ o = cc in subst IsNamable same h
    each (suc n) o e = cc

pub buildable : (u : Code) (s : StaticOf) (f g : Function) → u.statics.items ≡ s ∷ [] → u.functions.items ≡ f ∷ g ∷ [] → u.main ≡ 1 → IsStatic (s ∷ []) s → s.object.size ≡ 4 → IsNamable (static_of s) →
    IsGiven 2 0 (0 ∷ 1 ∷ 2 ∷ 3 ∷ 4 ∷ 5 ∷ []) (Entry ∷ Return ∷ Dep 4 5 ∷ []) f → IsGiven 0 1 (6 ∷ 7 ∷ 8 ∷ 9 ∷ []) (Entry ∷ Return ∷ Return ∷ []) g → IsBuildable u
buildable u s f g statics functions main is size named one two =
    let called : Takes (slice_get (f ∷ g ∷ []) 0) 2 = one.parameters in
    let accesses : accesses_of_functions (f ∷ g ∷ []) ≡ 0 ∷ 1 ∷ 2 ∷ 3 ∷ 4 ∷ 5 ∷ 6 ∷ 7 ∷ 8 ∷ 9 ∷ [] =
    ap (λ xs. xs ++ (accesses_of_blocks g.blocks.items ++ [])) one.accesses ∙ ap (λ xs. (0 ∷ 1 ∷ 2 ∷ 3 ∷ 4 ∷ 5 ∷ []) ++ (xs ++ [])) two.accesses in
    let counted : Counted 0 (0 ∷ 1 ∷ 2 ∷ 3 ∷ 4 ∷ 5 ∷ 6 ∷ 7 ∷ 8 ∷ 9 ∷ []) = (refl, (refl, (refl, (refl, (refl, (refl, (refl, (refl, (refl, (refl, tt)))))))))) in
    let names_one : NamesOwn (causes_of_blocks f.blocks.items) (accesses_of_blocks f.blocks.items) =
    subst (λ cs. NamesOwn cs (accesses_of_blocks f.blocks.items)) (sym one.causes) (subst (λ xs. NamesOwn (Entry ∷ Return ∷ Dep 4 5 ∷ []) xs) (sym one.accesses) add_names) in
    let names_two : NamesOwn (causes_of_blocks g.blocks.items) (accesses_of_blocks g.blocks.items) =
    subst (λ cs. NamesOwn cs (accesses_of_blocks g.blocks.items)) (sym two.causes) (subst (λ xs. NamesOwn (Entry ∷ Return ∷ Return ∷ []) xs) (sym two.accesses) main_names) in
    let room : rooms (objects_of (s ∷ [])) ≤ statics_capacity = omega (arith, size) in
    record {
      well_formed = record {
        statics = subst (λ ss. All (IsStatic ss) ss) (sym statics) (all_of_one (IsStatic (s ∷ [])) s is);
        functions = subst (λ fs. All (IsFunction fs) fs) (sym functions) (all_of_two (IsFunction (f ∷ g ∷ [])) f g (one.function (f ∷ g ∷ []) called) (two.function (f ∷ g ∷ []) called));
        numbered = λ i h e.
            let t = numbered f g one.objects one.first_object two.first_object i h (subst (λ fs. slice_get fs i ≡ Some h) functions e) in
            rw (statics, functions) t;
        main = rw (main, functions) two.parameters;
        accesses = subst (λ fs. AreApart (accesses_of_functions fs)) (sym functions) (subst AreApart (sym accesses) (counted_apart _ counted));
      };
      placed = record { functions = subst (λ fs. All (IsPlacedFunction (length u.statics.items)) fs) (sym functions) (subst (λ (ss : List StaticOf). All (IsPlacedFunction (length ss)) (f ∷ g ∷ [])) (sym statics) (all_of_two (IsPlacedFunction 1) f g one.placed two.placed)) };
      named = record {
        each = λ i h e. each_of_two (λ (k : Function). NamesOwn (causes_of_blocks k.blocks.items) (accesses_of_blocks k.blocks.items)) f g names_one names_two i h (subst (λ fs. slice_get fs i ≡ Some h) functions e);
      };
      room = subst (λ ss. rooms (objects_of ss) ≤ statics_capacity) (sym statics) room;
      namable = subst (λ ss. AreNamable (map {A = StaticOf} static_of ss)) (sym statics) (one_named s named);
    }
