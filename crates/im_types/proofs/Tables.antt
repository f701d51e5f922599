-- Tables that grow, and the layouts of structs.
use Rattle.std.proofs.Common.{◌≡◌, ℕ, zero, suc, ◌+◌, ◌<◌, ◌≤◌, nat_lt, true, false, List, [], ◌∷◌, length, get_or, refl, sym, ap, ◌∙◌, subst, arith}
use Rattle.std.specs.Prelude.{slice_get, Some}
use Rattle.std.proofs.lemmas.Grind.{common_steps}
use Rattle.std.proofs.lemmas.Bool.{ltb-true, ltb-false}
use Rattle.im_ctype.specs.Types.{Structs, struct, members_of}
use Rattle.im_ctype.specs.Layout.{Layout, empty_layout, struct_in, layout, layouts, AreComplete, MembersAreComplete}
use Rattle.im_ctype.specs.Table.{Table, IsGrown, IsIn, members_at, members_in, structs_of, types_of}
use Rattle.im_ctype.proofs.Building.{length-built}
use Rattle.im_ctype.proofs.CellLists.{struct-as-listed}
use Rattle.im_ctype.proofs.MoreStructs.{complete-at}
use Rattle.im_ctype.proofs.Steps.{plain-members}

none-there : (ss : Structs) (n : ℕ) → length ss ≤ n → members_of ss n ≡ []
none-there [] n le = refl
none-there (x ∷ ss) zero le = absurd (omega arith)
none-there (x ∷ ss) (suc n) le = none-there ss n (omega arith)

there : (ss : Structs) (n : ℕ) → n < length ss → slice_get ss n ≡ Some (members_of ss n)
there [] n lt = absurd (omega arith)
there (x ∷ ss) zero lt = refl
there (x ∷ ss) (suc n) lt = there ss n (omega arith)

complete-there : (ss : Structs) (n : ℕ) → AreComplete ss → MembersAreComplete n (members_of ss n)
complete-there ss n h =
    let e : 0 + n ≡ n = omega arith in
    subst (λ k. MembersAreComplete k (members_of ss n)) e (complete-at 0 ss n h)

past-layout : (ss : Structs) (n : ℕ) → length ss ≤ n → layout ss (struct n) ≡ empty_layout
past-layout ss n le = past-by (layouts ss) n (omega (arith, le, length-built struct_in ss))
  where
    past-by : (ls : List Layout) (k : ℕ) → length ls ≤ k → get_or ls k empty_layout ≡ empty_layout
    past-by ls k h = grind (arith, common_steps)

struct-listed : (ss : Structs) (n : ℕ) → AreComplete ss → layout ss (struct n) ≡ struct_in (layouts ss) (members_of ss n)
struct-listed ss n h = elim (nat_lt n (length ss)) as (λ b. nat_lt n (length ss) ≡ b → layout ss (struct n) ≡ struct_in (layouts ss) (members_of ss n)) [
  | true ↦ λ e. struct-as-listed ss n (members_of ss n) (there ss n (ltb-true n (length ss) e)) (complete-there ss n h)
  | false ↦ λ e. past-layout ss n (ltb-false n (length ss) e) ∙ ap (λ ms. struct_in (layouts ss) ms) (sym (none-there ss n (ltb-false n (length ss) e)))
] refl

-- a struct of a table lies as its members say
pub struct-at : (t : Table) (n : ℕ) → AreComplete (structs_of t) → layout (structs_of t) (struct n) ≡ struct_in (layouts (structs_of t)) (members_in (types_of t) (members_at t n))
struct-at t n h = struct-listed (structs_of t) n h ∙ ap (λ ms. struct_in (layouts (structs_of t)) ms) (plain-members t n)

pub grown-twice : (a b c : Table) → IsGrown a b → IsGrown b c → IsGrown a c
grown-twice a b c f g =
    record {
      longer = let x = f.longer in let y = g.longer in omega (arith, x, y);
      types = λ ty lt.
          let x = f.longer in
          let lt' : IsIn b ty = omega (arith, x, lt) in
          g.types ty lt' ∙ f.types ty lt;
      structs = g.structs ∙ f.structs;
    }

pub grown-none : (a : Table) → IsGrown a a
grown-none a = record { longer = omega arith; types = λ ty lt. refl; structs = refl }
