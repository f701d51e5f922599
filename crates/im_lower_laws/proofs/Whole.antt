-- Whole functions.
use Rattle.std.proofs.Common.{ℕ, suc, ◌+◌, ◌<◌, ◌≤◌, inl, inr, Bool, true, false, List, [], ◌∷◌, length, take, Some, refl, sym, subst, arith}
use Rattle.std.specs.Prelude.{pos, ◌==◌, IsTrue}
use Rattle.std.proofs.lemmas.List.{length-take}
use Rattle.std.proofs.lemmas.Option.{slice_get_within, slice_get_cases}
use Rattle.std.proofs.lemmas.Bool.{both_ways, eqb-true}
use Rattle.im_typed.specs.Program as p
use Rattle.im_typed.specs.Typing.{IsTypedFunc}
use Rattle.im_typed.proofs.SoundCalls.{each-at}
use Rattle.im_block.specs.declared.code.Place.TheVariants.{Local}
use Rattle.im_block.specs.declared.code.Line.TheVariants.{Put}
use Rattle.im_block.specs.declared.code.Exit.TheVariants.{Jump, Return}
use Rattle.im_block.specs.declared.code.Block.{Block}
use Rattle.im_block.specs.declared.unit.Function.{Function}
use Rattle.im_lower_relation.specs.Codes.{Point, ends}
use Rattle.im_lower_relation.specs.Lowered.{CodesFunction, CodesParameters, kind_of_one, brace}
use Rattle.im_alloc_relation.specs.Reads.{WritesFirst}
use Rattle.im_lower_laws.specs.Live.{WrittenFirstLaw}
use Rattle.im_lower_laws.proofs.Ways.{Or, OrPlace, unplaced, weaker, sets_none, writes, jump}
use Rattle.im_lower_laws.proofs.Statements.{Below, Calm, statement_calm}

module _ (low : ℕ) (blocks : List Block) where
  parameters_calm : (object from : ℕ) (os : List p.LocalObject) (s t : Point) (n : ℕ) → from + length os ≤ low → CodesParameters object from os s t → Calm low blocks n t → Calm low blocks n s
  parameters_calm object from [] s t n few c h = subst (λ z. Calm low blocks n z) (sym c) h
  parameters_calm object from (o ∷ os) s t n few c h =
      let after : Calm low blocks n c.0 = parameters_calm (suc object) (suc from) os c.0 t n (omega (arith, few)) c.2 h in
      let write = writes blocks n (Local object 0) (kind_of_one o.cells) from c.1 c.0 (Below low) after in
      subst (λ z. Calm low blocks n z) (sym c.3) (weaker blocks n _ _ (Below low) write (λ v q. known v q))
    where
      known : (v : ℕ) → Or from (OrPlace (Local object 0) (Below low)) v → v < low
      known v (inl y) = (let e = eqb-true v from y in omega (arith, e, few))
      known v (inr q) = unplaced (Below low) v q

  brace_calm : (is_main : Bool) (n : ℕ) → Calm low blocks n (brace low is_main)
  brace_calm true n = sets_none blocks n (Put low (pos 0)) low (ends (Return (Some low))) (Below low) (λ v. refl) (λ v. refl) (record { is = λ k v le y. inl y })
  brace_calm false n = record { is = λ k v le y. absurd (both_ways false refl y) }

function_calm : (g : p.Prog) (k : ℕ) (f : p.Func) (code : Function) → IsTypedFunc g f → CodesFunction g k f code → WritesFirst code
function_calm g k f code typed c = record {
  each = λ n v e.
      let low = f.params in
      let blocks = code.blocks.items in
      let no : IsTrue false → Calm low blocks n (ends (Jump 0)) = (λ y. absurd (both_ways false refl y)) in
      let body : Calm low blocks n c.body = statement_calm g f code.first_object low f.objects blocks f.body false false 0 0 c.body (brace low (k == g.main)) n typed.3 c.does (brace_calm low blocks (k == g.main) n) no no in
      let few : length (take f.params f.objects) ≤ low = (let t = length-take f.params f.objects in omega (arith, t)) in
      let start : Calm low blocks n c.start = parameters_calm low blocks code.first_object 0 (take f.params f.objects) c.start c.body n (omega (arith, few)) c.passed body in
      let entered = jump blocks n code.entry c.start (Below low) c.entry start in
      let small : v < low = entered.is n v (omega arith) e in
      let count = c.parameters in
      omega (arith, small, count);
}

pub written_first : WrittenFirstLaw
written_first g u typed is k code at =
    let inside = slice_get_within u.functions.items k code at in
    let count = is.count in
    elim ((slice_get_cases g.funcs k).1) [
      | inl x ↦ function_calm g k x.0 code (each-at (IsTypedFunc g) g.funcs k x.0 typed.funcs x.2) (is.functions k x.0 code x.2 at)
      | inr e ↦ absurd (let past = e.0 in omega (arith, inside, count, past))
    ]
