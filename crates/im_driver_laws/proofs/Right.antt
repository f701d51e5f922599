-- A source has one program, and of a right source no refusal but want of memory is true.
use Rattle.std.proofs.Common.{◌≡◌, ℕ, ◌+◌, ◌*◌, ◌≤◌, List, ◌∷◌, Some, refl, sym, subst, arith}
use Rattle.std.specs.Prelude.{slice_get}
use Rattle.im_fault.specs.declared.fault.LineFault.{LineFault}
use Rattle.im_fault.specs.declared.fault.LineFault.TheVariants.{BadByte, OpenComment, OpenLiteral, BadEscape, BadNumber, BadDirective, Syntax, Nesting, Dimensions, Rule}
use Rattle.im_fault.specs.declared.fault.Place.{Place}
use Rattle.im_fault.specs.declared.fault.Quantity.TheVariants.{Source, Parameters, Size, Statics, Frame, Code, Derivations}
use Rattle.im_fault.specs.declared.fault.SourceFault.TheVariants.{Line, Limit, OutOfMemory}
use Rattle.im_tok.specs.declared.token.Token.{Token}
use Rattle.im_lex.specs.Lexing.{Lexes, StuckAt}
use Rattle.im_word.specs.Words.{Word}
use Rattle.im_word.specs.Nesting.{NoneOver}
use Rattle.im_parse.specs.Dimensions.{NoneDimensioned}
use Rattle.im_ctree.specs.Tree as t
use Rattle.im_ctree.specs.declared.unit.Tree.{Tree}
use Rattle.im_ctree.specs.Shape.{tree_of}
use Rattle.im_ctree.specs.Units.{Spells}
use Rattle.im_parse.specs.declared.text.ParseFault.TheVariants as unit
use Rattle.im_front.specs.Reading.{IsNoToken, IsRefusedAt}
use Rattle.im_front.specs.Laws.{OneListLaw}
use Rattle.im_typed.specs.Program.{Prog}
use Rattle.im_typed.specs.Counts.{prog_nodes}
use Rattle.im_check.specs.im_rules.TypedUnit.{TypedUnit}
use Rattle.im_check.specs.im_rules.Laws.{UnitOnce, UnitBreaksNone}
use Rattle.im_check.specs.im_rules_limits.Limits as limits
use Rattle.im_driver.specs.Compiled.{IsTreeOf, IsProgramOf, IsRuleBroken, IsExceeded, IsExceededByStatics, IsDeepRefused}
use Rattle.im_check_counts.specs.Derivations.{Derived, IsShallowUnit}
use Rattle.std.specs.List.{Contains}
use Rattle.std.proofs.lemmas.List.Elements.{Contains-append_right}
use Rattle.im_driver_laws.specs.Laws.{OneProgramLaw, RightLaw}
use Rattle.im_driver_laws.proofs.Units.{TokensLaw, SpeltOnceLaw, one_list, one_unit}

abbrev pub ApartLaw : Type 0
ApartLaw = (text : List ℕ) (tokens : List Token) (at : ℕ) → Lexes text tokens → StuckAt text at → ⊥

module _ (lexed : TokensLaw) (apart : ApartLaw) (listed : OneListLaw) (spelt : SpeltOnceLaw) (once : UnitOnce) (breaks : UnitBreaksNone) where
  pub one_program : OneProgramLaw
  one_program source p q x y =
      let same = one_unit lexed listed spelt source x.tokens y.tokens x.tree y.tree x.is_tree y.is_tree in
      once (tree_of y.tree) p q (subst (λ (z : t.Tree). TypedUnit z p) same x.typed) y.typed

  module _ (source : List ℕ) (prog : Prog) (h : IsProgramOf source prog) where
    typed_as : (ts : List Token) (tree : Tree) → IsTreeOf source ts tree → TypedUnit (tree_of tree) prog
    typed_as ts tree x = subst (λ (z : t.Tree). TypedUnit z prog) (one_unit lexed listed spelt source h.tokens ts h.tree tree h.is_tree x) h.typed

    within_as : (ts : List Token) (tree : Tree) → IsTreeOf source ts tree → limits.IsWithinLimits (tree_of tree)
    within_as ts tree x = subst limits.IsWithinLimits (one_unit lexed listed spelt source h.tokens ts h.tree tree h.is_tree x) h.within

    no_token : (place : Place) (why : LineFault) → IsNoToken source place why → ⊥
    no_token place why n = apart source h.tokens n.at h.is_tree.lexes n.stuck

    nested : (place : Place) → IsRefusedAt source place unit.Depth → ⊥
    nested place r =
        let same = one_list lexed listed source r.tokens h.tokens r.refused.0 h.is_tree.parsed.0 r.lexes h.is_tree.lexes r.refused.1 h.is_tree.parsed.1 in
        let none = subst (λ (z : List Word). NoneOver 200 z) (sym same) h.is_tree.parsed.2.0 in
        let over = r.refused.2.over in
        let most = none r.number r.refused.2.within in
        absurd (omega (arith, over, most))

    dimensioned : (place : Place) → IsRefusedAt source place unit.Dimensions → ⊥
    dimensioned place r =
        let same = one_list lexed listed source r.tokens h.tokens r.refused.0 h.is_tree.parsed.0 r.lexes h.is_tree.lexes r.refused.1 h.is_tree.parsed.1 in
        let none = subst (λ (z : List Word). NoneDimensioned 512 z) (sym same) h.is_tree.parsed.2.1 in
        let first = r.refused.2.1 in
        let over = first.over in
        let most = none r.number first.within in
        absurd (omega (arith, over, most))

    unspelt : (place : Place) → IsRefusedAt source place unit.Syntax → ⊥
    unspelt place r =
        let same = one_list lexed listed source r.tokens h.tokens r.refused.0 h.is_tree.parsed.0 r.lexes h.is_tree.lexes r.refused.1 h.is_tree.parsed.1 in
        r.refused.2.2.unspelt (tree_of h.tree) (subst (λ (z : List Word). Spells (tree_of h.tree) z) (sym same) h.is_tree.parsed.2.2)

    unbroken : (place : Place) (rule : ℕ) → IsRuleBroken source place rule → ⊥
    unbroken place rule b = breaks (tree_of b.tree) prog rule b.token (typed_as b.tokens b.tree b.is_tree) b.broken

    not_over : (limit : limits.Limit) (count : ℕ) → IsExceeded source limit count → ⊥
    not_over limit count e = within_as e.tokens e.tree e.is_tree limit count e.exceeds

    few_statics : (count : ℕ) → IsExceededByStatics source count → ⊥
    few_statics count e = within_as e.tokens e.tree e.is_tree limits.of_statics count e.exceeds

    not_deep : IsShallowUnit (tree_of h.tree) → (count : ℕ) → IsDeepRefused source count → ⊥
    not_deep shallow count d =
        let same = one_unit lexed listed spelt source h.tokens d.tokens h.tree d.tree h.is_tree d.is_tree in
        let few = subst IsShallowUnit same shallow in
        let there = subst (λ (z : List Derived). Contains z d.name) (sym d.first.place) (Contains-append_right d.first.before (d.name ∷ d.first.behind) d.name (0, omega arith, refl)) in
        let most = few d.name there in
        let over = d.first.over in
        absurd (omega (arith, most, over))

  pub right : RightLaw
  right source prog (Line place BadByte) h r = absurd (no_token source prog h.program place BadByte r)
  right source prog (Line place OpenComment) h r = absurd (no_token source prog h.program place OpenComment r)
  right source prog (Line place OpenLiteral) h r = absurd (no_token source prog h.program place OpenLiteral r)
  right source prog (Line place BadEscape) h r = absurd (no_token source prog h.program place BadEscape r)
  right source prog (Line place BadNumber) h r = absurd (no_token source prog h.program place BadNumber r)
  right source prog (Line place BadDirective) h r = absurd (no_token source prog h.program place BadDirective r)
  right source prog (Line place Nesting) h r = absurd (nested source prog h.program place r)
  right source prog (Line place Dimensions) h r = absurd (dimensioned source prog h.program place r)
  right source prog (Line place Syntax) h r = absurd (unspelt source prog h.program place r)
  right source prog (Line place (Rule number)) h r = absurd (unbroken source prog h.program place number r)
  right source prog (Limit Source count) h r = let few = h.short in let many = r.0 in let is = r.1 in absurd (omega (arith, few, many, is))
  right source prog (Limit Parameters count) h r = absurd (not_over source prog h.program limits.of_parameters count r)
  right source prog (Limit Size count) h r = absurd (not_over source prog h.program limits.of_size count r)
  right source prog (Limit Statics count) h r = absurd (few_statics source prog h.program count r)
  right source prog (Limit Frame count) h r =
      let same = one_program source r.prog prog r.program h.program in
      let large = r.large in
      let most = h.frames r.function large.f (subst (λ (z : Prog). slice_get z.funcs r.function ≡ Some large.f) same large.is_function) in
      let over = large.large in
      let need = large.need in
      absurd (omega (arith, most, over, need))
  right source prog (Limit Code count) h r =
      let same = one_program source r.prog prog r.program h.program in
      let most = h.code in
      let over = r.large.large in
      let nodes = subst (λ (z : Prog). count ≤ 4096 + 256 * prog_nodes z) same r.large.nodes in
      absurd (omega (arith, most, over, nodes))
  right source prog (Limit Derivations count) h r = absurd (not_deep source prog h.program h.shallow count r)
  right source prog OutOfMemory h r = refl
