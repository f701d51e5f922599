-- Code without cuts has no causes.
use Rattle.std.proofs.Common.{◌≡◌, ℕ, suc, List, [], ◌∷◌, ◌++◌, Some, None, refl, ap, ◌∙◌, subst}
use Rattle.std.specs.Prelude.{slice_get, All}
use Rattle.std.proofs.lemmas.List.Elements.{All-head, All-tail}
use Rattle.im_num.specs.declared.values.Cause.{Cause}
use Rattle.im_num.specs.declared.values.Cause.TheVariants.{Dep}
use Rattle.im_block.specs.declared.code.Line.{Line}
use Rattle.im_block.specs.declared.code.Line.TheVariants.{Put, PutNull, Copy, Convert, Unary, Not, Compute, Compare, Move, Distance, Address, Read, Write, Reload, Spill, Cut, Call, Serve}
use Rattle.im_block.specs.declared.code.Block.{Block}
use Rattle.im_alloc_placed.specs.Apart.{IsNoCut}
use Rattle.im_select.specs.Selects.{causes_of_line, causes_of_lines, causes_of_blocks}
use Rattle.im_compile_dependences.specs.Laws.{UncutNames}

no_cause : (line : Line) → IsNoCut line → causes_of_line line ≡ []
no_cause (Put to z) h = refl
no_cause (PutNull to) h = refl
no_cause (Copy to from) h = refl
no_cause (Convert to kind from) h = refl
no_cause (Unary to op kind from) h = refl
no_cause (Not to from) h = refl
no_cause (Compute to op kind left right) h = refl
no_cause (Compare to op kind left right) h = refl
no_cause (Move to size back pointer by) h = refl
no_cause (Distance to size left right) h = refl
no_cause (Address to place) h = refl
no_cause (Read to place kind access) h = refl
no_cause (Write place kind from access) h = refl
no_cause (Reload to slot access) h = refl
no_cause (Spill slot from access) h = refl
no_cause (Cut cause) h = absurd (h tt)
no_cause (Call to function first count) h = refl
no_cause (Serve to service None) h = refl
no_cause (Serve to service (Some from)) h = refl

no_causes : (lines : List Line) → All IsNoCut lines → causes_of_lines lines ≡ []
no_causes [] h = refl
no_causes (line ∷ lines) h =
    ap (λ z. z ++ causes_of_lines lines) (no_cause line (All-head IsNoCut line lines h)) ∙ no_causes lines (All-tail IsNoCut line lines h)

none : (blocks : List Block) → ((b : ℕ) (block : Block) → slice_get blocks b ≡ Some block → All IsNoCut block.lines.items) → causes_of_blocks blocks ≡ []
none [] h = refl
none (block ∷ blocks) h =
    ap (λ z. z ++ causes_of_blocks blocks) (no_causes block.lines.items (h 0 block refl)) ∙ none blocks (λ b c e. h (suc b) c e)

pub uncut : UncutNames
uncut u h = record {
  each = λ i f e k r w g.
      (let no : causes_of_blocks f.blocks.items ≡ [] = none f.blocks.items (λ b block q. h.each i f b block e q) in
      let bad : None ≡ Some (Dep r w) = subst (λ (z : List Cause). slice_get z k ≡ Some (Dep r w)) no g in
      absurd cc);
}
