use Rattle.std.proofs.Common.{ℕ, ◌<◌, List, [], ◌∷◌, ◌++◌, length, arith, length-append}
use Rattle.im_word.specs.Words.{Name, Word, mark}
use Rattle.im_tok.specs.declared.punctuator.Punctuator.TheVariants.{Semicolon}
use Rattle.im_ctree.specs.Tree.{Declaration, External, Block, Tree}
use Rattle.im_ctree.specs.Units.{IsDeclaration, declares_none, declares, IsBlock, a_block, IsExternal, a_declaration, a_definition, IsUnit, last_external, next_external}
use Rattle.im_ctree.proofs.laws.unit_nonempty_law.Goals as goal

declaration_nonempty : (T : List Name) (p : ℕ) (d : Declaration) (w : List Word) → IsDeclaration T p d w → 0 < length w
declaration_nonempty T p d w (declares_none {u = u} s) = omega (arith, length-append u (mark Semicolon ∷ []))
declaration_nonempty T p d w (declares {u = u} {v = v} s none ds) = omega (arith, length-append u (v ++ (mark Semicolon ∷ [])), length-append v (mark Semicolon ∷ []))

block_nonempty : (T : List Name) (p : ℕ) (b : Block) (w : List Word) → IsBlock T p b w → 0 < length w
block_nonempty T p b w (a_block is) = omega arith

external_nonempty : (T : List Name) (p : ℕ) (e : External) (w : List Word) → IsExternal T p e w → 0 < length w
external_nonempty T p e w (a_declaration d) = declaration_nonempty _ _ _ _ d
external_nonempty T p e w (a_definition {u = u} {v = v} {w = x} s none d b) =
    let h = block_nonempty _ _ _ _ b in
    omega (arith, h, length-append u (v ++ x), length-append v x)

nonempty : (T : List Name) (p : ℕ) (t : Tree) (w : List Word) → IsUnit T p t w → 0 < length w
nonempty T p t w (last_external e) = external_nonempty _ _ _ _ e
nonempty T p t w (next_external {u = u} {v = v} e rest) =
    let h = external_nonempty _ _ _ _ e in
    omega (arith, h, length-append u v)

pub returns : goal.returns
returns c = λ names p unit words d. nonempty names p unit words d
