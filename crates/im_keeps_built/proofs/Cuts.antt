-- The cuts that linking tells are those of the code.
use Rattle.std.proofs.Common.{◌≡◌, ℕ, ◌+◌, inl, inr, true, List, [], ◌∷◌, Option, Some, None, map, refl, sym, ap, ◌∙◌, subst, arith}
use Rattle.std.specs.Prelude.{Vec, string_bytes, encode_utf8_all, option_map, slice_get}
use Rattle.std.specs.Global.{Global}
use Rattle.std.proofs.lemmas.Option.{slice_get_cases, slice_get-map}
use Rattle.im_num.specs.declared.values.Cause.{Cause}
use Rattle.im_rv.specs.declared.code.Line.{Line}
use Rattle.im_rv.specs.declared.code.Part.{Part}
use Rattle.im_rv.specs.declared.code.Cut.{Cut}
use Rattle.im_rv.specs.Code.{address, instruction_at}
use Rattle.im_gap.specs.Flow.{links, links_by}
use Rattle.im_link.specs.Parts.{lines_of, first_of}
use Rattle.im_link.specs.Links.{AreWordsOf}
use Rattle.im_link.specs.Cuts.{AreCutsOf, IsCutIn}
use Rattle.im_link.proofs.Joining.{line_in}
use Rattle.im_rtlib.specs.Laws.{is_cut}
use Rattle.im_typed.specs.declared.program.Func.{Func}
use Rattle.im_typed.specs.declared.program.Prog.{Prog}
use Rattle.im_typed.specs.Program as p
use Rattle.im_typed.specs.ProgramOf.{func_of, program_of}
use Rattle.im_block.specs.declared.unit.Unit.{Unit as Code}
use Rattle.im_frame.specs.declared.layout.Layout.{Layout}
use Rattle.im_link_laws.specs.Program.{IsProgram}
use Rattle.im_select_assemble.specs.Names.{part_names as names_of_parts, program_names}
use Rattle.im_saved_code.proofs.Words.{word_of, no_word}
use Rattle.im_compile.specs.declared.options.Options.{Options}
use Rattle.im_compile.specs.declared.built.Built.{Built}
use Rattle.im_alloc_laws.specs.Laws.{PlacedCodeLaw}
use Rattle.im_cut_gap.specs.Laws.{GapApartLaw}
use Rattle.im_force.specs.Laws.{ForceKeepsLaw}
use Rattle.im_forward.specs.RegistersLaws.{RegistersLaw}
use Rattle.im_compile.specs.Passed.{IsSource, ReadyLaw}
use Rattle.im_compile.specs.Built.{IsBuilt, function_names}
use Rattle.im_keeps_built.specs.Cuts.{IsCutWord, part_names, IsCaused, AreCuts, AreGapsAsked}
use Rattle.im_keeps_built.proofs.Marked.{line_is_marked}
use Rattle.im_keeps_built.proofs.ReasonsParts.{told_caused}
use Rattle.im_keeps_built.proofs.ReasonsPassed.{passed_reasons}

some_cause : (o : Option Cause) → is_cut o ≡ true → (cause : Cause) × (o ≡ Some cause)
some_cause None e = absurd cc
some_cause (Some cause) e = (cause, refl)

module _ (u : Code) (statics : List ℕ) (layouts : List Layout) (parts : List Part) (program : IsProgram u statics layouts parts) (words : List ℕ) (are : AreWordsOf (lines_of parts) words) where
  -- word i is a cut where line i has a cause
  linked_at : (i : ℕ) (line : Line) → slice_get (lines_of parts) i ≡ Some line → links 3 (instruction_at words i) ≡ is_cut line.cause
  linked_at i line e =
      let w = word_of (lines_of parts) words i line are e in
      ap (links 3) w.here ∙ ap (λ z. links_by z 3 w.to.rd) w.op ∙ ap (links_by line.instr.op 3) w.rd ∙ line_is_marked u statics layouts parts program i line e

  pub told : (cut : Cut) → IsCutIn parts cut → (k : ℕ) × (cut.at ≡ address k) × IsCutWord words k
  told cut c =
      let k = first_of parts c.p + c.k in
      let line = line_in parts c.p c.k c.part c.is_cut.line c.is_part c.is_cut.is_line in
      (k, c.is_cut.at, linked_at k c.is_cut.line line ∙ ap is_cut c.is_cut.is_cause)

  pub found : (cuts : List Cut) → AreCutsOf parts cuts → (k : ℕ) → IsCutWord words k → (c : ℕ) × (cut : Cut) × (slice_get cuts c ≡ Some cut) × (cut.at ≡ address k)
  found cuts cs k is = elim (slice_get_cases (lines_of parts) k).1 [
    | inl g ↦ (let s = some_cause g.0.cause (sym (linked_at k g.0 g.2) ∙ is) in cs.all k g.0 s.0 g.2 s.1)
    | inr g ↦ (let n = no_word (lines_of parts) words k are g.1 in let bad : links 3 None ≡ true = ap (links 3) (sym n) ∙ is in absurd cc)
  ]

names_same : (f : Func → p.Func) → ((x : Func) → (f x).name ≡ x.name.items) → (fs : List Func) → map encode_utf8_all (map (λ (g : p.Func). g.name) (map f fs)) ≡ function_names fs
names_same f h [] = refl
names_same f h (x ∷ xs) =
    ap (λ n. encode_utf8_all n ∷ map encode_utf8_all (map (λ (g : p.Func). g.name) (map f xs))) (h x) ∙ ap (λ ns. encode_utf8_all x.name.items ∷ ns) (names_same f h xs)

pub cuts_of : RegistersLaw → ForceKeepsLaw → PlacedCodeLaw → GapApartLaw → ReadyLaw → (prog : Prog) (options : Options) (built : Built) → IsSource prog → IsBuilt prog options built
    → AreCuts (map (λ (f : p.Func). f.name) (program_of prog).funcs) built.image.words built.cuts.items
cuts_of registers force placing gaps ready prog options built source b =
    let cs = b.link.cuts in
    let well = (ready prog options.max_gap b.code source b.passed).well_formed in
    let reasons = passed_reasons registers force placing gaps prog options.max_gap b.code b.passed in
    let names : part_names (map (λ (f : p.Func). f.name) (program_of prog).funcs) ≡ names_of_parts b.parts =
    ap program_names (names_same (func_of prog.types) (λ x. refl) prog.funcs.items) ∙ sym b.named in
    subst (λ (l : List ℕ). AreCuts (map (λ (f : p.Func). f.name) (program_of prog).funcs) l built.cuts.items) (sym b.pack.words)
    (subst (λ (l : List Cut). AreCuts (map (λ (f : p.Func). f.name) (program_of prog).funcs) b.linked.words.items l) (sym (ap (λ (v : Vec Cut Global). v.items) b.cuts))
    (record {
      ascending = cs.ascending;
      each = λ c cut e. told b.code b.addresses b.layouts b.parts b.assemble b.linked.words.items b.link.words cut (cs.each c cut e);
      all = λ k is. found b.code b.addresses b.layouts b.parts b.assemble b.linked.words.items b.link.words b.linked.cuts.items cs k is;
      caused = λ c cut e k at.
          let i = cs.each c cut e in
          let here = i.is_cut.at in
          let same : first_of b.parts i.p + i.k ≡ k = omega arith in
          subst (λ n. IsCaused b.linked.words.items n cut.cause) same (told_caused (options.max_gap ≡ None → ⊥) b.code b.addresses b.layouts b.parts b.assemble b.linked.words.items b.link.words well reasons cut i).0;
      named = λ c cut e.
          let i = cs.each c cut e in
          (i.p, ap (λ (l : List (List ℕ)). slice_get l i.p) names ∙ slice_get-map {A = Part} (λ (q : Part). string_bytes q.name) b.parts i.p ∙ ap (option_map (λ (q : Part). string_bytes q.name)) i.is_part ∙ ap (λ (n : List ℕ). Some n) (sym i.is_cut.function));
    }))

-- a gap cut is told only where a longest gap was asked for
pub asked_of : RegistersLaw → ForceKeepsLaw → PlacedCodeLaw → GapApartLaw → ReadyLaw → (prog : Prog) (options : Options) (built : Built) → IsSource prog → IsBuilt prog options built → AreGapsAsked options.max_gap built.cuts.items
asked_of registers force placing gaps ready prog options built source b none c cut e g =
    let well = (ready prog options.max_gap b.code source b.passed).well_formed in
    let reasons = passed_reasons registers force placing gaps prog options.max_gap b.code b.passed in
    let there : slice_get b.linked.cuts.items c ≡ Some cut = subst (λ (v : Vec Cut Global). slice_get v.items c ≡ Some cut) b.cuts e in
    (told_caused (options.max_gap ≡ None → ⊥) b.code b.addresses b.layouts b.parts b.assemble b.linked.words.items b.link.words well reasons cut (b.link.cuts.each c cut there)).1 g none
