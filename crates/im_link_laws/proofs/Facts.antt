-- What linking asks, part by part.
use Rattle.std.proofs.Common.{◌≡◌, ◌<◌, ◌≤◌, ◌⊎◌, inl, inr, ℕ, zero, suc, ◌+◌, ◌-◌, ◌*◌, true, List, [], Some, map, length, refl, sym, ap, ◌∙◌, subst, arith}
use Rattle.std.specs.Prelude.{◌==◌, if◌then◌else◌, slice_get}
use Rattle.std.proofs.lemmas.Option.{slice_get_cases, slice_get_within}
use Rattle.im_num.specs.declared.values.Cause.TheVariants.{Length, Dep}
use Rattle.im_rv.specs.declared.instr.Op.{Op}
use Rattle.im_rv.specs.declared.instr.Op.TheVariants.{Jal}
use Rattle.im_rv.specs.declared.format.Format.TheVariants.{Branch}
use Rattle.im_rv.specs.declared.code.Part.{Part}
use Rattle.im_rv.specs.Formats.{format_of}
use Rattle.im_rv.specs.Lines.{CodeLine, plain_line}
use Rattle.im_ckpt.specs.Recovery.{recovery}
use Rattle.im_ckpt.specs.Checkpoint.{checkpoint_code}
use Rattle.im_serve.specs.declared.service.Service.{Service}
use Rattle.im_serve.specs.declared.service.Service.TheVariants.{Getchar, Putchar}
use Rattle.im_rtlib.specs.Routines.{aimed, getchar, putchar, routine, exit, stack}
use Rattle.im_rv_reach.specs.Instructions.{jumping}
use Rattle.im_block.specs.declared.unit.Function.{Function}
use Rattle.im_block.specs.declared.unit.Unit.{Unit as Code}
use Rattle.im_select.specs.Emitted.{entry_label}
use Rattle.im_select.specs.Selects.{accesses_in, causes_in, HasLabel, IsTarget, IsNear}
use Rattle.im_frame.specs.declared.layout.Layout.{Layout}
use Rattle.im_link_laws.specs.Program.{HasCode, IsProgram, routine_part, part_of, start_code, given_at}
use Rattle.im_link_laws.specs.Laws.{Within, NamesOwn, NamesAccesses}
use Rattle.im_link_laws.proofs.Gathering.{laid_names}
use Rattle.im_link_laws.proofs.Runtimes.{saved_there}
use Rattle.im_link_laws.proofs.Services.{routine_there, routine_begins, PartAt, ServicePart, StackPart, LaterPart, part_at}
use Rattle.im_link_laws.proofs.Owning.{part_for, Owner, Low, Entry, Own, label_check, known, target_check, Aim, ToCheckpoint, Within as Close, aims}

pub data Goal (parts : List Part) (code : List CodeLine) (k l : ℕ) (op : Op) : Type 0 where
  Elsewhere : (q m : ℕ) (other : List CodeLine) → HasCode parts q other → HasLabel other m l → op ≡ Jal → Goal parts code k l op
  Near : (m : ℕ) → HasLabel code m l → (op ≡ Jal) ⊎ (format_of op ≡ Branch) → m ≤ k + 1023 → k ≤ m + 1024 → Goal parts code k l op

pub record Facts (functions : List Function) (parts : List Part) (p : ℕ) : Type 0 where
  pub code : List CodeLine
  pub there : HasCode parts p code
  pub owns : (k l : ℕ) → HasLabel code k l → Owner functions p l
  pub one : (k m l : ℕ) → HasLabel code k l → HasLabel code m l → k ≡ m
  pub leads : (k l : ℕ) (x : CodeLine) → slice_get code k ≡ Some x → x.target ≡ Some l → Goal parts code k l x.line.op
  pub named : NamesOwn (causes_in code) (accesses_in code)

goal_of : (parts : List Part) (code : List CodeLine) (k j l : ℕ) (op : Op) → HasCode parts 1 checkpoint_code → j ≡ k → Aim code j l op → Goal parts code k l op
goal_of parts code k j l op saves e (ToCheckpoint t far) = Elsewhere 1 30 checkpoint_code saves (subst (HasLabel checkpoint_code 30) (sym t) (saved_there 10 (omega arith) (omega arith))) far
goal_of parts code k j l op saves e (Close m h o a b) = Near m h o (omega arith) (omega arith)

known_facts : (functions : List Function) (parts : List Part) (p key : ℕ) (at : ℕ → ℕ) (code : List CodeLine) → HasCode parts 1 checkpoint_code → HasCode parts p code → p ≡ part_for (length functions) key → label_check key at 0 code ≡ true → target_check at code 0 code ≡ true → NamesOwn (causes_in code) (accesses_in code) → Facts functions parts p
known_facts functions parts p key at code saves there e labels targets names = record {
  code = code;
  there = there;
  owns = λ k l h. let r = known key at 0 code labels k l h in Low r.low (e ∙ ap (part_for (length functions)) (sym r.is_key));
  one = λ k m l h g. let r = (known key at 0 code labels k l h).line in let s = (known key at 0 code labels m l g).line in omega arith;
  leads = λ k l x g t. goal_of parts code k (0 + k) l x.line.op saves (omega arith) (aims at code 0 code targets k l x g t);
  named = names;
}

-- where their labels are
abbrev pub zero_at : ℕ → ℕ
zero_at l = 0

abbrev pub one_at : ℕ → ℕ
one_at l = 1

abbrev pub checkpoint_at : ℕ → ℕ
checkpoint_at l = 5 * (l - 4)

abbrev pub getchar_at : ℕ → ℕ
getchar_at l = if l == 32 then 0 else 10

abbrev pub putchar_at : ℕ → ℕ
putchar_at l = if l == 33 then 0 else (if l == 41 then 5 else (if l == 42 then 6 else (if l == 44 then 16 else (if l == 45 then 17 else 22))))

no_causes : (accesses : List ℕ) → NamesOwn [] accesses
no_causes accesses k read write e = absurd cc

getchar_names : NamesOwn (causes_in getchar) (accesses_in getchar)
getchar_names zero read write e =
    let same : Dep 0 1 ≡ Dep read write = cc in
    let a : 0 ≡ read = cc in
    let b : 1 ≡ write = cc in
    (subst (Within (accesses_in getchar)) a (0, refl), subst (Within (accesses_in getchar)) b (1, refl))
getchar_names (suc k) read write e = absurd cc

putchar_names : NamesOwn (causes_in putchar) (accesses_in putchar)
putchar_names zero read write e = absurd (no e)
  where
    no : Some Length ≡ Some (Dep read write) → ⊥
    no q = cc
putchar_names (suc zero) read write e = absurd (no e)
  where
    no : Some Length ≡ Some (Dep read write) → ⊥
    no q = cc
putchar_names (suc (suc zero)) read write e = absurd (no e)
  where
    no : Some Length ≡ Some (Dep read write) → ⊥
    no q = cc
putchar_names (suc (suc (suc k))) read write e = absurd cc

module _ (u : Code) (statics : List ℕ) (layouts : List Layout) (parts : List Part) (program : IsProgram u statics layouts parts) where
  recovers : Facts u.functions.items parts 0
  recovers = known_facts u.functions.items parts 0 0 checkpoint_at (map plain_line recovery) program.saves program.recovers refl refl refl (no_causes [])

  saves : Facts u.functions.items parts 1
  saves = known_facts u.functions.items parts 1 1 checkpoint_at checkpoint_code program.saves program.saves refl refl refl (no_causes [])

  serves : (service : Service) → Facts u.functions.items parts (routine_part service)
  serves Getchar = known_facts u.functions.items parts 2 2 getchar_at getchar program.saves program.gets refl refl refl getchar_names
  serves Putchar = known_facts u.functions.items parts 3 3 putchar_at putchar program.saves program.puts refl refl refl putchar_names

  stops : Facts u.functions.items parts 4
  stops = known_facts u.functions.items parts 4 4 zero_at stack program.saves program.stops refl refl refl (no_causes [])

  -- where a label stands that a function's line leads to
  target : (i : ℕ) (f : Function) (e : slice_get u.functions.items i ≡ Some f) (code : List CodeLine) (k l : ℕ) (op : Op) → op ≡ Jal → IsTarget (given_at u.functions.items statics i f (program.functions i f e).layout) l → Goal parts code k l op
  target i f e code k l op far (inl a) = let low = a.0 in let high = a.1 in Elsewhere 1 (5 * (l - 4)) checkpoint_code program.saves (saved_there l (omega arith) (omega arith)) far
  target i f e code k l op far (inr (inl a)) = Elsewhere (routine_part a.0) 0 (routine a.0) (routine_there u statics layouts parts program a.0) (subst (HasLabel (routine a.0) 0) (sym a.1) (routine_begins a.0)) far
  target i f e code k l op far (inr (inr (inl a))) = Elsewhere 4 0 stack program.stops (subst (HasLabel stack 0) (sym a) (record { line = _; there = refl; is = refl })) far
  target i f e code k l op far (inr (inr (inr (inl a)))) = elim (slice_get_cases u.functions.items a.0).1 [
    | inl c ↦ (let other = program.functions a.0 c.0 c.2 in Elsewhere (part_of a.0) 0 other.code other.there (subst (HasLabel other.code 0) (sym a.2) other.selection.entry) far)
    | inr c ↦ (let le = c.0 in let less = a.1 in absurd (omega arith))
  ]
  target i f e code k l op far (inr (inr (inr (inr b)))) =
      let own = program.functions i f e in
      Elsewhere (part_of i) (own.selection.starts b.0) own.code own.there (subst (HasLabel own.code (own.selection.starts b.0)) (sym b.2) (own.selection.blocks b.0 b.1)) far

  -- a branch leads to a block of its own function, which has few lines
  near_target : (i : ℕ) (f : Function) (e : slice_get u.functions.items i ≡ Some f) (k l : ℕ) (x : CodeLine) → slice_get (program.functions i f e).code k ≡ Some x → IsNear (given_at u.functions.items statics i f (program.functions i f e).layout) (program.functions i f e).code x l → Goal parts (program.functions i f e).code k l x.line.op
  near_target i f e k l x there near =
      let own = program.functions i f e in
      let b = near.block in
      let label = own.selection.blocks b.0 b.1 in
      let few = near.few in
      let from = slice_get_within own.code k x there in
      let to = slice_get_within own.code (own.selection.starts b.0) label.line label.there in
      Near (own.selection.starts b.0) (subst (HasLabel own.code (own.selection.starts b.0)) (sym b.2) label) (inr near.branches) (omega arith) (omega arith)

  pub of_function : NamesAccesses u → (i : ℕ) (f : Function) → slice_get u.functions.items i ≡ Some f → Facts u.functions.items parts (part_of i)
  of_function names i f e =
      let own = program.functions i f e in
      let sel = own.selection in
      let within = slice_get_within u.functions.items i f e in
      record {
        code = own.code;
        there = own.there;
        owns = λ k l h. elim (sel.only k l h) [ inl a ↦ Entry i within refl a.1 | inr b ↦ Own i b.0 f e b.1 refl b.3 ];
        one = λ k m l h g. elim (sel.only k l h) [
          | inl a ↦ elim (sel.only m l g) [
            | inl b ↦ a.0 ∙ sym b.0
            | inr b ↦ (let x = a.1 in let y = b.3 in absurd (omega arith))
          ]
          | inr a ↦ elim (sel.only m l g) [
            | inl b ↦ (let x = b.1 in let y = a.3 in absurd (omega arith))
            | inr b ↦ (let x = a.3 in let y = b.3 in let same : a.0 ≡ b.0 = omega arith in a.2 ∙ ap sel.starts same ∙ sym b.2)
          ]
        ];
        leads = λ k l x g t. let r = sel.targets k l x g t in elim r.far [ inl far ↦ target i f e own.code k l x.line.op far r.to | inr near ↦ near_target i f e k l x g near ];
        named = λ k read write g.
            let n = laid_names f.entry f.blocks.items (names.each i f e) k read write (ap (λ z. slice_get z k) (sym sel.causes) ∙ g) in
            let a = n.0 in
            let b = n.1 in
            ((a.0, ap (λ z. slice_get z a.0) sel.accesses ∙ a.1), (b.0, ap (λ z. slice_get z b.0) sel.accesses ∙ b.1));
      }

  start_leads : (k l : ℕ) (x : CodeLine) → slice_get (start_code u.main) k ≡ Some x → x.target ≡ Some l → Goal parts (start_code u.main) k l x.line.op
  start_leads zero l x e t = elim (slice_get_cases u.functions.items u.main).1 [
    | inl c ↦
        (let other = program.functions u.main c.0 c.2 in
        let first : CodeLine = aimed (entry_label u.main) (jumping 1 0) in
        let same : first ≡ x = cc in
        let at : Some (entry_label u.main) ≡ Some l = ap (λ (z : CodeLine). z.target) same ∙ t in
        let is : entry_label u.main ≡ l = cc in
        let far : Jal ≡ x.line.op = ap (λ (z : CodeLine). z.line.op) same in
        Elsewhere (part_of u.main) 0 other.code other.there (subst (HasLabel other.code 0) is other.selection.entry) (sym far))
    | inr c ↦ (let le = c.0 in let less = program.main in absurd (omega arith))
  ]
  start_leads (suc k) l x e t = goal_of parts (start_code u.main) (suc k) (1 + k) l x.line.op program.saves (omega arith) (aims checkpoint_at (start_code u.main) 1 exit refl k l x e t)

  begins : Facts u.functions.items parts (part_of (length u.functions.items))
  begins = record {
    code = start_code u.main;
    there = program.begins;
    owns = λ k l h. let r = known 5 one_at 0 (start_code u.main) refl k l h in Low r.low (ap (part_for (length u.functions.items)) (sym r.is_key));
    one = λ k m l h g. let r = (known 5 one_at 0 (start_code u.main) refl k l h).line in let s = (known 5 one_at 0 (start_code u.main) refl m l g).line in omega arith;
    leads = start_leads;
    named = no_causes [];
  }

  pub facts_of : NamesAccesses u → (p : ℕ) → p < length parts → Facts u.functions.items parts p
  facts_of names zero h = recovers
  facts_of names (suc zero) h = saves
  facts_of names (suc (suc p)) h = by (suc (suc p)) (part_at p) h
    where
      by : (n : ℕ) → PartAt n → n < length parts → Facts u.functions.items parts n
      by n (ServicePart service) lt = serves service
      by n StackPart lt = stops
      by n (LaterPart i) lt =
          let count = program.count in
          elim (slice_get_cases u.functions.items i).1 [
            | inl c ↦ of_function names i c.0 c.2
            | inr c ↦ (let le = c.0 in let q : part_of (length u.functions.items) ≡ part_of i = omega arith in subst (Facts u.functions.items parts) q begins)
          ]
