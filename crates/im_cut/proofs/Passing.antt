-- Lines that are swept, one after the other.
use Rattle.std.proofs.Common.{◌≡◌, List, [], ◌∷◌, ◌++◌, Option, Some, None, refl, sym, ap, ◌∙◌, subst, append_assoc}
use Rattle.std.specs.Prelude.{Bool, true, false}
use Rattle.std.proofs.lemmas.List.{append-nil}
use Rattle.im_num.specs.declared.values.Cause.TheVariants.{Dep as DepCut}
use Rattle.im_block.specs.declared.access.Access.{Access}
use Rattle.im_block.specs.declared.access.Tags.{Tags}
use Rattle.im_block.specs.declared.access.Dep.{Dep}
use Rattle.im_block.specs.declared.code.Line.{Line}
use Rattle.im_block.specs.declared.code.Line.TheVariants.{Read, Write, Reload, Spill, Cut}
use Rattle.im_block.specs.Meaning.{Site}
use Rattle.im_block.specs.Tagged.{Meet, reach_of}
use Rattle.im_block.specs.Paths.{WriteStep, steps_of, MeetAt}
use Rattle.im_dep.specs.Sites.{site_of_access}
use Rattle.im_dep.specs.Spans.{covers_by}
use Rattle.im_dep.specs.Exposed.{dep_of}
use Rattle.im_cut.specs.declared.marks.Marks.{Marks as Known}
use Rattle.im_cut.specs.Sweep.{Marks, fresh, passed, SweepLines, Ends, Keeps, Cuts}
use Rattle.im_cut.specs.Stands.{IsAlike, Stands, touched}
use Rattle.im_cut.specs.Lines.{access_of, is_cut, PassesLine, IsDep, IsDueFor, IsDueAt, LinesSwept, SweepsLines}

-- ---- the marks behind a line

pub pass_cut : (tags : Tags) (line : Line) (new : Known) (m : Marks) → is_cut line ≡ true → Stands tags new fresh → Stands tags new (passed (covers_by tags) line m)
pass_cut tags (Cut cause) new m e h = h
pass_cut tags line new m e h = cc

pub pass_quiet : (tags : Tags) (line : Line) (k : Known) (m : Marks) → is_cut line ≡ false → access_of line ≡ None → Stands tags k m → Stands tags k (passed (covers_by tags) line m)
pass_quiet tags (Read to place kind a) k m e f h = cc
pass_quiet tags (Write place kind from a) k m e f h = cc
pass_quiet tags (Reload to slot a) k m e f h = cc
pass_quiet tags (Spill slot from a) k m e f h = cc
pass_quiet tags (Cut cause) k m e f h = cc
pass_quiet tags line k m e f h = h

some_is : {A : Type 0} (x y : A) → Some x ≡ Some y → x ≡ y
some_is x y e = cc

pub pass_touch : (tags : Tags) (line : Line) (a : Access) (new : Known) (m : Marks) → access_of line ≡ Some a → Stands tags new (touched tags a m) → Stands tags new (passed (covers_by tags) line m)
pass_touch tags (Read to place kind n) a new m e h = subst (λ (x : Access). Stands tags new (touched tags x m)) (sym (some_is _ a e)) h
pass_touch tags (Write place kind from n) a new m e h = subst (λ (x : Access). Stands tags new (touched tags x m)) (sym (some_is _ a e)) h
pass_touch tags (Reload to slot n) a new m e h = subst (λ (x : Access). Stands tags new (touched tags x m)) (sym (some_is _ a e)) h
pass_touch tags (Spill slot from n) a new m e h = subst (λ (x : Access). Stands tags new (touched tags x m)) (sym (some_is _ a e)) h
pass_touch tags line a new m e h = cc

-- ---- a cut that is due, or none

meet_alike : (tags : Tags) (w a r : Site) → IsAlike tags a r → MeetAt tags w r → MeetAt tags w a
meet_alike tags w a r h k = subst (λ n. Meet (reach_of tags w) w.size (reach_of tags a) n) (sym h.size) (subst (λ x. Meet (reach_of tags w) w.size x r.size) (sym h.reach) k)

-- the write that a line is
write_step : (line : Line) (a : Access) → access_of line ≡ Some a → a.write ≡ true → steps_of line ≡ WriteStep (site_of_access a) ∷ []
write_step (Read to place kind n) a e w = absurd (reader (ap (λ (x : Access). x.write) (some_is _ a e) ∙ w))
  where
    reader : false ≡ true → ⊥
    reader q = cc
write_step (Reload to slot n) a e w = absurd (reader (ap (λ (x : Access). x.write) (some_is _ a e) ∙ w))
  where
    reader : false ≡ true → ⊥
    reader q = cc
write_step (Write place kind from n) a e w = ap (λ (x : Access). WriteStep (site_of_access x) ∷ []) (some_is _ a e)
write_step (Spill slot from n) a e w = ap (λ (x : Access). WriteStep (site_of_access x) ∷ []) (some_is _ a e)
write_step line a e w = cc

step_is : (v w : Site) → WriteStep v ∷ [] ≡ WriteStep w ∷ [] → v ≡ w
step_is v w e = cc

-- a line that is a write has its access
record IsWriting (line : Line) (w : Site) : Type 0 where
  access : Access
  is : access_of line ≡ Some access
  writes : access.write ≡ true
  site : site_of_access access ≡ w

writing : (line : Line) (w : Site) → steps_of line ≡ WriteStep w ∷ [] → IsWriting line w
writing (Write place kind from n) w e = record { access = _; is = refl; writes = refl; site = step_is _ w e }
writing (Spill slot from n) w e = record { access = _; is = refl; writes = refl; site = step_is _ w e }
writing line w e = cc

-- what is due for a line's access is due at the line
pub due_line : (tags : Tags) (exposed : List Access) (line : Line) (a : Access) (due : Option Dep) → access_of line ≡ Some a → IsDueFor tags exposed a due → IsDueAt tags exposed line due
due_line tags exposed line a None e h = λ w r is there meets.
    let k = writing line w is in
    let one : k.access ≡ a = some_is k.access a (sym k.is ∙ e) in
    h (ap (λ (x : Access). x.write) (sym one) ∙ k.writes) r there (subst (λ (s : Site). MeetAt tags s (site_of_access r)) (sym k.site ∙ ap site_of_access one) meets)
due_line tags exposed line a (Some d) e h = record { write = site_of_access a; is = write_step line a e h.writes; read = h.read; there = h.there; meets = h.meets; dep = h.dep }

-- nothing is due at a line that makes no access
pub no_due : (tags : Tags) (exposed : List Access) (line : Line) → access_of line ≡ None → IsDueAt tags exposed line None
no_due tags exposed line e = λ w r is there meets. let k = writing line w is in none k.access (sym e ∙ k.is)
  where
    none : (a : Access) → None ≡ Some a → ⊥
    none a q = cc

pub keeps_line : (tags : Tags) (line : Line) (old new : Known) (deps : List Dep) → IsDueAt tags old.exposed.items line None → PassesLine tags line old new → SweepsLines tags old new (line ∷ []) (line ∷ []) deps deps
keeps_line tags line old new deps free passes = λ m h. record {
  own = [];
  ends = passed (covers_by tags) line m;
  swept = Keeps m line [] [] [] (passed (covers_by tags) line m) (λ w r is opened meets. let a = h.all r opened in free w a.access is a.there (meet_alike tags w (site_of_access a.access) r a.alike meets)) (Ends (passed (covers_by tags) line m));
  stands = passes m h;
  added = sym (append-nil deps);
}

pub cuts_line : (tags : Tags) (line : Line) (old mid new : Known) (deps : List Dep) (d : Dep) → IsDep tags old.exposed.items line d → Stands tags mid fresh → PassesLine tags line mid new → SweepsLines tags old new (line ∷ []) (Cut (DepCut d.read d.write) ∷ line ∷ []) deps (deps ++ d ∷ [])
cuts_line tags line old mid new deps d due begins passes = λ m h.
    let r = site_of_access due.read in
    subst (λ (x : Dep). LinesSwept tags m new (line ∷ []) (Cut (DepCut x.read x.write) ∷ line ∷ []) deps (deps ++ x ∷ [])) (sym due.dep)
    (record {
      own = dep_of r due.write ∷ [];
      ends = passed (covers_by tags) line fresh;
      swept = Cuts m due.write r line [] [] [] (passed (covers_by tags) line fresh) due.is (h.some due.read due.there) due.meets (Ends (passed (covers_by tags) line fresh));
      stands = passes fresh begins;
      added = refl;
    })

pub cuts_more : (tags : Tags) (line : Line) (old mid new : Known) (deps more : List Dep) (d : Dep) → more ≡ deps ++ d ∷ [] → IsDep tags old.exposed.items line d → Stands tags mid fresh → PassesLine tags line mid new → SweepsLines tags old new (line ∷ []) (Cut (DepCut d.read d.write) ∷ line ∷ []) deps more
cuts_more tags line old mid new deps more d e due begins passes = subst (λ (t : List Dep). SweepsLines tags old new (line ∷ []) (Cut (DepCut d.read d.write) ∷ line ∷ []) deps t) (sym e) (cuts_line tags line old mid new deps d due begins passes)

-- ---- one line more

sweep_on : (tags : Tags) (covers : Site → Site → Bool) (m : Marks) (a b : List Line) (ds : List Dep) (k : Marks) (c d : List Line) (es : List Dep) (n : Marks) → SweepLines tags covers m a b ds k → SweepLines tags covers k c d es n → SweepLines tags covers m (a ++ c) (b ++ d) (ds ++ es) n
sweep_on tags covers m a b ds k c d es n (Ends z) h = h
sweep_on tags covers m a b ds k c d es n (Keeps z line x y more l free s) h = Keeps z line (x ++ c) (y ++ d) (more ++ es) n free (sweep_on tags covers (passed covers line z) x y more l c d es n s h)
sweep_on tags covers m a b ds k c d es n (Cuts z w r line x y more l step opened meets s) h = Cuts z w r line (x ++ c) (y ++ d) (more ++ es) n step opened meets (sweep_on tags covers (passed covers line fresh) x y more l c d es n s h)

pub no_lines : (tags : Tags) (m : Marks) (k : Known) (deps : List Dep) → Stands tags k m → LinesSwept tags m k [] [] deps deps
no_lines tags m k deps h = record { own = []; ends = m; swept = Ends m; stands = h; added = sym (append-nil deps) }

pub lines_more : (tags : Tags) (m : Marks) (mid new : Known) (lines cut piece : List Line) (line : Line) (deps some more : List Dep) → LinesSwept tags m mid lines cut deps some → SweepsLines tags mid new (line ∷ []) piece some more → LinesSwept tags m new (lines ++ line ∷ []) (cut ++ piece) deps more
lines_more tags m mid new lines cut piece line deps some more h next =
    let k = next h.ends h.stands in
    record {
      own = h.own ++ k.own;
      ends = k.ends;
      swept = sweep_on tags (covers_by tags) m lines cut h.own h.ends (line ∷ []) piece k.own k.ends h.swept k.swept;
      stands = k.stands;
      added = k.added ∙ ap (λ t. t ++ k.own) h.added ∙ append_assoc deps h.own k.own;
    }
