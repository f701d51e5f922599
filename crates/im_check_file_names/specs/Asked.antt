-- For private contracts: what is asked of a declarator at file scope, by what its name means behind it.
use Rattle.std.specs.Prelude.{Bool, true, not, ◌&&◌, ◌||◌, List, [], ◌∷◌, if◌then◌else◌}
use Rattle.im_check_declarators.specs.im_word.Words.{Name}
use Rattle.im_ctype.specs.Types.{CType}
use Rattle.im_check_declarators.specs.im_rules.Context.{with_entity}
use Rattle.im_check_declarators.specs.im_rules.Declared.{Declared}
use Rattle.im_check_declarators.specs.im_rules.Demands.{Demand, asks}
use Rattle.im_check_declarators.specs.im_rules.FileScope.{FilePlace, is_object_entity, keeps_builtin}
use Rattle.im_check_declarators.specs.im_rules.Outline.{is_in}
use Rattle.im_check_declarators.specs.im_rules.Rules.{rule_3, rule_4, rule_5, rule_6_absent}
use Rattle.im_check_declarators.specs.im_rules.Scopes.{Entity, meaning, meaning_here}

abbrev pub asks_of : FilePlace → Bool → Name → Declared → CType → Entity → Bool → List Demand
asks_of f typedef x y a e whole =
    let g = f.context.scopes in
    asks 2 (not (typedef && whole))
    ∷ asks 3 (rule_3 (meaning_here g x) e true (is_in x f.whole) whole)
    ∷ asks 4 (rule_4 (meaning g x) e)
    ∷ asks 6 (rule_6_absent y.type whole)
    ∷ asks 5 (not (is_object_entity e) || rule_5 f.context.known a)
    ∷ asks 12 (typedef || keeps_builtin x y.constant a whole)
    ∷ []

abbrev pub with_whole : Bool → Name → List Name → List Name
with_whole whole x xs = if whole then x ∷ xs else xs

-- behind a declarator
abbrev pub with_name : Name → Entity → Bool → FilePlace → FilePlace
with_name x e whole f = record f { context = with_entity x e f.context; whole = with_whole whole x f.whole }
