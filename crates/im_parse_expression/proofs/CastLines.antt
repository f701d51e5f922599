-- Casts in a row, cast by cast.
use Rattle.std.proofs.Common.{◌≡◌, ℕ, suc, ◌+◌, ◌-◌, ◌≤◌, ◌<◌, List, [], ◌∷◌, ◌++◌, drop, length, refl, ap, sym, ◌∙◌, arith}
use Rattle.im_word.specs.Words.{Name, Word}
use Rattle.im_ctree.specs.Tree as tree
use Rattle.im_ctree.specs.Grammar as g
use Rattle.im_ctree.specs.Shape.{type_name_of}
use Rattle.im_tok.specs.declared.punctuator.Punctuator.TheVariants.{CloseParen}
use Rattle.im_parse_core.specs.Reads.{Reads, Refuses, Within}
use Rattle.im_parse_core.proofs.Steps.{start, reput}
use Rattle.im_parse_expression.specs.Parsing.{Anything, Below, Closed}
use Rattle.im_parse_expression.specs.Casts.{cast_over, CastBegins, NoCastBegins, unparenthesised, untyped, StandCasts}
use Rattle.im_parse_expression.specs.declared.casts.CastType.{CastType}
use Rattle.im_parse_expression.proofs.BinaryLines.{cast_start, cast_typed, refuses_type}
use Rattle.im_parse_expression.proofs.BinaryLines as bl

-- casts so far, behind which a cast expression stands
pub record InCasts (T : List Name) (words : List Word) (i : ℕ) (cs : List CastType) (n : ℕ) : Type 0 where
  pub within : Within (g.IsCast T) (Below 14) i (drop i words) (g.IsCast T) (Below 14) n (drop n words) (cast_over cs)
  pub order : i ≤ n

pub casts_start : (T : List Name) (words : List Word) (i : ℕ) → InCasts T words i [] i
casts_start T words i = record { within = start (g.IsCast T) (Below 14) i (drop i words); order = omega arith }

pub over_more : (cs : List CastType) (c : CastType) (e : tree.Expression) → cast_over (cs ++ (c ∷ [])) e ≡ cast_over cs (tree.cast c.at (type_name_of c.name) e)
over_more [] c e = refl
over_more (d ∷ cs) c e = ap (λ z. tree.cast d.at (type_name_of d.name) z) (over_more cs c e)

-- one more cast
pub casts_more : (T : List Name) (words : List Word) (i n k l : ℕ) (cs : List CastType) (c : CastType) → c.at ≡ n → InCasts T words i cs n → CastBegins T words n k
    → Reads (Closed CloseParen (g.IsTypeName T)) Anything k (drop k words) (type_name_of c.name) l (drop l words) → InCasts T words i (cs ++ (c ∷ [])) l
casts_more T words i n k l cs c same so begun type = record {
  within = reput (λ t. ap (λ z. cast_over cs (tree.cast z (type_name_of c.name) t)) (sym same) ∙ sym (over_more cs c t)) (cast_typed words (cast_start words begun.at begun.begins so.within) type);
  order = omega (arith, so.order, begun.at.next, type.place);
}

-- the type of one more is refused
pub casts_refused : (T : List Name) (words : List Word) (i n k l : ℕ) (cs : List CastType) → InCasts T words i cs n → CastBegins T words n k
    → Refuses (Closed CloseParen (g.IsTypeName T)) Anything k (drop k words) l (drop l words) → Refuses (g.IsCast T) (Below 14) i (drop i words) l (drop l words)
casts_refused T words i n k l cs so begun one = refuses_type words (cast_start words begun.at begun.begins so.within) one

-- no cast goes on
pub casts_done : (T : List Name) (words : List Word) (i n : ℕ) (cs : List CastType) → InCasts T words i cs n → NoCastBegins T words n → StandCasts T words i cs n
casts_done T words i n cs so (unparenthesised other) = record { within = bl.unparenthesised T words n other so.within; order = so.order }
casts_done T words i n cs so (untyped at other) = record { within = bl.untyped T words n at other so.within; order = so.order }

-- the words that are left get fewer
pub casts_shorter : (T : List Name) (words : List Word) (n k l : ℕ) {t : tree.TypeName} → CastBegins T words n k
    → Reads (Closed CloseParen (g.IsTypeName T)) Anything k (drop k words) t l (drop l words) → length words - l < length words - n
casts_shorter T words n k l begun type = omega (arith, begun.at.next, begun.at.within, type.place)
