-- The types of the definitions that Rust values stand for.
use Rattle.std.specs.Prelude.{List, [], ◌∷◌, map}
use Rattle.im_ctype.specs.Types.{CType, void, integer, pointer, array, unsized, struct, function, CTypes, no_types, more_types}
use Rattle.im_types.specs.declared.tree.Type as rust

abbrev mutual
  pub type_of : rust.Type → CType
  type_of rust.Void = void
  type_of (rust.Integer i) = integer i
  type_of (rust.Pointer' c b t) = pointer c (type_of t)
  type_of (rust.Array' b t n) = array (type_of t) n
  type_of (rust.Unsized' b t) = unsized (type_of t)
  type_of (rust.Struct n) = struct n
  type_of (rust.Function' b r shape ps) = function (type_of r) (types_of ps)

  pub types_of : {m : _} → rust.Row_of-Type m → CTypes
  types_of rust.end_of-Type = no_types
  types_of (rust.more_of-Type t rest) = more_types (type_of t) (types_of rest)

-- types in their order
abbrev pub listed : List CType → CTypes
listed [] = no_types
listed (t ∷ ts) = more_types t (listed ts)

abbrev pub types_in : List rust.Type → CTypes
types_in ts = listed (map {A = rust.Type} type_of ts)
