-- The functions that are predeclared.
use Rattle.std.specs.Prelude.{false, List}
use Rattle.im_serve.specs.declared.service.Service.TheVariants.{Getchar, Putchar}
use Rattle.im_check_place.specs.im_word.Words.{Name}
use Rattle.im_ctype.specs.declared.integer.Integer.TheVariants.{Int}
use Rattle.im_ctype.specs.Types.{integer, function}
use Rattle.im_types.specs.declared.tree.Type as rust
use Rattle.im_types.specs.Shape.{types_in}
use Rattle.im_check_place.specs.im_rules.Scopes.{Scopes, nothing, named, a_function, Callee, a_service}
use Rattle.im_check_place.specs.im_rules.FileScope.{getchar_name, getchar_type, putchar_name, putchar_type}

-- a function of these parameters that gives an int
abbrev pub with_function : Name → Callee → List rust.Type → Scopes → Scopes
with_function x callee ps g = named x (a_function callee false (function (integer Int) (types_in ps))) g

-- the innermost of what is predeclared
abbrev pub predeclared_functions : Scopes
predeclared_functions = named getchar_name (a_function (a_service Getchar) false getchar_type) (named putchar_name (a_function (a_service Putchar) false putchar_type) nothing)
