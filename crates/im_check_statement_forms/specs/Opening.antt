-- Scopes that are opened and closed in a body.
use Rattle.std.specs.Prelude.{◌≡◌, List, [], ◌∷◌, ◌++◌}
use Rattle.im_check_locals.specs.im_rules.Scopes.{opened}
use Rattle.im_check_scopes.specs.declared.entity.Entry.{Entry}
use Rattle.im_check_scopes.specs.declared.entity.Entry.TheVariants.{Opened}
use Rattle.im_check_scopes.specs.Shape.{scopes_of}
use Rattle.im_check_sites.specs.declared.body.Body.{Body}

abbrev pub with_scope : List Entry → Body → Body
with_scope es b = record b { place = record (b.place) { scope = es } }

-- one scope more is open, and all else is as before
pub record IsOpened (before after : Body) : Type 0 where
  pub is : after ≡ with_scope (before.place.scope ++ Opened ∷ []) before
  pub scopes : scopes_of after.place.scope ≡ opened (scopes_of before.place.scope)
