use Rattle.std.proofs.Common.{◌∙◌, ap}
use Rattle.im_check_name_map.specs.im_rules.Scopes.{at_file_scope}
use Rattle.im_check_scopes.specs.Shape.{scopes_of}
use Rattle.im_check_scopes.proofs.Found.{at-file, none-flag}
use Rattle.im_check_scopes.proofs.scope.Scope.at_file_scope.Goals as goal

pub returns : goal.returns
returns c =
    let s = c.self.inside in
    none-flag s.innermost _ c.is_none.ensures ∙ at-file s.kept.items s.names s.tags s.innermost c.self.invariant ∙ ap (λ es. at_file_scope (scopes_of es)) c.self.view_is
