-- Faults of the parts of a node of a body, and sizes at a site that is known by an equation.
use Rattle.std.proofs.Common.{◌≡◌, ℕ, subst}
use Rattle.im_check_locals.specs.im_rules.Statements.{Site}
use Rattle.im_check_locals.specs.im_rules.BodyBreaks.{BodyNode, BodyPart, BodyBroken, within_body}
use Rattle.im_check_locals.specs.im_rules_limits.Limits.{BodySized, size_in_part, IsBodyWithin}
use Rattle.im_check_stop.specs.declared.stop.Stop.{Stop}
use Rattle.im_check_stop.specs.declared.stop.Stop.TheVariants.{Rule, Large, Memory}
use Rattle.im_check_sites.specs.declared.body.Body.{Body}
use Rattle.im_check_sites.specs.declared.position.Position.{Position}
use Rattle.im_check_sites.specs.Sites.{site_of, IsBodyFault}

pub moved_broken : {s z : Site} {n : BodyNode} {rule token : ℕ} → s ≡ z → BodyBroken s n rule token → BodyBroken z n rule token
moved_broken {n = n} {rule = rule} {token = token} e h = subst (λ x. BodyBroken x n rule token) e h

pub moved_sized : {s z : Site} {n : BodyNode} {bytes : ℕ} → s ≡ z → BodySized s n bytes → BodySized z n bytes
moved_sized {n = n} {bytes = bytes} e h = subst (λ x. BodySized x n bytes) e h

pub moved_within : {s z : Site} {n : BodyNode} → s ≡ z → IsBodyWithin s n → IsBodyWithin z n
moved_within {n = n} e h = subst (λ x. IsBodyWithin x n) e h

pub part_fault : {node part : BodyNode} {z : Site} (b0 b1 : Body) (v w : Position) → BodyPart (site_of b0 w) node z part → site_of b1 v ≡ z → (f : Stop) → IsBodyFault b1 v part f → IsBodyFault b0 w node f
part_fault b0 b1 v w p e (Rule rule token) h = within_body p (moved_broken e h)
part_fault b0 b1 v w p e (Large bytes) h = (size_in_part p (moved_sized e h.0), h.1)
part_fault b0 b1 v w p e Memory h = tt
