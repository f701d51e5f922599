-- The scopes of the definitions that entries stand for.
use Rattle.std.specs.Prelude.{List, [], ◌∷◌}
use Rattle.im_types.specs.Shape.{type_of}
use Rattle.im_check_name_map.specs.im_rules.Scopes as s
use Rattle.im_check_scopes.specs.declared.entity.Storage.{Storage}
use Rattle.im_check_scopes.specs.declared.entity.Storage.TheVariants as o
use Rattle.im_check_scopes.specs.declared.entity.Callee.{Callee}
use Rattle.im_check_scopes.specs.declared.entity.Callee.TheVariants as k
use Rattle.im_check_scopes.specs.declared.entity.Entity.{Entity}
use Rattle.im_check_scopes.specs.declared.entity.Entity.TheVariants as e
use Rattle.im_check_scopes.specs.declared.entity.Tag.{Tag}
use Rattle.im_check_scopes.specs.declared.entity.Tag.TheVariants as g
use Rattle.im_check_scopes.specs.declared.entity.Entry.{Entry}
use Rattle.im_check_scopes.specs.declared.entity.Entry.TheVariants as n

abbrev pub storage_of : Storage → s.Storage
storage_of (o.Static n) = s.static_object n
storage_of (o.Local n) = s.local_object n

abbrev pub callee_of : Callee → s.Callee
callee_of (k.Body n) = s.a_body n
callee_of k.NoBody = s.no_body
callee_of (k.Service service) = s.a_service service

abbrev pub entity_of : Entity → s.Entity
entity_of (e.Object constant ty storage) = s.an_object constant (type_of ty) (storage_of storage)
entity_of (e.Function callee constant ty) = s.a_function (callee_of callee) constant (type_of ty)
entity_of (e.Enumerator z) = s.an_enumerator z.value
entity_of (e.Typedef constant ty) = s.a_typedef constant (type_of ty)

abbrev pub tag_of : Tag → s.Tag
tag_of (g.Struct n) = s.struct_tag n
tag_of g.Enum = s.enum_tag

abbrev pub with_entry : s.Scopes → Entry → s.Scopes
with_entry g n.Opened = s.opened g
with_entry g (n.Named x e) = s.named x.items (entity_of e) g
with_entry g (n.Tagged x t) = s.tagged x.items (tag_of t) g

-- the scopes that entries make, the first one first
abbrev pub with_entries : s.Scopes → List Entry → s.Scopes
with_entries g [] = g
with_entries g (x ∷ xs) = with_entries (with_entry g x) xs

abbrev pub scopes_of : List Entry → s.Scopes
scopes_of es = with_entries s.nothing es
