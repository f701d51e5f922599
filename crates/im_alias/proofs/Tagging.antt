-- Tags by sets that are alike, and tags that have what was found.
use Rattle.std.proofs.Common.{ℕ, List, Option, Some, None}
use Rattle.im_block.specs.declared.access.Tag.{Tag}
use Rattle.im_block.specs.declared.access.Tag.TheVariants.{Direct, Through as Among}
use Rattle.im_block.specs.declared.access.Tags.{Tags}
use Rattle.im_block.specs.declared.code.Place.{Place}
use Rattle.im_block.specs.declared.code.Place.TheVariants.{Static, Local, Through}
use Rattle.im_block.specs.declared.code.Line.{Line}
use Rattle.im_block.specs.declared.code.Line.TheVariants.{Read, Write}
use Rattle.im_block.specs.Tagged.{tag_of}
use Rattle.im_alias.specs.Scan.{AlikeSets, TagAlike, LineTagAlike}

tag_alike : (a b : ℕ → List ℕ) (place : Place) (tag : Option Tag) → AlikeSets a b → TagAlike b place tag → TagAlike a place tag
tag_alike a b place None h k = k
tag_alike a b (Static object offset) (Some (Direct o d)) h k = k
tag_alike a b (Local object offset) (Some (Direct o d)) h k = k
tag_alike a b (Through pointer offset) (Some (Direct o d)) h k = k
tag_alike a b (Static object offset) (Some (Among objects)) h k = k
tag_alike a b (Local object offset) (Some (Among objects)) h k = k
tag_alike a b (Through pointer offset) (Some (Among objects)) h k = record {
  there = λ n x. (h pointer).back n (k.there n x);
  back = λ n x. k.back n ((h pointer).there n x);
}

pub line_tag_alike : (tags : Tags) (a b : ℕ → List ℕ) (line : Line) → AlikeSets a b → LineTagAlike tags b line → LineTagAlike tags a line
line_tag_alike tags a b (Read to place kind access) h k = tag_alike a b place (tag_of tags access) h k
line_tag_alike tags a b (Write place kind from access) h k = tag_alike a b place (tag_of tags access) h k
line_tag_alike tags a b line h k = tt
