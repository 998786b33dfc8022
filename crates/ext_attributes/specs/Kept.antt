-- What a file has, of how it is kept.
use Rattle.std.specs.Prelude.{Some, None}
use Rattle.ext_attributes.specs.declared.file_attributes.Kept.{Kept}
use Rattle.ext_attributes.specs.declared.file_attributes.Kept.TheVariants.{Plain, Capable}
use Rattle.ext_attributes.specs.Attributes.{OfFile}

-- without a capability or with one
abbrev pub of_file : Kept → OfFile
of_file (Plain attributes) = record { attributes = attributes; capability = None }
of_file (Capable box) = record { attributes = box.value.attributes; capability = Some box.value.capability }
