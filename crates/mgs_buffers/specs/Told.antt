-- What a user is told of a buffer in the listing of all.
use Rattle.std.specs.Prelude.{ℕ, List, length, Option, Some, None, if◌then◌else◌}
use Rattle.mgs_model.specs.Access.{Directory}
use Rattle.mgs_model.specs.World.{Buffer, may}
use Rattle.mgs_model.specs.Seen.{Attributes}
use Rattle.mgs_model.specs.declared.right.Right.TheVariants.{ReadAttributes}
use Rattle.mgs_buffers.specs.MarkedBuffer.{MarkedBuffer}
use Rattle.mgs_buffers.specs.declared.list_row.Attributes as declared

-- its attributes, as the model has them
abbrev pub attributes_read : declared.Attributes → Attributes
attributes_read a = record { name = a.name; modified = a.modified; size = a.size; owners = a.owners }

-- they are told to those to whom READ_ATTRIBUTES is granted
abbrev pub attributes_to : Directory → List ℕ → Buffer → Option Attributes
attributes_to directory user b =
    if may directory user ReadAttributes b then Some (record { name = b.name; modified = b.modified; size = length b.text; owners = b.owners }) else None

abbrev pub attributes_found : Directory → List ℕ → Option MarkedBuffer → Option Attributes
attributes_found directory user None = None
attributes_found directory user (Some k) = attributes_to directory user k.buffer
