-- The code's table of kinds, row by row.
use Rattle.std.specs.Prelude.{length}
use Rattle.rules.specs.Event.{Kind}
use Rattle.text.specs.declared.Shape.{Shape}

unfoldable pub shape_of : Kind → Shape
shape_of f = record { len = length f.word; numbers = f.numbers; payload = f.payload }
