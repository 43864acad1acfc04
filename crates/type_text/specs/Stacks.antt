-- Pieces as tasks.
use Rattle.type_text.specs.declared.work.Piece.{Piece}
use Rattle.type_text.specs.declared.work.Piece.TheVariants as piece
use Rattle.type_text.specs.Tasks.{Task, ShowType, ShowTuple, ShowRecord, ShowArguments, ShowLabel, ShowBytes}

abbrev pub task_of : Piece → Task
task_of (piece.Type ty level) = ShowType ty.0 level
task_of (piece.Tuple fields) = ShowTuple fields.now
task_of (piece.Record fields) = ShowRecord fields.now
task_of (piece.Arguments args) = ShowArguments args.now
task_of (piece.Label lab) = ShowLabel lab.now
task_of (piece.Bytes text) = ShowBytes text.now
