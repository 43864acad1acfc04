use Rattle.routine_laws.proofs.Indexing.{sizes, indexes, raises}
use Rattle.routine_laws.proofs.strings_are_read.Goals as goal

pub returns-clause-size : goal.returns-clause-size
returns-clause-size c I laid near bs x top ret p a s code clear r = sizes I laid near bs x top ret p a s code clear r

pub returns-clause-index : goal.returns-clause-index
returns-clause-index c I laid near bs x top ret p a s subscript code clear i e l r = indexes I laid near bs x top ret p a s subscript code clear i e l r

pub returns-clause-outside : goal.returns-clause-outside
returns-clause-outside c I laid near bs x top ret p a s subscript code clear v e l o sc = raises I laid near bs x top ret p a s subscript code clear v e l o sc
