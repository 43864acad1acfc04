-- The program of `Lambda` that a bare tree with these tables becomes: term by term, with the same numbers.
use Rattle.std.specs.Prelude.{List, map}
use Rattle.sml_tree.specs.declared.bare.Bare.{Bare}
use Rattle.sml_tree.specs.declared.bare.Node.{Node}
use Rattle.sml_tree.specs.declared.bare.Node.TheVariants as node
use Rattle.sml_tree.specs.declared.bare.Field.{Field}
use Rattle.sml_types.specs.declared.tables.TypeName.{TypeName}
use Rattle.sml_def.specs.Sites.{sites}
use Rattle.lambda_ir.specs.declared.term.Part.{Part}
use Rattle.lambda_ir.specs.declared.term.Term.{Term}
use Rattle.lambda_ir.specs.declared.term.Term.TheVariants as term
use Rattle.lambda_ir.specs.Program.{Lambda}
use Rattle.match_laws.specs.Compile.{cases_of, bind_of}

abbrev pub part_of : Field → Part
part_of f = record { slot = f.slot; node = f.node }

abbrev pub term_of : List TypeName → List Node → Node → Term
term_of ts nodes (node.Int n) = term.Int n
term_of ts nodes (node.Char c) = term.Char c
term_of ts nodes (node.Text t) = term.Text t
term_of ts nodes (node.Var x) = term.Var x
term_of ts nodes (node.Constructor c) = term.Constructor c
term_of ts nodes (node.Builtin f) = term.Builtin f
term_of ts nodes (node.Record fields) = term.Tuple (map part_of fields)
term_of ts nodes (node.App f a) = term.App f a
term_of ts nodes (node.Case e rules) = term.Match e (cases_of ts nodes rules)
term_of ts nodes (node.Fn rules) = term.Fn (cases_of ts nodes rules)
term_of ts nodes (node.Raise e) = term.Raise e
term_of ts nodes (node.Handle e rules) = term.Handle e (cases_of ts nodes rules)
term_of ts nodes (node.Typed e ty) = term.Same e
term_of ts nodes (node.Let d e) = term.Let d e
term_of ts nodes node.Finish = term.Finish
term_of ts nodes (node.Val tyvars bindings) = term.Binds (map (bind_of ts nodes) bindings)
term_of ts nodes (node.ValRec tyvars bindings) = term.Group bindings
term_of ts nodes (node.Type bindings) = term.Nothing
term_of ts nodes (node.Datatype bindings) = term.Nothing
term_of ts nodes (node.Exception x ty) = term.NewExn x
term_of ts nodes (node.SameException x c) = term.SameExn x c
-- no typed program has one
term_of ts nodes (node.NoException x) = term.NewExn x
term_of ts nodes _ = term.Gone

abbrev pub terms_of : List TypeName → Bare → List Term
terms_of ts p = map (term_of ts p.nodes) p.nodes

abbrev pub lambda_of : List TypeName → Bare → Lambda
lambda_of ts p = record { terms = terms_of ts p; sites = sites p; texts = p.texts; exns = p.names }
