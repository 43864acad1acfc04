use Rattle.std.proofs.Common.{◌≡◌, List, true, sym, ◌∙◌, subst}
use Rattle.sml_tree.specs.declared.bare.Con.{Con}
use Rattle.sml_types.specs.declared.tables.TypeName.{TypeName}
use Rattle.sml_types.specs.Library.{name_types, library_exn}
use Rattle.sml_types.specs.Tree.{inst}
use Rattle.infer_state.specs.Rules.{IsDataAt}
use Rattle.infer_nodes.specs.Posed.{IsMade, IsMadeWith}
use Rattle.infer_nodes.specs.Asked.{ConAt}
use Rattle.infer_nodes.proofs.Posing.{made_as, made_fixed}
use Rattle.infer_nodes.proofs.Ruled.{library_closed}
use Rattle.infer_nodes.proofs.Constructed.{made_alone}
use Rattle.infer_nodes.proofs.constructor.con_type.Goals as goal

pub returns-in_ok-made-in-Data : goal.returns-in_ok-made-in-Data
returns-in_ok-made-in-Data c =
    subst
    (λ (k : Con). IsMadeWith c.args.declared.now.tables.names (λ f u. ConAt c.args.bare.now c.args.types.now c.args.declared.now.tables.names f k u) c.args.next.now c.args.types.now c.data_type.new.next c.data_type.new.types c.args.pairs.now c.in_ok-made-in-Data.made)
    (sym c.in-Data.is)
    (made_alone c.args.declared.now.tables.names (λ f u. IsDataAt (name_types c.args.types.now c.args.declared.now.tables.names) c.args.declared.now.tables.names c.in-Data.type_name c.in-Data.number c.in-Data.takes u) c.args.next.now c.args.types.now c.data_type.new.next c.data_type.new.types c.args.pairs.now c.in_ok-made-in-Data.made c.requires.empty
    (subst (λ (ns : List TypeName). IsMade ns (λ f u. IsDataAt (name_types c.args.types.now ns) ns c.in-Data.type_name c.in-Data.number c.in-Data.takes u) c.args.next.now c.args.types.now c.data_type.new.next c.data_type.new.types c.in_ok-made-in-Data.made) c.items-names.ensures c.in_ok-made-in-Data.ensures))

pub returns-in_ok-made-in-Ref : goal.returns-in_ok-made-in-Ref
returns-in_ok-made-in-Ref c =
    subst
    (λ (k : Con). IsMadeWith c.args.declared.now.tables.names (λ f u. ConAt c.args.bare.now c.args.types.now c.args.declared.now.tables.names f k u) c.args.next.now c.args.types.now c.data_type-in-Ref.new.next c.data_type-in-Ref.new.types c.args.pairs.now c.in_ok-made-in-Ref.made)
    (sym c.in-Ref.is)
    (made_alone c.args.declared.now.tables.names (λ f u. IsDataAt (name_types c.args.types.now c.args.declared.now.tables.names) c.args.declared.now.tables.names 8 0 true u) c.args.next.now c.args.types.now c.data_type-in-Ref.new.next c.data_type-in-Ref.new.types c.args.pairs.now c.in_ok-made-in-Ref.made c.requires.empty
    (subst (λ (ns : List TypeName). IsMade ns (λ f u. IsDataAt (name_types c.args.types.now ns) ns 8 0 true u) c.args.next.now c.args.types.now c.data_type-in-Ref.new.next c.data_type-in-Ref.new.types c.in_ok-made-in-Ref.made) c.items-names-in-Ref.ensures c.in_ok-made-in-Ref.ensures))

pub returns-in_ok-made-in-Library : goal.returns-in_ok-made-in-Library
returns-in_ok-made-in-Library c =
    subst
    (λ (k : Con). IsMadeWith c.args.declared.now.tables.names (λ f u. ConAt c.args.bare.now c.args.types.now c.args.declared.now.tables.names f k u) c.args.next.now c.args.types.now c.args.next.now c.library_type.new.types c.args.pairs.now c.in_ok-made-in-Library.made)
    (sym c.in-Library.is)
    (made_alone c.args.declared.now.tables.names (λ f u. u ≡ library_exn c.in-Library.exn) c.args.next.now c.args.types.now c.args.next.now c.library_type.new.types c.args.pairs.now c.in_ok-made-in-Library.made c.requires.empty
    (made_as c.args.declared.now.tables.names (λ f u. u ≡ inst f (library_exn c.in-Library.exn)) (λ f u. u ≡ library_exn c.in-Library.exn) c.args.next.now c.args.types.now c.args.next.now c.library_type.new.types c.in_ok-made-in-Library.made (λ f u e. e ∙ library_closed c.in-Library.exn f) (λ f u e. e ∙ sym (library_closed c.in-Library.exn f)) (made_fixed c.args.declared.now.tables.names (library_exn c.in-Library.exn) c.args.next.now c.args.types.now c.library_type.new.types c.in_ok-made-in-Library.made c.requires.below c.in_ok-made-in-Library.ensures)))

pub returns-in_ok-made-in-Exn : goal.returns-in_ok-made-in-Exn
returns-in_ok-made-in-Exn c =
    subst
    (λ (k : Con). IsMadeWith c.args.declared.now.tables.names (λ f u. ConAt c.args.bare.now c.args.types.now c.args.declared.now.tables.names f k u) c.args.next.now c.args.types.now c.exn_con.new.next c.exn_con.new.types c.exn_con.new.pairs c.in_ok-made-in-Exn.made)
    (sym c.in-Exn.is)
    (c.in_ok-made-in-Exn.ensures c.args.declared.now.tables.names)
