use Rattle.std.proofs.Common.{◌∙◌, ap, length}
use Rattle.infer_tables.proofs.StartFacts.{started}
use Rattle.infer_tables.proofs.starts.start.Goals as goal

pub returns : goal.returns
returns c =
    started c.args.bare.now c.in_ok-param.param c.in_ok-nodes.nodes c.in_ok-names.names c.in_ok-first_node.first_node c.in_ok-first_name.first_name c.in_ok-next.next c.in_ok-explicit.explicit c.in_ok-node_forms.node_forms c.in_ok-name_forms.name_forms c.in_ok-library.library.types c.add_explicit.new.types c.add_variables.new.types c.add_variables-2.new.types c.in_ok-library.library.tables c.new.result c.in_ok-stands.stands
    (c.in_ok-param.ensures ∙ c.len.ensures)
    (c.in_ok-nodes.ensures ∙ c.len-2.ensures)
    (c.in_ok-names.ensures ∙ c.len-3.ensures)
    c.in_ok-first_node.ensures.is
    c.in_ok-first_name.ensures.is
    c.in_ok-next.ensures.is
    c.in_ok-library.ensures.forms
    c.in_ok-library.ensures.rows
    c.new.ensures
    (c.in_ok-explicit.ensures ∙ ap length c.forms.ensures.forms)
    c.in_ok-sum.ensures.few
    c.in_ok-stands.ensures.row
    c.in_ok-stands.ensures.count
    c.in_ok-stands.ensures.forms
    c.in_ok-stands.ensures.longer
    c.in_ok-stands.ensures.marked
    c.in_ok-node_forms.ensures.added
    c.in_ok-node_forms.ensures.few
    c.in_ok-name_forms.ensures.added
    c.in_ok-name_forms.ensures.few
