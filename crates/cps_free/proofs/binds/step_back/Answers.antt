use Rattle.std.proofs.Common.{[], ◌∷◌, map, sym, subst, OnOk}
use Rattle.sml_tree.specs.Sets.{union, union_over, without, row_at}
use Rattle.cps_ir.specs.Free.{vars, vars_all}
use Rattle.cps_free.specs.Same.{AreSame}
use Rattle.cps_free.specs.Rows.{function_free, bind_free}
use Rattle.cps_free.proofs.Steps.{then_union, union_same, without_same, same_trans}
use Rattle.cps_free.proofs.binds.step_back.Goals as goal

pub returns-in-Make : goal.returns-in-Make
returns-in-Make c =
    subst (λ b. OnOk c.use_atoms.result (AreSame c.use_atoms.new.set.keys (bind_free (row_at c.args.frees.now) b c.args.set.now.keys))) (sym c.in-Make.is)
    (then_union c.use_atoms.result (vars_all c.in-Make.atoms) c.remove.new.set.keys c.use_atoms.new.set.keys (union (vars_all c.in-Make.atoms) (without c.args.set.now.keys (c.in-Make.var ∷ [])))
    (union_same (vars_all c.in-Make.atoms) c.remove.new.set.keys (without c.args.set.now.keys (c.in-Make.var ∷ [])) c.remove.ensures)
    (subst (λ atoms. OnOk c.use_atoms.result (AreSame c.use_atoms.new.set.keys (union (vars_all atoms) c.remove.new.set.keys))) c.items.ensures c.use_atoms.ensures))

pub returns-in-Pick : goal.returns-in-Pick
returns-in-Pick c =
    subst (λ b. OnOk c.use_atom.result (AreSame c.use_atom.new.set.keys (bind_free (row_at c.args.frees.now) b c.args.set.now.keys))) (sym c.in-Pick.is)
    (then_union c.use_atom.result (vars c.in-Pick.of) c.remove-in-Pick.new.set.keys c.use_atom.new.set.keys (union (vars c.in-Pick.of) (without c.args.set.now.keys (c.in-Pick.var ∷ [])))
    (union_same (vars c.in-Pick.of) c.remove-in-Pick.new.set.keys (without c.args.set.now.keys (c.in-Pick.var ∷ [])) c.remove-in-Pick.ensures)
    c.use_atom.ensures)

pub returns-in-Prim : goal.returns-in-Prim
returns-in-Prim c =
    subst (λ b. OnOk c.use_atoms-in-Prim.result (AreSame c.use_atoms-in-Prim.new.set.keys (bind_free (row_at c.args.frees.now) b c.args.set.now.keys))) (sym c.in-Prim.is)
    (then_union c.use_atoms-in-Prim.result (vars_all c.in-Prim.atoms) c.remove-in-Prim.new.set.keys c.use_atoms-in-Prim.new.set.keys (union (vars_all c.in-Prim.atoms) (without c.args.set.now.keys (c.in-Prim.var ∷ [])))
    (union_same (vars_all c.in-Prim.atoms) c.remove-in-Prim.new.set.keys (without c.args.set.now.keys (c.in-Prim.var ∷ [])) c.remove-in-Prim.ensures)
    (subst (λ atoms. OnOk c.use_atoms-in-Prim.result (AreSame c.use_atoms-in-Prim.new.set.keys (union (vars_all atoms) c.remove-in-Prim.new.set.keys))) c.items-in-Prim.ensures c.use_atoms-in-Prim.ensures))

pub returns-in_ok-use_functions-in-Fix : goal.returns-in_ok-use_functions-in-Fix
returns-in_ok-use_functions-in-Fix c =
    let F = function_free (row_at c.args.frees.now) in
    let put : AreSame c.use_functions.new.set.keys (union (union_over F c.in-Fix.functions) c.args.set.now.keys) =
    subst (λ fs. AreSame c.use_functions.new.set.keys (union (union_over F fs) c.args.set.now.keys)) c.items-in-Fix.ensures c.in_ok-use_functions-in-Fix.ensures in
    subst (λ b. AreSame c.remove_names.new.set.keys (bind_free (row_at c.args.frees.now) b c.args.set.now.keys)) (sym c.in-Fix.is)
    (same_trans c.remove_names.new.set.keys (without c.use_functions.new.set.keys (map (λ f. f.name) c.in-Fix.functions)) (without (union (union_over F c.in-Fix.functions) c.args.set.now.keys) (map (λ f. f.name) c.in-Fix.functions))
    (subst (λ fs. AreSame c.remove_names.new.set.keys (without c.use_functions.new.set.keys (map (λ f. f.name) fs))) c.items-in-Fix-2.ensures c.remove_names.ensures)
    (without_same c.use_functions.new.set.keys (union (union_over F c.in-Fix.functions) c.args.set.now.keys) (map (λ f. f.name) c.in-Fix.functions) put))
