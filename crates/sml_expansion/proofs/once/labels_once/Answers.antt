use Rattle.std.proofs.Common.{rules, ◌≡◌, OnOk, map, subst}
use Rattle.sml_expansion.specs.Makings.{Runs, breaks}
use Rattle.sml_expansion.specs.Types.{labs_of}
use Rattle.sml_expansion.specs.Fields.{slot_placed}
use Rattle.sml_expansion.proofs.FieldLemmas.{doubles_by_slots}
use Rattle.sml_expansion.proofs.once.labels_once.Goals as goal

pub returns : goal.returns
returns c =
    let keys : c.deref.result.now ≡ map (slot_placed (labs_of c.args.labs.now)) c.args.labs.now = search rules in
    subst (λ d. OnOk c.keys_once.result (Runs (breaks d) c.args.made.now tt c.keys_once.new.made)) (doubles_by_slots c.args.labs.now c.deref.result.now keys) c.keys_once.ensures
