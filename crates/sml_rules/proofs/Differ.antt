-- Why exception constructors of patterns have to stand for exception names: a tree that comes from no text, with types that fit, in which one stands
-- for a packet. The machine takes a packet for itself, and the rules can't tell packets apart.
use Rattle.std.proofs.Common.{◌≡◌, ℕ, List, [], ◌∷◌, refl, false}
use Rattle.std.specs.Prelude.{codes}
use Rattle.smlc_base.specs.declared.primitive.Primitive.TheVariants as prim
use Rattle.sml_tree.specs.declared.bare.Bare.{Bare}
use Rattle.sml_tree.specs.declared.bare.Node.{Node}
use Rattle.sml_tree.specs.declared.bare.Node.TheVariants as node
use Rattle.sml_tree.specs.declared.bare.Con.TheVariants as con
use Rattle.smlc_base.specs.declared.exception.LibraryExn.TheVariants as exn
use Rattle.simulation.specs.Runs.{End}
use Rattle.simulation.specs.Runs as runs
use Rattle.sml_def.specs.State.{Normal}
use Rattle.sml_def.specs.Run.{run}
use Rattle.sml_rules.specs.Rules.{Outcome, Ends, end_within, output_within}

abbrev with_nodes : List Node → List (List ℕ) → List (List ℕ) → Bare
with_nodes nodes names texts = record {
  nodes = nodes;
  places = [];
  decs = [];
  shown = [];
  types = [];
  tyvars = [];
  names = names;
  texts = texts;
  width = 0;
}

abbrev machine_told : Bare → ℕ → List ℕ × End
machine_told p n = ((run p []).out n, (run p []).end n)

abbrev rules_told : Bare → ℕ → List ℕ × Outcome
rules_told p d = (output_within p [] d, end_within p [] d)

-- val x = Fail "t"
-- val _ = print (case x of x => "t" | _ => "f"), where the pattern x is the variable as an exception constructor
abbrev packet_cited : Bare
packet_cited =
    with_nodes (node.Let 1 6 ∷ node.Val [] ((record { pat = 2; right = 3 }) ∷ []) ∷ node.PatVar (record { 0 = 0 }) ∷ node.App 4 5 ∷ node.Constructor (con.Library exn.FailExn) ∷ node.Text 0 ∷ node.Let 7 17 ∷ node.Val [] ((record { pat = 8; right = 9 }) ∷ []) ∷ node.Wild ∷ node.App 10 11 ∷ node.Builtin prim.Print ∷ node.Case 12 ((record { pat = 13; body = 14 }) ∷ (record { pat = 15; body = 16 }) ∷ []) ∷ node.Var (record { 0 = 0 }) ∷ node.PatCon (con.Exn (record { 0 = 0 }) false) ∷ node.Text 0 ∷ node.Wild ∷ node.Text 1 ∷ node.Finish ∷ []) (codes "x" ∷ []) (codes "t" ∷ codes "f" ∷ [])

packet_by_machine : machine_told packet_cited 60 ≡ (codes "t", runs.Normal)
packet_by_machine = refl

packet_by_rules : rules_told packet_cited 20 ≡ (codes "f", Ends Normal)
packet_by_rules = refl
