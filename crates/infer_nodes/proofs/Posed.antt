-- What posing the rule of a node leaves behind.
use Rattle.std.proofs.Common.{◌≡◌, ℕ, zero, suc, ◌<◌, List, [], ◌∷◌, length, Option, Some, None, refl, sym, ap, ◌∙◌, subst, Result, Ok, Err, IfOk, get_or}
use Rattle.std.specs.Prelude.{slice_get}
use Rattle.sml_tree.specs.declared.bare.Bare.{Bare}
use Rattle.sml_tree.specs.declared.bare.Node.{Node}
use Rattle.sml_types.specs.declared.types.TyForm.{TyForm}
use Rattle.sml_types.specs.Poly.{Poly}
use Rattle.sml_unify.specs.declared.pair.Pair.{Pair}
use Rattle.sml_unify.specs.Solved.{ArePairs}
use Rattle.infer_state.specs.declared.declared.Declared.{Declared}
use Rattle.infer_state.specs.declared.settled.Settled.{Settled}
use Rattle.infer_state.specs.declared.failure.Failure.{Failure}
use Rattle.infer_state.specs.Typings.{abbreviation_at}
use Rattle.infer_parts.proofs.CopySteps.{some_eq}
use Rattle.infer_nodes.specs.Posed.{AreAdded}
use Rattle.infer_nodes.specs.Asked.{PosesRule}

pub rule_grown : (p : Bare) (d : Declared) (settled : List (Option Settled)) (i : ℕ) (n : Node) (next : ℕ) (forms : List TyForm) (next2 : ℕ) (forms2 : List TyForm) (r : Result (List Pair) Failure) → PosesRule p d settled i n next forms next2 forms2 r → IfOk r (λ pairs. AreAdded next forms next2 forms2 × ArePairs forms2 pairs)
rule_grown p d settled i n next forms next2 forms2 (Err e) h = tt
rule_grown p d settled i n next forms next2 forms2 (Ok ps) h =
    let abbreviations : ℕ → Poly = λ k. abbreviation_at forms (slice_get d.abbreviations k) in
    let posed = h abbreviations (λ k s e. ap (abbreviation_at forms) e) in (posed.added, posed.there)

pub same_node : (p : Bare) (d : Declared) (settled : List (Option Settled)) (i : ℕ) (nodes : List Node) (n m : Node) (next : ℕ) (forms : List TyForm) (next2 : ℕ) (forms2 : List TyForm) (r : Result (List Pair) Failure) → slice_get nodes i ≡ Some m → nodes ≡ p.nodes → slice_get p.nodes i ≡ Some n → PosesRule p d settled i m next forms next2 forms2 r → PosesRule p d settled i n next forms next2 forms2 r
same_node p d settled i nodes n m next forms next2 forms2 r here e q h =
    let one : m ≡ n = some_eq m n (sym here ∙ ap (λ (ns : List Node). slice_get ns i) e ∙ q) in
    subst (λ x. PosesRule p d settled i x next forms next2 forms2 r) one h
