-- Two machines that show the same memory and roots: what a simulation owes follows, if the argument's records are in order.
use Rattle.std.proofs.Common.{◌≡◌, ℕ, List, Some, None, true, false, sym, ap, ◌∙◌, subst, subst₂}
use Rattle.smlc_base.specs.declared.point.Point.{Point}
use Rattle.simulation.specs.Blocks.{Reach, Embeds}
use Rattle.simulation.specs.Runs.{visible}
use Rattle.smlc_base.specs.Points.{is_label}
use Rattle.simulation.specs.Keeps.{AllNamed, NamesAtOnce, HasTidyReach, IsTidy}
use Rattle.simulation.specs.Machines.{Machine, state_at, pass_of, run_from}
use Rattle.simulation.proofs.Blocks.{embeds_id}
use Rattle.simulation.proofs.Seen.{visible_some, visible_label, visible_of}
use Rattle.simulation.proofs.Machines.{Makes, Reaches, Ending}
use Rattle.simulation.proofs.Forward.{Shows, Enters}

module _ {S T : Type 0} (A : Machine S) (B : Machine T) (s : S) (t : T) where
  pub makes_same : B.memory t ≡ A.memory s → Makes A s B t
  makes_same e = (λ a. a, subst (λ m. Embeds m (λ _. Unit {0}) (A.memory s) (λ _. Unit {0}) (λ a. a)) (sym e) (embeds_id (A.memory s) (λ _. Unit {0})))

  pub reaches_same : B.memory t ≡ A.memory s → B.roots t ≡ A.roots s → Reaches A s B t
  reaches_same e r = (
    λ a. a,
    subst₂ (λ m rs. Embeds m (Reach m rs) (A.memory s) (Reach (A.memory s) (A.roots s)) (λ a. a)) (sym e) (sym r) (embeds_id (A.memory s) (Reach (A.memory s) (A.roots s))),
  )

  pub shows_same : B.out t ≡ A.out s → B.memory t ≡ A.memory s → AllNamed (A.memory s) → Shows A B s t
  shows_same o e n = record { out = o; made = makes_same e; named = subst AllNamed (sym e) n }

  pub enters_same : B.memory t ≡ A.memory s → B.roots t ≡ A.roots s → HasTidyReach (A.memory s) (A.roots s) → Enters A B s t
  enters_same e r h = record { reaches = reaches_same e r; tidy = subst₂ HasTidyReach (sym e) (sym r) h }

  pub ends_same : A.step s ≡ None → B.step t ≡ None → B.end t ≡ A.end s → B.out t ≡ A.out s → B.memory t ≡ A.memory s → AllNamed (A.memory s) → Ending A B s t
  ends_same e f k o m n = record { end_a = e; end_b = f; same = k; out = o; made = makes_same m; named = subst AllNamed (sym m) n }

-- the records of a state are in order, and what it reaches where it passes one of these points
pub record IsTidyState {S : Type 0} (A : Machine S) (labels : List Point) (s : S) : Type 0 where
  pub named : AllNamed (A.memory s)
  pub reach : (next : S) (p : Point) → A.step s ≡ Some next → visible labels (A.pass s) ≡ Some p → HasTidyReach (A.memory s) (A.roots s)

-- so it is at each state of a tidy run whose class records are named as soon as they are made
pub tidy_known : {S : Type 0} (A : Machine S) (la lb : List Point) (s : S) → ((p : Point) → is_label lb p ≡ true → is_label la p ≡ true) → NamesAtOnce (run_from A la s) → IsTidy false (run_from A la s) → (n : ℕ) → IsTidyState A lb (state_at A s n)
tidy_known A la lb s fewer named tidy n = record {
  named = named n;
  reach = λ next p e v.
      let t = state_at A s n in
      let pass : A.pass t ≡ Some p = visible_some lb (A.pass t) p v in
      tidy.reach n p (ap (λ o. visible la (pass_of o (A.pass t))) e ∙ visible_of la (A.pass t) p pass (fewer p (visible_label lb (A.pass t) p v)));
}
