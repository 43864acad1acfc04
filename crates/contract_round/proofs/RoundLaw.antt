-- Rounds as a function are rounds.
use Rattle.std.proofs.Common.{◌≡◌, ℕ, zero, suc, ◌≤◌, List, [], ◌∷◌, Bool, true, false, cond, refl, subst, arith, nat_lt}
use Rattle.smlc_base.specs.declared.point.Point.{Point}
use Rattle.simulation.specs.Runs.{times}
use Rattle.cps_ir.specs.Code.{Code}
use Rattle.cps_ir.specs.Free.{free_code, bound, labels}
use Rattle.contract_laws.specs.Contract.{Rounds, done, round, Contracts, start}
use Rattle.contract_laws.specs.Redex.{nodes}
use Rattle.contract_laws.specs.Weigh.{weigh, of_name, of_point}
use Rattle.contract_laws.proofs.Count.{weigh_times}
use Rattle.contract_laws.proofs.Free.{In, free_of, in_head}
use Rattle.contract_laws.proofs.Linear.{owed_free}
use Rattle.contract_laws.proofs.Rounds.{rounds_keep}
use Rattle.contract_round.specs.Round as definition
use Rattle.contract_round.specs.Round.{outset}
use Rattle.contract_round.specs.Law.{IsWhole, SlimIsWhole, ContractedByRounds, ContractedKeeps}
use Rattle.contract_round.proofs.Agrees.{nobody_pays}
use Rattle.contract_round.proofs.Walked.{Walked, Hidden}
use Rattle.contract_round.proofs.Walks.{Knows, walks}
use Rattle.contract_round.proofs.Counts.{bound_weigh, distinct_weighs, weighs_distinct, hidden_all, no_eq, eq_none, walk_no_eq}

nothing_in : (xs : List ℕ) → ((x : ℕ) → In x xs → ⊥) → xs ≡ []
nothing_in [] n = refl
nothing_in (x ∷ xs) n = absurd (n x (in_head x x xs refl))

module _ (texts : List (List ℕ)) (c : Code) (w : IsWhole c) where
  once : (x : ℕ) → weigh (of_name x) c ≤ 1
  once x = let h = distinct_weighs (bound c) w.once x in let e = bound_weigh x c in omega arith

  knows : Knows texts outset start nobody_pays c
  knows = record {
    names = λ x i n. absurd (let j : In x [] = subst (λ t. In x t) w.closed i in cc);
    blocks = λ z t e. absurd (cc);
    bodies = λ f i n e. absurd (cc);
  }

  pub walked : Walked texts start nobody_pays c (definition.round texts c)
  walked = walks texts c outset start nobody_pays knows (λ x. let h = once x in omega arith) (no_eq c w.functions)

  abbrev d : Code
  d = definition.round texts c

  pub fewer_points : (p : Point) → times p (labels d) ≤ times p (labels c)
  fewer_points p = let h = walked.weighs (of_point p) in let e = weigh_times p c in let g = weigh_times p d in let o = owed_free c in omega arith

  hidden : Hidden (labels d) walked.gone
  hidden = hidden_all (labels d) walked.gone walked.fine (λ p n. let h = walked.weighs (of_point p) in let e = weigh_times p c in let g = weigh_times p d in let o = owed_free c in let k = w.points p n in omega arith)

  pub one_round : Contracts texts (labels d) walked.least start c d
  one_round = walked.stands (labels d) hidden walked.least (omega arith)

  pub round_whole : IsWhole d
  round_whole = record {
    closed = nothing_in (free_code d) (λ x i. free_of texts (labels d) walked.least start c d one_round (λ y. ⊥) (record { names = λ x y i e. absurd (cc); blocks = λ z t e. absurd (cc); bodies = λ f b i e. absurd (cc) }) x i);
    once = weighs_distinct (bound d) (λ x. let h = walked.weighs (of_name x) in let e = bound_weigh x d in let k = once x in let o = owed_free c in omega arith);
    points = λ p n. let h = fewer_points p in let k = w.points p n in omega arith;
    functions = eq_none d (walk_no_eq texts c outset (no_eq c w.functions) (λ f i e. absurd (cc)));
  }

rounds_are : (texts : List (List ℕ)) (n : ℕ) (c : Code) → IsWhole c → Rounds texts c (definition.rounds texts n c) × IsWhole (definition.rounds texts n c)
rounds_are texts zero c w = (done c, w)
rounds_are texts (suc n) c w = by (nat_lt (nodes (definition.round texts c)) (nodes c)) (rounds_are texts n (definition.round texts c) (round_whole texts c w))
  where
    next : Code
    next = definition.round texts c

    by : (a : Bool) → (Rounds texts next (definition.rounds texts n next) × IsWhole (definition.rounds texts n next)) → (Rounds texts c (cond a (definition.rounds texts n next) next) × IsWhole (cond a (definition.rounds texts n next) next))
    by true r = (round (walked texts c w).least c next (definition.rounds texts n next) (one_round texts c w) (fewer_points texts c w) r.0, r.1)
    by false r = (round (walked texts c w).least c next next (one_round texts c w) (fewer_points texts c w) (done next), round_whole texts c w)

pub contracted_by_rounds : ContractedByRounds
contracted_by_rounds texts c w = rounds_are texts (nodes c) c w

pub contracted_keeps : ContractedKeeps
contracted_keeps q w input = let r = contracted_by_rounds q.texts q.code w in rounds_keep q q.code (definition.contracted q.texts q.code) r.0 input

pub slim_is_whole : SlimIsWhole
slim_is_whole q p s = record { closed = p.closed; once = p.once; points = s.once; functions = s.functions }
