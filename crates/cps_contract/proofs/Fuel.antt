-- Rounds as long as the body gets smaller, one after another.
use Rattle.std.proofs.Common.{◌≡◌, ℕ, zero, suc, ◌≤◌, ◌<◌, List, Bool, true, false, cond, nat_lt, refl, sym, ap, ◌∙◌, subst, arith}
use Rattle.cps_ir.specs.Code.{Code, Make, Pick, Prim, Equal, Fix, Call, Match, Handler, SetHandler, Throw, Halt, Tree}
use Rattle.contract_laws.specs.Law.{with_code}
use Rattle.contract_laws.specs.Redex.{nodes}
use Rattle.contract_round.specs.Round.{round, rounds, contracted}
use Rattle.contract_round.specs.Law.{IsWhole}
use Rattle.contract_round.proofs.RoundLaw.{round_whole}

nodes_some : (c : Code) → 1 ≤ nodes c
nodes_some (Make x s us c) = omega arith
nodes_some (Pick x i a c) = omega arith
nodes_some (Prim x f us c) = omega arith
nodes_some (Equal a b t k) = omega arith
nodes_some (Fix fs c) = omega arith
nodes_some (Call a us) = omega arith
nodes_some (Match a rules) = omega arith
nodes_some (Handler x c) = omega arith
nodes_some (SetHandler a c) = omega arith
nodes_some (Throw a) = omega arith
nodes_some Halt = omega arith

module _ (texts : List (List ℕ)) where
  smaller_is : (c d : Code) → nodes d < nodes c → nat_lt (nodes d) (nodes c) ≡ true
  smaller_is c d h = grind arith

  not_smaller : (c d : Code) → nodes c ≤ nodes d → nat_lt (nodes d) (nodes c) ≡ false
  not_smaller c d h = grind arith

  -- as many rounds as there are nodes are enough
  enough : (n m : ℕ) (c : Code) → nodes c ≤ n → nodes c ≤ m → rounds texts n c ≡ rounds texts m c
  enough zero m c h g = let s = nodes_some c in absurd (omega arith)
  enough (suc n) zero c h g = let s = nodes_some c in absurd (omega arith)
  enough (suc n) (suc m) c h g = by (nat_lt (nodes (round texts c)) (nodes c)) refl (λ k l. enough n m (round texts c) k l)
    where
      by : (b : Bool) → nat_lt (nodes (round texts c)) (nodes c) ≡ b → (nodes (round texts c) ≤ n → nodes (round texts c) ≤ m → rounds texts n (round texts c) ≡ rounds texts m (round texts c)) → cond b (rounds texts n (round texts c)) (round texts c) ≡ cond b (rounds texts m (round texts c)) (round texts c)
      by true e f = let l : nodes (round texts c) < nodes c = grind arith in f (omega arith) (omega arith)
      by false e f = refl

  one_more : (c : Code) → contracted texts c ≡ cond (nat_lt (nodes (round texts c)) (nodes c)) (rounds texts (nodes c) (round texts c)) (round texts c)
  one_more c = enough (nodes c) (suc (nodes c)) c (omega arith) (omega arith)

  code_goes_on : (c : Code) → nodes (round texts c) < nodes c → contracted texts c ≡ contracted texts (round texts c)
  code_goes_on c h =
      one_more c
      ∙ ap (λ b. cond b (rounds texts (nodes c) (round texts c)) (round texts c)) (smaller_is c (round texts c) h)
      ∙ enough (nodes c) (nodes (round texts c)) (round texts c) (omega arith) (omega arith)

  code_ends : (c : Code) → nodes c ≤ nodes (round texts c) → contracted texts c ≡ round texts c
  code_ends c h = one_more c ∙ ap (λ b. cond b (rounds texts (nodes c) (round texts c)) (round texts c)) (not_smaller c (round texts c) h)

-- ---- Trees

abbrev pub contracted_tree : Tree → Tree
contracted_tree t = with_code t (contracted t.texts t.code)

abbrev round_tree : Tree → Tree
round_tree t = with_code t (round t.texts t.code)

pub tree_goes_on : (t n : Tree) → n ≡ with_code t (round t.texts t.code) → nodes n.code < nodes t.code → contracted_tree n ≡ contracted_tree t
tree_goes_on t n e h = ap contracted_tree e ∙ ap (with_code t) (sym (code_goes_on t.texts t.code (subst (λ m. nodes m.code < nodes t.code) e h)))

pub tree_ends : (t n : Tree) → n ≡ with_code t (round t.texts t.code) → nodes t.code ≤ nodes n.code → n ≡ contracted_tree t
tree_ends t n e h = e ∙ ap (with_code t) (sym (code_ends t.texts t.code (subst (λ m. nodes t.code ≤ nodes m.code) e h)))

pub tree_whole : (t n : Tree) → n ≡ with_code t (round t.texts t.code) → IsWhole t.code → IsWhole n.code
tree_whole t n e w = subst (λ m. IsWhole m.code) (sym e) (round_whole t.texts t.code w)
