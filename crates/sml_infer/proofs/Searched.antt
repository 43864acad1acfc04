-- What a run says of the first declarations.
use Rattle.std.proofs.Common.{◌≡◌, ◌<◌, ◌≤◌, ℕ, suc, List, [], ◌∷◌, Result, Ok, IfOk, length, refl, sym, subst, ◌∙◌, arith}
use Rattle.std.specs.Prelude.{get_or}
use Rattle.sml_tree.specs.declared.bare.Bare.{Bare}
use Rattle.infer_state.specs.declared.failure.Failure.{Failure}
use Rattle.sml_types.specs.Typing.{Typing, IsTypingBelow, end_of, HasTyping, IsBadDeclaration}
use Rattle.sml_infer.specs.declared.below.Below.{Below}
use Rattle.sml_infer.specs.Going.{now}
use Rattle.sml_infer.specs.Below.{IsBelow, typing_below}
use Rattle.sml_infer.specs.Search.{HasNoTyping}
use Rattle.sml_infer.proofs.Ended.{ended_types}

-- what was inferred is a typing
has_one : (p : Bare) (k count : ℕ) (b : Below) → IsBelow p count b → count ≡ end_of p k → HasTyping p k
has_one p k count b h e =
    (typing_below p b, subst (λ (n : ℕ). IsTypingBelow p (typing_below p b) n) e (ended_types p count b.declared (now b.work) b.work.general.items b.renames.items h))

pub has_one_of : (p : Bare) (k count : ℕ) (r : Result Below Failure) (b : Below) → r ≡ Ok b → IfOk r (IsBelow p count) → count ≡ end_of p k → HasTyping p k
has_one_of p k count r b e h q = has_one p k count b (subst (λ (x : Result Below Failure). IfOk x (IsBelow p count)) e h) q

pub has_none : (p : Bare) (k count : ℕ) → ((t : Typing) → IsTypingBelow p t count → ⊥) → count ≡ end_of p k → HasNoTyping p k
has_none p k count none e h = none h.0 (subst (λ (n : ℕ). IsTypingBelow p h.0 n) (sym e) h.1)

behind_all : (xs : List ℕ) (d : ℕ) → get_or xs (length xs) d ≡ d
behind_all [] d = refl
behind_all (x ∷ xs) d = behind_all xs d

-- all declarations are all nodes
pub none_at_all : (p : Bare) (count : ℕ) → ((t : Typing) → IsTypingBelow p t count → ⊥) → count ≡ length p.nodes → HasNoTyping p (length p.decs)
none_at_all p count none e = has_none p (length p.decs) count none (e ∙ sym (behind_all p.decs (length p.nodes)))

-- what stands between a typing and none is bad
pub bad_between : (p : Bare) (low high : ℕ) → low < high → high ≤ length p.decs → high ≤ suc low → HasTyping p low → HasNoTyping p high → IsBadDeclaration p low
bad_between p low high order there close before after =
    let same : suc low ≡ high = omega arith in
    record { there = omega arith; before = before; here = λ h. after (subst (λ (k : ℕ). HasTyping p k) same h) }
