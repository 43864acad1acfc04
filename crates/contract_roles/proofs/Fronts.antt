-- The names that stand in front of a function and only call another.
use Rattle.std.proofs.Common.{take, length, ◌-◌, ◌+◌, arith, append-nil, length-append, ◌≡◌, ℕ, List, [], ◌∷◌, ◌++◌, Option, Some, None, refl, ap, ◌∙◌}
use Rattle.cps_ir.specs.declared.body.Function.{Function as Entry}
use Rattle.cps_ir.specs.declared.body.Body.{Body}
use Rattle.contract_round.specs.Round.{with_eta}
use Rattle.contract_roles.specs.Roles.{eta_in, eta_names}

put_front : (o : Option ℕ) (f : ℕ) (xs ys : List ℕ) → with_eta o f (xs ++ ys) ≡ with_eta o f xs ++ ys
put_front None f xs ys = refl
put_front (Some x) f xs ys = refl

pub names_append : (bodies : List Body) (fs gs : List Entry) → eta_names bodies (fs ++ gs) ≡ eta_names bodies fs ++ eta_names bodies gs
names_append bodies [] gs = refl
names_append bodies (f ∷ fs) gs = subst_front (eta_names bodies (fs ++ gs)) (names_append bodies fs gs)
  where
    subst_front : (ns : List ℕ) → ns ≡ eta_names bodies fs ++ eta_names bodies gs → with_eta (eta_in bodies f) f.name ns ≡ with_eta (eta_in bodies f) f.name (eta_names bodies fs) ++ eta_names bodies gs
    subst_front ns e = ap (with_eta (eta_in bodies f) f.name) e ∙ put_front (eta_in bodies f) f.name (eta_names bodies fs) (eta_names bodies gs)

take_front : (xs : List ℕ) (x : ℕ) → take (length xs) (xs ++ x ∷ []) ≡ xs
take_front [] x = refl
take_front (y ∷ xs) x = ap (λ ys. y ∷ ys) (take_front xs x)

-- without the last
pub popped : (bodies : List Body) (fs : List Entry) (f : Entry) (x n : ℕ) (old new : List ℕ) → eta_in bodies f ≡ Some x → old ≡ eta_names bodies (fs ++ f ∷ []) → n ≡ length old → new ≡ take (n - 1) old → new ≡ eta_names bodies fs
popped bodies fs f x n old new e h l t =
    let xs = eta_names bodies fs in
    let is : old ≡ xs ++ f.name ∷ [] = h ∙ names_append bodies fs (f ∷ []) ∙ ap (λ o. xs ++ with_eta o f.name []) e in
    let k : length old ≡ length xs + 1 = ap length is ∙ length-append xs (f.name ∷ []) in
    let m : n - 1 ≡ length xs = omega arith in
    t ∙ ap (λ j. take j old) m ∙ ap (take (length xs)) is ∙ take_front xs f.name

pub not_popped : (bodies : List Body) (fs : List Entry) (f : Entry) (old : List ℕ) → eta_in bodies f ≡ None → old ≡ eta_names bodies (fs ++ f ∷ []) → old ≡ eta_names bodies fs
not_popped bodies fs f old e h = h ∙ names_append bodies fs (f ∷ []) ∙ ap (λ o. eta_names bodies fs ++ with_eta o f.name []) e ∙ append-nil (eta_names bodies fs)
