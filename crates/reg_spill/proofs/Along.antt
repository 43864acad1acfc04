-- Bindings one after another.
use Rattle.std.proofs.Common.{◌≡◌, ℕ, suc, ◌+◌, ◌<◌, ◌≤◌, List, [], ◌∷◌, ◌++◌, length, drop, refl, sym, ap, ◌∙◌, subst, arith}
use Rattle.std.specs.Prelude.{slice_index_or}
use Rattle.std.proofs.Math.Seq.{drop-cons}
use Rattle.closure_ir.specs.declared.body.Bind.{Bind}
use Rattle.placed_ir.specs.declared.body.Step.{Step}
use Rattle.place_bodies.specs.Steps.{at_of, bind_steps, bind_table, body_steps, end_table}
use Rattle.place_bodies.proofs.Binds.{bind_length}
use Rattle.reg_spill.proofs.Names.{past, append_none, append_assoc}

front : {A : Type 0} (xs : List A) (i : ℕ) (d x : A) → i < length xs → x ≡ slice_index_or xs i d → drop i xs ≡ x ∷ drop (i + 1) xs
front xs i d x lt e =
    let up : suc i ≡ i + 1 = omega arith in
    drop-cons xs i d lt ∙ ap (λ k. k ∷ drop (suc i) xs) (sym e) ∙ ap (λ j. x ∷ drop j xs) up

pub steps_more : (binds : List Bind) (along : List (List ℕ)) (i : ℕ) (d b : Bind) (r alive : List ℕ) (old next all : List Step) (t u : List ℕ) → i < length binds → b ≡ slice_index_or binds i d → i < length along → alive ≡ slice_index_or along i r →
    u ≡ bind_table t b alive → next ≡ old ++ bind_steps (at_of t) b alive →
    old ++ body_steps t (drop i binds) (drop i along) ≡ all → next ++ body_steps u (drop (i + 1) binds) (drop (i + 1) along) ≡ all
steps_more binds along i d b r alive old next all t u lt e la f g n h =
    let bs = drop (i + 1) binds in
    let rs = drop (i + 1) along in
    let whole : old ++ body_steps t (b ∷ bs) (alive ∷ rs) ≡ all =
    subst (λ xs. old ++ body_steps t (b ∷ bs) xs ≡ all) (front along i r alive la f) (subst (λ xs. old ++ body_steps t xs (drop i along) ≡ all) (front binds i d b lt e) h) in
    ap (λ xs. xs ++ body_steps u bs rs) n ∙ ap (λ v. (old ++ bind_steps (at_of t) b alive) ++ body_steps v bs rs) g ∙ append_assoc old (bind_steps (at_of t) b alive) (body_steps (bind_table t b alive) bs rs) ∙ whole

pub end_more : (binds : List Bind) (along : List (List ℕ)) (i : ℕ) (d b : Bind) (r alive t u all : List ℕ) → i < length binds → b ≡ slice_index_or binds i d → i < length along → alive ≡ slice_index_or along i r →
    u ≡ bind_table t b alive → end_table t (drop i binds) (drop i along) ≡ all → end_table u (drop (i + 1) binds) (drop (i + 1) along) ≡ all
end_more binds along i d b r alive t u all lt e la f g h =
    let bs = drop (i + 1) binds in
    let rs = drop (i + 1) along in
    let whole : end_table t (b ∷ bs) (alive ∷ rs) ≡ all =
    subst (λ xs. end_table t (b ∷ bs) xs ≡ all) (front along i r alive la f) (subst (λ xs. end_table t xs (drop i along) ≡ all) (front binds i d b lt e) h) in
    ap (λ v. end_table v bs rs) g ∙ whole

pub long_more : (b : Bind) (alive t u : List ℕ) (n : ℕ) → u ≡ bind_table t b alive → length t ≡ n → length u ≡ n
long_more b alive t u n e h = ap length e ∙ bind_length t b alive ∙ h

pub steps_end : (binds : List Bind) (along : List (List ℕ)) (i : ℕ) (t : List ℕ) (new all : List Step) → length binds ≤ i → new ++ body_steps t (drop i binds) (drop i along) ≡ all → new ≡ all
steps_end binds along i t new all le h = sym (append_none new) ∙ subst (λ bs. new ++ body_steps t bs (drop i along) ≡ all) (past binds i le) h

pub table_end : (binds : List Bind) (along : List (List ℕ)) (i : ℕ) (t all : List ℕ) → length binds ≤ i → end_table t (drop i binds) (drop i along) ≡ all → t ≡ all
table_end binds along i t all le h = subst (λ bs. end_table t bs (drop i along) ≡ all) (past binds i le) h

pub end_length : (t : List ℕ) (binds : List Bind) (along : List (List ℕ)) → length (end_table t binds along) ≡ length t
end_length t [] along = refl
end_length t (b ∷ binds) [] = refl
end_length t (b ∷ binds) (alive ∷ along) = end_length (bind_table t b alive) binds along ∙ bind_length t b alive
