-- The variables that bodies bind are below the bound, since those of the tree are.
use Rattle.std.proofs.Common.{◌≡◌, ℕ, ◌+◌, ◌<◌, Bool, true, false, List, [], ◌∷◌, ◌++◌, Some, map, flat_map, refl, sym, ap, ◌∙◌, arith}
use Rattle.std.specs.Prelude.{nat_lt}
use Rattle.std.specs.List.{AllByRecursion}
use Rattle.std.proofs.lemmas.Bool.{lt-ltb, ltb-true}
use Rattle.cps_ir.specs.declared.body.Function.{Function as Entry}
use Rattle.cps_ir.specs.declared.body.Bind.{Bind}
use Rattle.cps_ir.specs.declared.body.Bind.TheVariants as bind
use Rattle.cps_ir.specs.declared.body.Rule.{Rule as Chosen}
use Rattle.cps_ir.specs.declared.body.End.{End}
use Rattle.cps_ir.specs.declared.body.End.TheVariants as end
use Rattle.cps_ir.specs.declared.body.Body.{Body}
use Rattle.cps_ir.specs.Code.{Code}
use Rattle.cps_ir.specs.Free.{bound, bound_functions, bound_rules}
use Rattle.cps_ir.specs.Program.{Cps, functions_of, rules_of, code_of_end, code_of_binds, code_of_body, code_at}
use Rattle.cps_ir.specs.Kept.{IsProgram, bind_parts, end_parts, body_parts}
use Rattle.close_seen.specs.Seen.{bind_functions, body_functions}
use Rattle.close_seen.specs.Seen as seen
use Rattle.close_main.proofs.Sums.{sum_of, sum_append, owns, counted}
use Rattle.close_kept.proofs.Good.{BindBelow}

module _ (w : ℕ → ℕ) where
  abbrev weigh : List ℕ → ℕ
  weigh [] = 0
  weigh (x ∷ xs) = w x + weigh xs

  weigh_append : (xs ys : List ℕ) → weigh (xs ++ ys) ≡ weigh xs + weigh ys
  weigh_append [] ys = omega arith
  weigh_append (x ∷ xs) ys = let e = weigh_append xs ys in omega (arith, e)

  abbrev own_functions : List Entry → ℕ
  own_functions [] = 0
  own_functions (f ∷ fs) = w f.name + (weigh f.params + own_functions fs)

  abbrev own_bind : Bind → ℕ
  own_bind (bind.Make x s atoms) = w x
  own_bind (bind.Pick x i a) = w x
  own_bind (bind.Prim x f atoms) = w x
  own_bind (bind.Fix fs) = own_functions fs
  own_bind (bind.Handler x) = w x
  own_bind (bind.SetHandler a) = 0

  abbrev own_binds : List Bind → ℕ
  own_binds [] = 0
  own_binds (b ∷ bs) = own_bind b + own_binds bs

  module _ (part : ℕ → Code) where
    abbrev W : ℕ → ℕ
    W j = weigh (bound (part j))

    functions_weigh : (fs : List Entry) → weigh (bound_functions (functions_of part fs)) ≡ own_functions fs + sum_of W (map (λ f. f.body) fs)
    functions_weigh [] = refl
    functions_weigh (f ∷ fs) =
        let r = functions_weigh fs in
        let a = weigh_append f.params (bound (part f.body) ++ bound_functions (functions_of part fs)) in
        let b = weigh_append (bound (part f.body)) (bound_functions (functions_of part fs)) in
        omega (arith, r, a, b)

    rules_weigh : (rules : List Chosen) (otherwise : ℕ) → weigh (bound_rules (rules_of part rules otherwise)) ≡ sum_of W (map (λ r. r.body) rules ++ otherwise ∷ [])
    rules_weigh [] otherwise = omega arith
    rules_weigh (r ∷ rules) otherwise =
        let e = rules_weigh rules otherwise in let a = weigh_append (bound (part r.body)) (bound_rules (rules_of part rules otherwise)) in omega (arith, e, a)

    end_weigh : (e : End) → weigh (bound (code_of_end part e)) ≡ sum_of W (end_parts e)
    end_weigh (end.Equal a b truth k) = refl
    end_weigh (end.Call a atoms) = refl
    end_weigh (end.Match a rules otherwise) = rules_weigh rules otherwise
    end_weigh (end.Throw a) = refl
    end_weigh end.Halt = refl

    binds_weigh : (bs : List Bind) (c : Code) → weigh (bound (code_of_binds part bs c)) ≡ own_binds bs + (sum_of W (flat_map bind_parts bs) + weigh (bound c))
    binds_weigh [] c = omega arith
    binds_weigh (bind.Make x s atoms ∷ bs) c = let e = binds_weigh bs c in omega (arith, e)
    binds_weigh (bind.Pick x i a ∷ bs) c = let e = binds_weigh bs c in omega (arith, e)
    binds_weigh (bind.Prim x f atoms ∷ bs) c = let e = binds_weigh bs c in omega (arith, e)
    binds_weigh (bind.Fix fs ∷ bs) c =
        let e = binds_weigh bs c in
        let a = functions_weigh fs in
        let b = weigh_append (bound_functions (functions_of part fs)) (bound (code_of_binds part bs c)) in
        let s = sum_append W (map (λ f. f.body) fs) (flat_map bind_parts bs) in
        omega (arith, e, a, b, s)
    binds_weigh (bind.Handler x ∷ bs) c = let e = binds_weigh bs c in omega (arith, e)
    binds_weigh (bind.SetHandler a ∷ bs) c = let e = binds_weigh bs c in omega (arith, e)

    body_weigh : (b : Body) → weigh (bound (code_of_body part (Some b))) ≡ own_binds b.binds + sum_of W (body_parts b)
    body_weigh b =
        let e = binds_weigh b.binds (code_of_end part b.end) in
        let a = end_weigh b.end in
        let s = sum_append W (flat_map bind_parts b.binds) (end_parts b.end) in
        omega (arith, e, a, s)

abbrev miss : Bool → ℕ
miss true = 0
miss false = 1

module _ (n : ℕ) where
  abbrev bad : ℕ → ℕ
  bad x = miss (nat_lt x n)

  none_bad : (xs : List ℕ) → AllByRecursion (λ x. x < n) xs → weigh bad xs ≡ 0
  none_bad [] h = refl
  none_bad (x ∷ xs) h = let a : bad x ≡ 0 = ap miss (lt-ltb x n h.0) in let r = none_bad xs h.1 in omega (arith, a, r)

  not_bad : (x : ℕ) → bad x ≡ 0 → x < n
  not_bad x h = by (nat_lt x n) refl
    where
      by : (b : Bool) → nat_lt x n ≡ b → x < n
      by true e = ltb-true x n e
      by false e = absurd (let a : bad x ≡ 1 = ap miss e in omega (arith, a, h))

  all_below : (xs : List ℕ) → weigh bad xs ≡ 0 → AllByRecursion (λ x. x < n) xs
  all_below [] h = tt
  all_below (x ∷ xs) h = (not_bad x (omega (arith, h)), all_below xs (omega (arith, h)))

  functions_below : (fs : List Entry) → own_functions bad fs ≡ 0 → AllByRecursion (λ f. (f.name < n) × AllByRecursion (λ x. x < n) f.params) fs
  functions_below [] h = tt
  functions_below (f ∷ fs) h = ((not_bad f.name (omega (arith, h)), all_below f.params (omega (arith, h))), functions_below fs (omega (arith, h)))

  bind_below : (b : Bind) → own_bind bad b ≡ 0 → BindBelow n b
  bind_below (bind.Make x s atoms) h = not_bad x h
  bind_below (bind.Pick x i a) h = not_bad x h
  bind_below (bind.Prim x f atoms) h = not_bad x h
  bind_below (bind.Fix fs) h = functions_below fs h
  bind_below (bind.Handler x) h = not_bad x h
  bind_below (bind.SetHandler a) h = tt

  binds_below : (bs : List Bind) → own_binds bad bs ≡ 0 → AllByRecursion (BindBelow n) bs
  binds_below [] h = tt
  binds_below (b ∷ bs) h = (bind_below b (omega (arith, h)), binds_below bs (omega (arith, h)))

  bodies_below : (bodies : List Body) → owns (λ b. own_binds bad b.binds) bodies ≡ 0 → AllByRecursion (λ b. AllByRecursion (BindBelow n) b.binds) bodies
  bodies_below [] h = tt
  bodies_below (b ∷ bodies) h = (binds_below b.binds (omega (arith, h)), bodies_below bodies (omega (arith, h)))

  pub rows_below : (q : Cps) → IsProgram q → AllByRecursion (λ x. x < n) (bound (code_at q.bodies 0)) → AllByRecursion (λ b. AllByRecursion (BindBelow n) b.binds) q.bodies
  rows_below q kept h =
      bodies_below q.bodies
      (sym (counted (λ c. weigh bad (bound c)) (λ b. own_binds bad b.binds) (body_weigh bad) q kept) ∙ none_bad (bound (code_at q.bodies 0)) h)

  abbrev NamesBelow : Entry → Type 0
  NamesBelow f = (f.name < n) × AllByRecursion (λ x. x < n) f.params

  append : (fs gs : List Entry) → AllByRecursion NamesBelow fs → AllByRecursion NamesBelow gs → AllByRecursion NamesBelow (fs ++ gs)
  append [] gs h g = g
  append (f ∷ fs) gs h g = (h.0, append fs gs h.1 g)

  one_group : (b : Bind) → BindBelow n b → AllByRecursion NamesBelow (bind_functions b)
  one_group (bind.Make x s atoms) h = tt
  one_group (bind.Pick x i a) h = tt
  one_group (bind.Prim x f atoms) h = tt
  one_group (bind.Fix fs) h = h
  one_group (bind.Handler x) h = tt
  one_group (bind.SetHandler a) h = tt

  groups : (bs : List Bind) → AllByRecursion (BindBelow n) bs → AllByRecursion NamesBelow (flat_map bind_functions bs)
  groups [] h = tt
  groups (b ∷ bs) h = append (bind_functions b) (flat_map bind_functions bs) (one_group b h.0) (groups bs h.1)

  pub names_below : (bodies : List Body) → AllByRecursion (λ b. AllByRecursion (BindBelow n) b.binds) bodies → AllByRecursion NamesBelow (seen.functions_of bodies)
  names_below [] h = tt
  names_below (b ∷ bodies) h = append (body_functions b) (seen.functions_of bodies) (groups b.binds h.0) (names_below bodies h.1)
