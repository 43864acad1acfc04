-- The functions of a body's tree, from those of the bodies that it names.
use Rattle.std.proofs.Common.{◌≡◌, ℕ, zero, suc, ◌+◌, ◌<◌, ◌≤◌, List, [], ◌∷◌, ◌++◌, ◌⊎◌, Option, Some, None, map, flat_map, length, slice_get, inl, inr, ⊎_elim, refl, sym, ap, ◌∙◌, subst, arith}
use Rattle.simulation.specs.Blocks.{IsAmong}
use Rattle.simulation.proofs.Lists.{among_left, among_right, among_append, some_eq}
use Rattle.cps_ir.specs.declared.body.Function.{Function as Entry}
use Rattle.cps_ir.specs.declared.body.Bind.{Bind}
use Rattle.cps_ir.specs.declared.body.Bind.TheVariants as bind
use Rattle.cps_ir.specs.declared.body.Rule.{Rule as Chosen}
use Rattle.cps_ir.specs.declared.body.End.{End}
use Rattle.cps_ir.specs.declared.body.End.TheVariants as end
use Rattle.cps_ir.specs.declared.body.Body.{Body}
use Rattle.cps_ir.specs.Code.{Code}
use Rattle.cps_ir.specs.Program as opening
use Rattle.cps_ir.specs.Program.{Cps, rules_of, code_of_end, code_of_binds, code_of_body, code_at}
use Rattle.cps_ir.specs.Kept.{IsProgram, end_parts, body_parts}
use Rattle.cps_free.proofs.Unfold.{code_unfold}
use Rattle.close_laws.specs.Layouts.{Facts, label}
use Rattle.close_laws.specs.Lower.{lower_function}
use Rattle.close_laws.specs.Close.{Labelled, design_of, functions_in, functions_of_rules}
use Rattle.close_laws.specs.Close as laws
use Rattle.close_seen.specs.Seen.{bind_functions, body_functions, functions_of}
use Rattle.close_seen.proofs.Tally.{all_among, bodies_of, parts_of_body}
use Rattle.close_main.proofs.Sums.{sum_of, sum_append}

append_none : {X : Type 0} (xs : List X) → xs ++ [] ≡ xs
append_none [] = refl
append_none (x ∷ xs) = ap (λ ys. x ∷ ys) (append_none xs)

assoc : {X : Type 0} (xs ys zs : List X) → (xs ++ ys) ++ zs ≡ xs ++ (ys ++ zs)
assoc [] ys zs = refl
assoc (x ∷ xs) ys zs = ap (λ us. x ∷ us) (assoc xs ys zs)

module _ (A : Facts) (part : ℕ → Code) where
  -- a function by number, as the definition has it
  abbrev pub labelled_by : Entry → Labelled
  labelled_by f = record { label = label A f.point; point = f.point; routine = lower_function (design_of A) f.name f.point f.params (part f.body) }

  abbrev within : ℕ → List Labelled
  within j = functions_in A (part j)

  abbrev inside : List Entry → List Labelled
  inside [] = []
  inside (f ∷ fs) = labelled_by f ∷ (within f.body ++ inside fs)

  abbrev under : List ℕ → List Labelled
  under [] = []
  under (j ∷ js) = within j ++ under js

  inside_append : (fs gs : List Entry) → inside (fs ++ gs) ≡ inside fs ++ inside gs
  inside_append [] gs = refl
  inside_append (f ∷ fs) gs = ap (λ xs. labelled_by f ∷ (within f.body ++ xs)) (inside_append fs gs) ∙ ap (λ xs. labelled_by f ∷ xs) (sym (assoc (within f.body) (inside fs) (inside gs)))

  functions_inside : (fs : List Entry) → laws.functions_of A (opening.functions_of part fs) ≡ inside fs
  functions_inside [] = refl
  functions_inside (f ∷ fs) = ap (λ gs. labelled_by f ∷ (within f.body ++ gs)) (functions_inside fs)

  rules_under : (rules : List Chosen) (otherwise : ℕ) → functions_of_rules A (rules_of part rules otherwise) ≡ under (map (λ r. r.body) rules ++ otherwise ∷ [])
  rules_under [] otherwise = sym (append_none (within otherwise))
  rules_under (r ∷ rules) otherwise = ap (λ gs. within r.body ++ gs) (rules_under rules otherwise)

  end_under : (e : End) → functions_in A (code_of_end part e) ≡ under (end_parts e)
  end_under (end.Equal a b truth k) = refl
  end_under (end.Call a atoms) = refl
  end_under (end.Match a rules otherwise) = rules_under rules otherwise
  end_under (end.Throw a) = refl
  end_under end.Halt = refl

  binds_inside : (bs : List Bind) (c : Code) → functions_in A (code_of_binds part bs c) ≡ inside (flat_map bind_functions bs) ++ functions_in A c
  binds_inside [] c = refl
  binds_inside (bind.Make x shape atoms ∷ bs) c = binds_inside bs c
  binds_inside (bind.Pick x i a ∷ bs) c = binds_inside bs c
  binds_inside (bind.Prim x f atoms ∷ bs) c = binds_inside bs c
  binds_inside (bind.Fix fs ∷ bs) c =
      let rest = functions_in A (code_of_binds part bs c) in
      ap (λ gs. gs ++ rest) (functions_inside fs)
      ∙ ap (λ gs. inside fs ++ gs) (binds_inside bs c)
      ∙ sym (assoc (inside fs) (inside (flat_map bind_functions bs)) (functions_in A c))
      ∙ ap (λ gs. gs ++ functions_in A c) (sym (inside_append fs (flat_map bind_functions bs)))
  binds_inside (bind.Handler x ∷ bs) c = binds_inside bs c
  binds_inside (bind.SetHandler a ∷ bs) c = binds_inside bs c

  body_inside : (b : Body) → functions_in A (code_of_body part (Some b)) ≡ inside (body_functions b) ++ under (end_parts b.end)
  body_inside b = binds_inside b.binds (code_of_end part b.end) ∙ ap (λ gs. inside (body_functions b) ++ gs) (end_under b.end)

  -- ---- Which they are

  among_under : (js : List ℕ) (g : Labelled) → IsAmong g (under js) → (j : ℕ) × IsAmong j js × IsAmong g (within j)
  among_under [] g m = absurd m
  among_under (j ∷ js) g m =
      ⊎_elim (λ (h : IsAmong g (within j)). (j, inl refl, h))
      (λ (h : IsAmong g (under js)). let r = among_under js g h in (r.0, inr r.1, r.2))
      (among_append g (within j) (under js) m)

  abbrev IsOwn : List Entry → Labelled → Type 0
  IsOwn fs g = (f : Entry) × IsAmong f fs × (g ≡ labelled_by f)

  abbrev IsDeeper : List ℕ → Labelled → Type 0
  IsDeeper js g = (j : ℕ) × IsAmong j js × IsAmong g (within j)

  among_inside : (fs : List Entry) (g : Labelled) → IsAmong g (inside fs) → IsOwn fs g ⊎ IsDeeper (bodies_of fs) g
  among_inside [] g m = absurd m
  among_inside (f ∷ fs) g (inl e) = inl (f, inl refl, e)
  among_inside (f ∷ fs) g (inr m) =
      ⊎_elim (λ (h : IsAmong g (within f.body)). inr (f.body, inl refl, h))
      (λ (h : IsAmong g (inside fs)).
      ⊎_elim (λ (o : IsOwn fs g). inl (o.0, inr o.1, o.2)) (λ (o : IsDeeper (bodies_of fs) g). inr (o.0, inr o.1, o.2)) (among_inside fs g h))
      (among_append g (within f.body) (inside fs) m)

  among_body : (b : Body) (g : Labelled) → IsAmong g (functions_in A (code_of_body part (Some b))) → IsOwn (body_functions b) g ⊎ IsDeeper (body_parts b) g
  among_body b g m =
      ⊎_elim
      (λ (h : IsAmong g (inside (body_functions b))).
      ⊎_elim (λ (o : IsOwn (body_functions b) g). inl o)
      (λ (o : IsDeeper (bodies_of (body_functions b)) g). inr (o.0, subst (IsAmong o.0) (sym (parts_of_body b)) (among_left o.0 (bodies_of (body_functions b)) (end_parts b.end) o.1), o.2))
      (among_inside (body_functions b) g h))
      (λ (h : IsAmong g (under (end_parts b.end))).
      let o = among_under (end_parts b.end) g h in
      inr (o.0, subst (IsAmong o.0) (sym (parts_of_body b)) (among_right o.0 (bodies_of (body_functions b)) (end_parts b.end) o.1), o.2))
      (among_append g (inside (body_functions b)) (under (end_parts b.end)) (subst (IsAmong g) (body_inside b) m))

  -- ---- How many there are of a label

  module _ (w : ℕ → ℕ) where
    abbrev pub weigh : List Labelled → ℕ
    weigh [] = 0
    weigh (g ∷ gs) = w g.label + weigh gs

    abbrev pub weigh_entries : List Entry → ℕ
    weigh_entries [] = 0
    weigh_entries (f ∷ fs) = w (label A f.point) + weigh_entries fs

    weigh_append : (gs hs : List Labelled) → weigh (gs ++ hs) ≡ weigh gs + weigh hs
    weigh_append [] hs = omega arith
    weigh_append (g ∷ gs) hs = let e = weigh_append gs hs in omega (arith, e)

    pub entries_append : (fs gs : List Entry) → weigh_entries (fs ++ gs) ≡ weigh_entries fs + weigh_entries gs
    entries_append [] gs = omega arith
    entries_append (f ∷ fs) gs = let e = entries_append fs gs in omega (arith, e)

    weigh_inside : (fs : List Entry) → weigh (inside fs) ≡ weigh_entries fs + sum_of (λ j. weigh (within j)) (bodies_of fs)
    weigh_inside [] = refl
    weigh_inside (f ∷ fs) = let e = weigh_inside fs in let a = weigh_append (within f.body) (inside fs) in omega (arith, e, a)

    weigh_under : (js : List ℕ) → weigh (under js) ≡ sum_of (λ j. weigh (within j)) js
    weigh_under [] = refl
    weigh_under (j ∷ js) = let e = weigh_under js in let a = weigh_append (within j) (under js) in omega (arith, e, a)

    pub weigh_body : (b : Body) → weigh (functions_in A (code_of_body part (Some b))) ≡ weigh_entries (body_functions b) + sum_of (λ j. weigh (within j)) (body_parts b)
    weigh_body b =
        let own = body_functions b in
        let a = ap weigh (body_inside b) ∙ weigh_append (inside own) (under (end_parts b.end)) in
        let c = weigh_inside own in
        let e = weigh_under (end_parts b.end) in
        let p : sum_of (λ j. weigh (within j)) (body_parts b) ≡ sum_of (λ j. weigh (within j)) (bodies_of own) + sum_of (λ j. weigh (within j)) (end_parts b.end) =
        ap (sum_of (λ j. weigh (within j))) (parts_of_body b) ∙ sum_append (λ j. weigh (within j)) (bodies_of own) (end_parts b.end) in
        omega (arith, a, c, e, p)

-- ---- Of a whole program

none_past : (bs : List Body) (i : ℕ) → slice_get bs i ≡ None → length bs ≤ i
none_past [] i e = omega arith
none_past (b ∷ bs) zero e = absurd (cc)
none_past (b ∷ bs) (suc i) e = let h = none_past bs i e in omega (arith, h)

pub member_of : (bs : List Body) (i : ℕ) (b : Body) (f : Entry) → slice_get bs i ≡ Some b → IsAmong f (body_functions b) → IsAmong f (functions_of bs)
member_of [] i b f e m = absurd (cc)
member_of (x ∷ bs) zero b f e m = among_left f (body_functions x) (functions_of bs) (some_eq (λ (k : Body). IsAmong f (body_functions k)) b x (sym e) m)
member_of (x ∷ bs) (suc i) b f e m = among_right f (body_functions x) (functions_of bs) (member_of bs i b f e m)

-- a function of a program is one of a body
pub owner_of : (bs : List Body) (f : Entry) → IsAmong f (functions_of bs) → (i : ℕ) × (b : Body) × (slice_get bs i ≡ Some b) × IsAmong f (body_functions b)
owner_of [] f m = absurd m
owner_of (b ∷ bs) f m =
    ⊎_elim (λ (h : IsAmong f (body_functions b)). (zero, b, refl, h))
    (λ (h : IsAmong f (functions_of bs)). let r = owner_of bs f h in (suc r.0, r.1, r.2, r.3))
    (among_append f (body_functions b) (functions_of bs) m)

pub group_of : (bs : List Bind) (f : Entry) → IsAmong f (flat_map bind_functions bs) → (fs : List Entry) × IsAmong (bind.Fix fs) bs × IsAmong f fs
group_of [] f m = absurd m
group_of (bind.Make x shape atoms ∷ bs) f m = let r = group_of bs f m in (r.0, inr r.1, r.2)
group_of (bind.Pick x i a ∷ bs) f m = let r = group_of bs f m in (r.0, inr r.1, r.2)
group_of (bind.Prim x p atoms ∷ bs) f m = let r = group_of bs f m in (r.0, inr r.1, r.2)
group_of (bind.Fix fs ∷ bs) f m =
    ⊎_elim (λ (h : IsAmong f fs). (fs, inl refl, h))
    (λ (h : IsAmong f (flat_map bind_functions bs)). let r = group_of bs f h in (r.0, inr r.1, r.2))
    (among_append f fs (flat_map bind_functions bs) m)
group_of (bind.Handler x ∷ bs) f m = let r = group_of bs f m in (r.0, inr r.1, r.2)
group_of (bind.SetHandler a ∷ bs) f m = let r = group_of bs f m in (r.0, inr r.1, r.2)

module _ (A : Facts) (q : Cps) (kept : IsProgram q) where
  abbrev IsFound : Labelled → Type 0
  IsFound g = (f : Entry) × IsAmong f (functions_of q.bodies) × (g ≡ labelled_by A (code_at q.bodies) f)

  from_last : (n i : ℕ) → length q.bodies ≤ n + i → i < length q.bodies → (g : Labelled) → IsAmong g (functions_in A (code_at q.bodies i)) → IsFound g
  from_last zero i h l g m = absurd (omega (arith, h, l))
  from_last (suc n) i h l g m = by (slice_get q.bodies i) refl (λ j u v. from_last n j (omega (arith, h, u)) v)
    where
      by : (o : Option Body) → slice_get q.bodies i ≡ o → ((j : ℕ) → i < j → j < length q.bodies → (k : Labelled) → IsAmong k (functions_in A (code_at q.bodies j)) → IsFound k) → IsFound g
      by None e r = absurd (let p = none_past q.bodies i e in omega (arith, p, l))
      by (Some b) e r =
          ⊎_elim
          (λ (o : IsOwn A (code_at q.bodies) (body_functions b) g). (o.0, member_of q.bodies i b o.0 e o.1, o.2))
          (λ (o : IsDeeper A (code_at q.bodies) (body_parts b) g).
          let n = all_among (λ c. (i < c) × (c < length q.bodies)) (body_parts b) o.0 (kept.numbered i b e) o.1 in r o.0 n.0 n.1 g o.2)
          (among_body A (code_at q.bodies) b g (subst (λ c. IsAmong g (functions_in A c)) (code_unfold q.bodies kept.numbered i b e) m))

  pub found : (g : Labelled) → IsAmong g (functions_in A (code_at q.bodies 0)) → IsFound g
  found = from_last (length q.bodies) 0 (omega arith) (let n = kept.one_tree in omega (arith, n))
