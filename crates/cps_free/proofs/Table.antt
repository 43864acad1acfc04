-- A table of free variables, filled from the last body down.
use Rattle.std.proofs.Common.{◌≡◌, ℕ, suc, ◌-◌, ◌<◌, ◌≤◌, List, [], ◌∷◌, ◌++◌, Some, length, map, flat_map, drop, refl, sym, ap, ◌∙◌, subst, arith, length-set, ⊎_elim}
use Rattle.std.specs.Prelude.{slice_get, slice_set, slice_index_or, not}
use Rattle.std.specs.List.{AllByRecursion}
use Rattle.std.proofs.Math.Seq.{drop-cons}
use Rattle.std.proofs.lemmas.Bool.{cases_lt}
use Rattle.std.proofs.lemmas.Option.{unwrap_or-slice_get}
use Rattle.std.proofs.lemmas.List.{get_or-set_same, get_or-set_other}
use Rattle.sml_tree.specs.IsBare.{IsAscending}
use Rattle.sml_tree.specs.Sets.{has, union, union_over, without, row_at}
use Rattle.sml_tree.proofs.AscendingSets.{union_ascending, filter_ascending, one_ascending, over_ascending}
use Rattle.cps_ir.specs.declared.atom.Atom.{Atom}
use Rattle.cps_ir.specs.declared.atom.Atom.TheVariants as atom
use Rattle.cps_ir.specs.declared.atom.Wanted.{Wanted}
use Rattle.cps_ir.specs.declared.atom.Wanted.TheVariants as want
use Rattle.cps_ir.specs.declared.body.Function.{Function as Entry}
use Rattle.cps_ir.specs.declared.body.Bind.{Bind}
use Rattle.cps_ir.specs.declared.body.Bind.TheVariants as bind
use Rattle.cps_ir.specs.declared.body.Rule.{Rule as Chosen}
use Rattle.cps_ir.specs.declared.body.End.{End}
use Rattle.cps_ir.specs.declared.body.End.TheVariants as end
use Rattle.cps_ir.specs.declared.body.Body.{Body}
use Rattle.cps_ir.specs.Code.{Code, Make, Pick, Prim, Equal, Fix, Call, Match, Handler, SetHandler, Throw, Halt, Functions, NoFunction, Function, Rules, Otherwise, Rule, names_of}
use Rattle.cps_ir.specs.Program.{functions_of, rules_of, code_of_end, code_of_bind, code_of_binds, code_of_body, code_at}
use Rattle.cps_ir.specs.Kept.{bind_parts, end_parts, body_parts}
use Rattle.cps_ir.specs.Free.{vars, vars_all, vars_wanted, vars_tests, free_code, free_functions, free_rules}
use Rattle.cps_free.specs.Same.{AreSame}
use Rattle.cps_free.specs.Rows.{rules_free, end_free, function_free, names, bind_free, binds_free, body_free, AreFree}
use Rattle.cps_free.proofs.Sets.{one_list}
use Rattle.cps_free.proofs.Steps.{union_same, without_same, same_trans}
use Rattle.cps_free.proofs.Unfold.{AreNumbered, all_front, all_back, all_with, code_unfold}

-- ---- In front of one more binding

pub bind_free_same : (part : ℕ → List ℕ) (b : Bind) (xs ys : List ℕ) → AreSame xs ys → AreSame (bind_free part b xs) (bind_free part b ys)
bind_free_same part (bind.Make x shape atoms) xs ys h = union_same (vars_all atoms) (without xs (x ∷ [])) (without ys (x ∷ [])) (without_same xs ys (x ∷ []) h)
bind_free_same part (bind.Pick x i a) xs ys h = union_same (vars a) (without xs (x ∷ [])) (without ys (x ∷ [])) (without_same xs ys (x ∷ []) h)
bind_free_same part (bind.Prim x f atoms) xs ys h = union_same (vars_all atoms) (without xs (x ∷ [])) (without ys (x ∷ [])) (without_same xs ys (x ∷ []) h)
bind_free_same part (bind.Fix fs) xs ys h =
    without_same (union (union_over (function_free part) fs) xs) (union (union_over (function_free part) fs) ys) (names part fs) (union_same (union_over (function_free part) fs) xs ys h)
bind_free_same part (bind.Handler x) xs ys h = without_same xs ys (x ∷ []) h
bind_free_same part (bind.SetHandler a) xs ys h = union_same (vars a) xs ys h

pub back_more : (part : ℕ → List ℕ) (binds : List Bind) (i : ℕ) (d : Bind) (last old new : List ℕ) → 0 < i → i ≤ length binds → AreSame old (binds_free part (drop i binds) last) → AreSame new (bind_free part (slice_index_or binds (i - 1) d) old) → AreSame new (binds_free part (drop (i - 1) binds) last)
back_more part binds i d last old new pos le h g =
    let b = slice_index_or binds (i - 1) d in
    let next : suc (i - 1) ≡ i = omega arith in
    let front : drop (i - 1) binds ≡ b ∷ drop i binds = drop-cons binds (i - 1) d (omega arith) ∙ ap (λ k. b ∷ drop k binds) next in
    subst (λ bs. AreSame new (binds_free part bs last)) (sym front)
    (same_trans new (bind_free part b old) (bind_free part b (binds_free part (drop i binds) last)) g (bind_free_same part b old (binds_free part (drop i binds) last) h))

-- ---- The same as of the tree

module _ (p : ℕ → Code) where
  abbrev F : ℕ → List ℕ
  F c = free_code (p c)

  functions_are : (fs : List Entry) → free_functions (functions_of p fs) ≡ union_over (function_free F) fs
  functions_are [] = refl
  functions_are (f ∷ fs) = ap (union (without (F f.body) f.params)) (functions_are fs)

  names_are : (fs : List Entry) → names_of (functions_of p fs) ≡ names F fs
  names_are [] = refl
  names_are (f ∷ fs) = ap (λ ns. f.name ∷ ns) (names_are fs)

  rules_are : (rules : List Chosen) (otherwise : ℕ) → free_rules (rules_of p rules otherwise) ≡ rules_free F rules (F otherwise)
  rules_are [] otherwise = refl
  rules_are (r ∷ rules) otherwise = ap (λ xs. union (vars_tests r.tests) (union (F r.body) xs)) (rules_are rules otherwise)

  end_is : (e : End) → free_code (code_of_end p e) ≡ end_free F e
  end_is (end.Equal a b truth k) = refl
  end_is (end.Call a atoms) = refl
  end_is (end.Match a rules otherwise) = ap (union (vars a)) (rules_are rules otherwise)
  end_is (end.Throw a) = refl
  end_is end.Halt = refl

  bind_is : (b : Bind) (c : Code) → free_code (code_of_bind p b c) ≡ bind_free F b (free_code c)
  bind_is (bind.Make x shape atoms) c = refl
  bind_is (bind.Pick x i a) c = refl
  bind_is (bind.Prim x f atoms) c = refl
  bind_is (bind.Fix fs) c =
      ap (λ xs. without (union xs (free_code c)) (names_of (functions_of p fs))) (functions_are fs) ∙ ap (without (union (union_over (function_free F) fs) (free_code c))) (names_are fs)
  bind_is (bind.Handler x) c = refl
  bind_is (bind.SetHandler a) c = refl

  binds_are : (bs : List Bind) (c : Code) → free_code (code_of_binds p bs c) ≡ binds_free F bs (free_code c)
  binds_are [] c = refl
  binds_are (b ∷ bs) c = bind_is b (code_of_binds p bs c) ∙ ap (bind_free F b) (binds_are bs c)

  body_is : (b : Body) → free_code (code_of_body p (Some b)) ≡ body_free F b
  body_is b = binds_are b.binds (code_of_end p b.end) ∙ ap (binds_free F b.binds) (end_is b.end)

-- ---- By the parts

module _ (f g : ℕ → List ℕ) where
  abbrev Agree : ℕ → Type 0
  Agree c = f c ≡ g c

  functions_by : (fs : List Entry) → AllByRecursion Agree (map (λ e. e.body) fs) → union_over (function_free f) fs ≡ union_over (function_free g) fs
  functions_by [] h = refl
  functions_by (e ∷ fs) h =
      ap (λ xs. union (without xs e.params) (union_over (function_free f) fs)) h.0 ∙ ap (union (without (g e.body) e.params)) (functions_by fs h.1)

  rules_by : (rules : List Chosen) (otherwise : ℕ) → AllByRecursion Agree (map (λ r. r.body) rules ++ otherwise ∷ []) → rules_free f rules (f otherwise) ≡ rules_free g rules (g otherwise)
  rules_by [] otherwise h = h.0
  rules_by (r ∷ rules) otherwise h =
      ap (λ xs. union (vars_tests r.tests) (union xs (rules_free f rules (f otherwise)))) h.0 ∙ ap (λ xs. union (vars_tests r.tests) (union (g r.body) xs)) (rules_by rules otherwise h.1)

  end_by : (e : End) → AllByRecursion Agree (end_parts e) → end_free f e ≡ end_free g e
  end_by (end.Equal a b truth k) h = refl
  end_by (end.Call a atoms) h = refl
  end_by (end.Match a rules otherwise) h = ap (union (vars a)) (rules_by rules otherwise h)
  end_by (end.Throw a) h = refl
  end_by end.Halt h = refl

  bind_by : (b : Bind) (xs : List ℕ) → AllByRecursion Agree (bind_parts b) → bind_free f b xs ≡ bind_free g b xs
  bind_by (bind.Make x shape atoms) xs h = refl
  bind_by (bind.Pick x i a) xs h = refl
  bind_by (bind.Prim x p atoms) xs h = refl
  bind_by (bind.Fix fs) xs h = ap (λ us. without (union us xs) (map (λ e. e.name) fs)) (functions_by fs h)
  bind_by (bind.Handler x) xs h = refl
  bind_by (bind.SetHandler a) xs h = refl

  binds_by : (bs : List Bind) (xs ys : List ℕ) → AllByRecursion Agree (flat_map bind_parts bs) → xs ≡ ys → binds_free f bs xs ≡ binds_free g bs ys
  binds_by [] xs ys h e = e
  binds_by (b ∷ bs) xs ys h e =
      bind_by b (binds_free f bs xs) (all_front Agree (bind_parts b) (flat_map bind_parts bs) h)
      ∙ ap (bind_free g b) (binds_by bs xs ys (all_back Agree (bind_parts b) (flat_map bind_parts bs) h) e)

  body_by : (b : Body) → AllByRecursion Agree (body_parts b) → body_free f b ≡ body_free g b
  body_by b h =
      binds_by b.binds (end_free f b.end) (end_free g b.end) (all_front Agree (flat_map bind_parts b.binds) (end_parts b.end) h)
      (end_by b.end (all_back Agree (flat_map bind_parts b.binds) (end_parts b.end) h))

-- ---- Order

atom_ascending : (a : Atom) → IsAscending 0 (vars a)
atom_ascending (atom.Var x) = one_ascending x
atom_ascending (atom.Constant k) = tt

wanted_ascending : (w : Wanted) → IsAscending 0 (vars_wanted w)
wanted_ascending (want.Exn a applied) = atom_ascending a
wanted_ascending (want.Num z) = tt
wanted_ascending (want.Tag t) = tt
wanted_ascending (want.Text t) = tt

atoms_ascending : (atoms : List Atom) → IsAscending 0 (vars_all atoms)
atoms_ascending atoms = over_ascending vars atom_ascending atoms

less : (xs gone : List ℕ) → IsAscending 0 xs → IsAscending 0 (without xs gone)
less xs gone a = filter_ascending (λ x. not (has gone x)) 0 xs a

mutual
  pub code_ascending : (c : Code) → IsAscending 0 (free_code c)
  code_ascending (Make x shape atoms c) = union_ascending 0 (vars_all atoms) (without (free_code c) (x ∷ [])) (atoms_ascending atoms) (less (free_code c) (x ∷ []) (code_ascending c))
  code_ascending (Pick x i a c) = union_ascending 0 (vars a) (without (free_code c) (x ∷ [])) (atom_ascending a) (less (free_code c) (x ∷ []) (code_ascending c))
  code_ascending (Prim x f atoms c) = union_ascending 0 (vars_all atoms) (without (free_code c) (x ∷ [])) (atoms_ascending atoms) (less (free_code c) (x ∷ []) (code_ascending c))
  code_ascending (Equal a b truth k) = atoms_ascending (a ∷ b ∷ k ∷ [])
  code_ascending (Fix fs c) =
      less (union (free_functions fs) (free_code c)) (names_of fs) (union_ascending 0 (free_functions fs) (free_code c) (functions_ascending fs) (code_ascending c))
  code_ascending (Call a atoms) = union_ascending 0 (vars a) (vars_all atoms) (atom_ascending a) (atoms_ascending atoms)
  code_ascending (Match a rules) = union_ascending 0 (vars a) (free_rules rules) (atom_ascending a) (rules_ascending rules)
  code_ascending (Handler x c) = less (free_code c) (x ∷ []) (code_ascending c)
  code_ascending (SetHandler a c) = union_ascending 0 (vars a) (free_code c) (atom_ascending a) (code_ascending c)
  code_ascending (Throw a) = atom_ascending a
  code_ascending Halt = tt

  functions_ascending : (fs : Functions) → IsAscending 0 (free_functions fs)
  functions_ascending NoFunction = tt
  functions_ascending (Function f p params body fs) =
      union_ascending 0 (without (free_code body) params) (free_functions fs) (less (free_code body) params (code_ascending body)) (functions_ascending fs)

  rules_ascending : (rules : Rules) → IsAscending 0 (free_rules rules)
  rules_ascending (Otherwise c) = code_ascending c
  rules_ascending (Rule tests c rules) =
      union_ascending 0 (vars_tests tests) (union (free_code c) (free_rules rules)) (over_ascending (λ t. vars_wanted t.want) (λ t. wanted_ascending t.want) tests)
      (union_ascending 0 (free_code c) (free_rules rules) (code_ascending c) (rules_ascending rules))

-- ---- The table

pub row_at-set_same : (rows : List (List ℕ)) (i : ℕ) (set : List ℕ) → i < length rows → row_at (slice_set rows i set) i ≡ set
row_at-set_same rows i set h = unwrap_or-slice_get (slice_set rows i set) i [] ∙ get_or-set_same rows i set [] h

pub row_at-set_other : (rows : List (List ℕ)) (i c : ℕ) (set : List ℕ) → i < c → row_at (slice_set rows i set) c ≡ row_at rows c
row_at-set_other rows i c set h =
    unwrap_or-slice_get (slice_set rows i set) c [] ∙ get_or-set_other rows i c set [] (omega arith) ∙ sym (unwrap_or-slice_get rows c [])

pub none_yet : (bodies : List Body) (frees : List (List ℕ)) → length frees ≡ length bodies → AreFree bodies (length bodies) frees
none_yet bodies frees e = record { len = e; at = λ c h g. absurd (omega arith) }

module _ (bodies : List Body) (numbered : AreNumbered bodies) (i : ℕ) (b : Body) (e : slice_get bodies i ≡ Some b) (lt : i < length bodies) (frees : List (List ℕ)) (done : AreFree bodies (suc i) frees) where
  -- what the table gives for a body is free in its tree
  free_here : (set : List ℕ) → IsAscending 0 set → AreSame set (body_free (row_at frees) b) → set ≡ free_code (code_at bodies i)
  free_here set a s =
      let by : body_free (row_at frees) b ≡ free_code (code_at bodies i) =
      body_by (row_at frees) (λ c. free_code (code_at bodies c)) b (all_with (λ c. (i < c) × (c < length bodies)) (λ c. row_at frees c ≡ free_code (code_at bodies c)) (λ c h. done.at c h.0 h.1) (body_parts b) (numbered i b e))
      ∙ sym (body_is (code_at bodies) b) ∙ sym (ap free_code (code_unfold bodies numbered i b e)) in
      one_list 0 set (free_code (code_at bodies i)) a (code_ascending (code_at bodies i)) (λ z. s z ∙ ap (λ xs. has xs z) by)

  pub done_down : (set : List ℕ) → IsAscending 0 set → AreSame set (body_free (row_at frees) b) → AreFree bodies i (slice_set frees i set)
  done_down set a s = record {
    len = length-set frees i set ∙ done.len;
    at = λ c h g. ⊎_elim (λ (k : i < c). row_at-set_other frees i c set k ∙ done.at c k g) (λ (k : c ≤ i). here c (omega arith)) (cases_lt i c);
  }
    where
      here : (c : ℕ) → i ≡ c → row_at (slice_set frees i set) c ≡ free_code (code_at bodies c)
      here c same = subst (λ k. row_at (slice_set frees i set) k ≡ free_code (code_at bodies k)) same (row_at-set_same frees i set (omega (arith, done.len)) ∙ free_here set a s)
