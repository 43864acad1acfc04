-- A table of what lives, filled from the last body down, and what lives along a body.
use Rattle.std.proofs.Common.{◌≡◌, ℕ, suc, ◌-◌, ◌<◌, ◌≤◌, List, [], ◌∷◌, ◌++◌, Some, length, map, drop, refl, sym, ap, ◌∙◌, subst, arith, length-set, ⊎_elim}
use Rattle.std.specs.Prelude.{slice_get, slice_set, slice_index_or}
use Rattle.std.specs.List.{AllByRecursion}
use Rattle.std.proofs.Math.Seq.{drop-cons}
use Rattle.std.proofs.lemmas.Bool.{cases_lt}
use Rattle.std.proofs.lemmas.Option.{unwrap_or-slice_get}
use Rattle.std.proofs.lemmas.List.{get_or-set_same, get_or-set_other}
use Rattle.sml_tree.specs.Sets.{row_at}
use Rattle.closure_ir.specs.declared.operand.Operand.{Operand}
use Rattle.closure_ir.specs.declared.body.Bind.{Bind}
use Rattle.closure_ir.specs.declared.body.Bind.TheVariants as bind
use Rattle.closure_ir.specs.declared.body.Rule.{Rule}
use Rattle.closure_ir.specs.declared.body.End.{End}
use Rattle.closure_ir.specs.declared.body.End.TheVariants as end
use Rattle.closure_ir.specs.declared.body.Body.{Body}
use Rattle.closure_ir.specs.Code.{Code}
use Rattle.closure_ir.specs.Program.{code_of_rules, code_of_end, code_of_bind, code_of_binds, code_of_body, code_at}
use Rattle.closure_ir.specs.Kept.{end_parts, body_parts}
use Rattle.place_laws.specs.Live.{is_in, without, without_all, used_by, all_used_by, used_by_makers, used_by_tests, names_of, live}
use Rattle.closed_live.specs.Same.{AreSame}
use Rattle.closed_live.specs.Rows.{bind_live, binds_live, rule_live, rules_live, end_live, body_live, AreAlong, AreLive}
use Rattle.closed_live.proofs.Sets.{same_trans, append_same, behind_same, assoc_same, without_same, without_all_same}
use Rattle.closed_live.proofs.Unfold.{AreNumbered, all_with, code_unfold}

-- ---- Before one more binding

pub bind_live_same : (b : Bind) (xs ys : List ℕ) → AreSame xs ys → AreSame (bind_live b xs) (bind_live b ys)
bind_live_same (bind.Make makers) xs ys h = behind_same (used_by_makers makers) (without_all (names_of makers) xs) (without_all (names_of makers) ys) (without_all_same (names_of makers) xs ys h)
bind_live_same (bind.Let x o) xs ys h = behind_same (used_by o) (without x xs) (without x ys) (without_same x xs ys h)
bind_live_same (bind.Prim x f os) xs ys h = behind_same (all_used_by os) (without x xs) (without x ys) (without_same x xs ys h)
bind_live_same (bind.Handler x) xs ys h = without_same x xs ys h
bind_live_same (bind.SetHandler o) xs ys h = behind_same (used_by o) xs ys h

pub binds_live_same : (bs : List Bind) (xs ys : List ℕ) → AreSame xs ys → AreSame (binds_live bs xs) (binds_live bs ys)
binds_live_same [] xs ys h = h
binds_live_same (b ∷ bs) xs ys h = bind_live_same b (binds_live bs xs) (binds_live bs ys) (binds_live_same bs xs ys h)

front : (binds : List Bind) (i : ℕ) (d : Bind) → i < length binds → drop i binds ≡ slice_index_or binds i d ∷ drop (suc i) binds
front binds i d lt = drop-cons binds i d lt

pub back_more : (binds : List Bind) (i : ℕ) (d : Bind) (last old new : List ℕ) → 0 < i → i ≤ length binds → AreSame old (binds_live (drop i binds) last) → AreSame new (bind_live (slice_index_or binds (i - 1) d) old) → AreSame new (binds_live (drop (i - 1) binds) last)
back_more binds i d last old new pos le h g =
    let b = slice_index_or binds (i - 1) d in
    let next : suc (i - 1) ≡ i = omega arith in
    let e : drop (i - 1) binds ≡ b ∷ drop i binds = front binds (i - 1) d (omega arith) ∙ ap (λ k. b ∷ drop k binds) next in
    subst (λ bs. AreSame new (binds_live bs last)) (sym e)
    (same_trans new (bind_live b old) (bind_live b (binds_live (drop i binds) last)) g (bind_live_same b old (binds_live (drop i binds) last) h))

-- ---- The same as of the tree

module _ (p : ℕ → Code) where
  abbrev F : ℕ → List ℕ
  F c = live (p c)

  rules_are : (o : Operand) (rules : List Rule) (otherwise : ℕ) → AreSame (live (code_of_rules p o rules otherwise)) (rules_live F o rules ++ F otherwise)
  rules_are o [] otherwise = λ z. refl
  rules_are o (r ∷ rules) otherwise =
      let us = used_by o in
      let vs = used_by_tests r.tests in
      let here = F r.body in
      let rest = live (code_of_rules p o rules otherwise) in
      let more = rules_live F o rules ++ F otherwise in
      same_trans ((us ++ vs) ++ (here ++ rest)) ((us ++ vs) ++ (here ++ more)) ((rule_live F o r ++ rules_live F o rules) ++ F otherwise)
      (behind_same (us ++ vs) (here ++ rest) (here ++ more) (behind_same here rest more (rules_are o rules otherwise)))
      (same_trans ((us ++ vs) ++ (here ++ more)) (((us ++ vs) ++ here) ++ more) ((rule_live F o r ++ rules_live F o rules) ++ F otherwise)
      (assoc_same (us ++ vs) here more)
      (same_trans (((us ++ vs) ++ here) ++ more) ((us ++ (vs ++ here)) ++ more) ((rule_live F o r ++ rules_live F o rules) ++ F otherwise)
      (append_same ((us ++ vs) ++ here) (us ++ (vs ++ here)) more more (λ z. sym (assoc_same us vs here z)) (λ z. refl))
      (assoc_same (rule_live F o r) (rules_live F o rules) (F otherwise))))

  end_is : (e : End) → AreSame (live (code_of_end p e)) (end_live F e)
  end_is (end.Equal a b truth k) = λ z. refl
  end_is (end.Call t a os) = λ z. refl
  end_is (end.Match o rules otherwise) = rules_are o rules otherwise
  end_is (end.Throw o) = λ z. refl
  end_is end.Halt = λ z. refl

  bind_is : (b : Bind) (c : Code) → live (code_of_bind b c) ≡ bind_live b (live c)
  bind_is (bind.Make makers) c = refl
  bind_is (bind.Let x o) c = refl
  bind_is (bind.Prim x f os) c = refl
  bind_is (bind.Handler x) c = refl
  bind_is (bind.SetHandler o) c = refl

  pub binds_are : (bs : List Bind) (c : Code) → live (code_of_binds bs c) ≡ binds_live bs (live c)
  binds_are [] c = refl
  binds_are (b ∷ bs) c = bind_is b (code_of_binds bs c) ∙ ap (bind_live b) (binds_are bs c)

-- ---- By the parts

module _ (f g : ℕ → List ℕ) where
  abbrev Agree : ℕ → Type 0
  Agree c = AreSame (f c) (g c)

  rules_by : (o : Operand) (rules : List Rule) (otherwise : ℕ) → AllByRecursion Agree (map (λ r. r.body) rules ++ otherwise ∷ []) → AreSame (rules_live f o rules ++ f otherwise) (rules_live g o rules ++ g otherwise)
  rules_by o [] otherwise h = h.0
  rules_by o (r ∷ rules) otherwise h =
      let one = rule_live f o r in
      let two = rule_live g o r in
      let fs = rules_live f o rules in
      let gs = rules_live g o rules in
      same_trans ((one ++ fs) ++ f otherwise) (one ++ (fs ++ f otherwise)) ((two ++ gs) ++ g otherwise) (λ z. sym (assoc_same one fs (f otherwise) z))
      (same_trans (one ++ (fs ++ f otherwise)) (two ++ (gs ++ g otherwise)) ((two ++ gs) ++ g otherwise)
      (append_same one two (fs ++ f otherwise) (gs ++ g otherwise)
      (behind_same (used_by o) (used_by_tests r.tests ++ f r.body) (used_by_tests r.tests ++ g r.body) (behind_same (used_by_tests r.tests) (f r.body) (g r.body) h.0))
      (rules_by o rules otherwise h.1))
      (assoc_same two gs (g otherwise)))

  pub end_by : (e : End) → AllByRecursion Agree (end_parts e) → AreSame (end_live f e) (end_live g e)
  end_by (end.Equal a b truth k) h = λ z. refl
  end_by (end.Call t a os) h = λ z. refl
  end_by (end.Match o rules otherwise) h = rules_by o rules otherwise h
  end_by (end.Throw o) h = λ z. refl
  end_by end.Halt h = λ z. refl

-- ---- The table

pub row_at-set_same : (rows : List (List ℕ)) (i : ℕ) (set : List ℕ) → i < length rows → row_at (slice_set rows i set) i ≡ set
row_at-set_same rows i set h = unwrap_or-slice_get (slice_set rows i set) i [] ∙ get_or-set_same rows i set [] h

pub row_at-set_other : (rows : List (List ℕ)) (i c : ℕ) (set : List ℕ) → i < c → row_at (slice_set rows i set) c ≡ row_at rows c
row_at-set_other rows i c set h =
    unwrap_or-slice_get (slice_set rows i set) c [] ∙ get_or-set_other rows i c set [] (omega arith) ∙ sym (unwrap_or-slice_get rows c [])

pub none_yet : (bodies : List Body) (lives : List (List ℕ)) → length lives ≡ length bodies → AreLive bodies (length bodies) lives
none_yet bodies lives e = record { len = e; at = λ c h g. absurd (omega arith) }

module _ (bodies : List Body) (numbered : AreNumbered bodies) (i : ℕ) (b : Body) (e : slice_get bodies i ≡ Some b) (lives : List (List ℕ)) (done : AreLive bodies (suc i) lives) where
  -- what the table gives for the end of a body lives before the end of its tree
  pub end_here : AreSame (end_live (row_at lives) b.end) (live (code_of_end (code_at bodies) b.end))
  end_here =
      same_trans (end_live (row_at lives) b.end) (end_live (λ c. live (code_at bodies c)) b.end) (live (code_of_end (code_at bodies) b.end))
      (end_by (row_at lives) (λ c. live (code_at bodies c)) b.end
      (all_with (λ c. (i < c) × (c < length bodies)) (λ c. AreSame (row_at lives c) (live (code_at bodies c))) (λ c h. done.at c h.0 h.1) (body_parts b) (numbered i b e)))
      (λ z. sym (end_is (code_at bodies) b.end z))

  -- and the same for all of it
  live_here : AreSame (body_live (row_at lives) b) (live (code_at bodies i))
  live_here =
      same_trans (body_live (row_at lives) b) (binds_live b.binds (live (code_of_end (code_at bodies) b.end))) (live (code_at bodies i))
      (binds_live_same b.binds (end_live (row_at lives) b.end) (live (code_of_end (code_at bodies) b.end)) end_here)
      (λ z. sym (ap (is_in z) (ap live (code_unfold bodies numbered i b e) ∙ binds_are (code_at bodies) b.binds (code_of_end (code_at bodies) b.end))))

  pub done_down : i < length bodies → (set : List ℕ) → AreSame set (body_live (row_at lives) b) → AreLive bodies i (slice_set lives i set)
  done_down lt set s = record {
    len = length-set lives i set ∙ done.len;
    at = λ c h g. ⊎_elim (λ (k : i < c). other c k g) (λ (k : c ≤ i). here c (omega arith)) (cases_lt i c);
  }
    where
      other : (c : ℕ) → i < c → c < length bodies → AreSame (row_at (slice_set lives i set) c) (live (code_at bodies c))
      other c k g = subst (λ xs. AreSame xs (live (code_at bodies c))) (sym (row_at-set_other lives i c set k)) (done.at c k g)

      here : (c : ℕ) → i ≡ c → AreSame (row_at (slice_set lives i set) c) (live (code_at bodies c))
      here c same =
          subst (λ k. AreSame (row_at (slice_set lives i set) k) (live (code_at bodies k))) same
          (subst (λ xs. AreSame xs (live (code_at bodies i))) (sym (row_at-set_same lives i set (omega (arith, done.len)))) (same_trans set (body_live (row_at lives) b) (live (code_at bodies i)) s live_here))

-- ---- Along a body

pub along_down : (part : ℕ → List ℕ) (b : Body) (i : ℕ) (along : List (List ℕ)) (set : List ℕ) → 0 < i → i ≤ length b.binds → AreAlong part b i along → AreSame set (binds_live (drop i b.binds) (end_live part b.end)) → AreAlong part b (i - 1) (slice_set along (i - 1) set)
along_down part b i along set pos le done s = record {
  len = length-set along (i - 1) set ∙ done.len;
  at = λ k h g. ⊎_elim (λ (l : i - 1 < k). other k l g) (λ (l : k ≤ i - 1). here k (omega arith)) (cases_lt (i - 1) k);
}
  where
    other : (k : ℕ) → i - 1 < k → k < length b.binds → AreSame (row_at (slice_set along (i - 1) set) k) (binds_live (drop (suc k) b.binds) (end_live part b.end))
    other k l g = subst (λ xs. AreSame xs (binds_live (drop (suc k) b.binds) (end_live part b.end))) (sym (row_at-set_other along (i - 1) k set l)) (done.at k (omega arith) g)

    next : suc (i - 1) ≡ i
    next = omega arith

    here : (k : ℕ) → i - 1 ≡ k → AreSame (row_at (slice_set along (i - 1) set) k) (binds_live (drop (suc k) b.binds) (end_live part b.end))
    here k same =
        subst (λ j. AreSame (row_at (slice_set along (i - 1) set) j) (binds_live (drop (suc j) b.binds) (end_live part b.end))) same
        (subst (λ xs. AreSame xs (binds_live (drop (suc (i - 1)) b.binds) (end_live part b.end))) (sym (row_at-set_same along (i - 1) set (omega (arith, done.len))))
        (subst (λ j. AreSame set (binds_live (drop j b.binds) (end_live part b.end))) (sym next) s))

pub along_none : (part : ℕ → List ℕ) (b : Body) (along : List (List ℕ)) → length along ≡ length b.binds → AreAlong part b (length b.binds) along
along_none part b along e = record { len = e; at = λ k h g. absurd (omega arith) }
