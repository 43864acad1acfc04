-- The same passes in the same order are the same number of passes of each point.
use Rattle.std.proofs.Common.{length, length-append, ◌≡◌, ℕ, zero, suc, ◌+◌, List, Option, Some, None, Bool, true, false, cond, ◌&&◌, ◌==◌, refl, sym, ap, ap₂, ◌∙◌, subst, arith, eqb-true, eq-eqb, ◌<◌, ◌≤◌, le_refl, ⊎_elim}
use Rattle.std.proofs.lemmas.Bool.{cases_lt}
use Rattle.simulation.proofs.Simulation.{from_on}
use Rattle.std.proofs.Common.{◌⊎◌, inl, inr, IsTrue}
use Rattle.smlc_base.specs.declared.point.Point.{Point}
use Rattle.smlc_base.specs.declared.point.PointKind.{PointKind}
use Rattle.smlc_base.specs.declared.point.PointKind.TheVariants.{Fn, Ret, Caught, Popped, Eq}
use Rattle.simulation.specs.Runs.{Run, Arena, times, visible, listed, seen, one_pass, passes_before}
use Rattle.smlc_base.specs.Points.{is_same_kind, is_point, is_label}
use Rattle.simulation.specs.Keeps.{ReachesNoMore, Follows, IsNthPass, EntriesArePasses}
use Rattle.simulation.proofs.Lists.{both_true, times-append}
use Rattle.simulation.proofs.Seen.{visible_some, visible_of}

pub same_kind_eq : (r s : PointKind) → is_same_kind r s ≡ true → r ≡ s
same_kind_eq Fn Fn h = refl
same_kind_eq Ret Ret h = refl
same_kind_eq Caught Caught h = refl
same_kind_eq Popped Popped h = refl
same_kind_eq Eq Eq h = refl
same_kind_eq _ _ h = cc

-- the test finds the point itself and no other
pub point_eq : (p q : Point) → is_point p q ≡ true → p ≡ q
point_eq p q h =
    let t = both_true (p.node == q.node) (is_same_kind p.kind q.kind) h in
    ap₂ (λ n r. let x : Point = record { node = n; kind = r } in x) (eqb-true p.node q.node t.0) (same_kind_eq p.kind q.kind t.1)

one_times : (labels : List Point) (p q : Point) (b c : Bool) → is_label labels q ≡ b → is_point q p ≡ c → is_label labels p ≡ true → times p (listed (cond b (Some q) None)) ≡ cond c 1 0
one_times labels p q true c e f l = ap (λ t. cond t 1 0) f
one_times labels p q false true e f l =
    let g : q ≡ p = point_eq q p f in
    let u : is_label labels q ≡ true = subst (λ t. is_label labels t ≡ true) (sym g) l in cc
one_times labels p q false false e f l = refl

listed_times : (labels : List Point) (p : Point) (o : Option Point) → is_label labels p ≡ true → times p (listed (visible labels o)) ≡ one_pass p o
listed_times labels p None l = refl
listed_times labels p (Some q) l = one_times labels p q (is_label labels q) (is_point q p) refl refl l

-- of a point that is seen, each pass is seen
pub times-seen : (labels : List Point) (p : Point) (r : Run) → is_label labels p ≡ true → (n : ℕ) → times p (seen labels r n) ≡ passes_before p r n
times-seen labels p r l zero = refl
times-seen labels p r l (suc n) =
    times-append p (seen labels r n) (listed (visible labels (r.pass n)))
    ∙ ap₂ (λ x y. x + y) (times-seen labels p r l n) (listed_times labels p (r.pass n) l)

-- steps with the same passes before them pass a point equally often before
nth_at : (full : Bool) (a b : Run) (p : Point) → is_label b.labels p ≡ true → (i n m : ℕ) → IsNthPass b p i n → visible b.labels (a.pass m) ≡ Some p → seen b.labels a m ≡ seen b.labels b n → IsNthPass a p i m
nth_at full a b p l i n m h v e = record {
  passes = visible_some b.labels (a.pass m) p v;
  after = sym (times-seen b.labels p a l m) ∙ ap (times p) e ∙ times-seen b.labels p b l n ∙ h.after;
}

-- at the i-th entry of each label of b, a passes the point for the i-th time
pub nth_entry : (full : Bool) (a b : Run) → Follows full a b → (p : Point) → is_label b.labels p ≡ true → (i n : ℕ) → IsNthPass b p i n → (m : ℕ) × IsNthPass a p i m × ReachesNoMore a m b n
nth_entry full a b f p l i n h =
    let e = f.entered n p (visible_of b.labels (b.pass n) p h.passes l) in
    (e.0, nth_at full a b p l i n e.0 h e.1 e.2, e.3)

-- and each such pass of a is entered
pub nth_pass : (full : Bool) (a b : Run) → Follows full a b → (p : Point) → is_label b.labels p ≡ true → (i m : ℕ) → IsNthPass a p i m → ((n : ℕ) × IsNthPass b p i n) ⊎ (IsTrue full × ((n : ℕ) × (b.end n ≡ Arena)))
nth_pass full a b f p l i m h =
    elim (f.passed m p (visible_of b.labels (a.pass m) p h.passes l)) [
      | inl e ↦ inl (e.0, record { passes = visible_some b.labels (b.pass e.0) p e.1; after = sym (times-seen b.labels p b l e.0) ∙ ap (times p) e.2 ∙ times-seen b.labels p a l m ∙ h.after })
      | inr e ↦ inr e
    ]

-- ---- The i-th pass is one step

pub point_is_one : (p : Point) → is_point p p ≡ true
point_is_one p = let e : (p.node == p.node) ≡ true = eq-eqb p.node p.node refl in ap (λ b. b && is_same_kind p.kind p.kind) e ∙ same_kind_one p.kind
  where
    same_kind_one : (k : PointKind) → is_same_kind k k ≡ true
    same_kind_one Fn = refl
    same_kind_one Ret = refl
    same_kind_one Caught = refl
    same_kind_one Popped = refl
    same_kind_one Eq = refl

passes_grow : (p : Point) (r : Run) (m n : ℕ) → m ≤ n → passes_before p r m ≤ passes_before p r n
passes_grow p r m n =
    from_on (λ n. passes_before p r m ≤ passes_before p r n) m (le_refl (passes_before p r m)) (λ n l h. omega arith) n

-- a pass counts
pass_counts : (p : Point) (r : Run) (m : ℕ) → r.pass m ≡ Some p → passes_before p r (suc m) ≡ suc (passes_before p r m)
pass_counts p r m e =
    let one : one_pass p (r.pass m) ≡ 1 = ap (one_pass p) e ∙ ap (λ b. cond b 1 0) (point_is_one p) in
    omega arith

not_before : (p : Point) (r : Run) (i m n : ℕ) → IsNthPass r p i m → IsNthPass r p i n → m < n → ⊥
not_before p r i m n h k l =
    let a = passes_grow p r (suc m) n l in
    let b = pass_counts p r m h.passes in
    let c = h.after in
    let d = k.after in
    absurd (omega arith)

pub nth_one : (p : Point) (r : Run) (i m n : ℕ) → IsNthPass r p i m → IsNthPass r p i n → m ≡ n
nth_one p r i m n h k =
    ⊎_elim (λ (l : m < n). absurd (not_before p r i m n h k l))
    (λ (l : n ≤ m). ⊎_elim (λ (g : n < m). absurd (not_before p r i n m k h g)) (λ (g : m ≤ n). omega arith) (cases_lt n m))
    (cases_lt m n)

-- ---- The order of entries

seen_grows : (labels : List Point) (r : Run) (m n : ℕ) → m ≤ n → length (seen labels r m) ≤ length (seen labels r n)
seen_grows labels r m n =
    from_on (λ n. length (seen labels r m) ≤ length (seen labels r n)) m (le_refl (length (seen labels r m))) (λ n l h.
    let e = length-append (seen labels r n) (listed (visible labels (r.pass n))) in omega arith) n

seen_counts : (labels : List Point) (r : Run) (n : ℕ) (p : Point) → visible labels (r.pass n) ≡ Some p → length (seen labels r (suc n)) ≡ suc (length (seen labels r n))
seen_counts labels r n p e =
    let f = length-append (seen labels r n) (listed (visible labels (r.pass n))) in
    let g : length (listed (visible labels (r.pass n))) ≡ 1 = ap (λ o. length (listed o)) e in
    omega arith

entries_in_order : (full : Bool) (a b : Run) → Follows full a b → (p q : Point) (i j n k m l : ℕ) → is_label b.labels p ≡ true → is_label b.labels q ≡ true → IsNthPass b p i n → IsNthPass b q j k → IsNthPass a p i m → IsNthPass a q j l → n < k → m < l
entries_in_order full a b f p q i j n k m l lp lq bn bk am al less =
    let vn = visible_of b.labels (b.pass n) p bn.passes lp in
    let x = f.entered n p vn in
    let y = f.entered k q (visible_of b.labels (b.pass k) q bk.passes lq) in
    let xm : x.0 ≡ m = nth_one p a i x.0 m (nth_at full a b p lp i n x.0 bn x.1 x.2) am in
    let yl : y.0 ≡ l = nth_one q a j y.0 l (nth_at full a b q lq j k y.0 bk y.1 y.2) al in
    let c = seen_counts b.labels b n p vn in
    let g = seen_grows b.labels b (suc n) k less in
    let ex : length (seen b.labels a m) ≡ length (seen b.labels b n) = ap (λ t. length (seen b.labels a t)) (sym xm) ∙ ap length x.2 in
    let ey : length (seen b.labels a l) ≡ length (seen b.labels b k) = ap (λ t. length (seen b.labels a t)) (sym yl) ∙ ap length y.2 in
    ⊎_elim (λ (h : m < l). h) (λ (h : l ≤ m). let d = seen_grows b.labels a l m h in absurd (omega arith)) (cases_lt m l)

pub entries_are_passes : (full : Bool) (a b : Run) → Follows full a b → EntriesArePasses full a b
entries_are_passes full a b f = record {
  entered = λ p i n l h. nth_entry full a b f p l i n h;
  passed = λ p i m l h. nth_pass full a b f p l i m h;
  in_order = entries_in_order full a b f;
}
