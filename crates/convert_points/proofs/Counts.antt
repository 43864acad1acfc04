-- What a count of a body's functions says of its points.
use Rattle.std.proofs.Common.{◌≡◌, ℕ, suc, ◌+◌, ◌≤◌, Bool, true, false, cond, List, [], ◌∷◌, ◌++◌, refl, sym, ap, ◌∙◌, subst, arith, inl, inr, ◌⊎◌}
use Rattle.std.specs.Prelude.{◌≢◌, ◌==◌, ◌&&◌}
use Rattle.smlc_base.specs.declared.point.Point.{Point}
use Rattle.smlc_base.specs.declared.point.PointKind.{PointKind}
use Rattle.smlc_base.specs.declared.point.PointKind.TheVariants.{Fn, Ret, Caught, Popped, Eq}
use Rattle.smlc_base.specs.Points.{is_point, is_same_kind}
use Rattle.simulation.specs.Blocks.{IsAmong}
use Rattle.simulation.specs.Runs.{times}
use Rattle.simulation.proofs.Lists.{times-append, among_append}
use Rattle.simulation.proofs.Nth.{point_is_one}
use Rattle.sml_def.specs.Run.{eq_point}
use Rattle.cps_ir.specs.Code.{Code, Make, Pick, Prim, Equal, Fix, Call, Match, Handler, SetHandler, Throw, Halt, Functions, NoFunction, Function, Rules, Otherwise, Rule}
use Rattle.cps_ir.specs.Free.{labels, labels_functions, labels_rules}
use Rattle.cps_ir.specs.Slim.{Layout, layouts, layouts_functions, layouts_rules}
use Rattle.convert_points.specs.Made.{one, count, count_functions, count_rules}

pub times_first : (p q : Point) (qs : List Point) → times p (q ∷ qs) ≡ one p q + times p qs
times_first p q qs = go (is_point q p)
  where
    go : (b : Bool) → cond b (suc (times p qs)) (times p qs) ≡ cond b 1 0 + times p qs
    go true = omega arith
    go false = omega arith

both_off : (a b : Bool) → b ≡ false → (a && b) ≡ false
both_off true b h = h
both_off false b h = refl

-- points of two kinds are two
pub apart : (p q : Point) → p.kind ≡ Eq → q.kind ≢ Eq → one p q ≡ 0
apart p q e f = ap (λ b. cond b 1 0) (both_off (q.node == p.node) (is_same_kind q.kind p.kind) (subst (λ k. is_same_kind q.kind k ≡ false) (sym e) (other q.kind f)))
  where
    other : (k : PointKind) → k ≢ Eq → is_same_kind k Eq ≡ false
    other Fn h = refl
    other Ret h = refl
    other Caught h = refl
    other Popped h = refl
    other Eq h = absurd (h refl)

off : (b : Bool) → b ≡ false → cond {A = ℕ} b 1 0 ≡ 0
off b e = ap (λ (c : Bool). cond {A = ℕ} c 1 0) e

not_comparing : (k : PointKind) → k ≢ Eq → is_same_kind Eq k ≡ false
not_comparing Fn h = refl
not_comparing Ret h = refl
not_comparing Caught h = refl
not_comparing Popped h = refl
not_comparing Eq h = absurd (h refl)

-- ---- The points of a body that is counted

module _ (p : Point) (h : p.kind ≢ Eq) where
  no_comparison : times p (eq_point ∷ []) ≡ 0
  no_comparison =
      off (is_point eq_point p) (both_off (eq_point.node == p.node) (is_same_kind Eq p.kind) (not_comparing p.kind h))

  mutual
    pub counted : (c : Code) → times p (labels c) ≡ count p c
    counted (Make x shape atoms c) = counted c
    counted (Pick x i a c) = counted c
    counted (Prim x f atoms c) = counted c
    counted (Equal a b truth k) = no_comparison
    counted (Fix fs c) =
        let both = times-append p (labels_functions fs) (labels c) in
        let first = counted_functions fs in
        let rest = counted c in
        omega (arith, both, first, rest)
    counted (Call a atoms) = refl
    counted (Match a rules) = counted_rules rules
    counted (Handler x c) = counted c
    counted (SetHandler a c) = counted c
    counted (Throw a) = refl
    counted Halt = refl

    counted_functions : (fs : Functions) → times p (labels_functions fs) ≡ count_functions p fs
    counted_functions NoFunction = refl
    counted_functions (Function f q params body fs) =
        let here = times_first p q (labels body ++ labels_functions fs) in
        let both = times-append p (labels body) (labels_functions fs) in
        let first = counted body in
        let rest = counted_functions fs in
        omega (arith, here, both, first, rest)

    counted_rules : (rules : Rules) → times p (labels_rules rules) ≡ count_rules p rules
    counted_rules (Otherwise c) = counted c
    counted_rules (Rule tests c rules) =
        let both = times-append p (labels c) (labels_rules rules) in
        let first = counted c in
        let rest = counted_rules rules in
        omega (arith, both, first, rest)

-- ---- Each function is counted

pub one_self : (p : Point) → one p p ≡ 1
one_self p = ap (λ b. cond b 1 0) (point_is_one p)

-- what stands in one of two is counted
in_either : (A B : Type 0) (x y : ℕ) → A ⊎ B → (A → 1 ≤ x) → (B → 1 ≤ y) → 1 ≤ x + y
in_either A B x y (inl a) f g = let here = f a in omega (arith, here)
in_either A B x y (inr b) f g = let here = g b in omega (arith, here)

behind : (x y : ℕ) → 1 ≤ y → 1 ≤ x + y
behind x y h = omega (arith, h)

module _ (l : Layout) where
  first_found : (q : Point) (k : Layout) (rest : ℕ) → l ≡ k → k.point ≡ q → 1 ≤ one l.point q + rest
  first_found q k rest e f =
      let here : one l.point q ≡ 1 = subst (λ r. one l.point r ≡ 1) (ap (λ (j : Layout). j.point) e ∙ f) (one_self l.point) in
      omega (arith, here)

  mutual
    pub found : (c : Code) → IsAmong l (layouts c) → 1 ≤ count l.point c
    found (Make x shape atoms c) m = found c m
    found (Pick x i a c) m = found c m
    found (Prim x f atoms c) m = found c m
    found (Equal a b truth k) m = absurd m
    found (Fix fs c) m =
        in_either (IsAmong l (layouts_functions fs)) (IsAmong l (layouts c)) (count_functions l.point fs) (count l.point c) (among_append l (layouts_functions fs) (layouts c) m) (λ a. found_functions fs a) (λ a. found c a)
    found (Call a atoms) m = absurd m
    found (Match a rules) m = found_rules rules m
    found (Handler x c) m = found c m
    found (SetHandler a c) m = found c m
    found (Throw a) m = absurd m
    found Halt m = absurd m

    found_functions : (fs : Functions) → IsAmong l (layouts_functions fs) → 1 ≤ count_functions l.point fs
    found_functions NoFunction m = absurd m
    found_functions (Function f q params body fs) (inl e) =
        first_found q _ (count l.point body + count_functions l.point fs) e refl
    found_functions (Function f q params body fs) (inr m) =
        behind (one l.point q) (count l.point body + count_functions l.point fs)
        (in_either (IsAmong l (layouts body)) (IsAmong l (layouts_functions fs)) (count l.point body) (count_functions l.point fs) (among_append l (layouts body) (layouts_functions fs) m) (λ a. found body a) (λ a. found_functions fs a))

    found_rules : (rules : Rules) → IsAmong l (layouts_rules rules) → 1 ≤ count_rules l.point rules
    found_rules (Otherwise c) m = found c m
    found_rules (Rule tests c rules) m =
        in_either (IsAmong l (layouts c)) (IsAmong l (layouts_rules rules)) (count l.point c) (count_rules l.point rules) (among_append l (layouts c) (layouts_rules rules) m) (λ a. found c a) (λ a. found_rules rules a)
