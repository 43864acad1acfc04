-- Each function of a body by number is one of the program's tree.
use Rattle.std.proofs.Common.{◌≡◌, ℕ, zero, suc, ◌<◌, Bool, true, false, cond, List, [], ◌∷◌, ◌++◌, Option, Some, map, flat_map, length, slice_get, inl, inr, ◌⊎◌, ⊎_elim, refl, sym, ap, ◌∙◌, subst, arith, nat_eq}
use Rattle.std.specs.Prelude.{◌||◌}
use Rattle.std.specs.List.{AllByRecursion}
use Rattle.std.proofs.lemmas.Bool.{eq-eqb, eqb-true}
use Rattle.smlc_base.specs.declared.point.Point.{Point}
use Rattle.simulation.specs.Blocks.{IsAmong}
use Rattle.simulation.proofs.Lists.{among_left, among_right, among_append}
use Rattle.sml_tree.specs.Sets.{has}
use Rattle.cps_ir.specs.declared.body.Function.{Function as Entry}
use Rattle.cps_ir.specs.declared.body.Bind.{Bind}
use Rattle.cps_ir.specs.declared.body.Bind.TheVariants as bind
use Rattle.cps_ir.specs.declared.body.Rule.{Rule as Chosen}
use Rattle.cps_ir.specs.declared.body.End.{End}
use Rattle.cps_ir.specs.declared.body.End.TheVariants as end
use Rattle.cps_ir.specs.declared.body.Body.{Body}
use Rattle.cps_ir.specs.Code.{Code, Halt}
use Rattle.cps_ir.specs.Program.{Cps, functions_of, rules_of, code_of_end, code_of_bind, code_of_binds, code_of_body, code_at}
use Rattle.cps_ir.specs.Kept.{IsProgram, bind_parts, end_parts, body_parts}
use Rattle.cps_ir.specs.Slim.{Layout, layouts, layouts_functions, layouts_rules}
use Rattle.cps_free.proofs.Unfold.{all_with, code_unfold}
use Rattle.closed_functions.specs.Round.{NamedOnce}
use Rattle.closed_functions.proofs.Names.{layouts_named_once}
use Rattle.close_laws.specs.Layouts.{facts, layout_named, point_of}
use Rattle.close_laws.specs.Close.{design_of}
use Rattle.close_laws.specs.Lower.{Design}
use Rattle.close_bodies.specs.Bodies.{IsBound}
use Rattle.close_names.specs.Names.{ProgramsAreBound}
use Rattle.close_names.proofs.Pigeons.{all_there}

-- ---- What stands in a body's tree

module _ (part : ℕ → Code) where
  abbrev In : List Layout → ℕ → Type 0
  In ls j = (l : Layout) → IsAmong l (layouts (part j)) → IsAmong l ls

  wider : (ls ks : List Layout) → ((l : Layout) → IsAmong l ls → IsAmong l ks) → (js : List ℕ) → AllByRecursion (In ls) js → AllByRecursion (In ks) js
  wider ls ks f js h = all_with (In ls) (In ks) (λ j g l m. f l (g l m)) js h

  functions_in : (fs : List Entry) → AllByRecursion (In (layouts_functions (functions_of part fs))) (map (λ f. f.body) fs)
  functions_in [] = tt
  functions_in (f ∷ fs) =
      let mine = layouts (part f.body) in
      let rest = layouts_functions (functions_of part fs) in
      let all = layouts_functions (functions_of part (f ∷ fs)) in
      (λ l m. inr (among_left l mine rest m), wider rest all (λ l m. inr (among_right l mine rest m)) (map (λ g. g.body) fs) (functions_in fs))

  rules_in : (rules : List Chosen) (otherwise : ℕ) → AllByRecursion (In (layouts_rules (rules_of part rules otherwise))) (map (λ r. r.body) rules ++ otherwise ∷ [])
  rules_in [] otherwise = (λ l m. m, tt)
  rules_in (r ∷ rules) otherwise =
      let mine = layouts (part r.body) in
      let rest = layouts_rules (rules_of part rules otherwise) in
      (λ l m. among_left l mine rest m, wider rest (mine ++ rest) (λ l m. among_right l mine rest m) (map (λ r. r.body) rules ++ otherwise ∷ []) (rules_in rules otherwise))

  end_in : (e : End) → AllByRecursion (In (layouts (code_of_end part e))) (end_parts e)
  end_in (end.Equal a b truth k) = tt
  end_in (end.Call a atoms) = tt
  end_in (end.Match a rules otherwise) = rules_in rules otherwise
  end_in (end.Throw a) = tt
  end_in end.Halt = tt

  -- what is behind a binding stands in the whole
  pub behind_in : (b : Bind) (c : Code) (l : Layout) → IsAmong l (layouts c) → IsAmong l (layouts (code_of_bind part b c))
  behind_in (bind.Make x shape atoms) c l m = m
  behind_in (bind.Pick x i a) c l m = m
  behind_in (bind.Prim x f atoms) c l m = m
  behind_in (bind.Fix fs) c l m = among_right l (layouts_functions (functions_of part fs)) (layouts c) m
  behind_in (bind.Handler x) c l m = m
  behind_in (bind.SetHandler a) c l m = m

  bind_in : (b : Bind) (c : Code) → AllByRecursion (In (layouts (code_of_bind part b c))) (bind_parts b)
  bind_in (bind.Make x shape atoms) c = tt
  bind_in (bind.Pick x i a) c = tt
  bind_in (bind.Prim x f atoms) c = tt
  bind_in (bind.Fix fs) c =
      let mine = layouts_functions (functions_of part fs) in
      wider mine (mine ++ layouts c) (λ l m. among_left l mine (layouts c) m) (map (λ f. f.body) fs) (functions_in fs)
  bind_in (bind.Handler x) c = tt
  bind_in (bind.SetHandler a) c = tt

  joined : (P : ℕ → Type 0) (xs ys : List ℕ) → AllByRecursion P xs → AllByRecursion P ys → AllByRecursion P (xs ++ ys)
  joined P [] ys h k = k
  joined P (x ∷ xs) ys h k = (h.0, joined P xs ys h.1 k)

  binds_in : (bs : List Bind) (c : Code) (js : List ℕ) → AllByRecursion (In (layouts c)) js → AllByRecursion (In (layouts (code_of_binds part bs c))) (flat_map bind_parts bs)
  binds_in [] c js h = tt
  binds_in (b ∷ bs) c js h =
      let rest = code_of_binds part bs c in
      joined (In (layouts (code_of_bind part b rest))) (bind_parts b) (flat_map bind_parts bs) (bind_in b rest)
      (wider (layouts rest) (layouts (code_of_bind part b rest)) (behind_in b rest) (flat_map bind_parts bs) (binds_in bs c js h))

  all_behind : (bs : List Bind) (c : Code) (l : Layout) → IsAmong l (layouts c) → IsAmong l (layouts (code_of_binds part bs c))
  all_behind [] c l m = m
  all_behind (b ∷ bs) c l m = behind_in b (code_of_binds part bs c) l (all_behind bs c l m)

  body_in : (b : Body) → AllByRecursion (In (layouts (code_of_body part (Some b)))) (body_parts b)
  body_in b =
      let last = code_of_end part b.end in
      joined (In (layouts (code_of_body part (Some b)))) (flat_map bind_parts b.binds) (end_parts b.end)
      (binds_in b.binds last (end_parts b.end) (end_in b.end))
      (wider (layouts last) (layouts (code_of_body part (Some b))) (all_behind b.binds last) (end_parts b.end) (end_in b.end))

  -- ---- Its own functions

  module _ (known : ℕ → Option Point) where
    abbrev Known : List Layout → Type 0
    Known ls = (l : Layout) → IsAmong l ls → known l.name ≡ Some l.point

    functions_known : (fs : List Entry) → Known (layouts_functions (functions_of part fs)) → AllByRecursion (λ f. known f.name ≡ Some f.point) fs
    functions_known [] h = tt
    functions_known (f ∷ fs) h =
        let mine = layouts (part f.body) in
        let rest = layouts_functions (functions_of part fs) in
        (h _ (inl refl), functions_known fs (λ l m. h l (inr (among_right l mine rest m))))

module _ (S : Design) (part : ℕ → Code) where
  behind_known : (b : Bind) (c : Code) → Known part S.known (layouts (code_of_bind part b c)) → Known part S.known (layouts c)
  behind_known b c h l m = h l (behind_in part b c l m)

  bind_known : (b : Bind) (c : Code) → Known part S.known (layouts (code_of_bind part b c)) → IsBound S b
  bind_known (bind.Make x shape atoms) c h = tt
  bind_known (bind.Pick x i a) c h = tt
  bind_known (bind.Prim x f atoms) c h = tt
  bind_known (bind.Fix fs) c h = functions_known part S.known fs (λ l m. h l (among_left l (layouts_functions (functions_of part fs)) (layouts c) m))
  bind_known (bind.Handler x) c h = tt
  bind_known (bind.SetHandler a) c h = tt

  binds_known : (bs : List Bind) (c : Code) → Known part S.known (layouts (code_of_binds part bs c)) → AllByRecursion (IsBound S) bs
  binds_known [] c h = tt
  binds_known (b ∷ bs) c h =
      let rest = code_of_binds part bs c in
      (bind_known b rest h, binds_known bs c (behind_known b rest h))

-- ---- A function is found by its name

named : (ls : List Layout) → NamedOnce ls → (l : Layout) → IsAmong l ls → layout_named ls l.name ≡ Some l
named [] once l m = absurd m
named (k ∷ ls) once l m = by (nat_eq k.name l.name) refl (⊎_elim (λ (e : l ≡ k). inl e) (λ (i : IsAmong l ls). inr (i, named ls (λ a b u v. once a b (inr u) (inr v)) l i)) m)
  where
    by : (w : Bool) → nat_eq k.name l.name ≡ w → (l ≡ k) ⊎ (IsAmong l ls × (layout_named ls l.name ≡ Some l)) → cond w (Some k) (layout_named ls l.name) ≡ Some l
    by true e h = ap Some (once k l (inl refl) m (eqb-true k.name l.name e))
    by false e (inl same) = absurd (let z : true ≡ false = sym (eq-eqb k.name l.name (ap (λ (j : Layout). j.name) (sym same))) ∙ e in cc)
    by false e (inr h) = h.1

-- ---- Each body stands in the first

-- a number of a list of parts is one of some body's
owner : (bodies : List Body) (j : ℕ) → IsAmong j (flat_map body_parts bodies) → (i : ℕ) × (b : Body) × (slice_get bodies i ≡ Some b) × IsAmong j (body_parts b)
owner [] j m = absurd m
owner (b ∷ bodies) j m =
    ⊎_elim (λ (h : IsAmong j (body_parts b)). (zero, b, refl, h))
    (λ (h : IsAmong j (flat_map body_parts bodies)). let r = owner bodies j h in (suc r.0, r.1, r.2, r.3))
    (among_append j (body_parts b) (flat_map body_parts bodies) m)

all_among : (P : ℕ → Type 0) (xs : List ℕ) (x : ℕ) → AllByRecursion P xs → IsAmong x xs → P x
all_among P [] x h m = absurd m
all_among P (y ∷ ys) x h (inl e) = subst P (sym e) h.0
all_among P (y ∷ ys) x h (inr m) = all_among P ys x h.1 m

has_among : (xs : List ℕ) (x : ℕ) → has xs x ≡ true → IsAmong x xs
has_among [] x h = absurd (cc)
has_among (y ∷ ys) x h = by (nat_eq x y) refl h (has_among ys x)
  where
    by : (w : Bool) → nat_eq x y ≡ w → (w || has ys x) ≡ true → (has ys x ≡ true → IsAmong x ys) → IsAmong x (y ∷ ys)
    by true e g r = inl (eqb-true x y e)
    by false e g r = inr (r g)

-- parts are not the first body, and are bodies
parts_range : (n : ℕ) (bodies : List Body) → ((i : ℕ) (b : Body) → slice_get bodies i ≡ Some b → AllByRecursion (λ c. (0 < c) × (c < n)) (body_parts b)) → AllByRecursion (λ c. (0 < c) × (c < n)) (flat_map body_parts bodies)
parts_range n [] h = tt
parts_range n (b ∷ bodies) h = joined (λ c. Halt) (λ c. (0 < c) × (c < n)) (body_parts b) (flat_map body_parts bodies) (h 0 b refl) (parts_range n bodies (λ i c e. h (suc i) c e))

none_first : (n : ℕ) (xs : List ℕ) → AllByRecursion (λ c. (0 < c) × (c < n)) xs → has xs 0 ≡ false
none_first n [] h = refl
none_first n (zero ∷ xs) h = absurd (let l = h.0.0 in omega (arith, l))
none_first n (suc x ∷ xs) h = let e : nat_eq 0 (suc x) ≡ false = grind arith in ap (λ w. w || has xs 0) e ∙ none_first n xs h.1

module _ (q : Cps) (kept : IsProgram q) where
  abbrev parts : List ℕ
  parts = flat_map body_parts q.bodies

  range : AllByRecursion (λ c. (0 < c) × (c < length q.bodies)) parts
  range =
      parts_range (length q.bodies) q.bodies (λ i b e. all_with (λ c. (i < c) × (c < length q.bodies)) (λ c. (0 < c) × (c < length q.bodies)) (λ c h. (let l = h.0 in omega (arith, l), h.1)) (body_parts b) (kept.numbered i b e))

  is_part : (j : ℕ) → 0 < j → j < length q.bodies → IsAmong j parts
  is_part zero h g = absurd (omega (arith, h))
  is_part (suc j) h g =
      let none = none_first (length q.bodies) parts range in
      let n = kept.one_tree in
      let all = all_there (length q.bodies) (0 ∷ parts) (suc j) (none, kept.apart) (omega (arith, h, g), all_with (λ c. (0 < c) × (c < length q.bodies)) (λ c. c < length q.bodies) (λ c r. r.1) parts range) n g in
      ⊎_elim (λ (e : suc j ≡ 0). absurd (omega (arith, e))) (λ (i : IsAmong (suc j) parts). i) (has_among (0 ∷ parts) (suc j) all)

  pub stands : (n j : ℕ) → j < n → j < length q.bodies → (l : Layout) → IsAmong l (layouts (code_at q.bodies j)) → IsAmong l (layouts (code_at q.bodies 0))
  stands zero j h g l m = absurd (omega (arith, h))
  stands (suc n) zero h g l m = m
  stands (suc n) (suc j) h g l m =
      let o = owner q.bodies (suc j) (is_part (suc j) (omega arith) g) in
      let r = all_among (λ c. (o.0 < c) × (c < length q.bodies)) (body_parts o.1) (suc j) (kept.numbered o.0 o.1 o.2) o.3 in
      let less = r.0 in
      stands n o.0 (omega (arith, h, less)) (omega (arith, g, less)) l
      (subst (λ c. IsAmong l (layouts c)) (sym (code_unfold q.bodies kept.numbered o.0 o.1 o.2))
      (all_among (In (code_at q.bodies) (layouts (code_of_body (code_at q.bodies) (Some o.1)))) (body_parts o.1) (suc j) (body_in (code_at q.bodies) o.1) o.3 l m))

  all_known : (l : Layout) → IsAmong l (layouts (code_at q.bodies 0)) → (design_of (facts q.variables (code_at q.bodies 0))).known l.name ≡ Some l.point
  all_known l m = ap point_of (named (layouts (code_at q.bodies 0)) (layouts_named_once (code_at q.bodies 0) kept.once) l m)

pub some_within : (bodies : List Body) (i : ℕ) (b : Body) → slice_get bodies i ≡ Some b → i < length bodies
some_within [] i b e = absurd (cc)
some_within (c ∷ bodies) zero b e = omega arith
some_within (c ∷ bodies) (suc i) b e = let h = some_within bodies i b e in omega (arith, h)

pub programs : ProgramsAreBound
programs q kept i b e =
    binds_known (design_of (facts q.variables (code_at q.bodies 0))) (code_at q.bodies) b.binds (code_of_end (code_at q.bodies) b.end)
    (λ l m. all_known q kept l (stands q kept (suc i) i (omega arith) (some_within q.bodies i b e) l
    (subst (λ c. IsAmong l (layouts c)) (sym (code_unfold q.bodies kept.numbered i b e)) m)))
