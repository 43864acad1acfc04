-- Bodies that are written one after another make the tree of the definition.
use Rattle.std.proofs.Common.{◌≡◌, ℕ, zero, suc, ◌+◌, ◌≤◌, ◌<◌, Bool, List, [], ◌∷◌, ◌++◌, Some, length, map, flat_map, append_assoc, refl, sym, ap, ◌∙◌, subst, arith, slice_get, ⊎_elim}
use Rattle.std.specs.List.{AllByRecursion}
use Rattle.std.proofs.lemmas.Bool.{cases_lt}
use Rattle.simulation.proofs.Lists.{some_eq}
use Rattle.lambda_ir.specs.declared.term.Term.{Term}
use Rattle.cps_ir.specs.declared.body.Function.{Function as Entry}
use Rattle.cps_ir.specs.declared.body.Bind.{Bind}
use Rattle.cps_ir.specs.declared.body.Bind.TheVariants as bind
use Rattle.cps_ir.specs.declared.body.Rule.{Rule as Chosen}
use Rattle.cps_ir.specs.declared.body.End.{End}
use Rattle.cps_ir.specs.declared.body.End.TheVariants as end
use Rattle.cps_ir.specs.declared.body.Body.{Body}
use Rattle.cps_ir.specs.Code.{Code}
use Rattle.cps_ir.specs.Kept.{bind_parts, end_parts, body_parts, BodyKept}
use Rattle.cps_ir.specs.Program.{Cps, functions_of, rules_of, code_of_binds, code_of_body, code_of_end}
use Rattle.convert_kept.specs.Ranges.{CodeKept, FunctionsKept, RulesKept}
use Rattle.convert_kept.proofs.Kept.{kept_by_bodies}
use Rattle.convert_steps.specs.declared.task.Task.{Task}
use Rattle.convert_steps.specs.declared.task.Step.TheVariants as step
use Rattle.convert_steps.specs.declared.world.World.{World}
use Rattle.convert_steps.specs.Codes.{work_code}
use Rattle.convert_steps.specs.Writes.{AreFrom, AreCodes, IsCodeOf, Writes}
use Rattle.convert_steps.proofs.Grow.{stands_on}
use Rattle.convert_steps.proofs.Write.{codes_later}
use Rattle.convert_bodies.specs.Bodies.{AreWritten, none, more}
use Rattle.cps_convert.proofs.Numbers.{from_both, from_none, from_all, all_from, within}

-- each body has the tree of a number
abbrev pub HaveTrees : (ℕ → Code) → ℕ → List Body → Type 0
HaveTrees part at bodies = (i : ℕ) (b : Body) → slice_get bodies i ≡ Some b → part (at + i) ≡ code_of_body part (Some b)

module _ (part : ℕ → Code) where
  first_tree : (at : ℕ) (b : Body) (bodies : List Body) → HaveTrees part at (b ∷ bodies) → part at ≡ code_of_body part (Some b)
  first_tree at b bodies h = ap part (omega arith) ∙ h 0 b refl

  later_trees : (at : ℕ) (b : Body) (bodies : List Body) → HaveTrees part at (b ∷ bodies) → HaveTrees part (suc at) bodies
  later_trees at b bodies h = λ i c e. ap part (omega arith) ∙ h (suc i) c e

module _ (own : ℕ → Bool) (terms : List Term) where
  -- ---- Numbers

  pub record Counted (w u : World) (at : ℕ) (bodies : List Body) : Type 0 where
    pub all : AreFrom (length w.tasks) (length u.tasks) (flat_map body_parts bodies)
    pub each : (i : ℕ) (b : Body) → slice_get bodies i ≡ Some b → AllByRecursion (λ c. (at + i < c) × (c < length u.tasks)) (body_parts b)
    pub enough : at ≤ length w.tasks → at + length bodies ≤ length u.tasks

  no_body : (i : ℕ) (b : Body) → slice_get [] i ≡ Some b → ⊥
  no_body i b e = cc

  first_parts : (w v : World) (t : Task) (b : Body) → Writes own terms w [] v b.binds (λ σ κ. work_code own terms t.work σ κ t.next) t.scope t.continuation (step.Stop b.end) → AreFrom (length w.tasks) (length v.tasks) (body_parts b)
  first_parts w v t b h = h.bodies (length w.tasks) (from_none (length w.tasks))

  pub counted : (w u : World) (at : ℕ) (bodies : List Body) → AreWritten own terms w at bodies u → Counted w u at bodies
  counted _ _ _ _ (none w at) = record {
    all = from_none (length w.tasks);
    each = λ i b e. absurd (no_body i b e);
    enough = λ l. omega arith;
  }
  counted _ _ _ _ (more w v u at t b bodies here h later) =
      let rest = counted v u (suc at) bodies later in
      let first = first_parts w v t b h in
      let low = within w.tasks at t here in
      let up : length v.tasks ≤ length u.tasks = (let r = rest.all.up in omega arith) in
      let grown = h.grows.more in
      record {
        all = from_both (length w.tasks) (length v.tasks) (length u.tasks) (body_parts b) (flat_map body_parts bodies) first rest.all;
        each = each first rest.each low up;
        enough = λ l. let k = rest.enough (omega arith) in omega arith;
      }
    where
      each : AreFrom (length w.tasks) (length v.tasks) (body_parts b) → ((i : ℕ) (c : Body) → slice_get bodies i ≡ Some c → AllByRecursion (λ d. (suc at + i < d) × (d < length u.tasks)) (body_parts c)) → at < length w.tasks → length v.tasks ≤ length u.tasks → (i : ℕ) (c : Body) → slice_get (b ∷ bodies) i ≡ Some c → AllByRecursion (λ d. (at + i < d) × (d < length u.tasks)) (body_parts c)
      each first rest low up zero c e =
          some_eq (λ f. AllByRecursion (λ d. (at + 0 < d) × (d < length u.tasks)) (body_parts f)) b c e
          (from_all (λ d. (at + 0 < d) × (d < length u.tasks)) (length w.tasks) (length v.tasks) (body_parts b) first (λ d l k. (omega arith, omega arith)))
      each first rest low up (suc i) c e =
          subst (λ n. AllByRecursion (λ d. (n < d) × (d < length u.tasks)) (body_parts c)) (omega arith) (rest i c e)

  -- ---- Codes

  pub codes : (w u : World) (at : ℕ) (bodies : List Body) → AreWritten own terms w at bodies u → (part : ℕ → Code) → HaveTrees part at bodies → length u.tasks ≤ at + length bodies → AreCodes own terms w at part
  codes _ _ _ _ (none w at) part trees all = λ b t l e σ κ s. let k = within w.tasks b t e in absurd (omega arith)
  codes _ _ _ _ (more w v u at t b bodies here h later) part trees all =
      let behind = codes v u (suc at) bodies later part (later_trees part at b bodies trees) (omega arith) in
      let low = within w.tasks at t here in
      λ c r l e.
      ⊎_elim (λ (k : at < c). λ σ κ s. behind c r (omega arith) (h.grows.tasks c r e) σ κ (stands_on own terms w v r.scope r.continuation σ κ h.grows s))
      (λ (k : c ≤ at). let q : at ≡ c = omega arith in subst (λ d. IsCodeOf own terms w r (part d)) q (some_eq (λ (x : Task). IsCodeOf own terms w x (part at)) t r (sym here ∙ ap (slice_get w.tasks) q ∙ e) (written behind low)))
      (cases_lt at c)
    where
      written : AreCodes own terms v (suc at) part → at < length w.tasks → IsCodeOf own terms w t (part at)
      written behind low σ κ s =
          let left = h.code part (codes_later own terms v (suc at) (length w.tasks) part (omega arith) behind) σ κ s in
          first_tree part at b bodies trees ∙ sym (left.code ∙ ap (code_of_binds part b.binds) left.left)

-- ---- What bodies cite

all_both : {A : Type 0} (P : A → Type 0) (xs ys : List A) → AllByRecursion P xs → AllByRecursion P ys → AllByRecursion P (xs ++ ys)
all_both P [] ys a b = b
all_both P (x ∷ xs) ys a b = (a.0, all_both P xs ys a.1 b)

module _ (q : Cps) (part : ℕ → Code) where
  abbrev Kept : ℕ → Type 0
  Kept c = CodeKept q (part c)

  functions_kept : (fs : List Entry) → FunctionsKept q (functions_of part fs) → AllByRecursion Kept (map (λ f. f.body) fs)
  functions_kept [] h = tt
  functions_kept (f ∷ fs) h = (h.0, functions_kept fs h.1)

  rules_kept : (rules : List Chosen) (otherwise : ℕ) → RulesKept q (rules_of part rules otherwise) → AllByRecursion Kept (map (λ r. r.body) rules ++ otherwise ∷ [])
  rules_kept [] otherwise h = (h, tt)
  rules_kept (r ∷ rules) otherwise h = (h.1, rules_kept rules otherwise h.2)

  end_kept : (e : End) → CodeKept q (code_of_end part e) → AllByRecursion Kept (end_parts e)
  end_kept (end.Equal a b t k) h = tt
  end_kept (end.Call a atoms) h = tt
  end_kept (end.Match a rules otherwise) h = rules_kept rules otherwise h.1
  end_kept (end.Throw a) h = tt
  end_kept end.Halt h = tt

  parts_kept : (bs : List Bind) (e : End) → CodeKept q (code_of_binds part bs (code_of_end part e)) → AllByRecursion Kept (flat_map bind_parts bs ++ end_parts e)
  parts_kept [] e h = end_kept e h
  parts_kept (bind.Make x s atoms ∷ bs) e h = parts_kept bs e h.2
  parts_kept (bind.Pick x i a ∷ bs) e h = parts_kept bs e h.1
  parts_kept (bind.Prim x f atoms ∷ bs) e h = parts_kept bs e h.1
  parts_kept (bind.Fix fs ∷ bs) e h =
      subst (AllByRecursion Kept) (sym (append_assoc (map (λ f. f.body) fs) (flat_map bind_parts bs) (end_parts e)))
      (all_both Kept (map (λ f. f.body) fs) (flat_map bind_parts bs ++ end_parts e) (functions_kept fs h.0) (parts_kept bs e h.1))
  parts_kept (bind.Handler x ∷ bs) e h = parts_kept bs e h
  parts_kept (bind.SetHandler a ∷ bs) e h = parts_kept bs e h.1

  module _ (own : ℕ → Bool) (terms : List Term) where
    pub all_kept : (w u : World) (at : ℕ) (bodies : List Body) → AreWritten own terms w at bodies u → HaveTrees part at bodies → ((c : ℕ) → at ≤ c → c < length w.tasks → Kept c) → (i : ℕ) (b : Body) → slice_get bodies i ≡ Some b → BodyKept q b
    all_kept _ _ _ _ (none w at) trees h i b e = absurd (no_body own terms i b e)
    all_kept _ _ _ _ (more w v u at t b bodies here wr later) trees h zero c e = some_eq (λ d. BodyKept q d) b c e (kept_by_bodies q part b (first_kept (h at (omega arith) (within w.tasks at t here))))
      where
        first_kept : Kept at → CodeKept q (code_of_body part (Some b))
        first_kept k = subst (CodeKept q) (first_tree part at b bodies trees) k
    all_kept _ _ _ _ (more w v u at t b bodies here wr later) trees h (suc i) c e =
        all_kept v u (suc at) bodies later (later_trees part at b bodies trees)
        (λ d l k.
        ⊎_elim (λ (m : d < length w.tasks). h d (omega arith) m)
        (λ (m : length w.tasks ≤ d).
        all_from Kept (length w.tasks) (length v.tasks) d (body_parts b) (first_parts own terms w v t b wr)
        (parts_kept b.binds b.end (subst (CodeKept q) (first_tree part at b bodies trees) (h at (omega arith) (within w.tasks at t here)))) m k)
        (cases_lt d (length w.tasks))) i c e
