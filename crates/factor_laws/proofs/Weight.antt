-- The words of a closure with its records, against how many values it holds.
use Rattle.std.proofs.Common.{◌≡◌, ℕ, suc, ◌+◌, ◌*◌, ◌≤◌, List, [], ◌∷◌, length, Bool, true, false, cond, not, Option, Some, None, inl, inr, refl, sym, ap, subst, arith, ⊎_elim}
use Rattle.std.specs.Prelude.{filter}
use Rattle.smlc_base.specs.declared.point.Point.{Point}
use Rattle.smlc_base.specs.Points.{is_point}
use Rattle.simulation.specs.Blocks.{IsAmong}
use Rattle.simulation.proofs.Nth.{point_is_one}
use Rattle.sml_tree.specs.IsBare.{IsDistinct}
use Rattle.sml_tree.specs.Sets.{without}
use Rattle.cps_ir.specs.Code.{Code}
use Rattle.cps_ir.specs.Free.{bound}
use Rattle.cps_ir.specs.Slim.{Layout, layouts, holds_of}
use Rattle.lifetime_users.specs.Users.{bindings, variables}
use Rattle.close_laws.specs.Layouts.{Facts, facts, closed_names, layout_at, name_in, free_in, is_static, holds, label, base, classes_of, in_class, layout_classes, layout_words, record_words, has_code}
use Rattle.close_laws.proofs.ClosedSets.{greatest_closed}
use Rattle.closure_layouts.specs.Found.{PointedOnce}
use Rattle.contract_laws.proofs.Free.{In, in_cases}
use Rattle.contract_slim.proofs.Fair.{plain_apart}
use Rattle.factor_laws.proofs.Classes.{variable_plain, Shares, shares}

layout_found : (all : List Layout) (l : Layout) → IsAmong l all → ((k : Layout) → IsAmong k all → is_point k.point l.point ≡ true → k ≡ l) → layout_at all l.point ≡ Some l
layout_found [] l i once = absurd i
layout_found (k ∷ all) l i once = by (is_point k.point l.point) refl i (λ j. layout_found all l j (λ m n. once m (inr n)))
  where
    by : (b : Bool) → is_point k.point l.point ≡ b → IsAmong l (k ∷ all) → (IsAmong l all → layout_at all l.point ≡ Some l) → cond b (Some k) (layout_at all l.point) ≡ Some l
    by true e j rest = ap Some (once k (inl refl) e)
    by false e (inl g) rest =
        absurd (let o : is_point k.point l.point ≡ true = subst (λ (t : Layout). is_point t.point l.point ≡ true) g (point_is_one l.point) in cc)
    by false e (inr j) rest = rest j

-- a closure and its records
abbrev pub weight : Facts → Point → ℕ
weight A p = layout_words A p + record_words A (layout_classes A p)

pub record Light (w h : ℕ) : Type 0 where
  pub most : 3 * w ≤ 6 + 5 * h
  pub small : h ≤ 2 → w ≤ 2 + h

module _ (fresh : ℕ) (c : Code) (d : IsDistinct (bound c)) (once : PointedOnce (layouts c)) where
  abbrev A : Facts
  A = facts fresh c

  abbrev closed : List ℕ
  closed = closed_names (layouts c)

  unnamed : (l : Layout) → IsAmong l (layouts c) → (z : ℕ) → In z (variables (layouts c) (bindings None c)) → In z (l.name ∷ closed) → ⊥
  unnamed l i z h k =
      let p = variable_plain c (layouts c) z h in
      ⊎_elim (λ (e : z ≡ l.name). plain_apart c d z p l i (sym e)) (λ (m : In z closed). let r = (greatest_closed c).are z m in plain_apart c d z p r.0 r.1 r.2) (in_cases z l.name closed k)

  at_most_one : (b : Bool) → cond {A = ℕ} b 1 0 ≤ 1
  at_most_one true = omega arith
  at_most_one false = omega arith

  pub light : (l : Layout) → IsAmong l (layouts c) → Light (weight A l.point) (holds_of closed l)
  light l i = record { most = most (is_static A l.point) held; small = small (is_static A l.point) held }
    where
      s : Shares (layouts c) (bindings None c) (label A l.point) once l i refl A closed
      s = shares (layouts c) (bindings None c) (label A l.point) once l i refl A closed refl (unnamed l i)

      found : holds A l.point ≡ without l.free (l.name ∷ closed)
      found = ap (λ (o : Option Layout). without (free_in o) (name_in o ∷ closed)) (layout_found (layouts c) l i (λ k j e. once k l j i e))

      held : length (filter (λ x. not (in_class A.classes x)) (holds A l.point)) ≡ length (filter (λ x. not (in_class A.classes x)) (without l.free (l.name ∷ closed)))
      held = ap (λ xs. length (filter (λ x. not (in_class A.classes x)) xs)) found

      most : (b : Bool) → length (filter (λ x. not (in_class A.classes x)) (holds A l.point)) ≡ length (filter (λ x. not (in_class A.classes x)) (without l.free (l.name ∷ closed))) → 3 * (cond b 0 (suc (base A l.point + (length (cond b [] (classes_of 0 (label A l.point) A.classes)) + length (cond b [] (filter (λ x. not (in_class A.classes x)) (holds A l.point)))))) + record_words A (cond b [] (classes_of 0 (label A l.point) A.classes))) ≤ 6 + 5 * holds_of closed l
      most true e = omega arith
      most false e =
          let o = at_most_one (has_code A l.point) in
          let r = s.records in
          let n = s.named in
          let t = s.three in
          let f = s.fit in
          omega (arith, e, o, r, n, t, f)

      small : (b : Bool) → length (filter (λ x. not (in_class A.classes x)) (holds A l.point)) ≡ length (filter (λ x. not (in_class A.classes x)) (without l.free (l.name ∷ closed))) → holds_of closed l ≤ 2 → cond b 0 (suc (base A l.point + (length (cond b [] (classes_of 0 (label A l.point) A.classes)) + length (cond b [] (filter (λ x. not (in_class A.classes x)) (holds A l.point)))))) + record_words A (cond b [] (classes_of 0 (label A l.point) A.classes)) ≤ 2 + holds_of closed l
      small true e g = omega arith
      small false e g =
          let o = at_most_one (has_code A l.point) in
          let r = s.records in
          let n = s.named in
          let t = s.three in
          let f = s.fit in
          omega (arith, e, o, r, n, t, f, g)
