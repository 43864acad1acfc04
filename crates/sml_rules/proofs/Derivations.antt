-- The machine follows each derivation.
use Rattle.std.proofs.Common.{◌≡◌, ℕ, zero, suc, ◌+◌, ◌<◌, ◌≤◌, Bool, true, false, ◌&&◌, ◌||◌, List, [], ◌∷◌, length, Option, Some, None, refl, ap, ◌∙◌, arith, zero-add}
use Rattle.std.specs.Prelude.{slice_get, count_by, cond, nat_eq, nat_lt, int_lt, ℤ}
use Rattle.std.proofs.lemmas.Int.{ints}
use Rattle.std.proofs.lemmas.List.Sums.{count_by-le-length, sum_by-cons}
use Rattle.sml_tree.specs.declared.bare.Bare.{Bare}
use Rattle.sml_tree.specs.declared.bare.Node.{Node}
use Rattle.sml_tree.specs.declared.bare.Node.TheVariants as node
use Rattle.sml_tree.specs.declared.bare.Lab.{Lab}
use Rattle.sml_tree.specs.declared.bare.Lab.TheVariants as lab
use Rattle.sml_tree.specs.declared.bare.Field.{Field}
use Rattle.sml_tree.specs.IsBare.{IsBare, Stands, lab_less, bytes_less, IsRow}
use Rattle.sml_def.specs.State.{Value, Address, Control, Eval, Ret}
use Rattle.sml_def.specs.State as m
use Rattle.sml_def.specs.Step.{step, eval}
use Rattle.sml_def.specs.Maybe.{◌>>=◌}
use Rattle.sml_def.proofs.Effects.{all_get}
use Rattle.sml_def.proofs.Options.{if_some}
use Rattle.sml_rules.specs.Terms.{Term, Record, no_terms, Env, ◌over◌, State, Result, Gives, Raises, Deeper, Stuck, ◌then◌}
use Rattle.sml_rules.specs.Terms as t
use Rattle.sml_rules.specs.Patterns.{pat}
use Rattle.sml_rules.specs.Rules.{evaluate, exp_at, exp_of}
use Rattle.sml_rules.proofs.Scopes.{IsApart}
use Rattle.sml_rules.proofs.Relation.{World}
use Rattle.sml_rules.proofs.Relation as r
use Rattle.sml_rules.proofs.Environments.{EnvIs}
use Rattle.sml_rules.proofs.Forms.{Holds}
use Rattle.sml_rules.proofs.Follows.{Kept, Conf, conf, memory, Follows, Back, deep_here, stuck_here}
use Rattle.sml_rules.proofs.Expressions.{Exp, Builtins, at_once, eval_is, rules_below, app_follows, case_follows, raise_follows, typed_follows, fn_follows, look_follows, con_follows, text_follows, handle_follows, named}
use Rattle.sml_rules.proofs.Declarations.{let_follows}
use Rattle.sml_rules.proofs.Records.{record_follows}

-- ---- The slot of a field is below the number of the fields

nat_irreflexive : (n : ℕ) → nat_lt n n ≡ false
nat_irreflexive n = go (nat_lt n n) refl
  where
    go : (q : Bool) → nat_lt n n ≡ q → q ≡ false
    go false e = refl
    go true e = grind (arith, e)

pub int_irreflexive : (z : ℤ) → int_lt z z ≡ false
int_irreflexive z = grind (arith, ints)

bytes_irreflexive : (xs : List ℕ) → bytes_less xs xs ≡ false
bytes_irreflexive [] = refl
bytes_irreflexive (x ∷ xs) =
    ap (λ q. q || (nat_eq x x && bytes_less xs xs)) (nat_irreflexive x) ∙ ap (λ q. nat_eq x x && q) (bytes_irreflexive xs) ∙ and_false (nat_eq x x)
  where
    and_false : (q : Bool) → (q && false) ≡ false
    and_false true = refl
    and_false false = refl

lab_irreflexive : (l : Lab) → lab_less l l ≡ false
lab_irreflexive (lab.Num z) = int_irreflexive z
lab_irreflexive (lab.Text xs) = bytes_irreflexive xs

slot_below : (f : Field) (fields : List Field) → IsRow (f ∷ fields) → f.slot < suc (length fields)
slot_below f fields row =
    let n : ℕ = count_by (λ g. lab_less g.lab f.lab) fields in
    let sum : count_by (λ g. lab_less g.lab f.lab) (f ∷ fields) ≡ cond (lab_less f.lab f.lab) 1 0 + n = sum_by-cons (λ g. cond (lab_less g.lab f.lab) 1 0) f fields in
    let zeros : cond (lab_less f.lab f.lab) (suc zero) zero ≡ zero = ap (λ q. cond q (suc zero) zero) (lab_irreflexive f.lab) in
    let is : f.slot ≡ count_by (λ g. lab_less g.lab f.lab) (f ∷ fields) = row.slots.0 in
    let same : f.slot ≡ n = is ∙ sum ∙ ap (λ m. m + n) zeros ∙ zero-add n in
    let few : n ≤ length fields = count_by-le-length (λ g. lab_less g.lab f.lab) fields in
    omega (arith, same, few)

-- ---- All nodes

module _ (p : Bare) (bare : IsBare p) (apart : IsApart p) (Inv : Conf → Type 0) (kept : Kept p Inv) (builtins : Builtins p Inv kept) where
  abbrev E : ℕ → Type 0
  E d = Exp p Inv kept d

  -- a `let` whose parts are evaluated with derivations of depth d
  abbrev L : ℕ → Type 0
  L d =
      (i dd body : ℕ) (env : Env) (menv : m.Env) (k : Option Address) (s : State) (w : World) → slice_get p.nodes i ≡ Some (node.Let dd body) → EnvIs p w env menv → Holds p w s → Inv (conf (Eval i menv k) s w) → Follows p (Back p k) k (suc d) (conf (Eval i menv k) s w) w ((evaluate p d).1 env dd s then (λ inner. (evaluate p d).0 (inner over env) body))

  next : (d : ℕ) → E d → L d → E (suc d)
  next d exp lets i env menv k s w is holds inv = go (slice_get p.nodes i) refl
    where
      F : Result Term → Type 0
      F q = Follows p (Back p k) k (suc d) (conf (Eval i menv k) s w) w q

      pick : (n : Node) → slice_get p.nodes i ≡ Some n → Stands p n
      pick n e = if_some (Stands p) (slice_get p.nodes i) n e (all_get (Stands p) p.nodes i bare.stands)

      ev : (n : Node) → slice_get p.nodes i ≡ Some n → step p (memory s w) (Eval i menv k) ≡ eval p (memory s w) i n menv k
      ev n e = eval_is p Inv kept bare.numbered builtins d exp i n menv k s w e

      at : (n : Node) → slice_get p.nodes i ≡ Some n → F (exp_of p (λ e mem. pat p e mem d) (evaluate p d).0 (evaluate p d).1 env n s)
      at (node.Int z) e = at_once p Inv kept bare.numbered builtins d exp k (suc d) (Eval i menv k) s w (t.Number z) (m.Number z) holds (ev _ e) (r.number z [] [] r.done)
      at (node.Char c) e = at_once p Inv kept bare.numbered builtins d exp k (suc d) (Eval i menv k) s w (t.Letter c) (m.Letter c) holds (ev _ e) (r.letter c [] [] r.done)
      at (node.Text n) e = text_follows p Inv kept bare.numbered builtins d exp i env menv k s w is holds inv n (pick _ e) e
      at (node.Var x) e =
          look_follows p Inv kept bare.numbered builtins d exp i env menv k s w is holds inv x.0 (named p Inv kept bare.numbered builtins d exp i env menv k s w is holds inv (node.Var x) x.0 e refl) (ev _ e)
      at (node.Constructor c) e = con_follows p Inv kept bare.numbered builtins d exp i env menv k s w is holds inv c e
      at (node.Builtin f) e = at_once p Inv kept bare.numbered builtins d exp k (suc d) (Eval i menv k) s w (t.Builtin f) (m.Builtin f) holds (ev _ e) (r.builtin f [] [] r.done)
      at (node.Record []) e = at_once p Inv kept bare.numbered builtins d exp k (suc d) (Eval i menv k) s w (Record no_terms) m.Nothing holds (ev _ e) (r.nothing [] [] r.done)
      at (node.Record (f ∷ fields)) e =
          record_follows p Inv kept bare.numbered builtins d exp env k f fields (slot_below f fields (pick (node.Record (f ∷ fields)) e)) i menv s w (ev _ e) is holds inv
      at (node.Let dd body) e = lets i dd body env menv k s w e is holds inv
      at (node.App g a) e = app_follows p Inv kept bare.numbered builtins d exp i env menv k s w is holds inv g a e
      at (node.Case b rules) e =
          case_follows p Inv kept bare.numbered builtins d exp i env menv k s w is holds inv b rules e (rules_below i (length p.nodes) rules (bare.numbered i (node.Case b rules) e).1)
      at (node.Handle b rules) e =
          handle_follows p Inv kept bare.numbered builtins d exp i env menv k s w is holds inv b rules e (rules_below i (length p.nodes) rules (bare.numbered i (node.Handle b rules) e).1)
      at (node.Raise b) e = raise_follows p Inv kept bare.numbered builtins d exp i env menv k s w is holds inv b e
      at (node.Fn rules) e = fn_follows p Inv kept bare.numbered builtins d exp i env menv k s w is holds inv rules e
      at (node.Typed b ty) e = typed_follows p Inv kept bare.numbered builtins d exp i env menv k s w is holds inv b ty e (kept.cut (conf (Eval i menv k) s w) inv).control
      at node.Finish e = at_once p Inv kept bare.numbered builtins d exp k (suc d) (Eval i menv k) s w (Record no_terms) m.Nothing holds (ev _ e) (r.nothing [] [] r.done)
      at _ e = stuck_here p (Back p k) k (suc d) (Eval i menv k) s w (ev _ e) refl

      go : (o : Option Node) → slice_get p.nodes i ≡ o → F (exp_at p (λ e mem. pat p e mem d) (evaluate p d).0 (evaluate p d).1 env o s)
      go None e = stuck_here p (Back p k) k (suc d) (Eval i menv k) s w (ap (λ o. o >>= (λ q. eval p (memory s w) i q menv k)) e) refl
      go (Some n) e = at n e

  first : E 0
  first i env menv k s w is holds inv = deep_here p (Back p k) k 0 (Eval i menv k) s w (omega arith)

  first_let : L 0
  first_let i dd body env menv k s w e is holds inv = deep_here p (Back p k) k 1 (Eval i menv k) s w (omega arith)

  later_let : (d : ℕ) → E d → E (suc d) → L (suc d)
  later_let d exp after i dd body env menv k s w e is holds inv =
      let_follows p Inv kept bare.numbered builtins d exp after env k body i menv s w is holds inv dd (λ tyvars bindings q. apart dd tyvars bindings q) e

  both : (d : ℕ) → E d × L d
  both zero = (first, first_let)
  both (suc d) = let h = both d in let g = next d h.0 h.1 in (g, later_let d h.0 g)

  pub follows : (d : ℕ) → E d
  follows d = (both d).0
