-- The schemes of names in the end, when forms are added.
use native.Mathlib.Omega.{arith}
use Rattle.std.proofs.Common.{◌≡◌, ◌<◌, ◌+◌, ◌^◌, ◌++◌, ℕ, zero, suc, Option, Some, None, List, [], ◌∷◌, true, length, map, refl, sym, ap, subst, ◌∙◌}
use Rattle.std.specs.Prelude.{slice_get, is_none}
use Rattle.sml_tree.specs.declared.bare.Bare.{Bare}
use Rattle.sml_types.specs.declared.types.Ty.{Ty}
use Rattle.sml_types.specs.declared.types.TyVar.{TyVar}
use Rattle.sml_types.specs.declared.types.TyForm.{TyForm}
use Rattle.sml_types.specs.declared.types.TyForm.TheVariants.{Var}
use Rattle.sml_types.specs.declared.scheme.Scheme.{Scheme}
use Rattle.sml_types.specs.declared.scheme.NameScheme.{NameScheme}
use Rattle.sml_types.specs.Tree.{Tree, inst}
use Rattle.sml_types.specs.Forms.{tree, AreForms}
use Rattle.sml_types.specs.Poly.{Poly, poly, mono}
use Rattle.sml_types.proofs.TreeFacts.{and_both, inst_same, inst_inst}
use Rattle.sml_unify.specs.declared.resolve.Rename.{Rename}
use Rattle.sml_unify.specs.Solved.{AreBindings, bound_at, rounds, meant, under}
use Rattle.sml_unify.specs.Resolve.{renamed, AreRenames}
use Rattle.sml_unify.specs.Steps.{IsLonger}
use Rattle.sml_unify.proofs.Fresh.{bindings_longer}
use Rattle.sml_unify.proofs.Heads.{tree_var}
use Rattle.sml_unify.proofs.Meant.{rounds_zero, rounds_free, rounds_bound, bound_cases, meant_free}
use Rattle.sml_unify.proofs.Fresh.{solved_of}
use Rattle.infer_state.specs.declared.declared.Starts.{Starts}
use Rattle.infer_state.specs.declared.settled.Settled.{Settled}
use Rattle.infer_state.specs.Variables.{name_var}
use Rattle.infer_state.specs.Fits.{AreThere, settled_at, settled_poly, joined_settled}
use Rattle.infer_state.specs.Typings.{var_at, poly_under, scheme_under}
use Rattle.infer_laws.specs.Final.{final}
use Rattle.infer_laws.proofs.Longer.{settled_same}
use Rattle.sml_infer.specs.Schemes.{vars_under, name_poly, AreReady, are_free, var_renamed, IsRenamed, IsOpened, IsNamed, AreNamed}
use Rattle.sml_infer.proofs.Kept.{laid_longer, all_there}

pub longer_then : (a b c : List TyForm) → IsLonger a b → IsLonger b c → IsLonger a c
longer_then a b c l m =
    record {
      count = (let x = l.count in let y = m.count in omega (arith, x, y));
      keeps = λ i f e. m.keeps i f (l.keeps i f e);
      trees = λ i h. let x = l.count in m.trees i (omega (arith, x, h)) ∙ l.trees i h;
    }

pub longer_same : (forms : List TyForm) → IsLonger forms forms
longer_same forms = record { count = omega arith; keeps = λ i f e. e; trees = λ i l. refl }

-- more forms change nothing of what is meant
module _ (forms after : List TyForm) (bound : List (Option Ty)) (l : IsLonger forms after) (b : AreBindings forms bound) where
  rounds_longer : (i : ℕ) (v : TyVar) → rounds after bound i v ≡ rounds forms bound i v
  rounds_longer zero v = rounds_zero after bound v ∙ sym (rounds_zero forms bound v)
  rounds_longer (suc i) v = go (rounds_longer i)
    where
      go : ((w : TyVar) → rounds after bound i w ≡ rounds forms bound i w) → rounds after bound (suc i) v ≡ rounds forms bound (suc i) v
      go ih =
          bound_cases
          bound
          v.num
          (rounds after bound (suc i) v ≡ rounds forms bound (suc i) v)
          (λ e. rounds_free after bound (suc i) v e ∙ sym (rounds_free forms bound (suc i) v e))
          (λ t e.
          rounds_bound after bound i v t e
          ∙ ap (inst (rounds after bound i)) (l.trees t.0 (b.within v.num t e))
          ∙ inst_same (rounds after bound i) (rounds forms bound i) (tree forms t.0) (λ w o. ih w)
          ∙ sym (rounds_bound forms bound i v t e))

  meant_longer : (v : TyVar) → meant after bound v ≡ meant forms bound v
  unfolding meant
  meant_longer v = rounds_longer (length bound) v

  module _ (renames : List Rename) where
    final_longer : (v : TyVar) → final after bound renames v ≡ final forms bound renames v
    final_longer v = ap (inst (renamed renames)) (meant_longer v)

    vars_longer : (vs : List TyVar) → vars_under after bound renames vs ≡ vars_under forms bound renames vs
    vars_longer [] = refl
    vars_longer (v ∷ vs) =
        ap (λ (t : Tree). var_at v t ∷ vars_under after bound renames vs) (final_longer v)
        ∙ ap (λ (ws : List TyVar). var_at v (final forms bound renames v) ∷ ws) (vars_longer vs)

    under_longer : (s : Poly) → poly_under (final after bound renames) s ≡ poly_under (final forms bound renames) s
    under_longer s =
        ap (λ (vs : List TyVar). poly vs (inst (final after bound renames) s.body)) (vars_longer s.vars)
        ∙ ap (poly (vars_under forms bound renames s.vars)) (inst_same (final after bound renames) (final forms bound renames) s.body (λ v o. final_longer v))

    scheme_longer : (o : Option Poly) (t u : Tree) → t ≡ u → scheme_under (final after bound renames) o t ≡ scheme_under (final forms bound renames) o u
    scheme_longer None t u e = ap mono e
    scheme_longer (Some s) t u e = under_longer s

    -- the scheme of a name stays
    pub poly_longer : (p : Bare) (settled : List (Option Settled)) (x : ℕ) → AreThere forms settled → name_poly p after bound renames settled x ≡ name_poly p forms bound renames settled x
    poly_longer p settled x there =
        ap (λ (o : Option Poly). scheme_under (final after bound renames) o (final after bound renames (name_var p x))) (settled_same forms after l settled x there)
        ∙ scheme_longer (settled_at forms settled x) (final after bound renames (name_var p x)) (final forms bound renames (name_var p x)) (final_longer (name_var p x))

-- a variable that is not bound is renamed
var_free : (forms : List TyForm) (bound : List (Option Ty)) (renames : List Rename) (v : TyVar) → bound_at bound v.num ≡ None → var_renamed renames v ≡ var_at v (final forms bound renames v)
var_free forms bound renames v e = ap (λ (t : Tree). var_at v (inst (renamed renames) t)) (sym (meant_free forms bound v e))

none_of : (o : Option Ty) → is_none o ≡ true → o ≡ None
none_of None e = refl
none_of (Some t) e = absurd cc

vars_free : (forms : List TyForm) (bound : List (Option Ty)) (renames : List Rename) (vs : List TyVar) → are_free bound vs ≡ true → map (λ v. var_renamed renames v) vs ≡ vars_under forms bound renames vs
vars_free forms bound renames [] h = refl
vars_free forms bound renames (v ∷ vs) h =
    let both = and_both (is_none (bound_at bound v.num)) (are_free bound vs) h in
    ap (λ (w : TyVar). w ∷ map (λ v. var_renamed renames v) vs) (var_free forms bound renames v (none_of (bound_at bound v.num) both.0))
    ∙ ap (λ (ws : List TyVar). var_at v (final forms bound renames v) ∷ ws) (vars_free forms bound renames vs both.1)

-- ---- Opened schemes

pub renamed_by : (bound : List (Option Ty)) (renames : List Rename) (old new : Scheme) (vars : List TyVar) → vars ≡ old.vars → new.vars ≡ map (λ v. var_renamed renames v) vars → are_free bound vars ≡ true → new.body ≡ old.body → IsRenamed bound renames old new
renamed_by bound renames old new vars same made free body =
    record { vars = made ∙ ap (map (λ v. var_renamed renames v)) same; free = subst (λ (vs : List TyVar). are_free bound vs ≡ true) same free; body = body }

pub opened_some : (bound : List (Option Ty)) (renames : List Rename) (starts : Starts) (o : Option Settled) (x : ℕ) (s : Scheme) (q : Settled) → o ≡ Some q → IsRenamed bound renames q.scheme s → IsOpened bound renames starts o x s
opened_some bound renames starts o x s q e h = subst (λ (r : Option Settled). IsOpened bound renames starts r x s) (sym e) h

pub opened_none : (bound : List (Option Ty)) (renames : List Rename) (starts : Starts) (o : Option Settled) (x : ℕ) (s : Scheme) → o ≡ None → s.vars ≡ [] → s.body.0 ≡ starts.names + x → IsOpened bound renames starts o x s
opened_none bound renames starts o x s e vars body = subst (λ (r : Option Settled). IsOpened bound renames starts r x s) (sym e) (vars, body)

inside : (xs : List TyForm) (i : ℕ) (f : TyForm) → slice_get xs i ≡ Some f → i < length xs
inside [] i f e = absurd cc
inside (y ∷ xs) zero f e = omega arith
inside (y ∷ xs) (suc i) f e = let h = inside xs i f e in omega (arith, h)

-- the number of a name's variable fits
pub name_fits : (p : Bare) (forms : List TyForm) (bound : List (Option Ty)) (renames : List Rename) (starts : Starts) (settled : List (Option Settled)) (x : ℕ) → AreReady p forms bound renames starts settled → x < length p.names → starts.names + x < 2 ^ 32
name_fits p forms bound renames starts settled x ready l = let few = ready.laid.few_names in omega (arith, few, l)

module _ (p : Bare) (forms : List TyForm) (bound : List (Option Ty)) (renames : List Rename) (starts : Starts) (settled : List (Option Settled)) (x : ℕ) (s : Scheme) (ready : AreReady p forms bound renames starts settled) (l : x < length p.names) where
  alone_here : s.body.0 ≡ starts.names + x → slice_get forms s.body.0 ≡ Some (Var (name_var p x))
  alone_here at = subst (λ (i : ℕ). slice_get forms i ≡ Some (Var (name_var p x))) (sym at) (ready.laid.of_names x l)

  there_by : (o : Option Settled) → joined_settled (slice_get settled x) ≡ o → IsOpened bound renames starts o x s → s.body.0 < length forms
  there_by None e h = inside forms s.body.0 (Var (name_var p x)) (alone_here h.1)
  there_by (Some q) e h = subst (λ (t : Ty). t.0 < length forms) (sym h.body) (ready.there x q e).there

  is_by : AreForms forms → (o : Option Settled) → joined_settled (slice_get settled x) ≡ o → IsOpened bound renames starts o x s → poly s.vars (inst (final forms bound renames) (tree forms s.body.0)) ≡ scheme_under (final forms bound renames) (settled_poly forms o) (final forms bound renames (name_var p x))
  is_by are None e h =
      ap (λ (vs : List TyVar). poly vs (inst (final forms bound renames) (tree forms s.body.0))) h.0
      ∙ ap (λ (t : Tree). mono (inst (final forms bound renames) t)) (tree_var forms bound s.body.0 (name_var p x) (solved_of forms bound are ready.bindings) (alone_here h.1))
  is_by are (Some q) e h =
      ap (λ (vs : List TyVar). poly vs (inst (final forms bound renames) (tree forms s.body.0))) (h.vars ∙ vars_free forms bound renames q.scheme.vars h.free)
      ∙ ap (λ (t : Ty). poly (vars_under forms bound renames q.scheme.vars) (inst (final forms bound renames) (tree forms t.0))) h.body

-- the type of an opened scheme stands in the forms
pub opened_there : (p : Bare) (forms : List TyForm) (bound : List (Option Ty)) (renames : List Rename) (starts : Starts) (settled : List (Option Settled)) (x : ℕ) (s : Scheme) → AreReady p forms bound renames starts settled → x < length p.names → IsOpened bound renames starts (joined_settled (slice_get settled x)) x s → s.body.0 < length forms
opened_there p forms bound renames starts settled x s ready l h =
    there_by p forms bound renames starts settled x s ready l (joined_settled (slice_get settled x)) refl h

-- what is written of an opened scheme is that of the name
pub named_by : (p : Bare) (forms after : List TyForm) (bound : List (Option Ty)) (renames : List Rename) (starts : Starts) (settled : List (Option Settled)) (x : ℕ) (opened : Scheme) (s : NameScheme) → AreForms forms → AreReady p forms bound renames starts settled → x < length p.names → IsOpened bound renames starts (joined_settled (slice_get settled x)) x opened → s.name.0 ≡ x → s.scheme.vars ≡ opened.vars → s.scheme.body.0 < length after → tree after s.scheme.body.0 ≡ inst (renamed renames) (under forms (meant forms bound) opened.body.0) → IsNamed p forms after bound renames settled x s
named_by p forms after bound renames starts settled x opened s are ready l opens name vars there is =
    record {
      name = name;
      there = there;
      is =
          ap (λ (vs : List TyVar). poly vs (tree after s.scheme.body.0)) vars
          ∙ ap (poly opened.vars) (is ∙ inst_inst (renamed renames) (meant forms bound) (tree forms opened.body.0))
          ∙ is_by p forms bound renames starts settled x opened ready l are (joined_settled (slice_get settled x)) refl opens;
    }

-- ---- All names

-- the schemes that were written stay, and one more is written
pub named_more : (p : Bare) (old forms after : List TyForm) (bound : List (Option Ty)) (renames : List Rename) (settled : List (Option Settled)) (schemes : List NameScheme) (s : NameScheme) → IsLonger old forms → IsLonger forms after → AreBindings old bound → AreThere old settled → AreNamed p old forms bound renames settled schemes → IsNamed p forms after bound renames settled (length schemes) s → AreNamed p old after bound renames settled (schemes ++ s ∷ [])
named_more p old forms after bound renames settled schemes s l m bindings there all here x q e = by schemes x all_after here_after e
  where
    stays : (x : ℕ) (q : NameScheme) → IsNamed p old forms bound renames settled x q → IsNamed p old after bound renames settled x q
    stays x q h =
        let k = h.there in
        let c = m.count in
        record { name = h.name; there = omega (arith, k, c); is = ap (poly q.scheme.vars) (m.trees q.scheme.body.0 k) ∙ h.is }

    all_after : (x : ℕ) (q : NameScheme) → slice_get schemes x ≡ Some q → IsNamed p old after bound renames settled x q
    all_after x q e = stays x q (all x q e)

    here_after : IsNamed p old after bound renames settled (length schemes) s
    here_after = record { name = here.name; there = here.there; is = here.is ∙ poly_longer old forms bound l bindings renames p settled (length schemes) there }

    last : (P : ℕ → NameScheme → Type 0) (xs : List NameScheme) (x : ℕ) → ((x : ℕ) (q : NameScheme) → slice_get xs x ≡ Some q → P x q) → P (length xs) s → slice_get (xs ++ s ∷ []) x ≡ Some q → P x q
    last P [] zero h k e = let same : s ≡ q = cc in subst (P 0) same k
    last P [] (suc x) h k e = absurd cc
    last P (y ∷ xs) zero h k e = h 0 q e
    last P (y ∷ xs) (suc x) h k e = last (λ x q. P (suc x) q) xs x (λ x q e. h (suc x) q e) k e

    by : (xs : List NameScheme) (x : ℕ) → ((x : ℕ) (q : NameScheme) → slice_get xs x ≡ Some q → IsNamed p old after bound renames settled x q) → IsNamed p old after bound renames settled (length xs) s → slice_get (xs ++ s ∷ []) x ≡ Some q → IsNamed p old after bound renames settled x q
    by xs x h k e = last (λ x q. IsNamed p old after bound renames settled x q) xs x h k e

-- more forms are as ready
pub ready_more : (p : Bare) (forms after : List TyForm) (bound : List (Option Ty)) (renames : List Rename) (starts : Starts) (settled : List (Option Settled)) → IsLonger forms after → AreRenames after renames → AreReady p forms bound renames starts settled → AreReady p after bound renames starts settled
ready_more p forms after bound renames starts settled longer renamed_still ready =
    record {
      bindings = bindings_longer forms after bound longer ready.bindings;
      laid = laid_longer forms after longer p starts ready.laid;
      there = all_there forms after longer settled ready.there;
      renames_agree = renamed_still;
    }

one_more : {A : Type 0} (xs : List A) (x : A) → length (xs ++ x ∷ []) ≡ length xs + 1
one_more [] x = refl
one_more (z ∷ xs) x = let k = one_more xs x in omega (arith, k)

pub count_more : {A : Type 0} (xs ys : List A) (x : A) (n : ℕ) → ys ≡ xs ++ x ∷ [] → length xs ≡ n → length ys ≡ n + 1
count_more xs ys x n e h = ap length e ∙ one_more xs x ∙ ap (λ (k : ℕ). k + 1) h

-- a number below the count of names fits
pub number_fits : (p : Bare) (forms : List TyForm) (bound : List (Option Ty)) (renames : List Rename) (starts : Starts) (settled : List (Option Settled)) (x : ℕ) → AreReady p forms bound renames starts settled → x < length p.names → x < 2 ^ 32
number_fits p forms bound renames starts settled x ready l = let few = ready.laid.few_names in omega (arith, few, l)
