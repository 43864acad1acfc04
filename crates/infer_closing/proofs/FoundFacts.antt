-- What the names of a declaration may generalise.
use Rattle.std.proofs.Common.{◌≡◌, ℕ, ◌<◌, Bool, true, false, List, [], ◌∷◌, length, Option, Some, None, refl, sym, ap, ◌∙◌, inl, inr, subst, arith}
use Rattle.std.specs.Prelude.{◌++◌, map, slice_get}
use Rattle.std.specs.List.{AllByRecursion}
use Rattle.sml_tree.specs.declared.bare.Bare.{Bare}
use Rattle.sml_tree.specs.declared.bare.Field.{Field}
use Rattle.sml_tree.specs.declared.bare.Binding.{Binding}
use Rattle.sml_tree.specs.declared.bare.RecBinding.{RecBinding}
use Rattle.sml_tree.specs.declared.bare.Node.{Node}
use Rattle.sml_tree.specs.declared.bare.Node.TheVariants as node
use Rattle.sml_tree.specs.BareParts.{node_parts, IsNumbered}
use Rattle.sml_types.specs.declared.types.Ty.{Ty}
use Rattle.sml_types.specs.declared.types.TyVar.{TyVar}
use Rattle.sml_types.specs.declared.types.TyForm.{TyForm}
use Rattle.sml_types.specs.declared.types.TyForm.TheVariants.{Var}
use Rattle.sml_types.specs.NonExpansive.{field_nodes}
use Rattle.sml_types.specs.Tree.{Tree, AllVars, inst}
use Rattle.sml_types.specs.Forms.{tree, AreForms}
use Rattle.sml_types.specs.Typing.{IsAmong}
use Rattle.sml_types.proofs.FormFacts.{tree_form}
use Rattle.sml_unify.specs.Solved.{Substitution, AreBindings, meant, under}
use Rattle.sml_unify.specs.Variables.{AreVariables}
use Rattle.sml_unify.proofs.Known.{under_known}
use Rattle.sml_unify.proofs.Fresh.{solved_of}
use Rattle.infer_parts.specs.Plain.{plain_parts, ArePartsLater, IsPlainTable}
use Rattle.infer_state.specs.Variables.{name_var}
use Rattle.infer_state.specs.Names.{names_bound}
use Rattle.infer_closing.specs.declared.group.Together.{Together}
use Rattle.infer_closing.specs.declared.group.Group.{Group}
use Rattle.infer_closing.specs.Groups.{together, of_bindings, of_group}
use Rattle.infer_closing.specs.Closing.{IsNonExpansive}
use Rattle.infer_closing.specs.Found.{with_vars, AreVars, plain_right, IsFoundAt, IsFound, bindings_of, AreFound}
use Rattle.infer_closing.proofs.VarFacts.{more_are, more_kept, more_there, vars_known, all_end}
use Rattle.infer_closing.proofs.Trees.{at_standing, from_standing, variables_all}

-- ---- The variables of one type more

module _ (forms : List TyForm) (bound : List (Option Ty)) (a : AreForms forms) (b : AreBindings forms bound) (i : ℕ) (there : i < length forms) (more vs new : List TyVar) (h : AreVariables more (under forms (meant forms bound) i)) (e : new ≡ with_vars more vs) where
  known : AllByRecursion (λ v. (k : ℕ) × (slice_get forms k ≡ Some (Var v))) more
  known = vars_known forms more (under forms (meant forms bound) i) h (under_known forms bound (solved_of forms bound a b) i there)

  pub added_are : AreVars forms vs → AreVars forms new
  added_are k = subst (λ (ws : List TyVar). AreVars forms ws) (sym e) (more_are forms more vs known k)

  pub added_kept : (v : TyVar) → IsAmong v vs → IsAmong v new
  added_kept v m = subst (λ (ws : List TyVar). IsAmong v ws) (sym e) (more_kept forms more vs v m)

  pub added_all : AreVars forms vs → AllVars (λ u. IsAmong u new) (under forms (meant forms bound) i)
  added_all k =
      from_standing
      (λ u. IsAmong u new)
      (under forms (meant forms bound) i)
      (λ u s. subst (λ (ws : List TyVar). IsAmong u ws) (sym e) (more_there forms a.named more vs known k u (variables_all more (under forms (meant forms bound) i) h u s)))

-- the form of a variable means what the variable does
pub under_var : (forms : List TyForm) (m : Substitution) (i : ℕ) (v : TyVar) → AreForms forms → slice_get forms i ≡ Some (Var v) → inst m (tree forms i) ≡ m v
under_var forms m i v a q = ap (inst m) (tree_form forms i (Var v) a.numbered q)

vars_kept : (vs new : List TyVar) (t : Tree) → ((v : TyVar) → IsAmong v vs → IsAmong v new) → AllVars (λ u. IsAmong u vs) t → AllVars (λ u. IsAmong u new) t
vars_kept vs new t f h = from_standing (λ u. IsAmong u new) t (λ u s. f u (at_standing (λ w. IsAmong w vs) t u h s))

pub names_kept : (m : ℕ → Tree) (vs new : List TyVar) (xs : List ℕ) → ((v : TyVar) → IsAmong v vs → IsAmong v new) → AllByRecursion (λ x. AllVars (λ u. IsAmong u vs) (m x)) xs → AllByRecursion (λ x. AllVars (λ u. IsAmong u new) (m x)) xs
names_kept m vs new [] f h = tt
names_kept m vs new (x ∷ xs) f h = (vars_kept vs new (m x) f h.0, names_kept m vs new xs f h.1)

-- ---- The table of what is non-expansive

fields_later : (i n : ℕ) (fields : List Field) → AllByRecursion (λ c. (i < c) × (c < n)) (map (λ f. f.node) fields) → AllByRecursion (λ c. (i < c) × (c < n)) (field_nodes fields)
fields_later i n [] h = tt
fields_later i n (f ∷ fields) h = (h.0, fields_later i n fields h.1)

later_of : (i k : ℕ) (n : Node) → AllByRecursion (λ c. (i < c) × (c < k)) (node_parts n) → AllByRecursion (λ c. (i < c) × (c < k)) (plain_parts n)
later_of i k (node.Record fields) h = fields_later i k fields h
later_of i k (node.App f a) h = h.1
later_of i k (node.Typed e ty) h = h
later_of i k n h = tt

pub parts_later : (nodes : List Node) → IsNumbered nodes → ArePartsLater nodes
parts_later nodes h i n e = later_of i (length nodes) n (h i n e)

plain_no : (nodes : List Node) (plain : List Bool) (right : Option ℕ) → IsNumbered nodes → IsPlainTable nodes plain → plain_right plain right ≡ false → IsNonExpansive nodes right → ⊥
plain_no nodes plain None h t e n = n
plain_no nodes plain (Some i) h t e n = let yes = t.complete (parts_later nodes h) i (omega arith) n in let clash : false ≡ true = sym e ∙ yes in cc

plain_yes : (nodes : List Node) (plain : List Bool) (right : Option ℕ) → IsPlainTable nodes plain → plain_right plain right ≡ true → IsNonExpansive nodes right
plain_yes nodes plain None t e = cc
plain_yes nodes plain (Some i) t e = t.sound i e

pub expansive_found : (p : Bare) (m : Substitution) (forms : List TyForm) (plain : List Bool) (right : Option ℕ) (names : List ℕ) (vars : List TyVar) → IsNumbered p.nodes → IsPlainTable p.nodes plain → plain_right plain right ≡ false → vars ≡ [] → IsFoundAt p m forms right names vars
expansive_found p m forms plain right names vars h t e q =
    subst (λ (vs : List TyVar). IsFoundAt p m forms right names vs) (sym q) (record { vars_are = record { known = tt; once = tt }; plain = inl refl; each = λ n. absurd (plain_no p.nodes plain right h t e n) })

pub plain_found : (p : Bare) (m : Substitution) (forms : List TyForm) (plain : List Bool) (right : Option ℕ) (names : List ℕ) (vars : List TyVar) → IsPlainTable p.nodes plain → plain_right plain right ≡ true → AreVars forms vars → AllByRecursion (λ x. AllVars (λ u. IsAmong u vars) (m (name_var p x))) names → IsFoundAt p m forms right names vars
plain_found p m forms plain right names vars t e a h = record { vars_are = a; plain = inr (plain_yes p.nodes plain right t e); each = λ n. h }

-- ---- Groups

map_end : {A B : Type 0} (f : A → B) (xs : List A) (x : A) → map f (xs ++ x ∷ []) ≡ map f xs ++ f x ∷ []
map_end f [] x = refl
map_end f (y ∷ xs) x = ap (λ zs. f y ∷ zs) (map_end f xs x)

pub bindings_end : (nodes : List Node) (bs : List Binding) (b : Binding) → of_bindings nodes (bs ++ b ∷ []) ≡ of_bindings nodes bs ++ together (Some b.right) (names_bound nodes b.pat) ∷ []
bindings_end nodes [] b = refl
bindings_end nodes (x ∷ bs) b = ap (λ zs. together (Some x.right) (names_bound nodes x.pat) ∷ zs) (bindings_end nodes bs b)

pub group_end : (bs : List RecBinding) (b : RecBinding) → of_group (bs ++ b ∷ []) ≡ of_group bs ++ together (Some b.right) (b.name.0 ∷ []) ∷ []
group_end [] b = refl
group_end (x ∷ bs) b = ap (λ zs. together (Some x.right) (x.name.0 ∷ []) ∷ zs) (group_end bs b)

pub found_end : (p : Bare) (m : Substitution) (forms : List TyForm) (bs bs2 : List Together) (groups groups2 : List Group) (g : Group) (right : Option ℕ) (names : List ℕ) → AreFound p m forms bs groups → bs2 ≡ bs ++ together right names ∷ [] → groups2 ≡ groups ++ g ∷ [] → g.of ≡ together right names → IsFoundAt p m forms right names g.vars → AreFound p m forms bs2 groups2
found_end p m forms bs bs2 groups groups2 g right names h e q is f =
    record {
      of = ap bindings_of q ∙ map_end (λ (x : Group). x.of) groups g ∙ ap (λ (zs : List Together). zs ++ g.of ∷ []) h.of ∙ ap (λ (z : Together). bs ++ z ∷ []) is ∙ sym e;
      found =
          subst
          (λ (gs : List Group). AllByRecursion (IsFound p m forms) gs)
          (sym q)
          (all_end (IsFound p m forms) groups g h.found (subst (λ (z : Together). IsFoundAt p m forms z.right z.names g.vars) (sym is) f));
    }
