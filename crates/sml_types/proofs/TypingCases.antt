-- Small programs, held against the definition of a typing.
use Rattle.std.proofs.Common.{Bool, ◌≡◌, ℕ, zero, suc, ◌<◌, true, false, List, [], ◌∷◌, Option, Some, None, refl, sym, ap, ◌∙◌, arith, inl, inr, ◌⊎◌, subst}
use Rattle.std.specs.Prelude.{cond, slice_get, get_or, codes, pos, take}
use Rattle.std.specs.List.{AllByRecursion}
use Rattle.smlc_base.specs.declared.names.Name.{Name}
use Rattle.sml_tree.specs.declared.bare.Bare.{Bare}
use Rattle.sml_tree.specs.declared.bare.Lab.TheVariants.{Num}
use Rattle.sml_tree.specs.declared.bare.Con.TheVariants as con
use Rattle.sml_tree.specs.declared.bare.Node.{Node}
use Rattle.sml_tree.specs.declared.bare.Node.TheVariants as node
use Rattle.sml_types.specs.declared.types.Ty.{Ty}
use Rattle.sml_types.specs.declared.types.TyVar.{TyVar}
use Rattle.sml_types.specs.declared.types.TyForm.{TyForm}
use Rattle.sml_types.specs.declared.types.TyForm.TheVariants.{Var, Fields, Named}
use Rattle.sml_types.specs.declared.tables.Equality.{Equality}
use Rattle.sml_types.specs.declared.tables.Equality.TheVariants.{Never, Always, Parts}
use Rattle.sml_types.specs.declared.tables.ConRow.{ConRow}
use Rattle.sml_types.specs.declared.tables.TypeName.{TypeName}
use Rattle.sml_types.specs.Tree.{Tree, Variable, size}
use Rattle.sml_types.specs.Forms.{trees, tree}
use Rattle.sml_types.specs.Poly.{Poly, poly, mono, is_in, Context, IsInstance, scheme_in}
use Rattle.sml_types.specs.Library.{arrow, unit_ty, library_names, library, name_types}
use Rattle.sml_types.specs.NonExpansive.{AreNonExpansive, is_atomic, is_ref, plain_none, plain_atom, plain_record, plain_applied, plain_typed}
use Rattle.sml_types.specs.Typing.{Typing, IsTypedNode, IsTyping}
use Rattle.sml_types.proofs.TreeFacts.{inst_id, inst_same}

abbrev name : ℕ → Name
name x = record { 0 = x }

-- a program without written types
abbrev program : List Node → Bare
program nodes = record { nodes = nodes; places = []; decs = 0 ∷ []; shown = []; types = []; tyvars = []; names = [] ∷ [] ∷ []; texts = []; width = 0 }

some_eq : {A : Type 0} (x y : A) → Some x ≡ Some y → x ≡ y
some_eq x y e = cc

mono_only : (t : Typing) (a b : Tree) → IsInstance t.names (mono a) b → b ≡ a
mono_only t a b h = h.is ∙ inst_same h.at Variable a (λ v e. h.others v refl) ∙ inst_id a

same_poly : (s : Poly) (vs : List TyVar) (u : Tree) → s.vars ≡ vs → s.body ≡ u → s ≡ poly vs u
same_poly s vs u e f = ap (λ w. poly w s.body) e ∙ ap (poly vs) f

either_mono : (b : Bool) (s : Poly) (u : Tree) → s ≡ mono u → cond b (mono s.body) s ≡ mono u
either_mono true s u e = ap (λ w. mono w.body) e
either_mono false s u e = e

-- ---- val _ = fn x => x x

abbrev self_application : Bare
self_application =
    program
    (node.Let 1 8
    ∷ node.Val [] (record { pat = 2; right = 3 } ∷ [])
    ∷ node.Wild
    ∷ node.Fn (record { pat = 4; body = 5 } ∷ [])
    ∷ node.PatVar (name 0)
    ∷ node.App 6 7
    ∷ node.Var (name 0)
    ∷ node.Var (name 0)
    ∷ node.Finish
    ∷ [])

no_loop : (a b c d : Tree) → a ≡ c → b ≡ c → a ≡ arrow b d → ⊥
no_loop a b c d p q r =
    let sizes : size c ≡ size (arrow c d) = ap size (sym p ∙ r ∙ ap (λ w. arrow w d) q) in omega arith

-- it has no typing
pub no_self_application : (t : Typing) → IsTyping self_application t → ⊥
no_self_application t h = no_loop (t.types 6) (t.types 7) (t.types 4) (t.types 5) (used 6 at6.1 at5.1.0) (used 7 at7.1 at5.2.0) (at5.1.1 ∙ ap (λ w. arrow w (t.types 5)) (sym at5.2.1))
  where
    at3 : IsTypedNode self_application t (t.contexts 3) (t.types 3) (t.binds 3) (node.Fn (record { pat = 4; body = 5 } ∷ []))
    at3 = h.rules 3 (node.Fn (record { pat = 4; body = 5 } ∷ [])) (omega arith) refl

    at4 : IsTypedNode self_application t (t.contexts 4) (t.types 4) (t.binds 4) (node.PatVar (name 0))
    at4 = h.rules 4 (node.PatVar (name 0)) (omega arith) refl

    at5 : IsTypedNode self_application t (t.contexts 5) (t.types 5) (t.binds 5) (node.App 6 7)
    at5 = h.rules 5 (node.App 6 7) (omega arith) refl

    at6 : IsTypedNode self_application t (t.contexts 6) (t.types 6) (t.binds 6) (node.Var (name 0))
    at6 = h.rules 6 (node.Var (name 0)) (omega arith) refl

    at7 : IsTypedNode self_application t (t.contexts 7) (t.types 7) (t.binds 7) (node.Var (name 0))
    at7 = h.rules 7 (node.Var (name 0)) (omega arith) refl

    one_type : t.schemes 0 ≡ mono (t.types 4)
    one_type = let vars : (t.schemes 0).vars ≡ [] = (subst (λ bs. AllByRecursion (λ x. (t.schemes x).vars ≡ []) bs) at4.1 at3.3.0.2).0 in let body = at4.0 in same_poly (t.schemes 0) [] (t.types 4) vars body

    used : (i : ℕ) → IsInstance t.names (scheme_in t.schemes (t.contexts i) 0) (t.types i) → t.contexts i ≡ t.contexts 5 → t.types i ≡ t.types 4
    used i is c = mono_only t (t.types 4) (t.types i) (subst (λ r. IsInstance t.names r (t.types i)) (either_mono (is_in (t.contexts i).own 0) (t.schemes 0) (t.types 4) one_type) is)

-- ---- val r = ref nil

abbrev open_cell : Bare
open_cell =
    program
    (node.Let 1 6
    ∷ node.Val [] (record { pat = 2; right = 3 } ∷ [])
    ∷ node.PatVar (name 0)
    ∷ node.App 4 5
    ∷ node.Constructor con.Ref
    ∷ node.Constructor (con.Data 5 0 false)
    ∷ node.Finish
    ∷ [])

-- a new cell is expansive
expansive : AreNonExpansive open_cell.nodes (3 ∷ []) → ⊥
expansive (plain_atom i n e a r) = let clash : false ≡ true = ap is_atomic (some_eq (node.App 4 5) n e) ∙ a in cc
expansive (plain_record i fields e a r) = cc
expansive (plain_applied i f a c e g q b r) =
    let here : 4 ≡ f = cc in
    let there : Some (node.Constructor con.Ref) ≡ Some (node.Constructor c) = ap (slice_get open_cell.nodes) here ∙ g in
    let con_is : con.Ref ≡ c = cc in
    let clash : true ≡ false = ap is_ref con_is ∙ q in cc
expansive (plain_typed i x ty e a r) = cc

nothing_general : (t : Typing) → (t.gens 3 ≡ []) ⊎ AreNonExpansive open_cell.nodes (3 ∷ []) → t.gens 3 ≡ []
nothing_general t (inl e) = e
nothing_general t (inr a) = absurd (expansive a)

-- its name has one type alone
pub open_cell_is_mono : (t : Typing) → IsTyping open_cell t → (t.schemes 0).vars ≡ []
open_cell_is_mono t h = closed.0 ∙ nothing_general t at1.0.0.2.1
  where
    at1 : IsTypedNode open_cell t (t.contexts 1) (t.types 1) (t.binds 1) (node.Val [] (record { pat = 2; right = 3 } ∷ []))
    at1 = h.rules 1 (node.Val [] (record { pat = 2; right = 3 } ∷ [])) (omega arith) refl

    at2 : IsTypedNode open_cell t (t.contexts 2) (t.types 2) (t.binds 2) (node.PatVar (name 0))
    at2 = h.rules 2 (node.PatVar (name 0)) (omega arith) refl

    closed : AllByRecursion (λ x. (t.schemes x).vars ≡ t.gens 3) (0 ∷ [])
    closed = subst (λ bs. AllByRecursion (λ x. (t.schemes x).vars ≡ t.gens 3) bs) at2.1 at1.0.0.3

-- ---- val id = fn x => x

abbrev pub identity : Bare
identity =
    program
    (node.Let 1 6
    ∷ node.Val [] (record { pat = 2; right = 3 } ∷ [])
    ∷ node.PatVar (name 0)
    ∷ node.Fn (record { pat = 4; body = 5 } ∷ [])
    ∷ node.PatVar (name 1)
    ∷ node.Var (name 1)
    ∷ node.Finish
    ∷ [])

abbrev pub a_var : TyVar
a_var = record { num = 0; eq = false }

abbrev a_ty : Tree
a_ty = Variable a_var

abbrev id_ty : Tree
id_ty = arrow a_ty a_ty

abbrev pub id_poly : Poly
id_poly = poly (a_var ∷ []) id_ty

abbrev within : List ℕ → Context
within xs = record { type_names = library_names; tyvars = []; names = xs; own = [] }

abbrev row : List ℕ → List TyVar → Equality → List ConRow → TypeName
row text params eq cons = record { text = text; params = params; eq = eq; cons = cons }

abbrev con_row : List ℕ → Option Ty → ConRow
con_row text arg = record { text = text; arg = arg }

abbrev ty : ℕ → Ty
ty i = record { 0 = i }

abbrev library_forms : List TyForm
library_forms = Var a_var ∷ Named 5 (ty 0 ∷ []) ∷ Fields (record { lab = Num (pos 1); ty = ty 0 } ∷ record { lab = Num (pos 2); ty = ty 1 } ∷ []) ∷ []

abbrev library_rows : List TypeName
library_rows =
    row (codes "int") [] Parts []
    ∷ row (codes "char") [] Parts []
    ∷ row (codes "string") [] Parts []
    ∷ row (codes "exn") [] Never []
    ∷ row (codes "bool") [] Parts (con_row (codes "false") None ∷ con_row (codes "true") None ∷ [])
    ∷ row (codes "list") (a_var ∷ []) Parts (con_row (codes "nil") None ∷ con_row (codes "::") (Some (ty 2)) ∷ [])
    ∷ row (codes "option") (a_var ∷ []) Parts (con_row (codes "NONE") None ∷ con_row (codes "SOME") (Some (ty 0)) ∷ [])
    ∷ row (codes "order") [] Parts (con_row (codes "LESS") None ∷ con_row (codes "EQUAL") None ∷ con_row (codes "GREATER") None ∷ [])
    ∷ row (codes "ref") (a_var ∷ []) Always (con_row (codes "ref") (Some (ty 0)) ∷ [])
    ∷ row (codes "TextIO.instream") [] Never []
    ∷ []

-- the library's rows can be had
library_there : take 10 (name_types library_forms library_rows) ≡ library a_var
unfolding trees tree
library_there = refl

abbrev pub typing : Typing
typing =
    record {
      types = λ i. get_or (unit_ty ∷ unit_ty ∷ id_ty ∷ id_ty ∷ a_ty ∷ a_ty ∷ unit_ty ∷ []) i unit_ty;
      contexts = λ i. get_or (within [] ∷ within [] ∷ within [] ∷ within [] ∷ within [] ∷ within (1 ∷ []) ∷ within (0 ∷ []) ∷ []) i (within []);
      binds = λ i. get_or ([] ∷ (0 ∷ []) ∷ (0 ∷ []) ∷ [] ∷ (1 ∷ []) ∷ []) i [];
      gens = λ i. a_var ∷ [];
      schemes = λ x. get_or (id_poly ∷ mono a_ty ∷ []) x id_poly;
      abbreviations = λ k. id_poly;
      forms = library_forms;
      names = library_rows;
    }

rule_of : (n m : Node) (c : Context) (u : Tree) (bs : List ℕ) → IsTypedNode identity typing c u bs n → Some n ≡ Some m → IsTypedNode identity typing c u bs m
rule_of n m c u bs h e = subst (λ k. IsTypedNode identity typing c u bs k) (some_eq n m e) h

fn_plain : AreNonExpansive identity.nodes (3 ∷ [])
fn_plain = plain_atom 3 (node.Fn (record { pat = 4; body = 5 } ∷ [])) refl refl plain_none

rules : (i : ℕ) (n : Node) → i < 7 → slice_get identity.nodes i ≡ Some n → IsTypedNode identity typing (typing.contexts i) (typing.types i) (typing.binds i) n
rules zero n l e = rule_of (node.Let 1 6) n (within []) unit_ty [] (refl, (refl, refl), refl) e
rules (suc zero) n l e =
    rule_of (node.Val [] (record { pat = 2; right = 3 } ∷ [])) n (within []) unit_ty (0 ∷ []) (((refl, (refl, refl), (((refl, tt), tt), inr fn_plain), (refl, tt)), tt), refl, tt, (refl, tt)) e
rules (suc (suc zero)) n l e = rule_of (node.PatVar (name 0)) n (within []) id_ty (0 ∷ []) (refl, refl) e
rules (suc (suc (suc zero))) n l e = rule_of (node.Fn (record { pat = 4; body = 5 } ∷ [])) n (within []) id_ty [] (a_ty, a_ty, refl, (((refl, refl), (refl, refl), (refl, tt), (refl, tt)), tt)) e
rules (suc (suc (suc (suc zero)))) n l e = rule_of (node.PatVar (name 1)) n (within []) a_ty (1 ∷ []) (refl, refl) e
rules (suc (suc (suc (suc (suc zero))))) n l e = rule_of (node.Var (name 1)) n (within (1 ∷ [])) a_ty [] (refl, record { at = Variable; others = λ v h. refl; marks = λ v h m. cc; is = refl }) e
rules (suc (suc (suc (suc (suc (suc zero)))))) n l e = rule_of node.Finish n (within (0 ∷ [])) unit_ty [] refl e
rules (suc (suc (suc (suc (suc (suc (suc i))))))) n l e = absurd (omega arith)

-- it has a typing in which its name has the scheme of all types 'a -> 'a
pub identity_is_typed : IsTyping identity typing
identity_is_typed = record { root = refl; library = record { param = a_var; plain = refl; rows = library_there }; parameter = refl; declared = refl; rules = rules }
