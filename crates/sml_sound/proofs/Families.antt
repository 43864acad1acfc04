-- Types under substitutions, and families of them.
use Rattle.std.proofs.Common.{◌≡◌, List, [], ◌∷◌, refl, sym, ap, ◌∙◌, subst, inl, inr}
use Rattle.std.specs.Prelude.{Bool, true, false, map}
use Rattle.smlc_base.specs.declared.exception.LibraryExn.{LibraryExn}
use Rattle.smlc_base.specs.declared.exception.LibraryExn.TheVariants as exn
use Rattle.sml_types.specs.declared.types.TyVar.{TyVar}
use Rattle.sml_types.specs.declared.tables.TypeName.{TypeName}
use Rattle.sml_types.specs.Tree.{Tree, Variable, App, NoParts, Part, inst, admits}
use Rattle.sml_types.specs.Poly.{Poly, IsInstance, has_num}
use Rattle.sml_types.specs.Library.{parts, library_exn}
use Rattle.sml_types.specs.Typing.{IsAmong, Covers, variables}
use Rattle.sml_types.proofs.TreeFacts.{inst_same, admits_inst}
use Rattle.sml_sound.specs.TypedStates.{KeepsMarks, Agrees, Family, InFamily, one}

pub inst_all : (f g : TyVar → Tree) (t : Tree) → ((v : TyVar) → g v ≡ f v) → inst g t ≡ inst f t
inst_all f g t h = inst_same g f t (λ v o. h v)

module _ (names : List TypeName) where
  pub agrees_self : (vs : List TyVar) (g : TyVar → Tree) → KeepsMarks names g → Agrees names vs g g
  agrees_self vs g k = ((λ v e. refl), k)

  pub only : (g : TyVar → Tree) (u v : Tree) → InFamily names (one g u) v → v ≡ inst g u
  only g u v h = h.2 ∙ inst_all g h.0 u (λ w. h.1.0 w refl)

  pub at_in : (f : Family) → KeepsMarks names f.at → InFamily names f (inst f.at f.ty)
  at_in f k = (f.at, agrees_self f.gens f.at k, refl)

  -- where nothing varies there is one type
  pub single : (f : Family) (u : Tree) → f.gens ≡ [] → InFamily names f u → u ≡ inst f.at f.ty
  single f u e h = h.2 ∙ inst_all f.at h.0 f.ty (λ w. (subst (λ vs. Agrees names vs f.at h.0) e h.1).0 w refl)

  -- ---- Marks

  pub keeps_both : (g h : TyVar → Tree) → KeepsMarks names g → KeepsMarks names h → KeepsMarks names (λ v. inst g (h v))
  keeps_both g h kg kh v e = admits_inst names g (h v) (λ w o m. kg w m) (kh v e)

  pub instance_keeps : (s : Poly) (u : Tree) (i : IsInstance names s u) → KeepsMarks names i.at
  instance_keeps s u i v e = go (has_num s.vars v.num) refl
    where
      go : (b : Bool) → has_num s.vars v.num ≡ b → admits names (i.at v) ≡ true
      go true q = i.marks v q e
      go false q = ap (admits names) (i.others v q) ∙ e

  -- an instance under a substitution
  pub instance_agrees : (s : Poly) (u : Tree) (i : IsInstance names s u) (g : TyVar → Tree) → KeepsMarks names g → Agrees names s.vars g (λ v. inst g (i.at v))
  instance_agrees s u i g k = ((λ v n. ap (inst g) (i.others v n)), keeps_both g i.at k (instance_keeps s u i))

pub inst_parts : (g : TyVar → Tree) (ts : List Tree) → inst g (parts ts) ≡ parts (map (inst g) ts)
inst_parts g [] = refl
inst_parts g (t ∷ ts) = ap (Part (inst g t)) (inst_parts g ts)

pub parts_same : (ts us : List Tree) → parts ts ≡ parts us → ts ≡ us
parts_same [] [] e = refl
parts_same [] (u ∷ us) e = cc
parts_same (t ∷ ts) [] e = cc
parts_same (t ∷ ts) (u ∷ us) e =
    let a : t ≡ u = cc in let b : parts ts ≡ parts us = cc in let c = parts_same ts us b in cc

pub library_closed : (g : TyVar → Tree) (e : LibraryExn) → inst g (library_exn e) ≡ library_exn e
library_closed g exn.FailExn = refl
library_closed g _ = refl

among : (f g : TyVar → Tree) (vs : List TyVar) → inst f (parts (variables vs)) ≡ inst g (parts (variables vs)) → (v : TyVar) → IsAmong v vs → f v ≡ g v
among f g [] e v h = absurd h
among f g (w ∷ ws) e v (inl q) = let a : f w ≡ g w = cc in ap f q ∙ a ∙ sym (ap g q)
among f g (w ∷ ws) e v (inr r) =
    let b : inst f (parts (variables ws)) ≡ inst g (parts (variables ws)) = cc in among f g ws b v r

-- substitutions that agree on all variables of a type
pub covered : (f g : TyVar → Tree) (vs : List TyVar) → inst f (parts (variables vs)) ≡ inst g (parts (variables vs)) → (t : Tree) → Covers vs t → inst f t ≡ inst g t
covered f g vs e (Variable v) h = among f g vs e v h
covered f g vs e (App c ts) h = ap (App c) (covered f g vs e ts h)
covered f g vs e NoParts h = refl
covered f g vs e (Part t ts) h = let l = covered f g vs e t h.0 in let r = covered f g vs e ts h.1 in cc
