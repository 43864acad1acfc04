-- A program's types are told by one text alone.
use Rattle.std.proofs.Common.{◌≡◌, ℕ, Bool, true, length, refl, sym, ◌∙◌}
use Rattle.std.specs.Prelude.{map}
use Rattle.std.specs.List.{AllByRecursion}
use Rattle.sml_tree.specs.declared.bare.Bare.{Bare}
use Rattle.sml_tree.specs.IsBare.{IsBare, values}
use Rattle.sml_tree.specs.Sets.{has}
use Rattle.sml_types.specs.Tree.{AllVars}
use Rattle.sml_types.specs.Poly.{is_in, has_num}
use Rattle.sml_types.specs.Typing.{Typing}
use Rattle.infer_state.specs.Names.{names_bound}
use Rattle.infer_laws.specs.Principal.{IsBoundBelow, IsInstanceOf, IsPrincipal}
use Rattle.type_text.specs.declared.level.Level.TheVariants.{Function}
use Rattle.type_text.specs.Text.{lines}
use Rattle.text_laws.specs.Tells.{shown_names, entry, AreMarked, OneText}
use Rattle.text_laws.proofs.Alike.{spelled_alike, text_alike}
use Rattle.text_laws.proofs.Lines.{IsPair, IsLineAlike, lines_alike}
use Rattle.text_laws.proofs.Renamed.{moved, renamed}
use Rattle.text_laws.proofs.Members.{of_member, of_members, of_flat}
use Rattle.text_laws.proofs.Known.{made_spelled, value_made, value_there}

module _ (p : Bare) (bare : IsBare p) (a b : Typing) (here : IsPrincipal p a (length p.nodes)) (there : IsPrincipal p b (length p.nodes)) (marks others : ℕ → Bool) where
  -- each is an instance of the other
  abbrev forth : IsInstanceOf p (length p.nodes) a b
  forth = here.general b there.typing

  abbrev back : IsInstanceOf p (length p.nodes) b a
  back = there.general a here.typing

  abbrev IsSame : ℕ → Type 0
  IsSame x = IsLineAlike (moved forth.by marks) (moved back.by others) a.names b.names (entry p a x) (entry p b x)

  -- a name of a value declaration has lines that are alike
  name_same : (d x : ℕ) → is_in (values p.nodes) d ≡ true → is_in (names_bound p.nodes d) x ≡ true → AllVars (λ v. v.eq ≡ marks v.num) (a.schemes x).body → AllVars (λ v. v.eq ≡ others v.num) (b.schemes x).body → IsSame x
  name_same d x value binds marked noted =
      let bound : IsBoundBelow p (length p.nodes) x = (d, value_there p d value, binds) in
      let made = value_made p a here.typing bare d x value binds in
      record {
        spelled = refl;
        types =
            text_alike (IsPair (moved forth.by marks) (moved back.by others) (has_num (a.schemes x).vars) (has_num (b.schemes x).vars)) a.names b.names forth.by (a.schemes x).body (b.schemes x).body Function (forth.bodies x bound).1
            (spelled_alike a.names b.names made.0 (λ n e. made_spelled p a b here.typing there.typing n (made.1 n e)) (a.schemes x).body made.2)
            (renamed a.names b.names forth.by back.by marks others (a.schemes x) (b.schemes x) (forth.bodies x bound) (back.bodies x bound) (forth.schemes x bound) (back.schemes x bound) marked noted);
      }

  -- so has each name that is shown
  names_same : AreMarked a marks (shown_names p) → AreMarked b others (shown_names p) → AllByRecursion IsSame (shown_names p)
  names_same marked noted =
      of_members IsSame (shown_names p)
      (λ x e. of_flat (λ d. has (values p.nodes) d ≡ true) (IsSame x) (names_bound p.nodes) p.shown x bare.shown.1 e
      (λ d value binds. name_same d x value binds (of_member (λ x. AllVars (λ v. v.eq ≡ marks v.num) (a.schemes x).body) (shown_names p) x marked e) (of_member (λ x. AllVars (λ v. v.eq ≡ others v.num) (b.schemes x).body) (shown_names p) x noted e)))

  texts_same : AreMarked a marks (shown_names p) → AreMarked b others (shown_names p) → lines a.names (map (entry p a) (shown_names p)) ≡ lines b.names (map (entry p b) (shown_names p))
  texts_same marked noted =
      lines_alike (moved forth.by marks) (moved back.by others) a.names b.names (entry p a) (entry p b) (shown_names p) (names_same marked noted)

-- both texts are the lines of principal typings
pub one : (p : Bare) → OneText p
one p a b bare h k =
    h.is ∙ texts_same p bare h.typing k.typing h.principal k.principal h.marks k.marks h.marked k.marked ∙ sym k.is
