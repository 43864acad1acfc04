-- What inference answers, from what it ended with.
use Rattle.std.proofs.Common.{◌≡◌, ℕ, Option, List, length, sym, ap, subst, ◌∙◌}
use Rattle.sml_tree.specs.declared.bare.Bare.{Bare}
use Rattle.sml_types.specs.declared.types.Ty.{Ty}
use Rattle.sml_types.specs.declared.types.TyForm.{TyForm}
use Rattle.sml_types.specs.declared.scheme.NameScheme.{NameScheme}
use Rattle.sml_types.specs.declared.typed.Typed.{Typed}
use Rattle.sml_types.specs.declared.tables.Tables.{Tables}
use Rattle.sml_types.specs.Library.{name_types}
use Rattle.sml_types.specs.Schemes.{AreOrdered}
use Rattle.sml_unify.specs.declared.resolve.Rename.{Rename}
use Rattle.sml_unify.specs.Resolve.{AreRenames}
use Rattle.sml_unify.specs.Steps.{IsLonger}
use Rattle.infer_state.specs.declared.settled.Settled.{Settled}
use Rattle.infer_state.specs.Fits.{AreThere}
use Rattle.infer_laws.proofs.Longer.{rows_same}
use Rattle.sml_infer.specs.declared.below.Below.{Below}
use Rattle.sml_infer.specs.Below.{IsBelow, typing_below}
use Rattle.sml_infer.specs.Going.{now}
use Rattle.sml_infer.specs.Schemes.{AreReady, AreNamed}
use Rattle.sml_infer.specs.Typing.{IsInferred}
use Rattle.sml_infer.proofs.Ended.{ended_principal}

pub ready_below : (p : Bare) (count : ℕ) (b : Below) (renames : List Rename) (settled : List (Option Settled)) → IsBelow p count b → renames ≡ b.renames.items → settled ≡ b.work.settled.items → AreReady p b.work.unknowns.types b.work.unknowns.subst.bound renames b.declared.starts settled
ready_below p count b renames settled h e q =
    record {
      bindings = h.going.sound.state.bindings;
      laid = h.going.sound.laid;
      there = subst (λ (s : List (Option Settled)). AreThere b.work.unknowns.types s) (sym q) h.going.sound.there;
      renames_agree = subst (λ (r : List Rename). AreRenames b.work.unknowns.types r) (sym e) h.checked.renames_agree;
    }

-- schemes that were made of what is equal
pub named_of : (p : Bare) (old forms : List TyForm) (bound : List (Option Ty)) (renames to : List Rename) (settled also : List (Option Settled)) (schemes all : List NameScheme) → renames ≡ to → settled ≡ also → all ≡ schemes → AreNamed p old forms bound renames settled schemes → AreNamed p old forms bound to also all
named_of p old forms bound renames to settled also schemes all e q r h =
    subst (λ (xs : List NameScheme). AreNamed p old forms bound to also xs) (sym r)
    (subst (λ (ss : List (Option Settled)). AreNamed p old forms bound to ss schemes) q
    (subst (λ (rs : List Rename). AreNamed p old forms bound rs settled schemes) e h))

pub in_order : (p : Bare) (old forms : List TyForm) (bound : List (Option Ty)) (renames : List Rename) (settled : List (Option Settled)) (schemes : List NameScheme) → AreNamed p old forms bound renames settled schemes → AreOrdered schemes
in_order p old forms bound renames settled schemes h i s e = (h i s e).name

pub is_inferred : (p : Bare) (b : Below) (typed : Typed) → IsBelow p (length p.nodes) b → typed.bare ≡ p → typed.tables ≡ b.declared.tables → IsLonger b.work.unknowns.types typed.types → AreNamed p b.work.unknowns.types typed.types b.work.unknowns.subst.bound b.renames.items b.work.settled.items typed.schemes → IsInferred p typed
is_inferred p b typed h bare tables longer named =
    record {
      bare = bare;
      typing = typing_below p b;
      principal = ended_principal p (length p.nodes) b.declared (now b.work) b.work.general.items b.renames.items h;
      rows =
          ap (λ (t : Tables). name_types typed.types t.names) tables
          ∙ rows_same b.work.unknowns.types typed.types longer b.declared.tables.names h.going.sound.declared.there;
      schemes = λ x s e. (named x s e).is;
    }
