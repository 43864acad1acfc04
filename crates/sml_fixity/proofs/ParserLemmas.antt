-- Which refusal it is.
use Rattle.std.proofs.Common.{◌≡◌, ℕ, false, Option, Some, None, List, sym, ◌∙◌, ap, subst}
use Rattle.smlc_base.specs.declared.place.Place.{Place}
use Rattle.smlc_base.specs.declared.refusal.Banned.{Banned}
use Rattle.smlc_base.specs.declared.refusal.Refusal.TheVariants as refusal
use Rattle.sml_lexer.specs.declared.lexed.Lexed.{Lexed}
use Rattle.sml_lexer.specs.declared.token.Token.{Token}
use Rattle.sml_syntax.specs.declared.forms.Made.{Made}
use Rattle.sml_syntax.specs.Fixity.{Fix}
use Rattle.sml_syntax.specs.Grammar.{Parses}
use Rattle.sml_fixity.specs.declared.read.Stop.{Stop}
use Rattle.sml_fixity.specs.declared.read.Stop.TheVariants as stop
use Rattle.sml_fixity.specs.Banned.{banned_at}
use Rattle.sml_fixity.specs.Parse.{IsRefusal, mixed_fixity, not_in_subset, place_at, syntax_error}
use Rattle.sml_fixity.specs.Starting.{starting}
use Rattle.sml_fixity.specs.Stops.{Stops}
use Rattle.sml_fixity.specs.Terminals.{terminals}

abbrev pub StopsAs : Lexed → Stop → Type 0
StopsAs lexed s = Stops (starting lexed.names) (terminals lexed.names lexed.tokens) s

form_at : (lexed : Lexed) (tokens : List Token) (i : ℕ) (form found : Option Banned) → tokens ≡ lexed.tokens → form ≡ banned_at tokens i → form ≡ found → banned_at lexed.tokens i ≡ found
form_at lexed tokens i form found e h q = ap (λ (t : List Token). banned_at t i) (sym e) ∙ sym h ∙ q

pub refused_plain : (lexed : Lexed) (s : Stop) (i : ℕ) (tokens : List Token) (form : Option Banned) (place : Place) → StopsAs lexed s → s ≡ stop.Syntax i → tokens ≡ lexed.tokens → form ≡ banned_at tokens i → form ≡ None → place ≡ place_at lexed i → IsRefusal lexed (refusal.Syntax place)
refused_plain lexed s i tokens form place stops q e h w p =
    let P : Stop → Type 0 = λ s. StopsAs lexed s in
    let R : Place → Type 0 = λ p. IsRefusal lexed (refusal.Syntax p) in
    let (before, grouped) = subst P q stops in
    subst R (sym p) (syntax_error i before grouped (form_at lexed tokens i form None e h w))

pub refused_form : (lexed : Lexed) (s : Stop) (i : ℕ) (tokens : List Token) (form : Option Banned) (found : Banned) (place : Place) → StopsAs lexed s → s ≡ stop.Syntax i → tokens ≡ lexed.tokens → form ≡ banned_at tokens i → form ≡ Some found → place ≡ place_at lexed i → IsRefusal lexed (refusal.NotInSubset place found)
refused_form lexed s i tokens form found place stops q e h w p =
    let P : Stop → Type 0 = λ s. StopsAs lexed s in
    let R : Place → Type 0 = λ p. IsRefusal lexed (refusal.NotInSubset p found) in
    let (before, grouped) = subst P q stops in
    subst R (sym p) (not_in_subset i found before grouped (form_at lexed tokens i form (Some found) e h w))

pub refused_mixed : (lexed : Lexed) (s : Stop) (i : ℕ) (place : Place) → StopsAs lexed s → s ≡ stop.Mixed i → place ≡ place_at lexed i → IsRefusal lexed (refusal.MixedFixity place)
refused_mixed lexed s i place stops q p =
    let P : Stop → Type 0 = λ s. StopsAs lexed s in
    let R : Place → Type 0 = λ p. IsRefusal lexed (refusal.MixedFixity p) in
    let (before, grouped) = subst P q stops in
    subst R (sym p) (mixed_fixity i before grouped)

pub stops_for : (names : List (List ℕ)) (f g : Fix) (ts us : List Token) (s : Stop) → f ≡ g → ts ≡ us → Stops f (terminals names ts) s → Stops g (terminals names us) s
stops_for names f g ts us s e q h =
    let F : Fix → Type 0 = λ f. Stops f (terminals names ts) s in
    let T : List Token → Type 0 = λ ts. Stops g (terminals names ts) s in
    subst T q (subst F e h)

pub parses_for : (names : List (List ℕ)) (f g : Fix) (ts us : List Token) (o p : List Made) → f ≡ g → ts ≡ us → p ≡ o → Parses false f (terminals names ts) o → Parses false g (terminals names us) p
parses_for names f g ts us o p e q w h =
    let F : Fix → Type 0 = λ f. Parses false f (terminals names ts) o in
    let T : List Token → Type 0 = λ ts. Parses false g (terminals names ts) o in
    let O : List Made → Type 0 = λ o. Parses false g (terminals names us) o in
    subst O (sym w) (subst T q (subst F e h))
