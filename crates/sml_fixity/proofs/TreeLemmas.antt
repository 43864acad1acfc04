-- What the type of trees asks holds of the nodes of a program.
use Rattle.std.proofs.Common.{arith, ◌≡◌, ℕ, ◌+◌, ◌≤◌, ◌&&◌, Bool, true, false, cond, nat_lt, map, length, drop, get_or, Option, Some, None, List, [], ◌∷◌, refl, sym, ◌∙◌, ap, subst}
use Rattle.std.specs.List.{position_from}
use Rattle.std.proofs.lemmas.Bool.Decides.{nat_tests}
use Rattle.std.proofs.lemmas.List.{length-append, length-map}
use Rattle.smlc_base.specs.declared.place.Place.{Place}
use Rattle.smlc_base.specs.declared.refusal.Refusal.TheVariants as refusal
use Rattle.sml_lexer.specs.declared.lexed.Lexed.{Lexed}
use Rattle.sml_lexer.specs.declared.reserved.Reserved.{Reserved}
use Rattle.sml_lexer.specs.declared.reserved.Reserved.TheVariants as word
use Rattle.sml_lexer.specs.declared.token.Token.{Token}
use Rattle.sml_lexer.specs.declared.token.TokenKind.{TokenKind}
use Rattle.sml_lexer.specs.declared.token.TokenKind.TheVariants as kind
use Rattle.sml_lexer.specs.Cited.{is_cited, all_cited}
use Rattle.sml_tree.specs.declared.tree_node.TreeNode.{TreeNode}
use Rattle.sml_tree.specs.Parts.{parts_of}
use Rattle.sml_tree.specs.Tree.{all_cited as tree_cited, leaves, roots}
use Rattle.sml_syntax.specs.declared.forms.Made.{Made}
use Rattle.sml_syntax.specs.declared.forms.Terminal.TheVariants as tok
use Rattle.sml_fixity.specs.Citing.{all_cite, cites}
use Rattle.sml_tree.specs.Depth.{depths, greatest}
use Rattle.sml_tree.specs.Kinds.{shaped}
use Rattle.sml_fixity.specs.Nodes.{bare, node_of, places as places_of, start_of, starts_of}
use Rattle.sml_fixity.specs.Parse.{IsProgram, IsRefusal, first_deep, starts, too_deep}
use Rattle.sml_fixity.specs.Starting.{starting}
use Rattle.sml_fixity.specs.Terminals.{of_kind, of_word, terminal_of, terminals}
use Rattle.sml_fixity.proofs.Built.{program_built}
use Rattle.sml_fixity.proofs.Shaped.{program_shaped}

word_cites : (names texts : ℕ) (w : Reserved) → cites names texts (of_word w) ≡ true
word_cites names texts word.KwAbstype = refl
word_cites names texts _ = refl

kind_cites : (names texts : ℕ) (spelled : List (List ℕ)) (len : ℕ) (numeral : Bool) (k : TokenKind) → is_cited names texts k ≡ true → cites names texts (of_kind spelled len numeral k) ≡ true
kind_cites names texts spelled len numeral (kind.Word w) h = word_cites names texts w
kind_cites names texts spelled len numeral (kind.Id x) h = h
kind_cites names texts spelled len numeral (kind.Symbol x) h = h
kind_cites names texts spelled len numeral (kind.Long x) h = h
kind_cites names texts spelled len numeral (kind.TyVar x) h = h
kind_cites names texts spelled len numeral (kind.Int z) h = h
kind_cites names texts spelled len numeral (kind.WordLit v) h = refl
kind_cites names texts spelled len numeral kind.Real h = refl
kind_cites names texts spelled len numeral (kind.Char c) h = refl
kind_cites names texts spelled len numeral (kind.Text i) h = h

first_true : (b c : Bool) → b && c ≡ true → (b ≡ true) × (c ≡ true)
first_true true c e = (refl, e)
first_true false c e = cc

both_true : (b c : Bool) → b ≡ true → c ≡ true → b && c ≡ true
both_true true c e h = h
both_true false c e h = cc

pub tokens_cite : (names texts : ℕ) (spelled : List (List ℕ)) (tokens : List Token) → all_cited names texts tokens ≡ true → all_cite names texts (terminals spelled tokens) ≡ true
tokens_cite names texts spelled [] h = refl
tokens_cite names texts spelled (t ∷ ts) h =
    let (a, b) = first_true _ _ h in
    both_true _ _ (kind_cites names texts spelled t.len t.numeral t.kind a) (tokens_cite names texts spelled ts b)

pub starts_length : (at : List Place) (end : Place) (s : List Place) (o : List Made) → length (starts_of at end s o) ≡ length (bare o)
starts_length at end s [] = refl
starts_length at end s (m ∷ o) = let h = starts_length at end (start_of at end s m ∷ drop (parts_of (node_of m)) s) o in omega (arith, h)

-- what the type of trees asks
pub record Holds (lexed : Lexed) (nodes : List TreeNode) (places : List Place) (decs : List ℕ) : Type 0 where
  pub placed : length places ≡ length nodes
  pub forest : roots 0 [] nodes ≡ Some decs
  pub cited : tree_cited (length lexed.names) (length lexed.texts) nodes ≡ true
  pub few : leaves nodes ≤ 1048576
  pub shapely : shaped [] nodes ≡ true

pub begins_at : (lexed : Lexed) (made : List Made) (tokens : List Token) (places : List Place) → tokens ≡ lexed.tokens → places ≡ starts_of (places_of tokens lexed.end) lexed.end [] made → places ≡ starts lexed made
begins_at lexed made tokens places e h = h ∙ ap (λ (t : List Token). starts_of (places_of t lexed.end) lexed.end [] made) e

pub tree_holds : (lexed : Lexed) (made : List Made) (tokens : List Token) (nodes shown : List TreeNode) (places : List Place) (decs : List ℕ) → IsProgram lexed made → nodes ≡ bare made → tokens ≡ lexed.tokens → places ≡ starts_of (places_of tokens lexed.end) lexed.end [] made → shown ≡ nodes → ((numbers : List ℕ) → roots 0 [] shown ≡ Some numbers → decs ≡ numbers) → Holds lexed nodes places decs
tree_holds lexed made tokens nodes shown places decs program is_nodes is_tokens at_tokens is_shown at_shown =
    let is_places = begins_at lexed made tokens places is_tokens at_tokens in
    let is_decs : (numbers : List ℕ) → roots 0 [] nodes ≡ Some numbers → decs ≡ numbers = λ n e. at_shown n (ap (roots 0 []) is_shown ∙ e) in
    let a = terminals lexed.names lexed.tokens in
    let t = program_built (length lexed.names) (length lexed.texts) false (starting lexed.names) a made (tokens_cite (length lexed.names) (length lexed.texts) lexed.names lexed.tokens lexed.cited) program in
    let forest : roots 0 [] nodes ≡ Some t.decs = ap (roots 0 []) is_nodes ∙ t.forest in
    let size : length a ≡ length lexed.tokens + 1 = length-append (map (terminal_of lexed.names) lexed.tokens) (tok.Finish ∷ []) ∙ ap (λ (n : ℕ). n + 1) (length-map lexed.tokens (terminal_of lexed.names)) in
    record {
      placed = ap length is_places ∙ starts_length _ _ [] made ∙ ap length (sym is_nodes);
      forest = forest ∙ ap Some (sym (is_decs t.decs forest));
      cited = ap (tree_cited (length lexed.names) (length lexed.texts)) is_nodes ∙ t.cited;
      few = let u = t.few in let w = lexed.few in let z : leaves nodes ≡ leaves (bare made) = ap leaves is_nodes in omega (arith, u, w, z, size);
      shapely = ap (shaped []) is_nodes ∙ program_shaped false (starting lexed.names) a made program;
    }

-- the depths of the declarations
pub deep_of : (made : List Made) (nodes shown : List TreeNode) (ds seen : List ℕ) (r : Option ℕ) → nodes ≡ bare made → shown ≡ nodes → ds ≡ depths [] shown → seen ≡ ds → r ≡ position_from (nat_lt 1024) 0 seen → first_deep made ≡ r
deep_of made nodes shown ds seen r n is_shown at_shown is_seen at_seen =
    let d : ds ≡ depths [] nodes = at_shown ∙ ap (depths []) is_shown in
    let e : r ≡ position_from (nat_lt 1024) 0 ds = at_seen ∙ ap (position_from (nat_lt 1024) 0) is_seen in
    ap (λ (o : List TreeNode). position_from (nat_lt 1024) 0 (depths [] o)) (sym n) ∙ ap (position_from (nat_lt 1024) 0) (sym d) ∙ sym e

not_first : (b : Bool) (i : ℕ) (rest : Option ℕ) → cond b (Some i) rest ≡ None → (b ≡ false) × (rest ≡ None)
not_first true i rest h = cc
not_first false i rest h = (refl, h)

-- none is too deep
none_above : (i : ℕ) (ds : List ℕ) → position_from (nat_lt 1024) i ds ≡ None → greatest ds ≤ 1024
none_above i [] h = omega arith
none_above i (d ∷ ds) h =
    let (low, rest) = not_first (nat_lt 1024 d) i (position_from (nat_lt 1024) (i + 1) ds) h in
    let bound : d ≤ 1024 = grind (arith, nat_tests) in
    let more = none_above (i + 1) ds rest in
    omega (arith, bound, more)

pub low_of : (made : List Made) (nodes : List TreeNode) → nodes ≡ bare made → first_deep made ≡ None → greatest (depths [] nodes) ≤ 1024
low_of made nodes e h = none_above 0 (depths [] nodes) (ap (λ (o : List TreeNode). position_from (nat_lt 1024) 0 (depths [] o)) e ∙ h)

-- the refusal of the first declaration that is too deep
pub deep_refused : (lexed : Lexed) (made : List Made) (nodes : List TreeNode) (places : List Place) (decs : List ℕ) (k : ℕ) (r : Option ℕ) (place : Place) (seen : List Place) (numbers : List ℕ) → IsProgram lexed made → Holds lexed nodes places decs → nodes ≡ bare made → places ≡ starts lexed made → first_deep made ≡ r → r ≡ Some k → seen ≡ places → numbers ≡ decs → place ≡ get_or seen (get_or numbers k 0) lexed.end → IsRefusal lexed (refusal.TooDeep place)
deep_refused lexed made nodes places decs k r place seen numbers program holds is_nodes is_places deep is_some is_seen is_numbers at =
    let is_place : place ≡ get_or places (get_or decs k 0) lexed.end = at ∙ ap (λ (p : List Place). get_or p (get_or numbers k 0) lexed.end) is_seen ∙ ap (λ (d : List ℕ). get_or places (get_or d k 0) lexed.end) is_numbers in
    let P : Place → Type 0 = λ p. IsRefusal lexed (refusal.TooDeep p) in
    let same : place ≡ get_or (starts lexed made) (get_or decs k 0) lexed.end = is_place ∙ ap (λ (p : List Place). get_or p (get_or decs k 0) lexed.end) is_places in
    subst P (sym same) (too_deep made decs k program (ap (roots 0 []) (sym is_nodes) ∙ holds.forest) (deep ∙ is_some))
