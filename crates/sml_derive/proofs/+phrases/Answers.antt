use Rattle.std.proofs.Common.{◌≡◌, ◌≤◌, ◌<◌, true, ◌+◌, ◌++◌, ℕ, List, [], ◌∷◌, refl, sym, ap, subst, ◌∙◌, rules as search_rules, arith}
use Rattle.sml_tree.specs.Parts.{parts_of}
use Rattle.sml_expansion.specs.declared.mark.Mark.TheVariants.{Open, Close}
use Rattle.sml_expansion.specs.Terms.{Term, leaf, one, two, three, place_at}
use Rattle.sml_expansion.specs.Sources.{IsAt, node_at}
use Rattle.sml_expansion.specs.Scopes.{scope_of, ident}
use Rattle.sml_expansion.specs.Forests.{grown, none}
use Rattle.sml_expansion.specs.Makings.{gives, ◌>>=◌}
use Rattle.sml_expansion.specs.Bare.{tuple_node, fn_node, if_node, case_node, apply_node, sequence_node, list_node, wild_node}
use Rattle.sml_expansion.specs.Expressions.{expressions, rules, elsewhere, function_part, identifier, both, plain_bindings, decs, rec_rights, functions}
use Rattle.sml_expansion.proofs.Shapes.{node_is, as_one, as_two, as_three}
use Rattle.sml_derive.specs.Pairs.{is_list, pair_of, match_of, pair_node, match_node, between, behind_pair, behind_match, first_of}
use Rattle.sml_derive.specs.Steps.{Writes, scope, position, behind, Binds, Declares}
use Rattle.sml_derive.proofs.Schemas.{Is, is, on_so, walk_of, nothing_behind, one_part, two_parts, three_parts, unmarked, ok_so}
use Rattle.sml_derive.proofs.Spines.{Left, LeftCounted, behind_both, writes_both, one_less, one_less_counted, begun, begun_counted}
use Rattle.sml_derive.proofs.FormLemmas.{as_list, list_parts, pair_spells, pair_single, match_spells, match_single, if_spells, tuple_writes, rule_writes, no_rules, plain_pair, applied_pair, found, not_found, record_writes, typed_writes}
use Rattle.sml_derive.specs.Functions.{match_in}
use Rattle.sml_derive.proofs.Atoms.{identifier_writes}
use Rattle.sml_expansion.specs.Marks.{marks}
use Rattle.sml_derive.specs.Forms.{case_end, cons_begins, cons_end, sequence_of, list_of}
use Rattle.sml_derive.proofs.Nests.{sequence_pair, while_writes, let_writes}
use Rattle.sml_derive.proofs.Sequences.{LeftNest, nest_less, sequence_cons, list_cons, sequence_done, list_done}
use Rattle.sml_expansion.specs.Patterns.{patterns}
use Rattle.sml_derive.proofs.Binding.{LeftBinds, one_binding_less, binds_both, binds_one, no_binding}
use Rattle.sml_derive.proofs.Declaring.{LeftDecs, one_dec_less, declares_behind, declares_inside, type_declares, datatype_declares, no_dec, none_declared}
use Rattle.sml_expansion.specs.TypeVariables.{numbers_of}
use Rattle.sml_derive.proofs.Values.{LeftRights, plain_led, rec_led, right_writes, no_rights, begun_rights, right_less, rec_less, val_declares}
use Rattle.sml_expansion.specs.Clauses.{head, first_clause}
use Rattle.sml_derive.specs.FunctionDeclarations.{function_of}
use Rattle.sml_derive.proofs.FunctionLemmas.{function_writes, clause_writes, typed_clause_writes, no_clause, fun_declares}
use Rattle.sml_expansion.specs.declared.walk.Walk.{Walk}
use Rattle.sml_tree.specs.declared.tree_node.TreeNode.TheVariants as node
use Rattle.sml_tree.specs.declared.bare.Node.TheVariants as bare
use Rattle.sml_derive.specs.declared.pairs.Pair.TheVariants as pair
use Rattle.sml_derive.specs.declared.pairs.Matched.TheVariants as matched
use Rattle.sml_derive.proofs.+phrases.Goals as goal

pub expressions::beside-returns : goal.expressions::beside-returns
expressions::beside-returns t c = ok_so c.add.result _ _ (λ n e u k. as_list c.args.parsed.now c.args.at u k c.requires (λ u. Writes (expressions elsewhere (scope c.args.parsed.now c.args.walk.now) u) c.args.walk.now c.items.new.walk n) (λ m p a b h both. let parts = c.two-first.ensures.parts m p a b h in subst (λ f. Writes f c.args.walk.now c.items.new.walk n) (sym (both (scope c.args.parsed.now c.args.walk.now))) (writes_both (expressions elsewhere (scope c.args.parsed.now c.args.walk.now) a) (λ d. expressions elsewhere (scope_of c.args.parsed.now.names d) b) c.args.walk.now _ _ _ _ n (c.in_ok-trees.ensures a parts.0) (c.in_ok-more.ensures b parts.1) e))) c.add.ensures

pub expressions::expression-returns-in-Paren : goal.expressions::expression-returns-in-Paren
expressions::expression-returns-in-Paren t c = ok_so c.expression.result _ _ (λ n w u k. as_one c.args.parsed.now c.args.at u node.Paren k (sym c.node.ensures ∙ c.in-Paren.is) refl (λ u. Writes (expressions (position c.args.stands) (scope c.args.parsed.now c.args.walk.now) u) c.args.walk.now c.expression.new.walk n) (λ p a h. w a (c.one.ensures.part _ p a h))) c.expression.ensures

pub expressions::expression-returns-in-Row : goal.expressions::expression-returns-in-Row
expressions::expression-returns-in-Row t c = ok_so c.expression-in-Row.result _ _ (λ n w u k. as_two c.args.parsed.now c.args.at u node.Row k (sym c.node.ensures ∙ c.in-Row.is) refl (λ u. Writes (expressions (position c.args.stands) (scope c.args.parsed.now c.args.walk.now) u) c.args.walk.now c.expression-in-Row.new.walk n) (λ p l a h. w a (c.two-inner.ensures.parts _ p l a h).1)) c.expression-in-Row.ensures

pub expressions::expression-returns-in-MoreItems : goal.expressions::expression-returns-in-MoreItems
expressions::expression-returns-in-MoreItems t c = ok_so c.beside.result _ _ (λ n w u k. as_two c.args.parsed.now c.args.at u node.MoreItems k (sym c.node.ensures ∙ c.in-MoreItems.is) refl (λ u. Writes (expressions elsewhere (scope c.args.parsed.now c.args.walk.now) u) c.args.walk.now c.beside.new.walk n → Writes (expressions (position c.args.stands) (scope c.args.parsed.now c.args.walk.now) u) c.args.walk.now c.beside.new.walk n) (λ p a b h x. x) (w u k)) c.beside.ensures

pub expressions::expression-returns-in-MoreRows : goal.expressions::expression-returns-in-MoreRows
expressions::expression-returns-in-MoreRows t c = ok_so c.beside-in-MoreRows.result _ _ (λ n w u k. as_two c.args.parsed.now c.args.at u node.MoreRows k (sym c.node.ensures ∙ c.in-MoreRows.is) refl (λ u. Writes (expressions elsewhere (scope c.args.parsed.now c.args.walk.now) u) c.args.walk.now c.beside-in-MoreRows.new.walk n → Writes (expressions (position c.args.stands) (scope c.args.parsed.now c.args.walk.now) u) c.args.walk.now c.beside-in-MoreRows.new.walk n) (λ p a b h x. x) (w u k)) c.beside-in-MoreRows.ensures

pub expressions::expression-returns-in-MoreSeq : goal.expressions::expression-returns-in-MoreSeq
expressions::expression-returns-in-MoreSeq t c = ok_so c.beside-in-MoreSeq.result _ _ (λ n w u k. as_two c.args.parsed.now c.args.at u node.MoreSeq k (sym c.node.ensures ∙ c.in-MoreSeq.is) refl (λ u. Writes (expressions elsewhere (scope c.args.parsed.now c.args.walk.now) u) c.args.walk.now c.beside-in-MoreSeq.new.walk n → Writes (expressions (position c.args.stands) (scope c.args.parsed.now c.args.walk.now) u) c.args.walk.now c.beside-in-MoreSeq.new.walk n) (λ p a b h x. x) (w u k)) c.beside-in-MoreSeq.ensures

pub expressions::expression-returns-in-Andalso : goal.expressions::expression-returns-in-Andalso
expressions::expression-returns-in-Andalso t c = ok_so c.pair.result _ _ (λ n w u k. as_two c.args.parsed.now c.args.at u node.Andalso k (sym c.node.ensures ∙ c.in-Andalso.is) refl (λ u. Writes (pair_of pair.Andalso (scope c.args.parsed.now c.args.walk.now) u) c.args.walk.now c.pair.new.walk n → Writes (expressions (position c.args.stands) (scope c.args.parsed.now c.args.walk.now) u) c.args.walk.now c.pair.new.walk n) (λ p a b h x. x) (w u k)) c.pair.ensures

pub expressions::expression-returns-in-Orelse : goal.expressions::expression-returns-in-Orelse
expressions::expression-returns-in-Orelse t c = ok_so c.pair-in-Orelse.result _ _ (λ n w u k. as_two c.args.parsed.now c.args.at u node.Orelse k (sym c.node.ensures ∙ c.in-Orelse.is) refl (λ u. Writes (pair_of pair.Orelse (scope c.args.parsed.now c.args.walk.now) u) c.args.walk.now c.pair-in-Orelse.new.walk n → Writes (expressions (position c.args.stands) (scope c.args.parsed.now c.args.walk.now) u) c.args.walk.now c.pair-in-Orelse.new.walk n) (λ p a b h x. x) (w u k)) c.pair-in-Orelse.ensures

pub expressions::expression-returns-in-Case : goal.expressions::expression-returns-in-Case
expressions::expression-returns-in-Case t c = ok_so c.matched.result _ _ (λ n w u k. as_two c.args.parsed.now c.args.at u node.Case k (sym c.node.ensures ∙ c.in-Case.is) refl (λ u. Writes (match_of matched.Case (scope c.args.parsed.now c.args.walk.now) u) c.args.walk.now c.matched.new.walk n → Writes (expressions (position c.args.stands) (scope c.args.parsed.now c.args.walk.now) u) c.args.walk.now c.matched.new.walk n) (λ p a b h x. x) (w u k)) c.matched.ensures

pub expressions::expression-returns-in-Handle : goal.expressions::expression-returns-in-Handle
expressions::expression-returns-in-Handle t c = ok_so c.matched-in-Handle.result _ _ (λ n w u k. as_two c.args.parsed.now c.args.at u node.Handle k (sym c.node.ensures ∙ c.in-Handle.is) refl (λ u. Writes (match_of matched.Handle (scope c.args.parsed.now c.args.walk.now) u) c.args.walk.now c.matched-in-Handle.new.walk n → Writes (expressions (position c.args.stands) (scope c.args.parsed.now c.args.walk.now) u) c.args.walk.now c.matched-in-Handle.new.walk n) (λ p a b h x. x) (w u k)) c.matched-in-Handle.ensures

pub expressions::expression-returns-in_ok-close-in-Raise : goal.expressions::expression-returns-in_ok-close-in-Raise
expressions::expression-returns-in_ok-close-in-Raise t c = λ u k. as_one c.args.parsed.now c.args.at u node.Raise k (sym c.node.ensures ∙ c.in-Raise.is) refl (λ u. Writes (expressions (position c.args.stands) (scope c.args.parsed.now c.args.walk.now) u) c.args.walk.now c.close.new.self 1) (λ p a h. subst (λ q. Writes (expressions (position c.args.stands) (scope c.args.parsed.now c.args.walk.now) (one node.Raise q a)) c.args.walk.now c.close.new.self 1) (c.place-place.ensures _ h) (one_part (λ b. expressions elsewhere (scope_of c.args.parsed.now.names b) a) (λ x. grown (bare.Raise 0) c.place-place.result x) (Open ∷ []) (λ x. Close (bare.Raise 0) c.place-place.result ∷ []) c.args.walk.now _ _ _ (λ x. refl) (λ x. refl) (is c.in_ok-open-in-Raise.ensures) (is (c.in_ok-expression-in-Raise.ensures a (c.one-in-Raise.ensures.part _ p a h)).walk) (is c.in_ok-close-in-Raise.ensures)))

pub expressions::expression-returns-in_ok-close_fn-in-Fn : goal.expressions::expression-returns-in_ok-close_fn-in-Fn
expressions::expression-returns-in_ok-close_fn-in-Fn t c = λ u k. as_one c.args.parsed.now c.args.at u node.Fn k (sym c.node.ensures ∙ c.in-Fn.is) refl (λ u. Writes (expressions (position c.args.stands) (scope c.args.parsed.now c.args.walk.now) u) c.args.walk.now c.close_fn.new.walk 1) (λ p a h. subst (λ q. Writes (expressions (position c.args.stands) (scope c.args.parsed.now c.args.walk.now) (one node.Fn q a)) c.args.walk.now c.close_fn.new.walk 1) (c.place-place-in-Fn.ensures _ h) (one_part (λ b. rules (scope_of c.args.parsed.now.names b) a) (λ x. fn_node c.place-place-in-Fn.result x) (Open ∷ []) (λ x. Close (bare.Fn []) c.place-place-in-Fn.result ∷ []) c.args.walk.now _ _ _ (λ x. refl) (λ x. refl) (is c.in_ok-open-in-Fn.ensures) (is (c.in_ok-rules-in-Fn.ensures a (c.one-in-Fn.ensures.part _ p a h))) (is c.in_ok-close_fn-in-Fn.ensures)))

pub expressions::expression-returns-in_ok-close_case-in-If : goal.expressions::expression-returns-in_ok-close_case-in-If
expressions::expression-returns-in_ok-close_case-in-If t c = λ u k. as_three c.args.parsed.now c.args.at u node.If k (sym c.node.ensures ∙ c.in-If.is) refl (λ u. Writes (expressions (position c.args.stands) (scope c.args.parsed.now c.args.walk.now) u) c.args.walk.now c.close_case.new.walk 1) (λ p a b d h. let parts = c.three-condition.ensures.parts _ p a b d h in subst (λ q. Writes (expressions (position c.args.stands) (scope c.args.parsed.now c.args.walk.now) (three node.If q a b d)) c.args.walk.now c.close_case.new.walk 1) (c.place-place-in-If.ensures _ h) (three_parts (λ b. expressions elsewhere (scope_of c.args.parsed.now.names b) a) (λ e. expressions elsewhere (scope_of c.args.parsed.now.names e) b) (λ b. expressions elsewhere (scope_of c.args.parsed.now.names b) d) (if_node c.place-place-in-If.result) (Open ∷ []) _ _ (Close (bare.Case 0 []) c.place-place-in-If.result ∷ []) c.args.walk.now _ _ _ _ _ _ _ (if_spells c.place-place-in-If.result) (λ x y z. refl) (is c.in_ok-open-in-If.ensures) (is (c.in_ok-expression-in-If.ensures a parts.0).walk) (is c.in_ok-if_true-in-If.ensures) (is (c.in_ok-expression-in-If-2.ensures b parts.1).walk) (is c.in_ok-if_false-in-If.ensures) (is (c.in_ok-expression-in-If-3.ensures d parts.2).walk) (is c.in_ok-close_case-in-If.ensures)))

pub expressions::expression-returns-in_ok-close_case-in-Some : goal.expressions::expression-returns-in_ok-close_case-in-Some
expressions::expression-returns-in_ok-close_case-in-Some t c = λ u k. as_two c.args.parsed.now c.args.at u node.Apply k (sym c.node.ensures ∙ c.in-Apply.is) refl (λ u. Writes (expressions (position c.args.stands) (scope c.args.parsed.now c.args.walk.now) u) c.args.walk.now c.close_case-in-Some.new.walk 1) (λ p f a h. let parts = c.two-function.ensures.parts _ p f a h in let m = found c.args.parsed.now (match_in f) c.in-Some.body (c.in-Some.ensures.is f parts.0) in subst (λ q. Writes (expressions (position c.args.stands) (scope c.args.parsed.now c.args.walk.now) (two node.Apply q f a)) c.args.walk.now c.close_case-in-Some.new.walk 1) (c.place-place-in-Some.ensures _ h) (subst (λ g. Writes g c.args.walk.now c.close_case-in-Some.new.walk 1) (sym (applied_pair (position c.args.stands) (scope c.args.parsed.now c.args.walk.now) c.place-place-in-Some.result f a m.tree m.is)) (two_parts (λ d. expressions elsewhere (scope_of c.args.parsed.now.names d) a) (λ d. rules (scope_of c.args.parsed.now.names d) m.tree) (match_node matched.Case c.place-place-in-Some.result) (Open ∷ []) [] (behind_match matched.Case c.place-place-in-Some.result) c.args.walk.now _ _ _ _ _ (match_spells matched.Case c.place-place-in-Some.result) (match_single matched.Case c.place-place-in-Some.result) (is c.in_ok-open-in-Some.ensures) (is (c.in_ok-expression-in-Some.ensures a parts.1).walk) (is (unmarked _)) (is (c.in_ok-rules-in-Some.ensures m.tree m.stands)) (is c.in_ok-close_case-in-Some.ensures))))

pub expressions::expression-returns-in-None : goal.expressions::expression-returns-in-None
expressions::expression-returns-in-None t c = ok_so c.pair-in-None.result _ _ (λ n w u k. as_two c.args.parsed.now c.args.at u node.Apply k (sym c.node.ensures ∙ c.in-Apply.is) refl (λ u. Writes (pair_of pair.Apply (scope c.args.parsed.now c.args.walk.now) u) c.args.walk.now c.pair-in-None.new.walk n → Writes (expressions (position c.args.stands) (scope c.args.parsed.now c.args.walk.now) u) c.args.walk.now c.pair-in-None.new.walk n) (λ p f a h x. let parts = c.two-function.ensures.parts _ p f a h in subst (λ g. Writes g c.args.walk.now c.pair-in-None.new.walk n) (sym (plain_pair (position c.args.stands) (scope c.args.parsed.now c.args.walk.now) p f a (not_found c.args.parsed.now (match_in f) (c.in-None.ensures.is f parts.0)))) x) (w u k)) c.pair-in-None.ensures

pub expressions::expression-returns-in_ok-close-in-InfixExp : goal.expressions::expression-returns-in_ok-close-in-InfixExp
expressions::expression-returns-in_ok-close-in-InfixExp t c = λ u k. as_three c.args.parsed.now c.args.at u node.InfixExp k (sym c.node.ensures ∙ c.in-InfixExp.is) refl (λ u. Writes (expressions (position c.args.stands) (scope c.args.parsed.now c.args.walk.now) u) c.args.walk.now c.close-in-InfixExp.new.self 1) (λ p a v b h. let parts = c.three-left.ensures.parts _ p a v b h in subst (λ q. Writes (expressions (position c.args.stands) (scope c.args.parsed.now c.args.walk.now) (three node.InfixExp q a v b)) c.args.walk.now c.close-in-InfixExp.new.self 1) (c.place-place-in-InfixExp.ensures _ h) (two_parts (λ d. identifier function_part (scope_of c.args.parsed.now.names d) (place_at v) (ident c.args.parsed.now.names v)) (λ d. ◌>>=◌ (both (expressions elsewhere (scope_of c.args.parsed.now.names d) a) (expressions elsewhere (scope_of c.args.parsed.now.names d) b)) (λ x. gives (tuple_node c.place-place-in-InfixExp.result x))) (pair_node pair.Apply c.place-place-in-InfixExp.result) (Open ∷ []) [] (behind_pair pair.Apply c.place-place-in-InfixExp.result) c.args.walk.now c.open-in-InfixExp.new.self _ _ _ _ (pair_spells pair.Apply c.place-place-in-InfixExp.result) (pair_single pair.Apply c.place-place-in-InfixExp.result) (is c.in_ok-open-in-InfixExp.ensures) (is (walk_of (identifier_writes function_part (scope c.args.parsed.now c.open-in-InfixExp.new.self) c.open-in-InfixExp.new.self c.identifier.new.walk _ (place_at v) _ (ident c.args.parsed.now.names v) (c.place.ensures v parts.1) (c.ident.ensures v parts.1) c.in_ok-identifier-in-InfixExp.ensures))) (is (unmarked _)) (is (walk_of (tuple_writes (λ d. both (expressions elsewhere (scope_of c.args.parsed.now.names d) a) (expressions elsewhere (scope_of c.args.parsed.now.names d) b)) c.place-place-in-InfixExp.result c.identifier.new.walk c.open-in-InfixExp-2.new.self _ c.close_tuple.new.walk _ (is c.in_ok-open-in-InfixExp-2.ensures) (writes_both (expressions elsewhere (scope c.args.parsed.now c.open-in-InfixExp-2.new.self) a) (λ d. expressions elsewhere (scope_of c.args.parsed.now.names d) b) c.open-in-InfixExp-2.new.self _ _ _ _ _ (c.in_ok-trees-in-InfixExp.ensures a parts.0) (c.in_ok-more-in-InfixExp.ensures b parts.2) c.in_ok-all-in-InfixExp.ensures) (is c.in_ok-close_tuple-in-InfixExp.ensures)))) (is c.in_ok-close-in-InfixExp.ensures)))

pub expressions::expression-returns-in_ok-close_tuple-in-Tuple : goal.expressions::expression-returns-in_ok-close_tuple-in-Tuple
expressions::expression-returns-in_ok-close_tuple-in-Tuple t c = λ u k. as_two c.args.parsed.now c.args.at u node.Tuple k (sym c.node.ensures ∙ c.in-Tuple.is) refl (λ u. Writes (expressions (position c.args.stands) (scope c.args.parsed.now c.args.walk.now) u) c.args.walk.now c.close_tuple-in-Tuple.new.walk 1) (λ p a b h. let parts = c.two-first.ensures.parts _ p a b h in subst (λ q. Writes (expressions (position c.args.stands) (scope c.args.parsed.now c.args.walk.now) (two node.Tuple q a b)) c.args.walk.now c.close_tuple-in-Tuple.new.walk 1) (c.place-place-in-Tuple.ensures _ h) (tuple_writes (λ d. both (expressions elsewhere (scope_of c.args.parsed.now.names d) a) (expressions elsewhere (scope_of c.args.parsed.now.names d) b)) c.place-place-in-Tuple.result c.args.walk.now c.open-in-Tuple.new.self _ c.close_tuple-in-Tuple.new.walk _ (is c.in_ok-open-in-Tuple.ensures) (writes_both (expressions elsewhere (scope c.args.parsed.now c.open-in-Tuple.new.self) a) (λ d. expressions elsewhere (scope_of c.args.parsed.now.names d) b) c.open-in-Tuple.new.self _ _ _ _ _ (c.in_ok-trees-in-Tuple.ensures a parts.0) (c.in_ok-more-in-Tuple.ensures b parts.1) c.in_ok-all-in-Tuple.ensures) (is c.in_ok-close_tuple-in-Tuple.ensures)))

pub expressions::expression-returns-in_ok-close_record-in-Record : goal.expressions::expression-returns-in_ok-close_record-in-Record
expressions::expression-returns-in_ok-close_record-in-Record t c = λ u k. as_one c.args.parsed.now c.args.at u node.Record k (sym c.node.ensures ∙ c.in-Record.is) refl (λ u. Writes (expressions (position c.args.stands) (scope c.args.parsed.now c.args.walk.now) u) c.args.walk.now c.close_record.new.walk 1) (λ p a h. let part = c.one-rows.ensures.part _ p a h in subst (λ q. Writes (expressions (position c.args.stands) (scope c.args.parsed.now c.args.walk.now) (one node.Record q a)) c.args.walk.now c.close_record.new.walk 1) (c.place-place-in-Record.ensures _ h) (record_writes c.args.parsed.now (position c.args.stands) c.place-place-in-Record.result a c.args.walk.now c.in_ok-labs-in-Record.labs.items c.deref.result.now c.labels_once.new.made _ _ _ (is (c.in_ok-labs-in-Record.ensures a part)) (is c.deref.ensures.value) (is (sym (ap (λ r. r.1) c.in_ok-labels_once-in-Record.ensures))) (is c.in_ok-open-in-Record.ensures) (is (c.in_ok-items-in-Record.ensures a part).walk) (is c.in_ok-close_record-in-Record.ensures)))

pub expressions::expression-returns-in_ok-close-in-Typed : goal.expressions::expression-returns-in_ok-close-in-Typed
expressions::expression-returns-in_ok-close-in-Typed t c = λ u k. as_two c.args.parsed.now c.args.at u node.Typed k (sym c.node.ensures ∙ c.in-Typed.is) refl (λ u. Writes (expressions (position c.args.stands) (scope c.args.parsed.now c.args.walk.now) u) c.args.walk.now c.close-in-Typed.new.self 1) (λ p a v h. let parts = c.two-inner-in-Typed.ensures.parts _ p a v h in subst (λ q. Writes (expressions (position c.args.stands) (scope c.args.parsed.now c.args.walk.now) (two node.Typed q a v)) c.args.walk.now c.close-in-Typed.new.self 1) (c.place-place-in-Typed.ensures _ h) (typed_writes c.args.parsed.now (position c.args.stands) c.place-place-in-Typed.result a v c.args.walk.now _ _ _ _ _ (is (c.in_ok-ty-in-Typed.ensures.walk v parts.1)) (is (c.in_ok-ty-in-Typed.ensures.number v parts.1)) (is c.in_ok-open-in-Typed.ensures) (is (c.in_ok-expression-in-Typed.ensures a parts.0).walk) (is c.in_ok-close-in-Typed.ensures)))

pub expressions::items-loop-first-preserved : goal.expressions::items-loop-first-preserved
expressions::items-loop-first-preserved t c = let e : is_list (node_at c.args.parsed.now c.loop-first.next) ≡ true = ap is_list (sym c.node.ensures) ∙ sym c.is_list.ensures ∙ c.loop-first-test.true in let z : (c.two-first.result.0 < c.loop-first.next) × (c.two-first.result.1 < c.loop-first.next) = c.two-first.ensures.below (list_parts (node_at c.args.parsed.now c.loop-first.next) e) in record { left = λ u k. let l = c.loop-first.invariant.left u k in as_list c.args.parsed.now c.loop-first.next l.term l.stands e (λ r. l.term ≡ r → LeftCounted c.args.parsed.now (λ d r. expressions elsewhere (scope_of c.args.parsed.now.names d) r) u c.args.walk.now c.expression.new.walk c.two-first.result.1 c.in_ok-trees.trees) (λ n p a b h split same. let parts = c.two-first.ensures.parts n p a b h in one_less_counted c.args.parsed.now (λ d r. expressions elsewhere (scope_of c.args.parsed.now.names d) r) u a b c.args.walk.now c.loop-first.walk c.expression.new.walk c.loop-first.next c.two-first.result.1 c.loop-first.trees c.in_ok-more.more c.in_ok-trees.trees l parts.1 (ap (λ (r : Term). expressions elsewhere (scope c.args.parsed.now c.loop-first.walk) r) same ∙ split (scope c.args.parsed.now c.loop-first.walk)) (c.in_ok-more.ensures a parts.0) c.in_ok-trees.ensures) refl; below = omega (arith, z.1, c.loop-first.invariant.below) }

pub expressions::items-returns : goal.expressions::items-returns
expressions::items-returns t c = ok_so c.add-2.result _ _ (λ n e u k. let l = c.loop-first.invariant.left u k in let r : Writes (expressions elsewhere (scope c.args.parsed.now c.args.walk.now) u) c.args.walk.now c.expression-2.new.walk (c.loop-first.trees + c.in_ok-more-2.more) = l.goes c.expression-2.new.walk c.in_ok-more-2.more (c.in_ok-more-2.ensures l.term l.stands) in record { walk = r.walk; written = e ∙ r.written }) c.add-2.ensures

pub expressions::matched-returns : goal.expressions::matched-returns
expressions::matched-returns t c = λ u k. as_two c.args.parsed.now c.args.at u (node_at c.args.parsed.now c.args.at) k refl c.requires (λ u. Writes (match_of c.args.form (scope c.args.parsed.now c.args.walk.now) u) c.args.walk.now c.close_match.new.walk 1) (λ p a b h. let parts = c.two-first.ensures.parts _ p a b h in subst (λ q. Writes (match_of c.args.form (scope c.args.parsed.now c.args.walk.now) (two (node_at c.args.parsed.now c.args.at) q a b)) c.args.walk.now c.close_match.new.walk 1) (c.place-place.ensures _ h) (two_parts (λ d. expressions elsewhere (scope_of c.args.parsed.now.names d) a) (λ d. rules (scope_of c.args.parsed.now.names d) b) (match_node c.args.form c.place-place.result) (Open ∷ []) [] (behind_match c.args.form c.place-place.result) c.args.walk.now _ _ _ _ _ (match_spells c.args.form c.place-place.result) (match_single c.args.form c.place-place.result) (is c.in_ok-open.ensures) (is (c.in_ok-expression.ensures a parts.0).walk) (is (unmarked _)) (is (c.in_ok-rules.ensures b parts.1)) (is c.in_ok-close_match.ensures)))

pub expressions::pair-returns : goal.expressions::pair-returns
expressions::pair-returns t c = λ u k. as_two c.args.parsed.now c.args.at u (node_at c.args.parsed.now c.args.at) k refl c.requires (λ u. Writes (pair_of c.args.form (scope c.args.parsed.now c.args.walk.now) u) c.args.walk.now c.close_pair.new.walk 1) (λ p a b h. let parts = c.two-first.ensures.parts _ p a b h in subst (λ q. Writes (pair_of c.args.form (scope c.args.parsed.now c.args.walk.now) (two (node_at c.args.parsed.now c.args.at) q a b)) c.args.walk.now c.close_pair.new.walk 1) (c.place-place.ensures _ h) (two_parts (λ d. expressions (position (first_of c.args.form)) (scope_of c.args.parsed.now.names d) a) (λ d. expressions elsewhere (scope_of c.args.parsed.now.names d) b) (pair_node c.args.form c.place-place.result) (Open ∷ []) (between c.args.form c.place-place.result) (behind_pair c.args.form c.place-place.result) c.args.walk.now c.open.new.self c.expression.new.walk _ _ _ (pair_spells c.args.form c.place-place.result) (pair_single c.args.form c.place-place.result) (is c.in_ok-open.ensures) (is ((c.in_ok-expression.ensures a parts.0).walk ∙ ap (λ f. behind (expressions (position f) (scope c.args.parsed.now c.open.new.self) a) c.open.new.self) c.first_of.ensures)) (is c.in_ok-between.ensures) (is (c.in_ok-expression-2.ensures b parts.1).walk) (is c.in_ok-close_pair.ensures)))

pub expressions::rule-returns-in_ok-expression-in-Rule : goal.expressions::rule-returns-in_ok-expression-in-Rule
expressions::rule-returns-in_ok-expression-in-Rule t c = λ u k. as_two c.args.parsed.now c.args.at u node.Rule k (sym c.node.ensures ∙ c.in-Rule.is) refl (λ u. c.unsee.new.walk ≡ behind (rules (scope c.args.parsed.now c.args.walk.now) u) c.args.walk.now) (λ p q a h. let parts = c.two-pattern.ensures.parts _ p q a h in rule_writes c.args.parsed.now q a c.args.walk.now c.len-around.result _ _ _ _ c.deref.result.now (is (c.in_ok-vars-in-Rule.ensures.walk q parts.0)) (is (c.deref.ensures.value ∙ c.in_ok-vars-in-Rule.ensures.vars q parts.0)) (is c.in_ok-see-in-Rule.ensures) (is (c.in_ok-expression-in-Rule.ensures a parts.1).walk) (sym c.len-around.ensures) (is c.unsee.ensures))

pub expressions::rule-returns-in_ok-rule-in-MoreRules : goal.expressions::rule-returns-in_ok-rule-in-MoreRules
expressions::rule-returns-in_ok-rule-in-MoreRules t c = on_so c.rules.result _ _ (λ w u k. as_two c.args.parsed.now c.args.at u node.MoreRules k (sym c.node.ensures ∙ c.in-MoreRules.is) refl (λ u. c.rules.new.walk ≡ behind (rules (scope c.args.parsed.now c.args.walk.now) u) c.args.walk.now) (λ p a b h. let parts = c.two-first.ensures.parts _ p a b h in behind_both (rules (scope c.args.parsed.now c.args.walk.now) a) (λ d. rules (scope_of c.args.parsed.now.names d) b) c.args.walk.now _ _ (is (c.in_ok-rule-in-MoreRules.ensures a parts.0)) (is (w b parts.1)))) c.rules.ensures

pub expressions::rule-returns-in_default : goal.expressions::rule-returns-in_default
expressions::rule-returns-in_default t c = λ u k. nothing_behind c.args.walk.now (rules (scope c.args.parsed.now c.args.walk.now) u) (no_rules (scope c.args.parsed.now c.args.walk.now) u c.node.result (c.node.ensures ∙ node_is c.args.parsed.now c.args.at u k) c.in_default.not-Rule c.in_default.not-MoreRules)

pub expressions::rules-loop-first-preserved : goal.expressions::rules-loop-first-preserved
expressions::rules-loop-first-preserved t c = let e : node_at c.args.parsed.now c.loop-first.next ≡ node.MoreRules = (sym c.node.ensures ∙ c.in-MoreRules.is) in let z : (c.two-first.result.0 < c.loop-first.next) × (c.two-first.result.1 < c.loop-first.next) = c.two-first.ensures.below (ap parts_of e) in record { left = λ u k. let l = c.loop-first.invariant.left u k in as_two c.args.parsed.now c.loop-first.next l.term node.MoreRules l.stands e refl (λ r. l.term ≡ r → Left c.args.parsed.now (λ d r. rules (scope_of c.args.parsed.now.names d) r) u c.args.walk.now c.rule.new.walk c.two-first.result.1) (λ p a b h same. let parts = c.two-first.ensures.parts _ p a b h in one_less c.args.parsed.now (λ d r. rules (scope_of c.args.parsed.now.names d) r) u a b c.args.walk.now c.loop-first.walk c.rule.new.walk c.loop-first.next c.two-first.result.1 l parts.1 (ap (λ (r : Term). rules (scope c.args.parsed.now c.loop-first.walk) r) same) (c.in_ok-rule.ensures a parts.0)) refl; below = omega (arith, z.1, c.loop-first.invariant.below) }

pub expressions::rules-returns : goal.expressions::rules-returns
expressions::rules-returns t c = on_so c.rule-2.result _ _ (λ w u k. let l = c.loop-first.invariant.left u k in l.goes c.rule-2.new.walk (w l.term l.stands)) c.rule-2.ensures

pub expressions::alone-returns : goal.expressions::alone-returns
expressions::alone-returns t c = on_so c.one_tree.result _ _ (λ e u k. subst (λ n. Writes (expressions elsewhere (scope c.args.parsed.now c.args.walk.now) u) c.args.walk.now c.expression.new.walk n) e (c.in_ok-trees.ensures u k)) c.one_tree.ensures

pub expressions::sequence-loop-first-preserved : goal.expressions::sequence-loop-first-preserved
expressions::sequence-loop-first-preserved t c = let e : is_list (node_at c.args.parsed.now c.loop-first.next) ≡ true = ap is_list (sym c.node.ensures) ∙ sym c.is_list.ensures ∙ c.loop-first-test.true in let z : (c.two-first.result.0 < c.loop-first.next) × (c.two-first.result.1 < c.loop-first.next) = c.two-first.ensures.below (list_parts (node_at c.args.parsed.now c.loop-first.next) e) in record { left = λ u k. let l = c.loop-first.invariant.left u k in as_list c.args.parsed.now c.loop-first.next l.term l.stands e (λ r. l.term ≡ r → LeftNest c.args.parsed.now (sequence_node c.args.place) (case_end c.args.place) (λ d r. expressions elsewhere (scope_of c.args.parsed.now.names d) r) u c.args.walk.now c.wild.new.walk c.two-first.result.1 c.in_ok-cases.cases) (λ n p a b h split same. let parts = c.two-first.ensures.parts n p a b h in nest_less c.args.parsed.now (sequence_node c.args.place) (Open ∷ []) (marks (wild_node c.args.place)) (case_end c.args.place) (λ d r. expressions elsewhere (scope_of c.args.parsed.now.names d) r) u a b c.args.walk.now c.loop-first.walk c.open.new.self c.alone.new.walk c.wild.new.walk c.loop-first.next c.two-first.result.1 c.loop-first.cases c.in_ok-cases.cases l parts.1 (ap (λ (r : Term). expressions elsewhere (scope c.args.parsed.now c.loop-first.walk) r) same ∙ split (scope c.args.parsed.now c.loop-first.walk)) (c.in_ok-alone.ensures a parts.0) c.in_ok-cases.ensures (sequence_cons c.args.place) (is c.in_ok-open.ensures) (is c.in_ok-wild.ensures)) refl; below = omega (arith, z.1, c.loop-first.invariant.below) }

pub expressions::sequence-returns : goal.expressions::sequence-returns
expressions::sequence-returns t c = on_so c.close_cases.result _ _ (λ w u k. let l = c.loop-first.invariant.left u k in sequence_done c.args.parsed.now c.args.place (λ d r. expressions elsewhere (scope_of c.args.parsed.now.names d) r) u c.args.walk.now c.loop-first.walk c.alone-2.new.walk c.close_cases.new.walk c.loop-first.next c.loop-first.cases l (c.in_ok-alone-2.ensures l.term l.stands) w) c.close_cases.ensures

pub expressions::list-loop-first-preserved : goal.expressions::list-loop-first-preserved
expressions::list-loop-first-preserved t c = let e : is_list (node_at c.args.parsed.now c.loop-first.next) ≡ true = ap is_list (sym c.node.ensures) ∙ sym c.is_list.ensures ∙ c.loop-first-test.true in let z : (c.two-first.result.0 < c.loop-first.next) × (c.two-first.result.1 < c.loop-first.next) = c.two-first.ensures.below (list_parts (node_at c.args.parsed.now c.loop-first.next) e) in record { left = λ u k. let l = c.loop-first.invariant.left u k in as_list c.args.parsed.now c.loop-first.next l.term l.stands e (λ r. l.term ≡ r → LeftNest c.args.parsed.now (list_node c.args.place) (cons_end c.args.place) (λ d r. expressions elsewhere (scope_of c.args.parsed.now.names d) r) u c.args.walk.now c.alone.new.walk c.two-first.result.1 c.in_ok-conses.conses) (λ n p a b h split same. let parts = c.two-first.ensures.parts n p a b h in nest_less c.args.parsed.now (list_node c.args.place) (cons_begins c.args.place) [] (cons_end c.args.place) (λ d r. expressions elsewhere (scope_of c.args.parsed.now.names d) r) u a b c.args.walk.now c.loop-first.walk c.open_cons.new.walk c.alone.new.walk c.alone.new.walk c.loop-first.next c.two-first.result.1 c.loop-first.conses c.in_ok-conses.conses l parts.1 (ap (λ (r : Term). expressions elsewhere (scope c.args.parsed.now c.loop-first.walk) r) same ∙ split (scope c.args.parsed.now c.loop-first.walk)) (c.in_ok-alone.ensures a parts.0) c.in_ok-conses.ensures (λ x y h g. list_cons c.args.place x y h) (is c.in_ok-open_cons.ensures) (is (unmarked _))) refl; below = omega (arith, z.1, c.loop-first.invariant.below) }

pub expressions::list-returns : goal.expressions::list-returns
expressions::list-returns t c = on_so c.close_conses.result _ _ (λ w u k. let l = c.loop-first.invariant.left u k in list_done c.args.parsed.now c.args.place (λ d r. expressions elsewhere (scope_of c.args.parsed.now.names d) r) u c.args.walk.now c.loop-first.walk c.open_cons-2.new.walk c.alone-2.new.walk c.close_list.new.walk c.close_conses.new.walk c.loop-first.next c.loop-first.conses l (is c.in_ok-open_cons-2.ensures) (c.in_ok-alone-2.ensures l.term l.stands) (is c.in_ok-close_list.ensures) w) c.close_conses.ensures

pub expressions::expression-returns-in_ok-list-in-List : goal.expressions::expression-returns-in_ok-list-in-List
expressions::expression-returns-in_ok-list-in-List t c = λ u k. as_one c.args.parsed.now c.args.at u node.List k (sym c.node.ensures ∙ c.in-List.is) refl (λ u. Writes (expressions (position c.args.stands) (scope c.args.parsed.now c.args.walk.now) u) c.args.walk.now c.list.new.walk 1) (λ p a h. subst (λ q. Writes (expressions (position c.args.stands) (scope c.args.parsed.now c.args.walk.now) (one node.List q a)) c.args.walk.now c.list.new.walk 1) (c.place-place-in-List.ensures _ h) (c.in_ok-list-in-List.ensures a (c.one-in-List.ensures.part _ p a h)))

pub expressions::expression-returns-in_ok-close_case-in-Sequence : goal.expressions::expression-returns-in_ok-close_case-in-Sequence
expressions::expression-returns-in_ok-close_case-in-Sequence t c = λ u k. as_two c.args.parsed.now c.args.at u node.Sequence k (sym c.node.ensures ∙ c.in-Sequence.is) refl (λ u. Writes (expressions (position c.args.stands) (scope c.args.parsed.now c.args.walk.now) u) c.args.walk.now c.close_case-in-Sequence.new.walk 1) (λ p a b h. let parts = c.two-first-in-Sequence.ensures.parts _ p a b h in subst (λ q. Writes (expressions (position c.args.stands) (scope c.args.parsed.now c.args.walk.now) (two node.Sequence q a b)) c.args.walk.now c.close_case-in-Sequence.new.walk 1) (c.place-place-in-Sequence.ensures _ h) (sequence_pair (λ d. expressions elsewhere (scope_of c.args.parsed.now.names d) a) (λ d. expressions elsewhere (scope_of c.args.parsed.now.names d) b) c.place-place-in-Sequence.result c.args.walk.now c.open-in-Sequence.new.self _ c.wild.new.walk _ _ (is c.in_ok-open-in-Sequence.ensures) (c.in_ok-alone-in-Sequence.ensures a parts.0) (is c.in_ok-wild-in-Sequence.ensures) (c.in_ok-sequence-in-Sequence.ensures b parts.1) (is c.in_ok-close_case-in-Sequence.ensures)))

pub expressions::expression-returns-in_ok-close_while-in-While : goal.expressions::expression-returns-in_ok-close_while-in-While
expressions::expression-returns-in_ok-close_while-in-While t c = λ u k. as_two c.args.parsed.now c.args.at u node.While k (sym c.node.ensures ∙ c.in-While.is) refl (λ u. Writes (expressions (position c.args.stands) (scope c.args.parsed.now c.args.walk.now) u) c.args.walk.now c.close_while.new.walk 1) (λ p a b h. let parts = c.two-condition.ensures.parts _ p a b h in subst (λ q. Writes (expressions (position c.args.stands) (scope c.args.parsed.now c.args.walk.now) (two node.While q a b)) c.args.walk.now c.close_while.new.walk 1) (c.place-place-in-While.ensures _ h) (while_writes c.args.parsed.now (position c.args.stands) c.place-place-in-While.result a b c.args.walk.now c.in_ok-name-in-While.name c.new_name.new.self c.open_while.new.walk c.expression-in-While.new.walk c.begin_turn.new.walk c.alone-in-While.new.walk c.close_while.new.walk (is (sym (ap (λ r. r.0) c.in_ok-name-in-While.ensures))) (is (sym (ap (λ r. r.1) c.in_ok-name-in-While.ensures))) (is c.in_ok-open_while-in-While.ensures) (is (c.in_ok-expression-in-While.ensures a parts.0).walk) (is c.in_ok-begin_turn-in-While.ensures) (c.in_ok-alone-in-While.ensures b parts.1) (is c.in_ok-close_while-in-While.ensures)))

pub expressions::expression-returns-in_ok-close_lets-in-Let : goal.expressions::expression-returns-in_ok-close_lets-in-Let
expressions::expression-returns-in_ok-close_lets-in-Let t c = λ u k. as_two c.args.parsed.now c.args.at u node.Let k (sym c.node.ensures ∙ c.in-Let.is) refl (λ u. Writes (expressions (position c.args.stands) (scope c.args.parsed.now c.args.walk.now) u) c.args.walk.now c.forget.new.walk 1) (λ p d a h. let parts = c.two-declared.ensures.parts _ p d a h in subst (λ q. Writes (expressions (position c.args.stands) (scope c.args.parsed.now c.args.walk.now) (two node.Let q d a)) c.args.walk.now c.forget.new.walk 1) (c.place-place-in-Let.ensures _ h) (let_writes c.args.parsed.now (position c.args.stands) c.place-place-in-Let.result d a c.args.walk.now c.len-values.result c.len-types.result c.in_ok-trees-in-Let.trees c.decs.new.walk c.sequence-in-Let.new.walk c.close_lets.new.walk c.forget.new.walk (sym c.len-values.ensures) (sym c.len-types.ensures) (is (c.in_ok-trees-in-Let.ensures d parts.0).walk) (is (c.in_ok-trees-in-Let.ensures d parts.0).written) (c.in_ok-sequence-in-Let.ensures a parts.1) (is c.in_ok-close_lets-in-Let.ensures) (is c.forget.ensures)))

pub bindings::plain_bindings-loop-first-preserved : goal.bindings::plain_bindings-loop-first-preserved
bindings::plain_bindings-loop-first-preserved t c = let e : node_at c.args.parsed.now c.loop-first.next ≡ node.MoreValBinds = (sym c.node.ensures ∙ c.in-MoreValBinds.is) in let z : (c.two-first.result.0 < c.loop-first.next) × (c.two-first.result.1 < c.loop-first.next) = c.two-first.ensures.below (ap parts_of e) in record { left = λ u k. let l = c.loop-first.invariant.left u k in as_two c.args.parsed.now c.loop-first.next l.term node.MoreValBinds l.stands e refl (λ r. l.term ≡ r → LeftBinds c.args.parsed.now (λ d r. plain_bindings (scope_of c.args.parsed.now.names d) r) u c.args.walk.now c.plain_binding.new.walk c.args.vars.now.items c.plain_binding.new.vars.items c.two-first.result.1) (λ p a b h reads. let parts = c.two-first.ensures.parts _ p a b h in one_binding_less c.args.parsed.now (λ d r. plain_bindings (scope_of c.args.parsed.now.names d) r) u a b c.args.walk.now c.loop-first.walk c.plain_binding.new.walk c.args.vars.now.items c.loop-first.vars.items c.plain_binding.new.vars.items c.loop-first.next c.two-first.result.1 l parts.1 (ap (λ (r : Term). plain_bindings (scope c.args.parsed.now c.loop-first.walk) r) reads) (c.in_ok-plain_binding.ensures a parts.0)) refl; below = omega (arith, z.1, c.loop-first.invariant.below) }

pub bindings::plain_bindings-returns : goal.bindings::plain_bindings-returns
bindings::plain_bindings-returns t c = on_so c.plain_binding-2.result _ _ (λ w u k. let l = c.loop-first.invariant.left u k in l.goes c.plain_binding-2.new.walk c.plain_binding-2.new.vars.items (w l.term l.stands)) c.plain_binding-2.ensures

pub bindings::plain_binding-returns-in_ok-expression-in-ValBind : goal.bindings::plain_binding-returns-in_ok-expression-in-ValBind
bindings::plain_binding-returns-in_ok-expression-in-ValBind t c = λ u k. as_two c.args.parsed.now c.args.at u node.ValBind k (sym c.node.ensures ∙ c.in-ValBind.is) refl (λ u. Binds (plain_bindings (scope c.args.parsed.now c.args.walk.now) u) c.args.walk.now c.expression.new.walk c.args.vars.now.items c.pattern.new.vars.items) (λ p q a h. let parts = c.two-left.ensures.parts _ p q a h in binds_one (patterns (scope c.args.parsed.now c.args.walk.now) q) (λ d. expressions elsewhere (scope_of c.args.parsed.now.names d) a) c.args.walk.now c.pattern.new.walk c.expression.new.walk c.args.vars.now.items c.pattern.new.vars.items _ (c.in_ok-pattern-in-ValBind.ensures q parts.0) (c.in_ok-expression-in-ValBind.ensures a parts.1))

pub bindings::plain_binding-returns-in_ok-plain_bindings-in-MoreValBinds : goal.bindings::plain_binding-returns-in_ok-plain_bindings-in-MoreValBinds
bindings::plain_binding-returns-in_ok-plain_bindings-in-MoreValBinds t c = on_so c.plain_bindings-in-MoreValBinds.result _ _ (λ w u k. as_two c.args.parsed.now c.args.at u node.MoreValBinds k (sym c.node.ensures ∙ c.in-MoreValBinds.is) refl (λ u. Binds (plain_bindings (scope c.args.parsed.now c.args.walk.now) u) c.args.walk.now c.plain_bindings-in-MoreValBinds.new.walk c.args.vars.now.items c.plain_bindings-in-MoreValBinds.new.vars.items) (λ p a b h. let parts = c.two-first.ensures.parts _ p a b h in binds_both (plain_bindings (scope c.args.parsed.now c.args.walk.now) a) (λ d. plain_bindings (scope_of c.args.parsed.now.names d) b) c.args.walk.now c.plain_bindings.new.walk _ c.args.vars.now.items c.plain_bindings.new.vars.items _ (c.in_ok-plain_bindings-in-MoreValBinds.ensures a parts.0) (w b parts.1))) c.plain_bindings-in-MoreValBinds.ensures

pub bindings::plain_binding-returns-in_default : goal.bindings::plain_binding-returns-in_default
bindings::plain_binding-returns-in_default t c = λ u k. no_binding (scope c.args.parsed.now c.args.walk.now) u c.node.result c.args.walk.now c.args.vars.now.items (c.node.ensures ∙ node_is c.args.parsed.now c.args.at u k) c.in_default.not-ValBind c.in_default.not-MoreValBinds

pub declarations::decs-loop-first-preserved : goal.declarations::decs-loop-first-preserved
declarations::decs-loop-first-preserved t c = let e : node_at c.args.parsed.now c.loop-first.next ≡ node.MoreDecs = (sym c.node.ensures ∙ c.in-MoreDecs.is) in let z : (c.two-first.result.0 < c.loop-first.next) × (c.two-first.result.1 < c.loop-first.next) = c.two-first.ensures.below (ap parts_of e) in record { left = λ u k. let l = c.loop-first.invariant.left u k in as_two c.args.parsed.now c.loop-first.next l.term node.MoreDecs l.stands e refl (λ r. l.term ≡ r → LeftDecs c.args.parsed.now u c.args.walk.now c.dec.new.walk c.two-first.result.1 c.in_ok-trees.trees) (λ p a b h same. let parts = c.two-first.ensures.parts _ p a b h in one_dec_less c.args.parsed.now u a b p c.args.walk.now c.loop-first.walk c.dec.new.walk c.loop-first.next c.two-first.result.1 c.loop-first.trees c.in_ok-more.more c.in_ok-trees.trees l parts.1 same (c.in_ok-more.ensures a parts.0) c.in_ok-trees.ensures) refl; below = omega (arith, z.1, c.loop-first.invariant.below) }

pub declarations::decs-returns : goal.declarations::decs-returns
declarations::decs-returns t c = ok_so c.add-2.result _ _ (λ n e u k. let l = c.loop-first.invariant.left u k in let r : Declares (decs (scope c.args.parsed.now c.args.walk.now) u) c.args.walk.now c.dec-2.new.walk (c.loop-first.trees + c.in_ok-more-2.more) = l.goes c.dec-2.new.walk c.in_ok-more-2.more (c.in_ok-more-2.ensures l.term l.stands) in record { walk = r.walk; written = e ∙ r.written }) c.add-2.ensures

pub declarations::dec-returns-in_ok-more-in-MoreDecs : goal.declarations::dec-returns-in_ok-more-in-MoreDecs
declarations::dec-returns-in_ok-more-in-MoreDecs t c = ok_so c.add.result _ _ (λ n e u k. as_two c.args.parsed.now c.args.at u node.MoreDecs k (sym c.node.ensures ∙ c.in-MoreDecs.is) refl (λ u. Declares (decs (scope c.args.parsed.now c.args.walk.now) u) c.args.walk.now c.decs-in-MoreDecs.new.walk n) (λ p a b h. let parts = c.two-first.ensures.parts _ p a b h in declares_behind c.args.parsed.now p a b c.args.walk.now c.decs.new.walk c.decs-in-MoreDecs.new.walk _ _ n (c.in_ok-trees-in-MoreDecs.ensures a parts.0) (c.in_ok-more-in-MoreDecs.ensures b parts.1) e)) c.add.ensures

pub declarations::dec-returns-in_ok-hide-in-Local : goal.declarations::dec-returns-in_ok-hide-in-Local
declarations::dec-returns-in_ok-hide-in-Local t c = ok_so c.add-in-Local.result _ _ (λ n e u k. as_two c.args.parsed.now c.args.at u node.Local k (sym c.node.ensures ∙ c.in-Local.is) refl (λ u. Declares (decs (scope c.args.parsed.now c.args.walk.now) u) c.args.walk.now c.hide.new.walk n) (λ p a b h. let parts = c.two-inner.ensures.parts _ p a b h in declares_inside c.args.parsed.now p a b c.args.walk.now c.decs-in-Local.new.walk c.decs-in-Local-2.new.walk c.hide.new.walk _ _ n _ _ _ _ (c.in_ok-trees-in-Local.ensures a parts.0) (c.in_ok-more-in-Local.ensures b parts.1) e (sym c.len-values.ensures) (sym c.len-inner_values.ensures) (sym c.len-types.ensures) (sym c.len-inner_types.ensures) c.in_ok-hide-in-Local.ensures)) c.add-in-Local.ensures

pub declarations::dec-returns-in-Val : goal.declarations::dec-returns-in-Val
declarations::dec-returns-in-Val t c = ok_so c.val_dec.result _ _ (λ n w u k. as_two c.args.parsed.now c.args.at u node.Val k (sym c.node.ensures ∙ c.in-Val.is) refl (λ u. Declares (decs (scope c.args.parsed.now c.args.walk.now) u) c.args.walk.now c.val_dec.new.walk n) (λ p a b h. w p a b h)) c.val_dec.ensures

pub declarations::dec-returns-in-Fun : goal.declarations::dec-returns-in-Fun
declarations::dec-returns-in-Fun t c = ok_so c.fun_dec.result _ _ (λ n w u k. as_two c.args.parsed.now c.args.at u node.Fun k (sym c.node.ensures ∙ c.in-Fun.is) refl (λ u. Declares (decs (scope c.args.parsed.now c.args.walk.now) u) c.args.walk.now c.fun_dec.new.walk n) (λ p a b h. w p a b h)) c.fun_dec.ensures

pub declarations::dec-returns-in_ok-type_dec-in-Type : goal.declarations::dec-returns-in_ok-type_dec-in-Type
declarations::dec-returns-in_ok-type_dec-in-Type t c = λ u k. as_one c.args.parsed.now c.args.at u node.Type k (sym c.node.ensures ∙ c.in-Type.is) refl (λ u. Declares (decs (scope c.args.parsed.now c.args.walk.now) u) c.args.walk.now c.type_dec.new.walk 1) (λ p a h. subst (λ q. Declares (decs (scope c.args.parsed.now c.args.walk.now) (one node.Type q a)) c.args.walk.now c.type_dec.new.walk 1) (c.place-place.ensures _ h) (type_declares c.args.parsed.now c.place-place.result a c.args.walk.now c.open.new.self c.type_dec.new.walk (is c.in_ok-open-in-Type.ensures) (is (c.in_ok-type_dec-in-Type.ensures a (c.one.ensures.part _ p a h)))))

pub declarations::dec-returns-in_ok-datatype_dec-in-Datatype : goal.declarations::dec-returns-in_ok-datatype_dec-in-Datatype
declarations::dec-returns-in_ok-datatype_dec-in-Datatype t c = λ u k. as_one c.args.parsed.now c.args.at u node.Datatype k (sym c.node.ensures ∙ c.in-Datatype.is) refl (λ u. Declares (decs (scope c.args.parsed.now c.args.walk.now) u) c.args.walk.now c.datatype_dec.new.walk 1) (λ p a h. subst (λ q. Declares (decs (scope c.args.parsed.now c.args.walk.now) (one node.Datatype q a)) c.args.walk.now c.datatype_dec.new.walk 1) (c.place-place-in-Datatype.ensures _ h) (datatype_declares c.args.parsed.now c.place-place-in-Datatype.result a c.args.walk.now c.open-in-Datatype.new.self c.datatype_dec.new.walk (is c.in_ok-open-in-Datatype.ensures) (is (c.in_ok-datatype_dec-in-Datatype.ensures a (c.one-in-Datatype.ensures.part _ p a h)))))

pub declarations::dec-returns-in-Exception : goal.declarations::dec-returns-in-Exception
declarations::dec-returns-in-Exception t c = ok_so c.exception_dec.result _ _ (λ n w u k. as_one c.args.parsed.now c.args.at u node.Exception k (sym c.node.ensures ∙ c.in-Exception.is) refl (λ u. Declares (decs (scope c.args.parsed.now c.args.walk.now) u) c.args.walk.now c.exception_dec.new.walk n) (λ p a h. subst (λ q. Declares (decs (scope c.args.parsed.now c.args.walk.now) (one node.Exception q a)) c.args.walk.now c.exception_dec.new.walk n) (c.place-place-in-Exception.ensures _ h) (w a (c.one-in-Exception.ensures.part _ p a h)))) c.exception_dec.ensures

pub declarations::dec-returns-in_default : goal.declarations::dec-returns-in_default
declarations::dec-returns-in_default t c = λ u k. none_declared c.args.walk.now (decs (scope c.args.parsed.now c.args.walk.now) u) (no_dec (scope c.args.parsed.now c.args.walk.now) u c.node.result (c.node.ensures ∙ node_is c.args.parsed.now c.args.at u k) c.in_default.not-MoreDecs c.in_default.not-Local c.in_default.not-Val c.in_default.not-Fun c.in_default.not-Type c.in_default.not-Datatype c.in_default.not-Exception)

pub value_declarations::val_dec-returns : goal.value_declarations::val_dec-returns
value_declarations::val_dec-returns t c = ok_so c.add.result _ _ (λ n e p vs b h. let parts = c.two-sequence.ensures.parts _ p vs b h in subst (λ q. Declares (decs (scope c.args.parsed.now c.args.walk.now) (two node.Val q vs b)) c.args.walk.now c.see.new.walk n) (c.place-place.ensures _ h) (val_declares c.args.parsed.now c.place-place.result vs b c.args.walk.now c.in_ok-tyvars.tyvars.items c.deref.result.now c.deref-3.result.now c.new-vars.result.items c.plain_part.new.vars.items c.rec_part_names.new.vars.items c.deref-4.result.now c.in_ok-names.names.items c.deref-2.result.now c.len-around.result c.in_ok-plain.plain c.in_ok-recursive.recursive n c.see_tyvars.new.walk c.plain_part.new.walk c.rec_part_names.new.walk c.rec_part.new.walk c.unsee_tyvars.new.walk c.see.new.walk (is (c.in_ok-tyvars.ensures.vars vs b parts.0 parts.1)) (is c.deref.ensures.value) (is c.deref-3.ensures.value) (is (c.in_ok-tyvars.ensures.walk vs b parts.0 parts.1)) (is c.new-vars.ensures.items) (c.in_ok-plain.ensures b parts.1) (is (c.in_ok-names.ensures.names b parts.1)) (is c.deref-2.ensures.value) (is (c.in_ok-names.ensures.walk b parts.1)) (is c.in_ok-names.ensures.vars) (is c.deref-4.ensures.value) (c.in_ok-recursive.ensures b parts.1) c.len-around.ensures (is c.unsee_tyvars.ensures) (is c.in_ok-see.ensures) e)) c.add.ensures

pub value_declarations::plain_part-returns : goal.value_declarations::plain_part-returns
value_declarations::plain_part-returns t c = ok_so c.finish.result _ _ (λ n k u h. plain_led c.args.parsed.now u c.args.place (numbers_of c.args.tyvars.now) _ c.args.walk.now c.begin.new.walk c.plain_bindings.new.walk c.finish.new.walk c.args.vars.now.items c.plain_bindings.new.vars.items c.in_ok-from.from n (is (ap (λ x. bare.Val x c.new.result) c.in_ok-numbers.ensures ∙ ap (λ x. bare.Val (numbers_of c.args.tyvars.now) x) c.new.ensures)) (is c.in_ok-from.ensures.walk) c.in_ok-from.ensures.from (c.in_ok-plain_bindings.ensures u h) k) c.finish.ensures

pub value_declarations::rec_part-returns : goal.value_declarations::rec_part-returns
value_declarations::rec_part-returns t c = ok_so c.finish.result _ _ (λ n k u h. rec_led c.args.parsed.now u c.args.place (numbers_of c.args.tyvars.now) c.args.names.now _ c.len-around.result c.in_ok-from.from n c.args.walk.now c.see.new.walk c.begin.new.walk c.rec_rights.new.walk c.unsee.new.walk c.finish.new.walk (is (ap (λ x. bare.ValRec x c.in_ok-row.row) c.in_ok-numbers.ensures ∙ ap (λ x. bare.ValRec (numbers_of c.args.tyvars.now) x) c.in_ok-row.ensures)) c.len-around.ensures (is c.in_ok-see.ensures) (is c.in_ok-from.ensures.walk) c.in_ok-from.ensures.from (is (c.in_ok-rec_rights.ensures u h)) (is c.unsee.ensures) k) c.finish.ensures

pub value_declarations::rec_right-returns : goal.value_declarations::rec_right-returns
value_declarations::rec_right-returns t c = on_so c.close_types.result _ _ (λ w p q a h. let parts = c.two-pattern.ensures.parts _ p q a h in right_writes c.args.parsed.now p q a c.args.walk.now c.refuse_other_than_fn.new.made c.annotations.new.made c.in_ok-types.types.items c.deref.result.now c.deref-2.result.now c.place-place.result c.open_types.new.walk c.expression.new.walk c.close_types.new.walk (is (sym (ap (λ r. r.1) (c.refuse_other_than_fn.ensures a parts.1)))) (is (sym (ap (λ r. r.1) (c.in_ok-types.ensures q parts.0)))) (is (sym (ap (λ r. r.0) (c.in_ok-types.ensures q parts.0)))) (is c.deref.ensures.value) (is c.deref-2.ensures.value) (is (c.place-place.ensures a parts.1)) (is c.in_ok-open_types.ensures) (is (c.in_ok-expression.ensures a parts.1).walk) (is w)) c.close_types.ensures

pub value_declarations::rec_rights-loop-behind-preserved-in-Rec : goal.value_declarations::rec_rights-loop-behind-preserved-in-Rec
value_declarations::rec_rights-loop-behind-preserved-in-Rec t c = let e : node_at c.args.parsed.now c.loop-behind.next ≡ node.Rec = sym c.in-Rec.ensures in let z : c.one-next.result < c.loop-behind.next = c.one-next.ensures.below (ap parts_of e) in record { left = λ u k. let l = c.loop-behind.invariant.left u k in as_one c.args.parsed.now c.loop-behind.next l.term node.Rec l.stands e refl (λ r. l.term ≡ r → LeftRights c.args.parsed.now c.args.inside u c.args.walk.now c.loop-behind.walk true c.one-next.result) (λ p a h reads. rec_less c.args.parsed.now c.args.inside c.loop-behind.behind u a p c.args.walk.now c.loop-behind.walk c.loop-behind.next c.one-next.result l (c.one-next.ensures.part _ p a h) reads) refl; below = omega (arith, z, c.loop-behind.invariant.below) }

pub value_declarations::rec_rights-loop-behind-preserved : goal.value_declarations::rec_rights-loop-behind-preserved
value_declarations::rec_rights-loop-behind-preserved t c = let e : node_at c.args.parsed.now c.loop-behind.next ≡ node.MoreValBinds = sym c.in-MoreValBinds.ensures in let z : (c.two-first.result.0 < c.loop-behind.next) × (c.two-first.result.1 < c.loop-behind.next) = c.two-first.ensures.below (ap parts_of e) in record { left = λ u k. let l = c.loop-behind.invariant.left u k in as_two c.args.parsed.now c.loop-behind.next l.term node.MoreValBinds l.stands e refl (λ r. l.term ≡ r → LeftRights c.args.parsed.now c.args.inside u c.args.walk.now c.rec_rights.new.walk c.loop-behind.behind c.two-first.result.1) (λ p a b h reads. let parts = c.two-first.ensures.parts _ p a b h in right_less c.args.parsed.now c.args.inside c.loop-behind.behind u a b p c.args.walk.now c.loop-behind.walk c.rec_rights.new.walk c.loop-behind.next c.two-first.result.1 l parts.1 reads (c.in_ok-rec_rights-in-MoreValBinds.ensures a parts.0)) refl; below = omega (arith, z.1, c.loop-behind.invariant.below) }

pub value_declarations::rec_rights-returns-then-behind : goal.value_declarations::rec_rights-returns-then-behind
value_declarations::rec_rights-returns-then-behind t c = on_so c.rec_right.result _ _ (λ w u k. let l = c.loop-behind.invariant.left u k in l.goes c.rec_right.new.walk (as_two c.args.parsed.now c.loop-behind.next l.term node.ValBind l.stands (sym c.in-ValBind.ensures) refl (λ r. c.rec_right.new.walk ≡ behind (rec_rights c.loop-behind.behind (scope c.args.parsed.now c.loop-behind.walk) r) c.loop-behind.walk) (λ p q a h. subst (λ o. c.rec_right.new.walk ≡ behind (rec_rights o (scope c.args.parsed.now c.loop-behind.walk) (two node.ValBind p q a)) c.loop-behind.walk) (sym c.if-behind.true) (w p q a h)))) c.rec_right.ensures

pub value_declarations::rec_rights-returns-in-ValBind : goal.value_declarations::rec_rights-returns-in-ValBind
value_declarations::rec_rights-returns-in-ValBind t c = λ u k. let l = c.loop-behind.invariant.left u k in l.goes c.loop-behind.walk (as_two c.args.parsed.now c.loop-behind.next l.term node.ValBind l.stands (sym c.in-ValBind.ensures) refl (λ r. c.loop-behind.walk ≡ behind (rec_rights c.loop-behind.behind (scope c.args.parsed.now c.loop-behind.walk) r) c.loop-behind.walk) (λ p q a h. subst (λ o. c.loop-behind.walk ≡ behind (rec_rights o (scope c.args.parsed.now c.loop-behind.walk) (two node.ValBind p q a)) c.loop-behind.walk) (sym c.if-behind.false) (unmarked c.loop-behind.walk)))

pub value_declarations::rec_rights-returns-in_default : goal.value_declarations::rec_rights-returns-in_default
value_declarations::rec_rights-returns-in_default t c = λ u k. let l = c.loop-behind.invariant.left u k in let reads = c.node.ensures ∙ node_is c.args.parsed.now c.loop-behind.next l.term l.stands in l.goes c.loop-behind.walk (nothing_behind c.loop-behind.walk (rec_rights c.loop-behind.behind (scope c.args.parsed.now c.loop-behind.walk) l.term) (no_rights (scope c.args.parsed.now c.loop-behind.walk) c.loop-behind.behind l.term (λ e. c.in_default.not-Rec (reads ∙ e)) (λ e. c.in_default.not-MoreValBinds (reads ∙ e)) (λ e. c.in_default.not-ValBind (reads ∙ e))))

pub function_declarations::clause-returns-in_ok-expression-in-Clause : goal.function_declarations::clause-returns-in_ok-expression-in-Clause
function_declarations::clause-returns-in_ok-expression-in-Clause t c =
    let s = c.args.parsed.now in
    let w0 = c.args.walk.now in
    λ u k. as_two s c.args.at u node.Clause k (sym c.node.ensures ∙ c.in-Clause.is) refl (λ u. c.unsee.new.walk ≡ behind (functions (scope s w0) u) w0)
    (λ p h a j.
    let parts = c.two-left.ensures.parts _ p h a j in
    subst (λ q. c.unsee.new.walk ≡ behind (functions (scope s w0) (two node.Clause q h a)) w0) (c.place.ensures _ j)
    (clause_writes s c.place.result h a w0 c.len-around.result _ _ _ _ c.deref.result.now
    (is (c.in_ok-vars-in-Clause.ensures.walk h parts.0))
    (is (c.deref.ensures.value ∙ c.in_ok-vars-in-Clause.ensures.vars h parts.0))
    (is c.in_ok-see-in-Clause.ensures)
    (is (c.in_ok-expression-in-Clause.ensures a parts.1).walk)
    (sym c.len-around.ensures)
    (is c.unsee.ensures)))

pub function_declarations::clause-returns-in_ok-close-in-TypedClause : goal.function_declarations::clause-returns-in_ok-close-in-TypedClause
function_declarations::clause-returns-in_ok-close-in-TypedClause t c =
    let s = c.args.parsed.now in
    let w0 = c.args.walk.now in
    λ u k. as_three s c.args.at u node.TypedClause k (sym c.node.ensures ∙ c.in-TypedClause.is) refl (λ u. c.unsee-in-TypedClause.new.walk ≡ behind (functions (scope s w0) u) w0)
    (λ p h y a j.
    let parts = c.three-left.ensures.parts _ p h y a j in
    subst (λ q. c.unsee-in-TypedClause.new.walk ≡ behind (functions (scope s w0) (three node.TypedClause q h y a)) w0) (c.place-in-TypedClause.ensures _ j)
    (typed_clause_writes s c.place-in-TypedClause.result c.place-in-TypedClause-2.result h y a w0 c.len-around-in-TypedClause.result c.in_ok-ty-in-TypedClause.ty _ _ _ _ _ _ _ c.deref-in-TypedClause.result.now
    (is (c.in_ok-vars-in-TypedClause.ensures.walk h parts.0))
    (is (c.deref-in-TypedClause.ensures.value ∙ c.in_ok-vars-in-TypedClause.ensures.vars h parts.0))
    (is (c.in_ok-ty-in-TypedClause.ensures.walk y parts.1))
    (is (c.in_ok-ty-in-TypedClause.ensures.number y parts.1))
    (is c.in_ok-see-in-TypedClause.ensures)
    (is c.in_ok-open-in-TypedClause.ensures)
    (is (c.in_ok-expression-in-TypedClause.ensures a parts.2).walk)
    (is (c.place-in-TypedClause-2.ensures a parts.2))
    (is c.in_ok-close-in-TypedClause.ensures)
    (sym c.len-around-in-TypedClause.ensures)
    (is c.unsee-in-TypedClause.ensures)))

pub function_declarations::clause-returns-in_ok-functions-in-MoreFunBinds : goal.function_declarations::clause-returns-in_ok-functions-in-MoreFunBinds
function_declarations::clause-returns-in_ok-functions-in-MoreFunBinds t c =
    let s = c.args.parsed.now in
    let w0 = c.args.walk.now in
    on_so c.functions-in-MoreFunBinds.result _ _
    (λ w u k. as_two s c.args.at u node.MoreFunBinds k (sym c.node.ensures ∙ c.in-MoreFunBinds.is) refl (λ u. c.functions-in-MoreFunBinds.new.walk ≡ behind (functions (scope s w0) u) w0)
    (λ p a b h.
    let parts = c.two-first.ensures.parts _ p a b h in
    behind_both (function_of (scope s w0) a) (λ d. function_of (scope_of s.names d) b) w0 _ _ (is (c.in_ok-functions-in-MoreFunBinds.ensures a parts.0)) (is (w b parts.1))))
    c.functions-in-MoreFunBinds.ensures

pub function_declarations::clause-returns-in_default : goal.function_declarations::clause-returns-in_default
function_declarations::clause-returns-in_default t c =
    let s = c.args.parsed.now in
    let w0 = c.args.walk.now in
    λ u k. nothing_behind w0 (functions (scope s w0) u) (no_clause (scope s w0) u c.node.result (c.node.ensures ∙ node_is s c.args.at u k) c.in_default.not-Clause c.in_default.not-TypedClause c.in_default.not-MoreFunBinds (λ e. c.requires (sym c.node.ensures ∙ e)))

pub function_declarations::clauses-loop-first-preserved : goal.function_declarations::clauses-loop-first-preserved
function_declarations::clauses-loop-first-preserved t c =
    let s = c.args.parsed.now in
    let e : node_at s c.loop-first.next ≡ node.MoreClauses = sym c.node.ensures ∙ c.in-MoreClauses.is in
    let z : (c.two-first.result.0 < c.loop-first.next) × (c.two-first.result.1 < c.loop-first.next) = c.two-first.ensures.below (ap parts_of e) in
    record {
      left = λ u k.
          let l = c.loop-first.invariant.left u k in
          as_two s c.loop-first.next l.term node.MoreClauses l.stands e refl (λ r. l.term ≡ r → Left s (λ d r. functions (scope_of s.names d) r) u c.args.walk.now c.clauses.new.walk c.two-first.result.1)
          (λ p a b h reads.
          let parts = c.two-first.ensures.parts _ p a b h in
          one_less s (λ d r. functions (scope_of s.names d) r) u a b c.args.walk.now c.loop-first.walk c.clauses.new.walk c.loop-first.next c.two-first.result.1 l parts.1 (ap (λ (r : Term). functions (scope s c.loop-first.walk) r) reads) (c.in_ok-clauses.ensures a parts.0))
          refl;
      below = omega (arith, z.1, c.loop-first.invariant.below);
    }

pub function_declarations::clauses-returns : goal.function_declarations::clauses-returns
function_declarations::clauses-returns t c = on_so c.clause.result _ _ (λ w u k. let l = c.loop-first.invariant.left u k in l.goes c.clause.new.walk (w l.term l.stands)) c.clause.ensures

pub function_declarations::function-returns : goal.function_declarations::function-returns
function_declarations::function-returns t c =
    let s = c.args.parsed.now in
    let w0 = c.args.walk.now in
    on_so c.close_function.result _ _
    (λ e u k.
    let n = c.in_ok-count.ensures (head (first_clause u)) (c.head.ensures (first_clause u) (c.first_clause.ensures u k)) in
    function_writes s u w0 c.place-place.result c.in_ok-count.count c.deref.result.now c.new_names.new.self c.open_function.new.walk c.clauses.new.walk c.close_function.new.walk
    (λ f. c.requires (node_is s c.args.at u k ∙ f))
    (is (c.place-place.ensures u k))
    (is n)
    (is (c.deref.ensures.value ∙ sym (ap (λ r. r.0) c.in_ok-names.ensures)))
    (is (sym (ap (λ r. r.1) c.in_ok-names.ensures)))
    (is (c.in_ok-open_function.ensures))
    (is (c.in_ok-clauses.ensures u k))
    (is e))
    c.close_function.ensures

pub function_declarations::functions-loop-first-preserved : goal.function_declarations::functions-loop-first-preserved
function_declarations::functions-loop-first-preserved t c =
    let s = c.args.parsed.now in
    let e : node_at s c.loop-first.next ≡ node.MoreFunBinds = sym c.node.ensures ∙ c.in-MoreFunBinds.is in
    let z : (c.two-first.result.0 < c.loop-first.next) × (c.two-first.result.1 < c.loop-first.next) = c.two-first.ensures.below (ap parts_of e) in
    record {
      left = λ u k.
          let l = c.loop-first.invariant.left u k in
          as_two s c.loop-first.next l.term node.MoreFunBinds l.stands e refl (λ r. l.term ≡ r → Left s (λ d r. function_of (scope_of s.names d) r) u c.args.walk.now c.functions.new.walk c.two-first.result.1)
          (λ p a b h reads.
          let parts = c.two-first.ensures.parts _ p a b h in
          one_less s (λ d r. function_of (scope_of s.names d) r) u a b c.args.walk.now c.loop-first.walk c.functions.new.walk c.loop-first.next c.two-first.result.1 l parts.1 (ap (λ (r : Term). function_of (scope s c.loop-first.walk) r) reads) (c.in_ok-functions.ensures a parts.0))
          refl;
      below = omega (arith, z.1, c.loop-first.invariant.below);
    }

pub function_declarations::functions-returns : goal.function_declarations::functions-returns
function_declarations::functions-returns t c = on_so c.function.result _ _ (λ w u k. let l = c.loop-first.invariant.left u k in l.goes c.function.new.walk (w l.term l.stands)) c.function.ensures

pub function_declarations::fun_dec-returns : goal.function_declarations::fun_dec-returns
function_declarations::fun_dec-returns t c =
    let s = c.args.parsed.now in
    let w0 = c.args.walk.now in
    λ p vs b k.
    let parts = c.two-explicit.ensures.parts _ p vs b k in
    subst (λ q. Declares (decs (scope s w0) (two node.Fun q vs b)) w0 c.unsee_tyvars.new.walk 1) (c.place-place.ensures _ k)
    (fun_declares s c.place-place.result vs b w0 c.len-around.result c.deref-2.result.now c.deref.result.now c.deref-3.result.now _ _ _ _ _ _ _ _
    (is (c.in_ok-vars.ensures.walk vs b parts.0 parts.1))
    (is (c.deref-2.ensures.value ∙ c.in_ok-vars.ensures.vars vs b parts.0 parts.1))
    (is (c.in_ok-names.ensures.walk b parts.1))
    (is (c.deref.ensures.value ∙ c.in_ok-names.ensures.names b parts.1))
    (is (c.deref-3.ensures.value ∙ sym c.deref.ensures.value))
    (is c.in_ok-see.ensures)
    (is c.in_ok-open.ensures)
    (is c.in_ok-open-2.ensures)
    (is (c.in_ok-functions.ensures b parts.1))
    (is c.in_ok-close_rec_dec.ensures)
    (sym c.len-around.ensures)
    c.unsee_tyvars.ensures)
