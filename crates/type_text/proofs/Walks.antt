-- The steps of showing a type.
use Rattle.std.proofs.Common.{◌≡◌, ℕ, ◌+◌, ◌<◌, List, [], ◌∷◌, ◌++◌, Some, None, refl, sym, ap, ◌∙◌, arith, append_assoc, subst}
use Rattle.std.specs.Prelude.{map, fold, slice_get}
use Rattle.std.proofs.lemmas.List.{append-nil}
use Rattle.std.proofs.lemmas.List.Sums.{sum_by-append}
use Rattle.std.proofs.lemmas.Grind.{flat_map-append}
use Rattle.sml_tree.specs.declared.bare.Lab.{Lab}
use Rattle.sml_types.specs.declared.types.Ty.{Ty}
use Rattle.sml_types.specs.declared.types.TyVar.{TyVar}
use Rattle.sml_types.specs.declared.types.Field.{Field}
use Rattle.sml_types.specs.declared.types.TyForm.{TyForm}
use Rattle.sml_types.specs.declared.types.TyForm.TheVariants.{Var, Fields, Arrow, Named}
use Rattle.sml_types.specs.declared.tables.TypeName.{TypeName}
use Rattle.sml_types.specs.Forms.{tree, listed, form_tree, IsNumbered}
use Rattle.sml_types.proofs.FormFacts.{tree_form}
use Rattle.type_text.specs.declared.level.Level.{Level}
use Rattle.type_text.specs.Text.{Item, Name, plain, label_text, spelling, named_text, type_text, part_texts}
use Rattle.type_text.specs.Tasks.{Task, ShowType, ShowLabel, ShowBytes, task_text, tasks_text, weight, task_weight, tasks_weight}
use Rattle.type_text.specs.Steps.{arrow_tasks, record_tasks, named_tasks}
use Rattle.type_text.specs.States.{State, state, with_bytes, with_item, with_items, with_variable, IsStep}
use Rattle.type_text.proofs.Shows.{none_there, arrow_shows, record_shows, named_shows, arrow_less, record_less, named_less}

-- ---- bytes among the items

with_more : (s : State) (bytes : List ℕ) (items : List Item) → with_items s (plain bytes ++ items) ≡ with_items (with_bytes s bytes) items
unfolding with_items
with_more s [] items = ap (λ out. fold with_item (state s.general s.own s.open_ones out) items) (sym (append-nil s.out))
with_more s (b ∷ bytes) items = with_more (with_bytes s (b ∷ [])) bytes items ∙ ap (λ out. fold with_item (state s.general s.own s.open_ones out) items) (append_assoc s.out (b ∷ []) bytes)

with_name : (s : State) (v : TyVar) (items : List Item) → with_items s (Name v ∷ items) ≡ with_items (with_variable s v) items
unfolding with_items
with_name s v items = refl

pub with_none : (s : State) → with_items s [] ≡ s
unfolding with_items
with_none s = refl

module _ (forms : List TyForm) (names : List TypeName) where
  -- ---- steps of each kind

  step_tasks : (task : Task) (s : State) (tasks done tasks' : List Task) → tasks_text forms names done ≡ task_text forms names task → tasks_weight forms done < task_weight forms task → tasks' ≡ done ++ tasks → IsStep forms names task s tasks s tasks'
  step_tasks task s tasks done tasks' shows less is = record {
    same = ap (λ ts. with_items s (tasks_text forms names ts)) is ∙ ap (with_items s) (flat_map-append (task_text forms names) done tasks ∙ ap (λ z. z ++ tasks_text forms names tasks) shows);
    less = let w = ap (tasks_weight forms) is ∙ sum_by-append (task_weight forms) done tasks in omega arith;
  }

  step_bytes : (task : Task) (bytes : List ℕ) (s s' : State) (tasks : List Task) → task_text forms names task ≡ plain bytes → 0 < task_weight forms task → s' ≡ with_bytes s bytes → IsStep forms names task s tasks s' tasks
  step_bytes task bytes s s' tasks shows less is = record {
    same = ap (λ z. with_items z (tasks_text forms names tasks)) is ∙ sym (with_more s bytes (tasks_text forms names tasks)) ∙ ap (λ z. with_items s (z ++ tasks_text forms names tasks)) (sym shows);
    less = omega arith;
  }

  pub step_label : (lab : Lab) (s s' : State) (tasks : List Task) → s' ≡ with_bytes s (label_text lab) → IsStep forms names (ShowLabel lab) s tasks s' tasks
  step_label lab s s' tasks is = step_bytes (ShowLabel lab) (label_text lab) s s' tasks refl (omega arith) is

  pub step_text : (text : List ℕ) (s s' : State) (tasks : List Task) → s' ≡ with_bytes s text → IsStep forms names (ShowBytes text) s tasks s' tasks
  step_text text s s' tasks is = step_bytes (ShowBytes text) text s s' tasks refl (omega arith) is

  -- ---- steps of a type

  pub step_none : (i : ℕ) (level : Level) (s : State) (tasks : List Task) → slice_get forms i ≡ None → IsStep forms names (ShowType i level) s tasks s tasks
  step_none i level s tasks e = step_tasks (ShowType i level) s tasks [] tasks (ap (λ t. type_text names t level) (sym (none_there forms i e))) (omega arith) refl

  module _ (h : IsNumbered forms) (i : ℕ) (level : Level) (s : State) (tasks : List Task) where
    pub step_variable : (v : TyVar) (s' : State) → slice_get forms i ≡ Some (Var v) → s' ≡ with_variable s v → IsStep forms names (ShowType i level) s tasks s' tasks
    step_variable v s' e is = record {
      same = ap (λ z. with_items z (tasks_text forms names tasks)) is ∙ sym (with_name s v (tasks_text forms names tasks)) ∙ ap (λ t. with_items s (type_text names t level ++ tasks_text forms names tasks)) (sym (tree_form forms i (Var v) h e));
      less = omega arith;
    }

    step_form : (f : TyForm) (done tasks' : List Task) → slice_get forms i ≡ Some f → tasks_text forms names done ≡ type_text names (form_tree (tree forms) f) level → tasks_weight forms done < 1 + weight (form_tree (tree forms) f) → tasks' ≡ done ++ tasks → IsStep forms names (ShowType i level) s tasks s tasks'
    step_form f done tasks' e shows less is =
        let there = tree_form forms i f h e in
        step_tasks (ShowType i level) s tasks done tasks' (shows ∙ ap (λ t. type_text names t level) (sym there)) (subst (λ t. tasks_weight forms done < 1 + weight t) (sym there) less) is

    pub step_arrow : (a b : Ty) (tasks' : List Task) → slice_get forms i ≡ Some (Arrow a b) → tasks' ≡ arrow_tasks a b level ++ tasks → IsStep forms names (ShowType i level) s tasks s tasks'
    step_arrow a b tasks' e is = step_form (Arrow a b) (arrow_tasks a b level) tasks' e (arrow_shows forms names a b level) (arrow_less forms names a b level) is

    pub step_record : (fs : List Field) (tasks' : List Task) → slice_get forms i ≡ Some (Fields fs) → tasks' ≡ record_tasks fs level ++ tasks → IsStep forms names (ShowType i level) s tasks s tasks'
    step_record fs tasks' e is = step_form (Fields fs) (record_tasks fs level) tasks' e (record_shows forms names fs level) (record_less forms names fs level) is

    pub step_named : (n : ℕ) (name : List ℕ) (args : List Ty) (tasks' : List Task) → slice_get forms i ≡ Some (Named n args) → name ≡ spelling (slice_get names n) → tasks' ≡ named_tasks name args ++ tasks → IsStep forms names (ShowType i level) s tasks s tasks'
    step_named n name args tasks' e q is =
        step_form
        (Named n args)
        (named_tasks name args)
        tasks'
        e
        (named_shows forms names name args ∙ ap (λ z. named_text z (part_texts names (listed (tree forms) (map (λ a. a.0) args)))) q)
        (named_less forms names n name args)
        is
