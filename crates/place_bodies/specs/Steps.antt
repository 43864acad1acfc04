-- What placing makes of a body by number, with a table from variables to places, and lists of what lives behind each binding.
use Rattle.std.specs.Prelude.{ℕ, suc, ◌+◌, cond, List, [], ◌∷◌, ◌++◌, map, slice_set, slice_index_or}
use Rattle.closure_ir.specs.declared.body.Maker.{Maker}
use Rattle.closure_ir.specs.declared.body.Bind.{Bind}
use Rattle.closure_ir.specs.declared.body.Bind.TheVariants as bind
use Rattle.closure_ir.specs.declared.body.Rule.{Rule}
use Rattle.closure_ir.specs.declared.body.End.{End}
use Rattle.closure_ir.specs.declared.body.End.TheVariants as end
use Rattle.placed_ir.specs.declared.body.Step.{Step}
use Rattle.placed_ir.specs.declared.body.Step.TheVariants as step
use Rattle.placed_ir.specs.declared.body.Rule.{Rule as RuleThere}
use Rattle.placed_ir.specs.declared.body.End.{End as EndThere}
use Rattle.placed_ir.specs.declared.body.End.TheVariants as there
use Rattle.place_laws.specs.Live.{is_in, without, without_all, names_of}
use Rattle.place_laws.specs.Place.{least_free, home_of, Places, place_beside, maker_length, source_for, building_of, test_of}

-- the place of a variable, and 0 past the last
abbrev pub at_of : List ℕ → Places
at_of t x = slice_index_or t x 0

-- ---- A binding, with what lives behind it

-- the names of the group that live on, from an offset on
abbrev pub name_steps : List ℕ → List Maker → ℕ → List ℕ → List Step
name_steps alive [] offset taken = []
name_steps alive (m ∷ makers) offset taken =
    cond (is_in m.var alive)
    (step.Name (home_of (least_free taken)) offset ∷ name_steps alive makers (offset + suc (maker_length m)) (least_free taken ∷ taken))
    (name_steps alive makers (offset + suc (maker_length m)) taken)

-- where the variable lives on
abbrev pub if_alive : ℕ → List ℕ → Step → List Step
if_alive x alive s = cond (is_in x alive) (s ∷ []) []

abbrev pub bind_steps : Places → Bind → List ℕ → List Step
bind_steps at (bind.Make makers) alive =
    step.Make (map (building_of at makers) makers) ∷ name_steps alive makers 0 (map at (without_all (names_of makers) alive))
bind_steps at (bind.Let x o) alive = if_alive x alive (step.Let (home_of (place_beside at (without x alive))) (source_for at o))
bind_steps at (bind.Prim x f os) alive =
    step.Prim f (map (source_for at) os) ∷ if_alive x alive (step.Take (home_of (place_beside at (without x alive))))
bind_steps at (bind.Handler x) alive = if_alive x alive (step.Handler (home_of (place_beside at (without x alive))))
bind_steps at (bind.SetHandler o) alive = step.SetHandler (source_for at o) ∷ []

-- the table behind it
abbrev pub group_table : List ℕ → List Maker → List ℕ → List ℕ → List ℕ
group_table alive [] taken t = t
group_table alive (m ∷ makers) taken t =
    cond (is_in m.var alive)
    (group_table alive makers (least_free taken ∷ taken) (slice_set t m.var (least_free taken)))
    (group_table alive makers taken t)

abbrev pub one_table : List ℕ → ℕ → List ℕ → List ℕ
one_table t x alive = slice_set t x (place_beside (at_of t) (without x alive))

abbrev pub bind_table : List ℕ → Bind → List ℕ → List ℕ
bind_table t (bind.Make makers) alive = group_table alive makers (map (at_of t) (without_all (names_of makers) alive)) t
bind_table t (bind.Let x o) alive = one_table t x alive
bind_table t (bind.Prim x f os) alive = one_table t x alive
bind_table t (bind.Handler x) alive = one_table t x alive
bind_table t (bind.SetHandler o) alive = t

-- ---- Bindings one after another

abbrev pub body_steps : List ℕ → List Bind → List (List ℕ) → List Step
body_steps t (b ∷ binds) (alive ∷ along) = bind_steps (at_of t) b alive ++ body_steps (bind_table t b alive) binds along
body_steps t _ _ = []

abbrev pub end_table : List ℕ → List Bind → List (List ℕ) → List ℕ
end_table t (b ∷ binds) (alive ∷ along) = end_table (bind_table t b alive) binds along
end_table t _ _ = t

-- ---- The end

abbrev pub rule_placed : Places → Rule → RuleThere
rule_placed at r = record { tests = map (test_of at) r.tests; body = r.body }

abbrev pub end_placed : Places → End → EndThere
end_placed at (end.Equal a b truth k) = there.Equal (source_for at a) (source_for at b) truth (source_for at k)
end_placed at (end.Call target f os) = there.Call target (source_for at f) (map (source_for at) os)
end_placed at (end.Match o rules otherwise) = there.Match (source_for at o) (map (rule_placed at) rules) otherwise
end_placed at (end.Throw o) = there.Throw (source_for at o)
end_placed at end.Halt = there.Halt
