-- What conversion makes cites nothing that isn't there.
use Rattle.std.proofs.Common.{ℕ, List, [], ◌∷◌}
use Rattle.std.specs.List.{AllByRecursion}
use Rattle.cps_ir.specs.declared.atom.Test.{Test}
use Rattle.cps_ir.specs.declared.atom.Wanted.{Wanted}
use Rattle.cps_ir.specs.declared.atom.Wanted.TheVariants as wanted
use Rattle.cps_ir.specs.declared.body.Bind.{Bind}
use Rattle.cps_ir.specs.declared.body.Bind.TheVariants as bind
use Rattle.cps_ir.specs.declared.body.Rule.{Rule as Chosen}
use Rattle.cps_ir.specs.declared.body.End.{End}
use Rattle.cps_ir.specs.declared.body.End.TheVariants as end
use Rattle.cps_ir.specs.Code.{Code}
use Rattle.cps_ir.specs.Program.{Cps, rules_of, code_of_end, code_of_binds}
use Rattle.cps_ir.specs.Kept.{AtomKept, WantedKept, TestsKept, BindKept, EndKept}
use Rattle.convert_kept.specs.Law.{ConversionKeepsRanges}
use Rattle.convert_kept.specs.Ranges.{CodeKept, FunctionsKept, RulesKept, KeptByBodies}
use Rattle.convert_kept.proofs.Forms.{WantedHas, TestsHave, ByForms}
use Rattle.convert_kept.proofs.Terms.{conversion_has}

module _ (q : Cps) where
  wanted_kept : (w : Wanted) → WantedHas q (AtomKept q) w → WantedKept q w
  wanted_kept (wanted.Num z) h = h
  wanted_kept (wanted.Tag t) h = h
  wanted_kept (wanted.Text t) h = h
  wanted_kept (wanted.Exn a applied) h = h

  tests_kept : (ts : List Test) → TestsHave q (AtomKept q) ts → TestsKept q ts
  tests_kept [] h = tt
  tests_kept (t ∷ ts) h = (wanted_kept t.want h.0, tests_kept ts h.1)

  kept_by_forms : ByForms q (AtomKept q) (CodeKept q) (FunctionsKept q) (RulesKept q)
  kept_by_forms = record {
    constant = λ k h. h;
    make = λ x s atoms c r h g. (r, h, g tt);
    pick = λ x i a c h g. (h, g tt);
    prim = λ x f atoms c h g. (h, g tt);
    equal = λ a b t k h g i. (h, (g, (i, tt)));
    fix = λ fs c h g. (h (all_vars _), g (all_vars _));
    call = λ a atoms h g. (h, g);
    match = λ a rules h g. (h, g);
    handler = λ x c g. g tt;
    set_handler = λ a c h g. (h, g);
    throw = λ a h. h;
    halt = tt;
    no_function = tt;
    function = λ f p params b fs h g. (h (all_vars params), g);
    otherwise = λ c h. h;
    alone = λ c h. h;
    rule = λ ts c rs t h g. (tests_kept ts t, h, g);
  }
    where
      all_vars : (xs : List ℕ) → AllByRecursion (λ x. Unit {0}) xs
      all_vars [] = tt
      all_vars (x ∷ xs) = (tt, all_vars xs)

  -- ---- From a tree to its body

  module _ (part : ℕ → Code) where
    rules_kept : (rules : List Chosen) (otherwise : ℕ) → RulesKept q (rules_of part rules otherwise) → AllByRecursion (λ r. TestsKept q r.tests) rules
    rules_kept [] otherwise r = tt
    rules_kept (c ∷ rules) otherwise r = (r.0, rules_kept rules otherwise r.2)

    end_kept : (e : End) → CodeKept q (code_of_end part e) → EndKept q e
    end_kept (end.Equal a b t k) r = r
    end_kept (end.Call a us) r = r
    end_kept (end.Match a rules otherwise) r = (r.0, rules_kept rules otherwise r.1)
    end_kept (end.Throw a) r = r
    end_kept end.Halt r = tt

    pub body_kept : (bs : List Bind) (e : End) → CodeKept q (code_of_binds part bs (code_of_end part e)) → AllByRecursion (BindKept q) bs × EndKept q e
    body_kept [] e r = (tt, end_kept e r)
    body_kept (bind.Make x s us ∷ bs) e r = let k = body_kept bs e r.2 in (((r.0, r.1), k.0), k.1)
    body_kept (bind.Pick x i a ∷ bs) e r = let k = body_kept bs e r.1 in ((r.0, k.0), k.1)
    body_kept (bind.Prim x f us ∷ bs) e r = let k = body_kept bs e r.1 in ((r.0, k.0), k.1)
    body_kept (bind.Fix fs ∷ bs) e r = let k = body_kept bs e r.1 in ((tt, k.0), k.1)
    body_kept (bind.Handler x ∷ bs) e r = let k = body_kept bs e r in ((tt, k.0), k.1)
    body_kept (bind.SetHandler a ∷ bs) e r = let k = body_kept bs e r.1 in ((r.0, k.0), k.1)

pub conversion_keeps_ranges : ConversionKeepsRanges
conversion_keeps_ranges l p own q texts exns =
    conversion_has l q p texts exns (AtomKept q) (CodeKept q) (FunctionsKept q) (RulesKept q) (kept_by_forms q) own

pub kept_by_bodies : KeptByBodies
kept_by_bodies q part b r = let k = body_kept q part b.binds b.end r in (k.0, k.1)
