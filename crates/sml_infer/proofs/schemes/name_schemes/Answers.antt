use Rattle.std.proofs.Common.{rules, ◌≡◌, ◌++◌, [], ◌∷◌, List, sym, subst}
use Rattle.sml_types.specs.declared.scheme.NameScheme.{NameScheme}
use Rattle.sml_infer.specs.Schemes.{IsNamed, AreNamed}
use Rattle.sml_infer.proofs.Naming.{longer_then, ready_more, count_more, named_more}
use Rattle.sml_infer.proofs.schemes.name_schemes.Goals as goal

pub names-preserved : goal.names-preserved
names-preserved c =
    let inv = c.names.invariant in
    let p = c.args.bare.now in
    let old = c.args.types.now in
    let forms = c.names.types in
    let after = c.name_scheme.new.types in
    let bound = c.args.subst.now.bound in
    let renames = c.args.renames.now in
    let settled = c.args.settled.now in
    let one = c.in_ok-scheme.ensures in
    let pushed : c.push.new.self.items ≡ c.names.schemes.items ++ c.in_ok-scheme.scheme ∷ [] = search rules in
    let here = subst (λ i. IsNamed p forms after bound renames settled i c.in_ok-scheme.scheme) (sym inv.count) one.named in
    record {
      longer = longer_then old forms after inv.longer one.longer;
      ready = ready_more p forms after bound renames c.args.starts.now settled one.longer one.renames inv.ready;
      count = count_more c.names.schemes.items c.push.new.self.items c.in_ok-scheme.scheme c.names.at pushed inv.count;
      named = subst (λ (schemes : List NameScheme). AreNamed p old after bound renames settled schemes) (sym pushed) (named_more p old forms after bound renames settled c.names.schemes.items c.in_ok-scheme.scheme inv.longer one.longer c.requires.ready.bindings c.requires.ready.there inv.named here);
    }
