use Rattle.std.proofs.Common.{◌≡◌, ◌≤◌, ◌<◌, ◌∙◌, arith}
use Rattle.cps_ir.specs.Program.{tree_of}
use Rattle.contract_laws.specs.Redex.{nodes}
use Rattle.cps_contract.proofs.Fuel.{tree_goes_on, tree_ends, tree_whole}
use Rattle.cps_contract.proofs.pass.contract.Goals as goal

pub returns-then-after-before : goal.returns-then-after-before
returns-then-after-before c =
    let t = tree_of c.loop-program.program in
    let n = tree_of c.in_ok-program.program in
    let now = c.loop-program.invariant in
    let a : c.in_ok-after.after ≡ nodes n.code = c.in_ok-after.ensures in
    let b : c.loop-program.before ≡ nodes t.code = now.before in
    let l = c.if-after-before.true in
    let less : nodes t.code ≤ nodes n.code = omega arith in
    tree_ends t n c.in_ok-program.ensures less ∙ now.same

pub loop-program-preserved : goal.loop-program-preserved
loop-program-preserved c =
    let t = tree_of c.loop-program.program in
    let n = tree_of c.in_ok-program.program in
    let now = c.loop-program.invariant in
    let a : c.in_ok-after.after ≡ nodes n.code = c.in_ok-after.ensures in
    let b : c.loop-program.before ≡ nodes t.code = now.before in
    let l = c.if-after-before.false in
    let less : nodes n.code < nodes t.code = omega arith in
    record {
      whole = tree_whole t n c.in_ok-program.ensures now.whole;
      before = a;
      same = tree_goes_on t n c.in_ok-program.ensures less ∙ now.same;
    }
