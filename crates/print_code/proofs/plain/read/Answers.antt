use Rattle.std.proofs.Common.{◌<◌, length, arith}
use Rattle.print_code.proofs.Walks.{straight_none, says_all, says_further, stops_further, says_passed, stops_passed}
use Rattle.print_code.proofs.plain.read.Goals as goal

pub loop-printed-init : goal.loop-printed-init
loop-printed-init c = record {
  mean = λ more h. rw c.new.ensures.items h;
  stop = λ place h. h;
  straight = rw (c.new.ensures.items, c.new-2.ensures.items) straight_none;
  nest = c.requires.nest;
}

pub loop-printed-preserved : goal.loop-printed-preserved
loop-printed-preserved c =
    let l = c.loop-printed in
    let print = c.in-Print.ensures in
    record {
      mean = λ more h. says_further c.args.bare.now l.at c.in-Print.rest l.printed.text.items c.in-Print.text.now c.add.new.printed.text.items print c.in_ok-add-in-Print.ensures.text l.invariant.mean more h;
      stop = λ place h. stops_further c.args.bare.now l.at c.in-Print.rest l.printed.text.items c.in-Print.text.now c.add.new.printed.text.items print l.invariant.stop place h;
      straight = c.in_ok-add-in-Print.ensures.straight;
      nest = print.nest;
    }

pub loop-printed-smaller : goal.loop-printed-smaller
loop-printed-smaller c =
    let print = c.in-Print.ensures in
    let further : c.loop-printed.at < c.in-Print.rest = print.further in
    let within : c.in-Print.rest < length c.args.bare.now.nodes = print.within in
    omega arith

pub loop-printed-preserved-in-Library : goal.loop-printed-preserved-in-Library
loop-printed-preserved-in-Library c =
    let l = c.loop-printed in
    let library = c.in-Library.ensures in
    record {
      mean = λ more h. says_passed c.args.bare.now l.at c.in-Library.rest l.printed.text.items library l.invariant.mean more h;
      stop = λ place h. stops_passed c.args.bare.now l.at c.in-Library.rest l.printed.text.items library l.invariant.stop place h;
      straight = l.invariant.straight;
      nest = library.nest;
    }

pub loop-printed-smaller-in-Library : goal.loop-printed-smaller-in-Library
loop-printed-smaller-in-Library c =
    let library = c.in-Library.ensures in
    let further : c.loop-printed.at < c.in-Library.rest = library.further in
    let within : c.in-Library.rest < length c.args.bare.now.nodes = library.within in
    omega arith

pub returns-in-Finish : goal.returns-in-Finish
returns-in-Finish c = let l = c.loop-printed in (says_all c.args.bare.now l.at l.printed.text.items l.invariant.mean c.in-Finish.ensures, l.invariant.straight)

pub returns-in-Other : goal.returns-in-Other
returns-in-Other c = c.loop-printed.invariant.stop c.in-Other.place c.in-Other.ensures
