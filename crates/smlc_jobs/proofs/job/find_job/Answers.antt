use Rattle.std.specs.Prelude.{map, string_bytes}
use Rattle.smlc_words.specs.Asks.{asked}
use Rattle.smlc_jobs.proofs.Asked.{some_asked, asked_in_range, no_job, nothing_asked}
use Rattle.smlc_jobs.proofs.job.find_job.Goals as goal

pub returns-in-Ok-Some-clause-some : goal.returns-in-Ok-Some-clause-some
returns-in-Ok-Some-clause-some c =
    let k = rw c.in-Ok-Some.field-0-is at c.in-Ok-Some.ensures.some in
    some_asked (map string_bytes c.args.words.now) (asked c.in-Ok-Some.command) k c.allowed.result c.allowed.ensures.some

pub returns-in-Ok-Some-clause-range : goal.returns-in-Ok-Some-clause-range
returns-in-Ok-Some-clause-range c =
    let k = rw c.in-Ok-Some.field-0-is at c.in-Ok-Some.ensures.some in
    asked_in_range (map string_bytes c.args.words.now) (asked c.in-Ok-Some.command) k c.allowed.result c.allowed.ensures.some

pub returns-in-Ok-Some-clause-none : goal.returns-in-Ok-Some-clause-none
returns-in-Ok-Some-clause-none c =
    let k = rw c.in-Ok-Some.field-0-is at c.in-Ok-Some.ensures.some in
    no_job (map string_bytes c.args.words.now) (asked c.in-Ok-Some.command) k c.allowed.result c.allowed.ensures.none

pub returns-in-Ok-None-clause-none : goal.returns-in-Ok-None-clause-none
returns-in-Ok-None-clause-none c =
    let k = rw c.in-Ok-None.field-0-is at c.in-Ok-None.ensures.none in
    nothing_asked (map string_bytes c.args.words.now) k
