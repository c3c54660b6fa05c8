use Rattle.resp_read.proofs.Continuations.{StandsBehind-ready}
use Rattle.resp_read.proofs.Pieces.{opened, failed, fed-whole, fed-bad, goes, breaks, took, refused}
use Rattle.resp_read.proofs.reader.Reader.feed.Goals as goal

pub returns-in-Failed-clause-stops : goal.returns-in-Failed-clause-stops
returns-in-Failed-clause-stops c = λ text stands. failed _ _ _ c.self.view_is c.in-Failed.is text _ stands

pub invariant_of-self-in-None : goal.invariant_of-self-in-None
invariant_of-self-in-None c =
    let good = rw c.in-None.is at c.in_ok-take_all.ensures.good in
    StandsBehind-ready _ _ _ _ _ good.1

pub returns-in-None-clause-ok : goal.returns-in-None-clause-ok
returns-in-None-clause-ok c =
    let good = rw c.in-None.is at c.in_ok-take_all.ensures.good in
    let old_is = opened _ _ _ _ c.self.view_is c.in-Open.is c.replace-cursor.ensures.value in
    fed-whole _ _ _ _ _ _ _ old_is good.1

pub returns-in-None-clause-goes : goal.returns-in-None-clause-goes
returns-in-None-clause-goes c = λ text stands.
    let good = rw c.in-None.is at c.in_ok-take_all.ensures.good in
    let old_is = opened _ _ _ _ c.self.view_is c.in-Open.is c.replace-cursor.ensures.value in
    let fed = fed-whole _ _ _ c.args.piece.now _ _ _ old_is good.1 in
    goes _ _ text _ _ stands fed.0 fed.1

pub returns-in-Some-clause-stops : goal.returns-in-Some-clause-stops
returns-in-Some-clause-stops c = λ text stands.
    let bad = rw c.in-Some.is at c.in_ok-take_all.ensures.bad in
    let old_is = opened _ _ _ _ c.self.view_is c.in-Open.is c.replace-cursor.ensures.value in
    breaks _ text _ _ _ _ stands (fed-bad _ _ _ c.args.piece.now _ _ old_is bad)

pub returns-in-None-clause-took : goal.returns-in-None-clause-took
returns-in-None-clause-took c = λ start rest waits.
    let good = rw c.in-None.is at c.in_ok-take_all.ensures.good in
    let old_is = opened _ _ _ _ c.self.view_is c.in-Open.is c.replace-cursor.ensures.value in
    let fed = fed-whole _ _ _ c.args.piece.now _ _ _ old_is good.1 in
    took _ _ _ _ _ _ waits fed.0 fed.1

pub returns-in-Some-clause-refused : goal.returns-in-Some-clause-refused
returns-in-Some-clause-refused c = λ start rest waits.
    let bad = rw c.in-Some.is at c.in_ok-take_all.ensures.bad in
    let old_is = opened _ _ _ _ c.self.view_is c.in-Open.is c.replace-cursor.ensures.value in
    refused _ _ _ _ _ _ _ waits (fed-bad _ _ _ c.args.piece.now _ _ old_is bad)
