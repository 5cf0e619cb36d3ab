use Rattle.std.proofs.Common.{◌∙◌}
use Rattle.checkpoint_file.proofs.SkipLemmas.{eight_found, eight_parts}
use Rattle.checkpoint_file.specs.Texts.{mark_text}
use Rattle.checkpoint_file.proofs.matching.after_marks.Goals as goal

pub returns-in_err-n1-clause-only : goal.returns-in_err-n1-clause-only
returns-in_err-n1-clause-only g c rest e =
    let e0 = e ∙ eight_parts (mark_text c.args.marks.now.c0) (mark_text c.args.marks.now.c1) (mark_text c.args.marks.now.c2) (mark_text c.args.marks.now.c3) (mark_text c.args.marks.now.c4) (mark_text c.args.marks.now.c5) (mark_text c.args.marks.now.c6) (mark_text c.args.marks.now.c7) rest in
    absurd (c.in_err-n1.ensures.only _ e0)

pub returns-in_err-n2-clause-only : goal.returns-in_err-n2-clause-only
returns-in_err-n2-clause-only g c rest e =
    let e0 = e ∙ eight_parts (mark_text c.args.marks.now.c0) (mark_text c.args.marks.now.c1) (mark_text c.args.marks.now.c2) (mark_text c.args.marks.now.c3) (mark_text c.args.marks.now.c4) (mark_text c.args.marks.now.c5) (mark_text c.args.marks.now.c6) (mark_text c.args.marks.now.c7) rest in
    let e1 = c.in_ok-n1.ensures.only _ e0 in
    absurd (c.in_err-n2.ensures.only _ e1)

pub returns-in_err-n3-clause-only : goal.returns-in_err-n3-clause-only
returns-in_err-n3-clause-only g c rest e =
    let e0 = e ∙ eight_parts (mark_text c.args.marks.now.c0) (mark_text c.args.marks.now.c1) (mark_text c.args.marks.now.c2) (mark_text c.args.marks.now.c3) (mark_text c.args.marks.now.c4) (mark_text c.args.marks.now.c5) (mark_text c.args.marks.now.c6) (mark_text c.args.marks.now.c7) rest in
    let e1 = c.in_ok-n1.ensures.only _ e0 in
    let e2 = c.in_ok-n2.ensures.only _ e1 in
    absurd (c.in_err-n3.ensures.only _ e2)

pub returns-in_err-n4-clause-only : goal.returns-in_err-n4-clause-only
returns-in_err-n4-clause-only g c rest e =
    let e0 = e ∙ eight_parts (mark_text c.args.marks.now.c0) (mark_text c.args.marks.now.c1) (mark_text c.args.marks.now.c2) (mark_text c.args.marks.now.c3) (mark_text c.args.marks.now.c4) (mark_text c.args.marks.now.c5) (mark_text c.args.marks.now.c6) (mark_text c.args.marks.now.c7) rest in
    let e1 = c.in_ok-n1.ensures.only _ e0 in
    let e2 = c.in_ok-n2.ensures.only _ e1 in
    let e3 = c.in_ok-n3.ensures.only _ e2 in
    absurd (c.in_err-n4.ensures.only _ e3)

pub returns-in_err-n5-clause-only : goal.returns-in_err-n5-clause-only
returns-in_err-n5-clause-only g c rest e =
    let e0 = e ∙ eight_parts (mark_text c.args.marks.now.c0) (mark_text c.args.marks.now.c1) (mark_text c.args.marks.now.c2) (mark_text c.args.marks.now.c3) (mark_text c.args.marks.now.c4) (mark_text c.args.marks.now.c5) (mark_text c.args.marks.now.c6) (mark_text c.args.marks.now.c7) rest in
    let e1 = c.in_ok-n1.ensures.only _ e0 in
    let e2 = c.in_ok-n2.ensures.only _ e1 in
    let e3 = c.in_ok-n3.ensures.only _ e2 in
    let e4 = c.in_ok-n4.ensures.only _ e3 in
    absurd (c.in_err-n5.ensures.only _ e4)

pub returns-in_err-n6-clause-only : goal.returns-in_err-n6-clause-only
returns-in_err-n6-clause-only g c rest e =
    let e0 = e ∙ eight_parts (mark_text c.args.marks.now.c0) (mark_text c.args.marks.now.c1) (mark_text c.args.marks.now.c2) (mark_text c.args.marks.now.c3) (mark_text c.args.marks.now.c4) (mark_text c.args.marks.now.c5) (mark_text c.args.marks.now.c6) (mark_text c.args.marks.now.c7) rest in
    let e1 = c.in_ok-n1.ensures.only _ e0 in
    let e2 = c.in_ok-n2.ensures.only _ e1 in
    let e3 = c.in_ok-n3.ensures.only _ e2 in
    let e4 = c.in_ok-n4.ensures.only _ e3 in
    let e5 = c.in_ok-n5.ensures.only _ e4 in
    absurd (c.in_err-n6.ensures.only _ e5)

pub returns-in_err-n7-clause-only : goal.returns-in_err-n7-clause-only
returns-in_err-n7-clause-only g c rest e =
    let e0 = e ∙ eight_parts (mark_text c.args.marks.now.c0) (mark_text c.args.marks.now.c1) (mark_text c.args.marks.now.c2) (mark_text c.args.marks.now.c3) (mark_text c.args.marks.now.c4) (mark_text c.args.marks.now.c5) (mark_text c.args.marks.now.c6) (mark_text c.args.marks.now.c7) rest in
    let e1 = c.in_ok-n1.ensures.only _ e0 in
    let e2 = c.in_ok-n2.ensures.only _ e1 in
    let e3 = c.in_ok-n3.ensures.only _ e2 in
    let e4 = c.in_ok-n4.ensures.only _ e3 in
    let e5 = c.in_ok-n5.ensures.only _ e4 in
    let e6 = c.in_ok-n6.ensures.only _ e5 in
    absurd (c.in_err-n7.ensures.only _ e6)

pub returns-in_err-n8-clause-only : goal.returns-in_err-n8-clause-only
returns-in_err-n8-clause-only g c rest e =
    let e0 = e ∙ eight_parts (mark_text c.args.marks.now.c0) (mark_text c.args.marks.now.c1) (mark_text c.args.marks.now.c2) (mark_text c.args.marks.now.c3) (mark_text c.args.marks.now.c4) (mark_text c.args.marks.now.c5) (mark_text c.args.marks.now.c6) (mark_text c.args.marks.now.c7) rest in
    let e1 = c.in_ok-n1.ensures.only _ e0 in
    let e2 = c.in_ok-n2.ensures.only _ e1 in
    let e3 = c.in_ok-n3.ensures.only _ e2 in
    let e4 = c.in_ok-n4.ensures.only _ e3 in
    let e5 = c.in_ok-n5.ensures.only _ e4 in
    let e6 = c.in_ok-n6.ensures.only _ e5 in
    let e7 = c.in_ok-n7.ensures.only _ e6 in
    absurd (c.in_err-n8.ensures.only _ e7)

pub returns-clause-found : goal.returns-clause-found
returns-clause-found g c =
    eight_found (mark_text c.args.marks.now.c0) (mark_text c.args.marks.now.c1) (mark_text c.args.marks.now.c2) (mark_text c.args.marks.now.c3) (mark_text c.args.marks.now.c4) (mark_text c.args.marks.now.c5) (mark_text c.args.marks.now.c6) (mark_text c.args.marks.now.c7)
    c.args.bytes.now c.in_ok-n1.n1.now c.in_ok-n2.n2.now c.in_ok-n3.n3.now c.in_ok-n4.n4.now c.in_ok-n5.n5.now c.in_ok-n6.n6.now c.in_ok-n7.n7.now c.in_ok-n8.n8.now
    c.in_ok-n1.ensures.found c.in_ok-n2.ensures.found c.in_ok-n3.ensures.found c.in_ok-n4.ensures.found c.in_ok-n5.ensures.found c.in_ok-n6.ensures.found c.in_ok-n7.ensures.found c.in_ok-n8.ensures.found

pub returns-clause-only : goal.returns-clause-only
returns-clause-only g c rest e =
    let e0 = e ∙ eight_parts (mark_text c.args.marks.now.c0) (mark_text c.args.marks.now.c1) (mark_text c.args.marks.now.c2) (mark_text c.args.marks.now.c3) (mark_text c.args.marks.now.c4) (mark_text c.args.marks.now.c5) (mark_text c.args.marks.now.c6) (mark_text c.args.marks.now.c7) rest in
    let e1 = c.in_ok-n1.ensures.only _ e0 in
    let e2 = c.in_ok-n2.ensures.only _ e1 in
    let e3 = c.in_ok-n3.ensures.only _ e2 in
    let e4 = c.in_ok-n4.ensures.only _ e3 in
    let e5 = c.in_ok-n5.ensures.only _ e4 in
    let e6 = c.in_ok-n6.ensures.only _ e5 in
    let e7 = c.in_ok-n7.ensures.only _ e6 in
    c.in_ok-n8.ensures.only _ e7
