use Rattle.std.proofs.Common.{◌≡◌, ℕ, suc, ◌+◌, List, get_or, take, map, ap, sym, ◌∙◌, arith}
use Rattle.std.proofs.lemmas.List.{get_or-drop}
use Rattle.core_view.specs.declared.note.EntryId.{EntryId}
use Rattle.data_flow.specs.Flow.{Flow, Waiter, with_held}
use Rattle.core_back.specs.Shown.{marked_among}
use Rattle.core_back.proofs.HeldNames.{marked_more, no_mark}
use Rattle.core_back.proofs.selection.Selection.mark.Goals as goal

pub loop-place-init : goal.loop-place-init
loop-place-init g c = ap (λ (ws : List Waiter). let f : Flow = record c.args.flow.now { waiters = ws } in f) (no_mark c.args.held c.args.flow.now.waiters)

pub loop-place-preserved : goal.loop-place-preserved
loop-place-preserved g c =
    let n : EntryId = c.index-deref-self.result in
    let names : List EntryId = c.args.self.now in
    let items : List EntryId = c.self.inside.entries.items in
    let place : ℕ = c.loop-place.place in
    let held = c.args.held in
    let old : Flow = c.args.flow.now in
    let is : n ≡ get_or names place n =
    c.index-deref-self.is ∙ ap (λ (es : List EntryId). get_or es (c.self.inside.issued + place) n) c.deref.ensures.0 ∙ sym (get_or-drop c.self.inside.issued items place n) ∙ ap (λ (es : List EntryId). get_or es place n) c.self.view_is in
    let more : suc place ≡ place + 1 = omega arith in
    c.hold.ensures
    ∙ ap (λ (f : Flow). let h : Flow = record f { waiters = map (with_held n.context n.stamp held) f.waiters } in h) c.loop-place.invariant
    ∙ ap (λ (m : EntryId). let h : Flow = record old { waiters = map (with_held m.context m.stamp held) (map (marked_among (take place names) held) old.waiters) } in h) is
    ∙ ap (λ (ws : List Waiter). let h : Flow = record old { waiters = ws } in h) (marked_more names place n held old.waiters (omega (arith, c.loop-place-test.true, c.len-place-end.ensures)))
    ∙ ap (λ k. let h : Flow = record old { waiters = map (marked_among (take k names) held) old.waiters } in h) more
