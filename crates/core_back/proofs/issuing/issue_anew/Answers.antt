use Rattle.std.proofs.Common.{ℕ, Bool, ◌<◌, ◌++◌, List, [], ◌∷◌, length, ap, sym, subst, ◌∙◌, refl, append-nil, append_assoc, arith}
use Rattle.data_tags.specs.declared.delay.Kind.{Kind}
use Rattle.data_tags.specs.declared.delay.Lag.{Lag}
use Rattle.core_view.specs.declared.note.EntryId.{EntryId}
use Rattle.core_view.specs.declared.note.Issue.{Issue}
use Rattle.core_view.specs.Flight.{IsGrowing}
use Rattle.core_view.specs.View.{View}
use Rattle.core_back.specs.Issued.{IsIssuedBy, IsIssued}
use Rattle.lawful_cycle.specs.Queries.{IsLagBy}
use Rattle.lawful_cycle.proofs.Laws.{timed_keeps}
use Rattle.core_back.specs.Machine.{Machine, context_at}
use Rattle.core_back.specs.Selected.{IsChosen}
use Rattle.core_back.proofs.AlikeMachines.{alike_chain, issue_alike, none_left}
use Rattle.core_back.proofs.ChosenAnew.{none_waits}
use Rattle.core_back.proofs.InFlight.{in_flight_same, in_flight_issued}
use Rattle.core_back.proofs.IssueViews.{issuing_first, issuing_next}
use Rattle.core_back.proofs.IssuedRuns.{stated_issue, issued_more}
use Rattle.core_back.proofs.issuing.issue_anew.Goals as goal

pub loop-machine-init : goal.loop-machine-init
loop-machine-init g c =
    let u : Machine = c.select_anew.new.self in
    let e = c.select_anew.ensures.selected in
    record {
      alike = record { origin = ap (λ (m : Machine). m.origin) e; profile = ap (λ (m : Machine). m.view.profile) e; cycle = ap (λ (m : Machine). m.view.cycle) e; room = ap (λ (m : Machine). m.fetch_room) e; targets = λ d lt. ap (λ (m : Machine). (context_at m d).target) e };
      first = u;
      selected = e;
      choice = c.select_anew.ensures.choice;
      more = [];
      run = (refl, refl);
      issuing = issuing_first (g.O.Order.key_of c.args.order.now) (g.D.Delay.may_answer c.args.delay.now) c.args.width u u [] (ap (λ (m : Machine). length m.view.contexts) e ∙ c.cycle-live.ensures.contexts) refl refl
          (subst (λ (v : View). IsChosen (g.O.Order.key_of c.args.order.now) c.args.width v u.names) (sym (ap (λ (m : Machine). m.view) e)) c.select_anew.ensures.choice);
      listed = sym (append-nil (g.L.Listing.items c.args.issued.now));
      room = omega (arith, c.requires.room, c.select_anew.ensures.most);
      flights = in_flight_same c.args.machine.now u (ap (λ (m : Machine). m.view.contexts) e);
      keeps = refl;
    }

pub loop-machine-preserved : goal.loop-machine-preserved
loop-machine-preserved g c =
    let h = c.loop-machine.invariant in
    let n : Machine = c.loop-machine.machine in
    let u : Machine = c.issue_next.new.self in
    let i : Issue = c.in-Some.next in
    let step = c.in-Some.ensures.issued in
    let now : IsIssuedBy (IsLagBy (g.D.Delay.may_answer c.args.delay.now) g.D.Delay.answer g.D.Delay.after_delay c.loop-machine.delay c.issue_next.new.delay) n u i =
    subst (λ (may : ℕ → Kind → ℕ → Lag → Bool). IsIssuedBy (IsLagBy may g.D.Delay.answer g.D.Delay.after_delay c.loop-machine.delay c.issue_next.new.delay) n u i) h.keeps step in
    let told : IsIssued (g.D.Delay.may_answer c.args.delay.now) n u i = stated_issue (g.D.Delay.may_answer c.args.delay.now) g.D.Delay.answer g.D.Delay.after_delay c.loop-machine.delay c.issue_next.new.delay n u i now in
    let growing : (d : ℕ) → d < 8 → IsGrowing 0 (context_at h.first d).flight = λ d ld. subst (λ (m : Machine). IsGrowing 0 (context_at m d).flight) (sym h.selected) (c.cycle-live.ensures.live d ld).flight.growing in
    record {
      alike = alike_chain c.args.machine.now n u h.alike (issue_alike n u i step);
      first = h.first;
      selected = h.selected;
      choice = h.choice;
      more = h.more ++ i ∷ [];
      run = issued_more (IsLagBy (g.D.Delay.may_answer c.args.delay.now) g.D.Delay.answer g.D.Delay.after_delay) c.args.delay.now c.loop-machine.delay c.issue_next.new.delay h.first n u h.more i h.run now;
      issuing = issuing_next (g.O.Order.key_of c.args.order.now) (g.D.Delay.may_answer c.args.delay.now) c.args.width h.first n u h.more (h.more ++ i ∷ []) i growing h.issuing told refl;
      listed = c.push.ensures.items ∙ ap (λ (is : List Issue). is ++ i ∷ []) h.listed ∙ append_assoc (g.L.Listing.items c.args.issued.now) h.more (i ∷ []);
      room = omega (arith, h.room, c.push.ensures.len, ap (λ (ns : List EntryId). length ns) step.names);
      flights = in_flight_issued n u i step ∙ h.flights;
      keeps = timed_keeps g.D.Delay.may_answer g.D.Delay.answer g.D.Delay.after_delay g.met.D.Delay.delay_keeps c.loop-machine.delay c.issue_next.new.delay _ _ _ _ _ step.performed.lag.timed ∙ h.keeps;
    }

pub unreachable-requires : goal.unreachable-requires
unreachable-requires g c =
    let h = c.loop-machine.invariant in
    let growing : (d : ℕ) → d < 8 → IsGrowing 0 (context_at h.first d).flight = λ d ld. subst (λ (m : Machine). IsGrowing 0 (context_at m d).flight) (sym h.selected) (c.cycle-live.ensures.live d ld).flight.growing in
    none_waits (g.O.Order.key_of c.args.order.now) (g.D.Delay.may_answer c.args.delay.now) c.args.width h.first c.loop-machine.machine h.more growing h.issuing (c.issue_next.ensures.waits c.in_default.is)

pub returns-clause-anew : goal.returns-clause-anew
returns-clause-anew g c =
    let h = c.loop-machine.invariant in
    record {
      first = h.first;
      selected = h.selected;
      choice = h.choice;
      issues = h.more;
      issued = h.run;
      listed = h.listed;
      idle = none_left c.loop-machine.machine.names (omega (arith, c.loop-machine-test.false, c.selected_count.ensures));
    }
