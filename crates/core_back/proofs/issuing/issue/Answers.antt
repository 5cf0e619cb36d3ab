use Rattle.std.proofs.Common.{◌≡◌, ℕ, ◌-◌, Bool, ◌<◌, ◌++◌, List, length, ap, sym, subst, ◌∙◌, refl, arith}
use Rattle.data_tags.specs.declared.delay.Kind.{Kind}
use Rattle.data_tags.specs.declared.delay.Lag.{Lag}
use Rattle.core_view.specs.declared.note.EntryId.{EntryId}
use Rattle.core_view.specs.declared.note.Issue.{Issue}
use Rattle.core_view.specs.Flight.{IsGrowing}
use Rattle.core_view.specs.View.{View}
use Rattle.lawful_cycle.specs.Issue.{IsIssue}
use Rattle.core_back.specs.Issued.{IsIssuedBy, AreIssued}
use Rattle.lawful_cycle.specs.Queries.{IsLagBy}
use Rattle.lawful_cycle.specs.Steps.{GoesBy, IsTimedAt}
use Rattle.lawful_cycle.proofs.Laws.{goes_on, goes_once, times_keep}
use Rattle.core_back.specs.Issuing.{IsIssuing}
use Rattle.core_back.specs.Machine.{Machine, context_at}
use Rattle.core_back.specs.Selected.{IsChosen}
use Rattle.core_back.proofs.AlikeMachines.{alike_chain, issue_alike, none_left}
use Rattle.core_back.proofs.AskedIssues.{asked_first, asked_next, timed_asked, asked_done}
use Rattle.core_back.proofs.ChosenAnew.{chosen_anew}
use Rattle.core_back.proofs.InFlight.{in_flight_same, in_flight_issued}
use Rattle.core_back.proofs.IssueViews.{issuing_done}
use Rattle.core_back.proofs.IssuedRuns.{stated_issue, issuing_run, timed_run}
use Rattle.core_back.proofs.issuing.issue.Given.{Over}
use Rattle.core_back.proofs.issuing.issue.Goals.{After-issue_anew}
use Rattle.core_back.proofs.issuing.issue.Goals as goal

pub loop-machine-init : goal.loop-machine-init
loop-machine-init g c =
    let e = c.select.ensures.selected in
    record {
      alike = record { origin = ap (λ (m : Machine). m.origin) e; profile = ap (λ (m : Machine). m.view.profile) e; cycle = ap (λ (m : Machine). m.view.cycle) e; room = ap (λ (m : Machine). m.fetch_room) e; targets = λ d lt. ap (λ (m : Machine). (context_at m d).target) e };
      issuing = asked_first (g.O.Order.key_of c.args.order.now) (g.D.Delay.may_answer c.args.delay.now) c.issue_width-width.result c.args.machine.now c.select.new.self (g.L.Listing.items c.args.issued.now) c.cycle-live.ensures.contexts (ap (λ (m : Machine). m.view) e) c.requires.fresh c.select.ensures.choice;
      profile = c.issue_width-width.ensures.value;
      width = c.issue_width-width.ensures.bound;
      flights = in_flight_same c.args.machine.now c.select.new.self (ap (λ (m : Machine). m.view.contexts) e);
      room = omega (arith, c.select.ensures.most, ap (λ (is : List Issue). length is) c.requires.fresh);
      timed = subst (λ (is : List Issue). GoesBy (IsTimedAt g.D.Delay.answer g.D.Delay.after_delay c.args.machine.now.view) is c.args.delay.now c.args.delay.now) (sym c.requires.fresh) refl;
    }

pub loop-machine-preserved : goal.loop-machine-preserved
loop-machine-preserved g c =
    let h = c.loop-machine.invariant in
    let kept = times_keep g.D.Delay.may_answer g.D.Delay.answer g.D.Delay.after_delay g.met.D.Delay.delay_keeps c.args.machine.now.view (g.L.Listing.items c.loop-machine.issued) c.args.delay.now c.loop-machine.delay h.timed in
    let n : Machine = c.loop-machine.machine in
    let u : Machine = c.issue_next.new.self in
    let i : Issue = c.in-Some.issue in
    let step = c.in-Some.ensures.issued in
    let now : IsIssuedBy (IsLagBy (g.D.Delay.may_answer c.args.delay.now) g.D.Delay.answer g.D.Delay.after_delay c.loop-machine.delay c.issue_next.new.delay) n u i =
    subst (λ (may : ℕ → Kind → ℕ → Lag → Bool). IsIssuedBy (IsLagBy may g.D.Delay.answer g.D.Delay.after_delay c.loop-machine.delay c.issue_next.new.delay) n u i) kept step in
    let growing : (d : ℕ) → d < 8 → IsGrowing 0 (context_at c.args.machine.now d).flight = λ d ld. (c.cycle-live.ensures.live d ld).flight.growing in
    record {
      alike = alike_chain c.args.machine.now n u h.alike (issue_alike n u i step);
      issuing = asked_next (g.O.Order.key_of c.args.order.now) (g.D.Delay.may_answer c.args.delay.now) c.issue_width-width.result c.args.machine.now n u (g.L.Listing.items c.loop-machine.issued) (g.L.Listing.items c.push.new.self) i
          growing h.issuing (stated_issue (g.D.Delay.may_answer c.args.delay.now) g.D.Delay.answer g.D.Delay.after_delay c.loop-machine.delay c.issue_next.new.delay n u i now) c.push.ensures.items;
      profile = h.profile;
      width = h.width;
      flights = in_flight_issued n u i step ∙ h.flights;
      room = omega (arith, h.room, c.push.ensures.len, ap (λ (ns : List EntryId). length ns) step.names);
      timed = subst (λ (is : List Issue). GoesBy (IsTimedAt g.D.Delay.answer g.D.Delay.after_delay c.args.machine.now.view) is c.args.delay.now c.issue_next.new.delay) (sym c.push.ensures.items)
          (goes_once (IsTimedAt g.D.Delay.answer g.D.Delay.after_delay c.args.machine.now.view) (g.L.Listing.items c.loop-machine.issued) i c.args.delay.now c.loop-machine.delay c.issue_next.new.delay h.timed
          (timed_asked (g.O.Order.key_of c.args.order.now) (g.D.Delay.may_answer c.args.delay.now) g.D.Delay.answer g.D.Delay.after_delay c.issue_width-width.result c.args.machine.now n u c.loop-machine.delay c.issue_next.new.delay (g.L.Listing.items c.loop-machine.issued) i growing h.issuing now));
    }

-- ---- the rest was chosen anew

stays : (g : Over) (c : After-issue_anew g) → ((d : ℕ) → d < 8 → IsGrowing 0 (context_at c.args.machine.now d).flight)
stays g c = λ d ld. (c.cycle-live.ensures.live d ld).flight.growing

-- what had issued before was first of what is ready then
anew : (g : Over) (c : After-issue_anew g)
    → IsIssuing (g.O.Order.key_of c.args.order.now) (g.D.Delay.may_answer c.args.delay.now) c.issue_width-width.result c.args.machine.now c.issue_anew.ensures.anew.first (g.L.Listing.items c.loop-machine.issued)
anew g c =
    let h = c.loop-machine.invariant in
    let a = c.issue_anew.ensures.anew in
    let u : Machine = a.first in
    let left : ℕ = c.issue_width-width.result - c.len.result in
    let key = g.O.Order.key_of c.args.order.now in
    let view : u.view ≡ c.issue_next.new.self.view = ap (λ (v : Machine). v.view) a.selected in
    let same : u.view ≡ c.loop-machine.machine.view = view ∙ ap (λ (v : Machine). v.view) (c.issue_next.ensures.same c.in_default.is) in
    chosen_anew key (g.D.Delay.may_answer c.args.delay.now) c.issue_width-width.result left c.args.machine.now c.loop-machine.machine u (g.L.Listing.items c.loop-machine.issued) (stays g c) h.issuing same
    (subst (λ (v : View). IsChosen key left v u.names) (sym view) a.choice) (omega (arith, c.len.ensures.value, h.room))

-- the rest issued by what the delay states at first
rest : (g : Over) (c : After-issue_anew g)
    → AreIssued (IsLagBy (g.D.Delay.may_answer c.args.delay.now) g.D.Delay.answer g.D.Delay.after_delay) c.issue_next.new.delay c.issue_anew.new.delay c.issue_anew.ensures.anew.first c.issue_anew.new.machine c.issue_anew.ensures.anew.issues
rest g c =
    let h = c.loop-machine.invariant in
    let a = c.issue_anew.ensures.anew in
    let kept = times_keep g.D.Delay.may_answer g.D.Delay.answer g.D.Delay.after_delay g.met.D.Delay.delay_keeps c.args.machine.now.view (g.L.Listing.items c.loop-machine.issued) c.args.delay.now c.loop-machine.delay h.timed in
    subst (λ (may : ℕ → Kind → ℕ → Lag → Bool). AreIssued (IsLagBy may g.D.Delay.answer g.D.Delay.after_delay) c.issue_next.new.delay c.issue_anew.new.delay a.first c.issue_anew.new.machine a.issues) (ap g.D.Delay.may_answer (c.issue_next.ensures.unasked c.in_default.is) ∙ kept) a.issued

pub returns-in_default-clause-lawful : goal.returns-in_default-clause-lawful
returns-in_default-clause-lawful g c =
    let at = (goal.at.returns-in_default-clause-lawful g c).After-issue_anew in
    let key = g.O.Order.key_of c.args.order.now in
    let delays = g.D.Delay.may_answer c.args.delay.now in
    let h = c.loop-machine.invariant in
    let a = c.issue_anew.ensures.anew in
    let m : Machine = c.args.machine.now in
    let issues : List Issue = g.L.Listing.items c.loop-machine.issued in
    subst (IsIssue key delays m.view c.issue_anew.new.machine.view) (sym a.listed)
    (issuing_done key delays c.issue_width-width.result m c.issue_anew.new.machine (issues ++ a.issues)
    (issuing_run key delays g.D.Delay.answer g.D.Delay.after_delay c.issue_width-width.result m (stays g at) c.issue_next.new.delay c.issue_anew.new.delay a.first c.issue_anew.new.machine issues a.issues (anew g at) (rest g at)) h.profile a.idle)

pub returns-in_default-clause-timed : goal.returns-in_default-clause-timed
returns-in_default-clause-timed g c =
    let at = (goal.at.returns-in_default-clause-timed g c).After-issue_anew in
    let h = c.loop-machine.invariant in
    let a = c.issue_anew.ensures.anew in
    let m : Machine = c.args.machine.now in
    let issues : List Issue = g.L.Listing.items c.loop-machine.issued in
    let says = IsTimedAt g.D.Delay.answer g.D.Delay.after_delay m.view in
    let before : GoesBy says issues c.args.delay.now c.issue_next.new.delay = subst (GoesBy says issues c.args.delay.now) (sym (c.issue_next.ensures.unasked c.in_default.is)) h.timed in
    subst (λ (is : List Issue). GoesBy says is c.args.delay.now c.issue_anew.new.delay) (sym a.listed)
    (goes_on says issues a.issues c.args.delay.now c.issue_next.new.delay c.issue_anew.new.delay before
    (timed_run (g.O.Order.key_of c.args.order.now) (g.D.Delay.may_answer c.args.delay.now) g.D.Delay.answer g.D.Delay.after_delay c.issue_width-width.result m (stays g at) c.issue_next.new.delay c.issue_anew.new.delay a.first c.issue_anew.new.machine issues a.issues (anew g at) (rest g at)))

pub returns-clause-timed : goal.returns-clause-timed
returns-clause-timed g c = c.loop-machine.invariant.timed

pub returns-clause-lawful : goal.returns-clause-lawful
returns-clause-lawful g c =
    let h = c.loop-machine.invariant in
    asked_done (g.O.Order.key_of c.args.order.now) (g.D.Delay.may_answer c.args.delay.now) c.issue_width-width.result c.args.machine.now c.loop-machine.machine (g.L.Listing.items c.loop-machine.issued) h.issuing h.profile
    (none_left c.loop-machine.machine.names (omega (arith, c.loop-machine-test.false, c.selected_count.ensures)))
