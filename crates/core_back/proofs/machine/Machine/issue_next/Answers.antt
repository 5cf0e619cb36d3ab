use Rattle.std.proofs.Common.{◌+◌, ◌<◌, ◌∙◌, List, length, drop, refl, ap, arith}
use Rattle.std.specs.Prelude.{set}
use Rattle.core_view.specs.declared.entry.Execution.{Execution}
use Rattle.core_view.specs.declared.note.EntryId.{EntryId}
use Rattle.core_context.specs.Issuable.{performed_at}
use Rattle.core_back.specs.Shown.{flow_left}
use Rattle.core_back.proofs.Machines.{machine_same}
use Rattle.core_back.proofs.MachineIssues.{IsFirstName, first_name, first_supplied, head_waits, issued_core, issued_machine, is_performed, is_issued}
use Rattle.core_back.proofs.machine.Machine.issue_next.Given.{Over}
use Rattle.core_back.proofs.machine.Machine.issue_next.Goals as goal
use Rattle.core_back.proofs.machine.Machine.issue_next.Goals.{After-index_mut-track}

-- the first name, and its context
first : (g : Over) (c : After-index_mut-track g) → IsFirstName c.self.inside c.args.self.now c.first-name.result (drop 1 c.self.inside.selected) c.index_mut-track.result.now
first g c =
    let some : 0 < length c.self.inside.selected = rw (← c.self.view_is) at c.requires.some in
    first_name c.self.inside c.args.self.now c.first-name.result c.index.result c.index_mut-track.result.now c.self.view_is c.self.invariant some c.first-name.ensures (omega (arith, c.index.ensures)) c.index.ensures.value c.index_mut-track.ensures.value

pub issue-requires-clause-supplied : goal.issue-requires-clause-supplied
issue-requires-clause-supplied g c =
    first_supplied c.self.inside c.args.self.now c.first-name.result (drop 1 c.self.inside.selected) c.index_mut-track.result.now (first g (goal.at.issue-requires-clause-supplied g c).After-index_mut-track)

pub invariant_of-self : goal.invariant_of-self
invariant_of-self g c =
    let h = first g (goal.at.invariant_of-self g c).After-index_mut-track in
    machine_same c.self.inside _ c.first-name.result.context c.index.result c.issue.new.track c.self.invariant (c.issue.ensures.same c.in_err-lag.was ∙ h.shown.track) c.index.ensures.value refl refl refl refl refl refl refl refl refl

pub returns-in_err-lag-clause-waits : goal.returns-in_err-lag-clause-waits
returns-in_err-lag-clause-waits g c _ =
    let h = first g (goal.at.returns-in_err-lag-clause-waits g c).After-index_mut-track in
    let r = c.issue.ensures.waits c.in_err-lag.was in
    head_waits c.self.inside c.args.self.now c.first-name.result (drop 1 c.self.inside.selected) c.index_mut-track.result.now c.self.view_is h r.place r.first r.second r.within r.stamp r.sources r.waits

pub returns-in_err-lag-clause-unasked : goal.returns-in_err-lag-clause-unasked
returns-in_err-lag-clause-unasked g c _ = c.issue.ensures.unasked c.in_err-lag.was

pub invariant_of-self-2 : goal.invariant_of-self-2
invariant_of-self-2 g c =
    let h = first g (goal.at.invariant_of-self-2 g c).After-index_mut-track in
    let r = c.in_ok-lag.ensures.issued in
    let x : Execution = record { due = c.self.inside.cycle + c.in_ok-lag.lag.cycles; miss = c.in_ok-lag.lag.miss; outcome = performed_at c.index_mut-track.result.now.context r.place r.first r.second } in
    let rest : List EntryId = drop 1 c.self.inside.selected in
    let core = issued_core c.self.inside c.args.self.now c.first-name.result rest c.index_mut-track.result.now h r.place x r.first r.second r.within r.stamp r.sources r.clear refl in
    issued_machine c.self.inside _ c.args.self.now c.first-name.result c.index.result rest c.index_mut-track.result.now r.place x c.self.invariant h (omega (arith, c.index.ensures)) core c.index.ensures.value refl
    (c.drop_issued.ensures ∙ ap (λ ns. flow_left ns c.self.inside.flow) c.take_first-first.ensures.rest) (ap (set c.self.inside.tracks.items c.index.result) r.after) c.take_first-first.ensures.rest refl refl refl refl refl

pub returns-clause-issued : goal.returns-clause-issued
returns-clause-issued g c =
    let h = first g (goal.at.returns-clause-issued g c).After-index_mut-track in
    let r = c.in_ok-lag.ensures.issued in
    let x : Execution = record { due = c.self.inside.cycle + c.in_ok-lag.lag.cycles; miss = c.in_ok-lag.lag.miss; outcome = performed_at c.index_mut-track.result.now.context r.place r.first r.second } in
    let rest : List EntryId = drop 1 c.self.inside.selected in
    let performed = is_performed c.self.inside c.args.self.now c.first-name.result rest c.index_mut-track.result.now h r.place x r.first r.second _
    _ _ c.in_ok-lag.lag.cycles r.within r.stamp r.sources r.clear refl refl refl r.stated in
    rw c.issue_of.ensures (is_issued c.self.inside c.args.self.now c.first-name.result c.index.result rest c.index_mut-track.result.now c.issue.new.track r.place x c.in_ok-lag.lag.cycles c.take_first-first.new.self
    c.self.view_is h c.index.ensures.value r.within r.stamp r.after refl c.take_first-first.ensures.rest performed)
