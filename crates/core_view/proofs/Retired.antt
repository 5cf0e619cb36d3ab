-- The oldest entry leaves the flight: plain RV64I makes its step, or stops.
use Rattle.std.proofs.Common.{◌≡◌, ◌≢◌, ℕ, zero, suc, ◌%◌, Bool, true, false, List, ◌∷◌, Option, Some, None, Result, Ok, Err, refl, sym, ap, subst, ◌∙◌, arith, option_and_then}
use Rattle.std.specs.Prelude.{set, slice_index, ◌==◌, if◌then◌else◌}
use Rattle.std.specs.Result.{result_ok}
use Rattle.std.proofs.lemmas.Bool.Decides.{nat_tests}
use Rattle.std.proofs.lemmas.List.{get_or-set_other}
use Rattle.paged_memory.specs.Cells.{Cells, rights_at, byte_at}
use Rattle.hart_step.specs.declared.stop.Stop.{Stop}
use Rattle.hart_step.specs.State.{State, read, written}
use Rattle.hart_step.specs.Next.{next, next_state, after}
use Rattle.core_view.specs.declared.operation.Operation.{Operation}
use Rattle.core_view.specs.declared.outcome.Access.{Access}
use Rattle.core_view.specs.declared.outcome.Access.TheVariants.{Free, Reads, Writes}
use Rattle.core_view.specs.declared.outcome.Step.{Step}
use Rattle.core_view.specs.declared.outcome.Outcome.{Outcome}
use Rattle.core_view.specs.declared.outcome.Outcome.TheVariants.{Goes, Stops}
use Rattle.core_view.specs.declared.entry.Execution.{Execution}
use Rattle.core_view.specs.declared.entry.Stage.TheVariants.{Done}
use Rattle.core_view.specs.declared.entry.Entry.{Entry}
use Rattle.core_view.specs.Spans.{overlaid}
use Rattle.core_view.specs.Operations.{operation_at, first_source_of, second_source_of, destination_of}
use Rattle.core_view.specs.Outcomes.{Image, image_of, outcome_here, bytes_written, memory_after, moved, moved_by}
use Rattle.core_view.specs.Flight.{seen_of, seen_with, known, produced, IsOutcome, HasOutcome, IsSettled, IsSoundEntry, IsSound}
use Rattle.core_view.specs.View.{IsTextApart}
use Rattle.core_view.proofs.Stored.{stored_allowed, stored_in, bytes-stored, rights-stored, operation_at-stored}
use Rattle.core_view.proofs.Seen.{IsBelow, known_refl, known-written, source_is}
use Rattle.core_view.proofs.Steps.{IsLet, IsOutcomeLet, next_outcome, outcome_let}
use Rattle.core_view.proofs.Sound.{sound_more, untouched_none}

-- ---- what a step leaves of memory

-- a store writes its bytes
pub memory_written : (s : State) (access : Access) → IsLet s access → byte_at (memory_after s.environment s.memory access) ≡ overlaid (byte_at s.memory) (bytes_written access)
memory_written s Free can = refl
memory_written s (Reads span) can = refl
memory_written s (Writes b) can =
    let wrote = can.1 in
    rw wrote (bytes-stored s.memory can.0 b (stored_in s.environment s.memory can.0 b.span.address b.span.size b.value wrote))

-- and changes no operation and no right
pub image-moved : (s : State) (o : Operation) (step : Step) → IsLet s step.access → IsTextApart (rights_at s.memory) → image_of (moved s o step) ≡ image_of s
image-moved s o step can apart = by_access step.access can
  where
    image : Cells → Image
    image m = record { operations = operation_at m; rights = rights_at m; environment = s.environment }

    by_access : (access : Access) → IsLet s access → image (memory_after s.environment s.memory access) ≡ image s.memory
    by_access Free can = refl
    by_access (Reads span) can = refl
    by_access (Writes b) can =
        let wrote = can.1 in
        let stored = stored_in s.environment s.memory can.0 b.span.address b.span.size b.value wrote in
        let allowed = stored_allowed s.environment s.memory can.0 b.span.address b.span.size b.value wrote in
        let operations : operation_at can.0 ≡ operation_at s.memory = operation_at-stored s.memory can.0 b.span.address b.span.size b.value stored allowed apart in
        let rights : rights_at can.0 ≡ rights_at s.memory = rights-stored s.memory can.0 b.span.address b.span.size b.value stored in
        rw (wrote, operations, rights) refl

-- ---- registers

-- x0 stays 0
pub zero-written : (registers : List ℕ) (d v : ℕ) → slice_index registers 0 ≡ 0 → slice_index (written registers d v) 0 ≡ 0
zero-written registers d v h = go (d == 0) refl
  where
    go : (t : Bool) → (d == 0) ≡ t → slice_index (if t then registers else set registers d v) 0 ≡ 0
    go true is = h
    go false is = let other : 0 ≢ d = λ same. (let at = sym same in grind (arith, nat_tests, is, at)) in get_or-set_other registers d 0 v 0 other ∙ h

-- ---- the step

-- the outcome of the oldest entry, once it is done, is that of plain RV64I
head_outcome : (s : State) (e : Entry) (x : Execution) → slice_index s.registers 0 ≡ 0 → e.stage ≡ Done x → IsSoundEntry (image_of s) (seen_of s) s.pc e → x.outcome ≡ outcome_here s (operation_at s.memory s.pc)
head_outcome s e x zero_register stage h =
    let out : IsOutcome (image_of s) (seen_of s) e.operation e.pc x.outcome = subst (λ t. HasOutcome (image_of s) (seen_of s) e.operation e.pc t) stage h.outcome in
    let first : read s (first_source_of e.operation) ≡ out.first = source_is s.registers (first_source_of e.operation) out.first zero_register out.first_ready in
    let second : read s (second_source_of e.operation) ≡ out.second = source_is s.registers (second_source_of e.operation) out.second zero_register out.second_ready in
    let here : e.operation ≡ operation_at s.memory s.pc = h.operation in
    rw (← here, first, second, ← h.place) out.is

-- what the others saw of it as it was done is what they see once it retired
seen-moved : (s : State) (o : Operation) (x : Execution) (step : Step) → x.outcome ≡ Goes step → IsLet s step.access → IsBelow None (seen_with (seen_of s) o (Done x)) (seen_of (moved s o step))
seen-moved s o x step is can = rw is (record {
  registers = rw (known-written s.registers (destination_of o) step.result) (known_refl (produced (known s.registers) (destination_of o) (Some step.result)));
  agree = λ y out. ap (λ bytes. bytes y) (sym (memory_written s step.access can));
})

-- an entry that retires: the machine makes its step, no operation changes, and the rest stays sound
pub record Retires (s : State) (e : Entry) (step : Step) (es : List Entry) : Type 0 where
  pub leads : next s ≡ Ok (moved s e.operation step)
  pub image : image_of (moved s e.operation step) ≡ image_of s
  pub sound : IsSound (image_of s) (seen_of (moved s e.operation step)) step.next es
  pub aligned : step.next % 4 ≡ 0
  pub zero_register : slice_index (moved s e.operation step).registers 0 ≡ 0

-- the oldest entry is done and goes on: it retires to plain RV64I's next state
pub sound_retire : (s : State) (e : Entry) (x : Execution) (step : Step) (es : List Entry) → slice_index s.registers 0 ≡ 0 → IsTextApart (rights_at s.memory) → e.stage ≡ Done x → x.outcome ≡ Goes step
    → IsSound (image_of s) (seen_of s) s.pc (e ∷ es) → Retires s e step es
sound_retire s e x step es zero_register apart stage goes h =
    let is : Goes step ≡ outcome_here s (operation_at s.memory s.pc) = sym goes ∙ head_outcome s e x zero_register stage h.0 in
    let here : e.operation ≡ operation_at s.memory s.pc = h.0.operation in
    let done : e.stage ≡ Done (record { due = x.due; miss = x.miss; outcome = Goes step }) = stage ∙ ap (λ outcome. Done (record { due = x.due; miss = x.miss; outcome = outcome })) goes in
    let follows : e.followed ≡ step.next = subst (IsSettled e.followed) done h.0.followed.settled in
    let can : IsLet s step.access = subst (IsOutcomeLet s) (sym is) (outcome_let s (operation_at s.memory s.pc)) in
    record {
      leads = next_outcome s ∙ rw (← is, ← here) refl;
      image = image-moved s e.operation step can apart;
      sound = sound_more (image_of s) None (seen_with (seen_of s) e.operation (Done x)) (seen_of (moved s e.operation step)) step.next es (seen-moved s e.operation x step goes can) (untouched_none es)
          (rw (← follows) (subst (λ t. IsSound (image_of s) (seen_with (seen_of s) e.operation t) e.followed es) stage h.2));
      aligned = rw (← follows) h.0.followed.aligned;
      zero_register = zero-written s.registers (destination_of e.operation) step.result zero_register;
    }

-- the oldest entry is done and stops: so does plain RV64I, with that stop
pub sound_stop : (s : State) (e : Entry) (x : Execution) (why : Stop) (es : List Entry) → slice_index s.registers 0 ≡ 0 → e.stage ≡ Done x → x.outcome ≡ Stops why → IsSound (image_of s) (seen_of s) s.pc (e ∷ es) → next s ≡ Err why
sound_stop s e x why es zero_register stage stops h =
    let is : Stops why ≡ outcome_here s (operation_at s.memory s.pc) = sym stops ∙ head_outcome s e x zero_register stage h.0 in
    next_outcome s ∙ rw (← is) refl

-- ---- what no step of plain RV64I changes

image-next : (s t : State) → IsTextApart (rights_at s.memory) → next s ≡ Ok t → image_of t ≡ image_of s
image-next s t apart leads = by_outcome (outcome_here s o) (outcome_let s o) (sym (next_outcome s) ∙ leads)
  where
    o : Operation
    o = operation_at s.memory s.pc

    by_outcome : (outcome : Outcome) → IsOutcomeLet s outcome → moved_by s o outcome ≡ Ok t → image_of t ≡ image_of s
    by_outcome (Goes step) can is = let to : moved s o step ≡ t = cc in ap image_of (sym to) ∙ image-moved s o step can apart
    by_outcome (Stops why) can is = absurd cc

-- where text and data are apart at the start, no operation, right or environment is changed by any number of instructions
pub image-after : (n : ℕ) (start s : State) → IsTextApart (rights_at start.memory) → after n start ≡ Some s → image_of s ≡ image_of start
image-after zero start s apart reached = ap image_of (let same : start ≡ s = cc in sym same)
image-after (suc n) start s apart reached = by_state (after n start) (λ t is. image-after n start t apart is) reached
  where
    by_next : (t : State) (r : Result State Stop) → next t ≡ r → result_ok r ≡ Some s → next t ≡ Ok s
    by_next t (Ok u) leads is = leads ∙ (let to : Ok u ≡ Ok s = cc in to)
    by_next t (Err why) leads is = absurd cc

    by_state : (o : Option State) → ((t : State) → o ≡ Some t → image_of t ≡ image_of start) → option_and_then next_state o ≡ Some s → image_of s ≡ image_of start
    by_state None before to = absurd cc
    by_state (Some t) before to =
        let same : image_of t ≡ image_of start = before t refl in
        let apart_here : IsTextApart (rights_at t.memory) = subst (λ (m : Image). IsTextApart m.rights) (sym same) apart in
        image-next t s apart_here (by_next t (next t) refl to) ∙ same
