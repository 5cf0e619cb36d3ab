-- What is seen, byte by byte, and what a load gets that is clear.
use Rattle.std.proofs.Common.{◌≡◌, ℕ, ◌-◌, Bool, true, false, List, [], ◌∷◌, Option, Some, None, refl, sym, ap, ◌∙◌}
use Rattle.std.specs.Prelude.{if◌then◌else◌}
use Rattle.std.proofs.Math.Path.{fun_ext}
use Rattle.std.specs.Option.{option_or}
use Rattle.std.specs.Int.{byte_at as byte_of_number}
use Rattle.paged_memory.specs.Cells.{Rights}
use Rattle.paged_memory.specs.declared.Fault.{Fault}
use Rattle.rv64_decode.specs.declared.insn.LoadKind.{LoadKind}
use Rattle.hart_step.specs.declared.environment.Environment.{Environment}
use Rattle.hart_step.specs.declared.effect.Effect.{Effect}
use Rattle.hart_step.specs.declared.effect.Effect.TheVariants.{Goes, Writes, Loads, Stores, Stops}
use Rattle.hart_step.specs.State.{following}
use Rattle.hart_step.specs.Values.{load_bytes, loaded}
use Rattle.core_view.specs.declared.span.Span.{Span}
use Rattle.core_view.specs.declared.span.Bytes.{Bytes}
use Rattle.core_view.specs.declared.outcome.Access.TheVariants.{Reads}
use Rattle.core_view.specs.declared.outcome.Step.{Step}
use Rattle.core_view.specs.declared.outcome.Outcome.TheVariants as outcome
use Rattle.core_view.specs.declared.entry.Entry.{Entry}
use Rattle.core_view.specs.Spans.{contains, shares, number_in, byte_after, overlaid}
use Rattle.core_view.specs.Outcomes.{fault_of, number_read, answer, load_span, outcome_with, outcome_over}
use Rattle.core_view.specs.Flight.{Seen, bytes_done, seen_after, seen_past}
use Rattle.core_view.specs.Loads.{passing, newest_at, newest_sharing, byte_from, seen_byte, seen_value, is_clear_of, is_clear, forwarded, number_answered, may_issue}
use Rattle.core_view.proofs.SpanReads.{read_apart, read_covered}

-- ---- seen bytes

pub byte_over : (memory : ℕ → ℕ) (o : Option Bytes) (x : ℕ) → overlaid memory o x ≡ byte_from memory (passing (λ b. contains b.span x) o) x
byte_over memory None x = refl
byte_over memory (Some b) x = go (contains b.span x)
  where
    go : (t : Bool) → (if t then byte_of_number (x - b.span.address) b.value else memory x) ≡ byte_from memory (if t then Some b else None) x
    go true = refl
    go false = refl

-- the fold over the flight gives each byte that is seen
pub seen_past-byte : (seen : Seen) (es : List Entry) (x : ℕ) → (seen_past seen es).bytes x ≡ seen_byte seen.bytes es x
seen_past-byte seen [] x = refl
seen_past-byte seen (e ∷ es) x = go (newest_at es x) (seen_past-byte (seen_after seen e) es x)
  where
    go : (n : Option Bytes) → (seen_past (seen_after seen e) es).bytes x ≡ byte_from (seen_after seen e).bytes n x → (seen_past (seen_after seen e) es).bytes x ≡ byte_from seen.bytes (option_or n (passing (λ b. contains b.span x) (bytes_done e.stage))) x
    go None h = h ∙ byte_over seen.bytes (bytes_done e.stage) x
    go (Some b) h = h

-- and each number
pub seen_past-value : (seen : Seen) (es : List Entry) (s : Span) → number_in (seen_past seen es).bytes s ≡ seen_value seen.bytes es s
seen_past-value seen es s = ap (λ (bytes : ℕ → ℕ). number_in bytes s) (fun_ext (seen_past-byte seen es))

-- ---- clear loads

pub read_over : (memory : ℕ → ℕ) (o : Option Bytes) (s : Span) → is_clear_of (passing (λ b. shares b.span s) o) s ≡ true → number_in (overlaid memory o) s ≡ forwarded memory (passing (λ b. shares b.span s) o) s
read_over memory None s h = refl
read_over memory (Some b) s h = go (shares b.span s) refl h
  where
    go : (t : Bool) → shares b.span s ≡ t → is_clear_of (if t then Some b else None) s ≡ true → number_in (byte_after memory b) s ≡ forwarded memory (if t then Some b else None) s
    go true is h = read_covered memory b s h
    go false is h = read_apart memory b s is

-- a clear load sees memory's number, or a part of the newest store that shares a byte with it
pub clear_read : (seen : Seen) (es : List Entry) (s : Span) → is_clear es s ≡ true → number_in (seen_past seen es).bytes s ≡ forwarded seen.bytes (newest_sharing es s) s
clear_read seen [] s h = refl
clear_read seen (e ∷ es) s h = go (newest_sharing es s) (clear_read (seen_after seen e) es s) h
  where
    own : Option Bytes
    own = passing (λ b. shares b.span s) (bytes_done e.stage)

    go : (n : Option Bytes) → (is_clear_of n s ≡ true → number_in (seen_past (seen_after seen e) es).bytes s ≡ forwarded (seen_after seen e).bytes n s) → is_clear_of (option_or n own) s ≡ true → number_in (seen_past (seen_after seen e) es).bytes s ≡ forwarded seen.bytes (option_or n own) s
    go None ih h = ih refl ∙ read_over seen.bytes (bytes_done e.stage) s h
    go (Some b) ih h = ih h

-- ---- the outcome of a load

-- a load that goes on computes with the number that is seen; one that stops asks for none
pub answer_outcome : (environment : Environment) (rights : ℕ → Rights) (bytes : ℕ → ℕ) (pc : ℕ) (e : Effect) (number : ℕ) → (fault_of environment rights e ≡ None → number ≡ number_read bytes e) → outcome_with pc e (answer (fault_of environment rights e) number) ≡ outcome_over environment rights bytes pc e
answer_outcome environment rights bytes pc e number h = go (fault_of environment rights e) h
  where
    go : (fault : Option Fault) → (fault ≡ None → number ≡ number_read bytes e) → outcome_with pc e (answer fault number) ≡ outcome_with pc e (answer fault (number_read bytes e))
    go None k = ap (λ (n : ℕ). outcome_with pc e (answer None n)) (k refl)
    go (Some fault) k = refl

-- the number that an effect gets which may issue is the one that is seen
pub answered_read : (seen : Seen) (es : List Entry) (e : Effect) → may_issue es e ≡ true → number_answered seen.bytes es e ≡ number_read (seen_past seen es).bytes e
answered_read seen es (Goes target) h = refl
answered_read seen es (Writes value target) h = refl
answered_read seen es (Loads kind address) h = sym (clear_read seen es (load_span address (load_bytes kind)) h)
answered_read seen es (Stores width address value) h = refl
answered_read seen es (Stops why) h = refl

-- so it has the outcome that it should have
pub issue_outcome : (environment : Environment) (rights : ℕ → Rights) (seen : Seen) (es : List Entry) (pc : ℕ) (e : Effect) → may_issue es e ≡ true → outcome_with pc e (answer (fault_of environment rights e) (number_answered seen.bytes es e)) ≡ outcome_over environment rights (seen_past seen es).bytes pc e
issue_outcome environment rights seen es pc e h = answer_outcome environment rights (seen_past seen es).bytes pc e (number_answered seen.bytes es e) (λ _. answered_read seen es e h)

-- a load that goes on has read the bytes that are seen
pub record IsLoaded (bytes : ℕ → ℕ) (pc : ℕ) (kind : LoadKind) (address : ℕ) (step : Step) : Type 0 where
  pub span : step.access ≡ Reads (load_span address (load_bytes kind))
  pub value : step.result ≡ loaded kind (number_in bytes (load_span address (load_bytes kind)))
  pub next : step.next ≡ following pc

pub loaded_value : (environment : Environment) (rights : ℕ → Rights) (bytes : ℕ → ℕ) (pc : ℕ) (kind : LoadKind) (address : ℕ) (step : Step) → outcome.Goes step ≡ outcome_over environment rights bytes pc (Loads kind address) → IsLoaded bytes pc kind address step
loaded_value environment rights bytes pc kind address step h = go (fault_of environment rights (Loads kind address)) h
  where
    goal_step : Step
    goal_step = record { result = loaded kind (number_in bytes (load_span address (load_bytes kind))); next = following pc; access = Reads (load_span address (load_bytes kind)) }

    go : (fault : Option Fault) → outcome.Goes step ≡ outcome_with pc (Loads kind address) (answer fault (number_read bytes (Loads kind address))) → IsLoaded bytes pc kind address step
    go None h = let same : step ≡ goal_step = cc in record { span = ap (λ (p : Step). p.access) same; value = ap (λ (p : Step). p.result) same; next = ap (λ (p : Step). p.next) same }
    go (Some fault) h = absurd cc
