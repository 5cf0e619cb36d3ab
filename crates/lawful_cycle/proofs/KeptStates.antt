-- What no step of a guess or a delay changes, no list of steps changes.
use Rattle.std.proofs.Common.{◌≡◌, ℕ, List, [], ◌∷◌, refl, ap, ◌∙◌, inl, inr}
use Rattle.std.specs.Prelude.{◌&&◌}
use Rattle.std.proofs.lemmas.Bool.{cases_Bool}
use Rattle.rv64_decode.specs.declared.insn.Insn.{Insn}
use Rattle.rv64_decode.specs.declared.insn.Insn.TheVariants.{Jal, Jalr, Branch}
use Rattle.data_tags.specs.declared.delay.Kind.{Kind}
use Rattle.data_tags.specs.declared.delay.Lag.{Lag}
use Rattle.core_view.specs.declared.entry.Entry.{Entry}
use Rattle.core_view.specs.declared.note.EntryId.{EntryId}
use Rattle.core_view.specs.declared.note.Issue.{Issue}
use Rattle.core_view.specs.declared.operation.Operation.{Operation}
use Rattle.core_view.specs.declared.operation.Operation.TheVariants.{Performs, Stops}
use Rattle.core_view.specs.declared.outcome.Outcome.{Outcome}
use Rattle.core_view.specs.View.{View, entry_at}
use Rattle.lawful_cycle.specs.Views.{context_in}
use Rattle.lawful_cycle.specs.Delays.{is_access, is_stop}
use Rattle.lawful_cycle.specs.Queries.{when_shown_insn, when_shown, next_done, IsTimed}
use Rattle.lawful_cycle.specs.Steps.{GoesBy, OfNamed, IsTimedAt, IsFollowedAt, IsLearnedAt}

-- along a list
pub goes_keep : {X S A : Type 0} (says : S → A) (R : X → S → S → Type 0) → ((x : X) (s t : S) → R x s t → says t ≡ says s) → (xs : List X) (s t : S) → GoesBy R xs s t → says t ≡ says s
goes_keep says R keeps [] s t h = ap says h
goes_keep says R keeps (x ∷ xs) s t (u, one, rest) = goes_keep says R keeps xs u t rest ∙ keeps x s u one

-- the entry of a view that a note names, at its place
abbrev named : View → EntryId → ℕ → Entry
named v n place = entry_at (context_in v n.context) place

-- ---- a guess

module _ {S A : Type 0} (says : S → A) where
  pub shown_keeps : (o : Operation) (f : Insn → S) (s t : S) → ((insn : Insn) → says (f insn) ≡ says s) → t ≡ when_shown o f s → says t ≡ says s
  shown_keeps (Stops why) f s t keeps is = ap says is
  shown_keeps (Performs insn) f s t keeps is = ap says is ∙ by_insn insn (f insn) (keeps insn)
    where
      by_insn : (i : Insn) (u : S) → says u ≡ says s → says (when_shown_insn i u s) ≡ says s
      by_insn (Jal rd offset) u kept = kept
      by_insn (Jalr rd rs1 immediate) u kept = kept
      by_insn (Branch condition rs1 rs2 offset) u kept = kept
      by_insn _ u kept = refl

  -- what is fetched in a block, and in a cycle
  pub block_keeps : (answer : S → ℕ → ℕ → Insn → ℕ) (after_guess : S → ℕ → ℕ → Insn → S) → ((s : S) (c pc : ℕ) (insn : Insn) → says (after_guess s c pc insn) ≡ says s)
      → (c : ℕ) (es : List Entry) (s t : S) → GoesBy (IsFollowedAt answer after_guess c) es s t → says t ≡ says s
  block_keeps answer after_guess keeps c = goes_keep says (IsFollowedAt answer after_guess c) (λ e s t h. shown_keeps e.operation (after_guess s c e.pc) s t (keeps s c e.pc) h.after)

  pub queries_keep : (answer : S → ℕ → ℕ → Insn → ℕ) (after_guess : S → ℕ → ℕ → Insn → S) → ((s : S) (c pc : ℕ) (insn : Insn) → says (after_guess s c pc insn) ≡ says s)
      → (v : View) (ids : List EntryId) (s t : S) → GoesBy (OfNamed (IsFollowedAt answer after_guess) v) ids s t → says t ≡ says s
  queries_keep answer after_guess keeps v = goes_keep says (OfNamed (IsFollowedAt answer after_guess) v)
      (λ n s t h. shown_keeps (named v n h.place).operation (after_guess s n.context (named v n h.place).pc) s t (keeps s n.context (named v n h.place).pc) h.goes.after)

  -- what retires in a cycle
  pub learns_keep : (after_learn : S → ℕ → ℕ → Insn → ℕ → S) → ((s : S) (c pc : ℕ) (insn : Insn) (next : ℕ) → says (after_learn s c pc insn next) ≡ says s)
      → (v : View) (ids : List EntryId) (s t : S) → GoesBy (OfNamed (IsLearnedAt after_learn) v) ids s t → says t ≡ says s
  learns_keep after_learn keeps v = goes_keep says (OfNamed (IsLearnedAt after_learn) v)
      (λ n s t h. let e = named v n h.place in shown_keeps e.operation (λ insn. after_learn s n.context e.pc insn (next_done e.stage)) s t (λ insn. keeps s n.context e.pc insn (next_done e.stage)) h.goes)

-- ---- a delay

module _ {T A : Type 0} (says : T → A) (answer : T → ℕ → Kind → ℕ → Lag) (after_delay : T → ℕ → Kind → ℕ → T) (keeps : (t : T) (c : ℕ) (kind : Kind) (address : ℕ) → says (after_delay t c kind address) ≡ says t) where
  pub timed_keeps : (s t : T) (c : ℕ) (kind : Kind) (address : ℕ) (o : Outcome) (lag : Lag) → IsTimed answer after_delay s t c kind address o lag → says t ≡ says s
  timed_keeps s t c kind address o lag h = elim (cases_Bool (is_access kind && is_stop o)) [
    | inl stops ↦ ap says (h.stopping stops).1
    | inr goes ↦ ap says (h.going goes).1 ∙ keeps s c kind address
  ]

  -- what issues in a cycle
  pub times_keep : (v : View) (issues : List Issue) (s t : T) → GoesBy (IsTimedAt answer after_delay v) issues s t → says t ≡ says s
  times_keep v = goes_keep says (IsTimedAt answer after_delay v) (λ n s t h. timed_keeps s t n.entry.context _ _ _ _ h.timed)
