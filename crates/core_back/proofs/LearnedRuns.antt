-- A guess learns of each entry that retires.
use Rattle.std.proofs.Common.{◌≡◌, ℕ, zero, suc, ◌+◌, ◌<◌, Bool, true, false, List, [], ◌∷◌, ◌++◌, length, refl, sym, ap, ◌∙◌, subst, append-nil, append_assoc, arith}
use Rattle.std.specs.Prelude.{set, get_or, drop, ◌==◌, if◌then◌else◌, Option, Some, None}
use Rattle.rv64_decode.specs.declared.insn.Insn.{Insn}
use Rattle.core_view.specs.declared.outcome.Outcome.{Outcome}
use Rattle.core_view.specs.declared.outcome.Outcome.TheVariants as outcome
use Rattle.core_view.specs.declared.outcome.Step.{Step}
use Rattle.core_view.specs.declared.entry.Stage.{Stage}
use Rattle.core_view.specs.declared.entry.Stage.TheVariants.{Fetched, Queued, Issued, Done}
use Rattle.core_view.specs.declared.entry.Entry.{Entry}
use Rattle.core_view.specs.declared.note.EntryId.{EntryId}
use Rattle.core_view.specs.Events.{retire_event}
use Rattle.core_view.specs.View.{Context, no_entry, entry_at}
use Rattle.core_context.specs.Heads.{first_done, done_outcome, step_on, IsGoing}
use Rattle.lawful_cycle.specs.Queries.{when_shown, next_done}
use Rattle.lawful_cycle.specs.Steps.{GoesBy, IsLearnedAt, OfNamed}
use Rattle.lawful_cycle.proofs.Laws.{goes_on}
use Rattle.core_back.specs.Machine.{Machine, context_at, with_context, no_context}
use Rattle.core_back.specs.Turn.{ended, stopped_by}
use Rattle.core_back.specs.Learned.{IsPartOf, HasLearned}

-- ---- the oldest entry

pub going_some : (es : List Entry) → IsGoing (first_done es) → 0 < length es
going_some [] h = absurd cc
going_some (e ∷ es) h = omega arith

pub going_next : (es : List Entry) → IsGoing (first_done es) → (step_on (first_done es)).next ≡ next_done (get_or es 0 no_entry).stage
going_next [] h = absurd cc
going_next (e ∷ es) h = by_stage e.stage h
  where
    by_stage : (s : Stage) → IsGoing (done_outcome s) → (step_on (done_outcome s)).next ≡ next_done s
    by_stage Fetched h = absurd cc
    by_stage Queued h = absurd cc
    by_stage (Issued x) h = absurd cc
    by_stage (Done x) h = by_done x.outcome h
      where
        by_done : (o : Outcome) → IsGoing (Some o) → (step_on (Some o)).next ≡ next_done (Done (record x { outcome = o }))
        by_done (outcome.Goes step) h = refl
        by_done (outcome.Stops why) h = absurd cc

-- ---- what is left

pub part_same : (x y : Context) → x ≡ y → IsPartOf x y
part_same x y is i lt = (i, subst (λ (z : Context). i < length z.flight) is lt, ap (λ z. entry_at z i) is)

part_drop : (b : Bool) (es : List Entry) (i : ℕ) → i < length (if b then [] else drop 1 es) → (j : ℕ) × (j < length es) × (get_or (if b then [] else drop 1 es) i no_entry ≡ get_or es j no_entry)
part_drop true es i lt = absurd (omega (arith, lt))
part_drop false [] i lt = absurd (omega (arith, lt))
part_drop false (e ∷ es) i lt = (suc i, omega (arith, lt), refl)

pub part_retired : (x : Context) (step : Step) → IsPartOf (retire_event x step) x
part_retired x step i lt = part_drop (x.count + 1 == x.target) x.flight i lt

pub part_ended : (x : Context) → IsPartOf (ended x) x
part_ended x i lt = by_outcome (first_done x.flight) i lt
  where
    by_outcome : (o : Option Outcome) (i : ℕ) → i < length (stopped_by o x).flight → (j : ℕ) × (j < length x.flight) × (entry_at (stopped_by o x) i ≡ entry_at x j)
    by_outcome None i lt = (i, lt, refl)
    by_outcome (Some (outcome.Goes step)) i lt = (i, lt, refl)
    by_outcome (Some (outcome.Stops why)) i lt = absurd (omega (arith, lt))

part_set : (xs : List Context) (c d : ℕ) (x : Context) → IsPartOf x (get_or xs c no_context) → IsPartOf (get_or (set xs c x) d no_context) (get_or xs d no_context)
part_set [] zero d x part = part_same no_context no_context refl
part_set [] (suc c) d x part = part_same no_context no_context refl
part_set (y ∷ ys) zero zero x part = part
part_set (y ∷ ys) zero (suc d) x part = part_same (get_or ys d no_context) (get_or ys d no_context) refl
part_set (y ∷ ys) (suc c) zero x part = part_same y y refl
part_set (y ∷ ys) (suc c) (suc d) x part = part_set ys c d x part

pub part_with : (m n : Machine) (c : ℕ) (x : Context) → n ≡ with_context m c x → IsPartOf x (context_at m c) → (d : ℕ) → IsPartOf (context_at n d) (context_at m d)
part_with m n c x is part d = subst (λ (k : Machine). IsPartOf (context_at k d) (context_at m d)) (sym is) (part_set m.view.contexts c d x part)

-- ---- one step after another

named_before : {S : Type 0} (learned : S → ℕ → ℕ → Insn → ℕ → S) (m n : Machine) → ((c : ℕ) → IsPartOf (context_at n c) (context_at m c)) → (i : EntryId) (s t : S) → OfNamed (IsLearnedAt learned) n.view i s t → OfNamed (IsLearnedAt learned) m.view i s t
named_before learned m n left i s t h =
    let p = left i.context h.place h.within in
    record {
      place = p.0;
      within = p.1;
      stamp = ap (λ (e : Entry). e.stamp) (sym p.2) ∙ h.stamp;
      goes = subst (λ e. IsLearnedAt learned i.context e s t) p.2 h.goes;
    }

goes_before : {S : Type 0} (learned : S → ℕ → ℕ → Insn → ℕ → S) (m n : Machine) → ((c : ℕ) → IsPartOf (context_at n c) (context_at m c)) → (ids : List EntryId) (s t : S) → GoesBy (OfNamed (IsLearnedAt learned) n.view) ids s t → GoesBy (OfNamed (IsLearnedAt learned) m.view) ids s t
goes_before learned m n left [] s t h = h
goes_before learned m n left (i ∷ ids) s t h = (h.0, named_before learned m n left i s h.0 h.1, goes_before learned m n left ids h.0 t h.2)

pub learned_none : {S : Type 0} (learned : S → ℕ → ℕ → Insn → ℕ → S) (m n : Machine) (ids : List EntryId) (s : S) → ((c : ℕ) → IsPartOf (context_at n c) (context_at m c)) → HasLearned learned m n ids ids s s
learned_none learned m n ids s left = record { more = []; listed = sym (append-nil ids); learns = refl; left = left }

pub learned_on : {S : Type 0} (learned : S → ℕ → ℕ → Insn → ℕ → S) (m n k : Machine) (old mid new : List EntryId) (s u t : S) → HasLearned learned m n old mid s u → HasLearned learned n k mid new u t → HasLearned learned m k old new s t
learned_on learned m n k old mid new s u t a b = record {
  more = a.more ++ b.more;
  listed = b.listed ∙ ap (λ ids. ids ++ b.more) a.listed ∙ append_assoc old a.more b.more;
  learns = goes_on (OfNamed (IsLearnedAt learned) m.view) a.more b.more s u t a.learns (goes_before learned m n a.left b.more u t b.learns);
  left = λ c i lt. let p = b.left c i lt in let q = a.left c p.0 p.1 in (q.0, q.1, p.2 ∙ q.2);
}

-- the oldest entry of a context retires
pub learned_one : {S : Type 0} (learned : S → ℕ → ℕ → Insn → ℕ → S) (m n : Machine) (c stamp : ℕ) (ids new : List EntryId) (s t : S)
    → (let x = context_at m c in IsGoing (first_done x.flight) → n ≡ with_context m c (retire_event x (step_on (first_done x.flight))) → stamp ≡ (entry_at x 0).stamp
    → t ≡ when_shown (entry_at x 0).operation (λ insn. learned s c (entry_at x 0).pc insn (step_on (first_done x.flight)).next) s
    → new ≡ ids ++ record { context = c; stamp = stamp } ∷ [] → HasLearned learned m n ids new s t)
learned_one learned m n c stamp ids new s t going is at state pushed =
    let x = context_at m c in
    record {
      more = record { context = c; stamp = stamp } ∷ [];
      listed = pushed;
      learns = (
        t,
        record {
          place = 0;
          within = going_some x.flight going;
          stamp = sym at;
          goes = subst (λ q. t ≡ when_shown (entry_at x 0).operation (λ insn. learned s c (entry_at x 0).pc insn q) s) (going_next x.flight going) state;
        },
        refl,
      );
      left = part_with m n c (retire_event x (step_on (first_done x.flight))) is (part_retired x (step_on (first_done x.flight)));
    }
