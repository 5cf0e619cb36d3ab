-- The marks that a machine leaves.
use Rattle.std.proofs.Common.{◌≡◌, ℕ, zero, suc, ◌+◌, ◌-◌, ◌<◌, ◌≤◌, List, [], ◌∷◌, length, take, get_or, Option, Some, refl, arith, ap, sym, subst, ◌∙◌}
use Rattle.std.proofs.lemmas.Option.{same_Some}
use Rattle.hart_step.specs.State.{State}
use Rattle.join_law.specs.Eight.{place_of}
use Rattle.join_law.specs.declared.places.Eight.{Eight}
use Rattle.origin_set.specs.OriginValue.{OriginValue}
use Rattle.origin_set.specs.Start.{start}
use Rattle.checkpoint.specs.MarkValue.{MarkValue, state_of}
use Rattle.core_view.specs.declared.note.EntryId.{EntryId}
use Rattle.core_view.specs.declared.status.Status.{Status}
use Rattle.core_view.specs.declared.status.Status.TheVariants.{Running, Parked, Stopped}
use Rattle.core_view.specs.View.{Context, StatusHolds}
use Rattle.data_flow.specs.Flow.{Flow}
use Rattle.core_context.specs.Track.{Track}
use Rattle.core_back.specs.Machine.{no_track}
use Rattle.core_context.specs.Cores.{IsCore}
use Rattle.core_back.specs.First.{IsReached, IsMarkAt}

-- ---- a context

within_target : (x : Context) (status : Status) → StatusHolds status x → x.count ≤ x.target
within_target x Running h = omega (arith, h)
within_target x Parked h = let e = h.0 in omega (arith, e)
within_target x (Stopped why) h = let e = h.0 in omega (arith, e)

-- a live context is where a mark may be
pub reached_core : (s u : State) (stamp reorder : ℕ) (f : Flow) (names : List EntryId) (c : ℕ) (t : Track) → u ≡ s → IsCore s stamp reorder f names c t → IsReached u t
reached_core s u stamp reorder f names c t same core = subst (λ (v : State). IsReached v t) (sym same) (record {
  reached = core.live.reached;
  within = within_target t.context t.context.status core.live.status;
  aligned = core.live.aligned;
  zero_register = core.live.zero_register;
})

-- ---- the tracks that are left

-- the first of all tracks
pub record AreLeft (all ts : List Track) (n : ℕ) : Type 0 where
  pub count : length ts ≡ n
  pub each : (c : ℕ) → c < n → get_or ts c no_track ≡ get_or all c no_track

pub left_all : (all : List Track) (n : ℕ) → length all ≡ n → AreLeft all all n
left_all all n e = record { count = e; each = λ c lt. refl }

length-front : (n : ℕ) (ts : List Track) → length ts ≡ n + 1 → length (take n ts) ≡ n
length-front zero ts e = refl
length-front (suc n) [] e = absurd (omega (arith, e))
length-front (suc n) (t ∷ ts) e = ap suc (length-front n ts (omega (arith, e)))

get_or-front : (n c : ℕ) (ts : List Track) → c < n → get_or (take n ts) c no_track ≡ get_or ts c no_track
get_or-front zero c ts lt = absurd (omega arith)
get_or-front (suc n) c [] lt = refl
get_or-front (suc n) zero (t ∷ ts) lt = refl
get_or-front (suc n) (suc c) (t ∷ ts) lt = get_or-front n c ts (omega arith)

-- the last of them goes
pub left_less : (n : ℕ) {all ts us : List Track} → AreLeft all ts (n + 1) → us ≡ take n ts → AreLeft all us n
left_less n {all} {ts} {us} h e = record {
  count = ap length e ∙ length-front n ts h.count;
  each = λ c lt. ap (λ (vs : List Track). get_or vs c no_track) e ∙ get_or-front n c ts lt ∙ h.each c (omega arith);
}

-- the last of them is where it was
pub reached_left : (n : ℕ) {s : State} {all ts : List Track} → AreLeft all ts (n + 1) → IsReached s (get_or all n no_track) → IsReached s (get_or ts n no_track)
reached_left n {s} h r = subst (λ (t : Track). IsReached s t) (sym (h.each n (omega arith))) r

-- the mark of a context
abbrev pub mark_of : OriginValue → ℕ → Context → MarkValue
mark_of o n x = record { origin = o; context = n; count = x.count }

abbrev pub mark_at : OriginValue → ℕ → Track → MarkValue
mark_at o n t = mark_of o n t.context

-- and so is its mark
pub mark_left : (n : ℕ) {o : OriginValue} {m : MarkValue} {all ts : List Track} → AreLeft all ts (n + 1)
    → m ≡ mark_at o n (get_or ts n no_track) → m ≡ mark_at o n (get_or all n no_track)
mark_left n {o} h e = e ∙ ap (λ (t : Track). mark_at o n t) (h.each n (omega arith))

-- ---- eight marks

pub marks_at : (f : ℕ → MarkValue) (m : Eight MarkValue) → m.c0 ≡ f 0 → m.c1 ≡ f 1 → m.c2 ≡ f 2 → m.c3 ≡ f 3 → m.c4 ≡ f 4 → m.c5 ≡ f 5 → m.c6 ≡ f 6 → m.c7 ≡ f 7
    → (c : ℕ) → c < 8 → place_of m c ≡ f c
marks_at f m e0 e1 e2 e3 e4 e5 e6 e7 zero h = e0
marks_at f m e0 e1 e2 e3 e4 e5 e6 e7 (suc zero) h = e1
marks_at f m e0 e1 e2 e3 e4 e5 e6 e7 (suc (suc zero)) h = e2
marks_at f m e0 e1 e2 e3 e4 e5 e6 e7 (suc (suc (suc zero))) h = e3
marks_at f m e0 e1 e2 e3 e4 e5 e6 e7 (suc (suc (suc (suc zero)))) h = e4
marks_at f m e0 e1 e2 e3 e4 e5 e6 e7 (suc (suc (suc (suc (suc zero))))) h = e5
marks_at f m e0 e1 e2 e3 e4 e5 e6 e7 (suc (suc (suc (suc (suc (suc zero)))))) h = e6
marks_at f m e0 e1 e2 e3 e4 e5 e6 e7 (suc (suc (suc (suc (suc (suc (suc zero))))))) h = e7
marks_at f m e0 e1 e2 e3 e4 e5 e6 e7 (suc (suc (suc (suc (suc (suc (suc (suc n)))))))) h = absurd (omega arith)

-- the mark of a live context is where that is
pub mark_is_at : (o p : OriginValue) (stamp reorder : ℕ) (f : Flow) (names : List EntryId) (c : ℕ) (t : Track) (x : Context) (mark : MarkValue) → IsCore (start o c) stamp reorder f names c t
    → p ≡ o → x ≡ t.context → mark ≡ mark_at p c t → IsMarkAt o c x mark
mark_is_at o p stamp reorder f names c t x mark core same is e =
    subst (λ (y : Context). IsMarkAt o c y mark) (sym is) (record { mark_is = here; reached = ap (λ (m : MarkValue). state_of m) here ∙ core.live.reached })
  where
    here : mark ≡ mark_at o c t
    here = e ∙ ap (λ (q : OriginValue). mark_at q c t) same

-- what is taken off the end of a list of n + 1 is its item n
pub last_of : (ts : List Track) (k n : ℕ) (o : Option Track) (t : Track) → o ≡ Some (get_or ts (k - 1) no_track) → o ≡ Some t → k ≡ n + 1 → t ≡ get_or ts n no_track
last_of ts k n o t read is long = same_Some t (get_or ts (k - 1) no_track) (sym is ∙ read) ∙ ap (λ i. get_or ts i no_track) (omega (arith, long))
