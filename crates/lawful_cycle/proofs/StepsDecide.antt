-- Where a guess and a delay go by their steps, a view and their states decide what they come to, and what a delay returns.
use Rattle.std.proofs.Common.{◌≡◌, ℕ, zero, suc, ◌<◌, Bool, List, [], ◌∷◌, length, map, get_or, refl, sym, ap, ◌∙◌, subst, arith, inl, inr}
use Rattle.std.specs.Prelude.{◌&&◌}
use Rattle.std.proofs.lemmas.Bool.{cases_Bool}
use Rattle.rv64_decode.specs.declared.insn.Insn.{Insn}
use Rattle.data_tags.specs.declared.delay.Kind.{Kind}
use Rattle.data_tags.specs.declared.delay.Lag.{Lag}
use Rattle.core_view.specs.declared.outcome.Outcome.{Outcome}
use Rattle.core_view.specs.declared.note.EntryId.{EntryId}
use Rattle.core_view.specs.declared.note.Issue.{Issue}
use Rattle.core_view.specs.View.{Context, View, entry_at}
use Rattle.lawful_cycle.specs.Views.{no_context, context_in}
use Rattle.lawful_cycle.specs.Delays.{is_access, is_stop, kind_of}
use Rattle.lawful_cycle.specs.Issue.{operation_at_place, outcome_at, address_at}
use Rattle.lawful_cycle.specs.Stamps.{flight_in, stamp_at, IsStamped}
use Rattle.lawful_cycle.specs.Queries.{when_shown, next_done, IsTimed}
use Rattle.lawful_cycle.specs.Steps.{GoesBy, OfNamed, IsTimedAt, IsLearnedAt}
use Rattle.lawful_cycle.proofs.Stamped.{one_place}
use Rattle.lawful_cycle.proofs.Goes.{goes_one}

-- ---- the entry that a note names

within_contexts : (xs : List Context) (c i : ℕ) → i < length (get_or xs c no_context).flight → c < length xs
within_contexts [] c i lt = absurd (omega (arith, lt))
within_contexts (x ∷ xs) zero i lt = omega arith
within_contexts (x ∷ xs) (suc c) i lt = let less = within_contexts xs c i lt in omega (arith, less)

module _ (v : View) (count : length v.contexts ≡ 8) (stamped : IsStamped v) where
  named_once : (c i j k : ℕ) → i < length (flight_in v c) → j < length (flight_in v c) → stamp_at v c i ≡ k → stamp_at v c j ≡ k → i ≡ j
  named_once c i j k li lj here there =
      let lc = within_contexts v.contexts c i li in
      one_place v stamped c i j (omega (arith, lc, count)) li lj (here ∙ sym there)

  -- ---- what a guess learns

  learned_once : {S : Type 0} (learned : S → ℕ → ℕ → Insn → ℕ → S) (n : EntryId) (s t u : S) → OfNamed (IsLearnedAt learned) v n s t → OfNamed (IsLearnedAt learned) v n s u → t ≡ u
  learned_once learned n s t u a b =
      let at : a.place ≡ b.place = named_once n.context a.place b.place n.stamp a.within b.within a.stamp b.stamp in
      a.goes ∙ ap (λ i. let e = entry_at (context_in v n.context) i in when_shown e.operation (λ insn. learned s n.context e.pc insn (next_done e.stage)) s) at ∙ sym b.goes

  -- what retires decides what the guess comes to
  pub learns_once : {S : Type 0} (learned : S → ℕ → ℕ → Insn → ℕ → S) (ids : List EntryId) (s t u : S) → GoesBy (OfNamed (IsLearnedAt learned) v) ids s t → GoesBy (OfNamed (IsLearnedAt learned) v) ids s u → t ≡ u
  learns_once learned ids s t u a b = goes_one (OfNamed (IsLearnedAt learned) v) (learned_once learned) ids s t u a b

  -- ---- lags

  module _ {T : Type 0} (answer : T → ℕ → Kind → ℕ → Lag) (queried : T → ℕ → Kind → ℕ → T) where
    timed_once : (c : ℕ) (k : Kind) (address : ℕ) (o : Outcome) (s t u : T) (l m : Lag) → IsTimed answer queried s t c k address o l → IsTimed answer queried s u c k address o m → (t ≡ u) × (l ≡ m)
    timed_once c k address o s t u l m a b = elim (cases_Bool (is_access k && is_stop o)) [
      | inl stops ↦ let p = a.stopping stops in let q = b.stopping stops in (p.1 ∙ sym q.1, p.0 ∙ sym q.0)
      | inr goes ↦ let p = a.going goes in let q = b.going goes in (p.1 ∙ sym q.1, p.0 ∙ sym q.0)
    ]

    -- two issues of one entry
    issue_once : (n m : Issue) (s t u : T) → n.entry ≡ m.entry → IsTimedAt answer queried v n s t → IsTimedAt answer queried v m s u → (t ≡ u) × (n ≡ m)
    issue_once n m s t u same a b = parts n.entry m.entry n.latency m.latency n.miss m.miss same a b
      where
        parts : (e f : EntryId) (k l : ℕ) (p q : Bool) → e ≡ f → IsTimedAt answer queried v (record { entry = e; latency = k; miss = p }) s t → IsTimedAt answer queried v (record { entry = f; latency = l; miss = q }) s u
            → (t ≡ u) × (◌≡◌ {A = Issue} (record { entry = e; latency = k; miss = p }) (record { entry = f; latency = l; miss = q }))
        parts e f k l p q is x z =
            let y : IsTimedAt answer queried v (record { entry = e; latency = l; miss = q }) s u = subst (λ g. IsTimedAt answer queried v (record { entry = g; latency = l; miss = q }) s u) (sym is) z in
            let at : y.place ≡ x.place = named_once e.context y.place x.place e.stamp y.within x.within y.stamp x.stamp in
            let here : (let d = context_in v e.context in IsTimed answer queried s u e.context (kind_of (operation_at_place d x.place)) (address_at d x.place) (outcome_at d x.place) (record { cycles = l; miss = q })) =
            subst (λ i. let d = context_in v e.context in IsTimed answer queried s u e.context (kind_of (operation_at_place d i)) (address_at d i) (outcome_at d i) (record { cycles = l; miss = q })) at y.timed in
            let d : Context = context_in v e.context in
            let one = timed_once e.context (kind_of (operation_at_place d x.place)) (address_at d x.place) (outcome_at d x.place) s t u (record { cycles = k; miss = p }) (record { cycles = l; miss = q }) x.timed here in
            (one.0, made e f k l p q is (ap (λ (g : Lag). g.cycles) one.1) (ap (λ (g : Lag). g.miss) one.1))
          where
            made : (e f : EntryId) (k l : ℕ) (p q : Bool) → e ≡ f → k ≡ l → p ≡ q → ◌≡◌ {A = Issue} (record { entry = e; latency = k; miss = p }) (record { entry = f; latency = l; miss = q })
            made e f k l p q a b c = rw (a, b, c) refl

    -- which entries issue, in order, decides their lags and what the delay comes to
    pub issues_once : (a b : List Issue) (s t u : T) → map (λ (n : Issue). n.entry) a ≡ map (λ (n : Issue). n.entry) b → GoesBy (IsTimedAt answer queried v) a s t → GoesBy (IsTimedAt answer queried v) b s u → (t ≡ u) × (a ≡ b)
    issues_once [] [] s t u names x y = (x ∙ sym y, refl)
    issues_once [] (m ∷ b) s t u names x y = absurd (let bad = ap (λ (ns : List EntryId). length ns) names in omega (arith, bad))
    issues_once (n ∷ a) [] s t u names x y = absurd (let bad = ap (λ (ns : List EntryId). length ns) names in omega (arith, bad))
    issues_once (n ∷ a) (m ∷ b) s t u names x y =
        let first : n.entry ≡ m.entry = ap (λ (ns : List EntryId). get_or ns 0 n.entry) names in
        let one = issue_once n m s x.0 y.0 first x.1 y.1 in
        let rest = issues_once a b x.0 t u (ap (λ (ns : List EntryId). tail_of ns) names) x.2 (subst (λ r. GoesBy (IsTimedAt answer queried v) b r u) (sym one.0) y.2) in
        (rest.0, ap (λ k. k ∷ a) one.1 ∙ ap (λ ks. m ∷ ks) rest.1)
      where
        tail_of : List EntryId → List EntryId
        tail_of [] = []
        tail_of (k ∷ ks) = ks
