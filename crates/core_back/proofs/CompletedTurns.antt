-- Turn by turn, the entries of all contexts that are due complete.
use Rattle.std.proofs.Common.{◌≡◌, ◌≢◌, ℕ, zero, suc, ◌+◌, ◌-◌, ◌*◌, ◌<◌, ◌≤◌, Bool, true, false, cond, List, [], ◌∷◌, length, get_or, map, refl, sym, ap, subst, ◌∙◌, arith, inl, inr}
use Rattle.std.specs.Prelude.{set, take, sum_by, is_some, ◌==◌, not, ◌&&◌, if◌then◌else◌}
use Rattle.std.proofs.lemmas.Bool.{cases_eq, eq-eqb, eqb-true, ne_eqb}
use Rattle.std.proofs.lemmas.List.{ext_get_or, get_or-set_other, get_or-set_same, length-map, length-set, length-take}
use Rattle.std.proofs.lemmas.List.Sums.{count_by-le-length, sum_by-cons}
use Rattle.std.proofs.lemmas.Nat.Bits.{bit_at-zero}
use Rattle.word_mask.specs.Mask.{has}
use Rattle.core_view.specs.Events.{with_flight, due_at, completed_at}
use Rattle.core_view.specs.View.{Context}
use Rattle.flight.specs.Flights.{is_due, NoneFrom}
use Rattle.core_back.specs.declared.completing.Completed.{Completed}
use Rattle.core_back.specs.Machine.{Machine, no_context, context_at, in_flight, with_context, with_contexts, completed_context}
use Rattle.core_back.specs.Coming.{number_of}
use Rattle.core_back.specs.Completing.{IsTurn}
use Rattle.core_back.proofs.CompletedCount.{sum_to, map_at}
use Rattle.core_back.proofs.DuePlaces.{none_due, none_comes}
use Rattle.core_back.proofs.InFlight.{in_flight-with_context}

-- a bit that a word has goes where told so, and is left else
pub word_told : (left next c : ℕ) (last : Bool) → has left c ≡ true → ((p : ℕ) → has next p ≡ (if (p == c) && last then false else has left p)) → (p : ℕ) → has next p ≡ (if p == c then not last else has left p)
word_told left next c last here word p = word p ∙ by_place (p == c) refl last
  where
    by_place : (t : Bool) → (p == c) ≡ t → (last : Bool) → (if t && last then false else has left p) ≡ (if t then not last else has left p)
    by_place false is last = refl
    by_place true is true = refl
    by_place true is false = ap (has left) (eqb-true p c is) ∙ here

pub not_last : (last : Bool) → not last ≡ true → last ≡ false
not_last true h = sym h
not_last false h = refl

pub is_last : (last : Bool) → not last ≡ false → last ≡ true
is_last true h = refl
is_last false h = sym h

-- ---- sums

sum_same : (f g : ℕ → ℕ) (k : ℕ) → ((d : ℕ) → d < k → f d ≡ g d) → sum_to f k ≡ sum_to g k
unfolding sum_to
sum_same f g zero h = refl
sum_same f g (suc k) h = let first = sum_same f g k (λ d lt. h d (omega (arith, lt))) in let last = h k (omega arith) in omega (arith, first, last)

-- a sum of which one term is another
sum_changed : (f g : ℕ → ℕ) (k c : ℕ) → c < k → ((d : ℕ) → d ≢ c → f d ≡ g d) → sum_to f k + g c ≡ sum_to g k + f c
unfolding sum_to
sum_changed f g zero c lt others = absurd (omega arith)
sum_changed f g (suc k) c lt others = elim (cases_eq k c) [
  | inl here ↦ let same = sum_same f g k (λ d below. others d (λ at. absurd (omega (arith, below, here, at)))) in let at = ap f here in let now = ap g here in omega (arith, same, at, now)
  | inr other ↦ let rest = sum_changed f g k c (omega (arith, lt, other)) others in let same = others k other in omega (arith, rest, same)
]

sum_none : (f : ℕ → ℕ) (k : ℕ) → ((c : ℕ) → c < k → f c ≡ 0) → sum_to f k ≡ 0
unfolding sum_to
sum_none f zero h = refl
sum_none f (suc k) h = let rest = sum_none f k (λ c lt. h c (omega (arith, lt))) in let last = h k (omega arith) in omega (arith, rest, last)

sum_most : (f : ℕ → ℕ) (k n : ℕ) → ((c : ℕ) → c < k → f c ≤ n) → sum_to f k ≤ k * n
unfolding sum_to
sum_most f zero n h = omega arith
sum_most f (suc k) n h = let rest = sum_most f k n (λ c lt. h c (omega (arith, lt))) in let last = h k (omega arith) in omega (arith, rest, last)

flights_most : (xs : List Context) (n : ℕ) → ((c : ℕ) → c < length xs → length (get_or xs c no_context).flight ≤ n) → sum_by (λ (x : Context). length x.flight) xs ≤ length xs * n
flights_most [] n h = omega arith
flights_most (x ∷ xs) n h =
    let first = h 0 (omega arith) in
    let rest = flights_most xs n (λ c lt. h (suc c) (omega (arith, lt))) in
    omega (arith, sum_by-cons (λ (y : Context). length y.flight) x xs, first, rest)

pub in_flight_most : (m : Machine) → length m.view.contexts ≡ 8 → ((c : ℕ) → c < 8 → length (context_at m c).flight ≤ 80) → in_flight m ≤ 640
unfolding in_flight
in_flight_most m count few = let most = flights_most m.view.contexts 80 (λ c lt. few c (omega (arith, lt, count))) in omega (arith, most, count)

number_most : (cycle : ℕ) (x : Context) → number_of cycle x ≤ length x.flight
number_most cycle x = omega (arith, count_by-le-length (λ e. is_some (due_at cycle e.stage)) (take (length (completed_at cycle x.flight)) x.flight), length-take (length (completed_at cycle x.flight)) x.flight)

-- how many entries are to complete, of all contexts
abbrev pub total : ℕ → Machine → ℕ
total cycle m = sum_to (λ c. number_of cycle (context_at m c)) 8

pub total_most : (cycle : ℕ) (m : Machine) → ((c : ℕ) → c < 8 → length (context_at m c).flight ≤ 80) → total cycle m ≤ 640
total_most cycle m few = sum_most (λ c. number_of cycle (context_at m c)) 8 80 (λ c lt. omega (arith, few c lt, number_most cycle (context_at m c)))

-- how many turns there are at most: one for each entry that is to complete, and one for each context that is left
abbrev pub to_do : ℕ → Machine → ℕ → ℕ
to_do cycle m left = sum_to (λ c. cond (has left c) 1 0 + number_of cycle (context_at m c)) 8

-- ---- turns

-- a word that is 0 has no bit
pub has_none : (p : ℕ) → has 0 p ≡ false
unfolding has
has_none p = ap (λ n. n == 1) (bit_at-zero p)

-- in a word are contexts that may have an entry which is due; so many have completed, and squashed so many
pub record IsTurned (first m : Machine) (left completed cut : ℕ) : Type 0 where
  pub alike : m ≡ with_contexts first m.view.contexts
  pub count : length m.view.contexts ≡ 8
  pub known : (c : ℕ) → has left c ≡ true → c < 8
  pub flights : (c : ℕ) → context_at m c ≡ with_flight (context_at first c) (context_at m c).flight
  pub goes_on : (c : ℕ) → completed_at first.view.cycle (context_at m c).flight ≡ completed_at first.view.cycle (context_at first c).flight
  pub done : (c : ℕ) → c < 8 → has left c ≡ false → NoneFrom (is_due first.view.cycle) (context_at m c).flight 0
  pub number : completed + total first.view.cycle m ≡ total first.view.cycle first
  pub fewer : cut + in_flight m ≡ in_flight first

pub turned_first : (m : Machine) (left : ℕ) → length m.view.contexts ≡ 8 → ((c : ℕ) → has left c ≡ true → c < 8) → ((c : ℕ) → c < 8 → has left c ≡ false → NoneFrom (is_due m.view.cycle) (context_at m c).flight 0) → IsTurned m m left 0 0
turned_first m left count known none = record {
  alike = refl;
  count = count;
  known = known;
  flights = λ c. refl;
  goes_on = λ c. refl;
  done = none;
  number = omega arith;
  fewer = omega arith;
}

-- only the context of a turn is another
elsewhere : (m n : Machine) (c d : ℕ) (x : Context) → n ≡ with_context m c x → d ≢ c → context_at n d ≡ context_at m d
elsewhere m n c d x event other = ap (λ (k : Machine). context_at k d) event ∙ get_or-set_other m.view.contexts c d x no_context other

module _ (first m n : Machine) (left next c completed cut one more : ℕ) (b : Bool) where
  abbrev pub IsNextWord : Type 0
  IsNextWord = (p : ℕ) → has next p ≡ (if p == c then b else has left p)

  word_here : IsNextWord → has next c ≡ b
  word_here word = word c ∙ ap (λ t. if t then b else has left c) (eq-eqb c c refl)

  word_other : IsNextWord → (d : ℕ) → d ≢ c → has next d ≡ has left d
  word_other word d other = word d ∙ ap (λ t. if t then b else has left d) (ne_eqb d c other)

  pub turned_next : IsTurned first m left completed cut → IsTurn m n c one more → has left c ≡ true → IsNextWord → (b ≡ false → NoneFrom (is_due m.view.cycle) (context_at n c).flight 0) → IsTurned first n next (completed + one) (cut + more)
  turned_next h turn here word none = record {
    alike = turn.others ∙ ap (λ (k : Machine). with_context k c (with_flight (context_at m c) (context_at n c).flight)) h.alike ∙ ap (with_contexts first) (sym contexts);
    count = ap (λ (xs : List Context). length xs) contexts ∙ length-set m.view.contexts c (with_flight (context_at m c) (context_at n c).flight) ∙ h.count;
    known = λ d is. elim (cases_eq d c) [ inl same ↦ subst (λ k. k < 8) (sym same) (h.known c here) | inr other ↦ h.known d (sym (word_other word d other) ∙ is) ];
    flights = λ d. elim (cases_eq d c) [
      | inl same ↦ subst (λ k. context_at n k ≡ with_flight (context_at first k) (context_at n k).flight) (sym same) (now ∙ ap (λ (x : Context). with_flight x (context_at n c).flight) (h.flights c))
      | inr other ↦ subst (λ (x : Context). x ≡ with_flight (context_at first d) x.flight) (sym (rest d other)) (h.flights d)
    ];
    goes_on = λ d. elim (cases_eq d c) [
      | inl same ↦ subst (λ k. completed_at first.view.cycle (context_at n k).flight ≡ completed_at first.view.cycle (context_at first k).flight) (sym same)
          (subst (λ k. completed_at k (context_at n c).flight ≡ completed_at k (context_at m c).flight) cycle turn.goes_on ∙ h.goes_on c)
      | inr other ↦ ap (λ (x : Context). completed_at first.view.cycle x.flight) (rest d other) ∙ h.goes_on d
    ];
    done = λ d lt is. elim (cases_eq d c) [
      | inl same ↦ subst (λ k. NoneFrom (is_due first.view.cycle) (context_at n k).flight 0) (sym same)
          (subst (λ k. NoneFrom (is_due k) (context_at n c).flight 0) cycle (none (sym (word_here word) ∙ ap (has next) (sym same) ∙ is)))
      | inr other ↦ subst (λ (x : Context). NoneFrom (is_due first.view.cycle) x.flight 0) (sym (rest d other)) (h.done d lt (sym (word_other word d other) ∙ is))
    ];
    number = let counted = subst (λ k. one + number_of k (context_at n c) ≡ number_of k (context_at m c)) cycle turn.counted in let sums = totals in omega (arith, h.number, counted, sums);
    fewer = let lost = in_flight-with_context m n c (with_flight (context_at m c) (context_at n c).flight) more turn.others (omega (arith, h.known c here, h.count)) turn.fewer in omega (arith, h.fewer, lost);
  }
    where
      cycle : m.view.cycle ≡ first.view.cycle
      cycle = ap (λ (k : Machine). k.view.cycle) h.alike

      contexts : n.view.contexts ≡ set m.view.contexts c (with_flight (context_at m c) (context_at n c).flight)
      contexts = ap (λ (k : Machine). k.view.contexts) turn.others

      now : context_at n c ≡ with_flight (context_at m c) (context_at n c).flight
      now = ap (λ (xs : List Context). get_or xs c no_context) contexts ∙ get_or-set_same m.view.contexts c (with_flight (context_at m c) (context_at n c).flight) no_context (omega (arith, h.known c here, h.count))

      rest : (d : ℕ) → d ≢ c → context_at n d ≡ context_at m d
      rest d other = elsewhere m n c d (with_flight (context_at m c) (context_at n c).flight) turn.others other

      totals : total first.view.cycle n + number_of first.view.cycle (context_at m c) ≡ total first.view.cycle m + number_of first.view.cycle (context_at n c)
      totals = sum_changed (λ d. number_of first.view.cycle (context_at n d)) (λ d. number_of first.view.cycle (context_at m d)) 8 c (h.known c here) (λ d other. ap (number_of first.view.cycle) (rest d other))

  -- how much is left to do grows less
  pub less_left : IsTurned first m left completed cut → IsTurn m n c one more → has left c ≡ true → IsNextWord → (b ≡ true → 0 < one) → to_do first.view.cycle n next < to_do first.view.cycle m left
  less_left h turn here word some =
      let counted = subst (λ k. one + number_of k (context_at n c) ≡ number_of k (context_at m c)) cycle turn.counted in
      let sums = sum_changed (λ d. cond (has next d) 1 0 + number_of first.view.cycle (context_at n d)) (λ d. cond (has left d) 1 0 + number_of first.view.cycle (context_at m d)) 8 c (h.known c here)
      (λ d other. ap (λ t. cond t 1 0 + number_of first.view.cycle (context_at n d)) (word_other word d other) ∙ ap (λ x. cond (has left d) 1 0 + number_of first.view.cycle x) (elsewhere m n c d (with_flight (context_at m c) (context_at n c).flight) turn.others other)) in
      let before : cond {A = ℕ} (has left c) 1 0 ≡ 1 = ap (λ t. cond t 1 0) here in
      let after : cond {A = ℕ} (has next c) 1 0 ≡ cond b 1 0 = ap (λ t. cond t 1 0) (word_here word) in
      by_more b some counted sums before after
    where
      cycle : m.view.cycle ≡ first.view.cycle
      cycle = ap (λ (k : Machine). k.view.cycle) h.alike

      by_more : (t : Bool) → (t ≡ true → 0 < one) → one + number_of first.view.cycle (context_at n c) ≡ number_of first.view.cycle (context_at m c)
          → to_do first.view.cycle n next + (cond (has left c) 1 0 + number_of first.view.cycle (context_at m c)) ≡ to_do first.view.cycle m left + (cond (has next c) 1 0 + number_of first.view.cycle (context_at n c))
          → cond {A = ℕ} (has left c) 1 0 ≡ 1 → cond {A = ℕ} (has next c) 1 0 ≡ cond t 1 0 → to_do first.view.cycle n next < to_do first.view.cycle m left
      by_more true more counted sums before after = let one_more = more refl in omega (arith, one_more, counted, sums, before, after)
      by_more false more counted sums before after = omega (arith, counted, sums, before, after)

-- of a turn, what was squashed up to its end less what was squashed before it
pub counted_turn : (m n : Machine) (c cut : ℕ) (turn result : Completed) → result ≡ record turn { cut = cut + turn.cut } → IsTurn m n c turn.completed turn.cut → IsTurn m n c result.completed (result.cut - cut)
counted_turn m n c cut turn result is h =
    let rest : turn.cut ≡ cut + turn.cut - cut = omega arith in
    subst (λ (r : Completed). IsTurn m n c r.completed (r.cut - cut)) (sym is) (subst (IsTurn m n c turn.completed) rest h)

-- nothing is due after a turn that completes none, or where the words say so
pub none_left : (m n : Machine) (c one more : ℕ) → IsTurn m n c one more → (0 < one → NoneFrom (is_due n.view.cycle) (context_at n c).flight 0) → NoneFrom (is_due m.view.cycle) (context_at n c).flight 0
none_left m n c one more turn said = elim (cases_eq one 0) [
  | inl none ↦ turn.last none
  | inr some ↦ subst (λ k. NoneFrom (is_due k) (context_at n c).flight 0) (ap (λ (k : Machine). k.view.cycle) turn.others) (said (omega (arith, some)))
]

-- ---- the end

-- all have completed where no context is left
pub turned_all : (first m : Machine) (left completed cut : ℕ) → length first.view.contexts ≡ 8 → IsTurned first m left completed cut → ((c : ℕ) → has left c ≡ false) → m ≡ with_contexts first (map (completed_context first.view.cycle) first.view.contexts)
turned_all first m left completed cut count h none =
    h.alike ∙ ap (with_contexts first) (ext_get_or no_context m.view.contexts (map (completed_context first.view.cycle) first.view.contexts)
    (h.count ∙ sym (length-map first.view.contexts (completed_context first.view.cycle) ∙ count)) (λ c lt. same c (omega (arith, lt, h.count))))
  where
    same : (c : ℕ) → c < 8 → context_at m c ≡ get_or (map (completed_context first.view.cycle) first.view.contexts) c no_context
    same c lt =
        h.flights c ∙ ap (λ es. with_flight (context_at first c) es) (sym (none_due first.view.cycle (context_at m c).flight (h.done c lt (none c))) ∙ h.goes_on c)
        ∙ sym (map_at (completed_context first.view.cycle) first.view.contexts c (omega (arith, lt, count)))

pub turned_number : (first m : Machine) (left completed cut : ℕ) → IsTurned first m left completed cut → ((c : ℕ) → has left c ≡ false) → completed ≡ total first.view.cycle first
turned_number first m left completed cut h none =
    let zero_left = sum_none (λ c. number_of first.view.cycle (context_at m c)) 8 (λ c lt. none_comes first.view.cycle (context_at m c) (h.done c lt (none c))) in
    omega (arith, h.number, zero_left)
