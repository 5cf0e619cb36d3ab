-- What a flight has ahead of renaming, counted: its renamed entries are its oldest ones.
use Rattle.std.proofs.Common.{◌≡◌, ℕ, ◌+◌, ◌-◌, ◌<◌, ◌≤◌, Bool, true, false, cond, List, [], ◌∷◌, length, take, drop, length-drop, refl, sym, ap, ◌∙◌, arith}
use Rattle.std.specs.Prelude.{◌&&◌, not, nat_lt, count_by}
use Rattle.std.proofs.lemmas.Bool.Decides.{nat_tests}
use Rattle.std.proofs.lemmas.List.{take-append-drop}
use Rattle.std.proofs.lemmas.List.Sums.{sum_by-cons, sum_by-append}
use Rattle.core_view.specs.declared.entry.Stage.{Stage}
use Rattle.core_view.specs.declared.entry.Stage.TheVariants.{Fetched}
use Rattle.core_view.specs.declared.entry.Entry.{Entry}
use Rattle.core_view.specs.Operations.{is_load, is_guessed}
use Rattle.core_view.specs.Flight.{is_open, has_missed, is_missed_load}
use Rattle.core_view.specs.Queues.{is_renamed, AllRenamed}
use Rattle.core_view.specs.View.{Context}
use Rattle.lawful_cycle.specs.Fetch.{is_fetched, is_running, is_eligible}
use Rattle.core_context.specs.Cores.{AllFetched, front_room}

-- ---- counts of a flight

pub count_cons : (p : Entry → Bool) (e : Entry) (es : List Entry) (b : Bool) → p e ≡ b → count_by p (e ∷ es) ≡ cond b 1 0 + count_by p es
count_cons p e es b h = sum_by-cons (λ f. cond (p f) 1 0) e es ∙ ap (λ c. cond c 1 0 + count_by p es) h

pub count_split : (p : Entry → Bool) (n : ℕ) (es : List Entry) → count_by p es ≡ count_by p (take n es) + count_by p (drop n es)
count_split p n es = ap (count_by p) (sym (take-append-drop n es)) ∙ sum_by-append (λ f. cond (p f) 1 0) (take n es) (drop n es)

-- a test that no entry passes
pub renamed_none : (p : Entry → Bool) (es : List Entry) → ((e : Entry) → is_renamed e.stage ≡ true → p e ≡ false) → AllRenamed es → count_by p es ≡ 0
renamed_none p [] none a = refl
renamed_none p (e ∷ es) none a = let one : count_by p (e ∷ es) ≡ 0 + count_by p es = count_cons p e es false (none e a.0) in omega (arith, one, renamed_none p es none a.1)

pub fetched_none : (p : Entry → Bool) (es : List Entry) → ((e : Entry) → e.stage ≡ Fetched → p e ≡ false) → AllFetched es → count_by p es ≡ 0
fetched_none p [] none a = refl
fetched_none p (e ∷ es) none a = let one : count_by p (e ∷ es) ≡ 0 + count_by p es = count_cons p e es false (none e a.0) in omega (arith, one, fetched_none p es none a.1)

-- one test in the place of another
fetched_same : (p q : Entry → Bool) (es : List Entry) → ((e : Entry) → e.stage ≡ Fetched → p e ≡ q e) → AllFetched es → count_by p es ≡ count_by q es
fetched_same p q [] same a = refl
fetched_same p q (e ∷ es) same a = count_cons p e es (q e) (same e a.0) ∙ ap (λ n. cond (q e) 1 0 + n) (fetched_same p q es same a.1) ∙ sym (count_cons q e es (q e) refl)

all_fetched : (es : List Entry) → AllFetched es → count_by is_fetched es ≡ length es
all_fetched [] a = refl
all_fetched (e ∷ es) a = let one : count_by is_fetched (e ∷ es) ≡ 1 + count_by is_fetched es = count_cons is_fetched e es true (ap (λ s. not (is_renamed s)) a.0) in omega (arith, one, all_fetched es a.1)

-- ---- what the renamed ones leave

-- those that aren't renamed are the others
pub fetched_count : (n : ℕ) (es : List Entry) → AllRenamed (take n es) → AllFetched (drop n es) → count_by is_fetched es ≡ length es - n
fetched_count n es renamed fetched =
    let none : count_by is_fetched (take n es) ≡ 0 = renamed_none is_fetched (take n es) (λ e h. ap not h) renamed in
    omega (arith, count_split is_fetched n es, none, all_fetched (drop n es) fetched, length-drop n es)

-- a load that missed is renamed
pub missed_count : (n : ℕ) (es : List Entry) → AllFetched (drop n es) → count_by is_missed_load (take n es) ≡ count_by is_missed_load es
missed_count n es fetched =
    let p : Entry → Bool = is_missed_load in
    let none : count_by p (drop n es) ≡ 0 = fetched_none p (drop n es) (λ e h. unfetched (is_load e.operation) e.stage h) fetched in
    let all : count_by p es ≡ count_by p (take n es) + count_by p (drop n es) = count_split p n es in
    omega (arith, none, all)
  where
    unfetched : (b : Bool) (s : Stage) → s ≡ Fetched → (b && has_missed s) ≡ false
    unfetched true s h = ap has_missed h
    unfetched false s h = refl

-- the guessed ones of the others
pub guessed_count : (n : ℕ) (es : List Entry) → AllRenamed (take n es) → AllFetched (drop n es) → count_by (λ e. is_guessed e.operation) (drop n es) ≡ count_by (λ e. is_fetched e && is_guessed e.operation) es
guessed_count n es renamed fetched =
    let p : Entry → Bool = λ e. is_fetched e && is_guessed e.operation in
    let q : Entry → Bool = λ e. is_guessed e.operation in
    let none : count_by p (take n es) ≡ 0 = renamed_none p (take n es) (λ e h. ap (λ b. not b && is_guessed e.operation) h) renamed in
    let same : count_by q (drop n es) ≡ count_by p (drop n es) = fetched_same q p (drop n es) (λ e h. ap (λ s. not (is_renamed s) && is_guessed e.operation) (sym h)) fetched in
    let all : count_by p es ≡ count_by p (take n es) + count_by p (drop n es) = count_split p n es in
    omega (arith, none, same, all)

-- ---- whether more can be fetched

room_same : (k : ℕ) → nat_lt k front_room ≡ nat_lt 0 (front_room - k)
room_same k = by_test (nat_lt k front_room) refl
  where
    by_test : (b : Bool) → nat_lt k front_room ≡ b → b ≡ nat_lt 0 (front_room - k)
    by_test true h = let lt : k < 16 = grind (arith, nat_tests, h) in let some : 0 < 16 - k = omega (arith, lt) in grind (arith, nat_tests, some)
    by_test false h = let le : 16 ≤ k = grind (arith, nat_tests, h) in let none : 16 - k ≡ 0 = omega (arith, le) in grind (arith, nat_tests, none)

pub eligible_is : (x : Context) (n : ℕ) → AllRenamed (take n x.flight) → AllFetched (drop n x.flight) → (is_running x.status && is_open x.flight && nat_lt (length x.flight - n) front_room) ≡ is_eligible x
eligible_is x n renamed fetched =
    ap (λ b. is_running x.status && is_open x.flight && b) (room_same (length x.flight - n) ∙ ap (λ k. nat_lt 0 (front_room - k)) (sym (fetched_count n x.flight renamed fetched)))
