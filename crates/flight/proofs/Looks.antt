-- What the words and the hints of a flight show of its entries.
use Rattle.std.proofs.Common.{◌≡◌, ◌≢◌, ℕ, zero, suc, ◌+◌, ◌*◌, ◌/◌, ◌%◌, ◌<◌, ◌≤◌, Bool, true, false, cond, List, [], ◌∷◌, length, take, get_or, Option, Some, None, is_some, refl, sym, ◌∙◌, ap, arith, inl, inr, ◌⊎◌}
use Rattle.std.specs.Prelude.{◌==◌, if◌then◌else◌, IfSome, MatchOption}
use Rattle.std.specs.Int.{bit_at}
use Rattle.std.proofs.lemmas.Bool.{eqb-true}
use Rattle.std.proofs.lemmas.Bool.Decides.{nat_tests}
use Rattle.std.proofs.lemmas.Nat.Bits.{bit_at-lt}
use Rattle.core_view.specs.declared.entry.Entry.{Entry}
use Rattle.core_view.specs.declared.entry.Execution.{Execution}
use Rattle.core_view.specs.declared.entry.Stage.{Stage}
use Rattle.core_view.specs.declared.entry.Stage.TheVariants.{Fetched, Queued, Issued, Done}
use Rattle.core_view.specs.Events.{due_at}
use Rattle.core_view.specs.Operations.{is_store}
use Rattle.core_view.proofs.KindTests.{store-kind}
use Rattle.flight.specs.Marked.{word_of, is_of_kind, is_issued_load}
use Rattle.core_view.specs.Stages.{IsIssued}
use Rattle.flight.specs.Flights.{Flight, entry_in, IsHinted, IsAhead, NoneFrom, IsNext, NoneRenamedFrom, IsNextRenamed, NoneRenamedBelow, IsLastRenamed, is_due}
use Rattle.flight.proofs.Words.{bit-clear, bit-set, bit-within}

-- ---- cases of places

pub lt-or : (a b : ℕ) → (a < b) ⊎ (b ≤ a)
lt-or a b = grind arith

pub eq-or : (a b : ℕ) → (a ≡ b) ⊎ (a ≢ b)
eq-or a b = grind arith

-- ---- what is due

no-one : ◌≡◌ {A = ℕ} 0 1 → ⊥
no-one e = omega (arith, e)

stage-not-due : (words : List ℕ) (slot cycle : ℕ) (s : Stage) → ((x : Execution) → s ≡ Issued x → bit_at (get_or words (x.due % 64) 0) slot ≡ 1) →
    bit_at (get_or words (cycle % 64) 0) slot ≡ 0 → is_some (due_at cycle s) ≡ false
stage-not-due words slot cycle Fetched h clear = refl
stage-not-due words slot cycle Queued h clear = refl
stage-not-due words slot cycle (Done x) h clear = refl
stage-not-due words slot cycle (Issued x) h clear = go (x.due == cycle) refl
  where
    go : (b : Bool) → (x.due == cycle) ≡ b → is_some (if b then Some x else None) ≡ false
    go false e = refl
    go true e = absurd (no-one (sym clear ∙ ap (λ d. bit_at (get_or words (d % 64) 0) slot) (sym (eqb-true x.due cycle e)) ∙ h x refl))

-- an entry whose slot has no bit in the word of a cycle isn't due then
pub not-due : (words : List ℕ) (base cycle i : ℕ) (es : List Entry) → IsHinted words base es → bit_at (get_or words (cycle % 64) 0) ((base + i) % 64) ≡ 0 → is_due cycle (entry_in es i) ≡ false
not-due words base cycle i es h clear = stage-not-due words ((base + i) % 64) cycle (entry_in es i).stage (h i) clear

-- what is due is issued
pub due-issued : (cycle : ℕ) (s : Stage) → is_some (due_at cycle s) ≡ true → IsIssued s
due-issued cycle Fetched d = absurd cc
due-issued cycle Queued d = absurd cc
due-issued cycle (Issued x) d = refl
due-issued cycle (Done x) d = absurd cc

-- ---- along a loop

-- none before a place, not the one there, and none after it
pub skip : (f : ℕ → Bool) (from at to : ℕ) → ((i : ℕ) → from ≤ i → i < at → f i ≡ false) → f at ≡ false → ((i : ℕ) → at + 1 ≤ i → i < to → f i ≡ false) → (i : ℕ) → from ≤ i → i < to → f i ≡ false
skip f from at to before here later i after below = elim (lt-or i at) [ inl lt ↦ before i after lt | inr ge ↦ elim (lt-or at i) [ inl gt ↦ later i (omega arith) below | inr le ↦ (let same : i ≡ at = omega arith in ap f same ∙ here) ] ]

-- none before a place, and all from there on are fetched, which don't pass
pub none-from : (test : Entry → Bool) (es : List Entry) (from place r : ℕ) → ((i : ℕ) → from ≤ i → i < place → test (entry_in es i) ≡ false) → r ≤ place → IsAhead r es →
    ((e : Entry) → e.stage ≡ Fetched → test e ≡ false) → NoneFrom test es from
none-from test es from place r before past ahead fetched i after = elim (lt-or i place) [ inl lt ↦ before i after lt | inr ge ↦ fetched (entry_in es i) (ahead i (omega arith)) ]

-- ---- a word

-- no bit of a word from a place to another
pub word-none : (test : Entry → Bool) (es : List Entry) (w r from place : ℕ) → w ≡ word_of test (take r es) → r ≤ length es → IsAhead r es → ((e : Entry) → e.stage ≡ Fetched → test e ≡ false) →
    ((i : ℕ) → from ≤ i → i < place → bit_at w i ≡ 0) → (i : ℕ) → from ≤ i → i < place → test (entry_in es i) ≡ false
word-none test es w r from place is within ahead fetched clear i after below = elim (lt-or i r) [ inl lt ↦ bit-clear test es w r i is within lt (clear i after below) | inr ge ↦ fetched (entry_in es i) (ahead i ge) ]

pub word-next : (test : Entry → Bool) (es : List Entry) (w r from place : ℕ) → w ≡ word_of test (take r es) → r ≤ length es → IsAhead r es → ((e : Entry) → e.stage ≡ Fetched → test e ≡ false) →
    from ≤ place → place < r → bit_at w place ≡ 1 → ((i : ℕ) → from ≤ i → i < place → bit_at w i ≡ 0) → IsNext test es from place
word-next test es w r from place is within ahead fetched after renamed set clear = record {
  after = after;
  within = omega arith;
  passes = bit-set test es w r place is within renamed set;
  first = word-none test es w r from place is within ahead fetched clear;
}

pub word-past : (test : Entry → Bool) (es : List Entry) (w r from place : ℕ) → w ≡ word_of test (take r es) → r ≤ length es → IsAhead r es → ((e : Entry) → e.stage ≡ Fetched → test e ≡ false) →
    r ≤ place → ((i : ℕ) → from ≤ i → i < place → bit_at w i ≡ 0) → NoneFrom test es from
word-past test es w r from place is within ahead fetched past clear = none-from test es from place r (word-none test es w r from place is within ahead fetched clear) past ahead fetched

-- ---- a word of renamed entries, whatever the others are

module _ (test : Entry → Bool) (f : Flight) (w : ℕ) (is : w ≡ word_of test (take f.renamed f.entries)) (within : f.renamed ≤ length f.entries) where
  here : (i : ℕ) → bit_at w i ≡ 1 → (i < f.renamed) × (test (entry_in f.entries i) ≡ true)
  here i set = let renamed = bit-within test f.entries w f.renamed i is within set in (renamed, bit-set test f.entries w f.renamed i is within renamed set)

  pub next-renamed : (from place : ℕ) → from ≤ place → bit_at w place ≡ 1 → ((i : ℕ) → from ≤ i → i < place → bit_at w i ≡ 0) → IsNextRenamed test f from place
  next-renamed from place after set clear = record {
    after = after;
    renamed = (here place set).0;
    passes = (here place set).1;
    first = λ i from_here below. bit-clear test f.entries w f.renamed i is within (omega (arith, below, (here place set).0)) (clear i from_here below);
  }

  pub past-renamed : (from place : ℕ) → f.renamed ≤ place → ((i : ℕ) → from ≤ i → i < place → bit_at w i ≡ 0) → NoneRenamedFrom test f from
  past-renamed from place past clear i after below = bit-clear test f.entries w f.renamed i is within below (clear i after (omega (arith, past, below)))

  pub last-renamed : (before : ℕ) (o : Option ℕ) → IfSome o (λ p. p < before) → IfSome o (λ p. bit_at w p ≡ 1) → IfSome o (λ p. (i : ℕ) → p < i → i < before → bit_at w i ≡ 0) → (o ≡ None → (i : ℕ) → i < before → bit_at w i ≡ 0) →
      MatchOption o (NoneRenamedBelow test f before) (λ p. IsLastRenamed test f before p)
  last-renamed before None below set clear none = λ i low renamed. bit-clear test f.entries w f.renamed i is within renamed (none refl i low)
  last-renamed before (Some p) below set clear none = record {
    below = below;
    renamed = (here p set).0;
    passes = (here p set).1;
    last = λ i after low renamed. bit-clear test f.entries w f.renamed i is within renamed (clear i after low);
  }

-- ---- stores and loads

-- where no load from a store on has its bit, none behind it has issued
pub unread : (f : Flight) (stores loads place : ℕ) → stores ≡ word_of (is_of_kind 4) (take f.renamed f.entries) → loads ≡ word_of is_issued_load (take f.renamed f.entries) → f.renamed ≤ length f.entries → place < f.renamed →
    (bit_at stores place ≡ 1 → (i : ℕ) → place ≤ i → bit_at loads i ≡ 0) → is_store (entry_in f.entries place).operation ≡ true → NoneRenamedFrom is_issued_load f (place + 1)
unread f stores loads place stores_are loads_are within renamed clear store i after below =
    bit-clear is_issued_load f.entries loads f.renamed i loads_are within below (clear (there (lt-or (bit_at stores place) 1)) i (omega (arith, after)))
  where
    there : (bit_at stores place < 1) ⊎ (1 ≤ bit_at stores place) → bit_at stores place ≡ 1
    there (inl none) = absurd (no (sym store ∙ sym (store-kind (entry_in f.entries place).operation) ∙ bit-clear (is_of_kind 4) f.entries stores f.renamed place stores_are within renamed (omega (arith, none))))
      where
        no : true ≡ false → ⊥
        no e = cc
    there (inr some) = omega (arith, some, bit_at-lt stores place)

-- ---- the first two places

-- the first bit of a word
pub first-renamed : (test : Entry → Bool) (es : List Entry) (w r : ℕ) → w ≡ word_of test (take r es) → r ≤ length es → 0 < r → (w % 2 == 1) ≡ test (entry_in es 0)
first-renamed test es w zero is within some = absurd (omega arith)
first-renamed test [] w (suc r) is within some = absurd (omega arith)
first-renamed test (e ∷ es) w (suc r) is within some = ap (λ n. n % 2 == 1) is ∙ low (test e) (word_of test (take r es))
  where
    low : (b : Bool) (n : ℕ) → ((cond b 1 0 + 2 * n) % 2 == 1) ≡ b
    low true n = grind (arith, nat_tests)
    low false n = grind (arith, nat_tests)

pub first-bit : (test : Entry → Bool) (es : List Entry) (w r : ℕ) → w ≡ word_of test (take r es) → r ≤ length es → IsAhead r es → ((e : Entry) → e.stage ≡ Fetched → test e ≡ false) → (w % 2 == 1) ≡ test (entry_in es 0)
first-bit test es w zero is within ahead fetched = ap (λ n. n % 2 == 1) is ∙ sym (fetched (entry_in es 0) (ahead 0 (omega arith)))
first-bit test es w (suc r) is within ahead fetched = first-renamed test es w (suc r) is within (omega arith)

-- and the second: it is the first of the word of the others
pub second-bit : (test : Entry → Bool) (es : List Entry) (w r : ℕ) → w ≡ word_of test (take r es) → r ≤ length es → IsAhead r es → ((e : Entry) → e.stage ≡ Fetched → test e ≡ false) → (w / 2 % 2 == 1) ≡ test (entry_in es 1)
second-bit test es w zero is within ahead fetched = ap (λ n. n / 2 % 2 == 1) is ∙ sym (fetched (entry_in es 1) (ahead 1 (omega arith)))
second-bit test [] w (suc r) is within ahead fetched = absurd (omega arith)
second-bit test (e ∷ es) w (suc r) is within ahead fetched = ap (λ n. n / 2 % 2 == 1) is ∙ ap (λ n. n % 2 == 1) (others (test e) (word_of test (take r es)))
    ∙ first-bit test es (word_of test (take r es)) r refl (omega (arith, within)) (λ i after. ahead (suc i) (omega (arith, after))) fetched
  where
    others : (b : Bool) (n : ℕ) → (cond b 1 0 + 2 * n) / 2 ≡ n
    others true n = omega arith
    others false n = omega arith
