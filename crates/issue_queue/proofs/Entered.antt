-- What stands at a place after an entry enters at one.
use Rattle.std.proofs.Common.{◌≡◌, ℕ, ◌<◌, inl, inr, Bool, true, false, cond, ◌&&◌, eqb, set, refl, ◌∙◌, arith}
use Rattle.std.proofs.lemmas.Bool.{eq-eqb}
use Rattle.std.proofs.lemmas.Bool.Decides.{eqb_tells}
use Rattle.std.proofs.lemmas.List.{get_or-set_same, get_or-set_other}
use Rattle.word_mask.specs.Mask.{has}
use Rattle.issue_queue.specs.declared.entry.Queued.{Queued}
use Rattle.issue_queue.specs.declared.entries.Entries.{Entries}
use Rattle.issue_queue.specs.Entries.{AreWide, entry_at}
use Rattle.issue_queue.proofs.Masks.{cond_true}

-- what is left where an entry enters at a place, with the words of those that are guessed and of loads
abbrev pub with_entry : Entries → ℕ → Queued → ℕ → ℕ → Entries
with_entry s i q guesses loads = record {
  stamps = set s.stamps i q.stamp;
  contexts = set s.contexts i q.context;
  firsts = set s.firsts i q.first;
  seconds = set s.seconds i q.second;
  guesses = guesses;
  loads = loads;
  speculative = set s.speculative i q.speculative;
}

-- a bit is set where told so
set_here : (old new i : ℕ) (flag : Bool) → has old i ≡ false → ((p : ℕ) → has new p ≡ cond (eqb p i && flag) true (has old p)) → has new i ≡ flag
set_here old new i flag free bits = bits i ∙ rw (eq-eqb i i refl, free) (cond_true flag)

set_elsewhere : (old new i p : ℕ) (flag : Bool) → eqb p i ≡ false → ((k : ℕ) → has new k ≡ cond (eqb k i && flag) true (has old k)) → has new p ≡ has old p
set_elsewhere old new i p flag other bits = bits p ∙ rw other refl

pub entry_written : (s : Entries) (i : ℕ) (q : Queued) (guesses loads : ℕ) → AreWide s → i < 64 → has s.guesses i ≡ false → has s.loads i ≡ false
    → ((p : ℕ) → has guesses p ≡ cond (eqb p i && q.guessed) true (has s.guesses p)) → ((p : ℕ) → has loads p ≡ cond (eqb p i && q.load) true (has s.loads p))
    → (p : ℕ) → entry_at (with_entry s i q guesses loads) p ≡ cond (eqb p i) q (entry_at s p)
entry_written s i q guesses loads wide lt unguessed no_load guess_bits load_bits p = elim (eqb_tells p i) [
  | inl here ↦
      rw (
        here.0,
        here.1,
        get_or-set_same s.stamps i q.stamp 0 (omega (arith, wide.stamps)),
        get_or-set_same s.contexts i q.context 0 (omega (arith, wide.contexts)),
        get_or-set_same s.firsts i q.first 0 (omega (arith, wide.firsts)),
        get_or-set_same s.seconds i q.second 0 (omega (arith, wide.seconds)),
        set_here s.guesses guesses i q.guessed unguessed guess_bits,
        set_here s.loads loads i q.load no_load load_bits,
        get_or-set_same s.speculative i q.speculative false (omega (arith, wide.speculative)),
      ) refl
  | inr other ↦
      rw (
        other.0,
        get_or-set_other s.stamps i p q.stamp 0 other.1,
        get_or-set_other s.contexts i p q.context 0 other.1,
        get_or-set_other s.firsts i p q.first 0 other.1,
        get_or-set_other s.seconds i p q.second 0 other.1,
        set_elsewhere s.guesses guesses i p q.guessed other.0 guess_bits,
        set_elsewhere s.loads loads i p q.load other.0 load_bits,
        get_or-set_other s.speculative i p q.speculative false other.1,
      ) refl
]
