-- Whose marks a book takes.
use Rattle.std.proofs.Common.{◌≡◌, ◌≢◌, ◌↔◌, ◌⊎◌, ℕ, ◌<◌, Result, Ok, Err, IsErrAnd, sym, ap, ◌∙◌, refl, inl, inr}
use Rattle.checkpoint.specs.Aligned.{IsAligned}
use Rattle.checkpoint.specs.Further.{MarkKin}
use Rattle.checkpoint.specs.MarkValue.{MarkValue}
use Rattle.join_law.proofs.Laws.{each_place}
use Rattle.join_law.specs.declared.places.Eight.{Eight}
use Rattle.join_law.specs.Eight.{place_of}
use Rattle.checkpoint_book.specs.declared.book.Book.{Book}
use Rattle.checkpoint_book.specs.declared.fault.BookFault.{BookFault}
use Rattle.checkpoint_book.specs.declared.fault.BookFault.TheVariants.{ForeignOrigin, OutOfMemory}
use Rattle.checkpoint_book.specs.declared.lock.Lock.{Lock}
use Rattle.checkpoint_book.specs.Foreign.{RefusesForeign}
use Rattle.checkpoint_book.specs.LockSeats.{opening_of}
use Rattle.checkpoint_book.specs.Locks.{AreAligned}
use Rattle.checkpoint_book.specs.Passes.{opening_at, origin_of}

-- a merge is refused for its origin
abbrev IsForeign : Result (Unit {0}) (MarkValue × BookFault) → Type 0
IsForeign r = IsErrAnd r (λ e. e.1 ≡ ForeignOrigin)

-- which marks a book's merge refuses for their origin
pub record RefusedBy (b : Book) (mark : MarkValue) (r : Result (Unit {0}) (MarkValue × BookFault)) : Type 0 where
  pub exactly : IsForeign r ↔ (mark.origin ≢ origin_of b)
  pub else : IsForeign r ⊎ (mark.origin ≡ origin_of b)

-- a mark of the book's origin is kin to the opening mark of its context
kin_at : (b : Book) (mark : MarkValue) (i : ℕ) → i ≡ mark.context → i < 8 → mark.origin ≡ origin_of b → MarkKin (opening_at i b) mark
kin_at b mark i here inside same = let own = b.aligned i inside in record { origin = own.of_origin ∙ sym same; context = own.of_context ∙ here }

-- and a mark that is kin to it is of the book's origin
origin_at : (b : Book) (mark : MarkValue) (i : ℕ) → i < 8 → MarkKin (opening_at i b) mark → mark.origin ≡ origin_of b
origin_at b mark i inside kin = sym kin.origin ∙ (b.aligned i inside).of_origin

-- where it isn't refused for its origin, it is of the book's
taken : (b : Book) (mark : MarkValue) (r : Result (Unit {0}) (MarkValue × BookFault)) → (IsForeign r → ⊥) → mark.origin ≡ origin_of b → RefusedBy b mark r
taken b mark r not same = record { exactly = ((λ f. absurd (not f)), λ apart. absurd (apart same)); else = inr same }

-- a merge into a lock is refused for its origin exactly where that is another than the book's
pub refuses_foreign : (b : Book) (mark : MarkValue) (i : ℕ) (r : Result (Unit {0}) (MarkValue × BookFault)) → i ≡ mark.context → i < 8 → RefusesForeign (opening_at i b) mark r → RefusedBy b mark r
refuses_foreign b mark i (Ok done) here inside kin = taken b mark (Ok done) (λ f. f) (origin_at b mark i inside kin)
refuses_foreign b mark i (Err (back, OutOfMemory)) here inside kin = taken b mark (Err (back, OutOfMemory)) (λ f. absurd (let e : OutOfMemory ≡ ForeignOrigin = f in cc)) (origin_at b mark i inside kin)
refuses_foreign b mark i (Err (back, ForeignOrigin)) here inside apart = record { exactly = ((λ _ same. apart (kin_at b mark i here inside same)), λ _. refl); else = inl refl }

-- with which marks eight locks began
pub openings : (ls : Eight Lock) (o : Eight MarkValue) → opening_of ls.c0 ≡ o.c0 → opening_of ls.c1 ≡ o.c1 → opening_of ls.c2 ≡ o.c2 → opening_of ls.c3 ≡ o.c3 → opening_of ls.c4 ≡ o.c4 → opening_of ls.c5 ≡ o.c5 → opening_of ls.c6 ≡ o.c6 → opening_of ls.c7 ≡ o.c7 → (i : ℕ) → i < 8 → opening_of (place_of ls i) ≡ place_of o i
openings ls o = each_place (λ i. opening_of (place_of ls i) ≡ place_of o i)

-- locks that began with aligned marks
pub locks_aligned : (ls : Eight Lock) (o : Eight MarkValue) → ((i : ℕ) → i < 8 → opening_of (place_of ls i) ≡ place_of o i) → opening_of ls.c0 ≡ o.c0 → IsAligned o → AreAligned ls
locks_aligned ls o same first aligned = λ i inside.
    let own = aligned i inside in
    let here = same i inside in
    record { of_origin = ap (λ (m : MarkValue). m.origin) here ∙ (own.of_origin ∙ ap (λ (m : MarkValue). m.origin) (sym first)); of_context = ap (λ (m : MarkValue). m.context) here ∙ own.of_context }
