use Rattle.std.proofs.Common.{◌≡◌, ℕ, zero, suc, ◌<◌, List, [], ◌∷◌, length, refl, sym, ap, ◌∙◌, arith}
use Rattle.std.specs.Prelude.{Option, Some, None, slice_get, option_copied}
use Rattle.core_view.specs.declared.entry.Entry.{Entry}
use Rattle.core_view.specs.View.{no_entry}
use Rattle.flight.specs.Marked.{is_waiting}
use Rattle.flight.specs.Flights.{entry_in}
use Rattle.flight.proofs.flight.Flight.known_waiting.Goals as goal

there : (es : List Entry) (i : ℕ) (e : Entry) → slice_get es i ≡ Some e → i < length es
there [] i e is = absurd cc
there (d ∷ es) zero e is = omega arith
there (d ∷ es) (suc i) e is = let lt = there es i e is in omega (arith, lt)

abbrev entry_or : Option Entry → Entry
entry_or (Some e) = e
entry_or None = no_entry

found : (es : List Entry) (i : ℕ) → entry_in es i ≡ entry_or (slice_get es i)
found [] i = refl
found (d ∷ es) zero = refl
found (d ∷ es) (suc i) = found es i

pub returns-then-is_waiting-clause-within : goal.returns-then-is_waiting-clause-within
returns-then-is_waiting-clause-within g c = there c.args.self.now.entries c.place_of-place.result c.in_ok-entry.entry.now (sym c.get.ensures ∙ ap option_copied c.in_ok-entry.was)

pub returns-then-is_waiting-clause-stamp : goal.returns-then-is_waiting-clause-stamp
returns-then-is_waiting-clause-stamp g c = ap (λ (e : Entry). e.stamp) (found c.args.self.now.entries c.place_of-place.result ∙ ap entry_or (sym c.get.ensures ∙ ap option_copied c.in_ok-entry.was)) ∙ c.if-entry-stamp.true

pub returns-then-is_waiting-clause-waits : goal.returns-then-is_waiting-clause-waits
returns-then-is_waiting-clause-waits g c = ap is_waiting (found c.args.self.now.entries c.place_of-place.result ∙ ap entry_or (sym c.get.ensures ∙ ap option_copied c.in_ok-entry.was)) ∙ sym c.is_waiting.ensures ∙ c.if-is_waiting.true
