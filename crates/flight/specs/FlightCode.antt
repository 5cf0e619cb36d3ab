-- A flight is told by its fields.
use Rattle.std.specs.Prelude.{ℕ, List, refl}
use Rattle.std.specs.Coded.{Coded, code_by, coded×, coded_ℕ, coded_list}
use Rattle.core_view.specs.declared.entry.Entry.{Entry}
use Rattle.core_view.specs.contracts.entry.Entry.{the_row as entry_row}
use Rattle.flight.specs.Flights.{Flight}

abbrev pub coded_flight : Coded Flight
coded_flight = code_by (List Entry × (ℕ × ℕ)) (coded× (coded_list entry_row.coded) (coded× coded_ℕ coded_ℕ)) (λ f. (f.entries, (f.renamed, f.capacity))) (λ p. record { entries = p.0; renamed = p.1.0; capacity = p.1.1 }) (λ _. refl)
