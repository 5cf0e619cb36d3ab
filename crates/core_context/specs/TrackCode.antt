-- Tracks are finite data.
use Rattle.std.specs.Prelude.{ℕ, refl}
use Rattle.std.specs.Coded.{Coded, code_by, coded×, coded_ℕ}
use Rattle.core_view.specs.View.{Context}
use Rattle.core_view.specs.ViewCode.{coded_context}
use Rattle.core_context.specs.Track.{Track}

-- a track is told by the tuple of its fields
abbrev pub coded_track : Coded Track
coded_track = code_by (Context × (ℕ × (ℕ × (ℕ × ℕ)))) (coded× coded_context (coded× coded_ℕ (coded× coded_ℕ (coded× coded_ℕ coded_ℕ)))) (λ t. (t.context, (t.renamed, (t.capacity, (t.load_places, t.store_places))))) (λ p. record { context = p.0; renamed = p.1.0; capacity = p.1.1.0; load_places = p.1.1.1.0; store_places = p.1.1.1.1 }) (λ _. refl)
