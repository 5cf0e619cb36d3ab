-- What a look among the loads or the stores knows of the flight and of the place that it begins at.
use Rattle.std.proofs.Common.{◌≡◌, ℕ, ◌<◌, ◌≤◌, true, false, length, ap, subst, ◌∙◌, arith, inl, inr}
use Rattle.std.proofs.lemmas.Bool.{lt-ltb, le-ltb, cases_lt}
use Rattle.core_view.specs.declared.entry.Entry.{Entry}
use Rattle.core_view.specs.View.{no_entry}
use Rattle.core_view.specs.Queues.{is_renamed}
use Rattle.flight.specs.Flights.{Flight, entry_in}
use Rattle.reorder_buffer.specs.Growing.{IsGrowing}
use Rattle.load_store_queue.proofs.SlotKinds.{AreOldest}

-- the oldest are renamed, and no others; stamps grow; the place is one of a renamed entry
pub record IsRenamedPlace (f : Flight) (place : ℕ) : Type 0 where
  pub oldest : AreOldest f.renamed f.entries
  pub within : f.renamed ≤ length f.entries
  pub growing : IsGrowing (λ (e : Entry). e.stamp) f.entries
  pub renamed : place < f.renamed

-- so many are the renamed ones
pub renamed-place : (f : Flight) (place n : ℕ) → n ≡ f.renamed → AreOldest n f.entries → n ≤ length f.entries → IsGrowing (λ (e : Entry). e.stamp) f.entries → place < f.renamed → IsRenamedPlace f place
renamed-place f place n is oldest within growing renamed = record {
  oldest = subst (λ m. AreOldest m f.entries) is oldest;
  within = omega (arith, is, within);
  growing = growing;
  renamed = renamed;
}

module _ (f : Flight) (place : ℕ) (at : IsRenamedPlace f place) where
  -- stamps grow from place to place
  pub stamp-before : (i j : ℕ) → i < j → j < f.renamed → (entry_in f.entries i).stamp < (entry_in f.entries j).stamp
  stamp-before i j lt renamed = let within = at.within in at.growing i j no_entry lt (omega (arith, renamed, within))

  -- and from a place on none is below that of the entry there
  pub stamp-from : (i j : ℕ) → i ≤ j → j < f.renamed → (entry_in f.entries i).stamp ≤ (entry_in f.entries j).stamp
  stamp-from i j le renamed = elim (cases_lt i j) [
    | inl lt ↦ omega (arith, stamp-before i j lt renamed)
    | inr ge ↦ (let same : i ≡ j = omega (arith, le, ge) in omega (arith, ap (λ n. (entry_in f.entries n).stamp) same))
  ]

  pub is-renamed : (i : ℕ) → i < f.renamed → is_renamed (entry_in f.entries i).stage ≡ true
  is-renamed i lt = at.oldest i ∙ lt-ltb i f.renamed lt

  pub not-renamed : (i : ℕ) → f.renamed ≤ i → is_renamed (entry_in f.entries i).stage ≡ false
  not-renamed i le = at.oldest i ∙ le-ltb i f.renamed le
