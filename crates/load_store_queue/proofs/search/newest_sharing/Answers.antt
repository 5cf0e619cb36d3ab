use Rattle.std.proofs.Common.{◌≡◌, ◌∙◌, sym, ap, refl, arith}
use Rattle.core_view.specs.declared.span.Bytes.{Bytes}
use Rattle.core_view.specs.declared.entry.Entry.{Entry}
use Rattle.core_view.specs.Spans.{shares}
use Rattle.core_view.specs.Flight.{bytes_done}
use Rattle.core_view.specs.Loads.{passing}
use Rattle.flight.specs.Flights.{entry_in}
use Rattle.load_store_queue.proofs.ReadEntry.{read-some, read-entry}
use Rattle.load_store_queue.proofs.RenamedPlace.{IsRenamedPlace, renamed-place}
use Rattle.load_store_queue.proofs.StoresBefore.{none-older, newest-without, newest-there, none-from}
use Rattle.load_store_queue.proofs.search.newest_sharing.Given.{Over}
use Rattle.load_store_queue.proofs.search.newest_sharing.Goals.{After-len-len, After-bytes}
use Rattle.load_store_queue.proofs.search.newest_sharing.Goals as goal

at : (g : Over) (c : After-len-len g) → IsRenamedPlace c.args.flight.now c.args.place
at g c =
    let counted = c.renamed_count-renamed.ensures in
    renamed-place c.args.flight.now c.args.place c.renamed_count-renamed.result counted.value counted.oldest counted.within c.len-len.ensures.growing c.requires

-- the bytes of the store
here : (g : Over) (c : After-bytes g) → bytes_done (entry_in c.args.flight.now.entries c.in-Some.older).stage ≡ c.bytes.result
here g c = ap (λ (e : Entry). bytes_done e.stage) (read-entry c.args.flight.now.entries c.in-Some.older c.get.result c.unwrap-store.result c.get.ensures c.unwrap-store.ensures) ∙ sym c.bytes.ensures

pub loop-older-init : goal.loop-older-init
loop-older-init g c = record {
  within = omega arith;
  past = none-older (λ (b : Bytes). shares b.span c.args.span) c.args.flight.now c.args.place (at g c);
}

pub returns-then-shares : goal.returns-then-shares
returns-then-shares g c =
    sym (newest-there (λ (b : Bytes). shares b.span c.args.span) c.args.flight.now c.args.place (at g (goal.at.returns-then-shares g c).After-len-len)
    c.loop-older.below c.loop-older.invariant.within c.loop-older.invariant.past c.in-Some.older c.in-Some.ensures c.in-Some-bytes.bytes
    (ap (passing (λ (b : Bytes). shares b.span c.args.span)) (here g (goal.at.returns-then-shares g c).After-bytes ∙ c.in-Some-bytes.is) ∙ rw (sym c.shares.ensures.is ∙ c.if-shares.true) refl))

pub loop-older-preserved-else-shares : goal.loop-older-preserved-else-shares
loop-older-preserved-else-shares g c = record {
  within = let below = c.in-Some.ensures.below in let under = c.loop-older.invariant.within in omega (arith, below, under);
  past = none-from (λ (b : Bytes). shares b.span c.args.span) c.args.flight.now c.args.place (at g (goal.at.loop-older-preserved-else-shares g c).After-len-len)
      c.loop-older.below c.loop-older.invariant.within c.loop-older.invariant.past c.in-Some.older c.in-Some.ensures
      (ap (passing (λ (b : Bytes). shares b.span c.args.span)) (here g (goal.at.loop-older-preserved-else-shares g c).After-bytes ∙ c.in-Some-bytes.is) ∙ rw (sym c.shares.ensures.is ∙ c.if-shares.false) refl);
}

pub loop-older-preserved : goal.loop-older-preserved
loop-older-preserved g c = record {
  within = let below = c.in-Some.ensures.below in let under = c.loop-older.invariant.within in omega (arith, below, under);
  past = none-from (λ (b : Bytes). shares b.span c.args.span) c.args.flight.now c.args.place (at g (goal.at.loop-older-preserved g c).After-len-len)
      c.loop-older.below c.loop-older.invariant.within c.loop-older.invariant.past c.in-Some.older c.in-Some.ensures
      (ap (passing (λ (b : Bytes). shares b.span c.args.span)) (here g (goal.at.loop-older-preserved g c).After-bytes ∙ c.in_default-bytes.is));
}

pub returns : goal.returns
returns g c =
    sym (newest-without (λ (b : Bytes). shares b.span c.args.span) c.args.flight.now c.args.place (at g (goal.at.returns g c).After-len-len)
    c.loop-older.below c.loop-older.invariant.within c.loop-older.invariant.past c.in_default.ensures)

pub unwrap-store-requires : goal.unwrap-store-requires
unwrap-store-requires g c =
    let below = c.in-Some.ensures.below in
    let under = c.loop-older.invariant.within in
    let renamed = c.requires in
    let is = c.renamed_count-renamed.ensures.value in
    let within = c.renamed_count-renamed.ensures.within in
    read-some c.args.flight.now.entries c.in-Some.older c.get.result (omega (arith, below, under, renamed, is, within)) c.get.ensures
