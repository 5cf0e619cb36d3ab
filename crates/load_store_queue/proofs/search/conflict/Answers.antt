use Rattle.std.proofs.Common.{◌≡◌, false, ◌∙◌, sym, ap, Some, arith}
use Rattle.core_view.specs.declared.entry.Entry.{Entry}
use Rattle.core_view.specs.Flight.{span_read, touches}
use Rattle.flight.specs.Flights.{entry_in}
use Rattle.load_store_queue.proofs.ReadEntry.{read-some, read-entry}
use Rattle.load_store_queue.proofs.RenamedPlace.{IsRenamedPlace, renamed-place}
use Rattle.load_store_queue.proofs.LoadsBehind.{none-younger, conflict-without, conflict-there, none-upto}
use Rattle.load_store_queue.proofs.search.conflict.Given.{Over}
use Rattle.load_store_queue.proofs.search.conflict.Goals.{After-len-len, After-span, in-Some-span+else-shares, in_default-span}
use Rattle.load_store_queue.proofs.search.conflict.Goals as goal

at : (g : Over) (c : After-len-len g) → IsRenamedPlace c.args.flight.now c.args.place
at g c =
    let counted = c.renamed_count-renamed.ensures in
    renamed-place c.args.flight.now c.args.place c.renamed_count-renamed.result counted.value counted.oldest counted.within c.len-len.ensures.growing c.requires

-- the load
here : (g : Over) (c : After-span g) → entry_in c.args.flight.now.entries c.in-Some.younger ≡ c.unwrap-load.result.now
here g c = read-entry c.args.flight.now.entries c.in-Some.younger c.get.result c.unwrap-load.result c.get.ensures c.unwrap-load.ensures

-- whether it shares a byte
touching : (g : Over) (c : After-span g) → touches (Some c.args.bytes) (span_read (entry_in c.args.flight.now.entries c.in-Some.younger).stage) ≡ touches (Some c.args.bytes) c.span.result
touching g c = ap (λ (e : Entry). touches (Some c.args.bytes) (span_read e.stage)) (here g c) ∙ ap (touches (Some c.args.bytes)) (sym c.span.ensures)

pub loop-younger-init : goal.loop-younger-init
loop-younger-init g c = record {
  behind = omega arith;
  few = let renamed = c.requires in let few = c.renamed_count-renamed.ensures.few in let is = c.renamed_count-renamed.ensures.value in omega (arith, renamed, few, is);
  past = none-younger c.args.bytes c.args.flight.now c.args.place (at g c);
}

pub returns-then-shares : goal.returns-then-shares
returns-then-shares g c =
    sym (conflict-there c.args.bytes c.args.flight.now c.args.place (at g (goal.at.returns-then-shares g c).After-len-len)
    c.loop-younger.from c.loop-younger.invariant.past c.loop-younger.invariant.behind c.in-Some.younger c.in-Some.ensures
    (touching g (goal.at.returns-then-shares g c).After-span ∙ ap (touches (Some c.args.bytes)) c.in-Some-span.is ∙ sym c.shares.ensures.is ∙ c.if-shares.true)
    ∙ ap (λ (e : Entry). Some e.stamp) (here g (goal.at.returns-then-shares g c).After-span))

pub loop-younger-preserved : goal.loop-younger-preserved
loop-younger-preserved g c =
    let apart : touches (Some c.args.bytes) c.span.result ≡ false = elim c.match-span.branch [
      | in-Some-span+else-shares w ↦ ap (touches (Some c.args.bytes)) w.in-Some-span.is ∙ sym w.shares.ensures.is ∙ w.if-shares.false
      | in_default-span w ↦ ap (touches (Some c.args.bytes)) w.in_default-span.is
    ] in
    let renamed = c.in-Some.ensures.renamed in
    let after = c.in-Some.ensures.after in
    record {
      behind = let behind = c.loop-younger.invariant.behind in omega (arith, behind, after);
      few = let few = c.renamed_count-renamed.ensures.few in let is = c.renamed_count-renamed.ensures.value in omega (arith, renamed, few, is);
      past = none-upto c.args.bytes c.args.flight.now c.args.place (at g (goal.at.loop-younger-preserved g c).After-len-len)
          c.loop-younger.from c.loop-younger.invariant.past c.loop-younger.invariant.behind c.in-Some.younger c.in-Some.ensures
          (touching g (goal.at.loop-younger-preserved g c).After-span ∙ apart);
    }

pub returns : goal.returns
returns g c =
    sym (conflict-without c.args.bytes c.args.flight.now c.args.place (at g (goal.at.returns g c).After-len-len)
    c.loop-younger.from c.loop-younger.invariant.past c.in_default.ensures)

pub unwrap-load-requires : goal.unwrap-load-requires
unwrap-load-requires g c =
    let renamed = c.in-Some.ensures.renamed in
    let is = c.renamed_count-renamed.ensures.value in
    let within = c.renamed_count-renamed.ensures.within in
    read-some c.args.flight.now.entries c.in-Some.younger c.get.result (omega (arith, renamed, is, within)) c.get.ensures
