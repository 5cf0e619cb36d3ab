use Rattle.std.proofs.Common.{arith, sym, subst, ◌∙◌, ◌-◌, ℕ, All}
use Rattle.std.proofs.lemmas.List.Elements.{All-push}
use Rattle.worker_pool.specs.Owners.{IsOwner, owned}
use Rattle.worker_pool.specs.Thieves.{IsNewRow}
use Rattle.worker_pool.proofs.rows.cut_rows.Goals as goal

pub cut_row-requires : goal.cut_row-requires
cut_row-requires c = let f = c.requires.few in (127 - c.loop.counter, omega arith, subst (λ (p : ℕ). All (IsOwner p) c.loop.owners.items) (omega arith) c.loop.invariant.parts)

pub loop-preserved : goal.loop-preserved
loop-preserved c =
    let f = c.requires.few in
    let i = c.loop.invariant in
    let push = c.push_reserved.ensures in
    let cut = c.in_ok-row.ensures in
    record {
      room = (let a = push.capacity in let r = i.room in omega arith);
      count = (let a = push.len in let b = i.count in omega arith);
      rows = subst (All (IsNewRow (owned c.args.owners.now.items))) (sym push.items) (All-push (IsNewRow (owned c.args.owners.now.items)) c.loop.rows.items _ i.rows (record { is_row = cut.row ∙ i.same; none = cut.none }));
      same = cut.same ∙ i.same;
      jobs = λ h. let a = cut.jobs h in let b = i.jobs h in (a.0 ∙ b.0, a.1 ∙ b.1);
      parts = subst (λ (p : ℕ). All (IsOwner p) c.cut_row.new.owners.items) (omega arith) (cut.parts (127 - c.loop.counter) (subst (λ (p : ℕ). All (IsOwner p) c.loop.owners.items) (omega arith) i.parts));
    }
