use Rattle.std.proofs.Common.{arith, ap, sym, subst, ◌∙◌, ◌≡◌, ◌-◌, [], ℕ, All, length, refl}
use Rattle.std.proofs.lemmas.List.{nil_from_length}
use Rattle.std.proofs.lemmas.List.Sums.{sum_by-cons}
use Rattle.std.specs.declared.alloc.Global.{Global}
use Rattle.std.specs.declared.vec.Vec.{Vec}
use Rattle.worker_pool.specs.declared.thief.Thief.{Thief}
use Rattle.worker_pool.specs.Rule.{whole}
use Rattle.worker_pool.specs.Owners.{IsOwner, owned}
use Rattle.worker_pool.specs.Thieves.{IsRowOf, taken_in, taken_in_rows}
use Rattle.worker_pool.proofs.Steps.{All-first, All-rest}
use Rattle.worker_pool.proofs.rows.absorb_rows.Goals as goal
use Rattle.worker_pool.proofs.rows.absorb_rows.Goals.{In-None}

pub loop-row-init : goal.loop-row-init
loop-row-init c =
    let given = c.into_iter-row-iterator.ensures.into_iter_gives.0 in
    let len = ap length given in
    let ok = c.args.rows.ok.0 in
    record {
      few = omega arith;
      rows = subst (All (IsRowOf (owned c.args.owners.now.items))) (sym given) c.requires.rows;
      same = refl;
      dealt = λ h. refl;
      taken = λ h. let e = ap (taken_in_rows h) given in omega arith;
      parts = subst (λ (n : ℕ). All (IsOwner (whole - n)) c.args.owners.now.items) (omega arith) c.requires.parts;
    }

-- some parts are out
pub absorb_row-requires-clause-part : goal.absorb_row-requires-clause-part
absorb_row-requires-clause-part c =
    let i = c.loop-row.invariant in
    let n = i.few in let few = c.requires.few in
    (whole - length c.loop-row.row-iterator.rest.items, omega arith, i.parts)

pub absorb_row-requires-clause-row : goal.absorb_row-requires-clause-row
absorb_row-requires-clause-row c = let i = c.loop-row.invariant in
    All-first (IsRowOf (owned c.args.owners.now.items)) _ _ _ c.in-Some.ensures.steps.0 i.rows ∙ sym i.same

pub loop-row-preserved : goal.loop-row-preserved
loop-row-preserved c =
    let i = c.loop-row.invariant in
    let steps = c.in-Some.ensures.steps.0 in
    let len = ap length steps in
    let did = c.absorb_row.ensures in
    record {
      few = (let a = i.few in omega arith);
      rows = All-rest (IsRowOf (owned c.args.owners.now.items)) _ _ _ steps i.rows;
      same = did.same ∙ i.same;
      dealt = λ h. did.dealt h ∙ i.dealt h;
      taken = λ h.
          let a = did.taken h in let b = i.taken h in let e = ap (taken_in_rows h) steps in
          let s = sum_by-cons (λ (row : Vec Thief Global). taken_in h row.items) c.in-Some.row c.next.new.self.rest.items in omega arith;
      parts = subst (λ (p : ℕ). All (IsOwner p) c.absorb_row.new.owners.items) (let n = i.few in let few = c.requires.few in omega arith) (did.parts (whole - length c.loop-row.row-iterator.rest.items) i.parts);
    }

none_left : (c : In-None) → c.loop-row.row-iterator.rest.items ≡ []
none_left c = nil_from_length _ (sym c.loop-row.row-iterator.rest.ok.0 ∙ c.in-None.ensures.steps.0)

pub returns-clause-taken : goal.returns-clause-taken
returns-clause-taken c = λ h. let i = c.loop-row.invariant.taken h in let e = ap (taken_in_rows h) (none_left (goal.at.returns-clause-taken c).In-None) in omega arith

pub returns-clause-parts : goal.returns-clause-parts
returns-clause-parts c = let e = ap length (none_left (goal.at.returns-clause-parts c).In-None) in subst (λ (p : ℕ). All (IsOwner p) c.loop-row.owners.items) (omega arith) c.loop-row.invariant.parts
