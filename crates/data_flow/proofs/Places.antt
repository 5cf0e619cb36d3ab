-- What is known of a context whose buffer was found by its index.
use Rattle.std.proofs.Common.{◌≡◌, ℕ, ◌<◌, length, get_or, refl, sym, ap, ◌∙◌, arith}
use Rattle.std.proofs.lemmas.List.{length-map, get_or_default}
use Rattle.rename_file.specs.File.{bank}
use Rattle.circular_buffer.specs.Buffer.{Buffer}
use Rattle.data_flow.specs.declared.operands.Renamed.{Renamed}
use Rattle.data_flow.specs.declared.data_flow.DataFlow.TheInside.{Inside}
use Rattle.data_flow.specs.Flow.{Lane, Flow, lane, no_lane}
use Rattle.data_flow.specs.Wired.{node_of, lane_of, lanes_of, flow, IsTied, IsWiredUp, no_buffer}
use Rattle.data_flow.proofs.Ties.{lengths, lane_at, tied_at, IsSettled, settled}

-- what is known of the context c, whose list was found at i
pub record Here {A : Type 0} (d : Inside A) (now : Flow) (c i : ℕ) (found : Buffer Renamed) : Type 0 where
  pub index : i ≡ c
  pub below : c < 8
  pub in_banks : c < length d.registers.banks
  pub in_buffers : c < length d.renamed
  pub lanes : now.lanes ≡ lanes_of d.registers.cells d.registers.banks d.renamed
  pub lane_is : lane now c ≡ lane_of d.registers.cells (bank d.registers c) found
  pub tied : IsTied d.registers.cells (bank d.registers c) found
  pub settled : IsSettled d.registers.cells (bank d.registers c)
  pub count : length (lane now c).nodes ≡ length found.items
  pub place : found ≡ get_or d.renamed c no_buffer

pub eight : {A : Type 0} (d : Inside A) → IsWiredUp d → (length d.registers.banks ≡ 8) × (length d.renamed ≡ 8)
eight d up = let lens = lengths d.registers.cells d.registers.banks d.renamed up.tied in (up.file.eight, lens.1 ∙ up.file.eight)

pub here : {A : Type 0} (d : Inside A) (now : Flow) (c i : ℕ) (e : Buffer Renamed) → flow d ≡ now → IsWiredUp d → i ≡ c → i < 8 → Here d now c i (get_or d.renamed i e)
here d now c i e shows up index below =
    let lens = eight d up in
    let lt : c < 8 = omega arith in
    let found : Buffer Renamed = get_or d.renamed i e in
    let lanes : now.lanes ≡ lanes_of d.registers.cells d.registers.banks d.renamed = ap (λ (f : Flow). f.lanes) (sym shows) in
    let place : found ≡ get_or d.renamed c no_buffer = ap (λ k. get_or d.renamed k e) index ∙ get_or_default d.renamed c e no_buffer (omega (arith, lens.1)) in
    let at_c : get_or now.lanes c no_lane ≡ lane_of d.registers.cells (bank d.registers c) found = rw (lanes, place) (lane_at d.registers.cells d.registers.banks d.renamed c up.tied (omega (arith, lens.0))) in
    record {
      index = index;
      below = lt;
      in_banks = omega (arith, lens.0);
      in_buffers = omega (arith, lens.1);
      lanes = lanes;
      lane_is = at_c;
      tied = rw place (tied_at d.registers.cells d.registers.banks d.renamed c up.tied (omega (arith, lens.0)));
      settled = settled d.registers c up.file lt;
      count = ap (λ (l : Lane). length l.nodes) at_c ∙ length-map found.items (node_of d.registers.cells);
      place = place;
    }

-- the same of a context whose buffer isn't looked at
pub here_unread : {A : Type 0} (d : Inside A) (now : Flow) (c : ℕ) → flow d ≡ now → IsWiredUp d → c < 8 → Here d now c c (get_or d.renamed c no_buffer)
here_unread d now c shows up lt = here d now c c no_buffer shows up refl lt
