-- Lanes, banks and buffers go side by side.
use Rattle.std.proofs.Common.{◌≡◌, ℕ, zero, suc, ◌<◌, Bool, true, false, List, [], ◌∷◌, length, get_or, take, map, Option, Some, None, refl, sym, ap, ◌∙◌, arith}
use Rattle.std.specs.Prelude.{set, slice_index, unwrap_or, IsSome, ◌==◌, if◌then◌else◌}
use Rattle.std.proofs.lemmas.Bool.Decides.{nat_tests}
use Rattle.std.proofs.lemmas.List.{length-set, map-set, take-map, get_or-set_other}
use Rattle.rename_file.specs.File.{Bank, bank, no_bank, File, IsFile}
use Rattle.circular_buffer.specs.Buffer.{Buffer}
use Rattle.hart_step.specs.State.{written}
use Rattle.core_view.specs.Flight.{known, source_value}
use Rattle.data_flow.specs.declared.operands.Renamed.{Renamed}
use Rattle.data_flow.specs.Flow.{Node, Lane, no_lane, no_node, node_at, seen_past_node, seen_past_nodes, seen_at}
use Rattle.data_flow.specs.Wired.{cell_of, value_of, node_of, lane_of, lanes_of, IsWired, IsTied, AreTied, no_buffer}

pub lengths : (cells : List (Option ℕ)) (bs : List Bank) (ns : List (Buffer Renamed)) → AreTied cells bs ns → (length (lanes_of cells bs ns) ≡ length bs) × (length ns ≡ length bs)
lengths cells [] [] t = (refl, refl)
lengths cells [] (n ∷ ns) t = absurd t
lengths cells (b ∷ bs) [] t = absurd t
lengths cells (b ∷ bs) (n ∷ ns) t = let h = lengths cells bs ns t.1 in (ap suc h.0, ap suc h.1)

pub lane_at : (cells : List (Option ℕ)) (bs : List Bank) (ns : List (Buffer Renamed)) (c : ℕ) → AreTied cells bs ns → c < length bs → get_or (lanes_of cells bs ns) c no_lane ≡ lane_of cells (get_or bs c no_bank) (get_or ns c no_buffer)
lane_at cells [] ns c t lt = absurd (omega arith)
lane_at cells (b ∷ bs) [] c t lt = absurd t
lane_at cells (b ∷ bs) (n ∷ ns) zero t lt = refl
lane_at cells (b ∷ bs) (n ∷ ns) (suc c) t lt = lane_at cells bs ns c t.1 (omega arith)

pub tied_at : (cells : List (Option ℕ)) (bs : List Bank) (ns : List (Buffer Renamed)) (c : ℕ) → AreTied cells bs ns → c < length bs → IsTied cells (get_or bs c no_bank) (get_or ns c no_buffer)
tied_at cells [] ns c t lt = absurd (omega arith)
tied_at cells (b ∷ bs) [] c t lt = absurd t
tied_at cells (b ∷ bs) (n ∷ ns) zero t lt = t.0
tied_at cells (b ∷ bs) (n ∷ ns) (suc c) t lt = tied_at cells bs ns c t.1 (omega arith)

pub lanes-set : (cells : List (Option ℕ)) (bs : List Bank) (ns : List (Buffer Renamed)) (c : ℕ) (b : Bank) (n : Buffer Renamed) → lanes_of cells (set bs c b) (set ns c n) ≡ set (lanes_of cells bs ns) c (lane_of cells b n)
lanes-set cells [] ns c b n = refl
lanes-set cells (x ∷ bs) [] zero b n = refl
lanes-set cells (x ∷ bs) [] (suc c) b n = refl
lanes-set cells (x ∷ bs) (y ∷ ns) zero b n = refl
lanes-set cells (x ∷ bs) (y ∷ ns) (suc c) b n = ap (λ ls. lane_of cells x y ∷ ls) (lanes-set cells bs ns c b n)

pub tied-set : (cells : List (Option ℕ)) (bs : List Bank) (ns : List (Buffer Renamed)) (c : ℕ) (b : Bank) (n : Buffer Renamed) → AreTied cells bs ns → IsTied cells b n → AreTied cells (set bs c b) (set ns c n)
tied-set cells [] [] c b n t h = tt
tied-set cells [] (y ∷ ns) c b n t h = absurd t
tied-set cells (x ∷ bs) [] c b n t h = absurd t
tied-set cells (x ∷ bs) (y ∷ ns) zero b n t h = (h, t.1)
tied-set cells (x ∷ bs) (y ∷ ns) (suc c) b n t h = (t.0, tied-set cells bs ns c b n t.1 h)

-- ---- the map that an instruction finds

-- the map after instructions
abbrev pub map_after : List ℕ → List Renamed → List ℕ
map_after m [] = m
map_after m (n ∷ ns) = map_after (written m n.operands.destination n.destination) ns

get_map : {A : Type 0} (f : ℕ → A) (m : List ℕ) (r : ℕ) (d : A) → r < length m → get_or (map f m) r d ≡ f (slice_index m r)
get_map f [] r d lt = absurd (omega arith)
get_map f (x ∷ m) zero d lt = refl
get_map f (x ∷ m) (suc r) d lt = get_map f m r d (omega arith)

seen_written : (cells : List (Option ℕ)) (m : List ℕ) (n : Renamed) → seen_past_node (map (cell_of cells) m) (node_of cells n) ≡ map (cell_of cells) (written m n.operands.destination n.destination)
seen_written cells m n = by_test (n.operands.destination == 0)
  where
    by_test : (b : Bool) → (if b then map (cell_of cells) m else set (map (cell_of cells) m) n.operands.destination (if b then None else cell_of cells n.destination)) ≡ map (cell_of cells) (if b then m else set m n.operands.destination n.destination)
    by_test true = refl
    by_test false = sym (map-set (cell_of cells) m n.operands.destination n.destination)

pub length-written : (m : List ℕ) (r p : ℕ) → length (written m r p) ≡ length m
length-written m r p = by_test (r == 0)
  where
    by_test : (b : Bool) → length (if b then m else set m r p) ≡ length m
    by_test true = refl
    by_test false = length-set m r p

pub length-map_after : (m : List ℕ) (ns : List Renamed) → length (map_after m ns) ≡ length m
length-map_after m [] = refl
length-map_after m (n ∷ ns) = length-map_after (written m n.operands.destination n.destination) ns ∙ length-written m n.operands.destination n.destination

-- x0 is never renamed
zero_written : (m : List ℕ) (r p : ℕ) → slice_index (written m r p) 0 ≡ slice_index m 0
zero_written m r p = by_test (r == 0) refl
  where
    by_test : (b : Bool) → (r == 0) ≡ b → slice_index (if b then m else set m r p) 0 ≡ slice_index m 0
    by_test true e = refl
    by_test false e = get_or-set_other m r 0 p 0 (λ same. grind (arith, nat_tests))

zero_after : (m : List ℕ) (ns : List Renamed) → slice_index (map_after m ns) 0 ≡ slice_index m 0
zero_after m [] = refl
zero_after m (n ∷ ns) = zero_after (written m n.operands.destination n.destination) ns ∙ zero_written m n.operands.destination n.destination

pub seen_after : (cells : List (Option ℕ)) (m : List ℕ) (ns : List Renamed) → seen_past_nodes (map (cell_of cells) m) (map (node_of cells) ns) ≡ map (cell_of cells) (map_after m ns)
seen_after cells m [] = refl
seen_after cells m (n ∷ ns) = ap (λ seen. seen_past_nodes seen (map (node_of cells) ns)) (seen_written cells m n) ∙ seen_after cells (written m n.operands.destination n.destination) ns

-- what an instruction reads, over the map that it finds
pub record IsWiredOver (m : List ℕ) (n : Renamed) : Type 0 where
  pub first : n.first ≡ slice_index m n.operands.first
  pub second : n.second ≡ slice_index m n.operands.second
  pub first_narrow : n.operands.first < 32
  pub second_narrow : n.operands.second < 32
  pub destination_narrow : n.operands.destination < 32

pub wired_at : (count : ℕ) (m : List ℕ) (ns : List Renamed) (i : ℕ) (d : Renamed) → IsWired count m ns → i < length ns → IsWiredOver (map_after m (take i ns)) (get_or ns i d)
wired_at count m [] i d t lt = absurd (omega arith)
wired_at count m (n ∷ ns) zero d t lt = record { first = t.0; second = t.1; first_narrow = t.2; second_narrow = t.3; destination_narrow = t.4 }
wired_at count m (n ∷ ns) (suc i) d t lt = wired_at count (written m n.operands.destination n.destination) ns i d t.5 (omega arith)

-- the cell of a source is the value that is seen of it
source_seen : (cells : List (Option ℕ)) (m : List ℕ) (r : ℕ) → r < length m → cell_of cells (slice_index m 0) ≡ Some 0 → source_value (map (cell_of cells) m) r ≡ cell_of cells (slice_index m r)
source_seen cells m r lt zeroed = by_test (r == 0) refl
  where
    by_test : (b : Bool) → (r == 0) ≡ b → (if b then Some 0 else get_or (map (cell_of cells) m) r None) ≡ cell_of cells (slice_index m r)
    by_test true e = let none : r ≡ 0 = grind (arith, nat_tests) in sym zeroed ∙ ap (λ q. cell_of cells (slice_index m q)) (sym none)
    by_test false e = get_map (cell_of cells) m r None lt

has_value : (o : Option ℕ) → IsSome o → Some (unwrap_or o 0) ≡ o
has_value None h = absurd cc
has_value (Some v) h = refl

known_cells : (cells : List (Option ℕ)) (ps : List ℕ) → ((r : ℕ) → r < length ps → IsSome (cell_of cells (slice_index ps r))) → known (map (value_of cells) ps) ≡ map (cell_of cells) ps
known_cells cells [] s = refl
known_cells cells (p ∷ ps) s =
    let first : Some (value_of cells p) ≡ cell_of cells p = has_value (cell_of cells p) (s 0 (omega arith)) in
    let rest = known_cells cells ps (λ r lt. s (suc r) (omega arith)) in
    cc

pub get_or-map : {A B : Type 0} (f : A → B) (xs : List A) (i : ℕ) (d : A) (e : B) → i < length xs → get_or (map f xs) i e ≡ f (get_or xs i d)
get_or-map f [] i d e lt = absurd (omega arith)
get_or-map f (x ∷ xs) zero d e lt = refl
get_or-map f (x ∷ xs) (suc i) d e lt = get_or-map f xs i d e (omega arith)

-- what is committed has its value, and x0's register is 0
pub record IsSettled (cells : List (Option ℕ)) (b : Bank) : Type 0 where
  pub wide : length b.committed ≡ 32
  pub valued : (r : ℕ) → r < 32 → IsSome (cell_of cells (slice_index b.committed r))
  pub zeroed : cell_of cells (slice_index b.committed 0) ≡ Some 0

pub settled : (f : File) (c : ℕ) → IsFile f → c < 8 → IsSettled f.cells (bank f c)
settled f c ok lt =
    let b = ok.banks c lt in
    record { wide = b.wide; valued = b.valued; zeroed = ap (cell_of f.cells) b.zero ∙ ok.zeros c lt }

pub lane_seen : (cells : List (Option ℕ)) (b : Bank) (ns : Buffer Renamed) (i : ℕ) → IsSettled cells b → seen_at (lane_of cells b ns) i ≡ map (cell_of cells) (map_after b.committed (take i ns.items))
lane_seen cells b ns i s =
    rw (known_cells cells b.committed (λ r lt. s.valued r (omega (arith, s.wide))), take-map (node_of cells) i ns.items) (seen_after cells b.committed (take i ns.items))

-- the registers of an instruction at a place hold what its sources are seen to be
pub record Reads (cells : List (Option ℕ)) (l : Lane) (i : ℕ) (n : Renamed) : Type 0 where
  pub operands : (node_at l i).operands ≡ n.operands
  pub first : cell_of cells n.first ≡ source_value (seen_at l i) n.operands.first
  pub second : cell_of cells n.second ≡ source_value (seen_at l i) n.operands.second

pub reads : (cells : List (Option ℕ)) (b : Bank) (ns : Buffer Renamed) (i : ℕ) (d : Renamed) → IsTied cells b ns → IsSettled cells b → i < length ns.items → Reads cells (lane_of cells b ns) i (get_or ns.items i d)
reads cells b ns i d t s lt =
    let m : List ℕ = map_after b.committed (take i ns.items) in
    let n : Renamed = get_or ns.items i d in
    let w = wired_at (length cells) b.committed ns.items i d t.wired lt in
    let len : length m ≡ 32 = length-map_after b.committed (take i ns.items) ∙ s.wide in
    let zeroed : cell_of cells (slice_index m 0) ≡ Some 0 = ap (cell_of cells) (zero_after b.committed (take i ns.items)) ∙ s.zeroed in
    let seen = lane_seen cells b ns i s in
    record {
      operands = ap (λ (x : Node). x.operands) (get_or-map (node_of cells) ns.items i d no_node lt);
      first = ap (cell_of cells) w.first ∙ sym (source_seen cells m n.operands.first (omega (arith, w.first_narrow)) zeroed) ∙ ap (λ s. source_value s n.operands.first) (sym seen);
      second = ap (cell_of cells) w.second ∙ sym (source_seen cells m n.operands.second (omega (arith, w.second_narrow)) zeroed) ∙ ap (λ s. source_value s n.operands.second) (sym seen);
    }
