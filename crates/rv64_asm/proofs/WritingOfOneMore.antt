-- What the second pass has written behind one line more.
use Rattle.std.proofs.Common.{◌≡◌, ℕ, ◌<◌, ◌+◌, List, ◌++◌, length, get_or, take, Some, None, Result, Ok, Err, refl, sym, ap, ◌∙◌, arith, below_more}
use Rattle.std.specs.Result.{result_err}
use Rattle.std.proofs.lemmas.List.{length-append}
use Rattle.rv64_asm.specs.declared.fault.LineFault.{LineFault}
use Rattle.rv64_asm.specs.declared.place.Place.{Place}
use Rattle.rv64_asm.specs.declared.statement.Item.{Item}
use Rattle.rv64_asm.specs.Label.{Label}
use Rattle.rv64_asm.specs.Statements.{label_of}
use Rattle.rv64_asm.specs.Places.{Layout, behind, next_place, with_label, address, StandBelow}
use Rattle.rv64_asm.specs.Written.{item_of, IsWritten, WrittenBelow, HasTargetFault}
use Rattle.rv64_asm.specs.Passes.{emit, Appends}
use Rattle.rv64_asm.specs.Assembled.{IsTargetFault}
use Rattle.rv64_asm.proofs.LayoutOfOneMore.{behind_more, line_here, stepped}
use Rattle.rv64_asm.proofs.Emitting.{stands_new, written_on, statement_grows, emitted, goes, target_fault, item_is}

-- a result without a fault has a value
pub ok_of : (r : Result Place LineFault) → result_err r ≡ None → (next : Place) × (r ≡ Ok next)
ok_of (Ok next) e = (next, refl)
ok_of (Err fault) e = absurd cc

-- a line that is written has no fault of its target
pub reached : (all : List (List ℕ)) (labels : List Label) (words bytes : List ℕ) (k : ℕ) → IsWritten all labels words bytes k → HasTargetFault all labels k None
reached all labels words bytes k w = (w.line, w.is_line, rw w.is_item refl)

-- what holds behind a line more
pub record Turned (all : List (List ℕ)) (labels : List Label) (n : ℕ) (next : Place) (words bytes : List ℕ) : Type 0 where
  pub placed : (behind (take (n + 1) all)).place ≡ next
  pub word_count : length words ≡ next.words
  pub byte_count : length bytes ≡ next.bytes
  pub written : WrittenBelow all labels words bytes (n + 1)

module _ (all : List (List ℕ)) (n : ℕ) (x : List ℕ) (within : n < length all) (is : x ≡ get_or all n x) (stand : StandBelow all (length all)) (labels : List Label) (place : Place) (placed : (behind (take n all)).place ≡ place) where
  abbrev s : Layout
  s = behind (take n all)

  stands_here : (next : Place) × (next_place s x ≡ Ok next)
  stands_here =
      let h = stand n within in
      let same : Some h.0 ≡ Some x = sym h.1 ∙ line_here all n x within is in
      let line : h.0 ≡ x = cc in
      ok_of (next_place s x) (rw (← line) h.2)

  pub fault_here : (words bytes : List ℕ) (fault : LineFault) → WrittenBelow all labels words bytes n → labels ≡ (behind all).labels → emit place labels x ≡ Err fault → IsTargetFault all fault n
  fault_here words bytes fault written e h =
      let st = stands_here in
      let f : result_err (item_of s.place labels x) ≡ Some fault = target_fault s labels x st.0 fault st.1 (rw placed h) in
      record {
        stand = stand;
        reach = λ j below. rw (← e) (reached all labels words bytes j (written j below));
        has_fault = rw (← e) (x, line_here all n x within is, f);
      }

  pub turned : (words bytes new_words new_bytes : List ℕ) (next : Place) (item : Item) → length words ≡ place.words → length bytes ≡ place.bytes → WrittenBelow all labels words bytes n → emit place labels x ≡ Ok (next, item) → Appends item words new_words bytes new_bytes → Turned all labels n next new_words new_bytes
  turned words bytes new_words new_bytes next item word_count byte_count written e a =
      let st = stands_here in
      let w = emitted s.place labels x next item (rw placed e) in
      let went : Some st.0 ≡ Some next = sym (goes s x st.0 w.statement st.1 w.said) ∙ w.went in
      let found : st.0 ≡ next = cc in
      let grows = statement_grows labels (address s.place) w.statement item s.place next a.piece_words a.piece_bytes w.resolved w.went a.is_piece in
      let words_at : length words ≡ s.place.words = rw placed word_count in
      let bytes_at : length bytes ≡ s.place.bytes = rw placed byte_count in
      let here : IsWritten all labels (words ++ a.piece_words) (bytes ++ a.piece_bytes) n = record {
        line = x;
        is_line = line_here all n x within is;
        item = item;
        is_item = item_is s.place labels x next item w;
        piece_words = a.piece_words;
        piece_bytes = a.piece_bytes;
        is_piece = a.is_piece;
        words_stand = stands_new words a.piece_words s.place.words words_at;
        bytes_stand = stands_new bytes a.piece_bytes s.place.bytes bytes_at;
      } in
      record {
        placed = ap (λ (t : Layout). t.place) (behind_more all n x within is s (record { place = next; labels = with_label s.labels (address s.place) (label_of x) }) refl (stepped s x next _ (st.1 ∙ ap Ok found) refl));
        word_count = ap length a.words_grow ∙ omega (arith, length-append words a.piece_words, grows.0, words_at);
        byte_count = ap length a.bytes_grow ∙ omega (arith, length-append bytes a.piece_bytes, grows.1, bytes_at);
        written = rw (a.words_grow, a.bytes_grow) (below_more (IsWritten all labels (words ++ a.piece_words) (bytes ++ a.piece_bytes)) n (λ k below. written_on all labels words bytes a.piece_words a.piece_bytes k (written k below)) here);
      }
