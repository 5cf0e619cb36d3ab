use Rattle.std.proofs.Common.{◌≡◌, ℕ, ◌+◌, ◌-◌, ◌<◌, ◌≤◌, length}
use Rattle.paged_memory.specs.Regions.{text_start, data_start}
use Rattle.paged_memory.specs.Start.{data_byte, text_byte}
use Rattle.paged_memory.specs.Layout.{page_in, IsPageOf}
use Rattle.paged_memory.proofs.starting.start_pages.Given as goal

abbrev pub invariant-loop-p : goal.invariant-loop-p
invariant-loop-p g l = record {
  count : length l.pages.items ≡ l.p;
  words : (p : ℕ) → p < l.p → IsPageOf text_start (text_byte l.words) p (page_in l.pages.items p);
}

abbrev pub invariant-loop-q : goal.invariant-loop-q
invariant-loop-q g l = record {
  count : length l.pages.items ≡ l.text + l.q;
  words : (p : ℕ) → p < l.text → IsPageOf text_start (text_byte l.words) p (page_in l.pages.items p);
  bytes : (p : ℕ) → l.text ≤ p → p < l.text + l.q → IsPageOf data_start (data_byte l.bytes) (p - l.text) (page_in l.pages.items p);
}
