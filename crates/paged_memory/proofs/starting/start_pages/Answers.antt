use Rattle.std.proofs.Common.{◌≡◌, ℕ, ◌+◌, ◌-◌, ◌≤◌, List, arith, sym, subst}
use Rattle.paged_memory.specs.Regions.{text_start, data_start}
use Rattle.paged_memory.specs.Start.{data_byte, text_byte}
use Rattle.paged_memory.specs.Pages.{PageValue}
use Rattle.paged_memory.specs.Layout.{IsPageOf}
use Rattle.paged_memory.proofs.Appended.{pages_kept, pages_more}
use Rattle.paged_memory.proofs.starting.start_pages.Goals as goal

pub loop-p-preserved : goal.loop-p-preserved
loop-p-preserved g c = record {
  count = omega (arith, c.in_ok-push.ensures.len);
  words = pages_more (IsPageOf text_start (text_byte c.args.words.now)) c.loop-p.pages.items c.push.new.self.items c.loop-p.p c.text_page.result c.in_ok-push.ensures.items c.loop-p.invariant.count c.text_page.ensures c.loop-p.invariant.words;
}

pub loop-q-init : goal.loop-q-init
loop-q-init g c = record {
  count = omega arith;
  words = λ p below. c.loop-p.invariant.words p (omega (arith, below));
  bytes = λ p from below. absurd (omega (arith, from, below));
}

pub loop-q-preserved : goal.loop-q-preserved
loop-q-preserved g c =
    let text : ℕ = c.div_ceil-text.result in
    let q : ℕ = c.loop-q.q in
    let old : List PageValue = c.loop-q.pages.items in
    let new : List PageValue = c.push-in-loop-q.new.self.items in
    let place : q ≡ text + q - text = omega arith in
    let shown : ℕ → PageValue → Type 0 = λ (p : ℕ) (page : PageValue). text ≤ p → IsPageOf data_start (data_byte c.args.bytes.now) (p - text) page in
    let here : shown (text + q) c.data_page.result = λ _. subst (λ (p : ℕ). IsPageOf data_start (data_byte c.args.bytes.now) p c.data_page.result) place c.data_page.ensures in
    record {
      count = omega (arith, c.in_ok-push-2.ensures.len);
      words = λ p below. subst (IsPageOf text_start (text_byte c.args.words.now) p) (sym (pages_kept old new c.data_page.result p c.in_ok-push-2.ensures.items (omega (arith, below)))) (c.loop-q.invariant.words p below);
      bytes = λ p from below. pages_more shown old new (text + q) c.data_page.result c.in_ok-push-2.ensures.items c.loop-q.invariant.count here (λ r within past. c.loop-q.invariant.bytes r past within) p (omega (arith, below)) from;
    }

pub returns-clause-text : goal.returns-clause-text
returns-clause-text g c = omega arith

pub returns-clause-total : goal.returns-clause-total
returns-clause-total g c = omega arith

pub returns-clause-words : goal.returns-clause-words
returns-clause-words g c = c.loop-q.invariant.words

pub returns-clause-bytes : goal.returns-clause-bytes
returns-clause-bytes g c = λ p from below. c.loop-q.invariant.bytes p from (omega (arith, below))
