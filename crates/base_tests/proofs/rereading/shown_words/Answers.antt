use Rattle.std.proofs.Common.{◌∙◌, rules}
use Rattle.rv64_asm.proofs.Laws.{shown_gives_its_word, shown_has_no_fault}
use Rattle.base_tests.proofs.rereading.shown_words.Goals as goal

pub returns-in_err-assembly-clause-refused : goal.returns-in_err-assembly-clause-refused
returns-in_err-assembly-clause-refused g c =
    let e = shown_has_no_fault _ c.args.insn.now c.in_ok-line.ensures.rereads c.in_err-assembly.field-0.0 (rw c.as_str.ensures.value at c.in_err-assembly.ensures.refused) in
    search (rules, e)

pub returns-clause-word : goal.returns-clause-word
returns-clause-word g c =
    let a = rw c.as_str.ensures.value at c.in_ok-assembly.ensures.assembled in
    let p = shown_gives_its_word _ c.args.insn.now c.in_ok-line.ensures.rereads _ _ a in
    (p.0, c.into_parts-words.ensures.words ∙ p.1, p.2, p.3)
